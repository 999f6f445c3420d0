-- WHAT THE KEYS OF ENTRIES TELL where one was refreshed: it tells what its file does, and keeps what the tree does not show; all entries
-- that told what their file does tell it still.
use Rattle.std.proofs.Common.{◌≡◌, ◌+◌, ℕ, List, [], drop, length-drop, Option, refl, sym, ap, inl, inr, ◌∙◌, arith}
use Rattle.std.specs.Prelude.{bit_and, bit_or, option_and_then, unwrap_or}
use Rattle.std.specs.Int.Bits.{and_zero_r}
use Rattle.std.proofs.lemmas.List.{ext_get_or, get_or-drop}
use Rattle.std.proofs.lemmas.Nat.{and_assoc, and_or_apart, or_comm}
use Rattle.vol_bytes.specs.Field.{u32_at, u64_at}
use Rattle.vol_bytes.proofs.FieldLaws.{u32_at-same}
use Rattle.ntfs_def.specs.StandardInformation.{dos_flags, standard_times}
use Rattle.ntfs_def.specs.declared.kinds.TheConstants.{DATA, STANDARD_INFORMATION}
use Rattle.volume_def.specs.Files.{Part, content_value, is_of, parts, parts_at, records_of}
use Rattle.volume_def.specs.Values.{first_part}
use Rattle.volume_def.specs.View.{VolumeView}
use Rattle.dir_index.specs.Reading.{standard_flags, standard_of}
use Rattle.dir_index.specs.tree.TheConstants.{SHOWN_FLAGS}
use Rattle.volume_mark.specs.Items.{IsCurrent, stream_sizes}
use Rattle.volume_mark.specs.Indexes.{KeepsRest}
use Rattle.volume_mark.specs.Kept.{other_flags}
use Rattle.volume_mark.proofs.ReadingKept.{find-passing}
use Rattle.dir_index.specs.Refreshed.{RefreshesEntry, TellsFile}
use Rattle.dir_index.specs.Standard.{hidden_flags}
use Rattle.dir_index.specs.declared.entry.DuplicatedInformation.{DuplicatedInformation}
use Rattle.entry_edits.specs.Refreshable.{IsRefreshable}
use Rattle.entry_edits.specs.Told.{IsToldOf}
use Rattle.entry_edits.proofs.RefreshedVolume as volume

-- FLAGS. Of those that a key has and those that it is told, the ones that are shown are these ..
pub shown-told : (was told : ℕ) → bit_and (bit_or (bit_and was hidden_flags) told) SHOWN_FLAGS ≡ bit_and told SHOWN_FLAGS
shown-told was told =
    ap (λ n. bit_and n SHOWN_FLAGS) (or_comm (bit_and was hidden_flags) told)
    ∙ and_or_apart SHOWN_FLAGS told (bit_and was hidden_flags) (and_assoc SHOWN_FLAGS was hidden_flags ∙ and_zero_r was)

-- .. and all others those
pub others-kept : (mask was told : ℕ) → bit_and hidden_flags mask ≡ mask → bit_and SHOWN_FLAGS mask ≡ 0 → bit_and told SHOWN_FLAGS ≡ told
    → bit_and (bit_or (bit_and was hidden_flags) told) mask ≡ bit_and was mask
others-kept mask was told inside apart shown =
    and_or_apart mask (bit_and was hidden_flags) told
    (ap (λ n. bit_and n mask) (sym shown) ∙ and_assoc mask told SHOWN_FLAGS ∙ ap (bit_and told) apart ∙ and_zero_r told)
    ∙ and_assoc mask was hidden_flags ∙ ap (bit_and was) inside

-- THE KEY keeps what the tree does not show.
pub rest-kept : (new : VolumeView) (f : ℕ) (told : DuplicatedInformation) (was now : List ℕ) → TellsFile told was now
    → bit_and told.flags SHOWN_FLAGS ≡ told.flags → KeepsRest new f was now
rest-kept new f told was now t shown = record {
  flags = ap other_flags t.flags_are ∙ others-kept 0xFFFFC8D8 (u32_at was 0x38) told.flags refl refl shown;
  marks = inl (ap (λ n. bit_and n 0x600) t.flags_are ∙ others-kept 0x600 (u32_at was 0x38) told.flags refl refl shown);
  last = u32_at-same was now 0x3C (λ k from to. t.others k (inr from));
  name = ext_get_or 0 (drop 0x40 now) (drop 0x40 was)
      (let a = length-drop 0x40 now in let b = length-drop 0x40 was in let l = t.long in omega (arith, a, b, l))
      (λ k inside. get_or-drop 0x40 now k 0 ∙ t.others (0x40 + k) (inr (omega arith)) ∙ sym (get_or-drop 0x40 was k 0));
}

module _ (old new : VolumeView) (dir : ℕ) (units : List ℕ) (told : DuplicatedInformation) (r : RefreshesEntry old new dir units told)
    (c : IsRefreshable old dir) where
  pub standard-same : (f : ℕ) → standard_of (parts (records_of new) f) ≡ standard_of (parts (records_of old) f)
  standard-same f =
      ap (λ (o : Option Part). unwrap_or (option_and_then (λ (part : Part). content_value part.content) o) [])
      (find-passing (is_of STANDARD_INFORMATION []) (parts (records_of new) f) (parts (records_of old) f)
      (volume.parts-same old new dir units told r c f STANDARD_INFORMATION [] refl))

  pub first-same : (f : ℕ) → first_part (parts_at new f DATA []) ≡ first_part (parts_at old f DATA [])
  first-same f = ap first_part (volume.parts-same old new dir units told r c f DATA [] refl)

  -- an entry that told what its file does tells it still
  pub current-stays : (f : ℕ) (key : List ℕ) → IsCurrent old f key → IsCurrent new f key
  current-stays f key is = record {
    times = is.times ∙ sym (ap standard_times (standard-same f));
    flags = is.flags ∙ sym (ap standard_flags (standard-same f));
    sizes = is.sizes ∙ sym (ap stream_sizes (first-same f));
  }

  -- and the one that was refreshed tells it
  pub current-now : (f : ℕ) → IsToldOf old f told → IsCurrent new f r.now.key
  current-now f is =
      let t = r.refreshes.key in
      let s = standard_of (parts (records_of old) f) in
      let flags : bit_and (u32_at r.now.key 0x38) SHOWN_FLAGS ≡ standard_flags s =
      ap (λ n. bit_and n SHOWN_FLAGS) t.flags_are ∙ shown-told (u32_at r.was.key 0x38) told.flags
      ∙ ap (λ n. bit_and n SHOWN_FLAGS) is.flags ∙ and_assoc SHOWN_FLAGS (dos_flags s) SHOWN_FLAGS in
      let sizes : ◌≡◌ {A = ℕ × ℕ} (u64_at r.now.key 0x28, u64_at r.now.key 0x30) (told.allocated, told.real) =
      λ i. (t.allocated_is i, t.real_is i) in
      record {
        times = t.times_are ∙ is.times ∙ sym (ap standard_times (standard-same f));
        flags = flags ∙ sym (ap standard_flags (standard-same f));
        sizes = sizes ∙ is.sizes ∙ sym (ap stream_sizes (first-same f));
      }
