-- THE STORED BITS AND THE TABLE OF CASE stay, where attributes were rewritten that are none of theirs.
use Rattle.std.proofs.Common.{◌≡◌, ◌≢◌, ◌==◌, ◌&&◌, ℕ, Bool, false, List, [], refl, sym, ap, inl, inr, ◌∙◌, arith}
use Rattle.std.specs.Prelude.{◌⊎◌}
use Rattle.std.specs.Str.{bytes_eq}
use Rattle.std.proofs.lemmas.Bool.{and_left, and_right, ne_eqb}
use Rattle.list_laws.specs.Bits.{flags_in}
use Rattle.ntfs_def.specs.declared.kinds.TheConstants.{BITMAP, DATA, STANDARD_INFORMATION}
use Rattle.ntfs_def.specs.declared.records.TheConstants.{CLUSTER_BITMAP, MFT, MFT_MIRROR, UPCASE}
use Rattle.volume_def.specs.BitmapClauses.{cluster_bits, record_bits}
use Rattle.volume_def.specs.FileNames.{names_of}
use Rattle.volume_def.specs.Files.{parts_at, records_of}
use Rattle.volume_def.specs.Table.{TableLayout}
use Rattle.volume_def.specs.Values.{value_on}
use Rattle.volume_def.specs.View.{VolumeView}
use Rattle.edit_def.specs.Kept.{Key, either, key_of, same_key}
use Rattle.mft_table.specs.HeldTables.{AreStored}
use Rattle.attribute_edits.specs.Below.{SetsAttributes}
use Rattle.stream_overwrites.specs.Below.{LiesApart, Rewrites}
use Rattle.stream_overwrites.proofs.Below.{Rewrites-then, clusters-kept, value-other}
use Rattle.attribute_edits.specs.Attributes.{dirs_of, is_told_key}
use Rattle.attribute_edits.proofs.ChainLaws.{chain-rewrites}
use Rattle.attribute_edits.proofs.StandardFirst.{set-rewrites}

-- a stream of one file is none of another
pub other-file : (f : ℕ) (name : List ℕ) (g : ℕ) → f ≢ g → same_key (key_of f DATA name) (key_of g DATA []) ≡ false
other-file f name g ne = and_right (DATA == DATA) ((f == g) && bytes_eq name []) (and_left (f == g) (bytes_eq name []) (ne_eqb f g ne))

module _ (changed : Key → Bool) (old new : VolumeView) (w : Rewrites changed old new) (apart : LiesApart old)
    (bits_free : changed (key_of CLUSTER_BITMAP DATA []) ≡ false) (records_free : changed (key_of MFT BITMAP []) ≡ false)
    (case_free : changed (key_of UPCASE DATA []) ≡ false) where
  same-value : (g kind : ℕ) → changed (key_of g kind []) ≡ false → (kind ≢ DATA) ⊎ ((g ≢ MFT) × (g ≢ MFT_MIRROR))
      → value_on new (parts_at new g kind []) ≡ value_on old (parts_at old g kind [])
  same-value g kind free which =
      value-other changed old new w g kind [] free (clusters-kept changed old new w apart.owners apart.some g kind [] free which)

  pub stored-still : (clusters records : List Bool) (upcase : List ℕ) → AreStored old clusters records upcase
      → AreStored new clusters records upcase
  stored-still clusters records upcase stored =
      let bits : value_on new (cluster_bits new) ≡ value_on old (cluster_bits old) =
      same-value CLUSTER_BITMAP DATA bits_free (inr ((λ e. absurd (omega (arith, e))), (λ e. absurd (omega (arith, e))))) in
      let used : value_on new (record_bits new) ≡ value_on old (record_bits old) =
      same-value MFT BITMAP records_free (inl (λ e. absurd (omega (arith, e)))) in
      record {
        clusters_are = stored.clusters_are
            ∙ sym (ap (flags_in (value_on new (cluster_bits new))) (ap (λ (l : TableLayout). l.clusters) w.layout)
            ∙ ap (λ value. flags_in value old.layout.clusters) bits);
        records_are = stored.records_are
            ∙ sym (ap (flags_in (value_on new (record_bits new))) (ap (λ (l : TableLayout). l.count) w.layout)
            ∙ ap (λ value. flags_in value old.layout.count) used);
        upcase_is = stored.upcase_is
            ∙ sym (same-value UPCASE DATA case_free (inr ((λ e. absurd (omega (arith, e))), (λ e. absurd (omega (arith, e))))));
      }

-- .. as where the attributes of a file were set
pub stored-set : (old new : VolumeView) (f : ℕ) (times : List ℕ) (flags : ℕ) → SetsAttributes old new f times flags → LiesApart old
    → (clusters records : List Bool) (upcase : List ℕ) → AreStored old clusters records upcase → AreStored new clusters records upcase
stored-set old new f times flags s apart =
    let first : Key → Bool = same_key (key_of f STANDARD_INFORMATION []) in
    let names = names_of (records_of s.mid) f in
    stored-still (either first (is_told_key (dirs_of names))) old new
    (Rewrites-then first (is_told_key (dirs_of names)) old s.mid new (set-rewrites old s.mid f times flags s.sets)
    (chain-rewrites s.told names s.mid new s.refreshes)) apart refl refl refl
