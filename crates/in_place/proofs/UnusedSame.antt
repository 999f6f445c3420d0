-- RECORDS: those of other files and those that are not in use are not written, and headers stay.
use Rattle.std.proofs.Common.{◌≡◌, ◌%◌, ◌<◌, ◌≤◌, ◌==◌, ℕ, Bool, true, false, cond, List, codes, Option, Some, None, inl, inr}
use Rattle.std.proofs.Common.{refl, sym, ap, subst, ◌∙◌, arith}
use Rattle.std.proofs.lemmas.Bool.{and_parts, lt-ltb}
use Rattle.std.specs.List.{starts_with}
use Rattle.std.specs.Option.{option_map}
use Rattle.std.specs.Prelude.{is_some, nat_eq}
use Rattle.ntfs_def.specs.Fixup.{opened_of}
use Rattle.ntfs_def.specs.Record.{Header, header_of, is_in_use, record_flags, sequence_of}
use Rattle.volume_def.specs.Files.{Record, file_of, record_in, record_of, record_on}
use Rattle.volume_def.specs.View.{VolumeView}
use Rattle.volume_def.proofs.PartLaws.{record_at-block}
use Rattle.session_def.specs.EditDefKept.{Key, key_of}
use Rattle.volume_def.specs.Freed.{stored_sequence}
use Rattle.session_def.specs.Unused.{KeepsHeader, KeepsUnused}
use Rattle.session_def.specs.Room.{KeepsBlocks, KeepsCopies, is_written_file}
use Rattle.in_place.specs.Blank.{blank_record}
use Rattle.in_place.specs.InPlace.{KeepsBlock, Rewrites, RewritesBlock, file_in}
use Rattle.in_place.proofs.RoomSame.{used-same}
use Rattle.in_place.proofs.SameRecords.{in-use, on-same}

never : {b : Bool} → b ≡ true → b ≡ false → ⊥
never x y = cc

-- the number of a block that is in use
sequence-used : (stored : List ℕ) → is_in_use stored ≡ true → stored_sequence stored ≡ (header_of (opened_of stored)).sequence
unfolding header_of
sequence-used stored used =
    ap (λ b. cond b (sequence_of (opened_of stored)) 0) (and_parts (starts_with nat_eq stored (codes "FILE"))
    (record_flags stored % 2 == 1) used).0

same-header : (a b : Header) → a ≡ b → KeepsHeader b a
same-header a b e = subst (λ h. KeepsHeader b h) (sym e) (record { flags = refl; number = refl; next_id = omega arith })

module _ (changed : Key → Bool) (old new : VolumeView) (w : Rewrites changed old new) where
  on-inside : (view : VolumeView) (n : ℕ) → n < view.layout.count → record_on view n ≡ record_in n (view.block n)
  on-inside view n inside = ap (λ b. cond b (record_in n (view.block n)) None) (lt-ltb n view.layout.count inside)

  -- a block that was rewritten is of a record in use
  rewritten-used : (n : ℕ) → n < old.layout.count → RewritesBlock changed n (old.block n) (new.block n) → is_some (record_on old n) ≡ true
  rewritten-used n inside r = ap is_some (on-inside old n inside ∙ in-use n (old.block n) r.used)

  pub header-same : (n : ℕ) (was now : Record) → record_on old n ≡ Some was → record_on new n ≡ Some now → now.header ≡ was.header
  header-same n was now at bt =
      let e : ◌≡◌ {A = Option Record} (Some (blank_record now)) (Some (blank_record was)) =
      sym (ap (option_map blank_record) bt) ∙ on-same changed old new w n ∙ ap (option_map blank_record) at in
      ap (λ (r : Record). r.header) (some-record (blank_record now) (blank_record was) e)
    where
      some-record : (a b : Record) → ◌≡◌ {A = Option Record} (Some a) (Some b) → a ≡ b
      some-record a b e = cc

  -- RECORDS NOT IN USE, and headers
  pub unused-kept : KeepsUnused old new
  unused-kept = record {
    idle = λ n inside was now. elim (w.blocks n) [
      | inl kept ↦ kept.block
      | inr r ↦ absurd (never (rewritten-used n inside r) (ap is_some was))
    ];
    freed = λ n inside was now. absurd (never (used-same changed old new w n ∙ was) (ap is_some now));
    taken = λ n inside was now. absurd (never (sym (used-same changed old new w n) ∙ now) (ap is_some was));
    stays = λ n inside was now. inl (stays n);
    headers = λ n was now at bt file number. same-header now.header was.header (header-same n was now at bt);
    comes = λ n now at bt. absurd (never (sym (used-same changed old new w n) ∙ ap is_some bt) (ap is_some at));
  }
    where
      stays : (n : ℕ) → stored_sequence (new.block n) ≡ stored_sequence (old.block n)
      stays n = elim (w.blocks n) [
        | inl kept ↦ ap stored_sequence kept.block
        | inr r ↦ sequence-used (new.block n) r.used_still ∙ ap (λ (h : Header). h.sequence) r.header
            ∙ sym (sequence-used (old.block n) r.used)
      ]

  -- A BLOCK that holds no record of a file of which an attribute is named
  pub block-kept : (n : ℕ) (r : Record) → record_on old n ≡ Some r → ((kind : ℕ) (name : List ℕ)
      → changed (key_of (file_of n r) kind name) ≡ false)
      → KeepsBlock old new n
  block-kept n r at free = elim (w.blocks n) [
    | inl kept ↦ kept
    | inr x ↦
        let file : file_of n r ≡ file_in n (old.block n) = ap (file_of n) (sym (record_at-block old n r at)) in
        absurd (never x.named (ap (λ f. changed (key_of f x.kind x.name)) (sym file) ∙ free x.kind x.name))
  ]

  pub blocks-kept : (files : ℕ → Bool) → ((f : ℕ) → is_written_file files f ≡ false → (kind : ℕ) (name : List ℕ)
      → changed (key_of f kind name) ≡ false)
      → KeepsBlocks files old new
  blocks-kept files free n r at other = (block-kept n r at (free (file_of n r) other)).block

  -- RECORDS 0 TO 3, which have copies, where they hold no record of a file of which an attribute is named
  pub firsts-kept : 4 ≤ old.layout.count → ((n : ℕ) (r : Record) → n < 4 → record_on old n ≡ Some r → (kind : ℕ) (name : List ℕ)
      → changed (key_of (file_of n r) kind name) ≡ false) → (n : ℕ) → n < 4 → KeepsBlock old new n
  firsts-kept many free n few = elim (w.blocks n) [
    | inl kept ↦ kept
    | inr x ↦
        let at = on-inside old n (omega (arith, few, many)) ∙ in-use n (old.block n) x.used in
        absurd (never x.named (free n (record_of n (opened_of (old.block n))) few at x.kind x.name))
  ]

  pub copies-kept : 4 ≤ old.layout.count → ((n : ℕ) (r : Record) → n < 4 → record_on old n ≡ Some r → (kind : ℕ) (name : List ℕ)
      → changed (key_of (file_of n r) kind name) ≡ false) → KeepsCopies old new
  copies-kept many free n few same = (firsts-kept many free n few).copy few
