-- THE FIRST RECORDS, which have copies, each belong to the file of their number: where none of its attributes is named, neither the record
-- nor its copy was written.
use Rattle.std.proofs.Common.{◌≡◌, ◌<◌, ℕ, Bool, true, false, cond, ltb, Some, None, inl, inr, refl, subst, ap, ◌∙◌, arith}
use Rattle.std.proofs.lemmas.Bool.{both_ways, lt-ltb, ltb-true}
use Rattle.std.specs.Prelude.{IsSomeAnd, IsTrue}
use Rattle.ntfs_def.specs.Fixup.{opened_of}
use Rattle.ntfs_def.specs.declared.records.TheConstants.{ROOT}
use Rattle.volume_def.specs.Files.{Record, is_base, is_directory, record_in, record_of, record_on}
use Rattle.volume_def.specs.Sound.{IsSound, Links}
use Rattle.volume_def.specs.View.{VolumeView}
use Rattle.edit_def.specs.Kept.{Key, key_of}
use Rattle.value_owed.specs.InPlace.{KeepsBlock, Rewrites, RewritesBlock}
use Rattle.value_owed.specs.Unnamed.{NamesNoneOf}
use Rattle.value_owed.proofs.SameRecords.{in-use}
use Rattle.value_owed.proofs.RecordsOwed.{first-own}

-- the root directory has a record, so the table has the first ones
pub root-inside : (view : VolumeView) → IsSound view → ROOT < view.layout.count
root-inside view sound = by (ltb ROOT view.layout.count) refl ((sound Links ROOT).root refl)
  where
    by : (b : Bool) → ltb ROOT view.layout.count ≡ b
        → IsSomeAnd (cond b (record_in ROOT (view.block ROOT)) None) (λ (r : Record). IsTrue (is_base r) × IsTrue (is_directory r))
        → ROOT < view.layout.count
    by true e there = ltb-true ROOT view.layout.count e
    by false e there = absurd there

pub first-kept : (changed : Key → Bool) (old new : VolumeView) → Rewrites changed old new → IsSound old → (n : ℕ) → n < 4
    → NamesNoneOf changed n → KeepsBlock old new n
first-kept changed old new w sound n few free = elim (w.blocks n) [
  | inl kept ↦ kept
  | inr written ↦ absurd (none written)
]
  where
    none : RewritesBlock changed n (old.block n) (new.block n) → ⊥
    none x =
        let many = root-inside old sound in
        let r = record_of n (opened_of (old.block n)) in
        let there : record_on old n ≡ Some r =
        ap (λ b. cond b (record_in n (old.block n)) None) (lt-ltb n old.layout.count (omega (arith, few, many)))
        ∙ in-use n (old.block n) x.used in
        let its = first-own old sound n r few there in
        both_ways (changed (key_of n x.kind x.name)) (free x.kind x.name)
        (subst (λ f. changed (key_of f x.kind x.name) ≡ true) its x.named)
