-- CLUSTERS GIVEN BACK in the stored bitmap, which attributes own, or taken, which none owns: a flush, which leaves the records, and the
-- bits that stand for nothing.
use Rattle.std.proofs.Common.{◌≡◌, ◌<◌, ◌≤◌, ℕ, Bool, false, List, [], ap, refl, sym, inl, inr, ◌∙◌, arith}
use Rattle.std.proofs.lemmas.Bool.{cases_eq}
use Rattle.list_laws.specs.Bits.{bit_in}
use Rattle.ntfs_def.specs.declared.run_text.Run.{Run}
use Rattle.volume_def.specs.Coverage.{times_covered}
use Rattle.volume_def.specs.Files.{records_of}
use Rattle.volume_def.specs.View.{VolumeView}
use Rattle.edit_def.specs.Account.{nothing}
use Rattle.edit_def.specs.Edited.{Edited}
use Rattle.edit_def.specs.Kept.{Key}
use Rattle.edit_def.specs.Marks.{Marks}
use Rattle.edit_def.specs.Places.{KeepsBits}
use Rattle.record_edits.specs.Between.{IsReady}
use Rattle.record_edits.specs.Given.{AreOwned, GivesBack, TakesRuns}
use Rattle.record_edits.specs.InPlace.{WritesInPlace, is_bits_key}
use Rattle.record_edits.proofs.FlushLaws.{edited-flush, ready-flush}
use Rattle.record_edits.proofs.PlaceEdits.{same}

-- NOTHING was written, given back, or taken.
pub nothing-written : (changed : Key → Bool) (view : VolumeView) → WritesInPlace changed view view
nothing-written changed view = record {
  told = refl;
  layout = refl;
  blocks = λ n. refl;
  copies = λ m low. refl;
  rest = λ k. refl;
  clusters = λ c owned free. refl;
}

pub none-covered : (c : ℕ) → 1 ≤ times_covered [] c → ⊥
none-covered c some = let none : times_covered [] c ≡ 0 = refl in absurd (omega (arith, some, none))

pub nothing-given : (view : VolumeView) → GivesBack view view []
nothing-given view = record {
  writes = nothing-written is_bits_key view;
  given = λ c some. absurd (none-covered c some);
  others = λ c none. refl;
  records = refl;
}

pub nothing-taken : (view : VolumeView) → TakesRuns view view []
nothing-taken view = record {
  writes = nothing-written is_bits_key view;
  taken = λ c some. absurd (none-covered c some);
  others = λ c none. refl;
  records = refl;
}

module _ (old new : VolumeView) (given : List Run) (gives : GivesBack old new given) where
  pub records-same : records_of new ≡ records_of old
  records-same = same is_bits_key old new gives.writes

  module _ (marks : Marks) (ready : IsReady old marks) (owned : AreOwned old given) where
    -- no cluster past the last one was given back
    past-end : (n : ℕ) → old.layout.clusters ≤ n → times_covered given n ≡ 0
    past-end n behind = omega (arith, owned n, (ready.editable.owners n).inside behind)

    kept : KeepsBits old new
    kept = record {
      system = λ n low. ap (λ (value : List ℕ). bit_in value n) gives.records;
      past = λ n behind set. sym (ap (λ (value : List ℕ). bit_in value n) gives.records) ∙ set;
      clusters = λ n behind. gives.others n (past-end n behind);
    }

    pub edited : Edited (λ key. false) nothing old new marks marks
    edited = edited-flush old new gives.writes kept marks ready

    pub ready-back : IsReady new marks
    ready-back = ready-flush old new gives.writes kept marks ready

module _ (old new : VolumeView) (taken : List Run) (takes : TakesRuns old new taken) (marks : Marks) (ready : IsReady old marks)
    (inside : (c : ℕ) → 1 ≤ times_covered taken c → c < old.layout.clusters) where
  -- none past the last one was taken
  none-past : (n : ℕ) → old.layout.clusters ≤ n → times_covered taken n ≡ 0
  none-past n behind = elim (cases_eq (times_covered taken n) 0) [
    | inl none ↦ none
    | inr some ↦ let low = inside n (omega (arith, some)) in absurd (omega (arith, low, behind))
  ]

  kept-taken : KeepsBits old new
  kept-taken = record {
    system = λ n low. ap (λ (value : List ℕ). bit_in value n) takes.records;
    past = λ n behind set. sym (ap (λ (value : List ℕ). bit_in value n) takes.records) ∙ set;
    clusters = λ n behind. takes.others n (none-past n behind);
  }

  pub edited-taken : Edited (λ key. false) nothing old new marks marks
  edited-taken = edited-flush old new takes.writes kept-taken marks ready

  pub ready-taken : IsReady new marks
  ready-taken = ready-flush old new takes.writes kept-taken marks ready
