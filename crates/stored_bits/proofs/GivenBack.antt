-- CLUSTERS GIVEN BACK in the stored bitmap, run by run, and taken.
use Rattle.std.proofs.Common.{◌≡◌, ◌≤◌, ℕ, Bool, true, false, List, [], ◌∷◌, ◌++◌, Some, refl, sym, ap, subst, inl, inr, ◌∙◌, arith}
use Rattle.std.specs.Prelude.{filter}
use Rattle.std.proofs.lemmas.Bool.{cases_lt}
use Rattle.ntfs_def.specs.declared.records.TheConstants.{MFT}
use Rattle.ntfs_def.specs.declared.kinds.TheConstants.{BITMAP}
use Rattle.ntfs_def.specs.declared.run_text.Run.{Run}
use Rattle.list_laws.proofs.SameItemsLaws.{count-append}
use Rattle.volume_def.specs.Coverage.{has_cluster, times_covered}
use Rattle.volume_def.specs.Files.{is_of, parts, records_of}
use Rattle.volume_def.specs.OwnersClause.{times_owned}
use Rattle.volume_def.specs.Values.{spot_at}
use Rattle.volume_def.specs.View.{VolumeView}
use Rattle.edit_def.specs.Kept.{Key}
use Rattle.record_edits.specs.Given.{GivesBack, TakesRuns}
use Rattle.record_edits.specs.InPlace.{IsUnnamed, WritesInPlace, is_bits_key}
use Rattle.record_edits.proofs.PlaceEdits as place
use Rattle.stored_bits.specs.PutFlags.{HasOwnBits, PutsFlags}
use Rattle.stored_bits.proofs.BitsStill.{bits-in-place, value-still}
use Rattle.stored_bits.proofs.RunTimes.{run-beside, run-within}

-- WRITES IN PLACE one behind the other
pub WritesInPlace-then : (changed : Key → Bool) (a b c : VolumeView) → WritesInPlace changed a b → WritesInPlace changed b c
    → WritesInPlace changed a c
WritesInPlace-then changed a b c v w = record {
  told = w.told ∙ v.told;
  layout = w.layout ∙ v.layout;
  blocks = λ n. w.blocks n ∙ v.blocks n;
  copies = λ m low. w.copies m low ∙ v.copies m low;
  rest = λ k. w.rest k ∙ v.rest k;
  clusters = λ k owned free.
      let same : records_of b ≡ records_of a = place.same changed a b v in
      w.clusters k (subst (λ rs. 1 ≤ times_owned rs k) (sym same) owned) (still k same free) ∙ v.clusters k owned free;
}
  where
    still : (k : ℕ) → records_of b ≡ records_of a → IsUnnamed changed a k → IsUnnamed changed b k
    still k same free f kind name named vcn here =
        free f kind name named vcn (sym (ap (λ rs. spot_at (filter (is_of kind name) (parts rs f)) vcn) same) ∙ here)

-- NONE
pub gives-none : (view : VolumeView) (runs : List Run) → ((c : ℕ) → times_covered runs c ≡ 0) → GivesBack view view runs
gives-none view runs none = record {
  writes = record {
    told = refl;
    layout = refl;
    blocks = λ n. refl;
    copies = λ m low. refl;
    rest = λ k. refl;
    clusters = λ c owned free. refl;
  };
  given = λ c some. absurd (omega (arith, some, none c));
  others = λ c beside. refl;
  records = refl;
}

-- ONE RUN
pub gives-one : (old new : VolumeView) (h : HasOwnBits old) (at : ℕ) (run : Run) → run.lcn ≡ Some at → PutsFlags false old new at run.len
    → GivesBack old new (run ∷ [])
gives-one old new h at run is s = record {
  writes = bits-in-place false old new h at run.len s;
  given = λ c some. let its = run-within run at c is some in s.here c its.0 its.1;
  others = λ c none. s.others c (run-beside run at c is none);
  records = value-still false old new h at run.len s MFT BITMAP [] (λ e. absurd (omega (arith, e)));
}

-- .. taken
pub takes-one : (old new : VolumeView) (h : HasOwnBits old) (at : ℕ) (run : Run) → run.lcn ≡ Some at → PutsFlags true old new at run.len
    → TakesRuns old new (run ∷ [])
takes-one old new h at run is s = record {
  writes = bits-in-place true old new h at run.len s;
  taken = λ c some. let its = run-within run at c is some in s.here c its.0 its.1;
  others = λ c none. s.others c (run-beside run at c is none);
  records = value-still true old new h at run.len s MFT BITMAP [] (λ e. absurd (omega (arith, e)));
}

-- FURTHER RUNS
pub gives-then : (a b c : VolumeView) (xs ys : List Run) → GivesBack a b xs → GivesBack b c ys → GivesBack a c (xs ++ ys)
gives-then a b c xs ys first second = record {
  writes = WritesInPlace-then is_bits_key a b c first.writes second.writes;
  given = λ k some.
      let all = count-append (has_cluster k) xs ys in
      elim (cases_lt 0 (times_covered ys k)) [
        | inl has ↦ second.given k (omega (arith, has))
        | inr none ↦ second.others k (omega (arith, none)) ∙ first.given k (omega (arith, none, all, some))
      ];
  others = λ k none.
      let all = count-append (has_cluster k) xs ys in
      second.others k (omega (arith, all, none)) ∙ first.others k (omega (arith, all, none));
  records = second.records ∙ first.records;
}
