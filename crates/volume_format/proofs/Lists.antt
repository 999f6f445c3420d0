-- The clause on attribute lists holds of a new volume: it has none, and no extension record.
use Rattle.std.proofs.Common.{◌≡◌, ℕ, ◌+◌, Bool, cond, List, [], ◌∷◌, Option, Some, None, refl, sym, ap, subst, ◌∙◌, arith}
use Rattle.std.specs.Prelude.{IfSome, IsTrue}
use Rattle.std.specs.List.{AllByRecursion, count_by}
use Rattle.std.proofs.lemmas.List.Elements.{All-from_recursion}
use Rattle.std.proofs.lemmas.List.Sums.{sum_by-cons}
use Rattle.volume_def.specs.Files.{Part, Record, file_of, is_base, parts, record_on, records_of}
use Rattle.volume_def.specs.ListsClause.{HasRightList, IsAlone, IsRightList, MeetsLists, is_list}
use Rattle.volume_def.specs.View.{VolumeView}
use Rattle.volume_format.specs.Plan.{Plan, record_in_list, record_list}
use Rattle.volume_format.specs.Planned.{IsPlanned}
use Rattle.volume_format.proofs.Bases.{AllBase-planned, parts-listed}
use Rattle.volume_format.proofs.EachRecord.{EachRecord, at-listed}
use Rattle.volume_format.proofs.Listed.{IfSome-from}
use Rattle.volume_format.proofs.PartsOf.{file_of-base}
use Rattle.volume_format.proofs.Records.{record_on-planned, records_of-planned}

-- no part of a record is a list
abbrev HasNoList : ℕ → Record → Type 0
HasNoList n r = count_by is_list r.parts ≡ 0

abbrev one_if : Bool → ℕ
one_if b = cond b 1 0

-- of parts that are no lists nothing is asked
not_asked : (view : VolumeView) (f : ℕ) (all some : List Part) → count_by is_list some ≡ 0
    → AllByRecursion (λ part. IsTrue (is_list part) → IsRightList view f all part) some
not_asked view f all [] none = tt
not_asked view f all (a ∷ rest) none =
    let sum : count_by is_list (a ∷ rest) ≡ one_if (is_list a) + count_by is_list rest =
    sum_by-cons (λ (q : Part). cond (is_list q) 1 0) a rest in
    ((λ t. absurd (omega (arith, none, sum, ap (λ b. one_if b) t))), not_asked view f all rest (omega (arith, none, sum)))

module _ (p : Plan) (view : VolumeView) (is : IsPlanned p view) where
  alone_in : (f m : ℕ) (o : Option Record) → record_on view m ≡ o → IfSome o (λ r. r.header.base ≡ None)
      → IfSome (record_on view m) (λ r. file_of m r ≡ f → m ≡ f)
  alone_in f m None is_none base = rw is_none tt
  alone_in f m (Some r) is_some base = rw is_some (λ same. sym (file_of-base m r base) ∙ same)

  alone : (f : ℕ) → IsAlone view f
  alone f m = alone_in f m (record_in_list (record_list p) m) (record_on-planned p view is m) (AllBase-planned p m)

  HasRightList-planned : (f : ℕ) (r : Record) → count_by is_list r.parts ≡ 0 → HasRightList view f r.parts
  HasRightList-planned f r none = record {
    few = omega (arith, none);
    each = All-from_recursion (λ part. IsTrue (is_list part) → IsRightList view f r.parts part) r.parts
        (not_asked view f r.parts r.parts none);
    alone = λ zero_lists. alone f;
  }

  no-lists : EachRecord HasNoList p
  no-lists = record {
    n0 = refl;
    n1 = refl;
    n2 = refl;
    n3 = refl;
    n4 = refl;
    n5 = refl;
    n6 = refl;
    n7 = refl;
    n8 = refl;
    n9 = refl;
    n10 = refl;
    n11 = refl;
    n24 = refl;
    n25 = refl;
  }

  parts-view : (f : ℕ) (r : Record) → record_in_list (record_list p) f ≡ Some r → parts (records_of view) f ≡ r.parts
  parts-view f r e = ap (λ records. parts records f) (records_of-planned p view is) ∙ parts-listed p f r e

  pub MeetsLists-planned : (f : ℕ) → MeetsLists view f
  MeetsLists-planned f = rw (record_on-planned p view is f)
      (IfSome-from (record_in_list (record_list p) f) (λ r. IsTrue (is_base r) → HasRightList view f (parts (records_of view) f))
      (λ r e base.
      subst (HasRightList view f) (sym (parts-view f r e)) (HasRightList-planned f r (at-listed HasNoList p no-lists f r e))))
