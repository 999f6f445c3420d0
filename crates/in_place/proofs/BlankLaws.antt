-- WHAT RECORDS SAY without the bytes of their values: parts, where streams lie, owners, room and numbers.
use Rattle.std.proofs.Common.{◌≡◌, ◌+◌, ◌==◌, ℕ, Bool, true, false, cond, List, [], ◌∷◌, ◌++◌, Option, Some, None, filter, map}
use Rattle.std.proofs.Common.{refl, sym, ap, ◌∙◌}
use mathlib.Core.Path.{fun_ext}
use Rattle.std.proofs.lemmas.List.{map-append}
use Rattle.std.proofs.lemmas.List.Elements.{filter-append}
use Rattle.std.proofs.lemmas.List.Sums.{sum_by-cons}
use Rattle.std.specs.List.{find, flat_map, range_with_len}
use Rattle.std.specs.Option.{option_map}
use Rattle.std.specs.Prelude.{sum_by, unwrap_or}
use Rattle.volume_def.specs.Files.{Clusters, Content, Part, Record, Records, Value, content_runs, file_of, part_runs, parts, parts_in}
use Rattle.volume_def.specs.Files.{joined_runs}
use Rattle.volume_def.specs.OwnersClause.{all_runs, record_runs, times_owned}
use Rattle.volume_def.specs.Coverage.{times_covered}
use Rattle.volume_def.specs.Values.{first_part, first_vcn_of, holds_vcn, is_first, spot_at, spot_by}
use Rattle.list_laws.proofs.FindLaws.{find-agree, find-map}
use Rattle.list_laws.proofs.MemberLaws.{filter-map}
use Rattle.in_place.specs.Blank.{blank_content, blank_part, blank_record, blanked}

-- OF LISTS: what all items keep, their sums keep.
pub map-flat_map : {A B C : Type 0} (g : B → C) (f : A → List B) (xs : List A) → map g (flat_map f xs) ≡ flat_map (λ x. map g (f x)) xs
map-flat_map g f [] = refl
map-flat_map g f (x ∷ xs) = map-append g (f x) (flat_map f xs) ∙ ap (λ l. map g (f x) ++ l) (map-flat_map g f xs)

pub filter-flat_map : {A B : Type 0} (p : B → Bool) (f : A → List B) (xs : List A)
    → filter p (flat_map f xs) ≡ flat_map (λ x. filter p (f x)) xs
filter-flat_map p f [] = refl
filter-flat_map p f (x ∷ xs) = filter-append p (f x) (flat_map f xs) ∙ ap (λ l. filter p (f x) ++ l) (filter-flat_map p f xs)

pub sum-map : {A : Type 0} (g : A → A) (f : A → ℕ) → ((x : A) → f (g x) ≡ f x) → (xs : List A) → sum_by f (map g xs) ≡ sum_by f xs
sum-map g f same [] = refl
sum-map g f same (x ∷ xs) =
    sum_by-cons f (g x) (map g xs) ∙ ap (λ n. n + sum_by f (map g xs)) (same x) ∙ ap (λ n. f x + n) (sum-map g f same xs)
    ∙ sym (sum_by-cons f x xs)

-- OF ONE PART.
pub blank-vcn : (content : Content) → first_vcn_of (blank_content content) ≡ first_vcn_of content
blank-vcn (Value value) = refl
blank-vcn (Clusters extent runs) = refl

pub blank-runs : (part : Part) → part_runs (blank_part part) ≡ part_runs part
blank-runs part = ap (λ runs. unwrap_or runs []) (by part.content)
  where
    by : (content : Content) → content_runs (blank_content content) ≡ content_runs content
    by (Value value) = refl
    by (Clusters extent runs) = refl

pub blank-first : (part : Part) → is_first (blank_part part) ≡ is_first part
blank-first part = ap (λ vcn. vcn == 0) (blank-vcn part.content)

pub map-first : (xs : List Part) → filter is_first (map blank_part xs) ≡ map blank_part (filter is_first xs)
map-first xs = filter-map blank_part is_first xs ∙ ap (λ p. map blank_part (filter p xs)) (fun_ext blank-first)

-- the first part, without the bytes of its value
pub first-blank : (xs : List Part) → first_part (map blank_part xs) ≡ option_map blank_part (first_part xs)
first-blank xs =
    find-map blank_part is_first xs
    ∙ ap (option_map blank_part) (find-agree is_first (λ x. is_first (blank_part x)) xs (λ x c. blank-first x))

-- where a stream lies
pub blank-spot : (xs : List Part) (vcn : ℕ) → spot_at (map blank_part xs) vcn ≡ spot_at xs vcn
blank-spot xs vcn =
    ap (λ o. spot_by o vcn) (find-map blank_part (holds_vcn vcn) xs ∙ ap (option_map blank_part) (find-agree (holds_vcn vcn)
    (λ x. holds_vcn vcn (blank_part x)) xs (λ x c. holds x)))
    ∙ by (find (holds_vcn vcn) xs)
  where
    holds : (part : Part) → holds_vcn vcn (blank_part part) ≡ holds_vcn vcn part
    holds part = by part.content
      where
        by : (content : Content) → holds_vcn vcn (blank_part (record part { content = content }))
            ≡ holds_vcn vcn (record part { content = content })
        by (Value value) = refl
        by (Clusters extent runs) = refl

    by : (o : Option Part) → spot_by (option_map blank_part o) vcn ≡ spot_by o vcn
    by None = refl
    by (Some part) = at part.content
      where
        at : (content : Content) → spot_by (Some (blank_part (record part { content = content }))) vcn
            ≡ spot_by (Some (record part { content = content })) vcn
        at (Value value) = refl
        at (Clusters extent runs) = refl

-- OF RECORDS: the parts of a file.
pub blank-parts : (records : Records) (f : ℕ) → parts (blanked records) f ≡ map blank_part (parts records f)
unfolding parts parts_in
blank-parts records f =
    ap (λ g. flat_map g (range_with_len 0 records.count)) (fun_ext (λ n. by n (records.record_at n)))
    ∙ sym (map-flat_map blank_part (λ n. parts_in (records.record_at n) n f) (range_with_len 0 records.count))
  where
    pick : (b : Bool) (xs : List Part) → cond b (map blank_part xs) [] ≡ map blank_part (cond b xs [])
    pick true xs = refl
    pick false xs = refl

    by : (n : ℕ) (o : Option Record) → parts_in (option_map blank_record o) n f ≡ map blank_part (parts_in o n f)
    by n None = refl
    by n (Some r) = pick (file_of n r == f) r.parts

-- runs, and owners of clusters
pub blank-joined : (xs : List Part) → joined_runs (map blank_part xs) ≡ joined_runs xs
blank-joined [] = refl
blank-joined (x ∷ xs) = λ i. blank-runs x i ++ blank-joined xs i

pub blank-owned : (records : Records) → all_runs (blanked records) ≡ all_runs records
unfolding all_runs
blank-owned records = ap (λ g. flat_map g (range_with_len 0 records.count)) (fun_ext (λ n. by (records.record_at n)))
  where
    by : (o : Option Record) → record_runs (option_map blank_record o) ≡ record_runs o
    by None = refl
    by (Some r) = blank-joined r.parts

pub blank-times : (records : Records) (c : ℕ) → times_owned (blanked records) c ≡ times_owned records c
unfolding times_owned
blank-times records c = ap (λ runs. times_covered runs c) (blank-owned records)
