-- WHAT AN EDIT OF ONE RECORD COSTS.
use Rattle.std.proofs.Common.{◌≡◌, ◌≤◌, ◌+◌, ◌-◌, ◌*◌, ◌/◌, ◌==◌, ◌&&◌, not, max, ℕ, Bool, true, false, cond, List, [], ◌∷◌, ◌++◌, length}
use Rattle.std.proofs.Common.{filter}
use Rattle.std.proofs.Common.{refl, sym, ap, subst, inl, inr, ◌∙◌, arith}
use Rattle.std.specs.Prelude.{fold, is_some, sum_by}
use Rattle.std.specs.List.{range_with_len}
use Rattle.std.proofs.lemmas.Bool.{cases_eq}
use Rattle.std.proofs.lemmas.List.Sums.{sum_by-cons}
use Rattle.list_laws.specs.Replaces.{Replaces}
use Rattle.list_laws.proofs.ReplacesLaws.{Replaces-filter}
use Rattle.volume_def.specs.Edits.{EditsAt}
use Rattle.volume_def.specs.Files.{Part, Records, file_of, parts, records_of}
use Rattle.volume_def.specs.ListsClause.{is_list, listed_parts}
use Rattle.volume_def.specs.Room.{list_entry_len, longest_name}
use Rattle.volume_def.specs.Table.{cluster_bytes}
use Rattle.volume_def.specs.View.{VolumeView}
use Rattle.volume_def.proofs.RecordLaws.{parts-other, parts-own_at}
use Rattle.edit_def.specs.Account.{IsPlanned, Keeps, Plan, Wants, entry_bytes, rows}
use Rattle.edit_def.specs.Purses.{Costs, in_use, is_emptied, is_list_of, is_table_bits, is_table_data, is_value, list_len_in, one_if}
use Rattle.edit_def.specs.Purses.{part_size, room_of}
use Rattle.edit_def.proofs.Sums.{rows-cases}
use Rattle.edit_def.proofs.SumLaws.{Replaces-sum, sum-edit, sum-rule}

no-both : true ≡ false → ⊥
no-both e = cc

cons-nil : {A : Type 0} (x : A) (xs : List A) → x ∷ xs ≡ [] → ⊥
cons-nil x xs e = absurd (omega (arith, ap length e))

pub filter-head : (p : Part → Bool) (x : Part) (xs : List Part) (b : Bool) → p x ≡ b → filter p (x ∷ xs) ≡ []
    → (b ≡ false) × (filter p xs ≡ [])
filter-head p x xs true e h = absurd (cons-nil x (filter p xs) (sym (ap (λ t. cond t (x ∷ filter p xs) (filter p xs)) e) ∙ h))
filter-head p x xs false e h = (refl, sym (ap (λ t. cond t (x ∷ filter p xs) (filter p xs)) e) ∙ h)

pub keep-head : (p : Part → Bool) (x : Part) (xs : List Part) → p x ≡ true → filter p xs ≡ xs → filter p (x ∷ xs) ≡ x ∷ xs
keep-head p x xs e rest = ap (λ t. cond t (x ∷ filter p xs) (filter p xs)) e ∙ ap (λ r. x ∷ r) rest

value-test : (d b l a : Bool) → d ≡ false → b ≡ false → l ≡ false → (not d && (not b && not (l && a))) ≡ true
value-test d b l a ed eb el = rw (ed, eb, el) refl

values-all : (files : List ℕ) (f : ℕ) (xs : List Part) → filter is_list xs ≡ [] → filter (is_table_data f) xs ≡ []
    → filter (is_table_bits f) xs ≡ [] → filter (is_value files f) xs ≡ xs
values-all files f [] l d b = refl
values-all files f (x ∷ xs) l d b =
    let (l0, l1) = filter-head is_list x xs (is_list x) refl l in
    let (d0, d1) = filter-head (is_table_data f) x xs (is_table_data f x) refl d in
    let (b0, b1) = filter-head (is_table_bits f) x xs (is_table_bits f x) refl b in
    keep-head (is_value files f) x xs (value-test (is_table_data f x) (is_table_bits f x) (is_list x) _ d0 b0 l0)
    (values-all files f xs l1 d1 b1)

lists-none : (b : Bool) (xs : List Part) → filter is_list xs ≡ [] → filter (λ p. b && is_list p) xs ≡ []
lists-none true xs h = h
lists-none false [] h = refl
lists-none false (x ∷ xs) h = lists-none false xs (filter-head is_list x xs (is_list x) refl h).1

listed-all : (xs : List Part) → filter is_list xs ≡ [] → listed_parts xs ≡ xs
listed-all [] h = refl
listed-all (x ∷ xs) h =
    let (l0, l1) = filter-head is_list x xs (is_list x) refl h in
    keep-head (λ part. not (is_list part)) x xs (ap not l0) (listed-all xs l1)

-- the longest name
longest-from : (a : ℕ) (xs : List Part) → fold (λ longest part. max longest (length part.name / 2)) a xs ≡ max a (longest_name xs)
longest-from a [] = omega arith
longest-from a (x ∷ xs) = omega (arith, longest-from (max a (length x.name / 2)) xs, longest-from (max 0 (length x.name / 2)) xs)

pub longest-append : (xs ys : List Part) → longest_name (xs ++ ys) ≡ max (longest_name xs) (longest_name ys)
longest-append [] ys = omega arith
longest-append (x ∷ xs) ys =
    omega (arith, longest-from (max 0 (length x.name / 2)) (xs ++ ys), longest-from (max 0 (length x.name / 2)) xs, longest-append xs ys)

pub longest-edit : (old new was now : List Part) → Replaces old new was now → longest_name new ≤ max (longest_name old) (longest_name now)
longest-edit old new was now r =
    let a = ap longest_name r.old_is ∙ longest-append r.before (was ++ r.after) in
    let b = ap longest_name r.new_is ∙ longest-append r.before (now ++ r.after) in
    let c = longest-append was r.after in
    let d = longest-append now r.after in
    omega arith

-- records in use
pub used-kept : (old new : Records) (n : ℕ) (was now : List Part) → EditsAt old new n was now → (m : ℕ)
    → is_some (new.record_at m) ≡ is_some (old.record_at m)
used-kept old new n was now e m = elim (cases_eq m n) as (λ _. is_some (new.record_at m) ≡ is_some (old.record_at m)) [
  | inl same ↦ ap (λ k. is_some (new.record_at k)) same ∙ ap (λ o. is_some o) e.now_at ∙ sym (ap (λ k. is_some (old.record_at k)) same
      ∙ ap (λ o. is_some o) e.was_at)
  | inr ne ↦ ap (λ o. is_some o) (e.changes.others m ne)
]

pub in_use-kept : (old new : Records) (n : ℕ) (was now : List Part) → EditsAt old new n was now → in_use new ≡ in_use old
in_use-kept old new n was now e =
    sum-rule (λ m. one_if (is_some (new.record_at m))) (λ m. one_if (is_some (old.record_at m))) (λ m. ap one_if
    (used-kept old new n was now e m)) (range_with_len 24 (new.count - 24))
    ∙ ap (λ c. sum_by (λ m. one_if (is_some (old.record_at m))) (range_with_len 24 (c - 24))) e.changes.count

one-less : (a b : Bool) → (a ≡ true → b ≡ true) → one_if (not b) ≤ one_if (not a)
one-less true b h = rw (h refl) (omega arith)
one-less false true h = omega arith
one-less false false h = omega arith

pub emptied-most : (old new : Records) (n : ℕ) (was now : List Part) → EditsAt old new n was now → (is_emptied (old.record_at n) ≡ true
    → is_emptied (new.record_at n) ≡ true)
    → (files : List ℕ) → sum_by (λ f. one_if (not (is_emptied (new.record_at f)))) files ≤ sum_by (λ f. one_if (not (is_emptied
    (old.record_at f)))) files
emptied-most old new n was now e h [] = omega arith
emptied-most old new n was now e h (f ∷ fs) =
    let one : one_if (not (is_emptied (new.record_at f))) ≤ one_if (not (is_emptied (old.record_at f))) = elim (cases_eq f n) as
    (λ _. one_if (not (is_emptied (new.record_at f))) ≤ one_if (not (is_emptied (old.record_at f)))) [
      | inl same ↦ one-less (is_emptied (old.record_at f)) (is_emptied (new.record_at f)) (subst (λ m. is_emptied
          (old.record_at m) ≡ true → is_emptied (new.record_at m) ≡ true) (sym same) h)
      | inr ne ↦ let is = ap (λ o. one_if (not (is_emptied o))) (e.changes.others f ne) in omega (arith, is)
    ] in
    omega (
      arith,
      one,
      emptied-most old new n was now e h fs,
      sum_by-cons (λ f. one_if (not (is_emptied (new.record_at f)))) f fs,
      sum_by-cons (λ f. one_if (not (is_emptied (old.record_at f)))) f fs,
    )

pub rows-self : (c a r : ℕ) → r ≤ rows c a r
rows-self c a r = elim (rows-cases c a r) as (λ _. r ≤ rows c a r) [ inl x ↦ omega (arith, x.1) | inr x ↦ omega (arith, x.1, x.0) ]

-- a list's length, of the file and of all others
length-edit : (old new : Records) (n : ℕ) (was now : List Part) (wants : Wants) (plan : Plan) → (e : EditsAt old new n was now)
    → Costs old new n (file_of n e.was_record) was now wants → ((f : ℕ) → max (longest_name (parts old f)) (wants.units f) ≤ plan.name f)
    → (f : ℕ) → list_len_in new f ≤ list_len_in old f + wants.parts f * entry_bytes (plan.name f)
length-edit old new n was now wants plan e c planned f = elim (cases_eq (file_of n e.was_record) f) as
    (λ _. list_len_in new f ≤ list_len_in old f + wants.parts f * entry_bytes (plan.name f)) [
      | inl same ↦
          let r = parts-own_at old new n f was now e same in
          let sums = Replaces-sum list_entry_len _ _ _ _ (Replaces-filter (λ part. not (is_list part)) _ _ _ _ r) in
          let w = ap (sum_by list_entry_len) (listed-all was c.no_list_was) in
          let m = ap (sum_by list_entry_len) (listed-all now c.no_list_now) in
          let entries = subst (λ g. (most : ℕ) → max (longest_name (parts old g)) (wants.units g) ≤ most
          → sum_by list_entry_len now ≤ sum_by list_entry_len was + wants.parts g * entry_bytes most) same c.entries (plan.name f)
          (planned f) in
          omega (arith, sums, w, m, entries)
      | inr ne ↦ let is = ap (λ all. sum_by list_entry_len (listed_parts all)) (parts-other old new n f was now e ne) in omega (arith, is)
    ]

name-edit : (old new : Records) (n : ℕ) (was now : List Part) (wants : Wants) → (e : EditsAt old new n was now)
    → Costs old new n (file_of n e.was_record) was now wants → (f : ℕ) → longest_name (parts new f) ≤ max (longest_name (parts old f))
    (wants.units f)
name-edit old new n was now wants e c f = elim (cases_eq (file_of n e.was_record) f) as (λ _. longest_name (parts new f) ≤ max
    (longest_name (parts old f)) (wants.units f)) [
      | inl same ↦
          let r = parts-own_at old new n f was now e same in
          let names = subst (λ g. longest_name now ≤ max (longest_name (parts old g)) (wants.units g)) same c.names in
          omega (arith, longest-edit _ _ _ _ r, names)
      | inr ne ↦ let is = ap longest_name (parts-other old new n f was now e ne) in omega (arith, is)
    ]

-- THE BILL OF AN EDIT OF ONE RECORD
pub Keeps-edit : (old new : VolumeView) (n : ℕ) (was now : List Part) (wants : Wants) → new.layout.clusters ≡ old.layout.clusters
    → cluster_bytes new.layout ≡ cluster_bytes old.layout
    → (e : EditsAt (records_of old) (records_of new) n was now) → Costs (records_of old) (records_of new) n
    (file_of n e.was_record) was now wants
    → Keeps (room_of old) (room_of new) wants
unfolding IsPlanned
Keeps-edit old new n was now wants volume bytes e c = λ plan pos planned.
    let f = file_of n e.was_record in
    let values = sum-edit (is_value plan.files) part_size (records_of old) (records_of new) n was now e in
    let was_all = ap (sum_by part_size) (values-all plan.files (file_of n e.was_record) was c.no_list_was c.no_data_was c.no_bits_was) in
    let now_all = ap (sum_by part_size) (values-all plan.files (file_of n e.was_record) now c.no_list_now c.no_data_now c.no_bits_now) in
    let table_sum = sum-edit is_table_data part_size (records_of old) (records_of new) n was now e in
    let data_was = ap (sum_by part_size) c.no_data_was in
    let data_now = ap (sum_by part_size) c.no_data_now in
    let bits = sum-edit is_table_bits part_size (records_of old) (records_of new) n was now e in
    let bits_was = ap (sum_by part_size) c.no_bits_was in
    let bits_now = ap (sum_by part_size) c.no_bits_now in
    let used = in_use-kept (records_of old) (records_of new) n was now e in
    let emptied = emptied-most (records_of old) (records_of new) n was now e c.emptied plan.files in
    record {
      names = λ g. name-edit (records_of old) (records_of new) n was now wants e c g;
      volume = volume;
      size = bytes;
      values = omega (arith, values, was_all, now_all, c.clusters);
      lengths = λ g. length-edit (records_of old) (records_of new) n was now wants plan e c planned.1 g;
      lists = λ g.
          let lists = sum-edit (is_list_of g) part_size (records_of old) (records_of new) n was now e in
          let lists_was = ap (sum_by part_size) (lists-none (file_of n e.was_record == g) was c.no_list_was) in
          let lists_now = ap (sum_by part_size) (lists-none (file_of n e.was_record == g) now c.no_list_now) in
          omega (arith, lists, lists_was, lists_now);
      claimed = omega (arith, used, emptied);
      records = omega (arith, e.changes.count, rows-self (room_of old plan).claimed wants.records (room_of old plan).records);
      grows = omega (arith, e.changes.count);
      table = omega (arith, table_sum, data_was, data_now);
      bitmap = omega (arith, bits, bits_was, bits_now);
    }
