-- WHAT CALLS COST: a part put in place of another, one that comes, parts that go.
use Rattle.std.proofs.Common.{◌≡◌, ◌≢◌, ◌≤◌, ◌+◌, ◌*◌, ◌/◌, ◌%◌, ◌==◌, ◌&&◌, ◌||◌, ◌++◌, not, ℕ, Bool, true, false, cond, List, []}
use Rattle.std.proofs.Common.{◌∷◌, length, filter}
use Rattle.std.proofs.Common.{refl, sym, ap, ◌∙◌, arith}
use Rattle.std.specs.List.{Contains}
use Rattle.std.specs.Prelude.{count_by, nat_le, nat_lt}
use Rattle.std.proofs.lemmas.Bool.{and_from, and_left, and_parts, both_ways, le-leb, leb-true, lt-ltb, ltb-true, ne_eqb}
use Rattle.std.proofs.lemmas.List.Sums.{length-filter}
use Rattle.std.proofs.Math.Nat.{mul-le-mul_left}
use Rattle.std.proofs.Common.{mul_comm}
use Rattle.ntfs_def.specs.declared.kinds.TheConstants.{ATTRIBUTE_LIST, STANDARD_INFORMATION}
use Rattle.ntfs_def.specs.declared.records.TheConstants.{MFT}
use Rattle.list_laws.specs.Replaces.{Replaces}
use Rattle.list_laws.proofs.FindLaws.{count-cons}
use Rattle.list_laws.proofs.ReplacesLaws.{Replaces-count}
use Rattle.volume_def.specs.Edits.{EditsAt}
use Rattle.volume_def.specs.Files.{Part, Record, Records, file_of}
use Rattle.volume_def.specs.ListsClause.{is_list}
use Rattle.volume_def.specs.Room.{list_entry_len, longest_name}
use Rattle.volume_def.proofs.RecordLaws.{parts-own_at}
use Rattle.edit_def.specs.Account.{Wants, entry_bytes}
use Rattle.edit_def.specs.Purses.{Costs, can_leave, is_emptied, is_table_bits, is_table_data, part_size}
use Rattle.record_edits.proofs.PartEdits.{filter-nil}
use Rattle.record_edits.proofs.RoomEdits.{longest-append}

-- A base record that was emptied is so still, where no part comes that can leave, and no list goes.
pub emptied-still : (old new : Records) (n : ℕ) (was now : List Part) → EditsAt old new n was now
    → count_by is_list was ≤ count_by is_list now
    → count_by can_leave now ≤ count_by can_leave was → is_emptied (old.record_at n) ≡ true → is_emptied (new.record_at n) ≡ true
emptied-still old new n was now e lists leave emptied =
    let before : Record = e.was_record in
    let after : Record = e.now_record in
    let both = and_parts (nat_lt 0 (length (filter is_list before.parts))) (nat_le (length (filter can_leave before.parts)) 0)
    (sym (ap is_emptied e.was_at) ∙ emptied) in
    let has = ltb-true 0 (length (filter is_list before.parts)) both.0 in
    let none = leb-true (length (filter can_leave before.parts)) 0 both.1 in
    let a = length-filter is_list before.parts in
    let b = length-filter is_list after.parts in
    let c = length-filter can_leave before.parts in
    let d = length-filter can_leave after.parts in
    let x = Replaces-count is_list before.parts after.parts was now e.edit in
    let y = Replaces-count can_leave before.parts after.parts was now e.edit in
    ap is_emptied e.now_at
    ∙ and_from (nat_lt 0 (length (filter is_list after.parts))) (nat_le (length (filter can_leave after.parts)) 0)
    (lt-ltb 0 (length (filter is_list after.parts)) (omega (arith, has, a, b, x, lists)))
    (le-leb (length (filter can_leave after.parts)) 0 (omega (arith, none, c, d, y, leave)))

-- the names that go are no longer than the longest
pub longest-has : (old new was now : List Part) → Replaces old new was now → longest_name was ≤ longest_name old
longest-has old new was now r =
    let a = ap longest_name r.old_is ∙ longest-append r.before (was ++ r.after) in
    let c = longest-append was r.after in
    omega (arith, a, c)

-- a part of another file than the table's, and no list
table-none : (f : ℕ) (rest : Bool) → f ≢ MFT → ((f == MFT) && rest) ≡ false
table-none f rest other = and_left (f == MFT) rest (ne_eqb f MFT other)

one-out : (p : Part → Bool) (x : Part) → p x ≡ false → filter p (x ∷ []) ≡ []
one-out p x e = ap (λ t. cond t (x ∷ []) []) e

no-list : (part : Part) → part.kind ≢ ATTRIBUTE_LIST → is_list part ≡ false
no-list part other = ne_eqb part.kind ATTRIBUTE_LIST other

-- A PART IN PLACE OF ONE of the same type and name, which may own so many clusters more
pub costs-put : (old new : Records) (n f : ℕ) (a b : Part) (wants : Wants) → (e : EditsAt old new n (a ∷ []) (b ∷ []))
    → file_of n e.was_record ≡ f
    → f ≢ MFT → a.kind ≢ ATTRIBUTE_LIST → b.kind ≡ a.kind → b.name ≡ a.name → part_size b ≤ part_size a + wants.clusters
    → Costs old new n f (a ∷ []) (b ∷ []) wants
costs-put old new n f a b wants e file other plain kind name size =
    let entry : list_entry_len b ≡ list_entry_len a = ap (λ x. (26 + length x + 7) / 8 * 8) name in
    let units : length b.name / 2 ≡ length a.name / 2 = ap (λ x. length x / 2) name in
    let same : (p : Part → Bool) → p b ≡ p a → count_by p (b ∷ []) ≡ count_by p (a ∷ []) =
    λ p is. count-cons p b [] ∙ ap (λ t. cond t 1 0 + 0) is ∙ sym (count-cons p a []) in
    let lists = same is_list (ap (λ k. k == ATTRIBUTE_LIST) kind) in
    let leave = same can_leave (ap (λ k. not ((k == ATTRIBUTE_LIST) || (k == STANDARD_INFORMATION))) kind) in
    let has = longest-has _ _ _ _ (parts-own_at old new n f (a ∷ []) (b ∷ []) e file) in
    record {
      no_list_was = one-out is_list a (no-list a plain);
      no_list_now = one-out is_list b (no-list b (λ z. plain (sym kind ∙ z)));
      no_data_was = one-out (is_table_data f) a (table-none f _ other);
      no_data_now = one-out (is_table_data f) b (table-none f _ other);
      no_bits_was = one-out (is_table_bits f) a (table-none f _ other);
      no_bits_now = one-out (is_table_bits f) b (table-none f _ other);
      clusters = omega (arith, size);
      names = omega (arith, units, has);
      entries = λ most h. omega (arith, entry);
      emptied = emptied-still old new n (a ∷ []) (b ∷ []) e (omega (arith, lists)) (omega (arith, leave));
    }

-- an entry is not longer than that of the longest name
entry-most : (part : Part) (most : ℕ) → length part.name % 2 ≡ 0 → length part.name / 2 ≤ most → list_entry_len part ≤ entry_bytes most
entry-most part most even h = omega arith

at-least : (n m : ℕ) → 1 ≤ n → m ≤ n * m
at-least n m h = let step : m * 1 ≤ m * n = mul-le-mul_left m h in let turned : m * n ≡ n * m = mul_comm m n in omega (arith, step, turned)

-- A PART THAT COMES, not into a base record that was emptied
pub costs-add : (old new : Records) (n f : ℕ) (b : Part) (wants : Wants) → (e : EditsAt old new n [] (b ∷ [])) → file_of n e.was_record ≡ f
    → f ≢ MFT → b.kind ≢ ATTRIBUTE_LIST → length b.name % 2 ≡ 0 → part_size b ≤ wants.clusters → 1 ≤ wants.parts f
    → length b.name / 2 ≤ wants.units f → is_emptied (old.record_at n) ≡ false → Costs old new n f [] (b ∷ []) wants
costs-add old new n f b wants e file other plain even size one units still = record {
  no_list_was = refl;
  no_list_now = one-out is_list b (no-list b plain);
  no_data_was = refl;
  no_data_now = one-out (is_table_data f) b (table-none f _ other);
  no_bits_was = refl;
  no_bits_now = one-out (is_table_bits f) b (table-none f _ other);
  clusters = omega (arith, size);
  names = omega (arith, units);
  entries = λ most h.
      let its = entry-most b most even (omega (arith, h, units)) in
      let all = at-least (wants.parts f) (entry_bytes most) one in
      omega (arith, its, all);
  emptied = λ was. absurd (both_ways _ still was);
}

-- PARTS THAT GO
pub costs-drop : (old new : Records) (n f : ℕ) (was : List Part) (wants : Wants) → (e : EditsAt old new n was []) → f ≢ MFT
    → ((part : Part) → Contains was part → part.kind ≢ ATTRIBUTE_LIST) → Costs old new n f was [] wants
costs-drop old new n f was wants e other plain =
    let none = filter-nil is_list was (λ part c. no-list part (plain part c)) in
    let counted = sym (length-filter is_list was) ∙ ap length none in
    record {
      no_list_was = none;
      no_list_now = refl;
      no_data_was = filter-nil (is_table_data f) was (λ part c. table-none f _ other);
      no_data_now = refl;
      no_bits_was = filter-nil (is_table_bits f) was (λ part c. table-none f _ other);
      no_bits_now = refl;
      clusters = omega arith;
      names = omega arith;
      entries = λ most h. omega arith;
      emptied = emptied-still old new n was [] e (omega (arith, counted)) (omega arith);
    }
