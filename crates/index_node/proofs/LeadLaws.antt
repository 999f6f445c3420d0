-- An entry that is to go up leads to a child.
use Rattle.std.proofs.Common.{◌≡◌, ℕ, ◌+◌, ◌-◌, ◌*◌, ◌/◌, ◌%◌, ◌==◌, ◌<◌, ◌≤◌, List, Some, Bool, true, false, length, slice_range}
use Rattle.std.proofs.Common.{slice_index, refl, sym, ap, ◌∙◌, arith, rules}
use Rattle.std.specs.Prelude.{IsTrue, ◌&&◌, ◌||◌, nat_le, if◌then◌else◌}
use Rattle.std.proofs.lemmas.Bool.{le-leb, leb-true}
use Rattle.vol_bytes.specs.Field.{u16_at, u64_at}
use Rattle.vol_bytes.proofs.FieldLaws.{u16_at-same}
use Rattle.ntfs_def.specs.Node.{IsWholeEntry, child_at, child_len, data_len, data_offset, entry_flags, entry_len, has_child}
use Rattle.ntfs_def.specs.Node.{holds_data, is_entry, is_one_entry, item_at, item_in, key_len, most_len}
use Rattle.ntfs_def.specs.declared.index.NodeForm.{NodeForm}
use Rattle.ntfs_def.specs.declared.index.NodeForm.TheVariants.{Names, View}
use Rattle.index_node.specs.Edit.{IsShortEntry, LeadsBytes, LeadsTo}
use Rattle.index_node.proofs.NodeLaws.{child_at-some, entry_whole, items_same, own_is}
use Rattle.index_node.proofs.LayOutLaws.{entry_eq}
use Rattle.index_node.proofs.SpliceLaws.{entry_in-is, range_moved}

-- what is known of one entry
pub record IsOne (form : NodeForm) (children : Bool) (entry : List ℕ) : Type 0 where
  pub whole : IsWholeEntry entry children (length entry) 0
  pub len : entry_len entry 0 ≡ length entry
  pub more : entry_flags entry 0 / 2 % 2 ≡ 0
  pub apart : holds_data form entry children 0 ≡ true

pub is_one : (form : NodeForm) (children : Bool) (entry : List ℕ) → IsTrue (is_one_entry form children entry) → IsOne form children entry
unfolding is_entry
is_one form children entry h = record {
  whole = entry_whole form entry children (length entry) 0 (left (is_entry form entry children (length entry) 0) (entry_len entry 0 ==
      length entry) h);
  len = search rules;
  more = search rules;
  apart = search rules;
}
  where
    left : (a b : Bool) → IsTrue (a && b) → a ≡ true
    left a b h = search rules

both : (a b : Bool) → (a && b) ≡ true → (a ≡ true) × (b ≡ true)
both a b h = search rules

module _ (form : NodeForm) (entry : List ℕ) (c : Bool) (is : IsShortEntry form c entry) (base vcn : ℕ) (at_base : base + child_len c ≡
    length entry)
    (old new : List ℕ) (same : (k : ℕ) → k < base → slice_index old k ≡ slice_index entry k) (leads : LeadsBytes old new base vcn) where
  one : IsOne form c entry
  one = is_one form c entry is.one

  child_most : child_len c ≤ 8
  child_most = go c
    where
      go : (b : Bool) → child_len b ≤ 8
      go true = omega arith
      go false = omega arith

  base_long : 16 + key_len entry 0 ≤ base
  base_long = let w = one.whole.holds in let l = one.len in let e = at_base in omega arith

  multiple : (base + 8) % 8 ≡ 0
  multiple = go c at_base (one.whole.multiple)
    where
      go : (b : Bool) → base + child_len b ≡ length entry → entry_len entry 0 % 8 ≡ 0 → (base + 8) % 8 ≡ 0
      go true e m = let l = one.len in omega arith
      go false e m = let l = one.len in omega arith

  key_same : key_len new 0 ≡ key_len entry 0
  key_same = let b = base_long in leads.key ∙ u16_at-same entry old 0x0A (λ k from to. same k (omega arith))

  flags_old : u16_at old 0x0C ≡ entry_flags entry 0
  flags_old = let b = base_long in u16_at-same entry old 0x0C (λ k from to. same k (omega arith))

  flags_new : entry_flags new 0 ≡ entry_flags entry 0 / 2 * 2 + 1
  flags_new = leads.flags ∙ ap (λ n. n / 2 * 2 + 1) flags_old

  front : (k : ℕ) → k < 0x08 → slice_index new k ≡ slice_index entry k
  front k lt = let b = base_long in leads.front k lt ∙ same k (omega arith)

  data_same : data_len new 0 ≡ data_len entry 0
  data_same = u16_at-same entry new 0x02 (λ k from to. front k (omega arith))

  offset_same : data_offset new 0 ≡ data_offset entry 0
  offset_same = u16_at-same entry new 0 (λ k from to. front k (omega arith))

  whole_new : IsWholeEntry new true (length new) 0
  whole_new =
      let b = base_long in let l = leads.len in let s = leads.size in let k = key_same in let m = multiple in
      record {
        header = omega arith;
        multiple = ap (λ n. n % 8) leads.size ∙ m;
        holds = omega arith;
        inside = omega arith;
        flag = ap (λ n. n % 2) flags_new ∙ odd (entry_flags entry 0 / 2);
      }
    where
      odd : (n : ℕ) → (n * 2 + 1) % 2 ≡ 1
      odd n = omega arith

  more_new : entry_flags new 0 / 2 % 2 ≡ 0
  more_new = ap (λ n. n / 2 % 2) flags_new ∙ half (entry_flags entry 0 / 2) ∙ one.more
    where
      half : (n : ℕ) → (n * 2 + 1) / 2 % 2 ≡ n % 2
      half n = omega arith

  data_new : (f : NodeForm) → holds_data f entry c 0 ≡ true → holds_data f new true 0 ≡ true
  data_new Names h = refl
  data_new View h = go (data_len entry 0 == 0) refl h
    where
      or_left : (a b : Bool) → a ≡ true → (a || b) ≡ true
      or_left a b h = search rules

      and_in : (a b d : Bool) → b ≡ true → d ≡ true → (a || b && d) ≡ true
      and_in a b d h k = search rules

      go : (b : Bool) → (data_len entry 0 == 0) ≡ b
          → (b || nat_le (16 + key_len entry 0) (data_offset entry 0) && nat_le (data_offset entry 0 + data_len entry 0 + child_len c)
          (entry_len entry 0)) ≡ true
          → holds_data View new true 0 ≡ true
      go true e k = or_left (data_len new 0 == 0) (nat_le (16 + key_len new 0) (data_offset new 0) && nat_le (data_offset new 0 +
          data_len new 0 + 8) (entry_len new 0)) (ap (λ n. n == 0) data_same ∙ e)
      go false e k =
          let p = both (nat_le (16 + key_len entry 0) (data_offset entry 0)) (nat_le (data_offset entry 0 + data_len entry 0 +
          child_len c) (entry_len entry 0)) k in
          let x = leb-true (16 + key_len entry 0) (data_offset entry 0) p.0 in
          let y = leb-true (data_offset entry 0 + data_len entry 0 + child_len c) (entry_len entry 0) p.1 in
          let s = leads.size in let l = one.len in let b = at_base in let d = data_same in let o = offset_same in let q = key_same in
          and_in (data_len new 0 == 0) (nat_le (16 + key_len new 0) (data_offset new 0)) (nat_le (data_offset new 0 + data_len new 0 +
          8) (entry_len new 0))
          (le-leb (16 + key_len new 0) (data_offset new 0) (omega arith))
          (le-leb (data_offset new 0 + data_len new 0 + 8) (entry_len new 0) (omega arith))

  pub leads_one : IsTrue (is_one_entry form true new)
  leads_one = own_is form new true whole_new more_new (data_new form one.apart) (leads.size ∙ sym leads.len)

  short_new : length new ≤ most_len true
  short_new = let s = is.short in let b = at_base in let l = leads.len in omega arith

  flag_own : has_child entry 0 ≡ c
  flag_own = go c one.whole.flag
    where
      go : (b : Bool) → entry_flags entry 0 % 2 ≡ (if b then 1 else 0) → has_child entry 0 ≡ b
      go true e = ap (λ n. n == 1) e
      go false e = ap (λ n. n == 1) e

  item_same : item_at new true 0 ≡ item_in entry
  unfolding item_at
  item_same =
      let b = base_long in let l = leads.len in let s = leads.size in let e = at_base in let o = one.len in
      items_same
      (range_moved entry new 0 0 8 (omega arith) (omega arith) (λ k lt. front (0 + k) (omega arith)))
      (ap (λ n. slice_range new 16 (16 + n)) key_same
      ∙ range_moved entry new 16 16 (key_len entry 0) (omega arith) (omega arith) (λ k lt. leads.rest (16 + k) (omega arith) (omega
      arith) ∙ same (16 + k) (omega arith)))
      (ap (λ n. slice_range new (16 + n) (0 + entry_len new 0 - 8)) key_same
      ∙ ap (slice_range new (16 + key_len entry 0)) {x = 0 + entry_len new 0 - 8} {y = 16 + key_len entry 0 + (base - (16 + key_len
      entry 0))} (omega arith)
      ∙ range_moved entry new (16 + key_len entry 0) (16 + key_len entry 0) (base - (16 + key_len entry 0)) (omega arith) (omega arith)
      (λ k lt. leads.rest (16 + key_len entry 0 + k) (omega arith) (omega arith) ∙ same (16 + key_len entry 0 + k) (omega arith))
      ∙ ap (slice_range entry (16 + key_len entry 0)) {x = 16 + key_len entry 0 + (base - (16 + key_len entry 0))} {y = 0 + entry_len
      entry 0 - child_len c} (omega arith)
      ∙ ap (λ x. slice_range entry (16 + key_len entry 0) (0 + entry_len entry 0 - child_len x)) (sym flag_own))

  child_new : child_at new true 0 ≡ Some vcn
  child_new =
      let s = leads.size in
      child_at-some new true 0 refl
      ∙ ap (λ n. Some (u64_at new n)) {x = 0 + entry_len new 0 - 8} {y = base} (omega arith)
      ∙ ap (λ n. Some n) leads.child

  pub leads_to : LeadsTo form entry vcn new
  leads_to = record {
    short = record { one = leads_one; short = short_new };
    says = entry_in-is form true new leads_one ∙ entry_eq item_same child_new;
  }
