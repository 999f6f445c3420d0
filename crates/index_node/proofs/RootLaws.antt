-- The root of an index: one that leads to a record alone, and one that was made longer.
use Rattle.std.proofs.Common.{◌≡◌, ◌≢◌, ℕ, suc, ◌+◌, ◌-◌, ◌/◌, ◌%◌, ◌==◌, ◌<◌, List, [], Some, None, Bool, true, length, slice_index}
use Rattle.std.proofs.Common.{refl, sym, ap, ◌∙◌, arith}
use Rattle.std.specs.Prelude.{nat_eq, codes, if◌then◌else◌}
use Rattle.std.specs.List.{starts_with}
use Rattle.std.specs.Option.{option_and_then}
use Rattle.std.proofs.lemmas.Bool.{le-leb, ne_eqb}
use Rattle.vol_bytes.specs.Field.{u16_at, u32_at, u64_at}
use Rattle.ntfs_def.specs.Node.{Node, Whole, are_short, child_at, entries_end, entry_len, first_entry, first_offset, has_children}
use Rattle.ntfs_def.specs.Node.{is_index_record, is_last_entry, most_len, node_header, node_header_failing, node_in, room_end}
use Rattle.ntfs_def.specs.Node.{scan_from, short_node, whole_of}
use Rattle.ntfs_def.specs.declared.index.NodeForm.{NodeForm}
use Rattle.index_node.specs.Edit.{IsDown}
use Rattle.index_node.proofs.NodeLaws.{are_short-is, child_at-some, last_is, scan_at_last, scan_node-is, whole_is}
use Rattle.index_node.proofs.LayOutLaws.{has_array, six_right}

pub root_header : (node : List ℕ) → length node ≢ 4096 → node_header node ≡ 0x10
unfolding node_header
root_header node ne = ap (λ b. if b then 0x18 else 0x10) (ne_eqb (length node) 4096 ne)

pub not_record : (node : List ℕ) (d : Bool) → length node ≢ 4096 → (if is_index_record node then d else true) ≡ true
not_record node d ne = ap (λ b. if b then d else true) (ne_eqb (length node) 4096 ne)

module _ (new : List ℕ) (vcn : ℕ) (down : IsDown new vcn) where
  ne : length new ≢ 4096
  ne e = let l = down.len in absurd (omega arith)

  header : node_header new ≡ 0x10
  header = root_header new ne

  first : first_entry new ≡ 0x20
  first = ap (λ h. h + u32_at new h) header ∙ ap (λ n. 0x10 + n) down.first

  first_off : first_offset new ≡ 0x10
  first_off = ap (u32_at new) header ∙ down.first

  end : entries_end new ≡ 0x38
  end = ap (λ h. h + u32_at new (h + 0x04)) header ∙ ap (λ n. 0x10 + n) down.used

  room : room_end new ≡ 0x38
  room = ap (λ h. h + u32_at new (h + 0x08)) header ∙ ap (λ n. 0x10 + n) down.room

  children : has_children new ≡ true
  children = ap (λ h. slice_index new (h + 0x0C) % 2 == 1) header ∙ ap (λ n. n % 2 == 1) down.flag

  right : node_header_failing new ≡ None
  right =
      let h = header in let l = down.len in let o = first_off in let e = end in let r = room in
      six_right 0x00 0x00 0x04 (node_header new) (node_header new + 0x04) (node_header new + 0x08)
      (le-leb (node_header new + 16) (length new) (omega arith))
      (not_record new (starts_with nat_eq new (codes "INDX")) ne)
      (not_record new (has_array new (first_entry new)) ne)
      (le-leb 16 (first_offset new) (omega arith))
      (le-leb (entries_end new) (room_end new) (omega arith))
      (le-leb (room_end new) (length new) (omega arith))

  is_last : (form : NodeForm) → is_last_entry new true 0x38 0x20 ≡ true
  is_last form =
      let s = down.size in let k = down.key in let f = down.flags in
      last_is form new true 0x38 0x20
      (whole_is new true 0x38 0x20 (record {
        header = omega arith;
        multiple = ap (λ n. n % 8) down.size;
        holds = omega arith;
        inside = omega arith;
        flag = ap (λ n. n % 2) down.flags;
      }))
      (ap (λ n. n / 2 % 2) down.flags)
      down.key

  child : child_at new true 0x20 ≡ Some vcn
  child =
      child_at-some new true 0x20 refl
      ∙ ap (λ n. Some (u64_at new (0x20 + n - 8))) down.size
      ∙ ap (λ n. Some n) down.child

  pub down_node : (form : NodeForm) → node_in form new ≡ Some (record { entries = []; last = Some vcn })
  down_node form =
      let l = down.len in
      ap whole_of (scan_node-is form new true 0x38 0x20 (Whole (record { entries = []; last = child_at new true 0x20 })) right (sym
      children) (sym end) (sym first)
      (ap (λ n. scan_from form new true 0x38 n 0x20) {x = length new} {y = suc 55} (omega arith)
      ∙ scan_at_last form new true 0x38 55 0x20 (is_last form)))
      ∙ ap (λ c. Some (let m : Node = record { entries = []; last = c } in m)) child

  pub down_short : (form : NodeForm) → short_node form new ≡ Some (record { entries = []; last = Some vcn })
  down_short form =
      let s = down.size in
      ap (option_and_then (λ (said : Node). if are_short new (length said.entries) then Some said else None)) (down_node form)
      ∙ ap (λ c. if c then Some (let m : Node = record { entries = []; last = Some vcn } in m) else None)
      (sym (are_short-is new 0 0 (most_len true) 0x20 refl (ap most_len (sym children)) (sym first))
      ∙ le-leb (entry_len new 0x20) (most_len true) (omega arith))

pub down_by : (new start : List ℕ) (vcn : ℕ) → length new ≡ 56 → u64_at new 0x30 ≡ vcn
    → ((k : ℕ) → k < 32 → slice_index new (16 + k) ≡ slice_index start k)
    → u32_at start 0x00 ≡ 0x10 → u32_at start 0x04 ≡ 0x28 → u32_at start 0x08 ≡ 0x28 → slice_index start 0x0C ≡ 1
    → u16_at start 0x18 ≡ 0x18 → u16_at start 0x1A ≡ 0 → u16_at start 0x1C ≡ 3 → IsDown new vcn
down_by new start vcn len child same first used room flag size key flags = record {
  len = len;
  first = four 0 (omega arith) ∙ first;
  used = four 4 (omega arith) ∙ used;
  room = four 8 (omega arith) ∙ room;
  flag = same 0x0C (omega arith) ∙ flag;
  size = two 0x18 (omega arith) ∙ size;
  key = two 0x1A (omega arith) ∙ key;
  flags = two 0x1C (omega arith) ∙ flags;
  child = child;
}
  where
    two : (k : ℕ) → k + 1 < 32 → u16_at new (16 + k) ≡ u16_at start k
    two k lt =
        let a = same k (omega arith) in
        let b = same (k + 1) lt in
        let c : slice_index new (16 + k + 1) ≡ slice_index new (16 + (k + 1)) = ap (slice_index new) (omega arith) in
        omega arith

    four : (k : ℕ) → k + 3 < 32 → u32_at new (16 + k) ≡ u32_at start k
    four k lt =
        let a = two k (omega arith) in
        let b = two (k + 2) (omega arith) in
        let c : u16_at new (16 + k + 2) ≡ u16_at new (16 + (k + 2)) = ap (u16_at new) (omega arith) in
        omega arith
