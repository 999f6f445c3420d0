-- A record that was made anew is a node without a key.
use Rattle.std.proofs.Common.{◌≡◌, ℕ, suc, ◌+◌, ◌-◌, ◌/◌, ◌%◌, ◌==◌, ◌≤◌, List, [], Option, Some, None, Bool, true, false, length}
use Rattle.std.proofs.Common.{slice_index, refl, sym, ap, ◌∙◌, arith}
use Rattle.index_node.specs.LayOut.{room_len}
use Rattle.std.specs.Prelude.{◌&&◌, nat_eq, codes, if◌then◌else◌}
use Rattle.std.specs.List.{starts_with}
use Rattle.std.specs.Option.{option_and_then}
use Rattle.std.specs.Cmp.Lexicographic.{pointwise}
use Rattle.std.proofs.lemmas.Bool.{le-leb}
use Rattle.vol_bytes.specs.Field.{u32_at, u64_at}
use Rattle.ntfs_def.specs.Fixup.{array_end, array_place}
use Rattle.ntfs_def.specs.Node.{Node, Whole, are_short, child_at, child_len, entries_end, entry_len, first_entry, first_offset}
use Rattle.ntfs_def.specs.Node.{has_children, is_index_record, is_last_entry, most_len, node_header, node_header_failing, node_in}
use Rattle.ntfs_def.specs.Node.{room_end, scan_from, short_node, whole_of}
use Rattle.ntfs_def.specs.declared.index.NodeForm.{NodeForm}
use Rattle.index_node.specs.Edit.{IsLaid, IsOpened, entries_len}
use Rattle.index_node.proofs.NodeLaws.{are_short-is, child_at-none, child_at-some, last_is, scan_at_last, scan_node-is, whole_is}
use Rattle.index_node.proofs.LayOutLaws.{has_array, header_is, six_right}

module _ (new : List ℕ) (vcn : ℕ) (b : Bool) (laid : IsLaid new vcn b) where
  header : node_header new ≡ 0x18
  header = header_is new laid.len

  first : first_entry new ≡ 0x40
  first = ap (λ h. h + u32_at new h) header ∙ ap (λ n. 0x18 + n) laid.first

  first_off : first_offset new ≡ 0x28
  first_off = ap (u32_at new) header ∙ laid.first

  end : entries_end new ≡ 0x50 + child_len b
  end = ap (λ h. h + u32_at new (h + 0x04)) header ∙ ap (λ n. 0x18 + n) laid.used ∙ omega arith

  room : room_end new ≡ 4096
  room = ap (λ h. h + u32_at new (h + 0x08)) header ∙ ap (λ n. 0x18 + n) laid.room

  pub new_children : has_children new ≡ b
  new_children = ap (λ h. slice_index new (h + 0x0C) % 2 == 1) header ∙ ap (λ n. n % 2 == 1) laid.flag ∙ go b
    where
      go : (c : Bool) → ((if c then 1 else 0) % 2 == 1) ≡ c
      go true = refl
      go false = refl

  child_most : child_len b ≤ 8
  child_most = go b
    where
      go : (c : Bool) → child_len c ≤ 8
      go true = omega arith
      go false = omega arith

  mark : (if is_index_record new then starts_with nat_eq new (codes "INDX") else true) ≡ true
  mark = if_true (is_index_record new) (starts_with nat_eq new (codes "INDX")) (ap (λ xs. pointwise nat_eq (codes "INDX") xs) laid.mark)
    where
      if_true : (c d : Bool) → d ≡ true → (if c then d else true) ≡ true
      if_true true d e = e
      if_true false d e = refl

  array : (if is_index_record new then has_array new (first_entry new) else true) ≡ true
  array = if_true (is_index_record new) (has_array new (first_entry new))
      (let p = laid.place in let c = laid.count in let f = first in
      two (le-leb 0x28 (array_place new) (omega arith)) (le-leb (array_end new) (first_entry new) (omega arith)))
    where
      if_true : (c d : Bool) → d ≡ true → (if c then d else true) ≡ true
      if_true true d e = e
      if_true false d e = refl

      two : {c d : Bool} → c ≡ true → d ≡ true → (c && d) ≡ true
      two e f = rw (e, f)

  right : node_header_failing new ≡ None
  right =
      let h = header in let l = laid.len in let o = first_off in let e = end in let r = room in let m = child_most in
      six_right 0x00 0x00 0x04 (node_header new) (node_header new + 0x04) (node_header new + 0x08)
      (le-leb (node_header new + 16) (length new) (omega arith))
      mark array
      (le-leb 16 (first_offset new) (omega arith))
      (le-leb (entries_end new) (room_end new) (omega arith))
      (le-leb (room_end new) (length new) (omega arith))

  is_last : (form : NodeForm) → is_last_entry new b (0x50 + child_len b) 0x40 ≡ true
  is_last form =
      let s = laid.size in let k = laid.key in let f = laid.flags in
      last_is form new b (0x50 + child_len b) 0x40
      (whole_is new b (0x50 + child_len b) 0x40 (record {
        header = omega arith;
        multiple = ap (λ n. n % 8) laid.size ∙ eights b;
        holds = omega arith;
        inside = omega arith;
        flag = ap (λ n. n % 2) laid.flags ∙ ones b;
      }))
      (ap (λ n. n / 2 % 2) laid.flags ∙ twos b)
      laid.key
    where
      eights : (c : Bool) → (16 + child_len c) % 8 ≡ 0
      eights true = refl
      eights false = refl

      ones : (c : Bool) → (if c then 3 else 2) % 2 ≡ (if c then 1 else 0)
      ones true = refl
      ones false = refl

      twos : (c : Bool) → (if c then 3 else 2) / 2 % 2 ≡ 1
      twos true = refl
      twos false = refl

  pub new_node : (form : NodeForm) (child : Option ℕ) → child_at new b 0x40 ≡ child → node_in form new ≡ Some (record {
    entries = [];
    last = child;
  })
  new_node form child is =
      let m = child_most in let l = laid.len in
      ap whole_of (scan_node-is form new b (0x50 + child_len b) 0x40 (Whole (record { entries = []; last = child_at new b 0x40 }))
      right (sym new_children) (sym end) (sym first)
      (ap (λ n. scan_from form new b (0x50 + child_len b) n 0x40) {x = length new} {y = suc 4095} (omega arith)
      ∙ scan_at_last form new b (0x50 + child_len b) 4095 0x40 (is_last form)))
      ∙ ap (λ c. Some (let m : Node = record { entries = []; last = c } in m)) is

  pub new_short : (form : NodeForm) (child : Option ℕ) → child_at new b 0x40 ≡ child → short_node form new ≡ Some (record {
    entries =
        [];
    last = child;
  })
  new_short form child is =
      let s = laid.size in let m = child_most in
      ap (option_and_then (λ (said : Node). if are_short new (length said.entries) then Some said else None)) (new_node form child is)
      ∙ ap (λ c. if c then Some (let m : Node = record { entries = []; last = child } in m) else None)
      (sym (are_short-is new 0 0 (most_len b) 0x40 refl (ap most_len (sym new_children)) (sym first))
      ∙ le-leb (entry_len new 0x40) (most_len b) (omega arith))

  pub new_len : (child : Option ℕ) → entries_len new (record { entries = []; last = child }) ≡ 16 + child_len b
  new_len child =
      let e : entry_len new (first_entry new) ≡ entry_len new 0x40 = ap (entry_len new) first in
      let s = laid.size in
      omega arith

  pub new_room : room_len new ≡ 4032
  new_room = let r = room in let f = first in omega arith

  pub new_opened : IsOpened vcn new
  new_opened =
      let l = laid.len in let p = laid.place in let c = laid.count in
      record {
        len = laid.len;
        array = record {
          some = omega arith;
          whole = ap (λ n. n % 512) laid.len;
          count = laid.count ∙ ap (λ n. n / 512 + 1) (sym laid.len);
          low = omega arith;
          high = omega arith;
        };
        own = laid.own;
      }

  pub child_none : b ≡ false → child_at new b 0x40 ≡ None
  child_none e = child_at-none new b 0x40 e

  pub child_some : (child : ℕ) → b ≡ true → u64_at new 0x50 ≡ child → child_at new b 0x40 ≡ Some child
  child_some child e is =
      child_at-some new b 0x40 e
      ∙ ap (λ n. Some (u64_at new (0x40 + n - 8))) (laid.size ∙ ap (λ c. 16 + child_len c) e)
      ∙ ap (λ n. Some n) is
