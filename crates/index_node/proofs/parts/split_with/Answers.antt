use Rattle.std.proofs.Common.{◌≡◌, suc, ◌-◌, ◌<◌, ◌≤◌, Some, Result, Ok, Err, OnOk, length, take, get_or, ap, sym, subst, ◌∙◌, arith}
use Rattle.std.specs.Prelude.{IfErr, IsTrue, is_some, IfSome}
use Rattle.ntfs_def.specs.Node.{Entry, Node, child_from, has_child, has_children, is_one_entry, most_len, node_in, short_node, whole_of}
use Rattle.index_node.specs.View.{bytes_of, form_of_view, node_of_view}
use Rattle.index_node.specs.Edit.{IsHalf, IsOpened, IsParted, child_of_node, entry_in, right_of, with_entry_at, LeadsTo, LacksRoomFor}
use Rattle.index_node.proofs.CrowdLaws.{half_by, left_many, most_most, no_middle, node_most, record_most, right_many, short_entry}
use Rattle.index_node.proofs.LenLaws.{keeps_room, lacks_more}
use Rattle.index_node.proofs.SealedLaws.{node_array}
use Rattle.index_node.specs.Sealed.{HasArrayApart}
use Rattle.index_node.proofs.SpanLaws.{child_some}
use Rattle.index_node.proofs.SplitLaws.{before_len, behind_len, inner_of, own_child, parted_high, parted_low, place_of, short_in}
use Rattle.index_node.proofs.parts.split_with.Goals as goal
use Rattle.index_node.proofs.parts.split_with.Goals.{then-i-m, else-i-m}

some_same : {X : Type 0} {a b : X} → Some a ≡ Some b → a ≡ b
some_same e = cc

ok_of : {T E P : Type 0} {r : Result T E} {x : T} → OnOk r P → r ≡ Ok x → P
ok_of {P} {x} h e = subst (λ q. OnOk q P) e h

err_of : {T E : Type 0} (Q : E → Type 0) {r : Result T E} {x : E} → IfErr r Q → r ≡ Err x → Q x
err_of Q h e = subst (λ q. IfErr q Q) e h

pub returns-in_default-clause-some : goal.returns-in_default-clause-some
returns-in_default-clause-some c crowd =
    let full = crowd.full in
    let most = most_most (has_children c.args.node.now) in
    let fits = c.requires.entry.short in
    absurd (no_middle c.args.form c.args.node.now crowd.said crowd.is (length c.args.entry.now) (omega arith) (omega arith)
    c.in_default.ensures.none)

pub with_child-requires : goal.with_child-requires
with_child-requires c =
    let entry = c.entry.result.now in
    let f = form_of_view c.in-Ok.view in
    let b = has_children (bytes_of c.in-Ok.view) in
    let own = c.entry.ensures.own in
    subst (λ g. IsTrue (is_one_entry g (has_child entry 0) entry)) c.in-Ok.ensures.form
    (subst (λ x. IsTrue (is_one_entry f x entry)) (sym (own_child f b entry own)) own)

pub returns-in_default-2-clause-some : goal.returns-in_default-2-clause-some
returns-in_default-2-clause-some c crowd =
    let form = c.args.form in
    let node = c.args.node.now in
    let entry = c.entry.result.now in
    let view = c.in-Ok.view in
    let own = c.entry.ensures.own in
    let is = short_in form node crowd.said crowd.is in
    let same : node_of_view view ≡ crowd.said = some_same (sym (ap whole_of c.in-Ok.ensures.ok) ∙ is) in
    let inner = inner_of form node c.in-Some.m c.in-Some.ensures.middle.entry crowd.said is in
    let kids : has_child entry 0 ≡ has_children node = own_child (form_of_view view) (has_children (bytes_of view)) entry own ∙ ap
    has_children c.in-Ok.ensures.bytes in
    let one : IsTrue (is_one_entry form (has_children node) entry) =
    subst (λ b. IsTrue (is_one_entry form b entry)) (ap has_children c.in-Ok.ensures.bytes)
    (subst (λ g. IsTrue (is_one_entry g (has_children (bytes_of view)) entry)) c.in-Ok.ensures.form own) in
    let fits = short_entry form node crowd.said crowd.is c.in-Some.m inner entry one
    (λ d. c.entry.ensures.item d ∙ ap (λ (n : Node). (get_or n.entries c.in-Some.m d).item) same) in
    sym (ap is_some c.in_default-2.is) ∙ c.in_ok-out.ensures.some.1 (subst (λ b. length entry ≤ most_len b) (sym kids) fits)

pub part_at-requires-clause-short : goal.part_at-requires-clause-short
part_at-requires-clause-short c =
    let mid = c.in-Some.ensures.middle in
    let a = mid.before mid.entry.said mid.entry.is in
    let b = node_most c.args.form c.args.node.now mid.entry.said mid.entry.is in
    omega (arith, a, b, c.told-node)

pub part_at-requires-clause-below : goal.part_at-requires-clause-below
part_at-requires-clause-below c =
    let w = inner_of c.args.form c.args.node.now c.in-Some.m c.in-Some.ensures.middle.entry (node_of_view c.in-Ok.view) (ap whole_of
    c.in-Ok.ensures.ok) in
    ap is_some c.child-below.ensures ∙ child_some c.in-Ok.view c.in-Some.m (omega arith) ∙ ap has_children c.in-Ok.ensures.bytes

pub insert_at-put-requires-clause-place : goal.insert_at-put-requires-clause-place
insert_at-put-requires-clause-place c =
    let h = c.in-Some.ensures.middle.entry in
    let w = h.within in
    let n = before_len h.said.entries c.in-Some.m (omega arith) in
    record { said = _; is = c.part_at.ensures.left h.said h.is; within = omega (arith, n, c.if-i-m.true) }

pub insert_at-put-requires-else-i-m-clause-place : goal.insert_at-put-requires-else-i-m-clause-place
insert_at-put-requires-else-i-m-clause-place c =
    let h = c.in-Some.ensures.middle.entry in
    let w = h.within in
    let p = place_of c.args.form c.args.node.now c.args.i c.requires.place h.said h.is in
    let n = behind_len h.said.entries (suc c.in-Some.m) in
    record { said = _; is = c.part_at.ensures.right.node h.said h.is; within = omega (arith, n, c.if-i-m.false, p, w) }

pub returns-in-Ok-put-clause-split : goal.returns-in-Ok-put-clause-split
returns-in-Ok-put-clause-split c =
    let form = c.args.form in
    let old = c.args.node.now in
    let view = c.in-Ok.view in
    let m = c.in-Some.m in
    let mid = c.in-Some.ensures.middle in
    let here = node_of_view view in
    let e : node_in form old ≡ Some here = ap whole_of c.in-Ok.ensures.ok in
    let up = c.in-Some-2.out in
    let leads = subst (λ o. IfSome o (LeadsTo form c.entry.result.now c.args.vcn)) c.in-Some-2.is c.in_ok-out.ensures.leads in
    let part = c.part_at.ensures in
    let same : (said : Node) → short_node form old ≡ Some said → here ≡ said = λ said is. some_same (sym e ∙ short_in form old said is) in
    let inner : (said : Node) → short_node form old ≡ Some said → m < length said.entries = λ said is. inner_of form old m mid.entry
    said (short_in form old said is) in
    let within : (said : Node) → short_node form old ≡ Some said → c.args.i ≤ length said.entries = λ said is. place_of form old
    c.args.i c.requires.place said (short_in form old said is) in
    let child : (entry_in up).child ≡ Some c.args.vcn = ap (λ (x : Entry). x.child) leads.says in
    let item : (said : Node) → short_node form old ≡ Some said → (d : Entry) → (entry_in up).item ≡ (get_or said.entries m d).item =
    λ said is d. ap (λ (x : Entry). x.item) leads.says ∙ c.entry.ensures.item d ∙ ap (λ (n : Node). (get_or n.entries m d).item) (same
    said is) in
    let below : (said : Node) → short_node form old ≡ Some said → c.child-below.result ≡ child_of_node said m =
    λ said is. c.child-below.ensures ∙ ap (λ (n : Node). child_from n.entries n.last m) (same said is) in
    let front : (said : Node) → short_node form old ≡ Some said
    → short_node form c.part_at.new.left ≡ Some (record { entries = take m said.entries; last = child_of_node said m }) =
    λ said is. part.left_short said is ∙ ap (λ x. Some (let n : Node = record { entries = take m said.entries; last = x } in n)) (below
    said is) in
    let fits : length c.args.entry.now ≤ 640 = (let a = c.requires.entry.short in let b = most_most (has_children old) in omega arith) in
    let right_len : length c.part_at.new.node ≡ 4096 = (let l = part.right.header.len in omega (arith, l, c.told-node)) in
    elim c.if-i-m.branch [
      | then-i-m w ↦
          (let ins = ok_of w.insert_at-put.ensures.ok (sym w.put-is ∙ c.in-Ok-put.is) in
          record {
            opened_left = subst (IsOpened c.args.vcn) (sym w.left-is) (ins.opened c.args.vcn part.left_opened);
            opened = λ own h. subst (IsOpened own) (sym w.node-is) (part.right.opened own h);
            apart_left = subst HasArrayApart (sym w.left-is) (node_array form w.insert_at-put.new.node _
                (ins.opened c.args.vcn part.left_opened).len (ins.node _ (part.left mid.entry.said mid.entry.is)));
            apart = subst HasArrayApart (sym w.node-is) (node_array form c.part_at.new.node _ right_len (part.right.node _ mid.entry.is));
            up = leads.short;
            parts = λ said is.
                subst (λ l. IsParted form (with_entry_at said c.args.i (entry_in c.args.entry.now)) c.if-i-m.node l c.args.vcn
                (entry_in up)) (sym w.left-is)
                (subst (λ r. IsParted form (with_entry_at said c.args.i (entry_in c.args.entry.now)) r w.insert_at-put.new.node
                c.args.vcn (entry_in up)) (sym w.node-is)
                (parted_low form said m c.args.i c.args.vcn (inner said is) (within said is) (entry_in c.args.entry.now) (entry_in up)
                child (item said is)
                w.insert_at-put.new.node c.part_at.new.node w.if-i-m.true
                (ins.short (subst (λ b. length c.args.entry.now ≤ most_len b) (sym part.left_children) c.requires.entry.short) _ (front
                said is))
                (part.right.short said is)));
            halves = λ said is many.
                (let at = short_in form old said is in
                let n = ins.len _ (part.left said at) in
                let f = (part.left_len said at).0 in
                let l = left_many form old said is (length c.args.entry.now) fits m mid many in
                let r = right_many form old said is (length c.args.entry.now) fits m mid many in
                let q = part.right_len said at in (
                  subst (IsHalf form) (sym w.left-is) (half_by form w.insert_at-put.new.node _ (ins.node _ (part.left said at)) (omega
                      (arith, n, f, l))),
                  subst (IsHalf form) (sym w.node-is) (half_by form c.part_at.new.node (right_of m said) (part.right.node said at)
                      (omega (arith, r, q))),
                ));
          })
      | else-i-m w ↦
          (let ins = ok_of w.insert_at-put-else-i-m.ensures.ok (sym w.put-is ∙ c.in-Ok-put.is) in
          record {
            opened_left = subst (IsOpened c.args.vcn) (sym w.left-is) part.left_opened;
            opened = λ own h. subst (IsOpened own) (sym w.node-is) (ins.opened own (part.right.opened own h));
            apart_left = subst HasArrayApart (sym w.left-is) (node_array form c.part_at.new.left _ part.left_opened.len
                (part.left mid.entry.said mid.entry.is));
            apart = subst HasArrayApart (sym w.node-is) (node_array form w.insert_at-put-else-i-m.new.node _
                (ins.header.len ∙ right_len) (ins.node _ (part.right.node _ mid.entry.is)));
            up = leads.short;
            parts = λ said is.
                subst (λ l. IsParted form (with_entry_at said c.args.i (entry_in c.args.entry.now)) c.if-i-m.node l c.args.vcn
                (entry_in up)) (sym w.left-is)
                (subst (λ r. IsParted form (with_entry_at said c.args.i (entry_in c.args.entry.now)) r c.part_at.new.left c.args.vcn
                (entry_in up)) (sym w.node-is)
                (parted_high form said m c.args.i c.args.vcn (inner said is) (within said is) (entry_in c.args.entry.now) (entry_in up)
                child (item said is)
                c.part_at.new.left w.insert_at-put-else-i-m.new.node (omega (arith, w.if-i-m.false)) (front said is)
                (c.args.i - m - 1) (omega (arith, w.if-i-m.false))
                (ins.short (subst (λ b. length c.args.entry.now ≤ most_len b) (sym part.right.children) c.requires.entry.short) _
                (part.right.short said is))));
            halves = λ said is many.
                (let at = short_in form old said is in
                let n = ins.len _ (part.right.node said at) in
                let f = (part.left_len said at).0 in
                let l = left_many form old said is (length c.args.entry.now) fits m mid many in
                let r = right_many form old said is (length c.args.entry.now) fits m mid many in
                let q = part.right_len said at in (
                  subst (IsHalf form) (sym w.left-is) (half_by form c.part_at.new.left _ (part.left said at) (omega (arith, f, l))),
                  subst (IsHalf form) (sym w.node-is) (half_by form w.insert_at-put-else-i-m.new.node _ (ins.node _ (part.right.node
                      said at)) (omega (arith, n, r, q))),
                ));
          })
    ]

pub returns-in-Err-clause-some : goal.returns-in-Err-clause-some
returns-in-Err-clause-some c crowd =
    let form = c.args.form in
    let old = c.args.node.now in
    let m = c.in-Some.m in
    let mid = c.in-Some.ensures.middle in
    let part = c.part_at.ensures in
    let at = short_in form old crowd.said crowd.is in
    let fits = c.requires.entry.short in
    let most = most_most (has_children old) in
    let a = mid.before crowd.said at in
    let b = mid.upto crowd.said at in
    let d = record_most form old crowd.said at in
    let room = crowd.room in
    elim c.if-i-m.branch [
      | then-i-m w ↦
          (let more = lacks_more form c.part_at.new.left (length c.args.entry.now) c.in-Err.field-0
          (err_of (LacksRoomFor form c.part_at.new.left (length c.args.entry.now)) w.insert_at-put.ensures.err (sym w.put-is ∙
          c.in-Err.is)) _ (part.left crowd.said at) in
          let f = (part.left_len crowd.said at).1 in
          let r = part.left_room in
          absurd (omega (arith, more, f, r, a, d, room, fits, most)))
      | else-i-m w ↦
          (let more = lacks_more form c.part_at.new.node (length c.args.entry.now) c.in-Err.field-0
          (err_of (LacksRoomFor form c.part_at.new.node (length c.args.entry.now)) w.insert_at-put-else-i-m.ensures.err (sym w.put-is ∙
          c.in-Err.is)) _ (part.right.node crowd.said at) in
          let q = part.right_len crowd.said at in
          let r = keeps_room old c.part_at.new.node part.right.header in
          absurd (omega (arith, more, q, r, b, d, room, fits, most)))
    ]
