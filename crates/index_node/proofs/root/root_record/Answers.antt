use Rattle.std.proofs.Common.{◌≡◌, ℕ, List, [], ◌∷◌, ◌++◌, Option, Some, length, take, refl, ap, sym, ◌∙◌, arith, append-nil}
use Rattle.index_node.proofs.FoundLaws.{has_first}
use Rattle.index_node.proofs.LenLaws.{keeps_room, lacks_more, last_room, opened_len, root_len}
use Rattle.index_node.specs.Edit.{front_len}
use Rattle.std.proofs.Math.Seq.{take-length}
use Rattle.std.specs.Prelude.{is_some}
use Rattle.ntfs_def.specs.Node.{Entry, Node, child_from, has_children, node_in, whole_of, child_len, first_entry}
use Rattle.index_node.specs.View.{node_of_view}
use Rattle.index_node.proofs.SealedLaws.{node_array}
use Rattle.index_node.proofs.SpanLaws.{child_some}
use Rattle.index_node.proofs.SplitLaws.{short_in}
use Rattle.index_node.proofs.root.root_record.Goals as goal

some_same : {X : Type 0} {a b : X} → Some a ≡ Some b → a ≡ b
some_same e = cc

child_last : (es : List Entry) (last : Option ℕ) → child_from es last (length es) ≡ last
child_last [] last = refl
child_last (e ∷ es) last = child_last es last

nodes_eq : {es fs : List Entry} {c d : Option ℕ} → es ≡ fs → c ≡ d → (let x : Node = record { entries = es; last = c } in x) ≡ record {
  entries = fs;
  last = d;
}
nodes_eq e f = cc

pub child-requires : goal.child-requires
child-requires c = let e = c.entries-count.ensures in omega arith

pub put_front-requires-clause-into : goal.put_front-requires-clause-into
put_front-requires-clause-into c = record {
  said = _;
  is = short_in c.args.form c.new_record-record.result _
      (c.new_record-record.ensures.node c.args.form);
  within = omega arith;
}

pub put_front-requires-clause-from : goal.put_front-requires-clause-from
put_front-requires-clause-from c = let e = c.entries-count.ensures in record {
  said = node_of_view c.in-Ok.view;
  is = ap whole_of
      c.in-Ok.ensures.ok;
  within = omega arith;
}

pub put_front-requires-clause-same : goal.put_front-requires-clause-same
put_front-requires-clause-same c =
    let e = c.entries-count.ensures in
    c.new_record-record.ensures.children ∙ ap is_some c.child.ensures ∙ child_some c.in-Ok.view c.entries-count.result (omega arith) ∙
    ap has_children c.in-Ok.ensures.bytes

pub returns-in-Ok-put_front-clause-holds : goal.returns-in-Ok-put_front-clause-holds
returns-in-Ok-put_front-clause-holds c =
    let form = c.args.form in
    let here = node_of_view c.in-Ok.view in
    let pf = c.in-Ok-put_front.ensures.ok in
    let new = c.new_record-record in
    let n = c.entries-count.ensures in
    let whole : (said : Node) → node_in form c.args.root.now ≡ Some said
    → (let m : Node = record { entries = take c.entries-count.result said.entries ++ []; last = c.child.result } in m) ≡ said =
    λ said is.
    let same : here ≡ said = some_same (sym (ap whole_of c.in-Ok.ensures.ok) ∙ is) in
    nodes_eq
    (append-nil (take c.entries-count.result said.entries) ∙ ap (λ k. take k said.entries) (n ∙ ap (λ (m : Node). length m.entries)
    same) ∙ take-length said.entries)
    (c.child.ensures ∙ ap (λ k. child_from here.entries here.last k) n ∙ child_last here.entries here.last ∙ ap (λ (m : Node). m.last)
    same) in
    record {
      opened = pf.opened c.args.vcn new.ensures.opened;
      apart =
          node_array form c.put_front.new.into _ (pf.opened c.args.vcn new.ensures.opened).len
          (pf.node _ here (short_in form new.result _ (new.ensures.node form)) (ap whole_of c.in-Ok.ensures.ok));
      node = λ said is. pf.node _ said (short_in form new.result _ (new.ensures.node form)) is ∙ ap (λ x. Some x) (whole said is);
      short = λ said is. pf.short _ said (new.ensures.node form) is ∙ ap (λ x. Some x) (whole said (short_in form c.args.root.now said is));
      children =
          pf.children ∙ new.ensures.children ∙ ap is_some c.child.ensures ∙ child_some c.in-Ok.view c.entries-count.result (omega
          (arith, n))
          ∙ ap has_children c.in-Ok.ensures.bytes;
      room = keeps_room new.result c.put_front.new.into pf.header ∙ new.ensures.room;
    }

-- where the entries do not fit into a new record
pub returns-in-Err-clause-some : goal.returns-in-Err-clause-some
returns-in-Err-clause-some c said is most =
    let new = c.new_record-record in
    let here = node_of_view c.in-Ok.view in
    let n = c.entries-count.ensures in
    let same : here ≡ said = some_same (sym (ap whole_of c.in-Ok.ensures.ok) ∙ is) in
    let f = has_first c.args.form c.args.root.now said is in
    let l = last_room c.args.form c.args.root.now 0 (first_entry c.args.root.now) f.behind f.end f.span said is in
    let more = lacks_more c.args.form new.result (front_len c.args.root.now c.entries-count.result) c.in-Err.field-0 c.in-Err.ensures.err _
    (short_in c.args.form new.result _ (new.ensures.node c.args.form)) in
    let count : front_len c.args.root.now c.entries-count.result ≡ front_len c.args.root.now (length said.entries) =
    ap (front_len c.args.root.now) (n ∙ ap (λ (m : Node). length m.entries) same) in
    let len = new.ensures.len in
    let room = new.ensures.room in
    let kids : child_len (is_some c.child.result) ≡ child_len (has_children c.args.root.now) =
    ap child_len (ap is_some c.child.ensures ∙ child_some c.in-Ok.view c.entries-count.result (omega (arith, n)) ∙ ap has_children
    c.in-Ok.ensures.bytes) in
    absurd (omega (arith, more, l, count, len, room, kids, most))

pub returns-in-Err-clause-opened : goal.returns-in-Err-clause-opened
returns-in-Err-clause-opened c said is own opened =
    let f = has_first c.args.form c.args.root.now said is in
    returns-in-Err-clause-some c said is (opened_len c.args.form c.args.root.now 0 (first_entry c.args.root.now) f.behind f.end f.span
    own opened said is)

pub returns-in-Err-clause-short : goal.returns-in-Err-clause-short
returns-in-Err-clause-short c said is short =
    let f = has_first c.args.form c.args.root.now said is in
    let l = root_len c.args.form c.args.root.now 0 (first_entry c.args.root.now) f.behind f.end f.span (λ e. absurd (omega (
      arith,
      e,
      short,
    ))) said is in
    returns-in-Err-clause-some c said is (omega (arith, l, short))
