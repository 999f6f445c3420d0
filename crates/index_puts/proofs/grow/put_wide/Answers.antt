use Rattle.std.proofs.Common.{◌≤◌, Result, Ok, Err, OnOk, OnErr, length, sym, subst, ◌∙◌, arith}
use Rattle.index_node.proofs.LenLaws.{lacks_more}
use Rattle.std.specs.Prelude.{IsTrue}
use Rattle.ntfs_def.specs.Node.{first_entry, has_children, is_one_entry, most_len}
use Rattle.ntfs_def.specs.declared.index.NodeForm.TheVariants.{Names}
use Rattle.index_node.specs.Edit.{IsWidened}
use Rattle.index_puts.proofs.BytesLaws.{header_low}
use Rattle.index_node.proofs.NodeLaws.{length-entries_from}
use Rattle.index_node.proofs.WidenLaws.{wide_node, wide_short, wide_children, wide_room}
use Rattle.index_puts.proofs.grow.put_wide.Goals as goal

OnOk-map : {T E P Q : Type 0} (r : Result T E) → (P → Q) → OnOk r P → OnOk r Q
OnOk-map (Ok x) f h = f h
OnOk-map (Err e) f h = tt

either : {T E P Q X : Type 0} (r : Result T E) → OnOk r P → OnErr r Q → (P → X) → (Q → X) → X
either (Ok x) h k f g = f h
either (Err e) h k f g = g k

pub insert_at-requires-clause-place : goal.insert_at-requires-clause-place
insert_at-requires-clause-place c =
    let l = c.requires.was.longer in
    let e = c.widen.ensures in
    let short = c.requires.short in
    let wide : IsWidened c.requires.was.old c.widen.new.root = record {
      long = let a = l.long in omega (arith, e.len);
      short = omega (arith, e.len);
      room = e.room;
      low = λ k lt. let a = l.enough in e.rest.below k lt ∙ l.same k (omega arith);
      high = λ k from to. e.rest.above k from ∙ l.same k to;
    } in
    let s = l.span in
    let n = length-entries_from c.requires.was.old (has_children c.requires.was.old) (first_entry c.requires.was.old) s.count in
    record {
      said = _;
      is = wide_node Names c.requires.was.old c.widen.new.root c.args.place l.at l.behind l.fin s wide _ s.said;
      within = let w = s.within in omega (arith, n);
    }

pub insert_at-requires-clause-one : goal.insert_at-requires-clause-one
insert_at-requires-clause-one c =
    let l = c.requires.was.longer in
    let e = c.widen.ensures in
    let short = c.requires.short in
    let wide : IsWidened c.requires.was.old c.widen.new.root = record {
      long = let a = l.long in omega (arith, e.len);
      short = omega (arith, e.len);
      room = e.room;
      low = λ k lt. let a = l.enough in e.rest.below k lt ∙ l.same k (omega arith);
      high = λ k from to. e.rest.above k from ∙ l.same k to;
    } in
    subst (λ b. IsTrue (is_one_entry Names b c.args.entry.now))
    (sym (wide_children Names c.requires.was.old c.widen.new.root c.args.place l.at l.behind l.fin l.span wide)) l.one

pub unreachable-requires : goal.unreachable-requires
unreachable-requires c =
    let l = c.requires.was.longer in
    let e = c.widen.ensures in
    let short = c.requires.short in
    let old = c.requires.was.old in
    let wide : IsWidened old c.widen.new.root = record {
      long = let a = l.long in omega (arith, e.len);
      short = omega (arith, e.len);
      room = e.room;
      low = λ k lt. let a = l.enough in e.rest.below k lt ∙ l.same k (omega arith);
      high = λ k from to. e.rest.above k from ∙ l.same k to;
    } in
    let is = wide_node Names old c.widen.new.root c.args.place l.at l.behind l.fin l.span wide _ l.span.said in
    let has = wide_room Names old c.widen.new.root c.args.place l.at l.behind l.fin l.span wide (length c.args.entry.now) (e.len ∙
    l.long) _ is in
    let more = lacks_more Names c.widen.new.root (length c.args.entry.now) c.in_default.field-0 c.in_default.ensures.err _ is in
    absurd (omega (arith, has, more))

pub returns-clause-ok : goal.returns-clause-ok
returns-clause-ok c old l said is =
    let e = c.widen.ensures in
    let short = c.requires.short in
    let wide : IsWidened old c.widen.new.root = record {
      long = let a = l.long in omega (arith, e.len);
      short = omega (arith, e.len);
      room = e.room;
      low = λ k lt. let a = l.enough in e.rest.below k lt ∙ l.same k (omega arith);
      high = λ k from to. e.rest.above k from ∙ l.same k to;
    } in
    c.in-Ok.ensures.ok.short
    (subst (λ b. length c.args.entry.now ≤ most_len b) (sym (wide_children Names old c.widen.new.root c.args.place l.at l.behind
    l.fin l.span wide)) l.fits)
    said (wide_short Names old c.widen.new.root c.args.place l.at l.behind l.fin l.span wide said is)

pub returns-clause-len : goal.returns-clause-len
returns-clause-len c = c.in-Ok.ensures.ok.header.len ∙ c.widen.ensures.len

pub returns-clause-head : goal.returns-clause-head
returns-clause-head c = λ k lt.
    let low = header_low c.widen.new.root in
    c.in-Ok.ensures.ok.header.before k (omega (arith, lt, low)) ∙ c.widen.ensures.rest.below k (omega (arith, lt))
