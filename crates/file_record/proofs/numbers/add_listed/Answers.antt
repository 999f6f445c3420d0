use Rattle.std.proofs.Common.{Result, Ok, Err, sym, subst, ◌∙◌, arith}
use Rattle.std.specs.Prelude.{OnOk}
use Rattle.attr_view.specs.View.{attribute_of}
use Rattle.mft_table.specs.Mft.{MftReads, view}
use Rattle.file_record.specs.Numbers.{AddsNamed}
use Rattle.file_record.proofs.ListedLaws.{added-by, added-resident, listed-clusters, value-short}
use Rattle.file_record.proofs.numbers.add_listed.Goals as goal

on_ok : {T E A B : Type 0} (r : Result T E) → OnOk r A → (A → B) → OnOk r B
on_ok (Ok x) h f = f h
on_ok (Err x) h f = tt

pub returns-in-Some-clause-added : goal.returns-in-Some-clause-added
returns-in-Some-clause-added g c =
    let list = c.args.list.now in
    let is = sym c.in-Some.ensures in
    on_ok c.add_named.result c.add_named.ensures.added
    (added-resident (view g.D.Disk c.args.mft.now) (attribute_of list) c.in-Some.value.now _ _
    (omega (arith, value-short list.block.now list.at c.in-Some.value.now is, list.size)) is)

pub returns-in_err-value-clause-fetched : goal.returns-in_err-value-clause-fetched
returns-in_err-value-clause-fetched g c told n readable =
    let is = listed-clusters (view g.D.Disk c.args.mft.now) (attribute_of c.args.list.now) n c.in-Some-Some.sizes c.in-Some-Some.text.now
    (sym c.in-Some-Some.ensures) (sym c.in-Some-Some.ensures') readable in
    subst (MftReads g.D.Disk c.args.mft.now c.read_list.new.mft) (sym is.reads) c.read_list.ensures.reads

pub returns-in_err-add_named-clause-fetched : goal.returns-in_err-add_named-clause-fetched
returns-in_err-add_named-clause-fetched g c told n readable =
    let is = listed-clusters (view g.D.Disk c.args.mft.now) (attribute_of c.args.list.now) n c.in-Some-Some.sizes c.in-Some-Some.text.now
    (sym c.in-Some-Some.ensures) (sym c.in-Some-Some.ensures') readable in
    subst (MftReads g.D.Disk c.args.mft.now c.read_list.new.mft) (sym is.reads) c.read_list.ensures.reads

pub returns-in_ok-add_named-clause-added : goal.returns-in_ok-add_named-clause-added
returns-in_ok-add_named-clause-added g c =
    let volume = view g.D.Disk c.args.mft.now in
    let value = c.in_ok-value.value.items in
    added-by volume (attribute_of c.args.list.now) value _ _ c.in_ok-value.ensures.short
    (λ told n readable.
    let is = listed-clusters volume (attribute_of c.args.list.now) n c.in-Some-Some.sizes c.in-Some-Some.text.now
    (sym c.in-Some-Some.ensures) (sym c.in-Some-Some.ensures') readable in
    is.value ∙ sym (c.in_ok-value.ensures.value told is.runs is.text_is is.first is.short))
    (subst (λ bytes. AddsNamed bytes c.args.numbers.now.items c.add_named-in-Some-Some.new.numbers.items) c.deref.ensures.value
    c.in_ok-add_named.ensures.added)

pub returns-in_ok-add_named-clause-fetched : goal.returns-in_ok-add_named-clause-fetched
returns-in_ok-add_named-clause-fetched g c told n readable =
    let is = listed-clusters (view g.D.Disk c.args.mft.now) (attribute_of c.args.list.now) n c.in-Some-Some.sizes c.in-Some-Some.text.now
    (sym c.in-Some-Some.ensures) (sym c.in-Some-Some.ensures') readable in
    subst (MftReads g.D.Disk c.args.mft.now c.read_list.new.mft) (sym is.reads) c.read_list.ensures.reads
