use Rattle.std.proofs.Common.{true, false, refl, ap, sym, ◌∙◌, arith, ◌+◌}
use Rattle.ntfs_def.specs.Node.{child_len}
use Rattle.std.specs.Prelude.{is_some}
use Rattle.vol_bytes.proofs.FieldLaws.{u64_at-same}
use Rattle.index_node.specs.declared.parts.TheConstants.{LEAF, ABOVE}
use Rattle.index_node.proofs.NewLaws.{new_short, new_opened, new_children, child_none, child_some, new_len, new_room}
use Rattle.index_node.proofs.LaidLaws.{laid_by}
use Rattle.index_node.proofs.parts.new_record.Goals as goal

pub returns-in-None-clause-opened : goal.returns-in-None-clause-opened
returns-in-None-clause-opened c =
    let b = c.begin_with.ensures in
    new_opened c.begin_with.result c.args.vcn false (laid_by c.begin_with.result LEAF c.args.vcn false b.len b.own b.low (λ k from to.
    b.high k from (omega (arith, to))) refl refl refl refl refl refl refl refl refl refl refl)

pub returns-in-None-clause-node : goal.returns-in-None-clause-node
returns-in-None-clause-node c = λ form.
    let b = c.begin_with.ensures in
    let laid = laid_by c.begin_with.result LEAF c.args.vcn false b.len b.own b.low (λ k from to. b.high k from (omega (arith, to)))
    refl refl refl refl refl refl refl refl refl refl refl in
    new_short c.begin_with.result c.args.vcn false laid form c.args.child (child_none c.begin_with.result c.args.vcn false laid refl ∙
    sym c.in-None.is)

pub returns-in-None-clause-children : goal.returns-in-None-clause-children
returns-in-None-clause-children c =
    let b = c.begin_with.ensures in
    let laid = laid_by c.begin_with.result LEAF c.args.vcn false b.len b.own b.low (λ k from to. b.high k from (omega (arith, to)))
    refl refl refl refl refl refl refl refl refl refl refl in
    new_children c.begin_with.result c.args.vcn false laid ∙ ap is_some (sym c.in-None.is)

pub returns-in-Some-clause-opened : goal.returns-in-Some-clause-opened
returns-in-Some-clause-opened c =
    let b = c.begin_with-record.ensures in
    let r = c.put_u64.ensures.rest in
    let new = c.put_u64.new.bytes in
    let own = u64_at-same c.begin_with-record.result new 0x10 (λ k from to. r.below k (omega (arith, to))) ∙ b.own in
    let laid = laid_by new ABOVE c.args.vcn true (r.len ∙ b.len) own
    (λ k lt. r.below k (omega (arith, lt)) ∙ b.low k lt)
    (λ k from to. r.below k to ∙ b.high k from (omega (arith, to))) refl refl refl refl refl refl refl refl refl refl refl in
    new_opened new c.args.vcn true laid

pub returns-in-Some-clause-node : goal.returns-in-Some-clause-node
returns-in-Some-clause-node c = λ form.
    let b = c.begin_with-record.ensures in
    let r = c.put_u64.ensures.rest in
    let new = c.put_u64.new.bytes in
    let own = u64_at-same c.begin_with-record.result new 0x10 (λ k from to. r.below k (omega (arith, to))) ∙ b.own in
    let laid = laid_by new ABOVE c.args.vcn true (r.len ∙ b.len) own
    (λ k lt. r.below k (omega (arith, lt)) ∙ b.low k lt)
    (λ k from to. r.below k to ∙ b.high k from (omega (arith, to))) refl refl refl refl refl refl refl refl refl refl refl in
    new_short new c.args.vcn true laid form c.args.child (child_some new c.args.vcn true laid c.in-Some.child refl
    c.put_u64.ensures.value ∙ sym c.in-Some.is)

pub returns-in-Some-clause-children : goal.returns-in-Some-clause-children
returns-in-Some-clause-children c =
    let b = c.begin_with-record.ensures in
    let r = c.put_u64.ensures.rest in
    let new = c.put_u64.new.bytes in
    let own = u64_at-same c.begin_with-record.result new 0x10 (λ k from to. r.below k (omega (arith, to))) ∙ b.own in
    let laid = laid_by new ABOVE c.args.vcn true (r.len ∙ b.len) own
    (λ k lt. r.below k (omega (arith, lt)) ∙ b.low k lt)
    (λ k from to. r.below k to ∙ b.high k from (omega (arith, to))) refl refl refl refl refl refl refl refl refl refl refl in
    new_children new c.args.vcn true laid ∙ ap is_some (sym c.in-Some.is)

pub returns-in-None-clause-len : goal.returns-in-None-clause-len
returns-in-None-clause-len c =
    let b = c.begin_with.ensures in
    let laid = laid_by c.begin_with.result LEAF c.args.vcn false b.len b.own b.low (λ k from to. b.high k from (omega (arith, to)))
    refl refl refl refl refl refl refl refl refl refl refl in
    new_len c.begin_with.result c.args.vcn false laid c.args.child ∙ ap (λ o. 16 + child_len (is_some o)) (sym c.in-None.is)

pub returns-in-None-clause-room : goal.returns-in-None-clause-room
returns-in-None-clause-room c =
    let b = c.begin_with.ensures in
    let laid = laid_by c.begin_with.result LEAF c.args.vcn false b.len b.own b.low (λ k from to. b.high k from (omega (arith, to)))
    refl refl refl refl refl refl refl refl refl refl refl in
    new_room c.begin_with.result c.args.vcn false laid

pub returns-in-Some-clause-len : goal.returns-in-Some-clause-len
returns-in-Some-clause-len c =
    let b = c.begin_with-record.ensures in
    let r = c.put_u64.ensures.rest in
    let new = c.put_u64.new.bytes in
    let own = u64_at-same c.begin_with-record.result new 0x10 (λ k from to. r.below k (omega (arith, to))) ∙ b.own in
    let laid = laid_by new ABOVE c.args.vcn true (r.len ∙ b.len) own
    (λ k lt. r.below k (omega (arith, lt)) ∙ b.low k lt)
    (λ k from to. r.below k to ∙ b.high k from (omega (arith, to))) refl refl refl refl refl refl refl refl refl refl refl in
    new_len new c.args.vcn true laid c.args.child ∙ ap (λ o. 16 + child_len (is_some o)) (sym c.in-Some.is)

pub returns-in-Some-clause-room : goal.returns-in-Some-clause-room
returns-in-Some-clause-room c =
    let b = c.begin_with-record.ensures in
    let r = c.put_u64.ensures.rest in
    let new = c.put_u64.new.bytes in
    let own = u64_at-same c.begin_with-record.result new 0x10 (λ k from to. r.below k (omega (arith, to))) ∙ b.own in
    let laid = laid_by new ABOVE c.args.vcn true (r.len ∙ b.len) own
    (λ k lt. r.below k (omega (arith, lt)) ∙ b.low k lt)
    (λ k from to. r.below k to ∙ b.high k from (omega (arith, to))) refl refl refl refl refl refl refl refl refl refl refl in
    new_room new c.args.vcn true laid
