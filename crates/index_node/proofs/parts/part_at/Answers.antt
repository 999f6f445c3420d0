use Rattle.std.proofs.Common.{◌≡◌, [], ◌++◌, Some, take, ap, ◌∙◌, arith, append-nil}
use Rattle.std.specs.Prelude.{is_some}
use Rattle.ntfs_def.specs.Node.{Node}
use Rattle.index_node.specs.Edit.{entries_len}
use Rattle.index_node.proofs.LenLaws.{keeps_room, child_most}
use Rattle.index_node.proofs.SplitLaws.{short_in}
use Rattle.index_node.proofs.parts.part_at.Goals as goal

pub returns-clause-left : goal.returns-clause-left
returns-clause-left c said is =
    let new = c.new_record in
    c.in-Ok.ensures.ok.node _ said (short_in c.args.form new.result _ (new.ensures.node c.args.form)) is
    ∙ ap (λ es. Some (let n : Node = record { entries = es; last = c.args.below } in n)) (append-nil (take c.args.m said.entries))

pub returns-clause-left_short : goal.returns-clause-left_short
returns-clause-left_short c said is =
    let new = c.new_record in
    c.in-Ok.ensures.ok.short _ said (new.ensures.node c.args.form) is
    ∙ ap (λ es. Some (let n : Node = record { entries = es; last = c.args.below } in n)) (append-nil (take c.args.m said.entries))

pub returns-clause-left_len : goal.returns-clause-left_len
returns-clause-left_len c said is =
    let new = c.new_record in
    let into = c.put_front.new.into in
    let e = c.in-Ok.ensures.ok.len _ said (short_in c.args.form new.result _ (new.ensures.node c.args.form)) is in
    let f : entries_len into (record { entries = take c.args.m said.entries ++ []; last = c.args.below }) ≡ entries_len into (record {
      entries = take c.args.m said.entries;
      last = c.args.below;
    }) =
    ap (λ es. entries_len into (record { entries = es; last = c.args.below })) (append-nil (take c.args.m said.entries)) in
    let few = new.ensures.len in
    let most = child_most (is_some c.args.below) in
    (omega (arith, e, f, few, most), omega (arith, e, f, few, most))

pub returns-clause-left_room : goal.returns-clause-left_room
returns-clause-left_room c = keeps_room c.new_record.result c.put_front.new.into c.in-Ok.ensures.ok.header ∙ c.new_record.ensures.room

pub returns-clause-left_opened : goal.returns-clause-left_opened
returns-clause-left_opened c = c.in-Ok.ensures.ok.opened c.args.vcn c.new_record.ensures.opened
