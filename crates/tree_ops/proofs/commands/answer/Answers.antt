use Rattle.std.proofs.Common.{subst, sym, ap, ◌∙◌}
use Rattle.mft_table.specs.Mft.{mounted_of, view}
use Rattle.tree_model.specs.Refusals.{is_edit}
use Rattle.tree_model.specs.Staging.{is_built}
use Rattle.tree_model.specs.Step.{Step}
use Rattle.tree_model.specs.declared.reply.Answer.TheVariants as a
use Rattle.tree_model.specs.declared.reply.Reply.TheVariants as reply
use Rattle.tree_model.proofs.MachineLaws.{unbuilt-step}
use Rattle.tree_read.proofs.RoomLaws.{df-answer}
use Rattle.tree_ops.specs.Wanted.{Does, command_by, machine_on}
use Rattle.tree_ops.proofs.EditLaws.{neither}
use Rattle.tree_ops.proofs.SessionLaws.{close-does, df-does, hread-does, open-does, sd-does, shown-does, time-step}
use Rattle.tree_ops.proofs.commands.answer.Goals as goal

pub returns-in-None-clause-does : goal.returns-in-None-clause-does
returns-in-None-clause-does g c facts told tells =
    unbuilt-step facts (machine_on (view g.D.Disk c.args.mft.now) c.args.opens.now c.args.moment.now) c.args.session c.args.command.now
    (neither (is_edit c.args.command.now) (is_built c.args.command.now) (c.of.ensures.none c.in-None.is) c.requires.plain)

pub returns-in-Some-Df-clause-does : goal.returns-in-Some-Df-clause-does
returns-in-Some-Df-clause-does g c facts told tells =
    let v = view g.D.Disk c.args.mft.now in
    let m = machine_on v c.args.opens.now c.args.moment.now in
    subst (λ command. Step facts m c.args.session command (reply.Ok c.df.result) m)
    (sym (c.in-Some-Df.ensures.is ∙ ap command_by c.in-Some-Df.field-0-is))
    (df-does facts v c.args.opens.now c.args.moment.now c.args.session c.df.result
    (df-answer v (mounted_of g.D.Disk c.args.mft.now) c.mounted.result.now facts c.df.result c.mounted.ensures c.df.ensures
    (c.requires.volume told) tells))

pub returns-in-Some-Shown-clause-does : goal.returns-in-Some-Shown-clause-does
returns-in-Some-Shown-clause-does g c facts told tells =
    let v = view g.D.Disk c.args.mft.now in
    let m = machine_on v c.args.opens.now c.args.moment.now in
    subst (λ command. Does facts m c.args.session command c.show_at.result m)
    (sym (c.in-Some-Shown.ensures.is ∙ ap command_by c.in-Some-Shown.field-0-is))
    (shown-does facts v c.args.opens.now c.args.moment.now c.args.session c.in-Some-Shown.path.now c.in-Some-Shown.what c.show_at.result
    (c.show_at.ensures.answered.is told))

pub returns-in-Some-Time-clause-does : goal.returns-in-Some-Time-clause-does
returns-in-Some-Time-clause-does g c facts told tells =
    let v = view g.D.Disk c.args.mft.now in
    let m = machine_on v c.args.opens.now c.args.moment.now in
    subst (λ command. Step facts m c.args.session command (reply.Ok a.Done) (machine_on v c.args.opens.now c.in-Some-Time.now))
    (sym (c.in-Some-Time.ensures.is ∙ ap command_by c.in-Some-Time.field-0-is))
    (time-step facts v c.args.opens.now c.args.moment.now c.args.session c.in-Some-Time.now)

pub returns-in-Some-Open-clause-does : goal.returns-in-Some-Open-clause-does
returns-in-Some-Open-clause-does g c facts told tells =
    let v = view g.D.Disk c.args.mft.now in
    let m = machine_on v c.args.opens.now c.args.moment.now in
    subst (λ command. Does facts m c.args.session command c.open.result (machine_on v c.open.new.opens c.args.moment.now))
    (sym (c.in-Some-Open.ensures.is ∙ ap command_by c.in-Some-Open.field-0-is))
    (open-does facts v c.args.opens.now c.args.moment.now c.args.session c.in-Some-Open.opening c.open.result c.open.new.opens told
    (c.open.ensures.answered.is told) c.open.ensures.opened c.open.ensures.kept)

pub returns-in-Some-Hread-clause-does : goal.returns-in-Some-Hread-clause-does
returns-in-Some-Hread-clause-does g c facts told tells =
    let v = view g.D.Disk c.args.mft.now in
    let m = machine_on v c.args.opens.now c.args.moment.now in
    subst (λ command. Does facts m c.args.session command c.hread.result m)
    (sym (c.in-Some-Hread.ensures.is ∙ ap command_by c.in-Some-Hread.field-0-is))
    (hread-does facts v c.args.opens.now c.args.moment.now c.args.session c.in-Some-Hread.handle c.in-Some-Hread.at c.in-Some-Hread.len
    c.hread.result (c.hread.ensures.answered.is told))

pub returns-in-Some-Close-clause-does : goal.returns-in-Some-Close-clause-does
returns-in-Some-Close-clause-does g c facts told tells =
    let v = view g.D.Disk c.args.mft.now in
    let m = machine_on v c.args.opens.now c.args.moment.now in
    subst (λ command. Does facts m c.args.session command c.close.result (machine_on v c.close.new.opens c.args.moment.now))
    (sym (c.in-Some-Close.ensures.is ∙ ap command_by c.in-Some-Close.field-0-is))
    (close-does facts v c.args.opens.now c.args.moment.now c.args.session c.in-Some-Close.handle c.close.result c.close.new.opens
    c.close.ensures.wanted c.close.ensures.closed c.close.ensures.kept)

pub returns-in-Some-Sd-clause-does : goal.returns-in-Some-Sd-clause-does
returns-in-Some-Sd-clause-does g c facts told tells =
    let v = view g.D.Disk c.args.mft.now in
    let m = machine_on v c.args.opens.now c.args.moment.now in
    let id = c.in-Some-Sd.id in
    subst (λ command. Does facts m c.args.session command c.sd.result m)
    (sym (c.in-Some-Sd.ensures.is ∙ ap command_by c.in-Some-Sd.field-0-is))
    (sd-does facts v c.args.opens.now c.args.moment.now c.args.session id c.sd.result
    (c.sd.ensures.told.is told (facts.descriptor id) (tells.descriptors id)))
