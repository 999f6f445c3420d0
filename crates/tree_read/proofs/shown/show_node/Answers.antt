use Rattle.std.proofs.Common.{ap, refl, ◌∙◌}
use Rattle.mft_table.specs.Mft.{view}
use Rattle.tree_model.specs.Reading.{read}
use Rattle.tree_read.specs.Nodes.{number_of}
use Rattle.tree_read.specs.Shown.{shown_by}
use Rattle.tree_read.proofs.GivesLaws.{at_once}
use Rattle.tree_read.proofs.shown.show_node.Goals as goal

pub returns-in-Attr : goal.returns-in-Attr
returns-in-Attr g c =
    let held = c.args.held.now in
    let v = view g.D.Disk c.args.mft.now in
    record {
      answered = at_once refl (λ told.
          ap (λ what. shown_by what (read v) c.args.opens.now (number_of held)) c.in-Attr.is ∙ c.attr.ensures v (c.requires.held told));
    }

pub returns-in-Sec : goal.returns-in-Sec
returns-in-Sec g c =
    let held = c.args.held.now in
    let v = view g.D.Disk c.args.mft.now in
    record {
      answered = at_once refl (λ told.
          ap (λ what. shown_by what (read v) c.args.opens.now (number_of held)) c.in-Sec.is ∙ c.sec.ensures v (c.requires.held told));
    }
