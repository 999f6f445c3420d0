use Rattle.std.proofs.Common.{refl, sym, ◌∙◌}
use Rattle.mft_table.specs.Mft.{view}
use Rattle.tree_model.specs.Reading.{read}
use Rattle.tree_read.specs.Nodes.{number_of}
use Rattle.tree_read.specs.Shown.{reparse_shown}
use Rattle.tree_read.specs.declared.data.TheConstants.{POINT}
use Rattle.tree_read.proofs.DataLaws.{packed-point, plain-point}
use Rattle.tree_read.proofs.AnsweredLaws.{answers-or}
use Rattle.tree_read.proofs.GivesLaws.{tells}
use Rattle.tree_read.proofs.data.read_point.Goals as goal

pub returns-in-None : goal.returns-in-None
returns-in-None g c =
    let held = c.args.held.now in
    record {
      answered = tells c.in_ok-read_begin.ensures.found refl (λ told so.
          packed-point (view g.D.Disk c.args.mft.now) held (c.requires.held told) POINT c.from_vec.result c.requires.point
          (sym so ∙ c.in-None.is) (c.from_vec.ensures ∙ c.new.ensures.items));
    }

pub returns-in-Some : goal.returns-in-Some
returns-in-Some g c =
    let held = c.args.held.now in
    record {
      answered = answers-or _ (λ v. reparse_shown (read v) (number_of held)) c.in_ok-read_begin.field-0 c.point_of.result
          c.in_ok-read_begin.ensures.found c.point_of.ensures.err
          (λ told so. plain-point (view g.D.Disk c.args.mft.now) held (c.requires.held told) POINT c.in-Some.value c.point_of.result
          c.requires.point (sym so ∙ c.in-Some.is) c.point_of.ensures.ok);
    }
