use Rattle.std.proofs.Common.{refl, subst}
use Rattle.tree_model.specs.Reading.{read}
use Rattle.tree_read.specs.Answered.{Answered}
use Rattle.tree_read.specs.Nodes.{IsNodeHeld}
use Rattle.tree_read.specs.Shown.{hread_shown}
use Rattle.tree_read.proofs.AnsweredLaws.{says-failed}
use Rattle.tree_read.proofs.GivesLaws.{both, handed-on, in-use-kept, tells, told-kept}
use Rattle.tree_read.proofs.data.read_through.Goals as goal

pub returns-in_err-held : goal.returns-in_err-held
returns-in_err-held g c = record {
  answered = rw (handed-on c.from_residual.result c.in_err-held.field-0.0 c.from_residual.ensures.1)
      (tells c.in_err-held.ensures.found refl (λ told failed. says-failed _ c.in_err-held.field-0.0 failed));
}

pub held_range-requires-clause-volume : goal.held_range-requires-clause-volume
held_range-requires-clause-volume g c = in-use-kept c.in_ok-held.ensures.found.only c.requires.volume

pub held_range-requires-clause-held : goal.held_range-requires-clause-held
held_range-requires-clause-held g c =
    told-kept (λ v. IsNodeHeld v c.in_ok-held.held) c.in_ok-held.ensures.found.only c.in_ok-held.ensures.found.is

pub returns : goal.returns
returns g c = record {
  answered = tells (both c.in_ok-held.ensures.found
      (subst (λ f. Answered g.D.Disk c.load_node.new.mft c.held_range.new.mft
      (λ v. hread_shown (read v) c.args.entry.now.stream c.args.at c.args.len f) c.held_range.result)
      c.in_ok-held.ensures.number c.held_range.ensures.answered)) refl (λ told so. so.1);
}
