use Rattle.std.proofs.Common.{ℕ, Ok, Err, refl, subst}
use Rattle.mft_table.specs.Mft.{mounted_of, view}
use Rattle.tree_model.specs.Paths.{and_then, found_file, resolve}
use Rattle.tree_model.specs.Reading.{read}
use Rattle.tree_model.specs.Shown.{stream_of}
use Rattle.tree_model.specs.Tree.{node_of}
use Rattle.tree_read.specs.Answered.{Answered}
use Rattle.tree_read.specs.Nodes.{IsNodeHeld}
use Rattle.tree_read.specs.declared.stop.Stop.TheVariants as stop
use Rattle.tree_read.proofs.AnsweredLaws.{follows, stops}
use Rattle.tree_read.proofs.GivesLaws.{at_once, handed-on, in-use-kept, told-kept}
use Rattle.tree_read.proofs.LoadLaws.{case-kept}
use Rattle.tree_read.proofs.data.find_plain.Goals as goal

pub returns-in_err-reached : goal.returns-in_err-reached
returns-in_err-reached g c = record {
  answered = rw (handed-on c.from_residual.result c.in_err-reached.field-0.0 c.from_residual.ensures.1)
      (stops g.D.Disk (λ v. resolve (read v) c.args.path.now)
      (λ v found. and_then (stream_of (read v) c.args.name.now (node_of (read v) (found_file found))) (λ bytes. Ok (found_file found)))
      c.in_err-reached.field-0.0 c.in_err-reached.ensures.answered);
  last = c.resolve.ensures.last;
}

pub returns-in-Ok : goal.returns-in-Ok
returns-in-Ok g c = record {
  answered = follows g.D.Disk (λ v. resolve (read v) c.args.path.now)
      (λ v found. and_then (stream_of (read v) c.args.name.now (node_of (read v) (found_file found))) (λ bytes. Ok (found_file found)))
      c.in_ok-reached.reached.found _ c.in_ok-reached.ensures.answered
      (subst (λ (f : ℕ). Answered g.D.Disk c.resolve.new.mft c.resolve.new.mft
      (λ v. and_then (stream_of (read v) c.args.name.now (node_of (read v) f)) (λ bytes. Ok f)) (Ok c.in-Ok.file))
      c.in_ok-reached.ensures.number
      (at_once refl (λ told.
      c.in-Ok.ensures (view g.D.Disk c.resolve.new.mft)
      (told-kept (λ v. IsNodeHeld v c.in_ok-reached.reached.held) c.in_ok-reached.ensures.answered.only c.in_ok-reached.ensures.held told)
      (case-kept (view g.D.Disk c.resolve.new.mft) (mounted_of g.D.Disk c.resolve.new.mft) c.mounted.result.now c.mounted.ensures
      (in-use-kept c.in_ok-reached.ensures.answered.only c.requires.volume told)))));
  last = c.resolve.ensures.last;
}

pub returns-clause-answered : goal.returns-clause-answered
returns-clause-answered g c =
    follows g.D.Disk (λ v. resolve (read v) c.args.path.now)
    (λ v found. and_then (stream_of (read v) c.args.name.now (node_of (read v) (found_file found))) (λ bytes. Ok (found_file found)))
    c.in_ok-reached.reached.found _ c.in_ok-reached.ensures.answered
    (subst (λ (f : ℕ). Answered g.D.Disk c.resolve.new.mft c.resolve.new.mft
    (λ v. and_then (stream_of (read v) c.args.name.now (node_of (read v) f)) (λ bytes. Ok f)) (Err (stop.No c.in-Err.refused)))
    c.in_ok-reached.ensures.number
    (at_once refl (λ told.
    c.in-Err.ensures (view g.D.Disk c.resolve.new.mft)
    (told-kept (λ v. IsNodeHeld v c.in_ok-reached.reached.held) c.in_ok-reached.ensures.answered.only c.in_ok-reached.ensures.held told)
    (case-kept (view g.D.Disk c.resolve.new.mft) (mounted_of g.D.Disk c.resolve.new.mft) c.mounted.result.now c.mounted.ensures
    (in-use-kept c.in_ok-reached.ensures.answered.only c.requires.volume told)))))
