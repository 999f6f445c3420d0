use Rattle.std.proofs.Common.{◌≡◌, ◌++◌, drop, map}
use Rattle.tree_model.specs.Answers.{shown_stream}
use Rattle.plain_tree.proofs.answers.shown_streams.Given as goal

abbrev pub invariant-streams : goal.invariant-streams
invariant-streams l = l.shown.items ++ map shown_stream (drop l.stream-index l.streams) ≡ map shown_stream l.streams
