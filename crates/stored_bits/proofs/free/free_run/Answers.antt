use Rattle.std.proofs.Common.{ℕ, None, Option, Some}
use Rattle.std.specs.Prelude.{IfNone}
use Rattle.std.proofs.lemmas.Option.{IfSome_then}
use Rattle.stored_bits.proofs.FreeRuns.{free-run, has-run, no-run}
use Rattle.stored_bits.proofs.free.free_run.Goals as goal

none_then : (r : Option ℕ) {P Q : Type 0} → IfNone r P → (P → Q) → IfNone r Q
none_then None there next = next there
none_then (Some at) there next = there

pub returns-clause-some : goal.returns-clause-some
returns-clause-some c =
    IfSome_then c.find_run.result c.find_run.ensures.some (λ at first view flags.
    free-run view c.args.bits.now flags c.args.count at c.requires.some first.free)

pub returns-clause-has : goal.returns-clause-has
returns-clause-has c =
    IfSome_then c.find_run.result c.find_run.ensures.some (λ at first view flags.
    has-run view c.args.count at c.requires.some (free-run view c.args.bits.now flags c.args.count at c.requires.some first.free))

pub returns-clause-none : goal.returns-clause-none
returns-clause-none c =
    none_then c.find_run.result c.find_run.ensures.none (λ none view flags. no-run view c.args.bits.now flags c.args.count none)
