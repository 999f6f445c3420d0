use Rattle.std.proofs.Common.{◌≢◌, ℕ, get_or, ◌<◌}
use Rattle.cmd_lang.specs.declared.verb.Verb.{Verb}
use Rattle.cmd_lang.specs.Grammar.{verb_text}
use Rattle.cmd_lang.proofs.verb.verb_of.Given as goal

abbrev pub invariant-verbs : goal.invariant-verbs
invariant-verbs l = (k : ℕ) (d : Verb) → k < l.verb-index → l.word ≢ verb_text (get_or l.verb-items k d)
