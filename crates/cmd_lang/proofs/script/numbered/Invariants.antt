use Rattle.std.proofs.Common.{◌≡◌, ◌∷◌, take}
use Rattle.cmd_lang.proofs.script.numbered.Given as goal

abbrev pub invariant-digits : goal.invariant-digits
invariant-digits l = l.units.items ≡ l.letter ∷ take l.digit-index l.digits
