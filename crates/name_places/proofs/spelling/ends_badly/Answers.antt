use Rattle.std.proofs.Common.{◌∷◌, [], sym, ◌∙◌}
use Rattle.name_places.proofs.SpellingLaws.{ends-by}
use Rattle.name_places.proofs.spelling.ends_badly.Goals as goal

pub returns-in-Some : goal.returns-in-Some
returns-in-Some c =
    c.ends_no_name.ensures
    ∙ sym (ends-by (46 ∷ 32 ∷ []) c.args.name.now c.in-Some.field-0-1.now c.in-Some.last.now c.in-Some.ensures.cases.0)
