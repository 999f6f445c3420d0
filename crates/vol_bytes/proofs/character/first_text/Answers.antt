use Rattle.std.proofs.Common.{◌++◌, drop, ap, sym, ◌∙◌}
use Rattle.std.specs.Prelude.{encode_utf8}
use Rattle.vol_bytes.specs.NameText.{name_text}
use Rattle.vol_bytes.proofs.NameLaws.{name_text-pair, name_text-unit}
use Rattle.vol_bytes.proofs.character.first_text.Goals as goal

pub returns-then-begins_with_pair-clause-printed : goal.returns-then-begins_with_pair-clause-printed
returns-then-begins_with_pair-clause-printed c =
    let found = c.begins_with_pair.ensures in
    let two = found.two c.if-begins_with_pair.true in
    name_text-pair c.args.units.now two (sym (found.pair two) ∙ c.if-begins_with_pair.true)
    ∙ ap (λ text. text ++ name_text (drop 2 c.args.units.now)) (sym (c.char_text.ensures ∙ ap encode_utf8 c.pair_char.ensures))

pub returns-clause-printed : goal.returns-clause-printed
returns-clause-printed c =
    name_text-unit c.args.units.now c.requires (λ two. sym (c.begins_with_pair.ensures.pair two) ∙ c.if-begins_with_pair.false)
    ∙ ap (λ text. text ++ name_text (drop 1 c.args.units.now)) (sym c.unit_text.ensures)
