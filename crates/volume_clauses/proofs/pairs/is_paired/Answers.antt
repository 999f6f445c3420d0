use Rattle.std.proofs.Common.{◌≡◌, ap, ◌∙◌, get_or}
use Rattle.std.proofs.lemmas.List.{get_or_default}
use Rattle.volume_clauses.specs.declared.pairs.NameKey.{NameKey}
use Rattle.volume_clauses.proofs.KeyLaws.{paired-beside}
use Rattle.volume_clauses.proofs.pairs.is_paired.Goals as goal

pub returns-else-keys-i-ne-DOS : goal.returns-else-keys-i-ne-DOS
returns-else-keys-i-ne-DOS c d =
    let keys = c.args.keys.now in
    let i = c.args.i in
    let key = get_or keys i d in
    let dos : key.namespace ≡ 2 = ap (λ (k : NameKey). k.namespace) (get_or_default keys i d _ c.requires.inside)
    ∙ c.if-keys-i-ne-DOS.false in
    let by = paired-beside keys i key c.requires.range c.requires.sorted c.requires.inside
    (get_or_default keys i key d c.requires.inside) dos in
    (λ yes _. by.0 (c.stands_beside.ensures.0 yes), λ p. c.stands_beside.ensures.1 (by.1 (p dos)))
