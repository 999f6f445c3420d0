use Rattle.std.proofs.Common.{◌≡◌, map, ap, ◌∙◌, arith, true, false}
use Rattle.std.proofs.lemmas.List.Elements.{All-more}
use Rattle.record_notes.specs.Names.{told_name}
use Rattle.volume_clauses.proofs.ReferenceLaws.{HasDirectory, TellNames, all-parents, least-parent}
use Rattle.volume_clauses.proofs.references.first_wrong_parent.Goals as goal

pub returns-then-not-names_directory : goal.returns-then-not-names_directory
returns-then-not-names_directory c records ends heads names =
    let facts = c.facts-name-items.result.now in
    let tell : TellNames records facts = ap (map told_name) c.facts-name-items.ensures ∙ names in
    least-parent records facts c.loop-name.name-index _ ends tell (omega (arith, c.loop-name-test.true))
    (c.loop-name.invariant records ends heads)
    (λ has. let yes : c.names_directory.result ≡ true = (c.names_directory.ensures records ends heads).1 has in
    let none : c.names_directory.result ≡ false = c.if-not-names_directory.true in absurd (cc))

pub loop-name-preserved : goal.loop-name-preserved
loop-name-preserved c records ends heads =
    All-more (HasDirectory records) c.facts-name-items.result.now c.loop-name.name-index _ (omega (arith, c.loop-name-test.true))
    (c.loop-name.invariant records ends heads) ((c.names_directory.ensures records ends heads).0 c.if-not-names_directory.false)

pub returns : goal.returns
returns c records ends heads names =
    let facts = c.facts-name-items.result.now in
    let tell : TellNames records facts = ap (map told_name) c.facts-name-items.ensures ∙ names in
    all-parents records facts c.loop-name.name-index ends tell (omega (arith, c.loop-name-test.false))
    (c.loop-name.invariant records ends heads)
