use Rattle.std.proofs.Common.{◌≡◌, ◌<◌, ◌≤◌, ◌+◌, Vec, Global, length, take, get_or, subst, sym, ap, ◌∙◌, arith}
use Rattle.std.proofs.lemmas.List.{get_or_default, length-set}
use Rattle.record_notes.specs.declared.names.NameFact.{NameFact}
use Rattle.volume_clauses.specs.declared.tallies.Tally.{Tally}
use Rattle.volume_clauses.specs.Tallies.{IsTally, places_in_file, tally_at}
use Rattle.volume_clauses.proofs.TallyLaws.{places-few, tallies-more, tallies-past}
use Rattle.volume_clauses.proofs.tallies.tallies_of.Goals.{then-file-len, else-file-len}
use Rattle.volume_clauses.proofs.tallies.tallies_of.Goals as goal

abbrev none : NameFact
none = record { holder = 0; file = 0; parent = 0; namespace = 0 }

pub with_name-requires-clause-names : goal.with_name-requires-clause-names
with_name-requires-clause-names c =
    let i = c.loop-name.name-index in
    let facts = c.facts-name-items.result.now in
    let old = c.loop-name.tallies.items in
    let file = (get_or facts i none).file in
    let inside : file < length old = omega (arith, c.if-file-len.true, c.len.ensures, c.loop-name.tallies.ok.0) in
    let same : c.index.result.now ≡ tally_at old file = c.index.ensures ∙ get_or_default old file _ _ inside in
    let few = places-few file facts i (tally_at old file) (omega arith)
    (c.loop-name.invariant.each file (omega (arith, c.loop-name.invariant.all))) in
    let n : c.index.result.now.names ≤ i = subst (λ (t : Tally). t.names ≤ i) (sym same) few.0 in
    omega arith

pub with_name-requires-clause-not_dos : goal.with_name-requires-clause-not_dos
with_name-requires-clause-not_dos c =
    let i = c.loop-name.name-index in
    let facts = c.facts-name-items.result.now in
    let old = c.loop-name.tallies.items in
    let file = (get_or facts i none).file in
    let inside : file < length old = omega (arith, c.if-file-len.true, c.len.ensures, c.loop-name.tallies.ok.0) in
    let same : c.index.result.now ≡ tally_at old file = c.index.ensures ∙ get_or_default old file _ _ inside in
    let few = places-few file facts i (tally_at old file) (omega arith)
    (c.loop-name.invariant.each file (omega (arith, c.loop-name.invariant.all))) in
    let n : c.index.result.now.not_dos ≤ i = subst (λ (t : Tally). t.not_dos ≤ i) (sym same) few.1 in
    omega arith

pub loop-name-preserved : goal.loop-name-preserved
loop-name-preserved c =
    let i = c.loop-name.name-index in
    let facts = c.facts-name-items.result.now in
    let old = c.loop-name.tallies.items in
    let file = (get_or facts i none).file in
    let inv = c.loop-name.invariant in
    let here : i < length facts = omega (arith, c.loop-name-test.true) in
    elim c.if-file-len.branch [
      | then-file-len w ↦
          let items = ap (λ (v : Vec Tally Global). v.items) w.tallies-is in
          let inside : file < length old = omega (arith, w.if-file-len.true, c.len.ensures, c.loop-name.tallies.ok.0) in
          let same : w.index.result.now ≡ tally_at old file = w.index.ensures ∙ get_or_default old file _ _ inside in
          record {
            all = ap length items ∙ length-set old file w.with_name.result ∙ inv.all;
            each = λ f l. subst (λ xs. IsTally (places_in_file f (take (i + 1) facts)) (tally_at xs f)) (sym items)
                (tallies-more facts i c.args.count none old w.with_name.result here inv.all inv.each (omega (arith, inv.all))
                (w.with_name.ensures _
                (subst (IsTally (places_in_file file (take i facts))) (sym same) (inv.each file (omega (arith, inv.all))))) f l);
          }
      | else-file-len w ↦
          let items = ap (λ (v : Vec Tally Global). v.items) w.tallies-is in
          record {
            all = ap length items ∙ inv.all;
            each = λ f l. subst (λ xs. IsTally (places_in_file f (take (i + 1) facts)) (tally_at xs f)) (sym items)
                (tallies-past facts i c.args.count none old here inv.each
                (omega (arith, w.if-file-len.false, c.len.ensures, c.loop-name.tallies.ok.0, inv.all)) f l);
          }
    ]
