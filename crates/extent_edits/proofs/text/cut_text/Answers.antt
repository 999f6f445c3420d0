use Rattle.std.proofs.Common.{◌<◌, None, drop, ◌∙◌, arith}
use Rattle.ntfs_def.specs.declared.run_text.Run.{Run}
use Rattle.ntfs_def.proofs.RunLaws.{rule_broken-none}
use Rattle.extent_edits.proofs.RunBytes.{length_width-some, run_width-at}
use Rattle.extent_edits.proofs.TextLaws.{CutsText-whole, CutsText-within, next-begins, next-inside}
use Rattle.extent_edits.proofs.text.cut_text.Goals as goal

abbrev none : Run
none = record { len = 0; lcn = None }

pub returns-then-left-eq0 : goal.returns-then-left-eq0
returns-then-left-eq0 c =
    let ends = c.end_of-at.ensures in
    CutsText-whole c.args.text.now c.clear_from.new.text c.args.runs.now c.args.count c.end_of-at.result.0 ends.whole ends.spells
    (rw c.if-left-eq0.true at ends.cut) c.clear_from.ensures

pub put_clusters-requires-clause-inside : goal.put_clusters-requires-clause-inside
put_clusters-requires-clause-inside c =
    let ends = c.end_of-at.ensures in
    let part = ends.part (omega (arith, c.if-left-eq0.false)) in
    omega (arith, next-inside c.args.text.now c.args.runs.now c.end_of-at.result.0 ends.whole none ends.spells part)

pub put_clusters-requires-clause-some : goal.put_clusters-requires-clause-some
put_clusters-requires-clause-some c =
    let ends = c.end_of-at.ensures in
    let part = ends.part (omega (arith, c.if-left-eq0.false)) in
    let first = next-begins c.args.text.now c.args.runs.now c.end_of-at.result.0 ends.whole none ends.spells part in
    length_width-some (drop c.end_of-at.result.0 c.args.text.now) (rule_broken-none _ _ _ first.good).nonempty

pub put_clusters-requires-clause-narrow : goal.put_clusters-requires-clause-narrow
put_clusters-requires-clause-narrow c =
    let ends = c.end_of-at.ensures in
    let part = ends.part (omega (arith, c.if-left-eq0.false)) in
    let first = next-begins c.args.text.now c.args.runs.now c.end_of-at.result.0 ends.whole none ends.spells part in
    (rule_broken-none _ _ _ first.good).length_narrow

pub put_clusters-requires-clause-fits : goal.put_clusters-requires-clause-fits
put_clusters-requires-clause-fits c = c.end_of-at.ensures.fits (omega (arith, c.if-left-eq0.false))

pub clear_from-requires-2 : goal.clear_from-requires-2
clear_from-requires-2 c =
    let ends = c.end_of-at.ensures in
    let at = c.end_of-at.result.0 in
    let part = ends.part (omega (arith, c.if-left-eq0.false)) in
    let rest = c.put_clusters.ensures.rest in
    let wide = run_width-at c.args.text.now c.put_clusters.new.text at (rest.below at (omega arith)) in
    omega (arith, wide, c.run_width.ensures, rest.len, next-inside c.args.text.now c.args.runs.now at ends.whole none ends.spells part)

pub returns : goal.returns
returns c =
    let ends = c.end_of-at.ensures in
    let at = c.end_of-at.result.0 in
    let some : 0 < c.end_of-at.result.1 = omega (arith, c.if-left-eq0.false) in
    let rest = c.put_clusters.ensures.rest in
    let wide = run_width-at c.args.text.now c.put_clusters.new.text at (rest.below at (omega arith)) in
    CutsText-within c.args.text.now c.args.runs.now at ends.whole none ends.spells (ends.part some)
    c.put_clusters.new.text c.clear_from-2.new.text c.args.count c.end_of-at.result.1 some (ends.less none some) ends.cut
    c.put_clusters.ensures.clusters rest (rw (c.run_width.ensures ∙ wide) at c.clear_from-2.ensures)
