use Rattle.std.proofs.Common.{◌+◌, ◌^◌, ◌≤◌, length, sym, ap, subst, ◌∙◌, arith}
use Rattle.std.specs.Option.{option_map}
use Rattle.ntfs_def.specs.Attribute.{Attribute, attribute_len, extent_of}
use Rattle.volume_def.specs.Files.{content_of, content_runs}
use Rattle.attr_view.specs.View.{attribute_of}
use Rattle.data_runs.proofs.PieceLaws.{length-IsRunList, total-is}
use Rattle.ntfs_def.specs.Runs.{total_clusters}
use Rattle.extent_edits.specs.Bytes.{ExtendsAttribute}
use Rattle.extent_edits.proofs.AloneLaws.{attribute-alone, length-attribute, one-alone}
use Rattle.extent_edits.proofs.BytesLaws.{extent-means, extent-sized}
use Rattle.extent_edits.proofs.LongerBytes.{ExtendsAttribute-bytes}
use Rattle.extent_edits.proofs.longer.extend_attribute.Goals as goal

pub longer_bytes-requires-clause-one : goal.longer_bytes-requires-clause-one
longer_bytes-requires-clause-one c =
    let attr = c.args.attr.now in
    let inside : attr.at + attribute_len attr.block.now attr.at ≤ length attr.block.now =
    omega (arith, attr.shape.below_used, attr.used, attr.size) in
    rw c.bytes.ensures (one-alone attr.block.now attr.at attr.shape.whole inside)

pub longer_bytes-requires-clause-few : goal.longer_bytes-requires-clause-few
longer_bytes-requires-clause-few c =
    let attr = c.args.attr.now in
    let inside : attr.at + attribute_len attr.block.now attr.at ≤ length attr.block.now =
    omega (arith, attr.shape.below_used, attr.used, attr.size) in
    omega (arith, ap length c.bytes.ensures, length-attribute attr.block.now attr.at attr.shape.whole inside, inside, attr.size)

pub longer_bytes-requires-clause-extent : goal.longer_bytes-requires-clause-extent
longer_bytes-requires-clause-extent c =
    let attr = c.args.attr.now in
    let inside : attr.at + attribute_len attr.block.now attr.at ≤ length attr.block.now =
    omega (arith, attr.shape.below_used, attr.used, attr.size) in
    let alone = attribute-alone attr.block.now attr.at attr.shape.whole inside in
    let sized = sym c.sizes.ensures ∙ c.in-Some.is in
    rw c.bytes.ensures (extent-sized (attribute_of attr).bytes c.in-Some.was
    (ap (λ (a : Attribute). option_map (λ extent. extent.sizes) (extent_of a.body)) alone ∙ sized)).0

pub longer_bytes-requires-clause-means : goal.longer_bytes-requires-clause-means
longer_bytes-requires-clause-means c =
    let attr = c.args.attr.now in
    let bytes = (attribute_of attr).bytes in
    let inside : attr.at + attribute_len attr.block.now attr.at ≤ length attr.block.now =
    omega (arith, attr.shape.below_used, attr.used, attr.size) in
    let alone = attribute-alone attr.block.now attr.at attr.shape.whole inside in
    let one = one-alone attr.block.now attr.at attr.shape.whole inside in
    let sized = extent-sized bytes c.in-Some.was
    (ap (λ (a : Attribute). option_map (λ extent. extent.sizes) (extent_of a.body)) alone ∙ sym c.sizes.ensures ∙ c.in-Some.is) in
    let found = ap (λ (a : Attribute). content_runs (content_of a.body)) alone ∙ sym c.in_ok-runs.ensures ∙ c.in-Some-2.is in
    rw c.bytes.ensures (extent-means bytes c.in-Some-2.runs one.len sized.0 found)

pub returns-clause-extended : goal.returns-clause-extended
returns-clause-extended c =
    let attr = c.args.attr.now in
    let bytes = (attribute_of attr).bytes in
    let new = c.in_ok-bytes.bytes.items in
    let all = c.in-Some-3.all in
    let inside : attr.at + attribute_len attr.block.now attr.at ≤ length attr.block.now =
    omega (arith, attr.shape.below_used, attr.used, attr.size) in
    let alone = attribute-alone attr.block.now attr.at attr.shape.whole inside in
    let one = one-alone attr.block.now attr.at attr.shape.whole inside in
    let sized = extent-sized bytes c.in-Some.was
    (ap (λ (a : Attribute). option_map (λ extent. extent.sizes) (extent_of a.body)) alone ∙ sym c.sizes.ensures ∙ c.in-Some.is) in
    let found = ap (λ (a : Attribute). content_runs (content_of a.body)) alone ∙ sym c.in_ok-runs.ensures ∙ c.in-Some-2.is in
    let means = extent-means bytes c.in-Some-2.runs one.len sized.0 found in
    let few : total_clusters all ≤ 2 ^ 62 =
    omega (
      arith,
      length-IsRunList c.all.inside.runs.items c.all.invariant,
      total-is c.all.inside.runs.items,
      ap total_clusters c.all.view_is,
    ) in
    let can = rw (c.total_clusters.ensures, sym sized.1) at c.in-Some-sizes_over.ensures.can in
    let are = rw c.total_clusters.ensures at c.in-Some-sizes_over.ensures.some in
    let is = rw c.in-Some-3.is at c.in_ok-all.ensures.some in
    subst (λ a. ExtendsAttribute c.args.cluster c.args.real c.args.initialized c.args.run a new) alone
    (ExtendsAttribute-bytes bytes new c.in-Some-2.runs all c.args.run c.args.cluster c.args.real c.args.initialized
    c.in-Some-sizes_over.sizes one sized.0 means is few (rw c.bytes.ensures at c.in_ok-bytes.ensures.tells)
    (rw c.bytes.ensures at c.in_ok-bytes.ensures.most) (rw c.bytes.ensures at c.in_ok-bytes.ensures.same) can are)
