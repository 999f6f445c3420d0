use Rattle.std.proofs.Common.{◌≡◌, ◌+◌, ◌≤◌, length, drop, sym, ap, subst, ◌∙◌, arith}
use Rattle.std.proofs.lemmas.List.{take_at}
use Rattle.std.specs.Option.{option_map}
use Rattle.ntfs_def.specs.Attribute.{Attribute, attribute_len, extent_of}
use Rattle.volume_def.specs.Files.{content_of, content_runs}
use Rattle.attr_view.specs.View.{attribute_of}
use Rattle.extent_edits.specs.Bytes.{CutsAttribute}
use Rattle.extent_edits.proofs.AloneLaws.{attribute-alone, one-alone}
use Rattle.extent_edits.proofs.BytesLaws.{CutsAttribute-bytes, extent-means, extent-sized}
use Rattle.extent_edits.proofs.attribute.cut_attribute.Goals as goal

pub cut_bytes-requires-clause-one : goal.cut_bytes-requires-clause-one
cut_bytes-requires-clause-one c =
    let attr = c.args.attr.now in
    let raw = c.deref_mut.ensures.value ∙ c.in_ok-bytes.ensures.items ∙ c.bytes.ensures in
    let inside : attr.at + attribute_len attr.block.now attr.at ≤ length attr.block.now =
    omega (arith, attr.shape.below_used, attr.used, attr.size) in
    rw raw (one-alone attr.block.now attr.at attr.shape.whole inside)

pub cut_bytes-requires-clause-extent : goal.cut_bytes-requires-clause-extent
cut_bytes-requires-clause-extent c =
    let attr = c.args.attr.now in
    let raw = c.deref_mut.ensures.value ∙ c.in_ok-bytes.ensures.items ∙ c.bytes.ensures in
    let inside : attr.at + attribute_len attr.block.now attr.at ≤ length attr.block.now =
    omega (arith, attr.shape.below_used, attr.used, attr.size) in
    let alone = attribute-alone attr.block.now attr.at attr.shape.whole inside in
    let sized = sym c.sizes.ensures ∙ c.in-Some.is in
    rw raw (extent-sized (attribute_of attr).bytes c.in-Some.was
    (ap (λ (a : Attribute). option_map (λ extent. extent.sizes) (extent_of a.body)) alone ∙ sized)).0

pub cut_bytes-requires-clause-means : goal.cut_bytes-requires-clause-means
cut_bytes-requires-clause-means c =
    let attr = c.args.attr.now in
    let bytes = (attribute_of attr).bytes in
    let raw = c.deref_mut.ensures.value ∙ c.in_ok-bytes.ensures.items ∙ c.bytes.ensures in
    let inside : attr.at + attribute_len attr.block.now attr.at ≤ length attr.block.now =
    omega (arith, attr.shape.below_used, attr.used, attr.size) in
    let alone = attribute-alone attr.block.now attr.at attr.shape.whole inside in
    let one = one-alone attr.block.now attr.at attr.shape.whole inside in
    let sized = extent-sized bytes c.in-Some.was
    (ap (λ (a : Attribute). option_map (λ extent. extent.sizes) (extent_of a.body)) alone ∙ sym c.sizes.ensures ∙ c.in-Some.is) in
    let found = ap (λ (a : Attribute). content_runs (content_of a.body)) alone ∙ sym c.in_ok-runs.ensures ∙ c.in-Some-2.is in
    rw (raw, c.runs-2.ensures.runs) (extent-means bytes c.in-Some-2.runs one.len sized.0 found)

pub returns-clause-cut : goal.returns-clause-cut
returns-clause-cut c =
    let attr = c.args.attr.now in
    let bytes = (attribute_of attr).bytes in
    let new = c.cut_bytes.new.bytes in
    let raw = c.deref_mut.ensures.value ∙ c.in_ok-bytes.ensures.items ∙ c.bytes.ensures in
    let inside : attr.at + attribute_len attr.block.now attr.at ≤ length attr.block.now =
    omega (arith, attr.shape.below_used, attr.used, attr.size) in
    let alone = attribute-alone attr.block.now attr.at attr.shape.whole inside in
    let one = one-alone attr.block.now attr.at attr.shape.whole inside in
    let sized = extent-sized bytes c.in-Some.was
    (ap (λ (a : Attribute). option_map (λ extent. extent.sizes) (extent_of a.body)) alone ∙ sym c.sizes.ensures ∙ c.in-Some.is) in
    let found = ap (λ (a : Attribute). content_runs (content_of a.body)) alone ∙ sym c.in_ok-runs.ensures ∙ c.in-Some-2.is in
    let means = extent-means bytes c.in-Some-2.runs one.len sized.0 found in
    let cuts = rw (raw, c.runs-2.ensures.runs) at c.in_ok-cut_bytes.ensures in
    let can = rw (c.total_clusters.ensures, sym sized.1) at c.in-Some-sizes_at_end.ensures.can in
    let are = rw (sym sized.1) at c.in-Some-sizes_at_end.ensures.some in
    let cut = CutsAttribute-bytes bytes new c.in-Some-2.runs c.clusters_for.result c.args.cluster c.in-Some-sizes_at_end.sizes one sized.0
    means cuts c.args.size can c.clusters_for.ensures are in
    let long : length new ≡ c.in_ok-bytes.bytes.len = omega (arith, cuts.len, ap length c.bytes.ensures, c.in_ok-bytes.ensures.len) in
    rw (take_at new (drop (length new) c.in_ok-bytes.bytes.items) c.in_ok-bytes.bytes.len long)
    (subst (λ a. CutsAttribute c.args.cluster c.args.size a new) alone cut)
