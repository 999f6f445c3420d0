use Rattle.std.proofs.Common.{ap, ◌∙◌, ◌++◌, List, ℕ, length, ◌≡◌, arith, append_assoc}
use Rattle.record_bytes.specs.AttributeBytes.{extent_bytes, extent_header, padded_bytes}
use Rattle.record_bytes.proofs.ExtentLaws.{IsStream-bytes}
use Rattle.record_bytes.proofs.attribute.non_resident.Goals as goal

abbrev after : List ℕ → List ℕ → List ℕ
after more x = x ++ more

pub returns : goal.returns
unfolding extent_bytes
returns c =
    let runs = c.in_ok-runs.runs.items in
    let header : List ℕ = extent_header c.args.kind c.args.name.now c.args.id c.args.sizes (length runs) in
    let count : c.len.result ≡ length runs = omega (arith, c.len.ensures, c.deref.ensures.len, ap length c.deref.ensures.value) in
    let bytes : c.extend_from_slice.new.self.items ≡ extent_bytes c.args.kind c.args.name.now c.args.id c.args.sizes runs =
    c.in_ok-extend_from_slice.ensures.items ∙ ap (λ t. c.push_padded.new.text.items ++ t) c.deref.ensures.value
    ∙ ap (after runs) (c.in_ok-push_padded.ensures ∙ ap (after (padded_bytes c.args.name.now)) (
    c.in_ok-push_extent_header.ensures.bytes
    ∙ ap (λ t. t ++ extent_header c.args.kind c.args.name.now c.args.id c.args.sizes c.len.result) c.new-text.ensures.items
    ∙ ap (λ n. extent_header c.args.kind c.args.name.now c.args.id c.args.sizes n) count))
    ∙ append_assoc header (padded_bytes c.args.name.now) runs in
    let is = IsStream-bytes c.args.kind c.args.name.now c.args.id c.args.sizes c.args.run runs _ c.ranges.kind.fits c.ranges.id.fits
    c.in_ok-push_extent_header.ensures.fits c.requires.name c.requires.even c.in_ok-runs.ensures.short c.in_ok-runs.ensures.multiple
    c.requires.kind c.requires.some c.requires.few c.requires.reach c.in_ok-runs.ensures.text bytes in
    record { bytes = is.is; one = is.one; part = is.part; len = omega (arith, is.len, c.in_ok-runs.ensures.short); aligned = is.aligned }
