use Rattle.std.proofs.Common.{◌*◌, length, not, ap, ◌∙◌}
use Rattle.std.specs.Prelude.{count_by}
use Rattle.cluster_bitmap.specs.Words.{clear_below}
use Rattle.cluster_bitmap.proofs.CountLaws.{count-flags}
use Rattle.cluster_bitmap.proofs.Bits.count_free.Goals as goal

pub returns : goal.returns
returns c =
    let words = c.self.inside.words.items in
    c.clear_bits.ensures ∙ ap (λ w. clear_below w (64 * length w)) c.deref.ensures.value
    ∙ count-flags words c.self.inside.count c.self.invariant ∙ ap (count_by not) c.self.view_is
