use Rattle.std.proofs.Common.{◌≡◌, ◌<◌, ◌/◌, length, ap, sym, ◌∙◌, arith}
use Rattle.std.specs.Prelude.{slice_index, unwrap_or}
use Rattle.std.proofs.lemmas.Option.{slice_get-get_or, unwrap_or-slice_get}
use Rattle.cluster_bitmap.proofs.FlagLaws.{length-flags_of, flag-tested}
use Rattle.cluster_bitmap.proofs.Bits.is_set.Goals as goal

pub index-requires : goal.index-requires
index-requires c =
    let e = length-flags_of c.self.inside.words.items c.self.inside.count in
    let within = rw (sym c.self.view_is) at c.requires in
    omega (arith, e, within, c.self.invariant.enough, c.self.inside.words.ok)

pub returns : goal.returns
returns c =
    let e = length-flags_of c.self.inside.words.items c.self.inside.count in
    let within = rw (sym c.self.view_is) at c.requires in
    let word : c.index.result.now ≡ slice_index c.self.inside.words.items (c.args.at / 64) =
    let words = c.self.inside.words.items in
    let l : c.args.at / 64 < length words = omega (arith, e, within, c.self.invariant.enough) in
    c.index.ensures ∙ sym (unwrap_or-slice_get words (c.args.at / 64) c.index.result.now)
    ∙ ap (λ o. unwrap_or o c.index.result.now) (slice_get-get_or words (c.args.at / 64) 0 l) in
    rw (sym c.self.view_is, word) (flag-tested c.self.inside.words.items c.self.inside.count c.args.at (omega (arith, e, within)))
