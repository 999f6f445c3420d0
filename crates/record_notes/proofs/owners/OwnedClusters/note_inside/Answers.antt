use Rattle.std.proofs.Common.{◌≡◌, ◌+◌, min, ap, sym, subst, ◌∙◌}
use Rattle.std.specs.Option.{option_or}
use Rattle.std.specs.Vec.{with_items}
use Rattle.std.proofs.lemmas.List.{with_items_is}
use Rattle.list_laws.specs.BitRanges.{Fills}
use Rattle.record_notes.specs.Owners.{CountsOwners, inside, noted_end}
use Rattle.record_notes.proofs.OwnersLaws.{Counts-filled}
use Rattle.record_notes.proofs.owners.OwnedClusters.note_inside.Goals as goal

pub returns-clause-noted : goal.returns-clause-noted
returns-clause-noted c = λ times counts.
    let old = c.args.self.now in
    let from = c.args.from in
    let end = c.args.end in
    let new = c.fill-found.new.bits in
    let found = c.fill-found.result in
    let value : c.deref_mut.result.now ≡ old.bits.items = c.deref_mut.ensures.value in
    let upto : c.min-end.result ≡ min end (noted_end old.clusters old.least) = c.min-end.ensures ∙ ap (min end) c.noted_end.ensures in
    let fills : Fills old.bits.items new from (min end (noted_end old.clusters old.least)) found =
    subst (λ n. Fills old.bits.items new from n found) upto
    (subst (λ xs. Fills xs new from c.min-end.result found) value c.fill-found.ensures) in
    let items : (with_items old.bits new).items ≡ new = with_items_is old.bits new (fills.len ∙ sym old.bits.ok.0) in
    subst (λ l. CountsOwners (λ k. times k + inside from end k) old.clusters (with_items old.bits new).items l) (sym c.or-self.ensures)
    (subst (λ xs. CountsOwners (λ k. times k + inside from end k) old.clusters xs (option_or found old.least)) (sym items)
    (Counts-filled times old.clusters old.bits.items new old.least found from end c.requires.end fills counts))
