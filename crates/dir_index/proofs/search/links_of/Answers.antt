use Rattle.std.proofs.Common.{◌++◌, ◌∷◌, [], take, ap, sym, ◌∙◌}
use Rattle.std.specs.List.{filter_map}
use Rattle.std.proofs.lemmas.List.{take_more}
use Rattle.std.proofs.lemmas.List.Elements.{filter_map-append}
use Rattle.dir_index.specs.Links.{link_in}
use Rattle.dir_index.proofs.search.links_of.Goals as goal

pub loop-entry-preserved : goal.loop-entry-preserved
loop-entry-preserved c =
    let entries = c.args.entries.now in
    let i = c.loop-entry.entry-index in
    let entry = c.entry-item.result in
    c.in_ok-put_link.ensures.links
    ∙ ap (λ one. c.loop-entry.links.items ++ filter_map link_in (one ∷ [])) c.as_slice.ensures
    ∙ ap (λ links. links ++ filter_map link_in (entry ∷ [])) c.loop-entry.invariant
    ∙ sym (filter_map-append link_in (take i entries) (entry ∷ []))
    ∙ ap (λ one. filter_map link_in (take i entries ++ one ∷ [])) c.entry-item.is
    ∙ ap (filter_map link_in) (sym (take_more entries i entry c.loop-entry-test.true))
