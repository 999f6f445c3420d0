use Rattle.std.proofs.Common.{◌≡◌, ◌∙◌, sym, subst, length}
use Rattle.std.specs.Prelude.{All, IsTrue}
use Rattle.check_dirs.specs.Seen.{links_of_entries}
use Rattle.check_dirs.proofs.SeenLaws.{all_links, link_count, links_all}
use Rattle.check_dirs.proofs.seen.Seen.are_all.Goals as goal

pub returns : goal.returns
returns c links met =
    let seen = c.args.self.now in
    let marks = seen.met.items in
    let all = links_of_entries seen.entries.items in
    let size : length marks ≡ length all = c.requires ∙ sym (link_count seen.entries.items) in
    let same = c.deref.ensures.value in (
      (λ yes. links_all marks all links size met (subst (All (λ mark. IsTrue mark)) same (c.all_set.ensures.0 yes))),
      λ is. c.all_set.ensures.1 (subst (All (λ mark. IsTrue mark)) (sym same) (all_links marks all links size met is)),
    )
