use Rattle.std.proofs.Common.{length, ap, subst, sym, ◌∙◌}
use Rattle.ntfs_def.specs.Shape.{HasShape}
use Rattle.ntfs_def.proofs.AttributeLaws.{length-attributes}
use Rattle.file_record.proofs.held.Held.set_links.Goals as goal

pub invariant_of-self : goal.invariant_of-self
invariant_of-self c =
    let one = c.args.self.now in
    let set = c.set_links_in.ensures in
    let count = ap length set.attributes ∙ length-attributes one.block one.count one.shape in
    record { shape = subst (HasShape _) count set.shape }

pub set_links_in-requires : goal.set_links_in-requires
set_links_in-requires c =
    let one = c.args.self.now in
    subst (HasShape one.block) (sym (length-attributes one.block one.count one.shape)) one.shape
