use Rattle.std.proofs.Common.{ap, ◌∙◌}
use Rattle.ntfs_def.specs.Flags.{is_packed}
use Rattle.ntfs_def.specs.Units.{units_in}
use Rattle.attr_view.specs.View.{attribute_of}
use Rattle.sparse_io.proofs.KeptLaws.{kept-by}
use Rattle.sparse_io.proofs.held.keep.Goals as goal

pub returns : goal.returns
returns c n =
    let a = attribute_of c.args.attribute.now in
    kept-by c.args.place (c.from_vec.ensures ∙ c.in_ok-read_units.ensures ∙ ap units_in c.name.ensures)
    (c.is_packed.ensures ∙ ap (λ k. is_packed k c.flags.result) c.kind.ensures ∙ ap (is_packed a.kind) c.flags.ensures)
    c.real_size.ensures
