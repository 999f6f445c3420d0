use Rattle.std.proofs.Common.{ℕ, List, length}
use Rattle.ntfs_def.specs.Attribute.{attributes}
use Rattle.ntfs_def.specs.Shape.{HasShape}
use Rattle.ntfs_def.proofs.ShapeLaws.{HasShape-FailsAt}
use Rattle.attr_view.specs.View.{Refuses}
use Rattle.attr_view.specs.declared.ViewNo.{ViewNo}
use Rattle.attr_view.specs.declared.ViewNo.TheVariants.{Full, Shape}
use Rattle.file_record.proofs.attributes.resize_in.Goals as goal

refused : (block : List ℕ) (refusal : ViewNo) → HasShape block (length (attributes block)) → Refuses block refusal → ⊥
refused block (Shape at) shape fails = HasShape-FailsAt block _ at shape fails
refused block (Full need free) shape fails = fails

pub unreachable-requires-in-Err : goal.unreachable-requires-in-Err
unreachable-requires-in-Err c = refused c.args.block.now c.in-Err.field-0 c.requires.shape c.in-Err.ensures.err
