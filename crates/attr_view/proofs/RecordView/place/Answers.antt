use Rattle.std.proofs.Common.{subst, sym, arith}
use Rattle.ntfs_def.specs.Shape.{HasShape}
use Rattle.ntfs_def.proofs.AttributeLaws.{length-attributes}
use Rattle.attr_view.proofs.RecordView.place.Goals as goal

pub place_in-requires-clause-shape : goal.place_in-requires-clause-shape
place_in-requires-clause-shape c =
    let view = c.args.self.now in
    subst (HasShape view.block.now) (sym (length-attributes view.block.now view.count view.shape)) view.shape

pub place_in-requires-clause-within : goal.place_in-requires-clause-within
place_in-requires-clause-within c =
    let view = c.args.self.now in
    omega (arith, c.requires, length-attributes view.block.now view.count view.shape)
