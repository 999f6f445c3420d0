use Rattle.std.proofs.Common.{not, refl, ap, ◌∙◌}
use Rattle.mft_table.specs.declared.mounted.Mounted.{Mounted}
use Rattle.mft_table.specs.Mft.{mounted_of, view}
use Rattle.tree_model.specs.Facts.{is_whole_table}
use Rattle.tree_model.specs.Reading.{read}
use Rattle.tree_model.specs.Staging.{cannot_edit}
use Rattle.tree_edit.specs.Nodes.{number_of}
use Rattle.tree_edit.specs.Settable.{is_editable}
use Rattle.make_places.proofs.CopiedLaws.{editable-is}
use Rattle.make_places.proofs.FoundBoth.{found-once}
use Rattle.make_places.proofs.edits.can_edit_file.Goals as goal

pub returns-clause-can : goal.returns-clause-can
returns-clause-can g c =
    let held = c.args.held.now in
    let old = c.args.mft.now in
    found-once g.D.Disk (λ v. not (cannot_edit (is_whole_table v) (read v) (number_of held))) c.can_edit_parts.result
    (is_editable c.mounted.result.now held.parts) c.can_edit_parts.ensures.can c.can_edit_parts.ensures.memory
    (λ told. ap (λ (m : Mounted). is_editable m held.parts) c.mounted.ensures
    ∙ editable-is (view g.D.Disk old) (mounted_of g.D.Disk old) held (c.requires.file told) (c.requires.volume told).sound refl refl)
