use Rattle.std.proofs.Common.{◌≡◌, Bool, not, refl, subst}
use Rattle.mft_table.specs.Mft.{view}
use Rattle.tree_model.specs.Facts.{is_whole_table}
use Rattle.tree_model.specs.Reading.{read}
use Rattle.tree_model.specs.Staging.{cannot_edit}
use Rattle.tree_edit.specs.Answered.{IsFound}
use Rattle.tree_edit.proofs.GivesLaws.{both, tells}
use Rattle.make_places.proofs.RecordBitsFile.{record_bits-file}
use Rattle.make_places.proofs.edits.can_edit_table.Goals as goal

pub load_file-requires-clause-file : goal.load_file-requires-clause-file
load_file-requires-clause-file g c = λ told. record_bits-file (view g.D.Disk c.args.mft.now) (c.requires.volume told).sound

pub returns : goal.returns
returns g c = tells (both c.in_ok-file.ensures.found c.can_edit_file.ensures.can) refl (λ told says.
    let v = view g.D.Disk c.args.mft.now in
    subst (λ n. IsFound (λ (b : Bool). b ≡ not (cannot_edit (is_whole_table v) (read v) n)) c.can_edit_file.result)
    c.in_ok-file.ensures.number says.1)
