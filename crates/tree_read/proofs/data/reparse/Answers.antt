use Rattle.std.proofs.Common.{[], inl, refl, subst}
use Rattle.mft_table.specs.Mft.{view}
use Rattle.ntfs_def.specs.declared.kinds.TheConstants.{REPARSE_POINT}
use Rattle.tree_read.specs.Parts.{IsPartIfThere}
use Rattle.tree_read.proofs.GivesLaws.{at_once}
use Rattle.tree_read.proofs.DataLaws.{no-point}
use Rattle.tree_read.proofs.data.reparse.Goals as goal

pub returns-in-None : goal.returns-in-None
returns-in-None g c =
    let held = c.args.held.now in
    record {
      answered = at_once refl (λ told.
          inl (no-point (view g.D.Disk c.args.mft.now) held (c.requires.held told)
          (subst (IsPartIfThere held.parts REPARSE_POINT []) c.in-None.is c.find_part.ensures)));
    }
