use Rattle.std.proofs.Common.{subst}
use Rattle.mft_table.specs.Mft.{view}
use Rattle.tree_model.specs.Facts.{TellsDescriptor}
use Rattle.tree_ops.proofs.DescriptorLaws.{shown-says}
use Rattle.name_changes.proofs.SoundLaws.{sound-readable}
use Rattle.tree_ops.proofs.security.sd.Goals as goal

pub descriptor-requires : goal.descriptor-requires
descriptor-requires g c = record {
  readable = λ told. sound-readable (view g.D.Disk c.args.mft.now) (c.requires.volume told).sound;
}

pub returns-in-Ok-Some : goal.returns-in-Ok-Some
returns-in-Ok-Some g c =
    let e = c.in-Ok-Some.ensures in
    let v = view g.D.Disk c.args.mft.now in
    record {
      told = record {
        reads = e.reads.0;
        only = e.reads.1;
        counts = e.faults;
        is = λ told found tells. shown-says v c.args.id found tells c.in-Ok-Some.bytes
            (subst (TellsDescriptor v c.args.id) c.in-Ok-Some.field-0-is (e.told told));
      };
    }
