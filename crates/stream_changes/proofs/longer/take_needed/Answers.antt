use Rattle.std.proofs.Common.{◌*◌, [], Option, sym, subst, arith}
use Rattle.std.specs.Option.{option_to_list}
use Rattle.std.specs.Prelude.{sum_by}
use Rattle.std.proofs.lemmas.List.Sums.{sum_by-cons}
use Rattle.ntfs_def.specs.declared.run_text.Run.{Run}
use Rattle.mft_table.specs.Mft.{view}
use Rattle.edit_def.specs.Purses.{run_size}
use Rattle.stored_bits.specs.Given.{IsOfBits}
use Rattle.stored_bits.proofs.DeviceKept.{device-same}
use Rattle.tree_edit.specs.Staged.{StagesFew}
use Rattle.stream_changes.proofs.longer.take_needed.Goals as goal

pub returns-in-Some-clause-places : goal.returns-in-Some-clause-places
returns-in-Some-clause-places g c = λ told.
    let one = sum_by-cons run_size c.in-Some.run' [] in
    let few = c.take_run.ensures.few in
    subst (λ (o : Option Run). StagesFew g.D.Disk (2 * sum_by run_size (option_to_list o)) (IsOfBits (view g.D.Disk c.args.mft.now))
    c.args.mft.now c.take_run.new.mft) (sym c.in-Some.is)
    (record { few = omega (arith, few, one); only = c.take_run.ensures.places told })

pub returns-in-None-clause-device : goal.returns-in-None-clause-device
returns-in-None-clause-device g c = device-same g.D.Disk c.args.mft.now
