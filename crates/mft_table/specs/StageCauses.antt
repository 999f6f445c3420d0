-- What a stage's refusal is to the callers of this crate.
use Rattle.vol_stage.specs.declared.error.StageNo.{StageNo}
use Rattle.vol_stage.specs.declared.error.StageNo.TheVariants as stage
use Rattle.mft_table.specs.declared.error.MftNo.{MftNo}
use Rattle.mft_table.specs.declared.error.MftNo.TheVariants as mft
use Rattle.mft_table.specs.declared.error.TableNo.{TableNo}
use Rattle.mft_table.specs.declared.error.TableNo.TheVariants as table

abbrev pub table_no : StageNo → TableNo
table_no stage.Device = table.Device
table_no stage.Memory = table.Memory

abbrev pub mft_no : StageNo → MftNo
mft_no stage.Device = mft.Device
mft_no stage.Memory = mft.Memory
