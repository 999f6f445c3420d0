-- What a call gives that reads for a command, and what it keeps.
use Rattle.std.specs.Prelude.{◌≡◌, ◌⊎◌, ℕ, Result, Ok, Err, IsTrue}
use Rattle.vol_disk.specs.Count.{Rose}
use Rattle.vol_disk.specs.declared.Disk.{Ghosts}
use Rattle.volume_def.specs.View.{VolumeView}
use Rattle.mft_table.specs.declared.mft.Mft.{Mft}
use Rattle.mft_table.specs.Mft.{MftReads, faults_of, view}
use Rattle.file_record.specs.declared.error.FileNo.{FileNo}
use Rattle.file_record.specs.declared.error.FileNo.TheVariants as file
use Rattle.tree_model.specs.declared.reply.No.{No}
use Rattle.tree_model.specs.declared.reply.No.TheVariants as no
use Rattle.tree_read.specs.declared.stop.Stop.{Stop}
use Rattle.tree_read.specs.declared.stop.Stop.TheVariants as stop

-- what a failed read of a file is to a command
abbrev pub stop_of : FileNo → Stop
stop_of file.Device = stop.Device
stop_of file.NoRoom = stop.No no.Memory
stop_of file.MftFull = stop.No no.Memory
stop_of file.TooManyParts = stop.No no.Memory
stop_of file.Memory = stop.No no.Memory

-- a call fails by the disk or for want of memory alone
abbrev pub IsFailed : Stop → Type 0
IsFailed (stop.No refused) = refused ≡ no.Memory
IsFailed stop.Device = Unit {0}

-- The result is the wanted one. Want of memory may stand in its place, and of a failed device nothing is said.
abbrev pub Says : {A : Type 0} → Result A No → Result A Stop → Type 0
Says wanted (Ok x) = wanted ≡ Ok x
Says wanted (Err (stop.No refused)) = (wanted ≡ Err refused) ⊎ (refused ≡ no.Memory)
Says wanted (Err stop.Device) = Unit {0}

-- What is found is what was sought, and nothing is refused.
abbrev pub IsFound : {A : Type 0} → (A → Type 0) → Result A Stop → Type 0
IsFound Is (Ok x) = Is x
IsFound Is (Err why) = IsFailed why

-- what is told of a result, where there is one
abbrev pub with_ok : {A B : Type 0} → (A → B) → Result A Stop → Result B Stop
with_ok f (Ok x) = Ok (f x)
with_ok f (Err why) = Err why

-- what the disk's count of faults did
abbrev pub Counts : {A : Type 0} → Result A Stop → ℕ → ℕ → Type 0
Counts (Ok x) before after = after ≡ before
Counts (Err (stop.No refused)) before after = after ≡ before
Counts (Err stop.Device) before after = Rose before after

-- A CALL GIVES what is so of the volume, where its contents are told, and only reads.
pub record Gives {D A : Type 0} (g : Ghosts D) (old new : Mft D g) (Is : VolumeView → Result A Stop → Type 0) (result : Result A Stop)
    : Type 0 where
  pub reads : ℕ
  pub only : MftReads g old new reads
  pub counts : Counts result (faults_of g old) (faults_of g new)
  pub is : IsTrue (view g old).told → Is (view g old) result

-- It answers what the volume asks for ..
abbrev pub Answered : {D A : Type 0} (g : Ghosts D) → Mft D g → Mft D g → (VolumeView → Result A No) → Result A Stop → Type 0
Answered g old new wanted result = Gives g old new (λ volume given. Says (wanted volume) given) result

-- .. or finds what the volume tells so.
abbrev pub Finds : {D A : Type 0} (g : Ghosts D) → Mft D g → Mft D g → (VolumeView → A → Type 0) → Result A Stop → Type 0
Finds g old new Is result = Gives g old new (λ volume given. IsFound (Is volume) given) result
