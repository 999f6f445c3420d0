-- What an index shows, and what its calls answer.
use Rattle.std.specs.Prelude.{ℕ}
use Rattle.ntfs_def.specs.declared.index.NodeForm.{NodeForm}
use Rattle.index_node.specs.Blocks.{CountsNo as CountsBlockNo}
use Rattle.index_node.specs.declared.blocks.BlockNo.{BlockNo}
use Rattle.index_node.specs.declared.blocks.BlockNo.TheVariants.{Device as BlockDevice, NoRoom as BlockNoRoom, Memory as BlockMemory}
use Rattle.index_tree.specs.declared.Index.{Index}
use Rattle.index_tree.specs.declared.IndexNo.{IndexNo}
use Rattle.index_tree.specs.declared.IndexNo.TheVariants.{Device, NoRoom, Memory}

-- the order of its keys, what its entries are, and the most bytes of entries that an edit leaves in its root
abbrev pub order_of : {C : Type 0} → Index C → C
order_of index = index.order

abbrev pub form_of : {C : Type 0} → Index C → NodeForm
form_of index = index.form

abbrev pub limit_of : {C : Type 0} → Index C → ℕ
limit_of index = index.limit

-- the answer to a failed call on the records
abbrev pub index_no_of : BlockNo → IndexNo
index_no_of BlockDevice = Device
index_no_of BlockNoRoom = NoRoom
index_no_of BlockMemory = Memory

-- the failure of the records that an answer tells
abbrev pub block_no_of : IndexNo → BlockNo
block_no_of Device = BlockDevice
block_no_of NoRoom = BlockNoRoom
block_no_of Memory = BlockMemory

-- why a call that only reads fails: as a read of a record does
abbrev pub CountsNo : ℕ → ℕ → IndexNo → Type 0
CountsNo before after answer = CountsBlockNo before after (block_no_of answer)
