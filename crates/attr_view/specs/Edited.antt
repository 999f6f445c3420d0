-- What a record shows that is edited.
use Rattle.std.specs.Prelude.{ℕ, List}
use Rattle.std.specs.Borrow.{GName}
use Rattle.attr_view.specs.declared.record_mut.RecordMut.{RecordMut}

-- its bytes
abbrev pub edited_block : RecordMut → List ℕ
edited_block edited = edited.block.now

-- the reference by which they are borrowed
abbrev pub reference_of : RecordMut → GName
reference_of edited = edited.block.ghost_name
