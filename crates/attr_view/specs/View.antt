-- What the views show, in the terms of the layout.
use Rattle.std.specs.Prelude.{ℕ, List}
use Rattle.ntfs_def.specs.Attribute.{Attribute, attribute_at, attributes}
use Rattle.ntfs_def.specs.Shape.{FailsAt}
use Rattle.attr_view.specs.declared.AttrView.{AttrView}
use Rattle.attr_view.specs.declared.RecordView.{RecordView}
use Rattle.attr_view.specs.declared.ViewNo.{ViewNo}
use Rattle.attr_view.specs.declared.ViewNo.TheVariants.{Full, Shape}

-- the bytes of the record
abbrev pub viewed_block : RecordView → List ℕ
viewed_block view = view.block.now

-- the attributes of the record, in order
abbrev pub attributes_of : RecordView → List Attribute
attributes_of view = attributes (viewed_block view)

-- the bytes of the record that an attribute stands in, and its place in them
abbrev pub bytes_around : AttrView → List ℕ
bytes_around view = view.block.now

abbrev pub place_of : AttrView → ℕ
place_of view = view.at

-- the attribute that a view shows
abbrev pub attribute_of : AttrView → Attribute
attribute_of view = attribute_at (bytes_around view) (place_of view)

-- the block is refused so
abbrev pub Refuses : List ℕ → ViewNo → Type 0
Refuses block (Shape at) = FailsAt block at
Refuses block (Full need free) = ⊥
