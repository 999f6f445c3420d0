-- The attributes of a record that are still to come.
use Rattle.std.specs.Prelude.{List, drop}
use Rattle.ntfs_def.specs.Attribute.{Attribute, attributes}
use Rattle.attr_view.specs.declared.Attributes.{Attributes}

abbrev pub attributes_left : Attributes → List Attribute
attributes_left it = drop it.next (attributes it.block.now)
