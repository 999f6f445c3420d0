-- The attributes of a file that are still to come.
use Rattle.std.specs.Prelude.{List, [], ◌++◌, Option, Some, None}
use Rattle.std.specs.List.{flat_map}
use Rattle.ntfs_def.specs.Attribute.{Attribute}
use Rattle.attr_view.specs.declared.Attributes.{Attributes}
use Rattle.attr_view.specs.Left.{attributes_left as left_in}
use Rattle.file_record.specs.declared.iter.FileAttributes.{FileAttributes}
use Rattle.file_record.specs.Held.{attributes_in}

-- of the record that is gone over
abbrev pub left_here : Option Attributes → List Attribute
left_here None = []
left_here (Some it) = left_in it

abbrev pub attributes_left : FileAttributes → List Attribute
attributes_left it = left_here it.here ++ flat_map attributes_in it.rest.now
