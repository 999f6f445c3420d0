-- The names of a file as links, by its attributes.
use Rattle.std.specs.Prelude.{◌==◌, ℕ, Bool, List, [], Option, None, option_and_then, if◌then◌else◌}
use Rattle.std.specs.List.{filter_map, list_any}
use Rattle.ntfs_def.specs.Attribute.{Attribute, value_of}
use Rattle.ntfs_def.specs.declared.kinds.TheConstants.{FILE_NAME, REPARSE_POINT}
use Rattle.volume_def.specs.Files.{is_of, part_of}
use Rattle.file_record.specs.Held.{attributes_held}
use Rattle.file_record.specs.declared.parts.FileParts.{FileParts}
use Rattle.dir_index.specs.Links.{key_link}
use Rattle.tree_model.specs.declared.tree.Link.{Link}

abbrev pub attribute_link : ℕ → Attribute → Option Link
attribute_link file attribute =
    if attribute.kind == FILE_NAME then option_and_then (key_link file) (value_of attribute.body) else None

-- the names of a file that is held, and whether it has a reparse point
abbrev pub links_held : FileParts → List Link
links_held file = filter_map (attribute_link file.number) (attributes_held file)

abbrev pub has_point_held : FileParts → Bool
has_point_held file = list_any (λ attribute. is_of REPARSE_POINT [] (part_of 0 attribute)) (attributes_held file)
