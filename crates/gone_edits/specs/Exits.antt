-- AN ENTRY EXITS THE INDEX OF A DIRECTORY: a record of the index, or the root of one without records, whose value gets shorter in the
-- record of the directory.
-- Layout: Linux-NTFS documentation, attribute $INDEX_ROOT, concept "B*Trees"; Carrier, File System Forensic Analysis, chapter 13.
use Rattle.std.specs.Prelude.{◌⊎◌, ℕ, List}
use Rattle.volume_def.specs.View.{VolumeView}
use Rattle.index_takes.specs.TakesItem.{TakesItem}
use Rattle.root_takes.specs.Exits.{ExitsRoot}

-- Out of a record of the index, or out of the root.
abbrev pub ExitsIndex : VolumeView → VolumeView → ℕ → List ℕ → Type 0
ExitsIndex old new dir key = TakesItem old new dir key ⊎ ExitsRoot old new dir key
