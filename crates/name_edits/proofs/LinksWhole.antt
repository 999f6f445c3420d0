-- The clause on links after a command, by what the command knows of the volume before it.
use Rattle.std.proofs.Common.{Bool, List, None, Some, [], false, length, true, ℕ, ◌+◌, ◌∷◌, ◌≡◌, ◌≤◌}
use Rattle.std.specs.Prelude.{count_by}
use Rattle.list_laws.specs.SameItems.{SameItems}
use Rattle.ntfs_def.specs.FileName.{FileName}
use Rattle.ntfs_def.specs.Record.{Reference}
use Rattle.volume_def.specs.FileNames.{is_dos, is_not_dos, names_of}
use Rattle.volume_def.specs.Files.{record_on, records_of}
use Rattle.volume_def.specs.LinksClause.{MeetsLinks, ReachesRoot}
use Rattle.volume_def.specs.View.{VolumeView}
use Rattle.tree_model.specs.Cases.{lies_in}
use Rattle.tree_model.specs.Hidden.{is_hidden}
use Rattle.tree_model.specs.Reading.{read}
use Rattle.tree_model.proofs.ClimbLaws.{IsDirectoryOf, IsShownDirectory}
use Rattle.tree_model.proofs.PathLaws.{few-links}
use Rattle.edit_def.specs.Names.{DropsNames, HasRightNames, Numbers, is_directory_in, numbers_at}
use Rattle.name_edits.specs.Renamed.{ChangesNames}
use Rattle.name_edits.proofs.LinksAfter.{links-gone, links-linked, links-made, links-moved, links-unlinked}
use Rattle.name_edits.proofs.OneChanged.{links-changed}
use Rattle.name_edits.proofs.RightNames.{directory-numbers, directory-of}
use Rattle.name_edits.proofs.WaysUp.{loops-past}

-- a reference to a directory is to one
pub directory-by : (v : VolumeView) (reference : Reference) → is_directory_in (records_of v) reference ≡ true
    → IsDirectoryOf v reference.number
directory-by v reference is = directory-of (record_on v reference.number) reference.sequence is

module _ (old new : VolumeView) (f : ℕ) (c : ChangesNames old new f) where
  pub whole-changed : ((numbers : Numbers) → numbers_at (records_of new) f ≡ Some numbers
      → HasRightNames f numbers (names_of (records_of new) f))
      → ((numbers : Numbers) → numbers_at (records_of new) f ≡ Some numbers → numbers.directory ≡ true → ReachesRoot (records_of new) f)
      → (n : ℕ) → MeetsLinks (records_of new) n
  whole-changed right rooted = links-changed old new f c.references c.links c.stand c.others c.away right
      (λ is. let n = directory-numbers (record_on new f) is in rooted n.0 n.1 n.2)

  pub whole-made : (name : FileName) (sequence : ℕ) (directory : Bool) → numbers_at (records_of old) f ≡ None → is_dos name ≡ false
      → is_directory_in (records_of old) name.parent ≡ true → SameItems (name ∷ []) (names_of (records_of new) f)
      → numbers_at (records_of new) f ≡ Some (record { sequence = sequence; links = 1; directory = directory })
      → (n : ℕ) → MeetsLinks (records_of new) n
  whole-made name sequence directory none plain parent items at =
      links-made old new f c.references c.links c.stand c.others c.away name sequence directory none plain
      (directory-by old name.parent parent) items at

  pub whole-linked : (name : FileName) (was : Numbers) → numbers_at (records_of old) f ≡ Some was → was.directory ≡ false
      → is_dos name ≡ false
      → SameItems (name ∷ names_of (records_of old) f) (names_of (records_of new) f)
      → numbers_at (records_of new) f ≡ Some (record was { links = was.links + 1 }) → (n : ℕ) → MeetsLinks (records_of new) n
  whole-linked = links-linked old new f c.references c.links c.stand c.others c.away

  pub whole-unlinked : (dir : ℕ) (gone : List FileName) (now : Numbers)
      → numbers_at (records_of old) f ≡ Some (record now { links = now.links + length gone }) → now.directory ≡ false
      → DropsNames dir gone (names_of (records_of old) f) (names_of (records_of new) f) → 1 ≤ length (names_of (records_of new) f)
      → numbers_at (records_of new) f ≡ Some now → (n : ℕ) → MeetsLinks (records_of new) n
  whole-unlinked = links-unlinked old new f c.references c.links c.stand c.others c.away

  pub whole-gone : numbers_at (records_of new) f ≡ None → (n : ℕ) → MeetsLinks (records_of new) n
  whole-gone = links-gone old new f c.references c.links c.stand c.others c.away

  -- by the machine's test, that the new place does not lie in the directory that moves
  pub whole-moved : (dir : ℕ) (gone left : List FileName) (name : FileName) (now : Numbers)
      → numbers_at (records_of old) f ≡ Some (record now { links = now.links + length gone })
      → DropsNames dir gone (names_of (records_of old) f) left → count_by is_not_dos gone ≡ 1 → is_dos name ≡ false
      → SameItems (name ∷ left) (names_of (records_of new) f) → is_directory_in (records_of old) name.parent ≡ true
      → is_hidden (records_of old) name.parent.number ≡ false
      → (now.directory ≡ true → lies_in (read old) (length (read old).links) f name.parent.number ≡ false)
      → numbers_at (records_of new) f ≡ Some (record now { links = now.links + 1 }) → (n : ℕ) → MeetsLinks (records_of new) n
  whole-moved dir gone left name now was_at drops one plain items parent shown apart at =
      let is = directory-by old name.parent parent in
      let up : IsShownDirectory old name.parent.number = record { directory = is; shown = shown } in
      links-moved old new f c.references c.links c.stand c.others c.away dir gone left name now was_at drops one plain items is
      (λ directory m climb. loops-past old c.references c.links f (length (read old).links) m name.parent.number climb up
      (few-links old c.references c.links m name.parent.number climb up) (apart directory)) at
