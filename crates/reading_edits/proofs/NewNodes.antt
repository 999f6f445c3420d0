-- What a file is that comes.
use Rattle.std.proofs.Common.{List, None, Some, [], ap, false, if◌then◌else◌, true, ℕ, ◌∙◌, ◌∷◌, ◌≡◌, ◌≤◌}
use Rattle.std.specs.Prelude.{option_map}
use Rattle.ntfs_def.specs.Units.{units_at}
use Rattle.ntfs_def.specs.declared.records.TheConstants.{FIRST_ORDINARY}
use Rattle.volume_def.specs.FileNames.{names_of}
use Rattle.volume_def.specs.Files.{Part, parts, records_of}
use Rattle.volume_def.specs.Values.{value_of_parts}
use Rattle.volume_def.specs.View.{VolumeView}
use Rattle.tree_model.specs.Effects.{new_node}
use Rattle.tree_model.specs.Reading.{node_at, others_of, point_of, streams_of}
use Rattle.edit_def.specs.Names.{Numbers, numbers_at}
use Rattle.edit_def.proofs.NodeLaws.{node-numbers, node_with}
use Rattle.name_edits.proofs.HiddenFiles.{unnamed-shown}
use Rattle.reading_edits.specs.NewFiles.{data_part, root_part, standard_part}
use Rattle.reading_edits.specs.Steps.{with_standard}

-- A file without a name, by its parts.
module _ (v : VolumeView) (f : ℕ) (n : Numbers) (at : numbers_at (records_of v) f ≡ Some n) (high : FIRST_ORDINARY ≤ f)
    (none : names_of (records_of v) f ≡ []) where
  node-of : (all : List Part) → parts (records_of v) f ≡ all → node_at v f ≡ Some (node_with v n.directory all)
  node-of all is =
      node-numbers v f
      ∙ ap (λ b. if b then None else option_map (λ (n : Numbers). node_with v n.directory (parts (records_of v) f)) (numbers_at
      (records_of v) f)) (unnamed-shown (records_of v) f high none)
      ∙ ap (option_map (λ (n : Numbers). node_with v n.directory (parts (records_of v) f))) at
      ∙ ap (λ all. Some (node_with v n.directory all)) is

  pub new-file : (id next : ℕ) (standard : List ℕ) → n.directory ≡ false
      → parts (records_of v) f ≡ standard_part f id standard ∷ data_part f next ∷ []
      → node_at v f ≡ Some (with_standard standard (new_node false 0 0))
  unfolding streams_of value_of_parts units_at others_of point_of
  new-file id next standard dir is =
      node-of (standard_part f id standard ∷ data_part f next ∷ []) is
      ∙ ap (λ d. Some (node_with v d (standard_part f id standard ∷ data_part f next ∷ []))) dir

  pub new-directory : (id next : ℕ) (standard root : List ℕ) → n.directory ≡ true
      → parts (records_of v) f ≡ standard_part f id standard ∷ root_part f next root ∷ []
      → node_at v f ≡ Some (with_standard standard (new_node true 0 0))
  unfolding streams_of others_of point_of
  new-directory id next standard root dir is =
      node-of (standard_part f id standard ∷ root_part f next root ∷ []) is
      ∙ ap (λ d. Some (node_with v d (standard_part f id standard ∷ root_part f next root ∷ []))) dir
