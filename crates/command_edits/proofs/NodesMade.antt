-- MAKE_NODE from the attributes of the file that came.
use Rattle.std.proofs.Common.{Bool, List, None, Some, [], ap, false, refl, true, ℕ, ◌∙◌, ◌∷◌, ◌≡◌, ◌≤◌}
use Rattle.ntfs_def.specs.declared.records.TheConstants.{FIRST_ORDINARY}
use Rattle.volume_def.specs.Files.{parts, record_on, records_of}
use Rattle.volume_def.specs.View.{VolumeView}
use Rattle.tree_model.specs.Effects.{new_node}
use Rattle.edit_def.specs.Account.{Wants}
use Rattle.edit_def.specs.Edited.{Edited}
use Rattle.edit_def.specs.Items.{HasItems}
use Rattle.edit_def.specs.Marks.{Marks}
use Rattle.edit_def.specs.Names.{ComesUnnamed}
use Rattle.reading_edits.specs.NewFiles.{data_part, root_part, standard_part}
use Rattle.reading_edits.specs.Steps.{with_standard}
use Rattle.reading_edits.proofs.NewNodes.{new-directory, new-file}
use Rattle.command_edits.specs.Calls.{IsNewStandard, MakesNode}
use Rattle.command_edits.specs.Keys.{is_key_of}

-- the node of a new file, by what its $STANDARD_INFORMATION tells
standard-node : (directory : Bool) (now security : ℕ) (standard : List ℕ) → IsNewStandard directory now security standard
    → with_standard standard (new_node directory 0 0) ≡ new_node directory now security
standard-node directory now security standard is = λ i. record (new_node directory 0 0) {
  times = is.times i;
  flags = is.flags i;
  security = is.id i;
}

module _ (wants : Wants) (old new : VolumeView) (before after : Marks) (f sequence now security id next : ℕ) (standard : List ℕ)
    (ordinary : FIRST_ORDINARY ≤ f) (unused : record_on old f ≡ None) (edited : Edited (is_key_of f) wants old new before after) where
  pub make-file : ComesUnnamed (records_of old) (records_of new) f (record { sequence = sequence; links = 0; directory = false })
      → parts (records_of new) f ≡ standard_part f id standard ∷ data_part f next ∷ [] → IsNewStandard false now security standard
      → MakesNode wants old new before after f false (new_node false now security)
  make-file comes all is = record {
    edited = edited;
    ordinary = ordinary;
    unused = unused;
    sequence = sequence;
    comes = comes;
    node_is = new-file new f _ comes.now_at ordinary comes.unnamed id next standard refl all
        ∙ ap Some (standard-node false now security standard is);
    index = λ never. cc;
  }

  pub make-directory : (root : List ℕ)
      → ComesUnnamed (records_of old) (records_of new) f (record { sequence = sequence; links = 0; directory = true })
      → parts (records_of new) f ≡ standard_part f id standard ∷ root_part f next root ∷ [] → IsNewStandard true now security standard
      → HasItems new f [] → MakesNode wants old new before after f true (new_node true now security)
  make-directory root comes all is items = record {
    edited = edited;
    ordinary = ordinary;
    unused = unused;
    sequence = sequence;
    comes = comes;
    node_is = new-directory new f _ comes.now_at ordinary comes.unnamed id next standard root refl all
        ∙ ap Some (standard-node true now security standard is);
    index = λ is_true. items;
  }
