-- QUIET CALLS, that leave all names and name nothing that the tree shows, nor an index or the table of case: as bits that are stored.
use Rattle.std.proofs.Common.{Bool, List, [], ap, arith, false, inl, inr, refl, sym, ℕ, ◌∙◌, ◌≡◌}
use Rattle.std.specs.Prelude.{codes}
use Rattle.ntfs_def.specs.Units.{wide}
use Rattle.ntfs_def.specs.declared.kinds.TheConstants.{DATA}
use Rattle.ntfs_def.specs.declared.records.TheConstants.{SECURE, UPCASE}
use Rattle.volume_def.specs.Files.{records_of}
use Rattle.volume_def.specs.IndexesClause.{is_in_extend}
use Rattle.volume_def.specs.Sound as clauses
use Rattle.volume_def.specs.View.{VolumeView}
use Rattle.tree_model.specs.Tree.{Tree}
use Rattle.edit_def.specs.Account.{Wants}
use Rattle.edit_def.specs.Edited.{Edited}
use Rattle.edit_def.specs.Kept.{Key, key_of}
use Rattle.edit_def.specs.Marks.{Marks}
use Rattle.edit_def.specs.Names.{KeepsNames}
use Rattle.edit_def.proofs.IndexLaws.{directory-same}
use Rattle.edit_def.proofs.LinkLaws.{links-kept}
use Rattle.edit_def.proofs.NamesLaws.{stand-of}
use Rattle.reading_edits.proofs.LinksAfter.{links-same}
use Rattle.reading_edits.proofs.ReferencesAfter.{references-kept}
use Rattle.reading_edits.specs.Steps.{LeavesShown}
use Rattle.reading_edits.proofs.CallsRead.{read-kept}
use Rattle.command_edits.specs.Between.{IsBetween, StandsAs}
use Rattle.command_edits.specs.Keys.{NamesNoIndex, no_key}
use Rattle.command_edits.proofs.AfterCall.{IsIndexKind, between-after, directory-was, items-same}
use Rattle.command_edits.proofs.SoundBetween.{between-bases, between-indexes, between-readable, between-references, between-sound, sound-by}

module _ (changed : Key → Bool) (wants : Wants) (old new : VolumeView) (before after : Marks)
    (edited : Edited changed wants old new before after) (kept : (g : ℕ) → KeepsNames (records_of old) (records_of new) g)
    (case : changed (key_of UPCASE DATA []) ≡ false) (indexes : NamesNoIndex changed) where
  free : (n kind : ℕ) (name : List ℕ) → IsIndexKind kind → changed (key_of n kind name) ≡ false
  free n kind name (inl e) = ap (λ k. changed (key_of n k name)) e ∙ indexes.root n name
  free n kind name (inr (inl e)) = ap (λ k. changed (key_of n k name)) e ∙ indexes.records n name
  free n kind name (inr (inr e)) = ap (λ k. changed (key_of n k name)) e ∙ indexes.bits n name

  pub between-quiet : IsBetween old → IsBetween new
  between-quiet between =
      let same = items-same changed wants old new before after edited between case in
      let name = wide (codes "$I30") in
      between-after changed wants old new before after edited between case
      (references-kept old new (between-references old between) edited.bases kept)
      (λ n numbers at dir. directory-same old new n (same n (indexes.root n name) (indexes.records n name) (indexes.bits n name))
      (links-kept old new kept) (directory-was old n numbers (between-indexes old between n) (sym (kept n).numbers ∙ at) dir))
      (λ n units some. let c = (kept n).names.counts (is_in_extend units) in omega (arith, c, some))
      (record {
        secure = λ units kind is of. free SECURE kind (wide units) of;
        others = λ n units kind is of some. free n kind (wide units) of;
      })

  pub stands-quiet : LeavesShown changed old → (tree : Tree) → StandsAs old tree → StandsAs new tree
  stands-quiet shown tree stands =
      let between = between-sound old stands.sound in
      let now = between-quiet between in
      record {
        sound = sound-by new now (links-same old new (stands.sound clauses.References refl) (stands.sound clauses.Links refl)
            (stand-of (records_of new) (between-references new now)) kept);
        reading = read-kept changed wants old new before after edited (between-readable old between)
            (between-bases old between) case shown kept
            ∙ stands.reading;
      }

-- one that names nothing but room
pub stands-stored : (wants : Wants) (old new : VolumeView) (before after : Marks) → Edited no_key wants old new before after
    → ((g : ℕ) → KeepsNames (records_of old) (records_of new) g) → (tree : Tree) → StandsAs old tree → StandsAs new tree
stands-stored wants old new before after edited kept tree stands =
    stands-quiet no_key wants old new before after edited kept refl
    (record { root = λ n name. refl; records = λ n name. refl; bits = λ n name. refl }) (λ g shown kind name seen. refl) tree stands
