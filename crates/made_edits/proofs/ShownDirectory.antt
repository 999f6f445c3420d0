-- A DIRECTORY THAT IS SHOWN: its index, and the reference to it.
use Rattle.std.proofs.Common.{◌≡◌, ◌==◌, ℕ, true, None, Some, List, cond, refl, sym, ap, subst, ◌∙◌}
use Rattle.std.specs.Prelude.{IfSome, IsTrue}
use Rattle.std.proofs.lemmas.Bool.{and_from, eq-eqb}
use Rattle.ntfs_def.specs.Fixup.{opened_of}
use Rattle.ntfs_def.specs.Record.{header_of, sequence_of}
use Rattle.volume_def.specs.Files.{Record, is_base, is_directory, records_of}
use Rattle.volume_def.specs.IndexesClause.{IsDirectoryIndex}
use Rattle.volume_def.specs.Sound.{IsSound}
use Rattle.volume_def.specs.Sound as clauses
use Rattle.volume_def.specs.View.{VolumeView}
use Rattle.volume_def.proofs.PartLaws.{record_at-block}
use Rattle.root_puts.specs.Extensions.{reference_of}
use Rattle.tree_model.specs.Reading.{node_at}
use Rattle.tree_model.specs.declared.tree.Node.{Node}
use Rattle.tree_model.proofs.NamesLaws.{IsShown, is_shown}
use Rattle.edit_def.specs.Names.{is_directory_by, is_directory_in, numbers_at, numbers_by, numbers_in}
use Rattle.root_puts.proofs.StageLaws.{node-directory}

header-sequence : (block : List ℕ) → (header_of block).sequence ≡ sequence_of block
unfolding header_of
header-sequence block = refl

module _ (view : VolumeView) (dir : ℕ) (node : Node) (there : node_at view dir ≡ Some node) (directory : node.dir ≡ true) where
  abbrev s : IsShown view dir
  s = is_shown view dir node there

  numbers : numbers_at (records_of view) dir ≡ Some (numbers_in s.base)
  numbers = ap numbers_by s.at ∙ ap (λ b. cond b (Some (numbers_in s.base)) None) s.is

  pub is-directory : is_directory s.base ≡ true
  is-directory = node-directory view dir node (numbers_in s.base) there numbers ∙ directory

  pub directory-index : IsSound view → IsDirectoryIndex view dir
  directory-index sound =
      subst (λ o. IfSome o (λ r. IsTrue (is_base r) → IsTrue (is_directory r) → IsDirectoryIndex view dir)) s.at
      (sound clauses.Indexes dir).directory s.is is-directory

  sequence-is : s.base.header.sequence ≡ sequence_of (opened_of (view.block dir))
  sequence-is =
      sym (ap (λ (r : Record). r.header.sequence) (record_at-block view dir s.base s.at))
      ∙ header-sequence (opened_of (view.block dir))

  pub directory-reference : is_directory_in (records_of view) (reference_of view dir) ≡ true
  directory-reference =
      ap (λ o. is_directory_by o (sequence_of (opened_of (view.block dir)))) numbers
      ∙ and_from (is_directory s.base) (s.base.header.sequence == sequence_of (opened_of (view.block dir))) is-directory
      (eq-eqb s.base.header.sequence (sequence_of (opened_of (view.block dir))) sequence-is)
