-- A file that is shown, and the directories of its names.
use Rattle.std.proofs.Common.{◌≡◌, ◌≢◌, inl, inr, ℕ, ◌≤◌, Bool, true, false, List, Option, Some, None, IsSome, refl, sym, ap, subst, ◌∙◌}
use Rattle.std.specs.List.{All}
use Rattle.std.proofs.lemmas.Bool.{cases_lt}
use Rattle.ntfs_def.specs.declared.records.TheConstants.{FIRST_ORDINARY, ROOT}
use Rattle.volume_def.specs.CaseClause.{volume_fold}
use Rattle.volume_def.specs.FileNames.{names_of}
use Rattle.volume_def.specs.Files.{records_of}
use Rattle.volume_def.specs.Sound.{IsSound, Links, References}
use Rattle.volume_def.specs.View.{VolumeView}
use Rattle.list_laws.proofs.MemberLaws.{All-from_Contains, Contains-from_map}
use Rattle.list_laws.specs.Ordered.{in_order}
use Rattle.tree_model.specs.Reading.{link_for, links_to, node_at, read}
use Rattle.tree_model.specs.Tree.{link_above, node_of}
use Rattle.tree_model.specs.declared.tree.Link.{Link}
use Rattle.tree_model.specs.declared.tree.Node.{Node}
use Rattle.tree_model.proofs.ClimbLaws.{IsShownDirectory, shown-parent}
use Rattle.tree_model.proofs.HiddenLaws.{hidden-system}
use Rattle.tree_model.proofs.NamesLaws.{IsShown, is_shown}
use Rattle.list_laws.proofs.OrderedLaws.{Contains-from_in_order}
use Rattle.tree_model.proofs.ReadingLaws.{node_of-read}
use Rattle.ntfs_def.specs.KeyOrder.{fold_of}
use Rattle.file_record.specs.declared.base.BaseFile.{BaseFile}
use Rattle.tree_read.specs.FileLinks.{links_held}
use Rattle.tree_read.specs.Nodes.{IsCaseOf, IsNodeHeld, number_of}
use Rattle.tree_read.proofs.NodeLaws.{file-held}
use Rattle.tree_read.proofs.OutlineLaws.{links-told}

-- The file has a node.
pub record HasNode (view : VolumeView) (f : ℕ) : Type 0 where
  pub node : Node
  pub at : node_at view f ≡ Some node

pub has-node : (view : VolumeView) (f : ℕ) → IsSome (node_of (read view) f) → HasNode view f
has-node view f some = by (node_at view f) refl (subst IsSome (node_of-read view f) some)
  where
    by : (o : Option Node) → node_at view f ≡ o → IsSome o → HasNode view f
    by None at h = cc
    by (Some node) at h = record { node = node; at = at }

module _ (view : VolumeView) (sound : IsSound view) (f : ℕ) (has : HasNode view f) where
  is : IsShown view f
  is = is_shown view f has.node has.at

  ordinary : f ≢ ROOT → FIRST_ORDINARY ≤ f
  ordinary ne = elim (cases_lt f FIRST_ORDINARY) [
    | inl low ↦ let e = hidden-system (records_of view) f low ne in let s = is.shown in absurd (differ e s)
    | inr high ↦ high
  ]
    where
      differ : {b : Bool} → b ≡ true → b ≡ false → ⊥
      differ e s = let g = sym e ∙ s in cc

  pub shown-directories : f ≢ ROOT
      → All (λ (link : Link). IsShownDirectory view link.parent) (in_order (link_above (volume_fold view)) (links_to view f))
  shown-directories ne =
      All-from_Contains (λ (link : Link). IsShownDirectory view link.parent) (in_order (link_above (volume_fold view)) (links_to view f))
      (λ link c.
      let w = Contains-from_map (link_for f) (names_of (records_of view) f) link
      (Contains-from_in_order (link_above (volume_fold view)) (links_to view f) link c) in
      subst (λ (l : Link). IsShownDirectory view l.parent) w.2
      (shown-parent view (sound References) (sound Links) f (ordinary ne) is.shown w.0 w.1))

-- The names of a file that is held, in order by the table of case that is kept.
pub in-order : (view : VolumeView) (held : BaseFile) → IsNodeHeld view held → IsSound view → (table : List ℕ) → IsCaseOf view table
    → in_order (link_above (fold_of table)) (links_held held.parts)
    ≡ in_order (link_above (volume_fold view)) (links_to view (number_of held))
in-order view held n sound table case =
    ap (λ t. in_order (link_above (fold_of t)) (links_held held.parts)) case
    ∙ ap (in_order (link_above (volume_fold view))) (links-told view (number_of held) held (file-held view held n) sound)
