-- How a volume reads after a call by which a name came or went, a file came, went, or was set.
use Rattle.std.proofs.Common.{Bool, Some, [], ap, false, inl, inr, subst, sym, ℕ, ◌==◌, ◌∙◌, ◌≡◌, ◌≢◌}
use Rattle.std.specs.Prelude.{option_map}
use Rattle.std.proofs.lemmas.Bool.{cases_eq, ne_eqb, or_from}
use Rattle.list_laws.proofs.SameItemsLaws.{SameItems-sym}
use Rattle.ntfs_def.specs.FileName.{FileName}
use Rattle.ntfs_def.specs.declared.kinds.TheConstants.{DATA}
use Rattle.ntfs_def.specs.declared.records.TheConstants.{ROOT, UPCASE}
use Rattle.volume_def.specs.CaseClause.{volume_fold}
use Rattle.volume_def.specs.Files.{parts, records_of}
use Rattle.volume_def.specs.IndexesClause.{IsDirectoryIndex}
use Rattle.volume_def.specs.Readable.{IsReadableVolume}
use Rattle.volume_def.specs.View.{VolumeView}
use Rattle.tree_model.specs.Effects.{add_link}
use Rattle.tree_model.specs.Hidden.{is_hidden}
use Rattle.tree_model.specs.Reading.{all_links, is_hidden_link, link_for, node_at, read, standard_of}
use Rattle.tree_model.specs.declared.tree.Node.{Node}
use Rattle.tree_model.proofs.NamesLaws.{is_shown}
use Rattle.tree_model.proofs.ReadingLaws.{nodes-insert, nodes-remove}
use Rattle.edit_def.specs.Account.{Wants}
use Rattle.edit_def.specs.Edited.{Edited}
use Rattle.edit_def.specs.Kept.{IsUnseen, IsUnseenButTimes, Key, key_of}
use Rattle.edit_def.specs.Marks.{Marks}
use Rattle.edit_def.specs.Names.{ComesUnnamed, GetsName, GoesUnnamed, HasRightBases, KeepsNames, LosesName, Numbers, numbers_at}
use Rattle.edit_def.proofs.LinkLaws.{all-comes, all-gets, all-kept, links-gets}
use Rattle.edit_def.proofs.NodeLaws.{no-file-none}
use Rattle.name_edits.proofs.HiddenFiles.{hides-comes, hides-gets, hides-goes, hides-kept, hides-loses}
use Rattle.name_edits.proofs.OnceNames.{gone-once}
use Rattle.reading_edits.specs.Steps.{LeavesOthers, LeavesShown, with_node, with_standard, without_link, without_node}
use Rattle.reading_edits.proofs.LinksRead.{nodes-same, read-linked, read-links, read-unlinked}
use Rattle.reading_edits.proofs.NodesRead.{directory_at, fold-read, node-read, node-stamped}

-- a file that is no directory by a number is none by it still
directory-same : (old new : VolumeView) (g : ℕ) → numbers_at (records_of new) g ≡ numbers_at (records_of old) g
    → directory_at new g ≡ directory_at old g
directory-same old new g same = ap (option_map (λ (n : Numbers). n.directory)) same

directory-counted : (old new : VolumeView) (f : ℕ) (name : FileName) → GetsName (records_of old) (records_of new) f name → (g : ℕ)
    → directory_at new g ≡ directory_at old g
directory-counted old new f name gets g = elim (cases_eq g f) [
  | inl e ↦
      subst (λ k. directory_at new k ≡ directory_at old k) (sym e)
      (ap (option_map (λ (n : Numbers). n.directory)) gets.now_at ∙ sym (ap (option_map (λ (n : Numbers). n.directory)) gets.was_at))
  | inr ne ↦ directory-same old new g (gets.others g ne).numbers
]

-- a link to a file that is shown, the root aside
link-seen : (v : VolumeView) (f : ℕ) (name : FileName) → f ≢ ROOT → is_hidden (records_of v) f ≡ false
    → is_hidden_link v (link_for f name) ≡ false
link-seen v f name away shown = or_from (f == ROOT) (is_hidden (records_of v) f) (ne_eqb f ROOT away) shown

module _ (changed : Key → Bool) (wants : Wants) (old new : VolumeView) (was now : Marks) (edited : Edited changed wants old new was now)
    (readable : IsReadableVolume old) (bases : HasRightBases (records_of old)) (free : changed (key_of UPCASE DATA []) ≡ false) where
  fold-now : volume_fold new ≡ volume_fold old
  fold-now = fold-read changed wants old new was now edited readable bases free

  node-now : (g : ℕ) → is_hidden (records_of new) g ≡ is_hidden (records_of old) g
      → (is_hidden (records_of old) g ≡ false → IsUnseen changed g) → directory_at new g ≡ directory_at old g
      → node_at new g ≡ node_at old g
  node-now = node-read changed wants old new was now edited readable bases free

  -- a call that leaves names and nodes
  pub read-kept : LeavesShown changed old → ((g : ℕ) → KeepsNames (records_of old) (records_of new) g) → read new ≡ read old
  unfolding read
  read-kept unseen kept =
      let hides = hides-kept old new bases edited.volume.count (λ g. (kept g).names) in
      read-links old new fold-now hides (all-kept old new kept)
      ∙ ap (λ nodes. record (read old) { nodes = nodes })
      (nodes-same old new (λ g. node-now g (hides g) (unseen g) (directory-same old new g (kept g).numbers)))

  -- one that sets a node
  pub read-sets : (f : ℕ) (node : Node) → LeavesOthers changed old f → ((g : ℕ) → KeepsNames (records_of old) (records_of new) g)
      → node_at new f ≡ Some node → read new ≡ with_node f node (read old)
  unfolding read
  read-sets f node unseen kept is =
      let hides = hides-kept old new bases edited.volume.count (λ g. (kept g).names) in
      read-links old new fold-now hides (all-kept old new kept)
      ∙ ap (λ nodes. record (read old) { nodes = nodes })
      (nodes-insert old new f node is (λ g ne. node-now g (hides g) (unseen g ne) (directory-same old new g (kept g).numbers)))

  -- .. its times, flags and id alone
  pub read-stamped : (f : ℕ) (node : Node) → LeavesOthers changed old f → IsUnseenButTimes changed f
      → ((g : ℕ) → KeepsNames (records_of old) (records_of new) g) → node_at old f ≡ Some node
      → read new ≡ with_node f (with_standard (standard_of (parts (records_of new) f)) node) (read old)
  read-stamped f node unseen times kept at =
      let hides = hides-kept old new bases edited.volume.count (λ g. (kept g).names) in
      let shown = (is_shown old f node at).shown in
      read-sets f (with_standard (standard_of (parts (records_of new) f)) node) unseen kept
      (node-stamped changed wants old new was now edited readable bases free f (hides f) shown times (kept f).numbers
      ∙ ap (option_map (with_standard (standard_of (parts (records_of new) f)))) at)

  -- one by which a file comes that has no name yet
  pub read-makes : (f : ℕ) (numbers : Numbers) (node : Node) → LeavesOthers changed old f
      → ComesUnnamed (records_of old) (records_of new) f numbers → node_at new f ≡ Some node → read new ≡ with_node f node (read old)
  unfolding read
  read-makes f numbers node unseen comes is =
      let hides = hides-comes old new bases edited.volume.count f numbers comes in
      read-links old new fold-now hides (all-comes old new f numbers comes)
      ∙ ap (λ nodes. record (read old) { nodes = nodes })
      (nodes-insert old new f node is (λ g ne. node-now g (hides g) (unseen g ne) (directory-same old new g (comes.others g ne).numbers)))

  -- and by which one goes that has none any more
  pub read-gone : (f : ℕ) (numbers : Numbers) → LeavesOthers changed old f → GoesUnnamed (records_of old) (records_of new) f numbers
      → read new ≡ without_node f (read old)
  unfolding read
  read-gone f numbers unseen goes =
      let hides = hides-goes old new bases edited.volume.count f numbers goes in
      read-links old new fold-now hides (SameItems-sym (all_links new) (all_links old) (all-comes new old f numbers goes))
      ∙ ap (λ nodes. record (read old) { nodes = nodes })
      (nodes-remove old new f (no-file-none new f goes.none)
      (λ g ne. node-now g (hides g) (unseen g ne) (directory-same old new g (sym (goes.others g ne).numbers))))

  -- by which a file that is shown gets a name in a directory that is shown
  pub read-adds : (f : ℕ) (name : FileName) → LeavesShown changed old → GetsName (records_of old) (records_of new) f name
      → f ≢ ROOT → is_hidden (records_of old) f ≡ false → is_hidden (records_of old) name.parent.number ≡ false
      → read new ≡ add_link (link_for f name) (read old)
  unfolding read
  read-adds f name unseen gets away shown inside =
      let hides = hides-gets old new bases edited.volume.count f name gets inside in
      read-linked old new fold-now hides (link_for f name) (link-seen old f name away shown) (all-gets old new f name gets)
      ∙ ap (λ nodes. add_link (link_for f name) (record (read old) { nodes = nodes }))
      (nodes-same old new (λ g. node-now g (hides g) (unseen g) (directory-counted old new f name gets g)))

  -- by which it loses one, which it has once in the index of the directory
  pub read-drops : (f : ℕ) (name : FileName) → LeavesShown changed old → LosesName (records_of old) (records_of new) f name
      → f ≢ ROOT → is_hidden (records_of old) f ≡ false → is_hidden (records_of old) name.parent.number ≡ false
      → IsDirectoryIndex old name.parent.number → read new ≡ without_link (link_for f name) (read old)
  unfolding read
  read-drops f name unseen loses away shown inside right =
      let hides = hides-loses old new bases edited.volume.count f name loses inside in
      read-unlinked old new fold-now hides (link_for f name) (link-seen old f name away shown) (all-gets new old f name loses)
      (gone-once old new f loses.was.sequence name right (links-gets new old f name loses))
      ∙ ap (λ nodes. without_link (link_for f name) (record (read old) { nodes = nodes }))
      (nodes-same old new (λ g. node-now g (hides g) (unseen g) (sym (directory-counted new old f name loses g))))
