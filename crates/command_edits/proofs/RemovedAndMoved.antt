-- `rm`, `rmdir` and `mv`: what the volume is and reads as behind them.
use Rattle.std.proofs.Common.{List, None, Some, ap, false, inl, inr, length, map, refl, subst, sym, true, ℕ, ◌∙◌, ◌≡◌, ◌≢◌, ◌≤◌, ◌⊎◌}
use Rattle.std.proofs.lemmas.List.Elements.{All-contains}
use Rattle.std.specs.List.{count_by}
use Rattle.ntfs_def.specs.FileName.{FileName}
use Rattle.ntfs_def.specs.declared.records.TheConstants.{FIRST_ORDINARY}
use Rattle.volume_def.specs.FileNames.{is_not_dos, names_of}
use Rattle.volume_def.specs.Files.{records_of}
use Rattle.volume_def.specs.IndexesClause.{IsDirectoryIndex}
use Rattle.volume_def.specs.LinksClause.{MeetsLinks}
use Rattle.volume_def.specs.ReferencesClause.{MeetsReferences}
use Rattle.volume_def.specs.Sound as clauses
use Rattle.volume_def.specs.View.{VolumeView}
use Rattle.tree_model.specs.Cases.{has_links, lies_in}
use Rattle.tree_model.specs.Drops.{is_last_name}
use Rattle.tree_model.specs.Effects.{add_link, link_to, stamp, touch, tree_after}
use Rattle.tree_model.specs.Hidden.{is_hidden}
use Rattle.tree_model.specs.Reading.{link_for, node_at, read}
use Rattle.tree_model.specs.Subjects.{Located, Machine, NameIn}
use Rattle.tree_model.specs.Tree.{Tree}
use Rattle.tree_model.specs.declared.command.Command.TheVariants as c
use Rattle.tree_model.proofs.NamesLaws.{is_shown}
use Rattle.edit_def.specs.Account.{Wants}
use Rattle.edit_def.specs.Marks.{Marks}
use Rattle.edit_def.specs.Names.{HasNoNames, Numbers, gone_names, is_directory_by, is_directory_in, numbers_at}
use Rattle.edit_def.proofs.NamesLaws.{stand-of}
use Rattle.reading_edits.specs.Dropped.{AreDropped}
use Rattle.reading_edits.proofs.CommandLinks.{sound-moved, sound-removed, sound-unlinked}
use Rattle.reading_edits.proofs.GoneNames.{gone-beside}
use Rattle.reading_edits.proofs.HiddenFiles.{hides-kept}
use Rattle.reading_edits.proofs.NamesInTurn.{KeepsNames-then, directories-lost, file-no-names, no-names-lost}
use Rattle.reading_edits.proofs.NoNames.{empty-names}
use Rattle.reading_edits.proofs.OnceNames.{numbers-shown}
use Rattle.reading_edits.proofs.TreeNames.{shown-dropped, shown-other}
use Rattle.reading_edits.specs.Steps.{without_links, without_node}
use Rattle.reading_edits.proofs.EffectSteps.{tree-mv, tree-rm-last, tree-rm-other, tree-rmdir}
use Rattle.command_edits.specs.Between.{IsBetween, StandsAs}
use Rattle.command_edits.specs.Commands.{DoesMove, DoesRemove, DoesUnlink, LosesLinks}
use Rattle.command_edits.proofs.CallsRead.{parent-index, read-adds, read-gone}
use Rattle.command_edits.proofs.LinksBetween.{between-adds}
use Rattle.command_edits.proofs.MadeAndLinked.{link-new, plain-dos}
use Rattle.command_edits.proofs.NodesBetween.{between-goes, between-sets}
use Rattle.command_edits.proofs.SoundBetween.{between-bases, between-references, between-sound, sound-by}
use Rattle.command_edits.proofs.StageLaws.{Dropped, Ended, dropped, dropped-node, ended, get-gone, is-ordinary, node-by, node-directory}
use Rattle.command_edits.proofs.StageLaws.{not-extend, stamped-node, stamped-read, touched-read}

-- THE NAMES THAT GO.
module _ (tree : Tree) (wants : Wants) (old left : VolumeView) (before between : Marks) (f : ℕ) (name : FileName)
    (stands : StandsAs old tree) (x : LosesLinks wants old left before between f name) where
  abbrev dir : ℕ
  dir = name.parent.number

  abbrev gone : List FileName
  gone = gone_names (names_of (records_of old) f) name

  between0 : IsBetween old
  between0 = between-sound old stands.sound

  shown : is_hidden (records_of old) f ≡ false
  shown = (is_shown old f x.node x.there).shown

  right : IsDirectoryIndex old dir
  right = parent-index old between0 f name x.among

  was : (numbers : Numbers) × (numbers_at (records_of old) f ≡ Some numbers)
  was = numbers-shown old f (is_shown old f x.node x.there)

  lost : Dropped f gone old left
  lost =
      let n = was in
      dropped f gone wants old left before between x.drops between0 x.away shown
      (λ one c. subst (λ d. is_hidden (records_of old) d ≡ false) (sym (gone-beside (names_of (records_of old) f) name one c))
      (is_shown old dir x.parent x.there_parent).shown) n.0 n.1

  lost-links : AreDropped tree (link_for f name) (map (link_for f) gone)
  lost-links =
      subst (λ t. AreDropped t (link_for f name) (map (link_for f) gone)) stands.reading
      (shown-dropped old f x.node x.there x.away name x.among right)

  lost-read : read left ≡ without_links (map (link_for f) gone) tree
  lost-read = lost.reading ∙ ap (without_links (map (link_for f) gone)) stands.reading

  lost-node : (g : ℕ) → node_at left g ≡ node_at old g
  lost-node = dropped-node f gone old left lost

  lost-bases-references : (n : ℕ) → MeetsReferences (records_of old) n
  lost-bases-references = stands.sound clauses.References refl

  lost-directory : (numbers : Numbers) → numbers_at (records_of old) f ≡ Some numbers → numbers.directory ≡ x.node.dir
  lost-directory numbers at = node-directory old f x.node numbers x.there at

  -- no name stands in a file that is no directory, or in an empty one
  no-names : (x.node.dir ≡ false) ⊎ (has_links tree f ≡ false) → HasNoNames (records_of old) f
  no-names (inl file) =
      let n = was in
      file-no-names (records_of old) f n.0 (stand-of (records_of old) (between-references old between0)) n.1 (lost-directory n.0 n.1 ∙ file)
  no-names (inr none) =
      empty-names old f (between-bases old between0) (ap (λ t. has_links t f) stands.reading ∙ none)

  elsewhere : HasNoNames (records_of old) f → dir ≢ f
  elsewhere none = All-contains (λ (n : FileName). n.parent.number ≢ f) (names_of (records_of old) f) name (none f) x.among

-- THE LAST ONE, and the file with it
module _ (m : Machine) (wants : Wants) (old new : VolumeView) (before after : Marks) (f : ℕ) (name : FileName)
    (stands : StandsAs old m.tree) (x : DoesRemove m wants old new before after f name) where
  abbrev its_dir : ℕ
  its_dir = name.parent.number

  abbrev its_gone : List FileName
  its_gone = gone_names (names_of (records_of old) f) name

  its-lost : Dropped f its_gone old x.left.view
  its-lost = lost m.tree x.losing old x.left.view before x.left.marks f name stands x.loses

  its-empty : HasNoNames (records_of old) f
  its-empty = no-names m.tree x.losing old x.left.view before x.left.marks f name stands x.loses x.empty

  its-empty1 : HasNoNames (records_of x.left.view) f
  its-empty1 = no-names-lost (records_of old) (records_of x.left.view) f f its_gone its-lost.lost its-empty

  ordinary : FIRST_ORDINARY ≤ f
  ordinary = is-ordinary old f (is_shown old f x.loses.node x.loses.there).shown x.loses.away

  between2 : IsBetween x.gone.view
  between2 = between-goes x.going x.left.view x.gone.view x.left.marks x.gone.marks f x.goes its-lost.between ordinary its-empty1

  read2 : read x.gone.view ≡ without_node f (read x.left.view)
  read2 = read-gone x.going x.left.view x.gone.view x.left.marks x.gone.marks f x.goes its-lost.between ordinary

  its-apart : its_dir ≢ f
  its-apart = elsewhere m.tree x.losing old x.left.view before x.left.marks f name stands x.loses its-empty

  parent2 : node_at x.gone.view its_dir ≡ Some x.loses.parent
  parent2 =
      node-by x.left.view x.gone.view _ its_dir read2 (get-gone (read x.left.view) f its_dir its-apart)
      ∙ lost-node m.tree x.losing old x.left.view before x.left.marks f name stands x.loses its_dir ∙ x.loses.there_parent

  its-end : Ended m.now x.gone.view new its_dir
  its-end = ended m.now x.gone.view new x.gone.marks after its_dir x.loses.parent x.ends between2 parent2

  removed-sound : (n : ℕ) → MeetsReferences (records_of new) n × MeetsLinks (records_of new) n
  removed-sound =
      sound-removed old new f (stands.sound clauses.References refl) (stands.sound clauses.Links refl) (between-bases new its-end.between)
      name x.loses.plain
      (record {
        left = records_of x.left.view;
        without = records_of x.gone.view;
        was = x.goes.was;
        loses = its-lost.lost;
        goes = x.goes.goes;
        kept = its-end.names;
      }) x.loses.away its-empty

  removed-reads : read new ≡ touch m.now its_dir (without_node f (without_links (map (link_for f) its_gone) m.tree))
  removed-reads =
      its-end.reading
      ∙ ap (touch m.now its_dir) (read2
      ∙ ap (without_node f) (lost-read m.tree x.losing old x.left.view before x.left.marks f name stands x.loses))

  removed : StandsAs new (touch m.now its_dir (without_node f (without_links (map (link_for f) its_gone) m.tree)))
  removed = record { sound = sound-by new its-end.between (λ n. (removed-sound n).1); reading = removed-reads }

  removed-links : AreDropped m.tree (link_for f name) (map (link_for f) its_gone)
  removed-links = lost-links m.tree x.losing old x.left.view before x.left.marks f name stands x.loses

  pub rm-last : (at : Located) → at.link ≡ Some (link_for f name) → (path : List (List ℕ)) (file : ℕ)
      → StandsAs new (tree_after m (c.Rm path) at file)
  rm-last at link path file =
      subst (StandsAs new) (tree-rm-last m at path file (link_for f name) (map (link_for f) its_gone) link removed-links x.last) removed

  pub rmdir : (at : Located) → at.link ≡ Some (link_for f name) → (path : List (List ℕ)) (file : ℕ)
      → StandsAs new (tree_after m (c.Rmdir path) at file)
  rmdir at link path file =
      subst (StandsAs new) (tree-rmdir m at path file (link_for f name) (map (link_for f) its_gone) link removed-links x.last) removed

-- ANOTHER ONE, of a file that is no directory
module _ (m : Machine) (wants : Wants) (old new : VolumeView) (before after : Marks) (f : ℕ) (name : FileName)
    (stands : StandsAs old m.tree) (x : DoesUnlink m wants old new before after f name) where
  abbrev one_dir : ℕ
  one_dir = name.parent.number

  abbrev one_gone : List FileName
  one_gone = gone_names (names_of (records_of old) f) name

  one-lost : Dropped f one_gone old x.left.view
  one-lost = lost m.tree wants old x.left.view before x.left.marks f name stands x.loses

  one-node : (g : ℕ) → node_at x.left.view g ≡ node_at old g
  one-node = lost-node m.tree wants old x.left.view before x.left.marks f name stands x.loses

  one-apart : one_dir ≢ f
  one-apart =
      elsewhere m.tree wants old x.left.view before x.left.marks f name stands x.loses
      (no-names m.tree wants old x.left.view before x.left.marks f name stands x.loses (inl x.file))

  one-end : Ended m.now x.set.view new one_dir
  one-end =
      ended m.now x.set.view new x.set.marks after one_dir x.loses.parent x.ends
      (between-sets _ x.left.view x.set.view x.left.marks x.set.marks f _ _ None x.stamps one-lost.between)
      (stamped-node m.now x.left.view x.set.view x.left.marks x.set.marks f x.loses.node x.stamps one-lost.between
      (one-node f ∙ x.loses.there) one_dir one-apart
      ∙ one-node one_dir ∙ x.loses.there_parent)

  two-names : 2 ≤ count_by is_not_dos (names_of (records_of old) f)
  two-names =
      shown-other old f x.loses.node x.loses.there x.loses.away name x.loses.among
      (right m.tree wants old x.left.view before x.left.marks f name stands x.loses) x.loses.plain
      (ap (λ t. is_last_name t (link_for f name)) stands.reading ∙ x.stays)

  unlinked-sound : (n : ℕ) → MeetsReferences (records_of new) n × MeetsLinks (records_of new) n
  unlinked-sound =
      sound-unlinked old new f (stands.sound clauses.References refl) (stands.sound clauses.Links refl) (between-bases new one-end.between)
      name x.loses.plain
      (record {
        left = records_of x.left.view;
        loses = one-lost.lost;
        kept = λ g. KeepsNames-then (records_of x.left.view) (records_of x.set.view) (records_of new) g (x.stamps.names_kept g)
            (one-end.names g);
      }) two-names
      (λ numbers at. lost-directory m.tree wants old x.left.view before x.left.marks f name stands x.loses numbers at ∙ x.file)

  unlinked-reads : read new ≡ touch m.now one_dir (stamp m.now f (without_links (map (link_for f) one_gone) m.tree))
  unlinked-reads =
      one-end.reading
      ∙ ap (touch m.now one_dir)
      (stamped-read m.now x.left.view x.set.view x.left.marks x.set.marks f x.loses.node x.stamps one-lost.between
      (one-node f ∙ x.loses.there)
      ∙ ap (stamp m.now f) (lost-read m.tree wants old x.left.view before x.left.marks f name stands x.loses))

  pub rm-other : (at : Located) → at.link ≡ Some (link_for f name) → (path : List (List ℕ)) (file : ℕ)
      → StandsAs new (tree_after m (c.Rm path) at file)
  rm-other at link path file =
      subst (StandsAs new)
      (tree-rm-other m at path file (link_for f name) (map (link_for f) one_gone) link
      (lost-links m.tree wants old x.left.view before x.left.marks f name stands x.loses) x.stays)
      (record { sound = sound-by new one-end.between (λ n. (unlinked-sound n).1); reading = unlinked-reads })

-- MV
module _ (m : Machine) (wants : Wants) (old new : VolumeView) (before after : Marks) (f : ℕ) (name fresh : FileName)
    (stands : StandsAs old m.tree) (x : DoesMove m wants old new before after f name fresh) where
  abbrev from_dir : ℕ
  from_dir = name.parent.number

  abbrev to_dir : ℕ
  to_dir = fresh.parent.number

  abbrev old_names : List FileName
  old_names = gone_names (names_of (records_of old) f) name

  old-lost : Dropped f old_names old x.left.view
  old-lost = lost m.tree x.losing old x.left.view before x.left.marks f name stands x.loses

  touched-between : IsBetween x.touched.view
  touched-between =
      between-sets _ x.left.view x.touched.view x.left.marks x.touched.marks from_dir _ _ None x.touches old-lost.between

  hides : (g : ℕ) → is_hidden (records_of x.touched.view) g ≡ is_hidden (records_of old) g
  hides g =
      hides-kept x.left.view x.touched.view (between-bases x.left.view old-lost.between) x.touches.edited.volume.count
      (λ h. (x.touches.names_kept h).names) g
      ∙ old-lost.hides g

  to-shown : is_hidden (records_of old) to_dir ≡ false
  to-shown = (is_shown old to_dir x.target x.inside.node_is).shown

  to-shown2 : is_hidden (records_of x.touched.view) to_dir ≡ false
  to-shown2 = hides to_dir ∙ to-shown

  to-directory2 : is_directory_in (records_of x.touched.view) fresh.parent ≡ true
  to-directory2 =
      ap (λ o. is_directory_by o fresh.parent.sequence) (x.touches.names_kept to_dir).numbers
      ∙ directories-lost (records_of old) (records_of x.left.view) f old_names old-lost.lost fresh.parent x.inside.directory

  named-between : IsBetween x.named.view
  named-between =
      between-adds x.adding x.touched.view x.named.view x.touched.marks x.named.marks f fresh x.adds touched-between to-directory2
      (not-extend x.touched.view to_dir to-shown2)

  to-end : Ended m.now x.set.view new to_dir
  to-end =
      ended m.now x.set.view new x.set.marks after to_dir x.parent x.ends
      (between-sets _ x.named.view x.set.view x.named.marks x.set.marks f _ _ None x.stamps named-between) x.parent_is

  moved-sound : (n : ℕ) → MeetsReferences (records_of new) n × MeetsLinks (records_of new) n
  moved-sound =
      sound-moved old new f (stands.sound clauses.References refl) (stands.sound clauses.Links refl) (between-bases new to-end.between)
      name x.loses.plain fresh
      (record {
        left = records_of x.left.view;
        stamped = records_of x.touched.view;
        named = records_of x.named.view;
        loses = old-lost.lost;
        between = x.touches.names_kept;
        gets = x.adds.gets;
        kept = λ g. KeepsNames-then (records_of x.named.view) (records_of x.set.view) (records_of new) g (x.stamps.names_kept g)
            (to-end.names g);
      }) x.loses.away (plain-dos fresh x.inside.plain) x.inside.directory to-shown
      (λ numbers at is. subst (λ t. lies_in t (length t.links) f to_dir ≡ false) (sym stands.reading) x.no_loop)

  parent1 : node_at x.left.view from_dir ≡ Some x.loses.parent
  parent1 = lost-node m.tree x.losing old x.left.view before x.left.marks f name stands x.loses from_dir ∙ x.loses.there_parent

  touched-tree : read x.touched.view ≡ touch m.now from_dir (without_links (map (link_for f) old_names) m.tree)
  touched-tree =
      touched-read m.now x.left.view x.touched.view x.left.marks x.touched.marks from_dir x.loses.parent x.touches old-lost.between parent1
      ∙ ap (touch m.now from_dir) (lost-read m.tree x.losing old x.left.view before x.left.marks f name stands x.loses)

  named-tree : read x.named.view
      ≡ add_link (link_to f to_dir fresh.units) (touch m.now from_dir (without_links (map (link_for f) old_names) m.tree))
  named-tree =
      read-adds x.adding x.touched.view x.named.view x.touched.marks x.named.marks f fresh x.adds touched-between x.loses.away
      (hides f ∙ (is_shown old f x.loses.node x.loses.there).shown) to-shown2
      ∙ ap (λ l. add_link l (read x.touched.view)) (link-new f fresh x.inside.plain)
      ∙ ap (add_link (link_to f to_dir fresh.units)) touched-tree

  moved-reads : read new ≡ touch m.now to_dir (stamp m.now f (add_link (link_to f to_dir fresh.units)
      (touch m.now from_dir (without_links (map (link_for f) old_names) m.tree))))
  moved-reads =
      to-end.reading
      ∙ ap (touch m.now to_dir)
      (stamped-read m.now x.named.view x.set.view x.named.marks x.set.marks f x.node x.stamps named-between x.node_is
      ∙ ap (stamp m.now f) named-tree)

  pub moved : StandsAs new (touch m.now to_dir (stamp m.now f (add_link (link_to f to_dir fresh.units)
      (touch m.now from_dir (without_links (map (link_for f) old_names) m.tree)))))
  moved = record { sound = sound-by new to-end.between (λ n. (moved-sound n).1); reading = moved-reads }

  pub moved-links : AreDropped m.tree (link_for f name) (map (link_for f) old_names)
  moved-links = lost-links m.tree x.losing old x.left.view before x.left.marks f name stands x.loses

pub mv : (m : Machine) (wants : Wants) (old new : VolumeView) (before after : Marks) (at : Located) (name fresh : FileName)
    → StandsAs old m.tree → at.link ≡ Some (link_for at.file name) → at.new ≡ NameIn fresh.parent.number fresh.units
    → (path target : List (List ℕ)) (file : ℕ) → DoesMove m wants old new before after at.file name fresh
    → StandsAs new (tree_after m (c.Mv path target) at file)
mv m wants old new before after at name fresh stands link into path target file x =
    subst (StandsAs new)
    (tree-mv m at path target file (link_for at.file name) (map (link_for at.file) (gone_names (names_of (records_of old) at.file) name))
    fresh.parent.number fresh.units link into (moved-links m wants old new before after at.file name fresh stands x))
    (moved m wants old new before after at.file name fresh stands x)
