-- What a volume reads as after each call: the tree with the call's step.
use Rattle.std.proofs.Common.{Bool, List, None, Option, Some, ap, arith, eq-eqb, eqb-true, false, refl, subst, true}
use Rattle.std.proofs.Common.{ℕ, ◌==◌, ◌∙◌, ◌∷◌, ◌≡◌, ◌≢◌, ◌≤◌}
use Rattle.std.proofs.lemmas.Bool.{and_parts, ne_eqb, or_from}
use Rattle.std.proofs.lemmas.List.Elements.{All-contains}
use Rattle.std.specs.List.{Contains}
use Rattle.std.specs.Prelude.{IsTrue, unwrap_or}
use Rattle.ntfs_def.specs.FileName.{FileName}
use Rattle.ntfs_def.specs.StandardInformation.{standard_security, standard_times}
use Rattle.ntfs_def.specs.declared.records.TheConstants.{FIRST_ORDINARY, ROOT, UPCASE}
use Rattle.volume_def.specs.FileNames.{names_of}
use Rattle.volume_def.specs.Files.{parts, records_of}
use Rattle.volume_def.specs.IndexesClause.{IsDirectoryIndex}
use Rattle.volume_def.specs.View.{VolumeView}
use Rattle.tree_model.specs.Effects.{add_link}
use Rattle.tree_model.specs.Hidden.{is_hidden}
use Rattle.tree_model.specs.Reading.{link_for, node_at, read, standard_flags, standard_of}
use Rattle.tree_model.specs.declared.tree.Node.{Node}
use Rattle.edit_def.specs.Account.{Wants}
use Rattle.edit_def.specs.Kept.{same_key}
use Rattle.edit_def.specs.Marks.{Marks}
use Rattle.edit_def.specs.Names.{Numbers, is_directory_by, is_directory_in, numbers_at}
use Rattle.edit_def.proofs.NamesLaws.{stand-of}
use Rattle.edit_def.proofs.NodeLaws.{security-of}
use Rattle.list_laws.proofs.MemberLaws.{Contains-head}
use Rattle.list_laws.proofs.SameItemsLaws.{SameItems-passing}
use Rattle.list_laws.specs.SameItems.{SameItems}
use Rattle.reading_edits.specs.Steps.{with_node, without_link, without_node}
use Rattle.reading_edits.proofs.CallsRead as calls
use Rattle.command_edits.specs.Between.{IsBetween}
use Rattle.command_edits.specs.Calls.{AddsLink, DropsLink, DropsNode, MakesNode, RefreshesEntry, SetsNode}
use Rattle.command_edits.specs.Keys.{is_index_key_of, is_key_of, standard_key}
use Rattle.command_edits.proofs.AfterCall.{directory-was}
use Rattle.command_edits.proofs.FreeKeys.{index-unseen, name-unseen, standard-elsewhere, standard-other}
use Rattle.command_edits.proofs.LinksBetween.{link_keys}
use Rattle.command_edits.proofs.NodesBetween.{away-of}
use Rattle.command_edits.proofs.SoundBetween.{between-bases, between-indexes, between-readable, between-references}

-- the directory of a name is one, by the clause on references
pub parent-index : (v : VolumeView) → IsBetween v → (f : ℕ) (name : FileName) → Contains (names_of (records_of v) f) name
    → IsDirectoryIndex v name.parent.number
parent-index v between f name among =
    let stand = stand-of (records_of v) (between-references v between) f in
    let is = All-contains (λ (n : FileName). IsTrue (is_directory_in (records_of v) n.parent))
    (names_of (records_of v) f) name stand among in
    by (numbers_at (records_of v) name.parent.number) refl is
  where
    by : (o : Option Numbers) → numbers_at (records_of v) name.parent.number ≡ o → is_directory_by o name.parent.sequence ≡ true
        → IsDirectoryIndex v name.parent.number
    by None e is = cc
    by (Some numbers) e is =
        directory-was v name.parent.number numbers (between-indexes v between name.parent.number) e
        (and_parts numbers.directory (numbers.sequence == name.parent.sequence) is).0

-- .. also that of a name which goes
lost-index : (v : VolumeView) → IsBetween v → (f : ℕ) (name : FileName) (left : List FileName)
    → SameItems (name ∷ left) (names_of (records_of v) f) → IsDirectoryIndex v name.parent.number
lost-index v between f name left same =
    let w = SameItems-passing (λ (n : FileName). n.parent.number == name.parent.number) (name ∷ left) (names_of (records_of v) f) name same
    (Contains-head name left) (eq-eqb name.parent.number name.parent.number refl) in
    subst (IsDirectoryIndex v) (eqb-true w.0.parent.number name.parent.number w.2) (parent-index v between f w.0 w.1)

-- LINKS
pub read-adds : (wants : Wants) (old new : VolumeView) (before after : Marks) (f : ℕ) (name : FileName)
    → AddsLink wants old new before after f name → IsBetween old → f ≢ ROOT → is_hidden (records_of old) f ≡ false
    → is_hidden (records_of old) name.parent.number ≡ false → read new ≡ add_link (link_for f name) (read old)
read-adds wants old new before after f name call between away shown inside =
    calls.read-adds (link_keys f name.parent.number) wants old new before after call.edited (between-readable old between)
    (between-bases old between) refl f name
    (λ g seen kind units is. or_from _ _ (name-unseen f g kind units is) (index-unseen name.parent.number g kind units is)) call.gets away
    shown inside

pub read-drops : (wants : Wants) (old new : VolumeView) (before after : Marks) (f : ℕ) (name : FileName)
    → DropsLink wants old new before after f name → IsBetween old → f ≢ ROOT → is_hidden (records_of old) f ≡ false
    → is_hidden (records_of old) name.parent.number ≡ false → read new ≡ without_link (link_for f name) (read old)
read-drops wants old new before after f name call between away shown inside =
    calls.read-drops (link_keys f name.parent.number) wants old new before after call.edited (between-readable old between)
    (between-bases old between) refl f name
    (λ g seen kind units is. or_from _ _ (name-unseen f g kind units is) (index-unseen name.parent.number g kind units is)) call.loses away
    shown inside (lost-index old between f name (names_of (records_of new) f) call.loses.names)

pub read-refreshes : (wants : Wants) (old new : VolumeView) (before after : Marks) (f : ℕ) (name : FileName)
    → RefreshesEntry wants old new before after f name → IsBetween old → read new ≡ read old
read-refreshes wants old new before after f name call between =
    calls.read-kept (is_index_key_of name.parent.number) wants old new before after call.edited (between-readable old between)
    (between-bases old between) refl (λ g seen. index-unseen name.parent.number g) call.names_kept

-- NODES
pub read-makes : (wants : Wants) (old new : VolumeView) (before after : Marks) (f : ℕ) (directory : Bool) (node : Node)
    → MakesNode wants old new before after f directory node → IsBetween old → read new ≡ with_node f node (read old)
read-makes wants old new before after f directory node call between =
    calls.read-makes (is_key_of f) wants old new before after call.edited (between-readable old between) (between-bases old between)
    (away-of f UPCASE call.ordinary (omega arith)) f _ node (λ g ne seen kind units is. ne_eqb g f ne) call.comes call.node_is

pub read-gone : (wants : Wants) (old new : VolumeView) (before after : Marks) (f : ℕ) → DropsNode wants old new before after f
    → IsBetween old → FIRST_ORDINARY ≤ f → read new ≡ without_node f (read old)
read-gone wants old new before after f call between ordinary =
    calls.read-gone (is_key_of f) wants old new before after call.edited (between-readable old between) (between-bases old between)
    (away-of f UPCASE ordinary (omega arith)) f _ (λ g ne seen kind units is. ne_eqb g f ne) call.goes

pub read-sets : (wants : Wants) (old new : VolumeView) (before after : Marks) (f : ℕ) (times : List ℕ) (flags : ℕ) (security : Option ℕ)
    → SetsNode wants old new before after f times flags security → IsBetween old → (node : Node) → node_at old f ≡ Some node
    → read new
    ≡ with_node f (record node { times = times; flags = flags; security = unwrap_or security node.security }) (read old)
read-sets wants old new before after f times flags security call between node at =
    calls.read-stamped (same_key (standard_key f)) wants old new before after call.edited (between-readable old between)
    (between-bases old between) refl f node (λ g ne seen kind units is. standard-elsewhere f g kind units ne) (standard-other f f)
    call.names_kept at
    ∙ ap (λ (n : Node). with_node f n (read old)) same
  where
    was : standard_security (standard_of (parts (records_of old) f)) ≡ node.security
    was = security-of old f node at

    same : ◌≡◌ {A = Node} (record node {
      times = standard_times (standard_of (parts (records_of new) f));
      flags = standard_flags (standard_of (parts (records_of new) f));
      security = standard_security (standard_of (parts (records_of new) f));
    }) (record node { times = times; flags = flags; security = unwrap_or security node.security })
    same = λ i. record node {
      times = call.times_now i;
      flags = call.flags_now i;
      security = (call.security_now ∙ ap (unwrap_or security) was) i;
    }
