-- Of each directory that is there the entries of other files stay.
use Rattle.std.proofs.Common.{Bool, List, None, Option, [], ap, arith, false, filter, refl, subst, sym, true, inl, inr, ℕ, ◌∙◌, ◌∷◌, ◌≡◌}
use Rattle.std.proofs.Common.{◌≢◌}
use Rattle.std.proofs.lemmas.Bool.{cases_eq, ne_eqb}
use Rattle.list_laws.proofs.MemberLaws.{Contains-nil, Contains-only}
use Rattle.list_laws.proofs.SameItemsLaws.{SameItems-same}
use Rattle.ntfs_def.specs.FileName.{FileName, Link, link_of}
use Rattle.ntfs_def.specs.Node.{Item}
use Rattle.ntfs_def.specs.Units.{wide}
use Rattle.ntfs_def.specs.declared.kinds.TheConstants.{BITMAP, DATA, INDEX_ALLOCATION, INDEX_ROOT}
use Rattle.ntfs_def.specs.declared.records.TheConstants.{UPCASE}
use Rattle.std.specs.Prelude.{codes}
use Rattle.volume_def.specs.FileNames.{names_of}
use Rattle.volume_def.specs.Files.{records_of}
use Rattle.volume_def.specs.Readable.{IsReadableVolume}
use Rattle.volume_def.specs.View.{VolumeView}
use Rattle.tree_model.specs.Subjects.{Machine}
use Rattle.tree_model.proofs.NamesLaws.{is_shown}
use Rattle.edit_def.specs.Account.{Wants}
use Rattle.edit_def.specs.Edited.{Edited, is_room_key}
use Rattle.edit_def.specs.Items.{ChangesItems}
use Rattle.edit_def.specs.Kept.{Key, either, key_of, same_key}
use Rattle.edit_def.specs.Marks.{Marks}
use Rattle.edit_def.specs.Names.{HasRightBases, gone_names}
use Rattle.edit_def.proofs.IndexLaws.{cluster-size, items-kept}
use Rattle.session_def.specs.Kept.{file_in}
use Rattle.session_def.specs.Named.{is_one_of}
use Rattle.session_def.proofs.EntryLaws.{AreOf, is_other, others-replaced, others-then}
use Rattle.command_edits.specs.Between.{IsBetween}
use Rattle.command_edits.specs.Calls.{AddsLink, DropsLink, RefreshesEntry, SetsNode}
use Rattle.command_edits.specs.Commands.{DoesLink, DoesMake, DoesMove, DoesRemove, DoesSet, DoesUnlink}
use Rattle.command_edits.specs.KeptBy.{AreEntriesOf, KeepsOtherEntries}
use Rattle.command_edits.specs.Keys.{is_index_key_of, is_key_of, standard_key}
use Rattle.command_edits.proofs.EachCall.{EachKeeps, link-keeps, make-keeps, move-keeps, remove-keeps, set-keeps, unlink-keeps}
use Rattle.command_edits.proofs.LinksBetween.{link_keys}
use Rattle.command_edits.proofs.NodesBetween.{away-of}
use Rattle.command_edits.proofs.SoundBetween.{between-bases, between-readable}
use Rattle.command_edits.proofs.StageLaws.{is-ordinary}

-- a volume whose files can be read
record IsRead (view : VolumeView) : Type 0 where
  readable : IsReadableVolume view
  bases : HasRightBases (records_of view)

record KeepsEntriesRead (files : List ℕ) (dir : ℕ) (old new : VolumeView) : Type 0 where
  entries : KeepsOtherEntries files old new dir
  read : IsRead new

abbrev Entries : List ℕ → ℕ → VolumeView → VolumeView → Type 0
Entries files dir old new = IsRead old → KeepsEntriesRead files dir old new

module _ (files : List ℕ) (dir : ℕ) (changed : Key → Bool) (wants : Wants) (old new : VolumeView) (before after : Marks)
    (edited : Edited changed wants old new before after) where
  -- a call that names no part of the index
  unnamed-entries : changed (key_of UPCASE DATA []) ≡ false → changed (key_of dir INDEX_ROOT (wide (codes "$I30"))) ≡ false
      → changed (key_of dir INDEX_ALLOCATION (wide (codes "$I30"))) ≡ false → changed (key_of dir BITMAP (wide (codes "$I30"))) ≡ false
      → Entries files dir old new
  unnamed-entries case root records bits h = record {
    entries = λ items has. (
      items,
      items-kept (either is_room_key changed) old new edited.kept (cluster-size old new edited.volume) h.bases h.readable
          edited.editable.readable case dir root records bits items has,
      SameItems-same (filter (is_other files) items) (filter (is_other files) items) refl,
    );
    read = record { readable = edited.editable.readable; bases = edited.bases };
  }

  -- one by which entries of these files alone change
  changed-entries : (was now : List Item) → ChangesItems old new dir was now → AreOf files was → AreOf files now → Entries files dir old new
  changed-entries was now change of of' h = record {
    entries = λ items has.
        let c = change items has in
        (c.0, c.1, others-replaced files items c.0 was now c.2 of of');
    read = record { readable = edited.editable.readable; bases = edited.bases };
  }

-- entries of a file
none-of : (files : List ℕ) → AreOf files []
none-of files item there = absurd (Contains-nil item there)

one-of : (files : List ℕ) (item : Item) (f : ℕ) → file_in item ≡ f → is_one_of files f ≡ true → AreOf files (item ∷ [])
one-of files item f is among other there =
    subst (λ i. is_one_of files (file_in i) ≡ true) (Contains-only item other there) (ap (is_one_of files) is ∙ among)

file-of : (item : Item) (link : Link) → link_of item ≡ link → file_in item ≡ link.file.number
file-of item link e = ap (λ (l : Link). l.file.number) e

-- COMMANDS about file f, by which entries of these files are told anew
module _ (files : List ℕ) (dir f : ℕ) (own : is_one_of files f ≡ true) where
  adds-entries : (wants : Wants) (old new : VolumeView) (before after : Marks) (name : FileName)
      → AddsLink wants old new before after f name
      → Entries files dir old new
  adds-entries wants old new before after name call = elim (cases_eq dir name.parent.number) [
    | inl e ↦
        changed-entries files dir (link_keys f name.parent.number) wants old new before after call.edited [] (call.item ∷ [])
        (subst (λ k. ChangesItems old new k [] (call.item ∷ [])) (sym e) call.entry) (none-of files)
        (one-of files call.item f (file-of call.item _ call.link) own)
    | inr ne ↦
        let other = ne_eqb dir name.parent.number ne in
        unnamed-entries files dir (link_keys f name.parent.number) wants old new before after call.edited refl other other other
  ]

  drops-entries : (wants : Wants) (old new : VolumeView) (before after : Marks) (name : FileName)
      → DropsLink wants old new before after f name → Entries files dir old new
  drops-entries wants old new before after name call = elim (cases_eq dir name.parent.number) [
    | inl e ↦
        changed-entries files dir (link_keys f name.parent.number) wants old new before after call.edited (call.item ∷ []) []
        (subst (λ k. ChangesItems old new k (call.item ∷ []) []) (sym e) call.entry)
        (one-of files call.item f (file-of call.item _ call.link) own) (none-of files)
    | inr ne ↦
        let other = ne_eqb dir name.parent.number ne in
        unnamed-entries files dir (link_keys f name.parent.number) wants old new before after call.edited refl other other other
  ]

  refreshes-entries : (wants : Wants) (old new : VolumeView) (before after : Marks) (g : ℕ) (name : FileName) → is_one_of files g ≡ true
      → RefreshesEntry wants old new before after g name → Entries files dir old new
  refreshes-entries wants old new before after g name among call = elim (cases_eq dir name.parent.number) [
    | inl e ↦
        changed-entries files dir (is_index_key_of name.parent.number) wants old new before after call.edited
        (call.was ∷ []) (call.now ∷ [])
        (subst (λ k. ChangesItems old new k (call.was ∷ []) (call.now ∷ [])) (sym e) call.entry)
        (one-of files call.was g (file-of call.was _ call.link) among)
        (one-of files call.now g (file-of call.now _ (call.same ∙ call.link)) among)
    | inr ne ↦
        let other = ne_eqb dir name.parent.number ne in
        unnamed-entries files dir (is_index_key_of name.parent.number) wants old new before after call.edited refl other other other
  ]

  sets-entries : (wants : Wants) (old new : VolumeView) (before after : Marks) (h : ℕ) (times : List ℕ) (flags : ℕ) (security : Option ℕ)
      → SetsNode wants old new before after h times flags security → Entries files dir old new
  sets-entries wants old new before after h times flags security call =
      unnamed-entries files dir (same_key (standard_key h)) wants old new before after call.edited refl refl refl refl

  each-entries : (gone : List FileName) → EachKeeps (Entries files dir) f gone (is_one_of files)
  each-entries gone = record {
    same = λ view h. record {
      entries = λ items has. (items, has, SameItems-same (filter (is_other files) items) (filter (is_other files) items) refl);
      read = h;
    };
    turn = λ old mid new a b h.
        let x = a h in
        let y = b x.read in
        record {
          entries = λ items has.
              let c = x.entries items has in
              let d = y.entries c.0 c.1 in
              (d.0, d.1, others-then files items c.0 d.0 c.2 d.2);
          read = y.read;
        };
    adds = adds-entries;
    drops = λ wants old new before after name there call. drops-entries wants old new before after name call;
    refreshes = refreshes-entries;
    stamps = λ wants old new before after h times flags call. sets-entries wants old new before after h times flags None call;
  }

  module _ (m : Machine) (wants : Wants) (old new : VolumeView) (before after : Marks) (between : IsBetween old) where
    abbrev gone : FileName → List FileName
    gone name = gone_names (names_of (records_of old) f) name

    read : IsRead old
    read = record { readable = between-readable old between; bases = between-bases old between }

    pub make-entries : (directory : Bool) (name : FileName) → (x : DoesMake m wants old new before after f directory name) → dir ≢ f
        → AreEntriesOf files x.ends.entries → KeepsOtherEntries files old new dir
    make-entries directory name x other of =
        (make-keeps (Entries files dir) f [] (is_one_of files) (each-entries []) m wants old new before after directory name x
        (λ bill view next m0 m1 node call.
        let away = ne_eqb dir f other in
        unnamed-entries files dir (is_key_of f) bill view next m0 m1 call.edited
        (away-of f UPCASE call.ordinary (omega arith)) away away away)
        of read).entries

    pub link-entries : (name : FileName) → (x : DoesLink m wants old new before after f name) → AreEntriesOf files x.ends.entries
        → KeepsOtherEntries files old new dir
    link-entries name x of =
        (link-keeps (Entries files dir) f [] (is_one_of files) (each-entries []) m wants old new before after name x of read).entries

    pub remove-entries : (name : FileName) → (x : DoesRemove m wants old new before after f name) → dir ≢ f
        → AreEntriesOf files x.ends.entries → KeepsOtherEntries files old new dir
    remove-entries name x other of =
        let high = is-ordinary old f (is_shown old f x.loses.node x.loses.there).shown x.loses.away in
        (remove-keeps (Entries files dir) f (gone name) (is_one_of files) (each-entries (gone name)) m wants old new before after name
        (λ one there. there) x
        (λ bill view next m0 m1 call.
        let away = ne_eqb dir f other in
        unnamed-entries files dir (is_key_of f) bill view next m0 m1 call.edited (away-of f UPCASE high (omega arith)) away away away) of
        read).entries

    pub unlink-entries : (name : FileName) → (x : DoesUnlink m wants old new before after f name) → AreEntriesOf files x.ends.entries
        → KeepsOtherEntries files old new dir
    unlink-entries name x of =
        (unlink-keeps (Entries files dir) f (gone name) (is_one_of files) (each-entries (gone name)) m wants old new before after name
        (λ one there. there) x of read).entries

    pub move-entries : (name fresh : FileName) → (x : DoesMove m wants old new before after f name fresh)
        → AreEntriesOf files x.ends.entries → KeepsOtherEntries files old new dir
    move-entries name fresh x of =
        (move-keeps (Entries files dir) f (gone name) (is_one_of files) (each-entries (gone name)) m wants old new before after name
        (λ one there. there) fresh x of read).entries

    pub set-entries : (flags security : Option ℕ) → (x : DoesSet m wants old new before after f flags security)
        → AreEntriesOf files x.entries → KeepsOtherEntries files old new dir
    set-entries flags security x of =
        (set-keeps (Entries files dir) f [] (is_one_of files) (each-entries []) m wants old new before after flags security x
        (sets-entries wants old x.set.view before x.set.marks f _ _ security x.sets) of read).entries
