-- Calls in turn: entries told anew, names dropped, and the end of a command.
use Rattle.std.proofs.Common.{Bool, List, None, Option, Some, [], ap, arith, false, if◌then◌else◌, inl, inr, map, refl, subst, sym, true}
use Rattle.std.proofs.Common.{ℕ, ◌∙◌, ◌∷◌, ◌≡◌, ◌≢◌, ◌≤◌}
use Rattle.std.specs.Cmp.{nat_cmp_total}
use Rattle.std.specs.FinMap as finmap
use Rattle.std.specs.List.{Contains}
use Rattle.std.specs.Option.{option_map}
use Rattle.std.proofs.lemmas.Bool.{cases_lt}
use Rattle.list_laws.proofs.MemberLaws.{Contains-head, Contains-later}
use Rattle.list_laws.proofs.OrderLaws.{key_other}
use Rattle.ntfs_def.specs.FileName.{FileName}
use Rattle.ntfs_def.specs.declared.records.TheConstants.{EXTEND, FIRST_ORDINARY, ROOT}
use Rattle.volume_def.specs.Files.{parts, records_of}
use Rattle.volume_def.specs.View.{VolumeView}
use Rattle.tree_model.specs.Effects.{stamp, stamped, touch, touched}
use Rattle.tree_model.specs.Hidden.{is_hidden}
use Rattle.tree_model.specs.Reading.{link_for, node_at, read}
use Rattle.tree_model.specs.Tree.{Tree, node_of}
use Rattle.tree_model.specs.declared.tree.Link.{Link}
use Rattle.tree_model.specs.declared.tree.Node.{Node}
use Rattle.tree_model.proofs.HiddenLaws.{hidden-system}
use Rattle.tree_model.proofs.ReadingLaws.{node_of-read}
use Rattle.edit_def.specs.Account.{Wants, nothing}
use Rattle.edit_def.specs.Marks.{Marks}
use Rattle.edit_def.specs.Names.{KeepsNames, LosesNames, Numbers, numbers_at}
use Rattle.edit_def.proofs.NodeLaws.{node-numbers, node_with}
use Rattle.reading_edits.proofs.HiddenFiles.{hides-loses}
use Rattle.reading_edits.proofs.NamesInTurn.{KeepsNames-same, KeepsNames-then, loses-more, loses-none}
use Rattle.reading_edits.specs.Steps.{with_node, without_link, without_links, without_node}
use Rattle.reading_edits.proofs.EffectSteps.{node-changed}
use Rattle.command_edits.specs.Between.{IsBetween}
use Rattle.command_edits.specs.Calls.{DropsLinks, RefreshesEntries}
use Rattle.command_edits.specs.Commands.{StampsNode, TouchesLast, TouchesNode}
use Rattle.command_edits.proofs.CallsRead.{read-drops, read-refreshes, read-sets}
use Rattle.command_edits.proofs.LinksBetween.{between-drops, between-refreshes}
use Rattle.command_edits.proofs.NodesBetween.{between-sets}
use Rattle.command_edits.proofs.SoundBetween.{between-bases}

-- ENTRIES TOLD ANEW change nothing that the tree shows.
pub record Refreshed (old new : VolumeView) : Type 0 where
  pub between : IsBetween new
  pub names : (g : ℕ) → KeepsNames (records_of old) (records_of new) g
  pub reading : read new ≡ read old

pub refreshed : (links : List (ℕ × FileName)) (old new : VolumeView) (before after : Marks) → RefreshesEntries links old new before after
    → IsBetween old → Refreshed old new
refreshed [] old new before after (same, marks) between = record {
  between = subst IsBetween (sym same) between;
  names = λ g. subst (λ v. KeepsNames (records_of old) (records_of v) g) (sym same) (KeepsNames-same (records_of old) g);
  reading = ap read same;
}
refreshed (link ∷ links) old new before after (mid, marks, call, rest) between =
    let b = between-refreshes nothing old mid before marks link.0 link.1 call between in
    let r = refreshed links mid new marks after rest b in
    record {
      between = r.between;
      names = λ g. KeepsNames-then (records_of old) (records_of mid) (records_of new) g (call.names_kept g) (r.names g);
      reading = r.reading ∙ read-refreshes nothing old mid before marks link.0 link.1 call between;
    }

-- NODES of trees beside one that is set or that goes
pub get-other : (tree : Tree) (f g : ℕ) (node : Node) → g ≢ f → node_of (with_node f node tree) g ≡ node_of tree g
get-other tree f g node ne =
    finmap.get-insert nat_cmp_total tree.nodes f node g
    ∙ ap (λ b. if b then Some node else finmap.get tree.nodes g) (key_other g f ne)

pub get-gone : (tree : Tree) (f g : ℕ) → g ≢ f → node_of (without_node f tree) g ≡ node_of tree g
get-gone tree f g ne =
    finmap.get-remove nat_cmp_total tree.nodes f g ∙ ap (λ b. if b then None else finmap.get tree.nodes g) (key_other g f ne)

nodes-without : (gone : List Link) (tree : Tree) (g : ℕ) → node_of (without_links gone tree) g ≡ node_of tree g
nodes-without [] tree g = refl
nodes-without (link ∷ gone) tree g = nodes-without gone (without_link link tree) g

-- a file is a node as its volume reads
pub node-by : (old new : VolumeView) (tree : Tree) (g : ℕ) → read new ≡ tree → node_of tree g ≡ node_of (read old) g
    → node_at new g ≡ node_at old g
node-by old new tree g reads same = sym (node_of-read new g) ∙ ap (λ t. node_of t g) reads ∙ same ∙ node_of-read old g

-- TIMES SET
pub touched-read : (now : ℕ) (old new : VolumeView) (before after : Marks) (f : ℕ) (node : Node)
    → TouchesNode now old new before after f node → IsBetween old → node_at old f ≡ Some node → read new ≡ touch now f (read old)
touched-read now old new before after f node call between at =
    read-sets nothing old new before after f (touched now node).times node.flags None call between node at
    ∙ node-changed (read old) f node (touched now) (node_of-read old f ∙ at)

pub stamped-read : (now : ℕ) (old new : VolumeView) (before after : Marks) (f : ℕ) (node : Node)
    → StampsNode now old new before after f node → IsBetween old → node_at old f ≡ Some node → read new ≡ stamp now f (read old)
stamped-read now old new before after f node call between at =
    read-sets nothing old new before after f (stamped now node).times node.flags None call between node at
    ∙ node-changed (read old) f node (stamped now) (node_of-read old f ∙ at)

pub stamped-node : (now : ℕ) (old new : VolumeView) (before after : Marks) (f : ℕ) (node : Node)
    → StampsNode now old new before after f node → IsBetween old → node_at old f ≡ Some node → (g : ℕ) → g ≢ f
    → node_at new g ≡ node_at old g
stamped-node now old new before after f node call between at g ne =
    node-by old new _ g (read-sets nothing old new before after f (stamped now node).times node.flags None call between node at)
    (get-other (read old) f g _ ne)

-- THE END: all names stay, and the directory is touched.
pub record Ended (now : ℕ) (old new : VolumeView) (directory : ℕ) : Type 0 where
  pub between : IsBetween new
  pub names : (g : ℕ) → KeepsNames (records_of old) (records_of new) g
  pub reading : read new ≡ touch now directory (read old)

pub ended : (now : ℕ) (old new : VolumeView) (before after : Marks) (directory : ℕ) (node : Node)
    → TouchesLast now old new before after directory node → IsBetween old → node_at old directory ≡ Some node → Ended now old new directory
ended now old new before after directory node x between at =
    let r = refreshed x.entries x.touched.view new x.touched.marks after x.refreshes
    (between-sets nothing old x.touched.view before x.touched.marks directory (touched now node).times node.flags None x.touches between) in
    record {
      between = r.between;
      names = λ g. KeepsNames-then (records_of old) (records_of x.touched.view) (records_of new) g (x.touches.names_kept g) (r.names g);
      reading = r.reading ∙ touched-read now old x.touched.view before x.touched.marks directory node x.touches between at;
    }

-- NAMES DROPPED, of a file that is shown, in directories that are shown.
pub record Dropped (f : ℕ) (gone : List FileName) (old new : VolumeView) : Type 0 where
  pub between : IsBetween new
  pub hides : (g : ℕ) → is_hidden (records_of new) g ≡ is_hidden (records_of old) g
  pub now : Numbers
  pub lost : LosesNames (records_of old) (records_of new) f gone
  pub reading : read new ≡ without_links (map (link_for f) gone) (read old)

pub dropped : (f : ℕ) (gone : List FileName) (wants : Wants) (old new : VolumeView) (before after : Marks)
    → DropsLinks f gone wants old new before after → IsBetween old → f ≢ ROOT → is_hidden (records_of old) f ≡ false
    → ((name : FileName) → Contains gone name → is_hidden (records_of old) name.parent.number ≡ false)
    → (numbers : Numbers) → numbers_at (records_of old) f ≡ Some numbers → Dropped f gone old new
dropped f [] wants old new before after (same, marks) between away shown inside numbers at = record {
  between = subst IsBetween (sym same) between;
  hides = λ g. ap (λ v. is_hidden (records_of v) g) same;
  now = numbers;
  lost = subst (λ v. LosesNames (records_of old) (records_of v) f []) (sym same) (loses-none (records_of old) f numbers at);
  reading = ap read same;
}
dropped f (name ∷ gone) wants old new before after (first, rest, within, mid, marks, call, others) between away shown inside numbers at =
    let b = between-drops first old mid before marks f name call between in
    let here = inside name (Contains-head name gone) in
    let hides = hides-loses old mid (between-bases old between) call.edited.volume.count f name call.loses here in
    let r = dropped f gone rest mid new marks after others b away (hides f ∙ shown)
    (λ one c. hides one.parent.number ∙ inside one (Contains-later name gone one c)) call.loses.was call.loses.was_at in
    let reads = read-drops first old mid before marks f name call between away shown here in
    record {
      between = r.between;
      hides = λ g. r.hides g ∙ hides g;
      now = r.now;
      lost = loses-more (records_of old) (records_of mid) (records_of new) f name gone call.loses r.lost;
      reading = r.reading ∙ ap (without_links (map (link_for f) gone)) reads;
    }

pub dropped-node : (f : ℕ) (gone : List FileName) (old new : VolumeView) → Dropped f gone old new → (g : ℕ)
    → node_at new g ≡ node_at old g
dropped-node f gone old new d g = node-by old new _ g d.reading (nodes-without (map (link_for f) gone) (read old) g)

-- FILES THAT ARE SHOWN. A directory is not $Extend, and a file other than the root is no system file.
pub not-extend : (v : VolumeView) (directory : ℕ) → is_hidden (records_of v) directory ≡ false → directory ≢ EXTEND
not-extend v directory shown e =
    let hidden = hidden-system (records_of v) EXTEND (omega arith) (λ z. absurd (omega (arith, z))) in
    let never : true ≡ false = sym hidden ∙ subst (λ d. is_hidden (records_of v) d ≡ false) e shown in
    cc

pub is-ordinary : (v : VolumeView) (f : ℕ) → is_hidden (records_of v) f ≡ false → f ≢ ROOT → FIRST_ORDINARY ≤ f
is-ordinary v f shown away = elim (cases_lt f FIRST_ORDINARY) [
  | inl low ↦ let never : true ≡ false = sym (hidden-system (records_of v) f low away) ∙ shown in absurd (cc)
  | inr high ↦ high
]

-- whether it is a directory
pub node-directory : (v : VolumeView) (f : ℕ) (node : Node) (numbers : Numbers) → node_at v f ≡ Some node
    → numbers_at (records_of v) f ≡ Some numbers → numbers.directory ≡ node.dir
node-directory v f node numbers there at =
    by (is_hidden (records_of v) f)
    (ap (λ o. if is_hidden (records_of v) f then None else option_map (λ (n : Numbers). node_with v n.directory (parts (records_of v) f)) o)
    (sym at)
    ∙ sym (node-numbers v f) ∙ there)
  where
    by : (b : Bool) → (if b then None else Some (node_with v numbers.directory (parts (records_of v) f))) ≡ Some node
        → numbers.directory ≡ node.dir
    by true e = cc
    by false e = ap directory_in e
      where
        directory_in : Option Node → Bool
        directory_in None = false
        directory_in (Some n) = n.dir
