-- THE FILE THAT CAME, and the directory that was set then, staged: what the volume is between and behind.
use Rattle.std.proofs.Common.{◌≡◌, ◌≢◌, ◌≤◌, ◌*◌, ◌&&◌, ◌||◌, ℕ, Bool, true, List, [], ◌∷◌, Some, None, codes, filter}
use Rattle.std.proofs.Common.{refl, sym, ap, subst, ◌∙◌, arith}
use Rattle.std.proofs.lemmas.Bool.{or_right}
use Rattle.std.specs.FinMap as finmap
use Rattle.std.specs.List.{Contains}
use Rattle.std.specs.Prelude.{bit_and, sum_by}
use Rattle.std.specs.Str.{bytes_eq}
use Rattle.ntfs_def.specs.FileName.{FileName}
use Rattle.ntfs_def.specs.Units.{wide}
use Rattle.ntfs_def.specs.declared.kinds.TheConstants.{DATA, STANDARD_INFORMATION}
use Rattle.ntfs_def.specs.declared.records.TheConstants.{MFT}
use Rattle.volume_def.specs.FileNames.{names_of}
use Rattle.volume_def.specs.Files.{Part, is_of, parts, records_of}
use Rattle.volume_def.specs.Table.{TableLayout, cluster_bytes}
use Rattle.volume_def.specs.View.{VolumeView}
use Rattle.tree_model.specs.Effects.{add_link, changed_node, link_to, make, new_node, security_of, touched}
use Rattle.tree_model.specs.Reading.{read, tree_nodes}
use Rattle.tree_model.specs.Subjects.{Located, NameIn, at_file}
use Rattle.tree_model.specs.Tree.{Tree, node_of}
use Rattle.tree_model.specs.declared.command.Command.{Command}
use Rattle.tree_model.specs.declared.command.Command.TheVariants as c
use Rattle.tree_model.specs.declared.tree.Node.{Node}
use Rattle.tree_model.specs.declared.tree.TheConstants.{SHOWN_FLAGS}
use Rattle.tree_model.proofs.ReadingLaws.{node_of-read}
use Rattle.edit_def.specs.Kept.{Key, either, key_of, same_key}
use Rattle.edit_def.specs.OneFile.{IsTabled}
use Rattle.edit_def.specs.Purses.{part_size}
use Rattle.session_def.specs.Named.{has_entry_of, is_own_key, is_times_key}
use Rattle.session_def.specs.State.{Stands, State}
use Rattle.in_place_done.specs.Steps.{with_node}
use Rattle.made_owed.specs.Attributes as attributes
use Rattle.made_owed.proofs.AttributesSet as edits
use Rattle.in_place_done.specs.SetsInPlace.{StandsAlone, is_node_kind, is_set_key}
use Rattle.in_place_done.proofs.CallsOwed.{stands-alone}
use Rattle.made_owed.specs.Comes.{CanMake}
use Rattle.made_owed.specs.Left.{LeavesRest}
use Rattle.made_owed.specs.Made.{IsMade}
use Rattle.made_owed.proofs.BetweenMade as stand
use Rattle.made_owed.proofs.LeftMade.{leaves-rest}
use Rattle.made_owed.proofs.SoundMade as laws
use Rattle.made_owed.specs.MadeOwed.{between}
use Rattle.in_place_done.proofs.FileSet.{file-set}
use Rattle.in_place_done.proofs.NamedKeys.{told-named}
use Rattle.in_place_done.proofs.StagedVolume.{CanBeSet, IsSet}
use Rattle.in_place_done.proofs.TreeBehind.{node-shown, nodes-read}
use Rattle.made_owed.specs.Makes.{MakesUnder}
use Rattle.made_done.proofs.LeftAlone.{low-apart}
use Rattle.made_done.proofs.NewLink.{entries-same}

-- how many clusters the table has, by the parts of its file
abbrev held : List Part → ℕ
held all = sum_by part_size (filter (is_of DATA []) all)

-- `old` is the volume before, `mid` with the file, and `new` with the directory's times too.
module _ (directory : Bool) (before : State) (stands : Stands before) (dir : ℕ) (units : List ℕ) (node : Node)
    (can : CanMake before.view dir node units)
    (high_names : (name : FileName) → Contains (names_of (records_of before.view) dir) name → 4 ≤ name.parent.number) (made : ℕ)
    (new : VolumeView) (s : MakesUnder directory before.view new before.machine.tree before.machine.now dir units node made) where
  abbrev old : VolumeView
  old = before.view

  abbrev mid : VolumeView
  mid = s.mid

  abbrev tree : Tree
  tree = before.machine.tree

  abbrev now : ℕ
  now = before.machine.now

  abbrev half : State
  half = between before mid

  -- the directory is set as by this command, on the volume between
  abbrev setter : Command
  setter = c.Setattr [] 0

  abbrev parent : Located
  parent = at_file (read mid) None dir

  abbrev times : List ℕ
  times = (touched now node).times

  -- THE FILE, as it came
  pub is_made : IsMade directory old mid s.was s.now made dir node units now (security_of tree dir)
  is_made =
      laws.made old mid s.was s.now dir made node units s.makes.standard s.makes.key now (security_of tree dir) directory can s.right
      s.makes.new_key s.makes.new_standard s.makes.plain.long s.makes.comes s.stored

  pub left : LeavesRest old mid made dir
  left =
      leaves-rest old mid s.was s.now dir made node units s.makes.standard s.makes.key now (security_of tree dir) directory can s.right
      s.makes.new_key s.makes.new_standard s.makes.plain.long s.makes.comes

  pub ordinary : 24 ≤ made
  ordinary = is_made.calls.makes.ordinary

  other : dir ≢ made
  other =
      (stand.has-new-file old s.makes.comes.counted s.was s.now dir made node units s.makes.standard s.makes.key now directory can s.right
      s.makes.new_key s.makes.plain.long s.makes.comes.comes).other

  shown : bit_and node.flags SHOWN_FLAGS ≡ node.flags
  shown = node-shown old dir node can.parent.there

  -- THE DIRECTORY has the names that it had.
  pub names : names_of (records_of mid) dir ≡ names_of (records_of old) dir
  names = left.names dir left.other

  high : (name : FileName) → Contains (names_of (records_of mid) dir) name → 4 ≤ name.parent.number
  high name among = high_names name (subst (λ (all : List FileName). Contains all name) names among)

  -- THE VOLUME BETWEEN: its table holds its records
  tabled : IsTabled mid
  tabled =
      let was = (stands-alone before stands).tabled in
      let layout = sym left.leaves.layout in
      let table = left.leaves.others MFT (λ is. let least = ordinary in omega (arith, is, least))
      (low-apart old mid made dir left MFT (omega arith) (λ is. omega (arith, is))) in
      record {
        size = subst (λ (l : TableLayout). 512 ≤ cluster_bytes l) layout was.size;
        least = subst (λ (l : TableLayout). 24 ≤ l.count) layout was.least;
        covered =
            subst (λ (l : TableLayout). 1024 * l.count ≤ held (parts (records_of mid) MFT) * cluster_bytes l) layout
            (subst (λ (xs : List Part). 1024 * old.layout.count ≤ held xs * cluster_bytes old.layout) (sym table) was.covered);
      }

  stands-between : StandsAlone half
  stands-between = record { apart = is_made.can.apart; tabled = tabled; sound = is_made.sound; reading = refl }

  pub can-set : CanBeSet half setter parent node
  can-set = record { stands = stands-between; edits = refl; none = refl; in_place = refl; can = is_made.can; high = high }

  -- THE TREE BETWEEN
  abbrev fresh : Node
  fresh = new_node directory now (security_of tree dir)

  abbrev linked : Tree
  linked = add_link (link_to made dir units) (with_node made fresh tree)

  reads-between : read mid ≡ linked
  reads-between =
      is_made.reads ∙ ap (λ (t : Tree). add_link (link_to made dir units) (with_node made fresh t)) stands.reading

  entry-same : (d : ℕ) → has_entry_of (read mid) (dir ∷ []) d ≡ has_entry_of tree (dir ∷ []) d
  entry-same d =
      ap (λ (t : Tree). has_entry_of t (dir ∷ []) d) reads-between ∙ entries-same tree dir made units fresh other d

  -- the attributes that are rewritten of the directory are those of a `setattr` of it
  named : (k : Key) → attributes.is_set_key mid dir k ≡ true → is_set_key (read mid) setter parent k ≡ true
  named k its =
      let told = told-named before stands dir (edits.node-file old dir node can.parent.there) k
      (subst (λ (all : List FileName). either (same_key (key_of dir STANDARD_INFORMATION []))
      (attributes.is_told_key (attributes.dirs_of all)) k ≡ true) names its) in
      or_right (is_own_key (read mid) setter parent 0 k) _
      (subst (λ b. (is_times_key (dir ∷ []) k || (is_node_kind k.kind && (bytes_eq k.name (wide (codes "$I30")) && b))) ≡ true)
      (sym (entry-same k.file)) told)

  pub set : IsSet half setter parent new
  set = file-set half parent node is_made.can times node.flags shown new s.sets setter named (λ punches. cc)

  -- THE TREE BEHIND: the new node and its link, and the directory's times
  abbrev last : Node
  last = touched now node

  reads-new : read new ≡ record (read mid) { nodes = finmap.insert (tree_nodes mid) dir last }
  reads-new =
      let on = is_made.can in
      edits.reads mid new dir times node.flags s.sets on.sound on.apart on.other on.elsewhere shown node on.there

  there : node_of linked dir ≡ Some node
  there = sym (ap (λ (t : Tree). node_of t dir) reads-between) ∙ node_of-read mid dir ∙ is_made.can.there

  pub reads : read new ≡ make directory now made (NameIn dir units) tree
  reads =
      reads-new
      ∙ ap (λ nodes. record (read mid) { nodes = finmap.insert nodes dir last }) (sym (nodes-read mid))
      ∙ ap (λ (t : Tree). record t { nodes = finmap.insert t.nodes dir last }) reads-between
      ∙ sym (ap (changed_node linked dir (touched now)) there)
