-- THE FILE THAT WENT, and the directory that was set then, staged: what the volume is between and behind.
use Rattle.std.proofs.Common.{◌≡◌, ◌≢◌, ◌≤◌, ◌*◌, ◌&&◌, ◌||◌, ℕ, Bool, true, List, [], ◌∷◌, Some, None, codes, filter}
use Rattle.std.proofs.Common.{refl, sym, ap, subst, ◌∙◌, arith}
use Rattle.std.proofs.lemmas.Bool.{or_right}
use Rattle.std.specs.FinMap as finmap
use Rattle.std.specs.List.{Contains}
use Rattle.std.specs.Prelude.{bit_and, sum_by}
use Rattle.std.specs.Str.{bytes_eq}
use Rattle.ntfs_def.specs.FileName.{FileName}
use Rattle.ntfs_def.specs.Units.{wide}
use Rattle.ntfs_def.specs.declared.kinds.TheConstants.{DATA, STANDARD_INFORMATION}
use Rattle.ntfs_def.specs.declared.records.TheConstants.{MFT}
use Rattle.volume_def.specs.FileNames.{names_of}
use Rattle.volume_def.specs.Files.{Part, is_of, parts, records_of}
use Rattle.volume_def.specs.Table.{TableLayout, cluster_bytes}
use Rattle.volume_def.specs.View.{VolumeView}
use Rattle.tree_model.specs.Effects.{changed_node, drop_name, leave_file, touched}
use Rattle.tree_model.specs.Reading.{link_for, read, tree_nodes}
use Rattle.tree_model.specs.Subjects.{Located, at_file}
use Rattle.tree_model.specs.Tree.{Tree, node_of}
use Rattle.tree_model.specs.declared.command.Command.{Command}
use Rattle.tree_model.specs.declared.command.Command.TheVariants as c
use Rattle.tree_model.specs.declared.tree.Link.{Link}
use Rattle.tree_model.specs.declared.tree.Node.{Node}
use Rattle.tree_model.specs.declared.tree.TheConstants.{SHOWN_FLAGS}
use Rattle.tree_model.proofs.ReadingLaws.{node_of-read}
use Rattle.edit_def.specs.Kept.{Key, either, key_of, same_key}
use Rattle.edit_def.specs.OneFile.{IsTabled}
use Rattle.edit_def.specs.Purses.{part_size}
use Rattle.session_def.specs.Named.{has_entry_of, is_own_key, is_times_key}
use Rattle.session_def.specs.State.{Stands, State}
use Rattle.attribute_edits.specs.Attributes as attributes
use Rattle.attribute_edits.proofs.AttributesSet as edits
use Rattle.in_place_done.specs.Steps.{without_link, without_node}
use Rattle.in_place_done.specs.SetsInPlace.{StandsAlone, is_node_kind, is_set_key}
use Rattle.in_place_done.proofs.CallsOwed.{stands-alone}
use Rattle.gone_edits.specs.Goes.{CanGo}
use Rattle.gone_edits.specs.Gone.{IsGone}
use Rattle.gone_edits.specs.Left.{LeavesRest}
use Rattle.gone_edits.proofs.LeftGone.{leaves-rest}
use Rattle.gone_edits.proofs.SoundGone as laws
use Rattle.gone_owed.specs.Drops.{DropsUnder}
use Rattle.gone_owed.specs.GoneOwed.{between}
use Rattle.in_place_done.proofs.FileSet.{file-set}
use Rattle.in_place_done.proofs.NamedKeys.{told-named}
use Rattle.in_place_done.proofs.StagedVolume.{CanBeSet, IsSet}
use Rattle.in_place_done.proofs.TreeBehind.{node-shown, nodes-read}
use Rattle.gone_done.proofs.GoneLink.{entries-same}
use Rattle.gone_done.proofs.LeftAlone.{low-apart}

-- how many clusters the table has, by the parts of its file
abbrev held : List Part → ℕ
held all = sum_by part_size (filter (is_of DATA []) all)

-- `old` is the volume before, `mid` without the file, and `new` with the directory's times too.
module _ (before : State) (stands : Stands before) (n : ℕ) (file parent : Node) (name : FileName)
    (can : CanGo before.view n name.parent.number file parent name)
    (high_names : (other : FileName) → Contains (names_of (records_of before.view) name.parent.number) other → 4 ≤ other.parent.number)
    (new : VolumeView) (s : DropsUnder before.view new before.machine.now n name.parent.number parent name) where
  abbrev dir : ℕ
  dir = name.parent.number

  abbrev old : VolumeView
  old = before.view

  abbrev mid : VolumeView
  mid = s.mid

  abbrev tree : Tree
  tree = before.machine.tree

  abbrev now : ℕ
  now = before.machine.now

  abbrev link : Link
  link = link_for n name

  abbrev half : State
  half = between before mid

  -- the directory is set as by this command, on the volume between
  abbrev setter : Command
  setter = c.Setattr [] 0

  abbrev folder : Located
  folder = at_file (read mid) None dir

  abbrev times : List ℕ
  times = (touched now parent).times

  -- THE FILE, as it went
  pub is_gone : IsGone old mid s.was s.now n dir parent name
  is_gone = laws.gone old mid s.was s.now n file parent name can s.right s.goes s.stored

  pub left : LeavesRest old mid n dir
  left = leaves-rest old mid s.was s.now n file parent name can s.right s.goes

  pub ordinary : 24 ≤ n
  ordinary = can.ordinary

  other : dir ≢ n
  other = left.other

  shown : bit_and parent.flags SHOWN_FLAGS ≡ parent.flags
  shown = node-shown old dir parent can.directory.there

  -- THE DIRECTORY has the names that it had.
  pub names : names_of (records_of mid) dir ≡ names_of (records_of old) dir
  names = left.names dir left.other

  high : (one : FileName) → Contains (names_of (records_of mid) dir) one → 4 ≤ one.parent.number
  high one among = high_names one (subst (λ (all : List FileName). Contains all one) names among)

  -- THE VOLUME BETWEEN: its table holds its records
  tabled : IsTabled mid
  tabled =
      let was = (stands-alone before stands).tabled in
      let layout = sym left.leaves.layout in
      let table = left.leaves.others MFT (λ is. let least = ordinary in omega (arith, is, least))
      (low-apart old mid n dir left MFT (omega arith) (λ is. omega (arith, is))) in
      record {
        size = subst (λ (l : TableLayout). 512 ≤ cluster_bytes l) layout was.size;
        least = subst (λ (l : TableLayout). 24 ≤ l.count) layout was.least;
        covered =
            subst (λ (l : TableLayout). 1024 * l.count ≤ held (parts (records_of mid) MFT) * cluster_bytes l) layout
            (subst (λ (xs : List Part). 1024 * old.layout.count ≤ held xs * cluster_bytes old.layout) (sym table) was.covered);
      }

  stands-between : StandsAlone half
  stands-between = record { apart = is_gone.can.apart; tabled = tabled; sound = is_gone.sound; reading = refl }

  pub can-set : CanBeSet half setter folder parent
  can-set = record { stands = stands-between; edits = refl; none = refl; in_place = refl; can = is_gone.can; high = high }

  -- THE TREE BETWEEN
  abbrev without : Tree
  without = leave_file now link tree

  reads-between : read mid ≡ without
  reads-between = is_gone.leaves_file now ∙ ap (leave_file now link) stands.reading

  entry-same : (d : ℕ) → has_entry_of (read mid) (dir ∷ []) d ≡ has_entry_of tree (dir ∷ []) d
  entry-same d =
      ap (λ (t : Tree). has_entry_of t (dir ∷ []) d)
      (is_gone.reads ∙ ap (λ (t : Tree). without_node n (without_link link t)) stands.reading)
      ∙ entries-same tree link dir other d

  -- the attributes that are rewritten of the directory are those of a `setattr` of it
  named : (k : Key) → attributes.is_set_key mid dir k ≡ true → is_set_key (read mid) setter folder k ≡ true
  named k its =
      let told = told-named before stands dir (edits.node-file old dir parent can.directory.there) k
      (subst (λ (all : List FileName). either (same_key (key_of dir STANDARD_INFORMATION []))
      (attributes.is_told_key (attributes.dirs_of all)) k ≡ true) names its) in
      or_right (is_own_key (read mid) setter folder 0 k) _
      (subst (λ b. (is_times_key (dir ∷ []) k || (is_node_kind k.kind && (bytes_eq k.name (wide (codes "$I30")) && b))) ≡ true)
      (sym (entry-same k.file)) told)

  pub set : IsSet half setter folder new
  set = file-set half folder parent is_gone.can times parent.flags shown new s.sets setter named (λ punches. cc)

  -- THE TREE BEHIND: without the node and its link, and with the directory's times
  abbrev last : Node
  last = touched now parent

  reads-new : read new ≡ record (read mid) { nodes = finmap.insert (tree_nodes mid) dir last }
  reads-new =
      let on = is_gone.can in
      edits.reads mid new dir times parent.flags s.sets on.sound on.apart on.other on.elsewhere shown parent on.there

  there : node_of without dir ≡ Some parent
  there = sym (ap (λ (t : Tree). node_of t dir) reads-between) ∙ node_of-read mid dir ∙ is_gone.can.there

  pub reads : read new ≡ drop_name now (Some link) tree
  reads =
      reads-new
      ∙ ap (λ nodes. record (read mid) { nodes = finmap.insert nodes dir last }) (sym (nodes-read mid))
      ∙ ap (λ (t : Tree). record t { nodes = finmap.insert t.nodes dir last }) reads-between
      ∙ sym (ap (changed_node without dir (touched now)) there)
