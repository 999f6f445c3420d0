-- A STREAM, which has other bytes or went, and the times that were set then, staged: what the volume is between and behind.
use Rattle.std.proofs.Common.{◌≡◌, ◌≤◌, ◌*◌, ◌&&◌, ◌||◌, ℕ, Bool, true, List, [], ◌∷◌, Option, Some, None, codes}
use Rattle.std.proofs.Common.{refl, sym, ap, subst, ◌∙◌}
use Rattle.std.proofs.lemmas.Bool.{or_right}
use Rattle.std.specs.FinMap as finmap
use Rattle.std.specs.List.{Contains}
use Rattle.std.specs.Prelude.{bit_and, sum_by}
use Rattle.std.specs.Str.{bytes_eq}
use Rattle.ntfs_def.specs.FileName.{FileName}
use Rattle.ntfs_def.specs.Units.{wide}
use Rattle.ntfs_def.specs.declared.kinds.TheConstants.{DATA, STANDARD_INFORMATION}
use Rattle.ntfs_def.specs.declared.records.TheConstants.{MFT}
use Rattle.volume_def.specs.FileNames.{names_of}
use Rattle.volume_def.specs.Files.{Part, parts_at, records_of}
use Rattle.volume_def.specs.Table.{TableLayout, cluster_bytes}
use Rattle.volume_def.specs.View.{VolumeView}
use Rattle.tree_model.specs.Effects.{drop_stream, put_stream, touched}
use Rattle.tree_model.specs.Reading.{read, tree_nodes}
use Rattle.tree_model.specs.Streams.{with_bytes, without_stream}
use Rattle.tree_model.specs.Subjects.{Located}
use Rattle.tree_model.specs.Tree.{Tree}
use Rattle.tree_model.specs.declared.command.Command.{Command}
use Rattle.tree_model.specs.declared.command.Command.TheVariants as c
use Rattle.tree_model.specs.declared.tree.Node.{Node}
use Rattle.tree_model.specs.declared.tree.TheConstants.{SHOWN_FLAGS}
use Rattle.edit_def.specs.Kept.{Key, either, key_of, same_key}
use Rattle.edit_def.specs.OneFile.{IsTabled}
use Rattle.edit_def.specs.Purses.{part_size}
use Rattle.session_def.specs.Named.{has_entry_of, is_own_key, is_times_key}
use Rattle.session_def.specs.State.{State}
use Rattle.attribute_edits.specs.Attributes as attributes
use Rattle.attribute_edits.proofs.AttributesSet as edits
use Rattle.edit_written.specs.Below.{FindsPlain, IsEdited, PutsStream, between, node_with}
use Rattle.edit_written.proofs.Below.{not-table, stream-put}
use Rattle.in_place_owed.specs.SetsInPlace.{StandsAlone, is_node_kind, is_set_key}
use Rattle.in_place_owed.proofs.CallsOwed.{stands-alone}
use Rattle.edit_written.proofs.Below as below
use Rattle.in_place_done.specs.Written.{EditsStream}
use Rattle.in_place_done.proofs.FileSet.{file-set}
use Rattle.in_place_done.proofs.HeldStream.{HoldsStream, finds-plain}
use Rattle.in_place_done.proofs.NamedKeys.{told-named}
use Rattle.in_place_done.proofs.StagedVolume.{CanBeEdited, CanBeSet, IsSet}
use Rattle.in_place_done.proofs.TreeBehind.{fold-same, node-shown, reads-dropped, reads-put, reads-twice}

-- what the edit makes of the tree
abbrev pub stream_after : State → Located → Option (List ℕ) → Tree
stream_after before at None = drop_stream before.machine.now at before.machine.tree
stream_after before at (Some bytes) = put_stream before.machine.now at bytes before.machine.tree

-- THE STREAM IS EDITED so, and gains these clusters alone, so many at most, each by the name of the stream.
abbrev pub PutsInto : State → Located → Node → Option (List ℕ) → (List ℕ → ℕ → Bool) → (List ℕ → ℕ) → VolumeView → Type 0
PutsInto before at node bytes gains count new = EditsStream before at at.file (λ name.
    PutsStream before.view new at.file name bytes (gains name) (count name) (touched before.machine.now node).times node.flags)

-- `old` is the volume before, `mid` with the stream changed or gone, and `new` with the times too.
module _ (before : State) (command : Command) (at : Located) (node : Node) (is : CanBeEdited before command at node)
    (h : HoldsStream before.machine.tree at node) (bytes : Option (List ℕ)) (gains : List ℕ → ℕ → Bool) (count : List ℕ → ℕ)
    (new : VolumeView) (s : PutsInto before at node bytes gains count new) where
  abbrev old : VolumeView
  old = before.view

  abbrev f : ℕ
  f = at.file

  abbrev mid : VolumeView
  mid = s.edits.mid

  abbrev pub key : Key
  key = key_of f DATA s.name

  abbrev times : List ℕ
  times = (touched before.machine.now node).times

  abbrev pub over : Node
  over = node_with old at.stream bytes node

  pub finds : FindsPlain old f node at.stream s.name h.held
  finds = finds-plain before is.stands at node h s.name s.spelt_so s.there s.tellable

  pub put : IsEdited key (gains s.name) old mid over
  put = stream-put old mid f node at.stream s.name h.held bytes (gains s.name) is.can finds s.edits.puts

  abbrev pub edited : IsEdited key (gains s.name) old mid over
  edited = record { edits = s.edits.puts.edits; can = put.can; reads = put.reads }

  shown : bit_and node.flags SHOWN_FLAGS ≡ node.flags
  shown = node-shown old f node is.can.there

  -- THE FILE has the names that it had, and its directories the entries.
  pub names : names_of (records_of mid) f ≡ names_of (records_of old) f
  names = below.names-same key old mid is.can.sound is.can.apart edited.edits f

  entry-same : (dir : ℕ) → has_entry_of (read mid) (f ∷ []) dir ≡ has_entry_of before.machine.tree (f ∷ []) dir
  entry-same dir =
      ap (λ (tree : Tree). has_entry_of tree (f ∷ []) dir) edited.reads
      ∙ ap (λ (tree : Tree). has_entry_of tree (f ∷ []) dir) is.stands.reading

  high : (name : FileName) → Contains (names_of (records_of mid) f) name → 4 ≤ name.parent.number
  high name among = is.high name (subst (λ (all : List FileName). Contains all name) names among)

  -- THE VOLUME BETWEEN: its table holds its records
  tabled : IsTabled mid
  tabled =
      let was = (stands-alone before is.stands).tabled in
      let layout = below.layout key old mid is.can.sound is.can.apart edited.edits in
      let table = below.at-same key old mid is.can.sound is.can.apart edited.edits MFT DATA []
      (below.other-file key old mid is.can.sound is.can.apart edited.edits MFT DATA [] (not-table old f node is.can.there)) in
      record {
        size = subst (λ (l : TableLayout). 512 ≤ cluster_bytes l) (sym layout) was.size;
        least = subst (λ (l : TableLayout). 24 ≤ l.count) (sym layout) was.least;
        covered =
            subst (λ (l : TableLayout). 1024 * l.count ≤ sum_by part_size (parts_at mid MFT DATA []) * cluster_bytes l) (sym layout)
            (subst (λ (xs : List Part). 1024 * old.layout.count ≤ sum_by part_size xs * cluster_bytes old.layout) (sym table) was.covered);
      }

  stands : StandsAlone (between before command mid)
  stands = record { apart = edited.can.apart; tabled = tabled; sound = edited.can.sound; reading = refl }

  pub can-set : CanBeSet (between before command mid) (c.Setattr [] 0) at over
  can-set = record { stands = stands; edits = refl; none = is.none; in_place = refl; can = edited.can; high = high }

  abbrev times_key : Key → Bool
  times_key = same_key (key_of f STANDARD_INFORMATION [])

  -- the attributes that are rewritten of the file are those of a `setattr` of it
  named : (k : Key) → attributes.is_set_key mid f k ≡ true → is_set_key (read mid) (c.Setattr [] 0) at k ≡ true
  named k its =
      let told = told-named before is.stands f (edits.node-file old f node is.can.there) k
      (subst (λ (all : List FileName). either times_key (attributes.is_told_key (attributes.dirs_of all)) k ≡ true) names its) in
      or_right (is_own_key (read mid) (c.Setattr [] 0) at 0 k) _
      (subst (λ b. (is_times_key (f ∷ []) k || (is_node_kind k.kind && (bytes_eq k.name (wide (codes "$I30")) && b))) ≡ true)
      (sym (entry-same k.file)) told)

  pub set : IsSet (between before command mid) (c.Setattr [] 0) at new
  set =
      file-set (between before command mid) at over edited.can times node.flags shown new s.edits.sets (c.Setattr [] 0) named
      (λ punches. cc)

  -- THE TREE: the node with its stream changed or gone, and the times
  abbrev last : Node
  last = record over { times = times; flags = node.flags }

  reads-new : read new ≡ record (read old) { nodes = finmap.insert (tree_nodes old) f last }
  reads-new =
      let can = edited.can in
      reads-twice old mid new f over last edited.reads
      (edits.reads mid new f times node.flags s.edits.sets can.sound can.apart can.other can.elsewhere shown over can.there)

  insert-last : (n : Node) → last ≡ n → read new ≡ record (read old) { nodes = finmap.insert (tree_nodes old) f n }
  insert-last n e = reads-new ∙ ap (λ (n : Node). record (read old) { nodes = finmap.insert (tree_nodes old) f n }) e

-- SO IT READS as the tree behind the edit.
pub value-reads : (before : State) (command : Command) (at : Located) (node : Node) (is : CanBeEdited before command at node)
    (h : HoldsStream before.machine.tree at node) (bytes : Option (List ℕ)) (gains : List ℕ → ℕ → Bool) (count : List ℕ → ℕ)
    (new : VolumeView) → PutsInto before at node bytes gains count new → read new ≡ stream_after before at bytes
value-reads before command at node is h None gains count new s =
    reads-dropped before is.stands at node is.can.there new
    (insert-last before command at node is h None gains count new s _
    (ap (λ (fold : ℕ → ℕ). touched before.machine.now (without_stream fold at.stream node)) (fold-same before is.stands)))
value-reads before command at node is h (Some bytes) gains count new s =
    reads-put before is.stands at bytes node is.can.there new
    (insert-last before command at node is h (Some bytes) gains count new s _
    (ap (λ (fold : ℕ → ℕ). touched before.machine.now (with_bytes fold at.stream bytes node)) (fold-same before is.stands)))
