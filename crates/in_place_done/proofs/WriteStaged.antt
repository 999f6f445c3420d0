-- BYTES OF A STREAM that were written, and the times that were set then, staged: what is asked of the volume.
use Rattle.std.proofs.Common.{◌≡◌, ◌==◌, ◌&&◌, ℕ, Bool, true, false, List, [], codes, refl, sym, ap, ◌∙◌}
use Rattle.std.proofs.lemmas.Bool.{and_from, and_parts, eq-eqb, eqb-true, or_left}
use Rattle.std.proofs.lemmas.Slice.Eq.{bytes_eq-Decides}
use Rattle.std.specs.FinMap as finmap
use Rattle.std.specs.Str.{bytes_eq}
use Rattle.ntfs_def.specs.Units.{units_in, wide}
use Rattle.ntfs_def.specs.declared.kinds.TheConstants.{DATA, INDEX_ROOT, STANDARD_INFORMATION}
use Rattle.volume_def.specs.CaseClause.{volume_fold}
use Rattle.volume_def.specs.Files.{parts_at}
use Rattle.volume_def.specs.Values.{spot_at}
use Rattle.volume_def.specs.View.{VolumeView}
use Rattle.tree_model.specs.Effects.{put_stream, touched, tree_after}
use Rattle.tree_model.specs.Reading.{read, tree_nodes}
use Rattle.tree_model.specs.StreamRoom.{is_cluster}
use Rattle.tree_model.specs.Streams.{with_bytes, written}
use Rattle.tree_model.specs.Subjects.{Located}
use Rattle.tree_model.specs.Tree.{Tree}
use Rattle.tree_model.specs.declared.command.Command.{Command}
use Rattle.tree_model.specs.declared.tree.Node.{Node}
use Rattle.edit_def.specs.Kept.{Key, key_of, same_key}
use Rattle.session_def.specs.Done.{stream_in}
use Rattle.session_def.specs.Named.{is_own_key, is_stream_key, spelt}
use Rattle.session_def.specs.State.{Stands, State}
use Rattle.attribute_edits.specs.Below.{SetsAttributes}
use Rattle.in_place.proofs.OtherParts.{at-other}
use Rattle.in_place.proofs.PlacesSame.{names-same}
use Rattle.in_place.specs.Unnamed.{CanSet}
use Rattle.edit_written.specs.Below.{IsOverwritten, node_over}
use Rattle.in_place_owed.specs.SetsInPlace.{punches_stream}
use Rattle.in_place_owed.proofs.StandardOwed.{flag-same, standard-itself}
use Rattle.in_place_done.proofs.StagedVolume.{IsStaged}
use Rattle.in_place_done.proofs.StepsStaged.{StepsFirst, steps-staged}
use Rattle.in_place_done.proofs.TreeBehind.{fold-same, put_node, reads-put}

-- THE STREAM that was written is the command's.
stream-named : (tree : Tree) (at : Located) (name : List ℕ) → units_in name ≡ spelt tree at → (key : Key)
    → same_key (key_of at.file DATA name) key ≡ true → is_stream_key tree at key ≡ true
stream-named tree at name spelt_so key e =
    let a = and_parts (DATA == key.kind) ((at.file == key.file) && bytes_eq name key.name) e in
    let b = and_parts (at.file == key.file) (bytes_eq name key.name) a.1 in
    let same : name ≡ key.name = (bytes_eq-Decides name key.name).0 b.1 in
    and_from (key.kind == DATA) ((key.file == at.file) && bytes_eq (units_in key.name) (spelt tree at))
    (eq-eqb key.kind DATA (sym (eqb-true DATA key.kind a.0)))
    (and_from (key.file == at.file) (bytes_eq (units_in key.name) (spelt tree at))
    (eq-eqb key.file at.file (sym (eqb-true at.file key.file b.0)))
    ((bytes_eq-Decides (units_in key.name) (spelt tree at)).1 (sym (ap units_in same) ∙ spelt_so)))

-- `old` is the volume before, `mid` with the bytes, and `new` with the times too. The stream, which held other bytes, has `value` now.
module _ (before : State) (stands : Stands before) (at : Located) (node : Node) (can : CanSet before.view at.file node) (name : List ℕ)
    (spelt_so : units_in name ≡ spelt before.machine.tree at) (from : ℕ) (bytes held value : List ℕ)
    (value_is : value ≡ written from bytes held) (mid new : VolumeView)
    (o : IsOverwritten before.view mid at.file node at.stream name from bytes held)
    (sets : SetsAttributes mid new at.file (touched before.machine.now node).times node.flags) where
  abbrev old : VolumeView
  old = before.view

  abbrev f : ℕ
  f = at.file

  abbrev times : List ℕ
  times = (touched before.machine.now node).times

  abbrev over : Node
  over = node_over old at.stream from bytes held node

  abbrev stream_key : Key → Bool
  stream_key = same_key (key_of f DATA name)

  -- the stream is no part of what the tree does not show
  standard-same : parts_at mid f STANDARD_INFORMATION [] ≡ parts_at old f STANDARD_INFORMATION []
  standard-same = at-other stream_key old mid o.rewrites f STANDARD_INFORMATION [] refl

  first : StepsFirst old mid f (key_of f DATA name) over
  first = record {
    can = o.can;
    rewrites = o.rewrites;
    reads = o.reads;
    items = o.items;
    depths = o.depths;
    names = names-same stream_key old mid o.rewrites f (λ name. refl);
    roots = λ dir. at-other stream_key old mid o.rewrites dir INDEX_ROOT (wide (codes "$I30")) refl;
    standard = standard-itself (parts_at old f STANDARD_INFORMATION []) (parts_at mid f STANDARD_INFORMATION []) standard-same;
    marks = record { sparse = flag-same 0x200 old mid f standard-same; point = flag-same 0x400 old mid f standard-same };
  }

  -- THE TREE: the node with the bytes and the times
  put-same : record over { times = times; flags = node.flags } ≡ put_node before.machine at value node
  put-same =
      ap (λ (bytes : List ℕ). touched before.machine.now (with_bytes (volume_fold old) at.stream bytes node)) (sym value_is)
      ∙ ap (λ (fold : ℕ → ℕ). touched before.machine.now (with_bytes fold at.stream value node))
      (fold-same before stands)

  reads : read new ≡ record (read old) { nodes = finmap.insert (tree_nodes old) f (record over { times = times; flags = node.flags }) }
      → read new ≡ put_stream before.machine.now at value before.machine.tree
  reads is =
      reads-put before stands at value node can.there new
      (is ∙ ap (λ (n : Node). record (read old) { nodes = finmap.insert (tree_nodes old) f n }) put-same)

  -- ALL OF IT, of a command that names the stream and puts these bytes into it
  pub write-staged : (command : Command)
      → ((key : Key) → is_own_key before.machine.tree command at 0 key ≡ is_stream_key before.machine.tree at key)
      → tree_after before.machine command at 0 ≡ put_stream before.machine.now at value before.machine.tree
      → (punches_stream command ≡ true → (vcn : ℕ) → is_cluster (spot_at (stream_in old before.machine.tree at) vcn) ≡ false)
      → IsStaged before command at new
  write-staged command own effect nowhere =
      steps-staged before stands at node can over refl mid new (key_of f DATA name) first times sets command
      (λ key its. or_left (is_own_key before.machine.tree command at 0 key) _
      (own key ∙ stream-named before.machine.tree at name spelt_so key its))
      (λ is. reads is ∙ sym effect) nowhere
