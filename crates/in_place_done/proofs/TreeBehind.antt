-- THE TREE BEHIND THE COMMAND: the file's node has its flags, its security id, the bytes of its stream, or it no more, and the moment as
-- times.
use Rattle.std.proofs.Common.{◌≡◌, ◌&&◌, not, ℕ, Bool, true, false, cond, List, Option, Some, None, refl, sym, ap, ◌∙◌, if◌then◌else◌}
use Rattle.std.proofs.lemmas.Nat.{and_assoc}
use Rattle.std.specs.Cmp.{nat_cmp_total}
use Rattle.std.specs.FinMap as finmap
use Rattle.std.specs.Ordering.{eq_by_cmp, nat_cmp}
use Rattle.std.specs.Prelude.{bit_and, option_and_then, slice_set}
use Rattle.ntfs_def.specs.StandardInformation.{dos_flags}
use Rattle.volume_def.specs.CaseClause.{volume_fold}
use Rattle.volume_def.specs.Files.{Record, is_base, parts, record_on, records_of}
use Rattle.volume_def.specs.View.{VolumeView}
use Rattle.tree_model.specs.Effects.{changed, changed_node, drop_stream, put_stream, stamped, touched, tree_after}
use Rattle.tree_model.specs.Hidden.{is_hidden}
use Rattle.tree_model.specs.Reading.{node_at, node_by, node_on, read, standard_of, tree_nodes}
use Rattle.tree_model.specs.Streams.{with_bytes, without_stream}
use Rattle.tree_model.specs.Subjects.{Located, Machine}
use Rattle.tree_model.specs.Tree.{Tree, node_of}
use Rattle.tree_model.specs.declared.command.Command.TheVariants as c
use Rattle.tree_model.specs.declared.tree.Node.{Node}
use Rattle.tree_model.specs.declared.tree.TheConstants.{SHOWN_FLAGS}
use Rattle.tree_model.proofs.ReadingLaws.{node_of-read}
use Rattle.session_def.specs.State.{Stands, State}
use Rattle.edit_written.specs.Steps.{with_node}

pub nodes-read : (view : VolumeView) → (read view).nodes ≡ tree_nodes view
unfolding read
nodes-read view = refl

pub fold-read : (view : VolumeView) → (read view).fold ≡ volume_fold view
unfolding read
fold-read view = refl

pub fold-same : (before : State) → Stands before → volume_fold before.view ≡ before.machine.tree.fold
fold-same before stands = sym (fold-read before.view) ∙ ap (λ (tree : Tree). tree.fold) stands.reading

-- A NODE has no flags but those that are shown.
pub node-shown : (view : VolumeView) (f : ℕ) (node : Node) → node_at view f ≡ Some node → bit_and node.flags SHOWN_FLAGS ≡ node.flags
unfolding node_at node_by
node-shown view f node there = by (record_on view f) there
  where
    shown : (r : Record) → bit_and (node_by view r (parts (records_of view) f)).flags SHOWN_FLAGS
        ≡ (node_by view r (parts (records_of view) f)).flags
    shown r = and_assoc SHOWN_FLAGS (dos_flags (standard_of (parts (records_of view) f))) SHOWN_FLAGS

    inner : (r : Record) (b : Bool) → (if b then Some (node_by view r (parts (records_of view) f)) else None) ≡ Some node
        → bit_and node.flags SHOWN_FLAGS ≡ node.flags
    inner r true e =
        let same : node_by view r (parts (records_of view) f) ≡ node = cc in
        sym (ap (λ (n : Node). bit_and n.flags SHOWN_FLAGS) same) ∙ shown r ∙ ap (λ (n : Node). n.flags) same
    inner r false e = cc

    by : (o : Option Record) → option_and_then (node_on view f) o ≡ Some node → bit_and node.flags SHOWN_FLAGS ≡ node.flags
    by None e = cc
    by (Some r) e = inner r (is_base r && not (is_hidden (records_of view) f)) e

-- A NODE THAT IS PUT IN TWICE is put in once.
pub insert-again : (nodes : finmap.FinMap nat_cmp Node) (f : ℕ) (a b : Node)
    → finmap.insert (finmap.insert nodes f a) f b ≡ finmap.insert nodes f b
insert-again nodes f a b = finmap.same_map nat_cmp_total finmap.nat_cmp-IsAntisymmetric _ _ (λ q.
    finmap.get-insert nat_cmp_total (finmap.insert nodes f a) f b q
    ∙ ap (λ (o : Option Node). cond (eq_by_cmp nat_cmp q f) (Some b) o) (finmap.get-insert nat_cmp_total nodes f a q)
    ∙ twice (eq_by_cmp nat_cmp q f) (finmap.get nodes q)
    ∙ sym (finmap.get-insert nat_cmp_total nodes f b q))
  where
    twice : (test : Bool) (o : Option Node) → cond test (Some b) (cond test (Some a) o) ≡ cond test (Some b) o
    twice true o = refl
    twice false o = refl

-- so two steps that each put in the file are one
pub reads-twice : (old mid new : VolumeView) (f : ℕ) (first last : Node) → read mid ≡ with_node f first (read old)
    → read new ≡ record (read mid) { nodes = finmap.insert (tree_nodes mid) f last }
    → read new ≡ record (read old) { nodes = finmap.insert (tree_nodes old) f last }
reads-twice old mid new f first last once again =
    again
    ∙ ap (λ nodes. record (read mid) { nodes = finmap.insert nodes f last }) (sym (nodes-read mid))
    ∙ ap (λ (tree : Tree). record tree { nodes = finmap.insert tree.nodes f last }) once
    ∙ ap (λ nodes. record (read old) { nodes = nodes }) (insert-again (read old).nodes f first last)
    ∙ ap (λ nodes. record (read old) { nodes = finmap.insert nodes f last }) (nodes-read old)

-- the node is that of the machine's tree
pub node-there : (before : State) → Stands before → (f : ℕ) (node : Node) → node_at before.view f ≡ Some node
    → node_of before.machine.tree f ≡ Some node
node-there before stands f node there =
    ap (λ (tree : Tree). node_of tree f) (sym stands.reading) ∙ node_of-read before.view f ∙ there

-- THE TREE with this node in place of the file's
with-node : (before : State) → Stands before → (f : ℕ) (node : Node)
    → record (read before.view) { nodes = finmap.insert (tree_nodes before.view) f node }
    ≡ record before.machine.tree { nodes = finmap.insert before.machine.tree.nodes f node }
with-node before stands f node =
    ap (λ nodes. record (read before.view) { nodes = finmap.insert nodes f node }) (sym (nodes-read before.view))
    ∙ ap (λ (tree : Tree). record tree { nodes = finmap.insert tree.nodes f node }) stands.reading

-- FLAGS: the node of a file that has them now, at this moment
abbrev pub set_node : Machine → ℕ → Node → Node
set_node m flags node = record node { times = slice_set node.times 2 m.now; flags = flags }

after-set : (m : Machine) (path : List (List ℕ)) (flags : ℕ) (at : Located) (node : Node) → node_of m.tree at.file ≡ Some node
    → tree_after m (c.Setattr path flags) at 0
    ≡ record m.tree { nodes = finmap.insert m.tree.nodes at.file (set_node m flags node) }
unfolding tree_after
after-set m path flags at node there =
    ap (changed_node m.tree at.file (λ (n : Node). stamped m.now (record n { flags = flags }))) there

pub reads-set : (before : State) → Stands before → (path : List (List ℕ)) (flags : ℕ) (at : Located) (node : Node)
    → node_at before.view at.file ≡ Some node → (new : VolumeView)
    → read new ≡ record (read before.view) {
      nodes = finmap.insert (tree_nodes before.view) at.file (set_node before.machine flags node);
    }
    → read new ≡ tree_after before.machine (c.Setattr path flags) at 0
reads-set before stands path flags at node there new reads =
    reads ∙ with-node before stands at.file (set_node before.machine flags node)
    ∙ sym (after-set before.machine path flags at node (node-there before stands at.file node there))

-- THE SECURITY ID of a file that has it now, at this moment
abbrev pub secured_node : Machine → ℕ → Node → Node
secured_node m id node = record node { times = slice_set node.times 2 m.now; security = id }

after-secured : (m : Machine) (path : List (List ℕ)) (id : ℕ) (at : Located) (node : Node) → node_of m.tree at.file ≡ Some node
    → tree_after m (c.Setsec path id) at 0
    ≡ record m.tree { nodes = finmap.insert m.tree.nodes at.file (secured_node m id node) }
unfolding tree_after
after-secured m path id at node there =
    ap (changed_node m.tree at.file (λ (n : Node). stamped m.now (record n { security = id }))) there

pub reads-secured : (before : State) → Stands before → (path : List (List ℕ)) (id : ℕ) (at : Located) (node : Node)
    → node_at before.view at.file ≡ Some node → (new : VolumeView)
    → read new ≡ record (read before.view) {
      nodes = finmap.insert (tree_nodes before.view) at.file (secured_node before.machine id node);
    }
    → read new ≡ tree_after before.machine (c.Setsec path id) at 0
reads-secured before stands path id at node there new reads =
    reads ∙ with-node before stands at.file (secured_node before.machine id node)
    ∙ sym (after-secured before.machine path id at node (node-there before stands at.file node there))

-- ANY CHANGE of the file
pub reads-changed : (before : State) → Stands before → (f : ℕ) (change : Node → Node) (node : Node) → node_at before.view f ≡ Some node
    → (new : VolumeView)
    → read new ≡ record (read before.view) { nodes = finmap.insert (tree_nodes before.view) f (change node) }
    → read new ≡ changed f change before.machine.tree
reads-changed before stands f change node there new reads =
    reads ∙ with-node before stands f (change node)
    ∙ sym (ap (changed_node before.machine.tree f change) (node-there before stands f node there))

-- BYTES of the stream, and the moment
abbrev pub put_node : Machine → Located → List ℕ → Node → Node
put_node m at bytes node = touched m.now (with_bytes m.tree.fold at.stream bytes node)

-- .. and the stream gone
abbrev pub dropped_node : Machine → Located → Node → Node
dropped_node m at node = touched m.now (without_stream m.tree.fold at.stream node)

pub reads-put : (before : State) → Stands before → (at : Located) (bytes : List ℕ) (node : Node)
    → node_at before.view at.file ≡ Some node → (new : VolumeView)
    → read new ≡ record (read before.view) {
      nodes = finmap.insert (tree_nodes before.view) at.file (put_node before.machine at bytes node);
    }
    → read new ≡ put_stream before.machine.now at bytes before.machine.tree
reads-put before stands at bytes node there new reads =
    reads-changed before stands at.file (put_node before.machine at bytes) node there new reads

pub reads-dropped : (before : State) → Stands before → (at : Located) (node : Node)
    → node_at before.view at.file ≡ Some node → (new : VolumeView)
    → read new ≡ record (read before.view) {
      nodes = finmap.insert (tree_nodes before.view) at.file (dropped_node before.machine at node);
    }
    → read new ≡ drop_stream before.machine.now at before.machine.tree
reads-dropped before stands at node there new reads =
    reads-changed before stands at.file (dropped_node before.machine at) node there new reads
