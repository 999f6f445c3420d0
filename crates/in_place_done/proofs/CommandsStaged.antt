-- THE STAGED VOLUME of each command that is done in place, and that it can be written.
use Rattle.std.proofs.Common.{◌≡◌, min, ℕ, true, false, List, Option, length, refl, sym, ap, subst, ◌∙◌, arith}
use Rattle.std.specs.Prelude.{IsTrue}
use Rattle.volume_def.specs.Values.{spot_at}
use Rattle.volume_def.specs.View.{VolumeView}
use Rattle.tree_model.specs.Answers.{bytes_at}
use Rattle.tree_model.specs.Effects.{put_stream, tree_after}
use Rattle.tree_model.specs.Ways.{is_done_in_place}
use Rattle.tree_model.specs.StreamRoom.{is_cluster, parts_named}
use Rattle.tree_model.specs.Streams.{punched, written}
use Rattle.tree_model.specs.Subjects.{Located}
use Rattle.tree_model.specs.declared.command.Command.{Command}
use Rattle.tree_model.specs.declared.command.Command.TheVariants as c
use Rattle.tree_model.specs.declared.tree.Node.{Node}
use Rattle.edit_def.specs.Kept.{Key}
use Rattle.session_def.specs.Named.{is_own_key, is_stream_key}
use Rattle.session_def.specs.State.{Stands, State}
use Rattle.attribute_edits.proofs.SecuredVolume.{secured}
use Rattle.edit_written.specs.Below.{zeros_in}
use Rattle.edit_written.proofs.Below.{overwritten, value-overwritten}
use Rattle.in_place_owed.specs.SetsInPlace.{is_set_key, punches_stream}
use Rattle.in_place_owed.proofs.Owes as in_place
use Rattle.in_place_done.specs.Written.{PunchesStream, PutsInStream, Stages, WritesStream}
use Rattle.in_place_done.proofs.HeldStream.{HoldsStream, finds-plain}
use Rattle.in_place_done.proofs.PunchedStream.{nowhere, punched-written, value-held}
use Rattle.in_place_done.proofs.SecureStaged.{secure-staged}
use Rattle.in_place_done.proofs.SetStaged.{set-staged}
use Rattle.in_place_done.proofs.NoneGiven.{none-given, none-taken}
use Rattle.in_place_done.proofs.SetOwed.{set-alone, set-in-place}
use Rattle.in_place_done.proofs.StagedVolume.{CanBeEdited, CanBeWritten, IsStaged, can-be-set}
use Rattle.in_place_done.proofs.Ways.{InPlace}
use Rattle.in_place_done.proofs.WriteStaged.{write-staged}

-- the volume of an image is told
tells : (before : State) → Stands before → IsTrue before.view.told
tells before stands = ap (λ (v : VolumeView). v.told) stands.volume.is

-- what writes do to the tree
pub write-effect : (before : State) (path : List (List ℕ)) (stream : Option (List ℕ)) (from : ℕ) (bytes : List ℕ) (at : Located)
    → tree_after before.machine (c.Write path stream from bytes) at 0
    ≡ put_stream before.machine.now at (written from bytes (bytes_at at)) before.machine.tree
unfolding tree_after
write-effect before path stream from bytes at = refl

pub hwrite-effect : (before : State) (handle from : ℕ) (bytes : List ℕ) (at : Located)
    → tree_after before.machine (c.Hwrite handle from bytes) at 0
    ≡ put_stream before.machine.now at (written from bytes (bytes_at at)) before.machine.tree
unfolding tree_after
hwrite-effect before handle from bytes at = refl

punch-effect : (before : State) (path : List (List ℕ)) (stream : Option (List ℕ)) (from len : ℕ) (at : Located)
    → tree_after before.machine (c.Punch path stream from len) at 0
    ≡ put_stream before.machine.now at (punched from len (bytes_at at)) before.machine.tree
unfolding tree_after
punch-effect before path stream from len at = refl

-- BYTES OVER BYTES, of a command that does this to the tree
over-staged : (before : State) (command : Command) (at : Located) (node : Node) (new : VolumeView) (from : ℕ) (bytes : List ℕ)
    → CanBeEdited before command at node → HoldsStream before.machine.tree at node → WritesStream before at at.file node from bytes new
    → ((key : Key) → is_own_key before.machine.tree command at 0 key ≡ is_stream_key before.machine.tree at key)
    → tree_after before.machine command at 0 ≡ put_stream before.machine.now at (written from bytes (bytes_at at)) before.machine.tree
    → (punches_stream command ≡ true → ⊥) → IsStaged before command at new
over-staged before command at node new from bytes is h s own effect none =
    write-staged before is.stands at node is.can s.name s.spelt_so from bytes h.held (written from bytes (bytes_at at))
    (ap (written from bytes) h.holds) s.writes.mid new
    (overwritten before.view s.writes.mid at.file node at.stream s.name from bytes h.held (tells before is.stands) is.can
    (finds-plain before is.stands at node h s.name s.spelt_so s.there s.tellable) s.writes.over) s.writes.sets
    command own effect (λ punches. absurd (none punches))

-- A RANGE OF A VALUE made zero: zeros went over its bytes
punch-staged : (before : State) (path : List (List ℕ)) (stream : Option (List ℕ)) (from len : ℕ) (at : Located) (node : Node)
    (new : VolumeView) → CanBeEdited before (c.Punch path stream from len) at node → PunchesStream before at at.file node from len new
    → IsStaged before (c.Punch path stream from len) at new
punch-staged before path stream from len at node new is s =
    let h = is.stream refl in
    let p = s.punches in
    let bytes = zeros_in from len p.value in
    let start = min from (length p.value) in
    let finds = finds-plain before is.stands at node h s.name s.spelt_so s.there s.tellable in
    let same : p.value ≡ h.held =
    value-held before.view p.mid at.file node at.stream s.name start bytes h.held is.can finds p.over p.value p.value_is in
    write-staged before is.stands at node is.can s.name s.spelt_so start bytes h.held (punched from len (bytes_at at))
    (ap (punched from len) h.holds ∙ punched-written from len h.held
    ∙ ap (λ (value : List ℕ). written (min from (length value)) (zeros_in from len value) h.held) (sym same)) p.mid new
    (value-overwritten before.view p.mid at.file node at.stream s.name start bytes h.held is.can finds p.over) p.sets
    (c.Punch path stream from len) (λ key. refl) (punch-effect before path stream from len at)
    (λ punches vcn. subst (λ (name : List ℕ). is_cluster (spot_at (parts_named before.view at.file name) vcn) ≡ false) s.spelt_so
    (nowhere before.view p.mid at.file node at.stream s.name start bytes h.held is.can finds p.over vcn))

-- WHAT A COMMAND STAGES that is done in place is as it is to be.
pub is-staged : (before : State) (command : Command) (at : Located) (node : Node) (new : VolumeView)
    → is_done_in_place before.view before.machine.tree command at ≡ true
    → CanBeEdited before command at node → Stages before command at at.file node new → IsStaged before command at new
is-staged before (c.Setattr path flags) at node new place is stages =
    set-staged before is.stands path flags is.shown at node is.can new stages
is-staged before (c.Write path stream from bytes) at node new place is stages =
    over-staged before (c.Write path stream from bytes) at node new from bytes is (is.stream refl)
    (subst (λ b. PutsInStream b before at at.file node from bytes new) place stages) (λ key. refl)
    (write-effect before path stream from bytes at) (λ punches. cc)
is-staged before (c.Hwrite handle from bytes) at node new place is stages =
    over-staged before (c.Hwrite handle from bytes) at node new from bytes is (is.stream refl)
    (subst (λ b. PutsInStream b before at at.file node from bytes new) place stages) (λ key. refl)
    (hwrite-effect before handle from bytes at) (λ punches. cc)
is-staged before (c.Punch path stream from len) at node new place is stages =
    punch-staged before path stream from len at node new is stages
is-staged before (c.Setsec path id) at node new place is stages =
    secure-staged before is.stands path id at node is.can stages.mid new
    (secured before.view stages.mid at.file id node is.shown is.can stages.secures) stages.sets
is-staged before other at node new place is stages = cc

-- SO IT CAN BE WRITTEN.
pub place-written : (before : State) (command : Command) (at : Located) (node : Node) (new : VolumeView)
    → InPlace before.view before.machine.tree command at
    → CanBeEdited before command at node → Stages before command at at.file node new → CanBeWritten before command at new
place-written before command at node new place is stages =
    let s = is-staged before command at node new place.is is stages in
    let can = can-be-set before command at node place is in
    record {
      sound = s.set.sound;
      reads = s.reads;
      alone = set-alone before command at node new can s.set;
      leaves = λ next first settled long wrote.
          let none = none-given (is_set_key before.machine.tree command at) before.view new s.set.rewrites in
          let still = none-taken (is_set_key before.machine.tree command at) before.view new s.set.rewrites in
          in_place.leaves before next command at 0 new
          (set-in-place before command at node new can s.set next first settled long (omega (arith, wrote, none, still)));
    }
