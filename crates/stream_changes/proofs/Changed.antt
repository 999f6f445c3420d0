-- A STREAM OF A FILE WAS EDITED in its record, where clusters of it had been given back, and others taken: the volume is in use still, and
-- the attributes of the file can be set. Then the stream is put, and no cluster is free, or has an owner, for nothing.
use Rattle.std.proofs.Common.{◌≡◌, ◌⊎◌, ◌+◌, ◌*◌, ◌≤◌, ℕ, Bool, true, List, [], length, Option, Some, None, sym, ap, subst, inl, inr, ◌∙◌}
use Rattle.std.proofs.Common.{arith}
use Rattle.std.specs.Prelude.{IfSome, IsTrue, sum_by}
use Rattle.vol_disk.specs.declared.Disk.{Ghosts}
use Rattle.ntfs_def.specs.Attribute.{Attribute}
use Rattle.ntfs_def.specs.declared.kinds.TheConstants.{DATA, STANDARD_INFORMATION}
use Rattle.ntfs_def.specs.declared.run_text.Run.{Run}
use Rattle.volume_def.specs.Coverage.{times_covered}
use Rattle.volume_def.specs.FileNames.{names_of}
use Rattle.volume_def.specs.Files.{parts_at, records_of}
use Rattle.volume_def.specs.OwnersClause.{times_owned}
use Rattle.volume_def.specs.Sound as clauses
use Rattle.volume_def.specs.Table.{TableLayout, cluster_bytes}
use Rattle.volume_def.specs.View.{VolumeView}
use Rattle.mft_table.specs.declared.mft.Mft.{Mft}
use Rattle.mft_table.specs.InUse.{IsInUse, IsSoundVolume}
use Rattle.mft_table.specs.Mft.{mounted_of, view}
use Rattle.edit_def.specs.Kept.{Key, either, key_of, same_key}
use Rattle.edit_def.specs.Purses.{run_size}
use Rattle.record_edits.specs.Given.{GivesBack, TakesRuns}
use Rattle.session_def.specs.Cost.{given_back}
use Rattle.tree_model.specs.Streams.{resized}
use Rattle.value_edits.proofs.Below.{Rewrites-then, times-same}
use Rattle.tree_edit.specs.Below.{SetsAttributes, dirs_of, is_told_key}
use Rattle.tree_edit.proofs.Below.{chain-rewrites, set-rewrites}
use Rattle.value_edits.specs.ValueEdits.{ComesInPlace, EditsAlone, EndsBy, IsEdited, PutsGiving, PutsStream, ResizesStream, count_by_length}
use Rattle.value_edits.specs.ValueEdits.{gained_by_length, no_gain, node_with}
use Rattle.value_edits.proofs.EditedRecord as value
use Rattle.value_edits.proofs.GivenCount.{few-given}
use Rattle.value_edits.proofs.StreamPut.{stream-put}
use Rattle.tree_edit.specs.Links.{CanWriteFile}
use Rattle.tree_edit.specs.Staged.{IsOfFile, IsOfNames, StagesAttributes, StagesFew, TellsStored}
use Rattle.tree_edit.proofs.StagedLaws.{few-then}
use Rattle.stream_changes.specs.Streams.{FindsNamed}
use Rattle.stream_changes.proofs.EditKept as kept

-- attributes that are set own what they owned
set-times : (old new : VolumeView) (f : ℕ) (times : List ℕ) (flags : ℕ) → SetsAttributes old new f times flags
    → (c : ℕ) → times_owned (records_of new) c ≡ times_owned (records_of old) c
set-times old new f times flags s =
    let first : Key → Bool = same_key (key_of f STANDARD_INFORMATION []) in
    let names = names_of (records_of s.mid) f in
    times-same (either first (is_told_key (dirs_of names))) old new
    (Rewrites-then first (is_told_key (dirs_of names)) old s.mid new (set-rewrites old s.mid f times flags s.sets)
    (chain-rewrites s.told names s.mid new s.refreshes))

-- .. and lie where they lay
set-layout : (old new : VolumeView) (f : ℕ) (times : List ℕ) (flags : ℕ) → SetsAttributes old new f times flags → new.layout ≡ old.layout
set-layout old new f times flags s =
    let first : Key → Bool = same_key (key_of f STANDARD_INFORMATION []) in
    let names = names_of (records_of s.mid) f in
    (Rewrites-then first (is_told_key (dirs_of names)) old s.mid new (set-rewrites old s.mid f times flags s.sets)
    (chain-rewrites s.told names s.mid new s.refreshes)).layout

-- THE WHOLE EDIT, of both steps
pub put-of : (old mid new : VolumeView) (f : ℕ) (name : List ℕ) (bytes : Option (List ℕ)) (gains : ℕ → Bool) (given taken : List Run)
    (count : ℕ) (times : List ℕ) (flags : ℕ) → PutsGiving old mid f name bytes gains given taken → sum_by run_size taken ≤ count
    → SetsAttributes mid new f times flags → PutsStream old new f name bytes gains count times flags
put-of old mid new f name bytes gains given taken count times flags p few sets = record {
  mid = mid;
  puts = p.puts;
  takes = subst (λ (runs : List Run). sum_by run_size runs ≤ count) (sym p.taken_are) few;
  sets = sets;
}

-- IT MAY GAIN more clusters than it gains.
gains-more : (view : VolumeView) (f more : ℕ) (few many : ℕ → Bool) → ((vcn : ℕ) → few vcn ≡ true → many vcn ≡ true) → (was : Attribute)
    (now : Option Attribute) → IfSome now (ComesInPlace view f few more was) → IfSome now (ComesInPlace view f many more was)
gains-more view f more few many each was None comes = comes
gains-more view f more few many each was (Some a) comes = record {
  kind = comes.kind;
  name = comes.name;
  form = comes.form;
  limits = comes.limits;
  whole = comes.whole;
  size = comes.size;
  spots = λ vcn is. elim (comes.spots vcn is) [ inl had ↦ inl had | inr gained ↦ inr (each vcn gained) ];
  holes = comes.holes;
  keeps = comes.keeps;
}

pub put-gaining : (old new : VolumeView) (f : ℕ) (name : List ℕ) (bytes : Option (List ℕ)) (few many : ℕ → Bool)
    → ((vcn : ℕ) → few vcn ≡ true → many vcn ≡ true) → (given taken : List Run)
    → PutsGiving old new f name bytes few given taken → PutsGiving old new f name bytes many given taken
put-gaining old new f name bytes few many each given taken p =
    let e = p.puts.edits in
    record {
      puts = record {
        edits = record {
          one = e.one;
          kind = e.kind;
          was = e.was;
          now = e.now;
          was_of = e.was_of;
          stood = e.stood;
          given = e.given;
          taken = e.taken;
          mid = e.mid;
          prepares = e.prepares;
          comes = gains-more old f (sum_by run_size e.taken) few many each e.was e.now e.comes;
          balance = e.balance;
          stored = e.stored;
          block = e.block;
          header = e.header;
          right = e.right;
        };
        shows = p.puts.shows;
      };
      given_are = p.given_are;
      taken_are = p.taken_are;
    }

-- .. of one that has so many bytes then, and gained nothing
pub resized-of : (old mid new : VolumeView) (f : ℕ) (name : List ℕ) (size : ℕ) (held : List ℕ) (given : List Run) (times : List ℕ)
    (flags : ℕ) → PutsGiving old mid f name (Some (resized size held)) no_gain given [] × EndsBy mid f name size
    → SetsAttributes mid new f times flags → ResizesStream old new f name size held times flags
unfolding put-of
resized-of old mid new f name size held given times flags p sets =
    let cluster = cluster_bytes old.layout in
    let parts = parts_at old f DATA name in
    record {
      puts = put-of old mid new f name (Some (resized size held)) (gained_by_length cluster parts (length held) size) given []
          (count_by_length cluster parts (length held) size) times flags
          (put-gaining old mid f name (Some (resized size held)) no_gain (gained_by_length cluster parts (length held) size)
          (λ vcn never. cc) given [] p.0) (omega arith) sets;
      ends = p.1;
    }

module _ {D : Type 0} (g : Ghosts D) (f : ℕ) (a back m : Mft D g) (named : IsTrue (view g a).told → FindsNamed (view g a) f)
    (bytes : List ℕ → Option (List ℕ)) (gains : ℕ → Bool) (given taken : IsTrue (view g a).told → List Run)
    (freed : IsTrue (view g a).told → VolumeView)
    (gives : (t : IsTrue (view g a).told) → GivesBack (view g a) (freed t) (given t))
    (takes : (t : IsTrue (view g a).told) → TakesRuns (freed t) (view g back) (taken t)) (stored : TellsStored g back)
    (mounted : mounted_of g m ≡ mounted_of g back) (same : (view g m).told ≡ (view g a).told)
    (puts : (t : IsTrue (view g a).told)
    → PutsGiving (view g a) (view g m) f (named t).name (bytes (named t).held) gains (given t) (taken t)) where
  abbrev old : VolumeView
  old = view g a

  abbrev new : VolumeView
  new = view g m

  told-a : IsTrue (view g m).told → IsTrue (view g a).told
  told-a t = sym same ∙ t

  edits : (t : IsTrue (view g a).told) → EditsAlone (key_of f DATA (named t).name) gains old new
  edits t = (puts t).puts.edits

  is-edited : (t : IsTrue (view g a).told) → IsEdited (key_of f DATA (named t).name) gains old new
      (node_with old (named t).asked (bytes (named t).held) (named t).can.node)
  is-edited t =
      let n = named t in
      stream-put old new f n.can.node n.asked n.name n.held (bytes n.held) gains n.can.can n.finds (puts t).puts

  given-times : (t : IsTrue (view g a).told) (c : ℕ) → times_covered (puts t).puts.edits.given c ≡ times_covered (given t) c
  given-times t c = ap (λ (runs : List Run). times_covered runs c) (puts t).given_are

  taken-times : (t : IsTrue (view g a).told) (c : ℕ) → times_covered (puts t).puts.edits.taken c ≡ times_covered (taken t) c
  taken-times t c = ap (λ (runs : List Run). times_covered runs c) (puts t).taken_are

  pub in-use : IsInUse g m
  unfolding edits told-a
  in-use t =
      let before = told-a t in
      let n = named before in
      let at_back : IsTrue (view g back).told = (takes before).writes.told ∙ (gives before).writes.told ∙ before in
      let kept-so = kept.stored-kept old new f n.name n.can.node n.can.can (edits before) (freed before) (view g back) (given before)
      (taken before) (gives before) (takes before) (given-times before) (taken-times before)
      (mounted_of g back).clusters (mounted_of g back).records (mounted_of g back).upcase (stored at_back) in
      subst (IsSoundVolume new) (sym mounted) (record { sound = (is-edited before).can.sound; stored = kept-so })

  pub can-write : IsTrue (view g m).told → CanWriteFile (view g m) f
  can-write t =
      let before = told-a t in
      let n = named before in
      record {
        node = node_with old n.asked (bytes n.held) n.can.node;
        can = (is-edited before).can;
        write = kept.write-kept old new f n.name n.can.node n.can.can (edits before) n.can.write;
      }

  -- THEN THE ATTRIBUTES ARE SET.
  module _ (b : Mft D g) (times : List ℕ) (flags : ℕ) (sets : IsTrue (view g m).told → SetsAttributes (view g m) (view g b) f times flags)
    where
      pub put-then : (count : ℕ) → ((t : IsTrue (view g a).told) → sum_by run_size (taken t) ≤ count) → (t : IsTrue (view g a).told)
          → PutsStream (view g a) (view g b) f (named t).name (bytes (named t).held) gains count times flags
      put-then count few t =
          put-of old new (view g b) f (named t).name (bytes (named t).held) gains (given t) (taken t) count times flags (puts t) (few t)
          (sets (same ∙ t))

      -- how often a cluster is owned then
      times-then : (t : IsTrue (view g a).told) (c : ℕ) → times_owned (records_of (view g b)) c + times_covered (given t) c
          ≡ times_owned (records_of (view g a)) c + times_covered (taken t) c
      unfolding edits
      times-then t c =
          let n = named t in
          let all = value.owned-now (key_of f DATA n.name) old new n.can.can.sound n.can.can.apart (edits t) c in
          let set = set-times new (view g b) f times flags (sets (same ∙ t)) c in
          omega (arith, all, set, given-times t c, taken-times t c)

      -- where none was taken, the clusters that were given back are free then that had an owner
      pub freed-then : (t : IsTrue (view g a).told) → taken t ≡ [] → sum_by run_size (given t) ≤ given_back (view g a) (view g b)
      freed-then t none =
          let sound = (named t).can.can.sound in
          few-given old (view g b) (given t)
          (λ c. let nothing : times_covered (taken t) c ≡ 0 = ap (λ (runs : List Run). times_covered runs c) none in
          omega (arith, times-then t c, nothing))
          (λ c. (sound clauses.Owners c).once) (λ c past. (sound clauses.Owners c).inside past)

      -- .. and where none was given back, those that were taken have an owner then that had none
      pub owned-then : (t : IsTrue (view g a).told) → given t ≡ [] → sum_by run_size (taken t) ≤ given_back (view g b) (view g a)
      owned-then t none =
          let sound = (is-edited t).can.sound in
          let clusters : (view g b).layout.clusters ≡ (view g m).layout.clusters =
          ap (λ (l : TableLayout). l.clusters) (set-layout new (view g b) f times flags (sets (same ∙ t))) in
          few-given (view g b) old (taken t)
          (λ c. let nothing : times_covered (given t) c ≡ 0 = ap (λ (runs : List Run). times_covered runs c) none in
          omega (arith, times-then t c, nothing))
          (λ c. let set = set-times new (view g b) f times flags (sets (same ∙ t)) c in
          let once = (sound clauses.Owners c).once in
          omega (arith, set, once))
          (λ c past. set-times new (view g b) f times flags (sets (same ∙ t)) c
          ∙ (sound clauses.Owners c).inside (omega (arith, past, clusters)))

  pub staged-then : (b : Mft D g) (most : ℕ) (is : ℕ → Type 0) → StagesFew g most is a m
      → (IsTrue (view g m).told → StagesAttributes g f (names_of (records_of (view g m)) f) m b) → IsTrue (view g a).told
      → StagesFew g (most + (4 + 12 * length (names_of (records_of (view g a)) f)))
      (λ s. is s ⊎ (IsOfFile (view g a) f s ⊎ IsOfNames (view g a) (names_of (records_of (view g a)) f) s)) a b
  staged-then b most is first later t =
      let n = named t in
      let e = edits t in
      let all = names_of (records_of old) f in
      let now = names_of (records_of new) f in
      let many : length now ≡ length all = kept.names-many old new f n.name n.can.node n.can.can e in
      few-then g most (4 + 12 * length now) (most + (4 + 12 * length all))
      (λ s. is s ⊎ (IsOfFile old f s ⊎ IsOfNames old all s)) is (λ s. IsOfFile new f s ⊎ IsOfNames new now s) a m b first
      (later (same ∙ t)) (omega (arith, many)) (λ s of. inl of)
      (λ s of. elim of [
        | inl own ↦ inr (inl (kept.file-before old new f n.name n.can.node n.can.can e f s own))
        | inr other ↦ inr (inr (kept.names-before old new f n.name n.can.node n.can.can e s other))
      ])
