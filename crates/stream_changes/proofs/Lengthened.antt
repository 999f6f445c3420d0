-- A STREAM IN CLUSTERS THAT GETS LONGER within its last cluster: its record is edited, and then the attributes of its file are set.
use Rattle.std.proofs.Common.{◌≡◌, ◌⊎◌, ◌+◌, ◌*◌, ◌-◌, ◌^◌, ◌<◌, ◌≤◌, ℕ, Bool, true, false, List, [], ◌∷◌, Option, None, Some, length, refl}
use Rattle.std.proofs.Common.{sym, ap, subst, inl, inr, ◌∙◌, arith}
use Rattle.std.specs.Prelude.{IsSomeAnd, IsTrue, slice_get}
use Rattle.std.specs.Option.{option_map}
use Rattle.std.proofs.Math.Nat.{div-mul-le_self}
use Rattle.vol_disk.specs.declared.Disk.{Ghosts}
use Rattle.ntfs_def.specs.Attribute.{Attribute, Body, ExtentHeader, NonResident, Resident, extent_of}
use Rattle.ntfs_def.specs.Rounded.{clusters_for}
use Rattle.ntfs_def.specs.Runs.{total_clusters}
use Rattle.ntfs_def.specs.declared.run_text.Run.{Run}
use Rattle.ntfs_def.specs.declared.sizes.Sizes.{Sizes}
use Rattle.volume_def.specs.Coverage.{IsApart}
use Rattle.volume_def.specs.FileNames.{names_of}
use Rattle.volume_def.specs.Files.{Clusters, Part, content_of, part_of, parts, records_of}
use Rattle.volume_def.specs.Readable.{IsFile, WhereReadable}
use Rattle.volume_def.specs.Table.{cluster_bytes}
use Rattle.volume_def.specs.View.{VolumeView}
use Rattle.volume_def.proofs.SoundLaws.{readable-sound}
use Rattle.mft_table.specs.declared.mft.Mft.{Mft}
use Rattle.mft_table.specs.InUse.{IsInUse}
use Rattle.mft_table.specs.Mft.{KeepsDisk, view}
use Rattle.file_record.specs.Held.{parts_held}
use Rattle.file_record.specs.Written.{PartHeld}
use Rattle.file_record.specs.declared.parts.FileParts.{FileParts}
use Rattle.extent_edits.specs.Extended.{ExtendsExtent}
use Rattle.sparse_io.specs.declared.find.FoundStream.{FoundStream}
use Rattle.tree_model.specs.Streams.{resized}
use Rattle.tree_edit.specs.Below.{IsInitialized, SetsAttributes, StagesRecordOf}
use Rattle.tree_edit.proofs.Below.{node-file}
use Rattle.tree_edit.proofs.LinkLaws.{initialized}
use Rattle.tree_edit.specs.Links.{CanWriteFile}
use Rattle.tree_edit.specs.Staged.{IsOfEdit, IsOfFile, IsOfNames, StagesAttributes}
use Rattle.tree_edit.proofs.StagedLaws.{few-more, few-standard}
use Rattle.value_edits.specs.ValueEdits.{EndsBy, PutsGiving, ResizesStream, no_gain}
use Rattle.value_edits.proofs.GivenBack.{nothing-given, nothing-taken}
use Rattle.value_edits.proofs.LongerStreams.{lengthened-put}
use Rattle.stream_changes.specs.Staged.{StagesGiving}
use Rattle.stream_changes.specs.Streams.{CanGive, EndsInLast, ExtendsPart, ExtendsPartWhereItCan, FindsNamed}
use Rattle.stream_changes.proofs.Changed as changed
use Rattle.stream_changes.proofs.ExtentLaws.{alone, is-stream}
use Rattle.stream_changes.proofs.GivingLaws.{gives-none}
use Rattle.stream_changes.proofs.ReachLaws.{le-mul}

-- THE SIZES of an extent that is held
extent-body : (body : Body) (extent : ExtentHeader) (runs : Option (List Run)) → content_of body ≡ Clusters extent runs
    → extent_of body ≡ Some extent
extent-body (Resident value) extent runs is = cc
extent-body (NonResident its text) extent runs is = let same : its ≡ extent = cc in ap Some same

sizes-held : (o : Option Part) (part : Part) (a : Attribute) (extent : ExtentHeader) (runs : Option (List Run)) → o ≡ Some part
    → IsSomeAnd o (λ its. its ≡ part_of its.holder a) → part.content ≡ Clusters extent runs
    → option_map (λ (e : ExtentHeader). e.sizes) (extent_of a.body) ≡ Some extent.sizes
sizes-held o part a extent runs at its is =
    let here : part ≡ part_of part.holder a = subst (λ (o : Option Part). IsSomeAnd o (λ its. its ≡ part_of its.holder a)) at its in
    ap (option_map (λ (e : ExtentHeader). e.sizes))
    (extent-body a.body extent runs (sym (ap (λ (p : Part). p.content) here) ∙ is))

pub held-sizes : (v : VolumeView) (found : FoundStream) (f : ℕ) (c : CanGive v found f) (held : FileParts)
    (a : Attribute) (o : Option Sizes)
    → parts_held held ≡ parts (records_of v) f → PartHeld held found.part (λ part. part ≡ part_of part.holder a)
    → o ≡ option_map (λ (e : ExtentHeader). e.sizes) (extent_of a.body) → o ≡ Some c.extent.sizes
held-sizes v found f c held a o are its told =
    told ∙ sizes-held (slice_get (parts_held held) found.part) c.part a c.extent (Some c.runs)
    (ap (λ (ps : List Part). slice_get ps found.part) are ∙ c.at) its c.is

-- one extent has one header, and its runs
pub same-extent : (x y : ExtentHeader) (r s : List Run) → Clusters x (Some r) ≡ Clusters y (Some s) → (x ≡ y) × (r ≡ s)
same-extent x y r s e = (cc, cc)

module _ {D : Type 0} (g : Ghosts D) (found : FoundStream) (f size initialized_then : ℕ) (a m : Mft D g)
    (volume : IsInUse g a) (disk : KeepsDisk g a m) (near : size ≤ 2 ^ 40)
    (few : (view g a).layout.cluster_sectors ≤ 8) (can : IsTrue (view g a).told → CanGive (view g a) found f)
    (ends : (t : IsTrue (view g a).told) → EndsInLast (view g a) size (can t).extent (can t).runs)
    (was : (t : IsTrue (view g a).told) → initialized_then ≡ (can t).extent.sizes.initialized) (done : Bool)
    (tells : WhereReadable (view g a) (IsFile (view g a) f → IsApart (view g a).layout → IsInitialized (view g a) f
    → (part : Part) → slice_get (parts (records_of (view g a)) f) found.part ≡ Some part
    → ExtendsPartWhereItCan done (view g a) (view g m) f part size initialized_then None)) where
  abbrev old : VolumeView
  old = view g a

  abbrev new : VolumeView
  new = view g m

  abbrev named : IsTrue (view g a).told → FindsNamed (view g a) f
  named t = (can t).named

  of-part : (t : IsTrue (view g a).told) → ExtendsPartWhereItCan done old new f (can t).part size initialized_then None
  of-part t =
      let c = can t in
      tells t (readable-sound old c.named.can.can.sound) (node-file old f c.named.can.node c.named.can.can.there) c.named.can.write.apart
      (initialized old f c.named.can.write) c.part c.at

  -- It can always go on so.
  pub lengthen-never : done ≡ false → IsTrue (view g a).told → ⊥
  lengthen-never not t =
      let c = can t in
      let bytes = cluster_bytes old.layout in
      let some = c.named.can.can.apart.some in
      let whole = div-mul-le_self (size + (bytes - 1)) bytes in
      let last = (ends t).last in
      let scaled : total_clusters c.runs * bytes ≡ clusters_for size bytes * bytes = ap (λ n. n * bytes) (sym last) in
      let all : (total_clusters c.runs + 0) * bytes ≡ total_clusters c.runs * bytes = omega arith in
      let told : total_clusters c.runs * bytes < 2 ^ 64 = omega (arith, scaled, whole, near, few) in
      let most : total_clusters c.runs ≤ total_clusters c.runs * bytes = le-mul (total_clusters c.runs) bytes (omega (arith, some)) in
      let never = subst (λ d. ExtendsPartWhereItCan d old new f c.part size initialized_then None) not (of-part t) (record {
        extent = c.extent;
        runs = c.runs;
        is = c.is;
        first = c.first;
        total = omega (arith, most, scaled, whole, near, few);
        told = omega (arith, all, told);
      }) in
      never.0 refl

  module _ (does : done ≡ true) where
    both : (t : IsTrue (view g a).told)
        → PutsGiving old new f (named t).name (Some (resized size (named t).held)) no_gain [] [] × EndsBy new f (named t).name size
    both t =
        let c = can t in
        let r : ExtendsPart old new f c.part size initialized_then None =
        subst (λ d. ExtendsPartWhereItCan d old new f c.part size initialized_then None) does (of-part t) in
        subst (λ n. (e : ExtendsExtent old new n r.i size initialized_then None) → part_of n e.was ≡ c.part
        → PutsGiving old new f c.named.name (Some (resized size c.named.held)) no_gain [] [] × EndsBy new f c.named.name size)
        (sym (alone old found f c r.n r.own))
        (λ e is.
        let same = same-extent e.extended.can.extent c.extent e.extended.can.runs c.runs
        (sym e.extended.can.is ∙ ap (λ (p : Part). p.content) is ∙ c.is) in
        lengthened-put old new f r.i size initialized_then c.named.can.node c.named.asked c.named.name c.named.held e
        c.named.can.can c.named.finds c.one
        (is-stream old found f c f e.was is) (c.alone ∙ ap (λ (p : Part). p ∷ []) (sym is))
        (was t ∙ ap (λ (h : ExtentHeader). h.sizes.initialized) (sym same.0))
        (subst (λ (h : ExtentHeader). h.sizes.real ≤ size) (sym same.0) (ends t).more) near
        ((ends t).last ∙ ap total_clusters (sym same.1)))
        r.extends r.is

    puts : (t : IsTrue (view g a).told) → PutsGiving old new f (named t).name (Some (resized size (named t).held)) no_gain [] []
    puts t = (both t).0

    pub lengthen-in-use : IsInUse g m
    lengthen-in-use = changed.in-use g f a a m named (λ held. Some (resized size held)) no_gain (λ t. []) (λ t. []) (λ t. view g a)
        (λ t. nothing-given (view g a)) (λ t. nothing-taken (view g a)) (λ t. (volume t).stored) disk.mounted disk.goes_on.told_image puts

    pub lengthen-can-write : IsTrue (view g m).told → CanWriteFile (view g m) f
    lengthen-can-write = changed.can-write g f a a m named (λ held. Some (resized size held)) no_gain (λ t. []) (λ t. []) (λ t. view g a)
        (λ t. nothing-given (view g a)) (λ t. nothing-taken (view g a)) (λ t. (volume t).stored) disk.mounted disk.goes_on.told_image puts

    pub lengthen-put : (b : Mft D g) (times : List ℕ) (flags : ℕ)
        → (IsTrue (view g m).told → SetsAttributes (view g m) (view g b) f times flags)
        → (t : IsTrue (view g a).told) → ResizesStream (view g a) (view g b) f (can t).named.name size (can t).named.held times flags
    lengthen-put b times flags sets t =
        changed.resized-of old new (view g b) f (named t).name size (named t).held [] times flags (both t)
        (sets (disk.goes_on.told_image ∙ t))

    pub lengthen-staged : (b : Mft D g) → StagesRecordOf g f a m
        → (IsTrue (view g m).told → StagesAttributes g f (names_of (records_of (view g m)) f) m b)
        → IsTrue (view g a).told → StagesGiving g 8 f (view g a) a b
    lengthen-staged b first later t =
        let names = names_of (records_of old) f in
        gives-none g 8 f old a b
        (few-more g (4 + (4 + 12 * length names)) (8 + 12 * length names) (IsOfEdit old f names)
        (λ s. IsOfFile old f s ⊎ (IsOfFile old f s ⊎ IsOfNames old names s)) a b
        (changed.staged-then g f a a m named (λ held. Some (resized size held)) no_gain (λ t. []) (λ t. []) (λ t. view g a)
        (λ t. nothing-given (view g a)) (λ t. nothing-taken (view g a)) (λ t. (volume t).stored) disk.mounted disk.goes_on.told_image puts
        b 4 (IsOfFile old f) (few-standard g f a m first t) later t) (omega arith)
        (λ s of. elim of [ inl own ↦ inr (inl own) | inr other ↦ inr other ]))
