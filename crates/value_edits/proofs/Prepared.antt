-- BEFORE THE RECORD IS WRITTEN, clusters are given back and taken in the bitmap, and then bytes are put into the clusters of the stream:
-- three calls, which leave the records.
use Rattle.std.proofs.Common.{◌≡◌, ◌==◌, ◌&&◌, ◌||◌, ◌<◌, ◌≤◌, ℕ, true, false, List, [], filter, length, refl, sym, ap, subst}
use Rattle.std.proofs.Common.{inl, inr, ◌∙◌, arith}
use Rattle.std.specs.Str.{bytes_eq}
use Rattle.std.proofs.lemmas.Bool.{and_left, and_parts, and_right, cases_Bool, eqb-true, ne_eqb, or_from}
use Rattle.ntfs_def.specs.declared.kinds.TheConstants.{ATTRIBUTE_LIST, BITMAP, DATA}
use Rattle.ntfs_def.specs.declared.records.TheConstants.{CLUSTER_BITMAP, MFT, MFT_MIRROR}
use Rattle.ntfs_def.specs.declared.run_text.Run.{Run}
use Rattle.volume_def.specs.BitmapClauses.{cluster_bits, record_bits}
use Rattle.volume_def.specs.Coverage.{times_covered}
use Rattle.volume_def.specs.Files.{Records, is_of, parts, parts_at, records_of}
use Rattle.volume_def.specs.Table.{TableLayout, cluster_bytes}
use Rattle.volume_def.specs.Values.{KeepsClusters, spot_at, value_of_parts, value_on}
use Rattle.volume_def.specs.View.{VolumeView}
use Rattle.volume_def.proofs.ValueLaws.{value-frame}
use Rattle.volume_edits.specs.Owners.{HasOwners}
use Rattle.edit_def.specs.Account.{nothing}
use Rattle.edit_def.specs.Edited.{Edited, is_list_key, is_room_file, is_room_key}
use Rattle.edit_def.specs.Kept.{Key, key_of, same_key}
use Rattle.edit_def.specs.Marks.{Marks}
use Rattle.edit_def.proofs.EditedLaws.{Edited-then}
use Rattle.record_edits.specs.Between.{IsReady, MayBeEdited}
use Rattle.record_edits.specs.Given.{AreOwned, GivesBack}
use Rattle.record_edits.specs.InPlace.{NamesNoRoom, is_bits_key}
use Rattle.record_edits.proofs.BlockEdits.{apart-from}
use Rattle.record_edits.proofs.PlaceCalls.{edited-place, ready-place}
use Rattle.record_edits.proofs.PlaceEdits.{clusters-kept, same}
use Rattle.stream_overwrites.proofs.Below.{within-nothing}
use Rattle.value_edits.specs.ValueEdits.{PreparesEdit}
use Rattle.value_edits.proofs.GivenBack as flush
use Rattle.value_edits.proofs.GivenBack.{none-covered, nothing-given, nothing-taken, nothing-written}

-- A STREAM OF SUCH A FILE is none in which room is kept.
alike : (key other : Key) → key.kind ≡ DATA → same_key key other ≡ true → (other.kind ≡ DATA) × (other.file ≡ key.file)
alike key other kind is =
    let both = and_parts (key.kind == other.kind) ((key.file == other.file) && bytes_eq key.name other.name) is in
    let file = and_parts (key.file == other.file) (bytes_eq key.name other.name) both.1 in
    (sym (eqb-true key.kind other.kind both.0) ∙ kind, sym (eqb-true key.file other.file file.0))

no-file : (f : ℕ) → MayBeEdited f → is_room_file f ≡ false
no-file f may =
    or_from ((f == MFT) || (f == MFT_MIRROR)) (f == CLUSTER_BITMAP)
    (or_from (f == MFT) (f == MFT_MIRROR) (ne_eqb f MFT (apart-from f MFT may (omega arith) (λ z. absurd (omega (arith, z)))))
    (ne_eqb f MFT_MIRROR (apart-from f MFT_MIRROR may (omega arith) (λ z. absurd (omega (arith, z))))))
    (ne_eqb f CLUSTER_BITMAP (apart-from f CLUSTER_BITMAP may (omega arith) (λ z. absurd (omega (arith, z)))))

no-list : (k : ℕ) → k ≡ DATA → (k == ATTRIBUTE_LIST) ≡ false
no-list k data_is = ne_eqb k ATTRIBUTE_LIST (λ is. absurd (omega (arith, is, data_is)))

no-bitmap : (k : ℕ) → k ≡ DATA → (k == BITMAP) ≡ false
no-bitmap k data_is = ne_eqb k BITMAP (λ is. absurd (omega (arith, is, data_is)))

pub no-room : (key : Key) → key.kind ≡ DATA → MayBeEdited key.file → NamesNoRoom (same_key key)
no-room key kind may other room = elim (cases_Bool (same_key key other)) [
  | inr free ↦ free
  | inl is ↦
      let its = alike key other kind is in
      let file : is_room_file other.file ≡ false = ap is_room_file its.1 ∙ no-file key.file may in
      let none : is_room_key other ≡ false =
      or_from (is_list_key other || ((other.kind == BITMAP) && ((length other.name == 0) && (other.file == MFT)))) _
      (or_from (is_list_key other) _ (no-list other.kind its.0) (and_left (other.kind == BITMAP) _ (no-bitmap other.kind its.0)))
      (and_right (other.kind == DATA) _ (and_right (length other.name == 0) (is_room_file other.file) file)) in
      let never = sym room ∙ none in
      cc
]

-- no cluster has two owners on a volume that is ready
abbrev pub owners-ready : (view : VolumeView) (marks : Marks) → IsReady view marks → HasOwners view
owners-ready view marks ready = record {
  owners = ready.editable.owners;
  mirror = ready.editable.mirror_place MFT_MIRROR refl;
  table = ready.table.table;
}

-- NOTHING BUT CLUSTERS given back is before the record ..
abbrev pub given-prepared : (key : Key) (old mid : VolumeView) (runs : List Run) → GivesBack old mid runs → PreparesEdit key old mid runs []
given-prepared key old mid runs gives = record {
  freed = mid;
  gives = gives;
  flagged = mid;
  takes = nothing-taken mid;
  fills = nothing-written (same_key key) mid;
  inside = λ c some. absurd (none-covered c some);
  unowned = λ c some. absurd (none-covered c some);
  once = λ c. omega arith;
  differ = λ c some. absurd (none-covered c some);
}

-- .. or nothing
abbrev pub nothing-prepared : (key : Key) (view : VolumeView) → PreparesEdit key view view [] []
nothing-prepared key view = given-prepared key view view [] (nothing-given view)

module _ (key : Key) (old mid : VolumeView) (given taken : List Run) (p : PreparesEdit key old mid given taken) where
  -- RECORDS, and what they own, are as they were.
  pub records-freed : records_of p.freed ≡ records_of old
  records-freed = same is_bits_key old p.freed p.gives.writes

  pub records-flagged : records_of p.flagged ≡ records_of old
  records-flagged = same is_bits_key p.freed p.flagged p.takes.writes ∙ records-freed

  pub records-mid : records_of mid ≡ records_of old
  records-mid = same (same_key key) p.flagged mid p.fills ∙ records-flagged

  pub layout-mid : mid.layout ≡ old.layout
  layout-mid = p.fills.layout ∙ p.takes.writes.layout ∙ p.gives.writes.layout

  pub told-mid : mid.told ≡ old.told
  told-mid = p.fills.told ∙ p.takes.writes.told ∙ p.gives.writes.told

  pub blocks-mid : (n : ℕ) → mid.block n ≡ old.block n
  blocks-mid n = p.fills.blocks n ∙ p.takes.writes.blocks n ∙ p.gives.writes.blocks n

  pub copies-mid : (m : ℕ) → m < 4 → mid.copy m ≡ old.copy m
  copies-mid m few = p.fills.copies m few ∙ p.takes.writes.copies m few ∙ p.gives.writes.copies m few

  -- THE THREE are calls that take nothing.
  module _ (kind : key.kind ≡ DATA) (may : MayBeEdited key.file) (marks : Marks) (ready : IsReady old marks)
      (owned : AreOwned old given) where
    pub ready-freed : IsReady p.freed marks
    ready-freed = flush.ready-back old p.freed given p.gives marks ready owned

    inside-freed : (c : ℕ) → 1 ≤ times_covered taken c → c < p.freed.layout.clusters
    inside-freed c some = subst (λ (l : TableLayout). c < l.clusters) (sym p.gives.writes.layout) (p.inside c some)

    pub ready-flagged : IsReady p.flagged marks
    ready-flagged = flush.ready-taken p.freed p.flagged taken p.takes marks ready-freed inside-freed

    pub ready-mid : IsReady mid marks
    ready-mid = ready-place (same_key key) p.flagged mid p.fills marks ready-flagged (no-room key kind may)

    edited-bits : Edited (λ key. false) nothing old p.flagged marks marks
    edited-bits = Edited-then (λ key. false) (λ key. false) nothing nothing nothing old p.freed p.flagged marks marks marks
        (within-nothing nothing) (flush.edited old p.freed given p.gives marks ready owned)
        (flush.edited-taken p.freed p.flagged taken p.takes marks ready-freed inside-freed)

    pub edited-mid : Edited (same_key key) nothing old mid marks marks
    edited-mid = Edited-then (λ key. false) (same_key key) nothing nothing nothing old p.flagged mid marks marks marks
        (within-nothing nothing) edited-bits
        (edited-place (same_key key) p.flagged mid p.fills marks ready-flagged (no-room key kind may))

    -- CLUSTERS of attributes hold what they held, but for those of the bitmaps, and then for those of the stream.
    pub clusters-flagged : (g other : ℕ) (name : List ℕ) → is_bits_key (key_of g other name) ≡ false
        → KeepsClusters old p.flagged (parts_at old g other name)
    clusters-flagged g other name free vcn c at =
        clusters-kept is_bits_key p.freed p.flagged p.takes.writes (owners-ready p.freed marks ready-freed) g other name free vcn c
        (ap (λ (r : Records). spot_at (filter (is_of other name) (parts r g)) vcn) records-freed ∙ at)
        ∙ clusters-kept is_bits_key old p.freed p.gives.writes (owners-ready old marks ready) g other name free vcn c at

    kept-filled : (g other : ℕ) (name : List ℕ) → same_key key (key_of g other name) ≡ false
        → KeepsClusters p.flagged mid (parts_at p.flagged g other name)
    kept-filled = clusters-kept (same_key key) p.flagged mid p.fills (owners-ready p.flagged marks ready-flagged)

    pub clusters-filled : (g other : ℕ) (name : List ℕ) → same_key key (key_of g other name) ≡ false
        → KeepsClusters p.flagged mid (parts_at old g other name)
    clusters-filled g other name free vcn c at =
        kept-filled g other name free vcn c
        (ap (λ (r : Records). spot_at (filter (is_of other name) (parts r g)) vcn) records-flagged ∙ at)

    -- THE BITMAPS have the values that they had since clusters were given back, and taken.
    value-filled : (g other : ℕ) (name : List ℕ) → same_key key (key_of g other name) ≡ false
        → value_on mid (parts_at mid g other name) ≡ value_on p.flagged (parts_at p.flagged g other name)
    value-filled g other name free =
        ap (λ (l : TableLayout). value_of_parts mid.cluster (cluster_bytes l) (parts_at mid g other name)) p.fills.layout
        ∙ ap (λ (r : Records). value_of_parts mid.cluster (cluster_bytes p.flagged.layout) (filter (is_of other name) (parts r g)))
        (same (same_key key) p.flagged mid p.fills)
        ∙ value-frame p.flagged.cluster mid.cluster (cluster_bytes p.flagged.layout) (parts_at p.flagged g other name)
        (kept-filled g other name free)

    pub flags-mid : value_on mid (cluster_bits mid) ≡ value_on p.flagged (cluster_bits p.flagged)
    flags-mid = value-filled CLUSTER_BITMAP DATA [] (no-room key kind may (key_of CLUSTER_BITMAP DATA []) refl)

    pub rows-mid : value_on mid (record_bits mid) ≡ value_on old (record_bits old)
    rows-mid =
        value-filled MFT BITMAP [] (no-room key kind may (key_of MFT BITMAP []) refl) ∙ p.takes.records ∙ p.gives.records
