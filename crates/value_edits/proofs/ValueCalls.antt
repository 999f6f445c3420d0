-- THE CALLS that edit a value of a stream: it has other bytes, or it goes.
use Rattle.std.proofs.Common.{◌≡◌, ◌≢◌, ◌+◌, ℕ, List, [], ◌∷◌, None, Option, Some, false, refl, sym, ap, subst, ◌∙◌, arith}
use Rattle.std.specs.Prelude.{IfSome, IsSome, IsSomeAnd}
use Rattle.std.specs.Option.{option_map}
use Rattle.ntfs_def.specs.Attribute.{Attribute, value_of}
use Rattle.ntfs_def.specs.Flags.{is_packed}
use Rattle.ntfs_def.specs.declared.kinds.TheConstants.{DATA, FILE_NAME, STANDARD_INFORMATION}
use Rattle.list_laws.proofs.MemberLaws.{Contains-head}
use Rattle.list_laws.proofs.ReplacesLaws.{Replaces-stood}
use Rattle.volume_def.specs.AttributesClause.{IsRightRecord}
use Rattle.volume_def.specs.Coverage.{times_covered}
use Rattle.volume_def.specs.Files.{Part, part_of, parts_at, records_of}
use Rattle.volume_def.specs.Readable.{IsReadableVolume}
use Rattle.volume_def.specs.Sound as clauses
use Rattle.volume_def.specs.Values.{first_part, spot_at}
use Rattle.volume_def.specs.View.{VolumeView}
use Rattle.volume_def.proofs.RecordLaws.{parts-own_at}
use Rattle.volume_def.proofs.SoundLaws.{readable-sound}
use Rattle.volume_edits.specs.Rewritten.{EditsBlock}
use Rattle.tree_model.specs.StreamRoom.{is_cluster}
use Rattle.tree_model.specs.declared.tree.Node.{Node}
use Rattle.edit_def.specs.Kept.{Key, key_of}
use Rattle.record_edits.specs.Owners.{times_in}
use Rattle.record_edits.specs.RecordEdit.{parts_made}
use Rattle.record_edits.proofs.BlockEdits.{base-file, edit-of, was-at}
use Rattle.extent_edits.specs.Attributes.{ChangesValue, RemovesAttribute}
use Rattle.stream_overwrites.specs.Below.{IsInOneRecord, record_there}
use Rattle.stream_overwrites.proofs.Below.{AreValues, no-times, no-value, one-value, right-change, right-go, value-alone, value-mapped}
use Rattle.stream_overwrites.proofs.Below as below
use Rattle.stream_edits.specs.Streams.{ShowsBytes}
use Rattle.in_place_owed.specs.Below.{CanSet}
use Rattle.stream_overwrites.specs.Overwritten.{FindsPlain}
use Rattle.stream_overwrites.proofs.FoundStream as found
use Rattle.stream_overwrites.proofs.ShownFile.{file}
use Rattle.value_edits.specs.ValueEdits.{EditsAlone, EndsBy, IsStreamValue, PutsGiving, no_gain}
use Rattle.value_edits.proofs.AloneSteps.{header-same, outside, value-comes}
use Rattle.value_edits.proofs.EditedRecord as value
use Rattle.value_edits.proofs.Prepared.{nothing-prepared}
use Rattle.value_edits.proofs.ValueShown.{alone-first, alone-shown, form-same, value-content, value-there}

-- a stream is no name of a file, and no $STANDARD_INFORMATION
pub no-name : (was : Attribute) → was.kind ≡ DATA → was.kind ≢ FILE_NAME
no-name was kind e = absurd (omega (arith, e, kind))

pub no-standard : (was : Attribute) → was.kind ≡ DATA → was.kind ≢ STANDARD_INFORMATION
no-standard was kind e = absurd (omega (arith, e, kind))

-- the record was right
pub was-right : (f : ℕ) (old new : VolumeView) (stored : List ℕ) (was now : List Attribute) → EditsBlock old new f stored was now
    → clauses.IsSound old → IsRightRecord f (record_there old f)
was-right f old new stored was now block sound =
    subst (λ o. IfSome o (IsRightRecord f)) (was-at old new f stored was now block) (sound clauses.Attributes f)

-- A STREAM THAT IS FOUND, and is one part, is not packed ..
module _ (old : VolumeView) (f : ℕ) (node : Node) (asked name held : List ℕ) (can : CanSet old f node)
    (finds : FindsPlain old f node asked name held) (part : Part) (alone : parts_at old f DATA name ≡ part ∷ []) where
  readable : IsReadableVolume old
  readable = readable-sound old can.sound

  pub plain-one : first_part (part ∷ []) ≡ Some part → part.kind ≡ DATA → is_packed DATA part.flags ≡ false
  plain-one first kind =
      ap (λ k. is_packed k part.flags) (sym kind)
      ∙ subst (λ (o : Option Part). IsSomeAnd o (λ p. is_packed p.kind p.flags ≡ false)) (ap first_part alone ∙ first)
      (found.plain-parts old f node asked name held readable (file old f node can.there) can.there finds)

-- .. and a value is what the node shows.
module _ (old : VolumeView) (f : ℕ) (node : Node) (asked name held : List ℕ) (can : CanSet old f node)
    (finds : FindsPlain old f node asked name held) (was : Attribute) (kind : was.kind ≡ DATA)
    (alone : parts_at old f DATA name ≡ part_of f was ∷ []) (bytes : List ℕ) (is : value_of was.body ≡ Some bytes) where
  pub plain : is_packed DATA was.flags ≡ false
  plain = plain-one old f node asked name held can finds (part_of f was) alone
      (alone-first (part_of f was) bytes (value-content was.body bytes is)) kind

  pub shown : bytes ≡ held
  shown =
      let shows = alone-shown old (key_of f DATA name) (part_of f was) bytes alone (value-content was.body bytes is) plain in
      sym shows.value
      ∙ found.value old f node asked name held (readable-sound old can.sound) (file old f node can.there) can.there finds

-- A VALUE OF THE RECORD is all of its stream.
stood-alone : (f : ℕ) (old new : VolumeView) (node : Node) (stored : List ℕ) (was : Attribute) (now : List Attribute)
    → EditsBlock old new f stored (was ∷ []) now → CanSet old f node → IsInOneRecord old f → was.kind ≡ DATA → IsSome (value_of was.body)
    → parts_at old f was.kind was.name ≡ part_of f was ∷ []
stood-alone f old new node stored was now block can one kind is =
    let there = Replaces-stood _ _ _ _ (part_of f was)
    (parts-own_at (records_of old) (records_of new) f f (parts_made f (was ∷ [])) (parts_made f now)
    (edit-of old new f stored (was ∷ []) now block) (base-file f (record_there old f) one.base)) (Contains-head (part_of f was) []) in
    value-alone old f (part_of f was) ((readable-sound old can.sound).extents f) (file old f node can.there) there
    (below.value-content f was is) (no-name was kind)

stood-named : (f : ℕ) (old : VolumeView) (was : Attribute) (name : List ℕ) → IsStreamValue name was
    → parts_at old f was.kind was.name ≡ part_of f was ∷ [] → parts_at old f DATA name ≡ part_of f was ∷ []
stood-named f old was name is alone =
    ap (λ k. parts_at old f k name) (sym is.kind) ∙ ap (λ n. parts_at old f was.kind n) (sym is.name_is) ∙ alone

-- values have no cluster that they could lose
value-balance : (f : ℕ) (was now : List Attribute) → AreValues was → AreValues now → (c : ℕ)
    → times_in (parts_made f now) c + times_covered [] c ≡ times_in (parts_made f was) c + times_covered [] c
value-balance f was now was_is now_is c =
    let none : times_covered [] c ≡ 0 = refl in
    omega (arith, no-times f was was_is c, no-times f now now_is c, none)

-- OTHER BYTES
module _ (old new : VolumeView) (f i : ℕ) (change : List ℕ → List ℕ) (node : Node) (e : ChangesValue old new f i change) (name : List ℕ)
    (is : IsStreamValue name e.was) (one : IsInOneRecord old f) (can : CanSet old f node) where
  now-value : IsSome (value_of e.now.body)
  now-value = value-mapped e.was.body e.now.body change e.value is.value

  stood : parts_at old f DATA name ≡ part_of f e.was ∷ []
  stood = stood-named f old e.was name is (stood-alone f old new node e.stored e.was (e.now ∷ []) e.edits can one is.kind is.value)

  changed-edit : EditsAlone (key_of f DATA name) no_gain old new
  changed-edit = record {
    one = one;
    kind = refl;
    was = e.was;
    now = Some e.now;
    was_of = record { kind = is.kind; name = is.name_is };
    stood = stood;
    given = [];
    taken = [];
    mid = old;
    prepares = nothing-prepared (key_of f DATA name) old;
    comes = value-comes old f e.was e.now is.value now-value e.kind e.name e.flags
        (form-same e.was e.now is.value now-value e.kind e.name e.indexed);
    balance = value-balance f (e.was ∷ []) (e.now ∷ []) (one-value e.was is.value) (one-value e.now now-value);
    stored = e.stored;
    block = e.edits;
    header = header-same _ _ e.header_is;
    right = right-change old new f i change e (was-right f old new e.stored (e.was ∷ []) (e.now ∷ []) e.edits can.sound)
        (no-name e.was is.kind) (λ base standard. absurd (no-standard e.was is.kind standard));
  }

  -- a value lies in no cluster
  changed-ends : (size : ℕ) → EndsBy new f name size
  unfolding changed-edit
  changed-ends size vcn lies =
      let stands = value.stands (key_of f DATA name) old new can.sound can.apart changed-edit in
      let never = sym (ap (λ xs. is_cluster (spot_at xs vcn)) stands ∙ ap is_cluster (outside f e.now now-value vcn)) ∙ lies in
      cc

pub changed-put : (old new : VolumeView) (f i : ℕ) (change : List ℕ → List ℕ) (node : Node) (asked name held : List ℕ)
    → (e : ChangesValue old new f i change) → CanSet old f node → FindsPlain old f node asked name held → IsInOneRecord old f
    → IsStreamValue name e.was → PutsGiving old new f name (Some (change held)) no_gain [] []
unfolding changed-edit
changed-put old new f i change node asked name held e can finds one is =
    let edit = changed-edit old new f i change node e name is one can in
    let key : Key = key_of f DATA name in
    let alone = stood old new f i change node e name is one can in
    let was = value-there e.was.body is.value in
    let free = plain old f node asked name held can finds e.was is.kind alone was.0 was.1 in
    let same : was.0 ≡ held = shown old f node asked name held can finds e.was is.kind alone was.0 was.1 in
    let content = value-content e.now.body (change was.0) (e.value ∙ ap (option_map change) was.1) in
    let stands = value.stands key old new can.sound can.apart edit in
    record {
      puts = record {
        edits = edit;
        shows = subst (λ (value : List ℕ). ShowsBytes new key (change value)) same
            (alone-shown new key (part_of f e.now) (change was.0) stands content (ap (is_packed DATA) e.flags ∙ free));
      };
      given_are = refl;
      taken_are = refl;
    }

pub changed-nowhere : (old new : VolumeView) (f i : ℕ) (change : List ℕ → List ℕ) (node : Node) (name : List ℕ) (size : ℕ)
    → (e : ChangesValue old new f i change) → CanSet old f node → IsInOneRecord old f → IsStreamValue name e.was
    → EndsBy new f name size
changed-nowhere old new f i change node name size e can one is = changed-ends old new f i change node e name is one can size

-- IT GOES.
pub removed-put : (old new : VolumeView) (f i : ℕ) (node : Node) (name : List ℕ) → (e : RemovesAttribute old new f i) → CanSet old f node
    → IsInOneRecord old f → IsStreamValue name e.was → PutsGiving old new f name None no_gain [] []
removed-put old new f i node name e can one is =
    let stood = stood-named f old e.was name is (stood-alone f old new node e.stored e.was [] e.edits can one is.kind is.value) in
    let edit : EditsAlone (key_of f DATA name) no_gain old new = record {
      one = one;
      kind = refl;
      was = e.was;
      now = None;
      was_of = record { kind = is.kind; name = is.name_is };
      stood = stood;
      given = [];
      taken = [];
      mid = old;
      prepares = nothing-prepared (key_of f DATA name) old;
      comes = tt;
      balance = value-balance f (e.was ∷ []) [] (one-value e.was is.value) no-value;
      stored = e.stored;
      block = e.edits;
      header = header-same _ _ e.header_is;
      right = right-go old new f e.stored e.was e.edits (was-right f old new e.stored (e.was ∷ []) [] e.edits can.sound)
          (λ base. no-standard e.was is.kind);
    } in
    record {
      puts = record { edits = edit; shows = value.stands (key_of f DATA name) old new can.sound can.apart edit };
      given_are = refl;
      taken_are = refl;
    }
