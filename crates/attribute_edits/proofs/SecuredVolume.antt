-- THE VOLUME in which a file has another security id: four bytes of its standard information were written.
use Rattle.std.proofs.Common.{◌≡◌, ◌≢◌, ◌+◌, ◌<◌, ◌≤◌, ◌^◌, ℕ, true, false, List, [], ◌∷◌, length, Some, refl, sym, ap, subst, inl, inr}
use Rattle.std.proofs.Common.{◌∙◌, arith, get_or, true≢false}
use Rattle.std.specs.Prelude.{◌&&◌, Contains, bit_and, cond, nat_le, nat_lt, slice_index}
use Rattle.std.specs.FinMap as finmap
use Rattle.std.specs.Cmp.{nat_cmp_total}
use Rattle.std.proofs.lemmas.Bool.{and_from, cases_lt, le-leb, le-ltb, lt-ltb, or_right}
use Rattle.byteorder.specs.Endian.{little_bytes}
use Rattle.vol_bytes.specs.Field.{u32_at, u64_at}
use Rattle.vol_bytes.proofs.FieldLaws.{u32_at-same, u64_at-same}
use Rattle.attr_view.specs.Values.{overwritten}
use Rattle.ntfs_def.specs.FileName.{FileName}
use Rattle.ntfs_def.specs.StandardInformation.{dos_flags, standard_security, standard_times}
use Rattle.ntfs_def.specs.declared.records.TheConstants.{VOLUME}
use Rattle.list_laws.proofs.OptionLaws.{some-value}
use Rattle.list_laws.proofs.OrderLaws.{key_same}
use Rattle.volume_def.specs.Files.{content_value, records_of}
use Rattle.volume_def.specs.Sound.{IsSound}
use Rattle.volume_def.specs.Sound.{References}
use Rattle.volume_def.specs.Table.{TableLayout, cluster_bytes}
use Rattle.volume_def.specs.View.{VolumeView}
use Rattle.volume_def.proofs.SoundLaws.{readable-sound}
use Rattle.tree_model.specs.Reading.{node_at, read, tree_nodes}
use Rattle.tree_model.specs.Tree.{Tree, node_of}
use Rattle.tree_model.specs.declared.tree.Node.{Node}
use Rattle.tree_model.specs.declared.tree.TheConstants.{SHOWN_FLAGS}
use Rattle.tree_model.proofs.ReadingLaws.{node_of-read}
use Rattle.edit_def.specs.Edited.{is_room_key}
use Rattle.edit_def.specs.Items.{KeepsItems}
use Rattle.edit_def.specs.Kept.{either}
use Rattle.edit_def.proofs.IndexLaws.{items-kept}
use Rattle.edit_def.proofs.NamesLaws.{bases-of}
use Rattle.in_place.specs.Kept.{is_shown_byte, other_flags}
use Rattle.in_place.specs.Nodes.{flag_of}
use Rattle.entry_edits.specs.Standard.{with_standard}
use Rattle.entry_edits.specs.Written.{LooksOutside}
use Rattle.in_place.specs.InPlace.{Rewrites}
use Rattle.in_place.proofs.IndexesOwed.{depth-same}
use Rattle.in_place.specs.Unnamed.{CanSet}
use Rattle.in_place.proofs.KeptInPlace as keeps
use Rattle.in_place.proofs.PlacesSame as places
use Rattle.in_place.proofs.StillApart as still
use Rattle.attribute_edits.specs.Attributes.{IsSecured, SecuresStandard}
use Rattle.attribute_edits.proofs.ChainLaws.{looks-outside}
use Rattle.attribute_edits.proofs.OverwrittenValue as bytes
use Rattle.attribute_edits.proofs.StandardWritten as standard
use Rattle.attribute_edits.proofs.StandardWritten.{WritesStandard, standard_key}

-- THE VALUE: four of its bytes tell the id, and all others are as they were.
module _ (value : List ℕ) (id : ℕ) (long : 72 ≤ length value) (small : id < 2 ^ 32) where
  abbrev from : List ℕ
  from = little_bytes 4 id

  pub fits : 0x34 + length from ≤ length value
  fits = omega (arith, long)

  abbrev next : List ℕ
  next = overwritten value 0x34 from

  before : (k : ℕ) → k < 0x34 → get_or next k 0 ≡ get_or value k 0
  before = bytes.byte-before value 0x34 from fits

  id-field : u32_at next 0x34 ≡ u32_at from 0
  id-field =
      let at : (k : ℕ) → k < 4 → get_or next (0x34 + k) 0 ≡ get_or from k 0 =
      λ k l. bytes.byte-in value 0x34 from fits (0x34 + k) k refl l in
      let a = at 0 (omega arith) in
      let b = at 1 (omega arith) in
      let c = at 2 (omega arith) in
      let d = at 3 (omega arith) in
      omega (arith, a, b, c, d)

  pub security-set : length next ≡ length value → standard_security next ≡ id
  security-set same =
      ap (λ n. cond (nat_lt n 72) 0 (u32_at next 0x34)) same
      ∙ ap (λ b. cond b 0 (u32_at next 0x34)) (le-ltb (length value) 72 long)
      ∙ id-field ∙ omega arith

  pub times-same : standard_times next ≡ standard_times value
  times-same =
      let word : (at : ℕ) → at + 8 ≤ 0x20 → u64_at next at ≡ u64_at value at =
      λ at l. u64_at-same value next at (λ k f t. before k (omega (arith, t, l))) in
      λ i. word 0 (omega arith) i ∷ word 8 (omega arith) i ∷ word 0x10 (omega arith) i ∷ word 0x18 (omega arith) i ∷ []

  pub flags-same : dos_flags next ≡ dos_flags value
  flags-same = u32_at-same value next 0x20 (λ k f t. before k (omega (arith, t)))

  -- a byte that is not shown is none of those that were written
  shown-here : (n k : ℕ) → n ≡ length value → 0x34 ≤ k → k < 0x38 → is_shown_byte n k ≡ true
  shown-here n k same low high =
      or_right (nat_lt k 0x24) (nat_le 72 n && (nat_le 0x34 k && nat_lt k 0x38))
      (and_from (nat_le 72 n) (nat_le 0x34 k && nat_lt k 0x38) (le-leb 72 n (omega (arith, same, long)))
      (and_from (nat_le 0x34 k) (nat_lt k 0x38) (le-leb 0x34 k low) (lt-ltb k 0x38 high)))

  pub unshown : length next ≡ length value → (k : ℕ) → is_shown_byte (length next) k ≡ false → slice_index next k ≡ slice_index value k
  unshown same k e = elim (cases_lt k 0x34) [
    | inl low ↦ before k low
    | inr le ↦ elim (cases_lt k 0x38) [
      | inl high ↦ absurd (true≢false (sym (shown-here (length next) k same le high) ∙ e))
      | inr behind ↦ bytes.byte-behind value 0x34 from fits k (omega (arith, behind))
    ]
  ]

module _ (old new : VolumeView) (f id : ℕ) (node : Node) (small : id < 2 ^ 32) (can : CanSet old f node)
    (s : SecuresStandard old new f id) where
  its : (value : List ℕ) × (content_value s.part.content ≡ Some value) × (72 ≤ length value)
  its = some-value (content_value s.part.content) _ s.place

  abbrev value : List ℕ
  value = its.0

  abbrev w : WritesStandard old new f 0x34 (little_bytes 4 id)
  w = record {
    part = s.part;
    among = s.among;
    standard = s.standard;
    value = value;
    value_is = its.1;
    fits = fits value id its.2 small;
    writes = s.writes;
  }

  long-same : length (standard.next old new f 0x34 (little_bytes 4 id) w) ≡ length value
  long-same = standard.next-long old new f 0x34 (little_bytes 4 id) w

  outside : LooksOutside old
  outside = looks-outside old can.apart.owners can.apart.some

  rewrites : Rewrites (standard_key f) old new
  rewrites = standard.one-rewritten old new f 0x34 (little_bytes 4 id) w

  sound-now : IsSound new
  sound-now = standard.sound-written old new f 0x34 (little_bytes 4 id) w can.sound outside can.other

  abbrev now : Node
  now = record node { security = id }

  -- THE NODE has this id
  node-set : with_standard (standard.next old new f 0x34 (little_bytes 4 id) w) node ≡ now
  node-set =
      let told = standard.node-told old new f 0x34 (little_bytes 4 id) w can.sound outside can.other node can.there in
      λ i. record node {
        times = (times-same value id its.2 small ∙ sym (ap (λ (x : Node). x.times) told)) i;
        flags = (ap (λ x. bit_and x SHOWN_FLAGS) (flags-same value id its.2 small) ∙ sym (ap (λ (x : Node). x.flags) told)) i;
        security = security-set value id its.2 small long-same i;
      }

  reads : read new ≡ record (read old) { nodes = finmap.insert (tree_nodes old) f now }
  reads =
      standard.reads-written old new f 0x34 (little_bytes 4 id) w can.sound outside can.other node can.there
      ∙ ap (λ x. record (read old) { nodes = finmap.insert (tree_nodes old) f x }) node-set

  node-now : node_at new f ≡ Some now
  node-now =
      sym (node_of-read new f) ∙ ap (λ (t : Tree). node_of t f) reads
      ∙ finmap.get-insert nat_cmp_total (tree_nodes old) f now f
      ∙ ap (λ b. cond b (Some now) (finmap.get (tree_nodes old) f)) (key_same f)

  can-now : CanSet new f now
  can-now = record {
    sound = sound-now;
    apart = still.apart-still (standard_key f) old new rewrites can.apart;
    there = node-now;
    other = can.other;
    elsewhere = subst (λ names. (name : FileName) → Contains names name → name.parent.number ≢ VOLUME)
        (sym (places.names-same (standard_key f) old new rewrites f (λ name. refl))) can.elsewhere;
  }

  marks : (mask : ℕ) → flag_of mask new f ≡ flag_of mask old f
  marks mask =
      ap (λ v. bit_and (dos_flags v) mask)
      (standard.standard-now old new f 0x34 (little_bytes 4 id) w can.sound outside can.other node can.there)
      ∙ ap (λ x. bit_and x mask) (flags-same value id its.2 small)
      ∙ sym (ap (λ v. bit_and (dos_flags v) mask)
      (standard.standard-was old new f 0x34 (little_bytes 4 id) w can.sound outside can.other node can.there))

  -- no index is named
  items : (dir : ℕ) → KeepsItems old new dir
  items dir = items-kept (either is_room_key (standard_key f)) old new
      (keeps.kept-room (standard_key f) old new rewrites can.apart.owners can.apart.some can.apart.unnamed)
      (ap (λ (l : TableLayout). cluster_bytes l) rewrites.layout) (bases-of (records_of old) (can.sound References))
      (readable-sound old can.sound) (readable-sound new sound-now) refl dir refl refl refl

  -- THE WHOLE
  pub secured : IsSecured old new f id node
  secured = record {
    can = can-now;
    rewrites = rewrites;
    reads = reads;
    items = items;
    depths = λ index. depth-same (standard_key f) old new rewrites can.apart index refl refl;
    standard = standard.standard-kept old new f 0x34 (little_bytes 4 id) w can.sound outside can.other node can.there (record {
      long = inl long-same;
      others = unshown value id its.2 small long-same;
      flags = ap other_flags (flags-same value id its.2 small);
    });
    marks = record { sparse = marks 0x200; point = marks 0x400 };
  }
