-- What a stream shows after each step, and after a write as a whole.
use Rattle.std.proofs.Common.{◌≡◌, ◌<◌, ◌≤◌, ◌+◌, ◌-◌, ◌*◌, ◌/◌, ◌%◌, ◌⊎◌, ℕ, Bool, true, false, cond, List, length, refl, sym, ap}
use Rattle.std.proofs.Common.{subst, inl, inr, ◌∙◌, arith}
use Rattle.std.specs.Prelude.{Option, map, nat_lt, slice_index}
use Rattle.std.specs.List.{range_with_len}
use Rattle.std.proofs.Math.Nat.{div-mul-le_self}
use Rattle.std.proofs.lemmas.Bool.{cases_lt, lt-ltb}
use Rattle.std.proofs.lemmas.Bool.Decides.{nat_tests}
use Rattle.ntfs_def.specs.Attribute.{ExtentHeader}
use Rattle.ntfs_def.specs.declared.run_text.Run.{Run}
use Rattle.ntfs_def.specs.declared.run_text.Spot.{Spot}
use Rattle.ntfs_def.specs.declared.run_text.Spot.TheVariants.{At, Hole, Outside}
use Rattle.volume_def.specs.Files.{Clusters, Part}
use Rattle.volume_def.specs.Table.{cluster_bytes}
use Rattle.volume_def.specs.Values.{byte_there, spot_at, value_by, value_byte, value_of_parts, value_on, value_over}
use Rattle.volume_def.specs.View.{VolumeView}
use Rattle.list_laws.proofs.RangeLaws.{map_ranges}
use Rattle.edit_def.specs.Kept.{Key}
use Rattle.stream_edits.specs.Streams.{ClusterStream, HasStream, Shows, byte_in, byte_of, extents_at, stream_of}
use Rattle.stream_edits.specs.Steps.{Cuts, Empties, IsFilled, KeepsSpot, Patches, Places, Raises, RaisesSizes}
use Rattle.stream_edits.specs.Steps.{emptied_byte, written_byte}
use Rattle.stream_edits.proofs.ByteRanges.{in-range, out-of-range}

-- bytes of a cluster that holds what it held
byte-frame : (old new : ℕ → List ℕ) (spot : Spot) (k : ℕ) → ((c : ℕ) → spot ≡ At c → new c ≡ old c)
    → byte_there new spot k ≡ byte_there old spot k
byte-frame old new Outside k h = refl
byte-frame old new Hole k h = refl
byte-frame old new (At c) k h = ap (λ bytes. slice_index bytes k) (h c refl)

empty-byte : (cluster : ℕ → List ℕ) (spot : Spot) (k : ℕ) → (spot ≡ Hole) ⊎ (spot ≡ Outside) → byte_there cluster spot k ≡ 0
empty-byte cluster spot k (inl e) = ap (λ s. byte_there cluster s k) e
empty-byte cluster spot k (inr e) = ap (λ s. byte_there cluster s k) e

-- a byte below the initialized size, or past it
below-init : (n i b : ℕ) → i < n → cond (nat_lt i n) b 0 ≡ b
below-init n i b h = ap (λ t. cond t b 0) (lt-ltb i n h)

pub past-init : (n i b : ℕ) → n ≤ i → cond (nat_lt i n) b 0 ≡ 0
past-init n i b h = grind (arith, nat_tests)

-- what lies there in clusters of the size that they had
same-size : (old new : ClusterStream) (i : ℕ) → new.size ≡ old.size
    → byte_in new i ≡ byte_there new.cluster (new.spot (i / old.size)) (i % old.size)
same-size old new i e = ap (λ z. byte_there new.cluster (new.spot (i / z)) (i % z)) e

-- where the clusters that are kept hold what they held
stays-there : (old new : ClusterStream) (i : ℕ) → new.size ≡ old.size → new.spot (i / old.size) ≡ old.spot (i / old.size)
    → ((c : ℕ) → new.spot (i / old.size) ≡ At c → new.cluster c ≡ old.cluster c) → byte_in new i ≡ byte_in old i
stays-there old new i size spot kept =
    same-size old new i size
    ∙ byte-frame old.cluster new.cluster (new.spot (i / old.size)) (i % old.size) kept
    ∙ ap (λ z. byte_there old.cluster z (i % old.size)) spot

-- where the initialized size is the same
by-stored : (old new : ClusterStream) (i : ℕ) → new.initialized ≡ old.initialized
    → byte_of new i ≡ cond (nat_lt i old.initialized) (byte_in new i) 0
by-stored old new i e = ap (λ m. cond (nat_lt i m) (byte_in new i) 0) e

same-byte : (old new : ClusterStream) (i : ℕ) → new.initialized ≡ old.initialized → byte_in new i ≡ byte_in old i
    → byte_of new i ≡ byte_of old i
same-byte old new i init e = by-stored old new i init ∙ ap (λ b. cond (nat_lt i old.initialized) b 0) e

-- HOLES THAT ARE FILLED
filled-byte : (old new : ClusterStream) (vcn k : ℕ) → IsFilled old new vcn
    → byte_there new.cluster (new.spot vcn) k ≡ byte_there old.cluster (old.spot vcn) k
filled-byte old new vcn k f =
    ap (λ s. byte_there new.cluster s k) f.placed ∙ f.zeros k ∙ sym (empty-byte old.cluster (old.spot vcn) k f.hole)

pub shows-placed : (old new : ClusterStream) (from to : ℕ) (byte : ℕ → ℕ) (n : ℕ) → Places old new from to → Shows old byte n
    → Shows new byte n
shows-placed old new from to byte n p s = record {
  len = p.sizes.real ∙ s.len;
  bytes = λ i h. same-byte old new i p.sizes.initialized (there i (p.spots (i / old.size))) ∙ s.bytes i h;
}
  where
    there : (i : ℕ) → KeepsSpot old new (i / old.size) ⊎ IsFilled old new (i / old.size) → byte_in new i ≡ byte_in old i
    there i (inl (inl e)) = stays-there old new i p.sizes.size e (λ c at. p.kept (i / old.size) c (sym e ∙ at))
    there i (inl (inr e)) =
        same-size old new i p.sizes.size ∙ ap (λ s. byte_there new.cluster s (i % old.size)) e.1
        ∙ sym (ap (λ s. byte_there old.cluster s (i % old.size)) e.0)
    there i (inr f) = same-size old new i p.sizes.size ∙ filled-byte old new (i / old.size) (i % old.size) f

-- SIZES THAT RISE: a byte is shown as it was where none lies there that was not shown before
pub raised-byte : (old new : ClusterStream) → RaisesSizes old new → (i : ℕ)
    → (old.initialized ≤ i → i < new.initialized → byte_in old i ≡ 0) → byte_of new i ≡ byte_of old i
raised-byte old new r i zeros = elim (cases_lt i old.initialized) as (λ _. byte_of new i ≡ byte_of old i) [
  | inl l ↦ below-init new.initialized i (byte_in new i) (omega (arith, r.initialized)) ∙ there
      ∙ sym (below-init old.initialized i (byte_in old i) l)
  | inr g ↦ elim (cases_lt i new.initialized) as (λ _. byte_of new i ≡ byte_of old i) [
    | inl l ↦ below-init new.initialized i (byte_in new i) l ∙ there ∙ zeros g l ∙ sym (past-init old.initialized i (byte_in old i) g)
    | inr h ↦ past-init new.initialized i (byte_in new i) h ∙ sym (past-init old.initialized i (byte_in old i) g)
  ]
]
  where
    there : byte_in new i ≡ byte_in old i
    there = stays-there old new i r.size (r.spot (i / old.size)) (λ c at. r.kept (i / old.size) c (sym (r.spot (i / old.size)) ∙ at))

-- and past the end of what a stream shows come zeros
pub all-shown : (s : ClusterStream) (byte : ℕ → ℕ) (n : ℕ) → s.initialized ≤ s.real → ((i : ℕ) → n ≤ i → byte i ≡ 0) → Shows s byte n
    → (i : ℕ) → byte_of s i ≡ byte i
all-shown s byte n inside past shows i = elim (cases_lt i n) as (λ _. byte_of s i ≡ byte i) [
  | inl l ↦ shows.bytes i l
  | inr g ↦ past-init s.initialized i (byte_in s i) (omega (arith, shows.len, inside)) ∙ sym (past i g)
]

pub shows-raised : (old new : ClusterStream) (byte : ℕ → ℕ) (n m : ℕ) → Raises old new → new.real ≡ m
    → ((i : ℕ) → n ≤ i → byte i ≡ 0) → Shows old byte n → Shows new byte m
shows-raised old new byte n m r e past s = record {
  len = e;
  bytes = λ i h. raised-byte old new r.sizes i (r.zeros i) ∙ all-shown old byte n r.sizes.inside past s i;
}

-- BYTES THAT ARE PUT
pub shows-patched : (old new : ClusterStream) (at : ℕ) (bytes : List ℕ) (byte : ℕ → ℕ) (n : ℕ) → Patches old new at bytes
    → Shows old byte n → Shows new (written_byte byte at bytes) n
shows-patched old new at bytes byte n p s = record { len = p.sizes.real ∙ s.len; bytes = by }
  where
    outside : (i : ℕ) → i < n → (i < at) ⊎ (at + length bytes ≤ i) → byte_of new i ≡ written_byte byte at bytes i
    outside i h out =
        same-byte old new i p.sizes.initialized (p.outside i out) ∙ s.bytes i h
        ∙ sym (out-of-range at (at + length bytes) i (slice_index bytes (i - at)) (byte i) out)

    by : (i : ℕ) → i < n → byte_of new i ≡ written_byte byte at bytes i
    by i h = elim (cases_lt i at) as (λ _. byte_of new i ≡ written_byte byte at bytes i) [
      | inl l ↦ outside i h (inl l)
      | inr g ↦ elim (cases_lt i (at + length bytes)) as (λ _. byte_of new i ≡ written_byte byte at bytes i) [
        | inl l ↦ by-stored old new i p.sizes.initialized
            ∙ below-init old.initialized i (byte_in new i) (p.below i g l) ∙ p.inside i g l
            ∙ sym (in-range at (at + length bytes) i (slice_index bytes (i - at)) (byte i) g l)
        | inr behind ↦ outside i h (inr behind)
      ]
    ]

-- CLUSTERS THAT GO show zeros
pub zero-either : (b : Bool) → cond {A = ℕ} b 0 0 ≡ 0
zero-either true = refl
zero-either false = refl

pub shows-emptied : (old new : ClusterStream) (from to : ℕ) (byte : ℕ → ℕ) (n : ℕ) → Empties old new from to → Shows old byte n
    → Shows new (emptied_byte byte old.size from to) n
shows-emptied old new from to byte n e s = record { len = e.sizes.real ∙ s.len; bytes = by }
  where
    stays : (i : ℕ) → i < n → (i / old.size < from) ⊎ (to ≤ i / old.size) → byte_of new i ≡ emptied_byte byte old.size from to i
    stays i h out =
        same-byte old new i e.sizes.initialized (stays-there old new i e.sizes.size (e.outside (i / old.size) out) (e.kept (i / old.size)))
        ∙ s.bytes i h ∙ sym (out-of-range from to (i / old.size) 0 (byte i) out)

    by : (i : ℕ) → i < n → byte_of new i ≡ emptied_byte byte old.size from to i
    by i h = elim (cases_lt (i / old.size) from) as (λ _. byte_of new i ≡ emptied_byte byte old.size from to i) [
      | inl l ↦ stays i h (inl l)
      | inr g ↦ elim (cases_lt (i / old.size) to) as (λ _. byte_of new i ≡ emptied_byte byte old.size from to i) [
        | inl l ↦ by-stored old new i e.sizes.initialized
            ∙ ap (λ b. cond (nat_lt i old.initialized) b 0) (same-size old new i e.sizes.size
            ∙ ap (λ z. byte_there new.cluster z (i % old.size)) (e.inside (i / old.size) g l))
            ∙ zero-either (nat_lt i old.initialized) ∙ sym (in-range from to (i / old.size) 0 (byte i) g l)
        | inr behind ↦ stays i h (inr behind)
      ]
    ]

-- THE END CUT OFF
pub shows-cut : (old new : ClusterStream) (n m : ℕ) (byte : ℕ → ℕ) → Cuts old new m → Shows old byte n → Shows new byte m
shows-cut old new n m byte c s = record {
  len = c.real;
  bytes = λ i h.
      let here : i / old.size * old.size < m = omega (arith, div-mul-le_self i old.size) in
      ap (λ t. cond t (byte_in new i) 0) (c.initialized i h)
      ∙ ap (λ b. cond (nat_lt i old.initialized) b 0)
      (stays-there old new i c.size (c.spot (i / old.size) here) (c.kept (i / old.size)))
      ∙ s.bytes i (omega (arith, s.len, c.less));
}

content-shown : (view : VolumeView) (extents : List Part) (e : ExtentHeader) (runs : Option (List Run)) (byte : ℕ → ℕ) (n : ℕ)
    → Shows (stream_of view extents e) byte n
    → value_by view.cluster (cluster_bytes view.layout) extents (Clusters e runs) ≡ map byte (range_with_len 0 n)
content-shown view extents e runs byte n s =
    let value : ℕ → ℕ = value_byte view.cluster (cluster_bytes view.layout) (spot_at extents) e.sizes.initialized in
    ap (λ m. map value (range_with_len 0 m)) s.len
    ∙ map_ranges value byte 0 0 n (λ j h. s.bytes (0 + j) (omega arith))

-- WHAT A STREAM SHOWS IS ITS VALUE
pub value-shown : (view : VolumeView) (key : Key) (flags : ℕ) (s : ClusterStream) (byte : ℕ → ℕ) (n : ℕ) → HasStream view key flags s
    → Shows s byte n → value_on view (extents_at view key) ≡ map byte (range_with_len 0 n)
unfolding value_of_parts
value-shown view key flags s byte n has shows =
    ap (value_over view.cluster (cluster_bytes view.layout) (extents_at view key)) has.first
    ∙ ap (value_by view.cluster (cluster_bytes view.layout) (extents_at view key)) has.content
    ∙ content-shown view (extents_at view key) has.extent has.runs byte n (subst (λ t. Shows t byte n) has.is shows)
