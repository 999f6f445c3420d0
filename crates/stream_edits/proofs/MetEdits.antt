-- EACH WRITE AND EACH PUNCH CAN BE MET: streams that do.
use Rattle.std.proofs.Common.{◌≡◌, ◌<◌, ◌≤◌, ◌+◌, ◌-◌, ◌*◌, ◌/◌, ◌%◌, ◌⊎◌, ◌&&◌, max, min, ℕ, Bool, true, false, cond, List, []}
use Rattle.std.proofs.Common.{length, refl, sym, ap, inl, inr, ◌∙◌, arith}
use Rattle.std.specs.Prelude.{map, nat_le, nat_lt, replicate, slice_index}
use Rattle.std.specs.List.{range_with_len}
use Rattle.std.proofs.Math.Nat.{mod-lt}
use Rattle.std.proofs.lemmas.Bool.{cases_lt, le-ltb, lt-ltb}
use Rattle.std.proofs.lemmas.List.{get_or_past, length-replicate}
use Rattle.std.proofs.lemmas.List.FromFn.{get_or-map-range_with_len}
use Rattle.std.proofs.lemmas.Nat.{div-add-mod'}
use Rattle.ntfs_def.specs.declared.run_text.Spot.{Spot}
use Rattle.ntfs_def.specs.declared.run_text.Spot.TheVariants.{At, Hole, Outside}
use Rattle.volume_def.specs.Values.{byte_there}
use Rattle.stream_edits.specs.Streams.{ClusterStream, byte_in}
use Rattle.stream_edits.specs.Steps.{Empties, IsApart, IsFilled, KeepsSpot, Patches, Places, PunchesRange, WritesRange}
use Rattle.stream_edits.specs.Steps.{written_byte}
use Rattle.stream_edits.proofs.ByteRanges.{in-range, out-of-range, zero-read}
use Rattle.stream_edits.proofs.WholeClusters.{begins-behind, ends-before, first_whole, in-clusters, is-between, range-false, range-true}

-- BYTES PUT: each cluster holds what its place in the stream shows
abbrev pub patched : ClusterStream → (ℕ → ℕ) → ℕ → List ℕ → ClusterStream
patched s owner at bytes = record s {
  cluster = λ c. map (λ k. written_byte (byte_in s) at bytes (owner c * s.size + k)) (range_with_len 0 s.size);
}

module _ (s : ClusterStream) (owner : ℕ → ℕ) (at : ℕ) (bytes : List ℕ) (some : 0 < s.size)
    (owned : (vcn cluster : ℕ) → s.spot vcn ≡ At cluster → owner cluster ≡ vcn) where
  -- a byte whose cluster is owned
  owned-byte : (i c : ℕ) → s.spot (i / s.size) ≡ At c → byte_in (patched s owner at bytes) i ≡ written_byte (byte_in s) at bytes i
  owned-byte i c e =
      let place : owner c * s.size + i % s.size ≡ i =
      ap (λ v. v * s.size + i % s.size) (owned (i / s.size) c e) ∙ div-add-mod' i s.size in
      let offset : 0 + i % s.size ≡ i % s.size = omega arith in
      ap (λ spot. byte_there (patched s owner at bytes).cluster spot (i % s.size)) e
      ∙ get_or-map-range_with_len (λ k. written_byte (byte_in s) at bytes (owner c * s.size + k)) 0 s.size (i % s.size) (i % s.size) 0
      (mod-lt i some) offset
      ∙ ap (λ j. written_byte (byte_in s) at bytes j) place

  -- one in a hole, or outside
  same-empty : (i : ℕ) → (s.spot (i / s.size) ≡ Hole) ⊎ (s.spot (i / s.size) ≡ Outside)
      → (byte_in (patched s owner at bytes) i ≡ 0) × (byte_in s i ≡ 0)
  same-empty i (inl e) =
      let now : byte_in (patched s owner at bytes) i ≡ 0 = ap (λ spot. byte_there (patched s owner at bytes).cluster spot (i % s.size)) e in
      (now, ap (λ spot. byte_there s.cluster spot (i % s.size)) e)
  same-empty i (inr e) =
      let now : byte_in (patched s owner at bytes) i ≡ 0 = ap (λ spot. byte_there (patched s owner at bytes).cluster spot (i % s.size)) e in
      (now, ap (λ spot. byte_there s.cluster spot (i % s.size)) e)

  by-spot : (i : ℕ) (spot : Spot) → s.spot (i / s.size) ≡ spot
      → ((c : ℕ) × (s.spot (i / s.size) ≡ At c)) ⊎ ((s.spot (i / s.size) ≡ Hole) ⊎ (s.spot (i / s.size) ≡ Outside))
  by-spot i Outside e = inr (inr e)
  by-spot i Hole e = inr (inl e)
  by-spot i (At c) e = inl (c, e)

  pub Patches-met : ((i : ℕ) → at ≤ i → i < at + length bytes → i < s.initialized)
      → ((i : ℕ) → at ≤ i → i < at + length bytes → ((c : ℕ) × (s.spot (i / s.size) ≡ At c)) ⊎ (slice_index bytes (i - at) ≡ 0))
      → Patches s (patched s owner at bytes) at bytes
  Patches-met below covered = record {
    sizes = record { size = refl; initialized = refl; real = refl };
    spot = λ vcn. refl;
    below = below;
    inside = λ i low high. inside i low high (by-spot i (s.spot (i / s.size)) refl) (covered i low high);
    outside = λ i out. outside i out (by-spot i (s.spot (i / s.size)) refl);
  }
    where
      inside : (i : ℕ) → at ≤ i → i < at + length bytes
          → ((c : ℕ) × (s.spot (i / s.size) ≡ At c)) ⊎ ((s.spot (i / s.size) ≡ Hole) ⊎ (s.spot (i / s.size) ≡ Outside))
          → ((c : ℕ) × (s.spot (i / s.size) ≡ At c)) ⊎ (slice_index bytes (i - at) ≡ 0)
          → byte_in (patched s owner at bytes) i ≡ slice_index bytes (i - at)
      inside i low high (inl here) cover =
          owned-byte i here.0 here.1 ∙ in-range at (at + length bytes) i (slice_index bytes (i - at)) (byte_in s i) low high
      inside i low high (inr none) (inl here) =
          owned-byte i here.0 here.1 ∙ in-range at (at + length bytes) i (slice_index bytes (i - at)) (byte_in s i) low high
      inside i low high (inr none) (inr zero) = (same-empty i none).0 ∙ sym zero

      outside : (i : ℕ) → (i < at) ⊎ (at + length bytes ≤ i)
          → ((c : ℕ) × (s.spot (i / s.size) ≡ At c)) ⊎ ((s.spot (i / s.size) ≡ Hole) ⊎ (s.spot (i / s.size) ≡ Outside))
          → byte_in (patched s owner at bytes) i ≡ byte_in s i
      outside i out (inl here) =
          owned-byte i here.0 here.1 ∙ out-of-range at (at + length bytes) i (slice_index bytes (i - at)) (byte_in s i) out
      outside i out (inr none) = (same-empty i none).0 ∙ sym (same-empty i none).1

-- none at all are put anywhere
pub Patches-none : (s : ClusterStream) (at : ℕ) → Patches s s at []
Patches-none s at = record {
  sizes = record { size = refl; initialized = refl; real = refl };
  spot = λ vcn. refl;
  below = λ i low high. absurd (omega (arith, low, high));
  inside = λ i low high. absurd (omega (arith, low, high));
  outside = λ i out. refl;
}

-- WHOLE CLUSTERS THAT GO
abbrev pub emptied : ClusterStream → ℕ → ℕ → ClusterStream
emptied s first last = record s { spot = λ vcn. cond (nat_le first vcn && nat_lt vcn last) Hole (s.spot vcn) }

pub Empties-met : (s : ClusterStream) (first last : ℕ) → Empties s (emptied s first last) first last
Empties-met s first last = record {
  sizes = record { size = refl; initialized = refl; real = refl };
  inside = λ vcn low high. ap (λ b. cond b Hole (s.spot vcn)) (range-true first last vcn low high);
  outside = λ vcn out. ap (λ b. cond b Hole (s.spot vcn)) (range-false first last vcn out);
  kept = λ vcn cluster at. refl;
}

-- a cluster that is left was there
pub left-there : (s : ClusterStream) (first last vcn c : ℕ) → (emptied s first last).spot vcn ≡ At c → s.spot vcn ≡ At c
left-there s first last vcn c = by (nat_le first vcn && nat_lt vcn last)
  where
    by : (b : Bool) → cond b Hole (s.spot vcn) ≡ At c → s.spot vcn ≡ At c
    by true e = cc
    by false e = e

-- HOLES THAT ARE FILLED, each with a cluster of its own from the limit on
abbrev pub filled : Bool → ℕ → Spot → Spot
filled inside fresh (At c) = At c
filled inside fresh Hole = cond inside (At fresh) Hole
filled inside fresh Outside = cond inside (At fresh) Outside

abbrev pub placed : ClusterStream → ℕ → ℕ → ℕ → ClusterStream
placed s limit from to = record s {
  cluster = λ c. cond (nat_lt c limit) (s.cluster c) [];
  spot = λ vcn. filled (nat_le from vcn && nat_lt vcn to) (limit + vcn) (s.spot vcn);
}

module _ (s : ClusterStream) (limit from to : ℕ) (below : (vcn cluster : ℕ) → s.spot vcn ≡ At cluster → cluster < limit) where
  fresh-zeros : (vcn k : ℕ) → slice_index ((placed s limit from to).cluster (limit + vcn)) k ≡ 0
  fresh-zeros vcn k =
      ap (λ b. slice_index (cond b (s.cluster (limit + vcn)) []) k) (le-ltb (limit + vcn) limit (omega arith))
      ∙ get_or_past [] k 0 (omega arith)

  is-filled : (vcn : ℕ) → (s.spot vcn ≡ Hole) ⊎ (s.spot vcn ≡ Outside) → (placed s limit from to).spot vcn ≡ At (limit + vcn)
      → IsFilled s (placed s limit from to) vcn
  is-filled vcn hole e = record { hole = hole; cluster = limit + vcn; placed = e; zeros = fresh-zeros vcn }

  inside-at : (vcn : ℕ) (spot : Spot) → s.spot vcn ≡ spot → (nat_le from vcn && nat_lt vcn to) ≡ true
      → KeepsSpot s (placed s limit from to) vcn ⊎ IsFilled s (placed s limit from to) vcn
  inside-at vcn (At c) e t = inl (inl (ap (filled (nat_le from vcn && nat_lt vcn to) (limit + vcn)) e ∙ sym e))
  inside-at vcn Hole e t =
      inr (is-filled vcn (inl e)
      (ap (filled (nat_le from vcn && nat_lt vcn to) (limit + vcn)) e ∙ ap (λ b. cond b (At (limit + vcn)) Hole) t))
  inside-at vcn Outside e t =
      inr (is-filled vcn (inr e)
      (ap (filled (nat_le from vcn && nat_lt vcn to) (limit + vcn)) e ∙ ap (λ b. cond b (At (limit + vcn)) Outside) t))

  outside-at : (vcn : ℕ) (spot : Spot) → s.spot vcn ≡ spot → (nat_le from vcn && nat_lt vcn to) ≡ false
      → (placed s limit from to).spot vcn ≡ s.spot vcn
  outside-at vcn (At c) e f = ap (filled (nat_le from vcn && nat_lt vcn to) (limit + vcn)) e ∙ sym e
  outside-at vcn Hole e f =
      ap (filled (nat_le from vcn && nat_lt vcn to) (limit + vcn)) e ∙ ap (λ b. cond b (At (limit + vcn)) Hole) f ∙ sym e
  outside-at vcn Outside e f =
      ap (filled (nat_le from vcn && nat_lt vcn to) (limit + vcn)) e ∙ ap (λ b. cond b (At (limit + vcn)) Outside) f ∙ sym e

  pub left-out : (vcn : ℕ) → (vcn < from) ⊎ (to ≤ vcn) → (placed s limit from to).spot vcn ≡ s.spot vcn
  left-out vcn out = outside-at vcn (s.spot vcn) refl (range-false from to vcn out)

  pub Places-met : Places s (placed s limit from to) from to
  Places-met = record {
    sizes = record { size = refl; initialized = refl; real = refl };
    spots = spots;
    outside = λ vcn out. inl (left-out vcn out);
    kept = λ vcn cluster at. ap (λ b. cond b (s.cluster cluster) []) (lt-ltb cluster limit (below vcn cluster at));
  }
    where
      spots : (vcn : ℕ) → KeepsSpot s (placed s limit from to) vcn ⊎ IsFilled s (placed s limit from to) vcn
      spots vcn = elim (cases_lt vcn from) as (λ _. KeepsSpot s (placed s limit from to) vcn ⊎ IsFilled s (placed s limit from to) vcn) [
        | inl l ↦ inl (inl (left-out vcn (inl l)))
        | inr g ↦ elim (cases_lt vcn to) as (λ _. KeepsSpot s (placed s limit from to) vcn ⊎ IsFilled s (placed s limit from to) vcn) [
          | inl l ↦ inside-at vcn (s.spot vcn) refl (range-true from to vcn g l)
          | inr behind ↦ inl (inl (left-out vcn (inr behind)))
        ]
      ]

  -- all clusters of the range are owned then
  pub all-placed : (vcn : ℕ) → from ≤ vcn → vcn < to → (c : ℕ) × ((placed s limit from to).spot vcn ≡ At c)
  all-placed vcn low high = by (s.spot vcn) refl
    where
      t : (nat_le from vcn && nat_lt vcn to) ≡ true
      t = range-true from to vcn low high

      by : (spot : Spot) → s.spot vcn ≡ spot → (c : ℕ) × ((placed s limit from to).spot vcn ≡ At c)
      by (At c) e = (c, ap (filled (nat_le from vcn && nat_lt vcn to) (limit + vcn)) e)
      by Hole e =
          (limit + vcn, ap (filled (nat_le from vcn && nat_lt vcn to) (limit + vcn)) e ∙ ap (λ b. cond b (At (limit + vcn)) Hole) t)
      by Outside e =
          (limit + vcn, ap (filled (nat_le from vcn && nat_lt vcn to) (limit + vcn)) e ∙ ap (λ b. cond b (At (limit + vcn)) Outside) t)

  -- and no cluster lies in two places
  abbrev pub owner_then : (ℕ → ℕ) → ℕ → ℕ
  owner_then owner c = cond (nat_lt c limit) (owner c) (c - limit)

  pub owned-placed : (owner : ℕ → ℕ) → ((vcn c : ℕ) → s.spot vcn ≡ At c → owner c ≡ vcn)
      → (vcn c : ℕ) → (placed s limit from to).spot vcn ≡ At c → owner_then owner c ≡ vcn
  owned-placed owner owned vcn c at = by (s.spot vcn) refl at
    where
      fresh : At (limit + vcn) ≡ At c → owner_then owner c ≡ vcn
      fresh e =
          let number : limit + vcn ≡ c = cc in
          ap (λ b. cond b (owner c) (c - limit)) (le-ltb c limit (omega (arith, number))) ∙ omega (arith, number)

      hollow : (b : Bool) (spot : Spot) → (spot ≡ Hole) ⊎ (spot ≡ Outside) → cond b (At (limit + vcn)) spot ≡ At c
          → owner_then owner c ≡ vcn
      hollow true spot none e = fresh e
      hollow false spot (inl none) e = cc
      hollow false spot (inr none) e = cc

      by : (spot : Spot) → s.spot vcn ≡ spot → filled (nat_le from vcn && nat_lt vcn to) (limit + vcn) (s.spot vcn) ≡ At c
          → owner_then owner c ≡ vcn
      by (At d) e there =
          let same : At d ≡ At c = sym (ap (filled (nat_le from vcn && nat_lt vcn to) (limit + vcn)) e) ∙ there in
          let number : d ≡ c = cc in
          let was : s.spot vcn ≡ At c = e ∙ same in
          ap (λ b. cond b (owner c) (c - limit)) (lt-ltb c limit (below vcn c was)) ∙ owned vcn c was
      by Hole e there =
          hollow (nat_le from vcn && nat_lt vcn to) Hole (inl refl)
          (sym (ap (filled (nat_le from vcn && nat_lt vcn to) (limit + vcn)) e) ∙ there)
      by Outside e there =
          hollow (nat_le from vcn && nat_lt vcn to) Outside (inr refl)
          (sym (ap (filled (nat_le from vcn && nat_lt vcn to) (limit + vcn)) e) ∙ there)

-- A WRITE, of any bytes anywhere
module _ (s : ClusterStream) (owner : ℕ → ℕ) (limit at to : ℕ) (bytes : List ℕ) (apart : IsApart s owner limit)
    (fits : at + length bytes ≤ to * s.size) where
  abbrev hollow : ClusterStream
  hollow = emptied s (first_whole s.size s.initialized) (at / s.size)

  below-limit : (vcn c : ℕ) → hollow.spot vcn ≡ At c → c < limit
  below-limit vcn c e = (apart.owned vcn c (left-there s (first_whole s.size s.initialized) (at / s.size) vcn c e)).1

  owned-there : (vcn c : ℕ) → hollow.spot vcn ≡ At c → owner c ≡ vcn
  owned-there vcn c e = (apart.owned vcn c (left-there s (first_whole s.size s.initialized) (at / s.size) vcn c e)).0

  abbrev full : ClusterStream
  full = placed hollow limit (at / s.size) to

  abbrev raised : ClusterStream
  raised = record full { initialized = max s.initialized (at + length bytes); real = max s.real (at + length bytes) }

  abbrev zeros : List ℕ
  zeros = replicate (at - s.initialized) 0

  abbrev places_of : ℕ → ℕ
  places_of c = cond (nat_lt c limit) (owner c) (c - limit)

  owned-full : (vcn c : ℕ) → full.spot vcn ≡ At c → places_of c ≡ vcn
  owned-full vcn c e = owned-placed hollow limit (at / s.size) to below-limit owner owned-there vcn c e

  abbrev cleared : ClusterStream
  cleared = patched raised places_of s.initialized zeros

  abbrev done : ClusterStream
  done = patched cleared places_of at bytes

  pub write-met : (t : ClusterStream) × WritesRange s t at bytes (at / s.size) to
  write-met = (
    done,
    record {
      hollow = hollow;
      placed = full;
      raised = raised;
      cleared = cleared;
      first = first_whole s.size s.initialized;
      last = at / s.size;
      empties = Empties-met s (first_whole s.size s.initialized) (at / s.size);
      between = λ i low high. is-between s.size s.initialized at i apart.some low high;
      places = Places-met hollow limit (at / s.size) to below-limit;
      raises = record {
        size = refl;
        spot = λ vcn. refl;
        kept = λ vcn cluster there. refl;
        initialized = omega arith;
        real = omega arith;
        inside = apart.inside;
      };
      real = refl;
      zeros = λ i low behind high. absurd (omega (arith, low, behind, high));
      clears = Patches-met raised places_of s.initialized zeros apart.some owned-full
          (λ i low high. omega (arith, low, high, length-replicate {A = ℕ} (at - s.initialized) 0))
          (λ i low high. inr (zero-read (at - s.initialized) (i - s.initialized)));
      patches = Patches-met cleared places_of at bytes apart.some owned-full (λ i low high. omega (arith, high))
          (λ i low high.
          let in_range = in-clusters s.size at (at + length bytes) to i apart.some low high fits in
          inl (all-placed hollow limit (at / s.size) to below-limit (i / s.size) in_range.0 in_range.1));
      holes = λ vcn low high.
          let begins = begins-behind s.size s.initialized vcn apart.some low in
          let ends = ends-before s.size at vcn apart.some high in
          left-out hollow limit (at / s.size) to below-limit vcn (inl ends)
          ∙ (Empties-met s (first_whole s.size s.initialized) (at / s.size)).inside vcn begins ends;
    },
  )

-- A PUNCH, of any range
module _ (s : ClusterStream) (owner : ℕ → ℕ) (limit from to : ℕ) (apart : IsApart s owner limit) (le : from ≤ to) where
  -- the zeros that are put: none past the initialized size
  abbrev before : ℕ
  before = min s.initialized to - from

  abbrev front : ClusterStream
  front = patched s owner from (replicate before 0)

  abbrev hole : ClusterStream
  hole = emptied front (first_whole s.size from) (to / s.size)

  pub punch-met : (t : ClusterStream) × PunchesRange s t from to
  punch-met = (
    hole,
    record {
      front = front;
      hollow = hole;
      before = before;
      first = first_whole s.size from;
      last = to / s.size;
      tail = from;
      behind = 0;
      zeros = Patches-met s owner from (replicate before 0) apart.some (λ vcn c e. (apart.owned vcn c e).0)
          (λ i low high. omega (arith, low, high, length-replicate {A = ℕ} before 0))
          (λ i low high. inr (zero-read before (i - from)));
      empties = Empties-met front (first_whole s.size from) (to / s.size);
      zeros_behind = Patches-none hole from;
      in_front = omega (arith, le);
      whole = λ i h low high. is-between s.size from to i apart.some low high;
      at_tail = (omega arith, omega (arith, le));
      covers = λ i low high small. inl (omega (arith, low, high, small));
    },
  )
