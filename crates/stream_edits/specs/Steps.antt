-- A stream while it is written, cut and punched, step by step, and the bytes that it shows then.
use Rattle.std.specs.Prelude.{◌≡◌, ◌⊎◌, ◌&&◌, ℕ, ◌+◌, ◌-◌, ◌*◌, ◌/◌, ◌<◌, ◌≤◌, max, nat_lt, nat_le, List, length, replicate, slice_index}
use Rattle.std.specs.Prelude.{if◌then◌else◌}
use Rattle.ntfs_def.specs.declared.run_text.Spot.TheVariants.{At, Hole, Outside}
use Rattle.stream_edits.specs.Streams.{ClusterStream, byte_in}

-- the step changes neither the clusters' size nor the two sizes
pub record SameSizes (old new : ClusterStream) : Type 0 where
  pub size : new.size ≡ old.size
  pub initialized : new.initialized ≡ old.initialized
  pub real : new.real ≡ old.real

-- a hole, or what lies behind the stream, gets a cluster of zeros
pub record IsFilled (old new : ClusterStream) (vcn : ℕ) : Type 0 where
  pub hole : (old.spot vcn ≡ Hole) ⊎ (old.spot vcn ≡ Outside)
  pub cluster : ℕ
  pub placed : new.spot vcn ≡ At cluster
  pub zeros : (k : ℕ) → slice_index (new.cluster cluster) k ≡ 0

-- a cluster of the stream lies where it lay; one behind the end may become a hole
abbrev pub KeepsSpot : ClusterStream → ClusterStream → ℕ → Type 0
KeepsSpot old new vcn = (new.spot vcn ≡ old.spot vcn) ⊎ ((old.spot vcn ≡ Outside) × (new.spot vcn ≡ Hole))

-- Holes of the range of clusters get clusters of zeros, and so does what lies behind the end; what lies between may become a hole.
pub record Places (old new : ClusterStream) (from to : ℕ) : Type 0 where
  pub sizes : SameSizes old new
  pub spots : (vcn : ℕ) → KeepsSpot old new vcn ⊎ IsFilled old new vcn
  pub outside : (vcn : ℕ) → (vcn < from) ⊎ (to ≤ vcn) → KeepsSpot old new vcn
  pub kept : (vcn cluster : ℕ) → old.spot vcn ≡ At cluster → new.cluster cluster ≡ old.cluster cluster

-- The initialized size rises, and the real size with it or beyond; the clusters stay, with what they hold.
pub record RaisesSizes (old new : ClusterStream) : Type 0 where
  pub size : new.size ≡ old.size
  pub spot : (vcn : ℕ) → new.spot vcn ≡ old.spot vcn
  pub kept : (vcn cluster : ℕ) → old.spot vcn ≡ At cluster → new.cluster cluster ≡ old.cluster cluster
  pub initialized : old.initialized ≤ new.initialized
  pub real : old.real ≤ new.real
  pub inside : old.initialized ≤ old.real

-- They rise over bytes that are zero.
pub record Raises (old new : ClusterStream) : Type 0 where
  pub sizes : RaisesSizes old new
  pub zeros : (i : ℕ) → old.initialized ≤ i → i < new.initialized → byte_in old i ≡ 0

-- Bytes are written where they lie, each below the initialized size; where there are none, anywhere.
pub record Patches (old new : ClusterStream) (at : ℕ) (bytes : List ℕ) : Type 0 where
  pub sizes : SameSizes old new
  pub spot : (vcn : ℕ) → new.spot vcn ≡ old.spot vcn
  pub below : (i : ℕ) → at ≤ i → i < at + length bytes → i < old.initialized
  pub inside : (i : ℕ) → at ≤ i → i < at + length bytes → byte_in new i ≡ slice_index bytes (i - at)
  pub outside : (i : ℕ) → (i < at) ⊎ (at + length bytes ≤ i) → byte_in new i ≡ byte_in old i

-- Whole clusters of the stream become a hole.
pub record Empties (old new : ClusterStream) (from to : ℕ) : Type 0 where
  pub sizes : SameSizes old new
  pub inside : (vcn : ℕ) → from ≤ vcn → vcn < to → new.spot vcn ≡ Hole
  pub outside : (vcn : ℕ) → (vcn < from) ⊎ (to ≤ vcn) → new.spot vcn ≡ old.spot vcn
  pub kept : (vcn cluster : ℕ) → new.spot vcn ≡ At cluster → new.cluster cluster ≡ old.cluster cluster

-- The end is cut off behind byte n.
pub record Cuts (old new : ClusterStream) (n : ℕ) : Type 0 where
  pub size : new.size ≡ old.size
  pub spot : (vcn : ℕ) → vcn * old.size < n → new.spot vcn ≡ old.spot vcn
  pub kept : (vcn cluster : ℕ) → new.spot vcn ≡ At cluster → new.cluster cluster ≡ old.cluster cluster
  pub real : new.real ≡ n
  pub less : n ≤ old.real
  pub initialized : (i : ℕ) → i < n → nat_lt i new.initialized ≡ nat_lt i old.initialized

-- A WRITE: what lies wholly between the initialized size and the range becomes a hole, the holes of the range are placed, the sizes raised,
-- zeros put between the old initialized size and the range, and the bytes put. Where the sizes rise over what is put afterwards, nothing is
-- asked of what lies there, as stale bytes behind the end of a stream that was cut.
pub record WritesRange (old new : ClusterStream) (at : ℕ) (bytes : List ℕ) (from to : ℕ) : Type 0 where
  pub hollow : ClusterStream
  pub placed : ClusterStream
  pub raised : ClusterStream
  pub cleared : ClusterStream
  pub first : ℕ  -- the whole clusters that go: from this one ..
  pub last : ℕ  -- .. up to this one
  pub empties : Empties old hollow first last
  pub between : (i : ℕ) → first ≤ i / old.size → i / old.size < last → (old.initialized ≤ i) × (i < at)
  pub places : Places hollow placed from to
  pub raises : RaisesSizes placed raised
  pub real : raised.real ≡ max old.real (at + length bytes)
  pub zeros : (i : ℕ) → old.initialized ≤ i → at + length bytes ≤ i → i < raised.initialized → byte_in placed i ≡ 0
  pub clears : Patches raised cleared old.initialized (replicate (at - old.initialized) 0)
  pub patches : Patches cleared new at bytes
  -- none that lies wholly between is owned afterwards
  pub holes : (vcn : ℕ) → old.initialized ≤ vcn * old.size → vcn * old.size + old.size ≤ at → new.spot vcn ≡ Hole

-- A PUNCH of the bytes from `from` up to `to`: zeros put in front of whole clusters and behind them, and these made a hole. What lies
-- past the initialized size shows zeros already, and is not written; of the last cluster what lies past the real size may go with it.
pub record PunchesRange (old new : ClusterStream) (from to : ℕ) : Type 0 where
  pub front : ClusterStream
  pub hollow : ClusterStream
  pub before : ℕ  -- the zeros put in front
  pub first : ℕ  -- the whole clusters: from this one ..
  pub last : ℕ  -- .. up to this one
  pub tail : ℕ  -- where the zeros behind them begin
  pub behind : ℕ  -- and how many they are
  pub zeros : Patches old front from (replicate before 0)
  pub empties : Empties front hollow first last
  pub zeros_behind : Patches hollow new tail (replicate behind 0)
  pub in_front : from + before ≤ to
  pub whole : (i : ℕ) → i < old.real → first ≤ i / old.size → i / old.size < last → (from ≤ i) × (i < to)
  pub at_tail : (from ≤ tail) × (tail + behind ≤ to)
  pub covers : (i : ℕ) → from ≤ i → i < to → i < old.initialized
      → (i < from + before) ⊎ ((first ≤ i / old.size) × (i / old.size < last)) ⊎ ((tail ≤ i) × (i < tail + behind))

-- The stream gains clusters in this range of its clusters alone.
abbrev pub Gains : ClusterStream → ClusterStream → ℕ → ℕ → Type 0
Gains old new from to =
    (vcn cluster : ℕ) → new.spot vcn ≡ At cluster → ((c : ℕ) × (old.spot vcn ≡ At c)) ⊎ ((from ≤ vcn) × (vcn < to))

-- No cluster of the stream lies in two places of it: each lies where `owner` says, and all are below the limit.
pub record IsApart (s : ClusterStream) (owner : ℕ → ℕ) (limit : ℕ) : Type 0 where
  pub some : 0 < s.size
  pub inside : s.initialized ≤ s.real
  pub owned : (vcn cluster : ℕ) → s.spot vcn ≡ At cluster → (owner cluster ≡ vcn) × (cluster < limit)

-- THE EFFECTS OF THE COMMANDS, byte by byte; a byte past the end is zero.
abbrev pub written_byte : (ℕ → ℕ) → ℕ → List ℕ → ℕ → ℕ
written_byte byte at bytes i = if nat_le at i && nat_lt i (at + length bytes) then slice_index bytes (i - at) else byte i

abbrev pub punched_byte : (ℕ → ℕ) → ℕ → ℕ → ℕ → ℕ
punched_byte byte from to i = if nat_le from i && nat_lt i to then 0 else byte i

-- whole clusters, of so many bytes
abbrev pub emptied_byte : (ℕ → ℕ) → ℕ → ℕ → ℕ → ℕ → ℕ
emptied_byte byte size from to i = if nat_le from (i / size) && nat_lt (i / size) to then 0 else byte i
