-- FRAMES: eight sectors behind one another, the first of them at a multiple of eight. A pool of 64 slots holds some of a disk's frames,
-- each in its slot, the remainder of its number.
use Rattle.std.specs.Prelude.{◌≡◌, ◌⊎◌, ◌+◌, ◌*◌, ◌<◌, ◌≤◌, ◌%◌, ℕ, List, Option, Some, slice_get}
use Rattle.vol_disk.specs.Contents.{IsTold, sector_in, sector_of}

-- the slot of a frame
abbrev pub slot_of : ℕ → ℕ
slot_of frame = frame % 64

-- The bytes of slot s are those of frame p, where the disk tells them.
abbrev pub HasFrame : Option (List ℕ) → List ℕ → ℕ → ℕ → Type 0
HasFrame now room s p = IsTold now → (k : ℕ) → k < 8 → sector_of room (8 * s + k) ≡ sector_in now (8 * p + k)

-- it lies beside so many from a place on
abbrev pub IsBeside : ℕ → ℕ → ℕ → Type 0
IsBeside at count j = (j < at) ⊎ (at + count ≤ j)

-- this frame is held in this slot
abbrev pub IsIn : List (Option ℕ) → ℕ → ℕ → Type 0
IsIn held s p = slice_get held s ≡ Some (Some p)

-- it is held nowhere
abbrev pub IsForgotten : List (Option ℕ) → ℕ → Type 0
IsForgotten held p = (s : ℕ) → IsIn held s p → ⊥

-- EACH SLOT holds nothing, or a frame of which it is the slot, with the bytes that the frame has.
abbrev pub AreFrames : Option (List ℕ) → List ℕ → List (Option ℕ) → Type 0
AreFrames now room held = (s p : ℕ) → IsIn held s p → (slot_of p ≡ s) × HasFrame now room s p
