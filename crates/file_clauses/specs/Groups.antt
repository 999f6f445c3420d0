-- Outlines in their order, and those of a type and name among them.
use Rattle.std.specs.Prelude.{◌≡◌, ℕ, ◌<◌, ◌≤◌, List, length, slice_index_or, true, false}
use Rattle.std.specs.Ordering.{is_lt}
use Rattle.file_clauses.specs.Extents.{Outline, is_like, outline_order}

-- none is before one that stands before it
abbrev pub AreSorted : List Outline → Type 0
AreSorted outlines = (i j : ℕ) (d : Outline) → i ≤ j → j < length outlines
    → is_lt (outline_order (slice_index_or outlines j d) (slice_index_or outlines i d)) ≡ false

-- Those from `start` to `end` are of one type and name, and the next one is not.
pub record IsGroup (outlines : List Outline) (start end : ℕ) : Type 0 where
  pub some : start < end
  pub inside : end ≤ length outlines
  pub alike : (k : ℕ) (d : Outline) → start ≤ k → k < end → is_like (slice_index_or outlines start d) (slice_index_or outlines k d) ≡ true
  pub last : (d : Outline) → end < length outlines → is_like (slice_index_or outlines start d) (slice_index_or outlines end d) ≡ false
