-- The sectors of a log.
use Rattle.std.specs.Prelude.{◌≡◌, ℕ, ◌+◌, ◌<◌, ◌≤◌, List, length, get_or, replicate, sum_by}
use Rattle.mark_write.specs.declared.log.Span.{Span}

abbrev pub no_span : Span
no_span = record { first = 0; len = 0 }

-- the sector is of the span
abbrev pub IsWithin : Span → ℕ → Type 0
IsWithin span n = (span.first ≤ n) × (n < span.first + span.len)

-- it is of no span
abbrev pub IsOutside : List Span → ℕ → Type 0
IsOutside spans n = (i : ℕ) → i < length spans → ¬ (IsWithin (get_or spans i no_span) n)

-- the sectors of the spans, of which a log may name one twice
abbrev pub span_sectors : List Span → ℕ
span_sectors spans = sum_by (λ span. span.len) spans

-- a sector of an empty log: all its bits are set
abbrev pub empty_sector : List ℕ
empty_sector = replicate 512 0xFF

-- THE LOG IS EMPTY: so are all sectors of its spans.
abbrev pub IsEmptied : List Span → (ℕ → List ℕ) → Type 0
IsEmptied spans disk = (i n : ℕ) → i < length spans → IsWithin (get_or spans i no_span) n → disk n ≡ empty_sector
