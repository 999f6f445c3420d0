-- What a source over a reader passes on, where the reader knows the bytes that it has left.
use Rattle.std.specs.Prelude.{◌≡◌, ◌<◌, ℕ, List, take, length, Option}
use Rattle.std.specs.Io.KnownBytes.{Consumes, IsAtEnd}

-- n bytes came to the front of the buffer; 0 of them only at the end
pub record Reads (old new : Option (List ℕ)) (n : ℕ) (buffer : List ℕ) : Type 0 where
  pub consumed : Consumes old new (take n buffer)
  pub end : n ≡ 0 → 0 < length buffer → IsAtEnd new
