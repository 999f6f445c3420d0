-- What a line can say: commands of which each field is within the grammar, and no longer than a line has room for.
use Rattle.std.specs.Prelude.{◌≡◌, ℕ, ◌+◌, ◌*◌, ◌^◌, ◌<◌, ◌≤◌, ◌||◌, All, IsTrue, List, length, bit_and, Option, Some, None, sum_by}
use Rattle.tree_model.specs.declared.command.Command.{Command}
use Rattle.tree_model.specs.declared.command.Command.TheVariants as command
use Rattle.tree_model.specs.declared.opens.Access.{Access}
use Rattle.tree_model.specs.declared.tree.TheConstants.{SHOWN_FLAGS}
use Rattle.cmd_lang.specs.Words.{most_bytes}

-- A name: units of 16 bits, one at least. A letter has no fewer bytes than units.
pub record IsSayableName (name : List ℕ) : Type 0 where
  pub some : 0 < length name
  pub short : length name ≤ most_bytes
  pub units : All (λ unit. unit < 2 ^ 16) name

-- The names of a path, each with a `/` in front.
pub record IsSayablePath (path : List (List ℕ)) : Type 0 where
  pub names : All IsSayableName path
  pub short : sum_by (λ name. 1 + length name) path ≤ most_bytes

-- a path, and the name of a stream where there is one
abbrev pub IsSayableTarget : List (List ℕ) → Option (List ℕ) → Type 0
IsSayableTarget path None = IsSayablePath path
IsSayableTarget path (Some stream) = IsSayablePath path × IsSayableName stream

-- Bytes, two digits each.
pub record AreSayableBytes (bytes : List ℕ) : Type 0 where
  pub short : 2 * length bytes ≤ most_bytes
  pub each : All (λ byte. byte < 256) bytes

-- DOS flags
abbrev pub AreSayableFlags : ℕ → Type 0
AreSayableFlags flags = (flags < 2 ^ 16) × (bit_and flags SHOWN_FLAGS ≡ flags)

-- a letter at least
abbrev pub IsSayableAccess : Access → Type 0
IsSayableAccess access = IsTrue (access.r || access.w || access.d)

-- each field of a command
abbrev pub IsSayable : Command → Type 0
IsSayable (command.Time now) = now < 2 ^ 64
IsSayable (command.Ls path) = IsSayablePath path
IsSayable (command.Stat path) = IsSayablePath path
IsSayable (command.Links path) = IsSayablePath path
IsSayable (command.Cat path stream) = IsSayableTarget path stream
IsSayable (command.Read path stream at len) = IsSayableTarget path stream × (at < 2 ^ 64) × (len < 2 ^ 64)
IsSayable (command.Create path) = IsSayablePath path
IsSayable (command.Mkdir path) = IsSayablePath path
IsSayable (command.Rm path) = IsSayablePath path
IsSayable (command.Rmdir path) = IsSayablePath path
IsSayable (command.Ln old new) = IsSayablePath old × IsSayablePath new
IsSayable (command.Mv old new) = IsSayablePath old × IsSayablePath new
IsSayable (command.Write path stream at bytes) = IsSayableTarget path stream × (at < 2 ^ 64) × AreSayableBytes bytes
    × (0 < length bytes)
IsSayable (command.Truncate path stream size) = IsSayableTarget path stream × (size < 2 ^ 64)
IsSayable (command.Punch path stream at len) = IsSayableTarget path stream × (at < 2 ^ 64) × (len < 2 ^ 64)
IsSayable (command.Streams path) = IsSayablePath path
IsSayable (command.Rmstream path name) = IsSayableTarget path (Some name)
IsSayable (command.Attr path) = IsSayablePath path
IsSayable (command.Setattr path flags) = IsSayablePath path × AreSayableFlags flags
IsSayable (command.Sec path) = IsSayablePath path
IsSayable (command.Setsec path id) = IsSayablePath path × (id < 2 ^ 32)
IsSayable (command.Sd id) = id < 2 ^ 32
IsSayable (command.Reparse path) = IsSayablePath path
IsSayable (command.Mkreparse path tag bytes) = IsSayablePath path × (tag < 2 ^ 32) × AreSayableBytes bytes
IsSayable (command.Rmreparse path) = IsSayablePath path
IsSayable (command.Objid path) = IsSayablePath path
IsSayable command.Df = Unit {0}
IsSayable (command.Open path stream access share) = IsSayableTarget path stream × IsSayableAccess access
IsSayable (command.Hread handle at len) = (handle < 2 ^ 32) × (at < 2 ^ 64) × (len < 2 ^ 64)
IsSayable (command.Hwrite handle at bytes) = (handle < 2 ^ 32) × (at < 2 ^ 64) × AreSayableBytes bytes × (0 < length bytes)
IsSayable (command.Close handle) = handle < 2 ^ 32
