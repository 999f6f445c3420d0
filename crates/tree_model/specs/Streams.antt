-- What commands make of the bytes of a stream, and of the streams of a file.
use Rattle.std.specs.Prelude.{ℕ, ◌+◌, ◌-◌, Bool, List, ◌++◌, drop, filter, length, map, not, replicate, take, Option, Some, None}
use Rattle.std.specs.Prelude.{if◌then◌else◌}
use Rattle.std.specs.Ordering.{is_gt}
use Rattle.std.specs.Str.{bytes_eq}
use Rattle.ntfs_def.specs.KeyOrder.{compare_units}
use Rattle.list_laws.specs.Ordered.{put_in_order}
use Rattle.tree_model.specs.Tree.{sought_stream}
use Rattle.tree_model.specs.declared.tree.Content.TheVariants.{Plain}
use Rattle.tree_model.specs.declared.tree.Node.{Node}
use Rattle.tree_model.specs.declared.tree.Stream.{Stream}

-- zeros up to the place, then the bytes
abbrev pub written : ℕ → List ℕ → List ℕ → List ℕ
written from bytes old = take from old ++ replicate (from - length old) 0 ++ bytes ++ drop (from + length bytes) old

-- cut, or filled with zeros
abbrev pub resized : ℕ → List ℕ → List ℕ
resized size old = take size old ++ replicate (size - length old) 0

-- zeros in the range, as far as it lies below the size
abbrev pub punched : ℕ → ℕ → List ℕ → List ℕ
punched from len old = take from old ++ replicate (length (take len (drop from old))) 0 ++ drop (from + len) old

-- in name order
abbrev pub stream_above : (ℕ → ℕ) → Stream → Stream → Bool
stream_above fold x y = is_gt (compare_units fold x.name y.name)

-- this stream's content, which keeps the spelling of its name
abbrev pub set_content : Stream → List ℕ → Stream → Stream
set_content stream bytes other = if bytes_eq other.name stream.name then record other { content = Plain bytes } else other

abbrev pub put_bytes : (ℕ → ℕ) → List ℕ → List ℕ → List Stream → Option Stream → List Stream
put_bytes fold name bytes streams None = put_in_order (stream_above fold) (record { name = name; content = Plain bytes }) streams
put_bytes fold name bytes streams (Some stream) = map (set_content stream bytes) streams

-- The stream of this name has these bytes; it is made where it is missing.
abbrev pub with_bytes : (ℕ → ℕ) → List ℕ → List ℕ → Node → Node
with_bytes fold name bytes node =
    record node { streams = put_bytes fold name bytes node.streams (sought_stream fold node.streams name) }

abbrev pub dropped : List Stream → Option Stream → List Stream
dropped streams None = streams
dropped streams (Some stream) = filter (λ other. not (bytes_eq other.name stream.name)) streams

-- The stream of this name is gone.
abbrev pub without_stream : (ℕ → ℕ) → List ℕ → Node → Node
without_stream fold name node = record node { streams = dropped node.streams (sought_stream fold node.streams name) }
