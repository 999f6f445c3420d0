-- A STREAM THAT HAS A VALUE is there, and its file is one of the table;
-- so the room that an edit in its record asks for is that of its bill.
use Rattle.std.proofs.Common.{◌≡◌, ◌&&◌, ◌==◌, ◌+◌, ◌<◌, ◌∙◌, ℕ, Bool, true, false, List, [], Option, Some, None, refl, ap, subst}
use Rattle.std.proofs.lemmas.Bool.{and_from, and_parts, false_from_ne_true}
use Rattle.std.specs.Prelude.{IsSome, if◌then◌else◌, is_some, nat_le, option_and_then, option_map}
use Rattle.std.specs.Option.{option_map_or}
use Rattle.volume_def.specs.Files.{Clusters, Content, Part, Value, content_extent, content_value}
use Rattle.volume_def.specs.StreamSize.{real_size, told_size}
use Rattle.volume_def.specs.Values.{first_part}
use Rattle.volume_def.specs.View.{VolumeView}
use Rattle.volume_def.proofs.FileLaws.{file-counted}
use Rattle.tree_model.specs.Reading.{read}
use Rattle.tree_model.specs.StreamRoom.{goes_over, initialized_in, initialized_size, is_in_place, new_clusters}
use Rattle.tree_model.specs.StreamRoom.{parts_named, stream_parts, stream_value}
use Rattle.tree_model.specs.Subjects.{Located, content_named}
use Rattle.tree_model.specs.Tree.{Tree, node_of, sought_stream}
use Rattle.tree_model.specs.Ways.{in_extent}
use Rattle.tree_model.specs.declared.reply.No.{No}
use Rattle.tree_model.specs.declared.tree.Node.{Node}
use Rattle.tree_model.specs.declared.tree.Stream.{Stream}
use Rattle.tree_read.proofs.NodeLaws.{shown-file}
use Rattle.stream_changes.specs.Below.{named_in}

module _ (view : VolumeView) (tree : Tree) (at : Located) where
  pub value-there : is_some (stream_value (stream_parts view tree at)) ≡ true → is_some (content_named tree at.stream at.node) ≡ true
  value-there is = by (option_and_then (λ (node : Node). sought_stream tree.fold node.streams at.stream) at.node) is
    where
      by : (o : Option Stream)
          → is_some (stream_value (option_map_or (λ (stream : Stream). parts_named view at.file stream.name) o [])) ≡ true
          → is_some (option_map (λ (stream : Stream). stream.content) o) ≡ true
      by None e = cc
      by (Some stream) e = refl

  -- .. and so is one that lies in clusters
  pub extent-there : in_extent (first_part (stream_parts view tree at)) ≡ true → is_some (content_named tree at.stream at.node) ≡ true
  extent-there is = by (option_and_then (λ (node : Node). sought_stream tree.fold node.streams at.stream) at.node) is
    where
      by : (o : Option Stream)
          → in_extent (first_part (option_map_or (λ (stream : Stream). parts_named view at.file stream.name) o [])) ≡ true
          → is_some (option_map (λ (stream : Stream). stream.content) o) ≡ true
      by None e = cc
      by (Some stream) e = refl

  node-there : is_some (content_named tree at.stream at.node) ≡ true → IsSome at.node
  node-there is = by at.node is
    where
      by : (o : Option Node) → is_some (content_named tree at.stream o) ≡ true → IsSome o
      by None e = cc
      by (Some node) e = refl

  pub located-counted : at.node ≡ node_of (read view) at.file → is_some (content_named tree at.stream at.node) ≡ true
      → at.file < view.layout.count
  located-counted node is = file-counted view at.file (shown-file view at.file (subst (λ o. IsSome o) node (node-there is)))

-- THE PARTS of a stream are those of the file, by its node and the name
pub parts-at : (view : VolumeView) (name : List ℕ) (file : ℕ) (at : Located) → at.file ≡ file → at.stream ≡ name
    → at.node ≡ node_of (read view) file
    → stream_parts view (read view) at ≡ stream_parts view (read view) (named_in (read view) name file)
parts-at view name file at file_is stream_is node_is = λ i.
    option_map_or (λ (stream : Stream). parts_named view (file_is i) stream.name)
    (option_and_then (λ (node : Node). sought_stream (read view).fold node.streams (stream_is i)) (node_is i)) []

-- room that is asked for by so many clusters, where any are
pub asked-if : (asks : ℕ → Option No) (grows : Bool) (k : ℕ)
    → option_and_then asks (if grows then Some k else None) ≡ (if grows then asks k else None)
asked-if asks true k = refl
asked-if asks false k = refl

pub asked-unless : (asks : ℕ → Option No) (within : Bool) (k : ℕ)
    → option_and_then asks (if within then None else Some k) ≡ (if within then None else asks k)
asked-unless asks true k = refl
asked-unless asks false k = refl

-- BYTES THAT GO INTO A VALUE, and not over bytes in clusters, do not end within a stream in clusters: of a value all was written.
value-first : (o : Option Part) → is_some (option_and_then (λ (part : Part). content_value part.content) o) ≡ true → is_some o ≡ true
value-first None is = is
value-first (Some part) is = refl

value-written : (o : Option Part) → is_some (option_and_then (λ (part : Part). content_value part.content) o) ≡ true
    → option_map_or initialized_in o 0 ≡ told_size o
value-written None is = refl
value-written (Some part) is = by part.content is
  where
    by : (content : Content) → is_some (content_value content) ≡ true
        → option_map_or (λ extent. extent.sizes.initialized) (content_extent content) (real_size content) ≡ real_size content
    by (Value bytes) is = refl
    by (Clusters extent runs) is = cc

pub not-within : (size : ℕ) (extents : List Part) (from len : ℕ) → is_some (stream_value extents) ≡ true
    → goes_over size extents from len ≡ false → is_in_place size extents from len ≡ false
not-within size extents from len value none =
    false_from_ne_true (is_in_place size extents from len) (λ place. never (over place) none)
  where
    never : {b : Bool} → b ≡ true → b ≡ false → ⊥
    never x y = cc

    over : is_in_place size extents from len ≡ true → goes_over size extents from len ≡ true
    over place =
        let front = (new_clusters size extents from len == 0) && nat_le from (initialized_size extents) in
        let told = (and_parts front (nat_le (from + len) (told_size (first_part extents))) place).1 in
        and_from (is_some (first_part extents)) _ (value-first (first_part extents) value)
        (and_from (is_in_place size extents from len) _ place
        (ap (nat_le (from + len)) (value-written (first_part extents) value) ∙ told))
