-- THE STREAM that the words of a command lead to, where it has parts: it is there, plain, and holds these bytes.
use Rattle.std.proofs.Common.{◌≡◌, ℕ, true, false, List, [], Option, Some, None, refl, sym, ap, ◌∙◌}
use Rattle.std.proofs.lemmas.Bool.{and_parts}
use Rattle.std.specs.Option.{option_map_or}
use Rattle.std.specs.Prelude.{is_some, option_and_then, option_map}
use Rattle.ntfs_def.specs.Units.{units_in}
use Rattle.ntfs_def.specs.declared.kinds.TheConstants.{DATA}
use Rattle.volume_def.specs.Files.{Part, content_value}
use Rattle.volume_def.specs.Values.{first_part}
use Rattle.volume_def.specs.View.{VolumeView}
use Rattle.tree_model.specs.Answers.{bytes_at, bytes_of}
use Rattle.tree_model.specs.Cases.{is_packed}
use Rattle.tree_model.specs.StreamRoom.{goes_over, parts_named, stream_parts, stream_value}
use Rattle.tree_model.specs.Subjects.{Located}
use Rattle.tree_model.specs.Tree.{Tree, sought_stream}
use Rattle.tree_model.specs.declared.tree.Content.{Content}
use Rattle.tree_model.specs.declared.tree.Content.TheVariants.{Packed, Plain}
use Rattle.tree_model.specs.declared.tree.Node.{Node}
use Rattle.tree_model.specs.declared.tree.Stream.{Stream}
use Rattle.edit_def.specs.Kept.{AreTellable, key_of, told_of}
use Rattle.session_def.specs.Named.{spelt}
use Rattle.session_def.specs.State.{Stands, State}
use Rattle.stream_edits.specs.Streams.{IsThere}
use Rattle.edit_written.specs.Below.{FindsPlain}
use Rattle.in_place_done.proofs.FoundFile.{HasContent}
use Rattle.in_place_done.proofs.TreeBehind.{fold-same}

pub record HoldsStream (tree : Tree) (at : Located) (node : Node) : Type 0 where
  pub stream : Stream
  pub sought : sought_stream tree.fold node.streams at.stream ≡ Some stream
  pub held : List ℕ
  pub content : stream.content ≡ Plain held
  pub told : at.content ≡ Some (Plain held)
  pub holds : bytes_at at ≡ held
  pub spelt_is : spelt tree at ≡ stream.name
  pub found_as : (view : VolumeView) → stream_parts view tree at ≡ parts_named view at.file stream.name

-- what is sought in a node
abbrev sought_in : Tree → Located → Option Node → Option Stream
sought_in tree at n = option_and_then (λ (node : Node). sought_stream tree.fold node.streams at.stream) n

-- bytes that go over bytes go over those of parts, and so do zeros in a value
pub over-some : (size : ℕ) (extents : List Part) (from len : ℕ) → goes_over size extents from len ≡ true
    → is_some (first_part extents) ≡ true
over-some size extents from len over = (and_parts (is_some (first_part extents)) _ over).0

pub value-some : (extents : List Part) → is_some (stream_value extents) ≡ true → is_some (first_part extents) ≡ true
value-some extents is = by (first_part extents) is
  where
    by : (o : Option Part) → is_some (option_and_then (λ (part : Part). content_value part.content) o) ≡ true → is_some o ≡ true
    by None is = is
    by (Some part) is = refl

module _ (view : VolumeView) (tree : Tree) (at : Located) (node : Node) (there : at.node ≡ Some node)
    (has : HasContent tree at) (plain : option_map_or is_packed at.content false ≡ false)
    (some : is_some (first_part (stream_parts view tree at)) ≡ true) where
  module _ (stream : Stream) (e : sought_stream tree.fold node.streams at.stream ≡ Some stream) where
    found : sought_in tree at at.node ≡ Some stream
    found = ap (sought_in tree at) there ∙ e

    content : at.content ≡ Some stream.content
    content = has ∙ ap (option_map (λ (s : Stream). s.content)) found

    inner : (content_is : Content) → stream.content ≡ content_is → HoldsStream tree at node
    inner (Packed size) is =
        let never : true ≡ false = sym (ap (λ o. option_map_or is_packed o false) (content ∙ ap Some is)) ∙ plain in
        cc
    inner (Plain bytes) is = record {
      stream = stream;
      sought = e;
      held = bytes;
      content = is;
      told = content ∙ ap Some is;
      holds = ap (λ o. option_map_or bytes_of o []) (content ∙ ap Some is);
      spelt_is = ap (λ (o : Option Stream). option_map_or (λ (stream : Stream). stream.name) o at.stream) found;
      found_as = λ view.
          ap (λ (o : Option Stream). option_map_or (λ (stream : Stream). parts_named view at.file stream.name) o []) found;
    }

  pub stream-held : HoldsStream tree at node
  stream-held = by (sought_stream tree.fold node.streams at.stream) refl
    where
      by : (o : Option Stream) → sought_stream tree.fold node.streams at.stream ≡ o → HoldsStream tree at node
      by None e =
          let parts : stream_parts view tree at ≡ [] =
          ap (λ o. option_map_or (λ (stream : Stream). parts_named view at.file stream.name) o []) (ap (sought_in tree at) there ∙ e) in
          let never : false ≡ true = sym (ap (λ xs. is_some (first_part xs)) parts) ∙ some in
          cc
      by (Some stream) e = inner stream e stream.content refl

-- THE STREAM IS FOUND on the volume as in the tree.
pub finds-plain : (before : State) → Stands before → (at : Located) (node : Node) (h : HoldsStream before.machine.tree at node)
    (name : List ℕ) → units_in name ≡ spelt before.machine.tree at → IsThere before.view (key_of at.file DATA name)
    → AreTellable (told_of before.view at.file) → FindsPlain before.view at.file node at.stream name h.held
finds-plain before stands at node h name spelt_so there tellable = record {
  stream = h.stream;
  sought = ap (λ (fold : ℕ → ℕ). sought_stream fold node.streams at.stream) (fold-same before stands) ∙ h.sought;
  spelt = sym h.spelt_is ∙ sym spelt_so;
  content = h.content;
  there = there;
  tellable = tellable;
}
