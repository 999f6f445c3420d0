-- THE STREAM THAT WAS FOUND of a file, as the command names it: as it is spelt, there, and in a file that can be edited.
use Rattle.std.proofs.Common.{◌≡◌, ◌≤◌, ℕ, Bool, List, [], Some, sym, ap, subst, ◌∙◌}
use Rattle.std.specs.Prelude.{Contains, option_and_then, option_map}
use Rattle.std.specs.Option.{option_map_or}
use Rattle.ntfs_def.specs.FileName.{FileName}
use Rattle.ntfs_def.specs.Units.{units_in}
use Rattle.ntfs_def.specs.declared.kinds.TheConstants.{DATA}
use Rattle.volume_def.specs.CaseClause.{volume_fold}
use Rattle.volume_def.specs.FileNames.{names_of}
use Rattle.volume_def.specs.Files.{records_of}
use Rattle.volume_def.specs.View.{VolumeView}
use Rattle.tree_model.specs.Answers.{bytes_at, bytes_of}
use Rattle.tree_model.specs.Reading.{node_by, read}
use Rattle.tree_model.specs.Subjects.{Located, content_named}
use Rattle.tree_model.specs.Tree.{node_of, sought_stream}
use Rattle.tree_model.specs.declared.tree.Content.TheVariants.{Plain}
use Rattle.tree_model.specs.declared.tree.Node.{Node}
use Rattle.tree_model.specs.declared.tree.Stream.{Stream}
use Rattle.edit_def.specs.Kept.{AreTellable, key_of, told_of}
use Rattle.session_def.specs.Named.{spelt}
use Rattle.made_done.specs.Below.{CanSet, IsThere}
use Rattle.tree_read.specs.Nodes.{number_of, parts_in}
use Rattle.stream_changes.specs.Below.{IsFoundToEdit, Writable}

module _ (view : VolumeView) (found : Writable) (asked : List ℕ) (can : ℕ → Bool) (is : IsFoundToEdit view found asked can) (file : ℕ)
    (file_is : number_of found.held ≡ file) where
  pub there-so : IsThere view (key_of file DATA is.stream.is.part.name)
  there-so = subst (λ f. IsThere view (key_of f DATA is.stream.is.part.name)) file_is is.there

  pub tellable-so : AreTellable (told_of view file)
  tellable-so = subst (λ f. AreTellable (told_of view f)) file_is is.tellable

  pub can-so : CanSet view file is.settable.can.node
  can-so = subst (λ f. CanSet view f is.settable.can.node) file_is is.settable.can.can

  pub high-so : (name : FileName) → Contains (names_of (records_of view) file) name → 4 ≤ name.parent.number
  high-so =
      subst (λ f. (name : FileName) → Contains (names_of (records_of view) f) name → 4 ≤ name.parent.number) file_is is.settable.high

  pub spelt-so : (at : Located) → at.stream ≡ asked → at.node ≡ node_of (read view) file
      → units_in is.stream.is.part.name ≡ spelt (read view) at
  unfolding node_by read
  spelt-so at stream node =
      sym (ap (λ (s : Stream). s.name) is.stream.is.is) ∙ sym spelt-here
    where
      here : at.node ≡ Some (node_by view is.held.base (parts_in found.held))
      here = node ∙ ap (node_of (read view)) (sym file_is) ∙ is.held.node

      spelt-here : spelt (read view) at ≡ is.stream.is.stream.name
      spelt-here =
          ap (λ n. option_map_or (λ (s : Stream). s.name) (option_and_then (λ (node : Node). sought_stream
          (volume_fold view) node.streams n) at.node) n) stream
          ∙ ap (λ o. option_map_or (λ (s : Stream). s.name) (option_and_then (λ (node : Node). sought_stream
          (volume_fold view) node.streams asked) o) asked) here
          ∙ ap (λ o. option_map_or (λ (s : Stream). s.name) o asked) is.stream.is.sought

  -- its bytes are those that are held
  pub bytes-so : (at : Located) → at.content ≡ content_named (read view) asked (node_of (read view) file) → bytes_at at ≡ is.stream.bytes
  unfolding node_by read
  bytes-so at content = ap (λ o. option_map_or bytes_of o []) (content ∙ here)
    where
      here : content_named (read view) asked (node_of (read view) file) ≡ Some (Plain is.stream.bytes)
      here =
          ap (λ o. content_named (read view) asked o) (ap (node_of (read view)) (sym file_is) ∙ is.held.node)
          ∙ ap (λ o. option_map (λ (s : Stream). s.content) o) is.stream.is.sought
          ∙ ap Some is.stream.holds
