-- A STREAM THAT CAN HAVE SO MANY BYTES has the room for them, as the call asks for it that gives it those: by the size that was found.
use Rattle.std.proofs.Common.{◌≡◌, ◌+◌, ◌||◌, not, ℕ, true, List, length, Option, Some, refl, sym, ap, ◌∙◌}
use Rattle.std.specs.Prelude.{filter, is_some, nat_le, option_and_then}
use Rattle.std.specs.Option.{option_map_or}
use Rattle.std.proofs.lemmas.Bool.{and_parts}
use Rattle.list_laws.proofs.OptionLaws.{some-is}
use Rattle.ntfs_def.specs.declared.kinds.TheConstants.{DATA}
use Rattle.volume_def.specs.CaseClause.{case_parts}
use Rattle.volume_def.specs.Files.{Part, content_value, is_of}
use Rattle.volume_def.specs.Room.{free_bytes}
use Rattle.volume_def.specs.StreamSize.{real_size}
use Rattle.volume_def.specs.Values.{first_part, value_on}
use Rattle.volume_def.specs.View.{VolumeView}
use Rattle.tree_model.specs.Facts.{is_whole_table}
use Rattle.tree_model.specs.Reading.{read}
use Rattle.tree_model.specs.Staging.{cannot_edit}
use Rattle.tree_model.specs.Ways.{fits_in_record, gets_no_longer, has_no_list}
use Rattle.tree_model.specs.StreamRoom.{parts_named, stream_parts, stream_value, stream_value_len}
use Rattle.tree_model.specs.declared.tree.Content.{Content}
use Rattle.tree_model.specs.declared.tree.Stream.{Stream}
use Rattle.sparse_io.specs.Held.{IsHeldWith, IsStream}
use Rattle.sparse_io.proofs.OverwriteLaws.{found-first, found-parts, found-stored}
use Rattle.value_edits.proofs.Below.{named-same}
use Rattle.tree_edit.specs.Below.{number_of, parts_in}
use Rattle.tree_edit.proofs.Below.{held-with}
use Rattle.tree_edit.specs.Alone.{IsResizable, can_drop}
use Rattle.tree_edit.specs.Change.{has_room_for}
use Rattle.tree_edit.specs.Punchable.{can_punch}
use Rattle.tree_edit.specs.Writable.{named_in}
use Rattle.tree_edit.specs.declared.writable.Writable.{Writable}
use Rattle.tree_edit.proofs.EditableLaws.{parts-are}
use Rattle.tree_edit.proofs.PunchLaws.{size-value}
use Rattle.tree_edit.proofs.StreamToWrite.{content-is}

module _ (view : VolumeView) (found : Writable) (name : List ℕ) (size : ℕ) (is : IsResizable view found name size) where
  abbrev f : ℕ
  f = number_of found.held

  abbrev stream : IsStream view found.held.parts name found.stream
  stream = is.stream.is

  abbrev table : List ℕ
  table = value_on view (case_parts view)

  abbrev there : List Part
  there = stream_parts view (read view) (named_in (read view) name f)

  h : IsHeldWith view table found.held.parts
  h = held-with view found.held is.held table refl

  first : first_part (filter (is_of DATA stream.part.name) (parts_in found.held)) ≡ Some stream.part
  first = found-first view table name found.held.parts found.stream h stream

  -- its value is that of the part that was found
  value-is : stream_value there ≡ content_value stream.part.content
  value-is =
      ap stream_value (parts-are view found.held is.held name found.stream stream
      ∙ ap (parts_named view f) (ap (λ (s : Stream). s.name) stream.is)
      ∙ named-same view f stream.part.name is.held.readable h.is_file is.there is.tellable
      ∙ sym (found-parts view table name found.held.parts found.stream h stream))
      ∙ ap (λ o. option_and_then (λ (part : Part). content_value part.content) o) first

  value-some : is_some (content_value stream.part.content) ≡ true
  value-some =
      let dropped = (and_parts (can_drop view name f) _ is.over).0 in
      let punched = (and_parts (can_punch view name f) (has_no_list view f) dropped).0 in
      sym (ap (λ (o : Option (List ℕ)). is_some o) value-is)
      ∙ (and_parts (not (cannot_edit (is_whole_table view) (read view) f)) _ punched).1

  -- .. and has as many bytes as was found
  value-long : stream_value_len there ≡ found.stream.size
  value-long =
      let its = some-is (content_value stream.part.content) value-some in
      let stored = found-stored view table name found.held.parts found.stream h stream in
      let begun : stored.first ≡ stream.part = let a = stored.at in let b = stream.at in cc in
      ap (λ (o : Option (List ℕ)). option_map_or length o 0) (value-is ∙ its.1)
      ∙ sym (stored.len ∙ ap (λ (part : Part). real_size part.content) begun ∙ size-value stream.part.content its.0 its.1)

  pub resizable-room : has_room_for view f found.stream.size size ≡ true
  resizable-room =
      sym (ap (λ (o : Option Content). gets_no_longer size o || fits_in_record view f there size)
      (content-is view found.held is.held name found.stream stream)
      ∙ ap (λ k. nat_le size k || fits_in_record view f there size) (sym stream.size)
      ∙ ap (λ n. nat_le size found.stream.size || nat_le (size + 7) (n + free_bytes view f)) value-long)
      ∙ (and_parts (can_drop view name f) _ is.over).1
