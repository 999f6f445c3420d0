-- WHAT IS WANTED OF A PUNCH, by what is found of the file that is held: the refusals in their order; and whether the stream is a value.
use Rattle.std.proofs.Common.{◌≡◌, ◌⊎◌, ◌&&◌, ◌==◌, ◌/◌, ◌%◌, ℕ, Bool, true, false, List, Option, Some, None, Result, Ok, Err}
use Rattle.std.proofs.Common.{refl, sym, ap, subst, inl, inr, ◌∙◌}
use Rattle.std.specs.Prelude.{IfOk, IsSomeAnd, if◌then◌else◌, is_some, length, option_and_then, slice_get}
use Rattle.std.specs.Option.{option_map_or}
use Rattle.ntfs_def.specs.Attribute.{Attribute, Body, NonResident, Resident, value_of}
use Rattle.volume_def.specs.CaseClause.{case_parts}
use Rattle.volume_def.specs.Files.{Part, content_of, content_value, part_of}
use Rattle.volume_def.specs.Sound.{IsSound}
use Rattle.volume_def.specs.Table.{cluster_bytes}
use Rattle.volume_def.specs.Values.{value_on}
use Rattle.volume_def.specs.View.{VolumeView}
use Rattle.mft_table.specs.declared.mounted.Mounted.{Mounted}
use Rattle.file_record.specs.declared.base.BaseFile.{BaseFile}
use Rattle.sparse_io.specs.Held.{IsStream}
use Rattle.sparse_io.specs.declared.find.FoundStream.{FoundStream}
use Rattle.sparse_io.proofs.OverLaws.{first-like, named-like}
use Rattle.tree_model.specs.Cases.{is_wide}
use Rattle.tree_model.specs.Paths.{and_then}
use Rattle.tree_model.specs.StreamRoom.{parts_named, stream_value}
use Rattle.tree_model.specs.declared.opens.OpenEntry.{OpenEntry}
use Rattle.tree_model.specs.declared.reply.No.{No}
use Rattle.tree_model.specs.declared.reply.No.TheVariants as no
use Rattle.file_room.specs.Nodes.{IsNodeHeld, number_of, parts_in}
use Rattle.file_room.specs.Parts.{FindsPlain, IsPlainStream, content_here}
use Rattle.file_room.proofs.NodeLaws.{held-with}
use Rattle.file_room.proofs.StreamLaws.{other-stream, refused-directory}
use Rattle.tree_edit.specs.Punchable.{can_punch, if_value, punch_in, punch_ranged}
use Rattle.tree_edit.specs.Settable.{is_editable}
use Rattle.tree_edit.specs.Writable.{AreNames, DecidesEdit, DecidesOver, GivesBack, IsMountedAs, kept_from_writing}
use Rattle.tree_edit.specs.declared.writable.Way.TheVariants as way
use Rattle.tree_edit.specs.declared.writable.Writable.{Writable}
use Rattle.tree_edit.proofs.EditableLaws.{edit-decided, edit-is, editable-not, editable-so}

module _ (view : VolumeView) (held : BaseFile) (n : IsNodeHeld view held) (name : List ℕ) (from len : ℕ) (opens : List OpenEntry) where
  abbrev number : ℕ
  number = number_of held

  abbrev wanted : Result ℕ No
  wanted = punch_in view opens name from len number

  abbrev then_ranged : Result (List ℕ) No → Result ℕ No
  then_ranged r = and_then r (λ bytes. punch_ranged view opens name from len number)

  pub directory-refused : ((length name == 0) && (held.header.flags / 2 % 2 == 1)) ≡ true → wanted ≡ Err no.IsDir
  directory-refused dir = ap then_ranged (refused-directory view held n name dir)

  module _ (other : ((length name == 0) && (held.header.flags / 2 % 2 == 1)) ≡ false) where
    pub stream-refused : (refused : No) → FindsPlain (content_here view held name) view held name (Err refused)
        → (wanted ≡ Err refused) ⊎ (refused ≡ no.Memory)
    stream-refused refused (inl e) = inl (ap then_ranged (other-stream view held n name other ∙ e))
    stream-refused refused (inr memory) = inr memory

    module _ (found : FoundStream) (x : FindsPlain (content_here view held name) view held name (Ok found)) where
      ranged : wanted ≡ punch_ranged view opens name from len number
      ranged = ap then_ranged (other-stream view held n name other ∙ x.1)

      pub range-refused : is_wide from len ≡ true → wanted ≡ Err no.TooBig
      range-refused wide =
          ranged
          ∙ ap (λ b. if b then Err no.TooBig else option_map_or Err (kept_from_writing opens number) (if_value view name number)) wide

      apart : is_wide from len ≡ false → (o : Option No) → kept_from_writing opens number ≡ o
          → wanted ≡ option_map_or Err o (if_value view name number)
      apart narrow o kept =
          ranged
          ∙ ap (λ b. if b then Err no.TooBig else option_map_or Err (kept_from_writing opens number) (if_value view name number)) narrow
          ∙ ap (λ k. option_map_or Err k (if_value view name number)) kept

      pub open-refused : (refused : No) → is_wide from len ≡ false → kept_from_writing opens number ≡ Some refused → wanted ≡ Err refused
      open-refused refused narrow kept = apart narrow (Some refused) kept

      pub as-value : is_wide from len ≡ false → kept_from_writing opens number ≡ None → wanted ≡ if_value view name number
      as-value narrow kept = apart narrow None kept

-- WHETHER THE STREAM THAT WAS FOUND IS A VALUE, by its attribute at its place.
module _ (view : VolumeView) (mounted : Mounted) (held : BaseFile) (mounts : IsMountedAs view mounted (cluster_bytes view.layout))
    (sound : IsSound view) (n : IsNodeHeld view held) (name : List ℕ) (found : FoundStream) (is : IsStream view held.parts name found) where
  abbrev f : ℕ
  f = number_of held

  abbrev is_value : Bool
  is_value = is_some (stream_value (parts_named view f is.stream.name))

  can-is : can_punch view name f ≡ (is_editable mounted held.parts && is_value)
  can-is =
      edit-is view mounted (cluster_bytes view.layout) held mounts sound n name found is (λ (ps : List Part). is_some (stream_value ps))

  pub value-not : is_editable mounted held.parts ≡ false → false ≡ can_punch view name f
  value-not e =
      editable-not view mounted (cluster_bytes view.layout) held mounts sound n name found is
      (λ file. can_punch view name file) is_value can-is e

  -- its value is that of its first part
  pub value-is : (a : Attribute) → IsSomeAnd (slice_get (parts_in held) found.part) (λ part. part ≡ part_of part.holder a)
      → AreNames (parts_in held) → is_some (value_of a.body) ≡ is_value
  value-is a at names =
      let h = held-with view held n (value_on view (case_parts view)) refl in
      let table = value_on view (case_parts view) in
      let like = named-like view table name held.parts found h is a at names in
      let first = first-like view table name held.parts found h is a at names in
      let here : is.part ≡ part_of is.part.holder a =
      subst (λ (o : Option Part). IsSomeAnd o (λ part. part ≡ part_of part.holder a)) is.at at in
      by a.body
      ∙ sym (ap (λ (ps : List Part). is_some (stream_value ps)) like
      ∙ ap (λ o. is_some (option_and_then (λ (part : Part). content_value part.content) o)) first
      ∙ ap (λ (p : Part). is_some (content_value p.content)) here)
    where
      by : (body : Body) → is_some (value_of body) ≡ is_some (content_value (content_of body))
      by (Resident value) = refl
      by (NonResident extent text) = refl

  pub value-so : (a : Attribute) → IsSomeAnd (slice_get (parts_in held) found.part) (λ part. part ≡ part_of part.holder a)
      → AreNames (parts_in held) → is_editable mounted held.parts ≡ true → (b : Bool) → b ≡ is_some (value_of a.body)
      → b ≡ can_punch view name f
  value-so a at names e b same =
      editable-so view mounted (cluster_bytes view.layout) held mounts sound n name found is
      (λ file. can_punch view name file) is_value can-is b e
      (same ∙ value-is a at names)

  pub punch-decided : (wanted : Result ℕ No) (result : Result Writable No) → DecidesOver (can_punch view name f) result
      → IfOk result (λ given. GivesBack given held found way.InPlace) → IsPlainStream view held name found
      → wanted ≡ if_value view name f → DecidesEdit (λ any file. can_punch view name file) wanted view held name result
  punch-decided wanted result over back plain e =
      edit-decided view mounted (cluster_bytes view.layout) held mounts sound n name found is
      (λ file. can_punch view name file) is_value can-is way.InPlace wanted
      result over back plain e
