-- A record that is held, and the value of its attribute i that moved: what the volume has.
use Rattle.std.proofs.Common.{◌≡◌, ◌+◌, ◌-◌, ◌*◌, ◌<◌, ◌≤◌, ℕ, true, false, List, Some, length, slice_get, sym, ap, subst, ◌∙◌, arith}
use Rattle.std.specs.Prelude.{IsSomeAnd}
use Rattle.list_laws.proofs.OptionLaws.{some_same}
use Rattle.vol_bytes.proofs.FieldLaws.{u32_at-same}
use Rattle.ntfs_def.specs.Attribute.{attribute_at, attribute_id, attributes}
use Rattle.ntfs_def.specs.Fixup.{bare_of}
use Rattle.ntfs_def.specs.Record.{header_of, used_size}
use Rattle.ntfs_def.specs.Shape.{HasShape}
use Rattle.ntfs_def.specs.declared.run_text.Run.{Run}
use Rattle.ntfs_def.proofs.BareRecords.{SameOutside-bare_of}
use Rattle.attr_view.specs.Edit.{next_id_after}
use Rattle.attr_view.specs.Values.{attribute_in}
use Rattle.volume_def.specs.Room.{free_bytes}
use Rattle.volume_def.specs.Table.{cluster_bytes}
use Rattle.volume_def.specs.View.{VolumeView}
use Rattle.file_record.specs.declared.held.Held.{Held}
use Rattle.file_record.specs.declared.parts.FileParts.{FileParts}
use Rattle.file_record.specs.Attributes.{ReplacesAttribute, opened_record}
use Rattle.file_record.specs.Held.{RecordHeld, held_of}
use Rattle.file_record.specs.Written.{IsWholeFile}
use Rattle.extent_edits.proofs.HeldLaws.{current, held-both, own, rises, there}
use Rattle.value_moves.specs.Bytes.{MovesAttribute}
use Rattle.value_moves.specs.Moved.{CanBeMoved, MovesValue, MovesWhereItCan, moved_len}

-- the bytes in use do not lie in the update sequence array
used-bare : (block : List ℕ) (count : ℕ) → HasShape block count → used_size (bare_of block) ≡ used_size block
used-bare block count shape =
    u32_at-same block (bare_of block) 0x18 (λ k f t. (SameOutside-bare_of block count shape).below k (omega (arith, t)))

-- a value that can move, with the bytes that are free beside it, lacks the bytes of the extent
abbrev pub Lacks : Held → ℕ → Type 0
Lacks held i =
    CanBeMoved (attribute_in held.block i)
    → length (attribute_in held.block i).bytes + (1024 - used_size held.block) < moved_len (attribute_in held.block i).name

-- THE VOLUME has the record that is held.
module _ (old : VolumeView) (file : FileParts) (place i : ℕ) (one : Held) (is : slice_get (held_of file) place ≡ Some one)
    (whole : IsWholeFile old file) (lt : i < length (attributes one.block)) where
  -- as many bytes are free in it
  free-held : 1024 - used_size one.block ≡ free_bytes old one.number
  free-held =
      let used : used_size one.block ≡ used_size (opened_record old one.number) =
      sym (used-bare one.block one.count one.shape) ∙ ap used_size (current old file place i one is whole lt)
      ∙ used-bare (opened_record old one.number) _ (own old file place i one is whole lt).well_formed.shape in
      ap (λ (n : ℕ). 1024 - n) used

  -- ITS VALUE MOVED.
  MovesValue-held : (new : VolumeView) (run : Run) (real initialized : ℕ) (bytes : List ℕ)
      → MovesAttribute (cluster_bytes old.layout) run real initialized (attribute_in one.block i) bytes
      → ReplacesAttribute old new one.number i bytes → MovesValue old new one.number i run real initialized
  MovesValue-held new run real initialized bytes moves replaces =
      let same : attribute_in one.block i ≡ replaces.was = some_same (sym (there old file place i one is whole lt) ∙ replaces.there) in
      let moves' : MovesAttribute (cluster_bytes old.layout) run real initialized replaces.was bytes =
      subst (λ a. MovesAttribute (cluster_bytes old.layout) run real initialized a bytes) same moves in
      record {
        stored = replaces.stored;
        was = replaces.was;
        now = attribute_at bytes 0;
        there = replaces.there;
        edits = replaces.edits;
        header = record {
          next = next_id_after (header_of (opened_record old one.number)).next_id (attribute_id bytes 0);
          is = replaces.header_is;
          rises = rises (header_of (opened_record old one.number)).next_id (attribute_id bytes 0) moves.small;
        };
        kind = moves'.kind;
        name = moves'.name;
        id = moves'.id;
        flags = moves'.flags;
        becomes = moves'.becomes;
      }

-- WHAT A CALL TELLS of the record that is held at the place.
module _ (old new : VolumeView) (file : FileParts) (place i bytes : ℕ) (run : Run) (real initialized : ℕ)
    (within : RecordHeld file place (λ held. i < length (attributes held.block))) (wide : bytes ≡ cluster_bytes old.layout)
    (whole : IsWholeFile old file) where
  pub cannot-move : new ≡ old → RecordHeld file place (λ held. Lacks held i)
      → RecordHeld file place (λ held. 1024 * held.number + 1024 ≤ old.layout.initialized
      → MovesWhereItCan false old new held.number i run real initialized)
  cannot-move same none =
      held-both (slice_get (held_of file) place) _ _ _
      (λ one is lt full low. (
        subst (λ o. IsSomeAnd o (λ was. CanBeMoved was → length was.bytes + free_bytes old one.number < moved_len was.name))
            (sym (there old file place i one is whole lt))
            (subst (λ (free : ℕ). CanBeMoved (attribute_in one.block i)
            → length (attribute_in one.block i).bytes + free < moved_len (attribute_in one.block i).name)
            (free-held old file place i one is whole lt) full),
        same,
      )) within none

  pub move-held : (now : List ℕ)
      → RecordHeld file place (λ held. MovesAttribute bytes run real initialized (attribute_in held.block i) now)
      → RecordHeld file place (λ held. 1024 * held.number + 1024 ≤ old.layout.initialized → ReplacesAttribute old new held.number i now)
      → RecordHeld file place (λ held. 1024 * held.number + 1024 ≤ old.layout.initialized
      → MovesWhereItCan true old new held.number i run real initialized)
  move-held now moves replaced =
      held-both (slice_get (held_of file) place) _ _ _
      (λ one is lt both low. MovesValue-held old file place i one is whole lt new run real initialized now
      (subst (λ n. MovesAttribute n run real initialized (attribute_in one.block i) now) wide both.0) (both.1 low))
      within
      (held-both (slice_get (held_of file) place) _ _
      (λ held. MovesAttribute bytes run real initialized (attribute_in held.block i) now ×
      (1024 * held.number + 1024 ≤ old.layout.initialized → ReplacesAttribute old new held.number i now))
      (λ one is moves' replaces. (moves', replaces)) moves replaced)
