-- THE VOLUME IS SOUND where one stream was edited, of a file that is not the table of case.
use Rattle.std.proofs.Common.{◌≡◌, ◌≢◌, ◌<◌, ◌==◌, ◌&&◌, ℕ, Bool, false, [], refl, ap, subst, ◌∙◌, arith}
use Rattle.std.specs.Str.{bytes_eq}
use Rattle.std.proofs.lemmas.Bool.{and_left, and_right, ne_eqb}
use Rattle.ntfs_def.specs.declared.kinds.TheConstants.{BITMAP, DATA, FILE_NAME, INDEX_ALLOCATION, INDEX_ROOT}
use Rattle.ntfs_def.specs.declared.records.TheConstants.{CLUSTER_BITMAP, MFT, ROOT, SECURE, UPCASE}
use Rattle.volume_def.specs.Files.{Records, parts_at, records_of}
use Rattle.volume_def.specs.Sound.{IsSound}
use Rattle.volume_def.specs.Sound as clauses
use Rattle.volume_def.specs.Table.{TableLayout, cluster_bytes}
use Rattle.volume_def.specs.Values.{value_of_parts, value_on}
use Rattle.volume_def.specs.View.{VolumeView}
use Rattle.volume_def.proofs.ValueLaws.{value-frame}
use Rattle.edit_def.specs.Edited.{StoresBits, is_table_key}
use Rattle.edit_def.specs.Kept.{Key, key_of, same_key}
use Rattle.edit_def.specs.Marks.{Marks}
use Rattle.edit_def.specs.Names.{KeepsNames}
use Rattle.edit_def.proofs.NamesLaws.{stand-of}
use Rattle.record_edits.specs.RecordEdit.{EditsPart}
use Rattle.record_edits.proofs.BlockEdits.{attribute-stays}
use Rattle.record_edits.proofs.ClauseEdits as edit
use Rattle.record_edits.proofs.FileEdits as files
use Rattle.stream_overwrites.specs.Below.{IsBetween, NamesNoIndex}
use Rattle.stream_overwrites.proofs.Below.{between-quiet, between-references, between-sound, links-same, sound-by, sound-stored}
use Rattle.stream_overwrites.proofs.Below.{sound-whole}
use Rattle.in_place_owed.specs.Below.{LiesApart}
use Rattle.in_place_owed.proofs.MarksLaws.{right_marks}
use Rattle.value_edits.specs.ValueEdits.{EditsAlone}
use Rattle.value_edits.proofs.BitsStill.{bits-still}
use Rattle.value_edits.proofs.EditedRecord as value

module _ (key : Key) (old new : VolumeView) (sound : IsSound old) (apart : LiesApart old) {gains : ℕ → Bool}
    (e : EditsAlone key gains old new) where
  abbrev mid : VolumeView
  mid = e.mid

  abbrev before : Marks
  before = right_marks old

  abbrev after : Marks
  after = right_marks new

  part : EditsPart key mid new before after
  part = value.part key old new sound apart e

  records-mid : records_of mid ≡ records_of old
  records-mid = value.records-mid key old new sound apart e

  apart-mid : LiesApart mid
  apart-mid = value.apart-mid key old new sound apart e

  no-name : key.kind ≢ FILE_NAME
  no-name is = let stream = e.kind in absurd (omega (arith, is, stream))

  -- no name changed
  pub names : (g : ℕ) → KeepsNames (records_of old) (records_of new) g
  names g = subst (λ (r : Records). KeepsNames r (records_of new) g) records-mid (files.names-kept key mid new before after part no-name g)

  -- nor an index
  no-index : NamesNoIndex (same_key key)
  no-index = record {
    root = λ n name. ap (λ k. (k == INDEX_ROOT) && ((key.file == n) && bytes_eq key.name name)) e.kind;
    records = λ n name. ap (λ k. (k == INDEX_ALLOCATION) && ((key.file == n) && bytes_eq key.name name)) e.kind;
    bits = λ n name. ap (λ k. (k == BITMAP) && ((key.file == n) && bytes_eq key.name name)) e.kind;
  }

  -- The bitmaps have the values that they had before the record was written.
  pub value-still : (m kind : ℕ) → m < SECURE → m ≢ ROOT → is_table_key (key_of m kind []) ≡ false
      → value_on new (parts_at new m kind []) ≡ value_on mid (parts_at mid m kind [])
  value-still m kind low other free =
      ap (λ (l : TableLayout). value_of_parts new.cluster (cluster_bytes l) (parts_at new m kind [])) e.block.replaces.layout
      ∙ ap (value_of_parts new.cluster (cluster_bytes mid.layout)) (edit.system-at key mid new before after part m kind [] low other)
      ∙ value-frame mid.cluster new.cluster (cluster_bytes mid.layout) (parts_at mid m kind [])
      (attribute-stays mid new e.block.replaces.clusters apart-mid.owners apart-mid.some apart-mid.unnamed m kind [] free)

  bits : StoresBits new
  bits = bits-still old e.prepares.freed e.prepares.flagged new after (value.edited key old new sound apart e).editable
      (value.layout key old new sound apart e) e.given e.taken e.prepares.gives e.prepares.takes e.prepares.differ
      (value.owned-now key old new sound apart e) (value.used-still key old new sound apart e)
      (value-still CLUSTER_BITMAP DATA (omega arith) (λ z. absurd (omega (arith, z))) refl ∙ value.flags-mid key old new sound apart e)
      (value-still MFT BITMAP (omega arith) (λ z. absurd (omega (arith, z))) refl ∙ value.rows-mid key old new sound apart e) sound

  module _ (no_case : key.file ≢ UPCASE) where
    pub case-unnamed : same_key key (key_of UPCASE DATA []) ≡ false
    case-unnamed = and_right (key.kind == DATA) ((key.file == UPCASE) && bytes_eq key.name [])
        (and_left (key.file == UPCASE) (bytes_eq key.name []) (ne_eqb key.file UPCASE no_case))

    between : IsBetween new
    between = between-quiet (same_key key) (value.wants key old new sound apart e) old new before after
        (value.edited key old new sound apart e) names case-unnamed no-index (between-sound old (sound-whole old sound))

    pub sound-now : IsSound new
    sound-now = sound-stored new
        (sound-by new between (links-same old new (sound clauses.References) (sound clauses.Links)
        (stand-of (records_of new) (between-references new between)) names))
        bits
