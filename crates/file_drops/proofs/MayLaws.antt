-- WHAT MAY BE DONE, of a file that was loaded.
use Rattle.std.proofs.Common.{◌≡◌, ℕ, List, sym, subst, ◌∙◌}
use Rattle.std.specs.Prelude.{All}
use Rattle.ntfs_def.specs.FileName.{key_units}
use Rattle.volume_def.specs.Readable.{IsFile}
use Rattle.volume_def.specs.View.{VolumeView}
use Rattle.file_record.specs.declared.held.Held.{Held}
use Rattle.file_record.specs.declared.parts.FileParts.{FileParts}
use Rattle.file_record.specs.Held.{AreParts, AreRising, file_number, held_of}
use Rattle.file_record.specs.Records.{IsRecordOf}
use Rattle.file_record.specs.Written.{IsWholeFile}
use Rattle.edit_def.specs.Items.{HasItems}
use Rattle.edit_def.specs.Marks.{Marks}
use Rattle.file_makes.specs.Enters.{IsReadyFor}
use Rattle.file_drops.specs.Exits.{CanExit, HasExit, MayExit}

-- a file that was loaded is held whole
pub whole-loaded : (view : VolumeView) (n : ℕ) (file : FileParts) → file_number file ≡ n → AreParts view file
    → All (λ (one : Held). IsRecordOf view n one.number) (held_of file) → AreRising (held_of file) → IsWholeFile view file
whole-loaded view n file number are own rising = record {
  parts = are;
  own = subst (λ f. All (λ (one : Held). IsRecordOf view f one.number) (held_of file)) (sym number) own;
  rising = rising;
}

-- so the entry can go out of it
pub can-exit : (view : VolumeView) (marks : Marks) (dir : ℕ) (file : FileParts) (table lent key : List ℕ) → MayExit view marks dir table key
    → file_number file ≡ dir → lent ≡ table → AreParts view file → All (λ (one : Held). IsRecordOf view dir one.number) (held_of file)
    → AreRising (held_of file) → CanExit view marks file lent key
can-exit view marks dir file table lent key may number same are own rising = record {
  ready_for = subst (IsReadyFor view marks) (sym number) may.ready_for;
  holds = record {
    items = may.items;
    held = record {
      held = record {
        readable = may.ready_for.ready.editable.readable;
        parts = are;
        is_file = subst (IsFile view) (sym number) may.ready_for.is_file;
      };
      has = subst (λ f. HasItems view f may.items) (sym number) may.has;
      case = same ∙ may.case;
    };
  };
  whole = whole-loaded view dir file number are own rising;
  entry = subst (λ f. HasExit view f (key_units key)) (sym number) may.entry;
}
