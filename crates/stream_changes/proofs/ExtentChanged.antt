-- A STREAM IN CLUSTERS THAT IS CUT, OR GOES: its clusters are given back, its record is edited, and then the attributes of its file are
-- set.
use Rattle.std.proofs.Common.{◌≡◌, ◌⊎◌, ◌+◌, ◌*◌, ℕ, List, [], Option, Some, length, refl, sym, subst, inl, inr, ◌∙◌, arith}
use Rattle.std.specs.List.{Contains}
use Rattle.std.specs.Prelude.{IsTrue, sum_by}
use Rattle.vol_disk.specs.declared.Disk.{Ghosts}
use Rattle.ntfs_def.specs.declared.run_text.Run.{Run}
use Rattle.volume_def.specs.FileNames.{names_of}
use Rattle.volume_def.specs.Files.{records_of}
use Rattle.volume_def.specs.Table.{TableLayout}
use Rattle.volume_def.specs.View.{VolumeView}
use Rattle.mft_table.specs.declared.mft.Mft.{Mft}
use Rattle.mft_table.specs.InUse.{IsInUse}
use Rattle.mft_table.specs.Mft.{KeepsDisk, view}
use Rattle.mft_table.specs.Staging.{record_places}
use Rattle.edit_def.specs.Purses.{run_size}
use Rattle.record_edits.specs.Given.{AreOwned, GivesBack, TakesRuns}
use Rattle.sparse_io.specs.declared.find.FoundStream.{FoundStream}
use Rattle.tree_edit.specs.Below.{SetsAttributes, StagesRecordOf}
use Rattle.tree_model.specs.Streams.{resized}
use Rattle.value_edits.specs.ValueEdits.{EndsBy, PutsGiving, PutsStream, ResizesStream, no_gain}
use Rattle.value_edits.proofs.GivenBack.{nothing-taken}
use Rattle.stored_bits.specs.Given.{IsOfBits, KeepsDevice}
use Rattle.tree_edit.specs.Links.{CanWriteFile}
use Rattle.tree_edit.specs.Staged.{IsOfFile, IsOfNames, StagesAttributes, TellsStored}
use Rattle.tree_edit.proofs.StagedLaws.{few-more, few-standard, few-then}
use Rattle.stream_changes.specs.Staged.{IsOfGiving, StagesGiving}
use Rattle.stream_changes.specs.Streams.{CanGive, FindsNamed, GivesBehind}
use Rattle.stream_changes.proofs.Changed as changed
use Rattle.stream_changes.proofs.ExtentLaws as extent

-- IT HAS SO MANY BYTES then, behind the call on its record.
pub extent-resized : {D : Type 0} (g : Ghosts D) (f : ℕ) (name : List ℕ) (size : ℕ) (held : List ℕ) (given : List Run)
    (a back m b : Mft D g) (times : List ℕ) (flags : ℕ) → KeepsDevice g a back → KeepsDisk g back m → IsTrue (view g a).told
    → PutsGiving (view g a) (view g m) f name (Some (resized size held)) no_gain given [] × EndsBy (view g m) f name size
    → (IsTrue (view g m).told → SetsAttributes (view g m) (view g b) f times flags)
    → ResizesStream (view g a) (view g b) f name size held times flags
extent-resized g f name size held given a back m b times flags device disk told puts sets =
    changed.resized-of (view g a) (view g m) (view g b) f name size held given times flags puts
    (sets (disk.goes_on.told_image ∙ device.goes_on.told_image ∙ told))

module _ {D : Type 0} (g : Ghosts D) (found : FoundStream) (f count : ℕ) (bytes : List ℕ → Option (List ℕ)) (a back m : Mft D g)
    (device : KeepsDevice g a back) (disk : KeepsDisk g back m) (can : IsTrue (view g a).told → CanGive (view g a) found f)
    (behind : (t : IsTrue (view g a).told) → GivesBehind g a back (can t).runs count)
    (puts : (t : IsTrue (view g a).told)
    → PutsGiving (view g a) (view g m) f (can t).named.name (bytes (can t).named.held) no_gain (behind t).given []) where
  abbrev old : VolumeView
  old = view g a

  abbrev named : IsTrue (view g a).told → FindsNamed (view g a) f
  named t = (can t).named

  abbrev runs : IsTrue (view g a).told → List Run
  runs t = (behind t).given

  abbrev gives : (t : IsTrue (view g a).told) → GivesBack (view g a) (view g back) (runs t)
  gives t = (behind t).gives

  takes : IsTrue (view g a).told → TakesRuns (view g back) (view g back) []
  takes t = nothing-taken (view g back)

  same-back : (view g back).told ≡ (view g a).told
  same-back = device.goes_on.told_image

  stored : TellsStored g back
  stored t = (behind (sym same-back ∙ t)).stored

  same : (view g m).told ≡ (view g a).told
  same = disk.goes_on.told_image ∙ same-back

  pub extent-in-use : IsInUse g m
  extent-in-use =
      changed.in-use g f a back m named bytes no_gain runs (λ t. []) (λ t. view g back) gives takes stored disk.mounted same puts

  pub extent-can-write : IsTrue (view g m).told → CanWriteFile (view g m) f
  extent-can-write =
      changed.can-write g f a back m named bytes no_gain runs (λ t. []) (λ t. view g back) gives takes stored disk.mounted same puts

  -- sectors of the record are those of before
  file-back : (t : IsTrue (view g a).told) (sector : ℕ) → IsOfFile (view g back) f sector → IsOfFile (view g a) f sector
  file-back t sector (n, own, among) = (
    n,
    extent.own-back old (view g back) f (can t).named.can (runs t) (gives t) (owned t) n own,
    subst (λ (l : TableLayout). Contains (record_places l n) sector) (gives t).writes.layout among,
  )
    where
      owned : (t : IsTrue (view g a).told) → AreOwned (view g a) (runs t)
      owned t = extent.behind-owned (view g a) (runs t) (can t).runs count (behind t).behind (extent.runs-owned (view g a) found f (can t))

  module _ (b : Mft D g) (times : List ℕ) (flags : ℕ) (sets : IsTrue (view g m).told → SetsAttributes (view g m) (view g b) f times flags)
    where
      pub extent-put : (t : IsTrue (view g a).told)
          → PutsStream (view g a) (view g b) f (can t).named.name (bytes (can t).named.held) no_gain 0 times flags
      extent-put =
          changed.put-then g f a back m named bytes no_gain runs (λ t. []) (λ t. view g back) gives takes stored disk.mounted same puts
          b times flags sets 0 (λ t. omega arith)

      pub extent-staged : StagesRecordOf g f back m
          → (IsTrue (view g m).told → StagesAttributes g f (names_of (records_of (view g m)) f) m b)
          → IsTrue (view g a).told → StagesGiving g 8 f (view g a) a b
      extent-staged record-staged later t =
          let size = sum_by run_size (runs t) in
          let names = names_of (records_of old) f in
          let first = few-then g (2 * size) 4 (2 * size + 4) (λ s. IsOfBits old s ⊎ IsOfFile old f s) (IsOfBits old)
          (IsOfFile (view g back) f) a back m (behind t).stages (few-standard g f back m record-staged (same-back ∙ t)) (omega arith)
          (λ s of. inl of) (λ s of. inr (file-back t s of)) in
          record {
            given = size;
            freed = changed.freed-then g f a back m named bytes no_gain runs (λ t. []) (λ t. view g back) gives takes stored
                disk.mounted same puts b times flags sets t refl;
            taken = 0;
            owned = omega arith;
            stages = few-more g (2 * size + 4 + (4 + 12 * length names)) (8 + 12 * length names + 2 * size + 2 * 0)
                (IsOfGiving old f)
                (λ s. (IsOfBits old s ⊎ IsOfFile old f s) ⊎ (IsOfFile old f s ⊎ IsOfNames old names s)) a b
                (changed.staged-then g f a back m named bytes no_gain runs (λ t. []) (λ t. view g back) gives takes stored disk.mounted same
                puts b (2 * size + 4)
                (λ s. IsOfBits old s ⊎ IsOfFile old f s) first later t) (omega arith)
                (λ s of. elim of [
                  | inl own ↦ elim own [ inl bits ↦ inr (inl bits) | inr file ↦ inr (inr (inr (inl file))) ]
                  | inr other ↦ inr (inr (inr other))
                ]);
          }
