-- ALL CALLS of the command together, and the first mark.
use Rattle.std.proofs.Common.{◌≡◌, ◌≤◌, ℕ, List, [], length, Some, refl, sym, ap, subst, arith}
use Rattle.std.proofs.lemmas.List.{length-take}
use Rattle.vol_disk.specs.Contents.{sector_in}
use Rattle.ntfs_def.specs.Boot.{boot_sector}
use Rattle.ntfs_def.specs.declared.kinds.TheConstants.{DATA, VOLUME_INFORMATION}
use Rattle.ntfs_def.specs.declared.records.TheConstants.{LOG_FILE, VOLUME}
use Rattle.volume_def.specs.Files.{parts, records_of}
use Rattle.volume_def.specs.Room.{longest_name}
use Rattle.volume_def.specs.Sound.{IsSound}
use Rattle.volume_def.specs.Table.{cluster_bytes}
use Rattle.volume_def.specs.View.{VolumeView}
use Rattle.tree_model.specs.Bill.{bill_of}
use Rattle.tree_model.specs.Facts.{IsVolumeOf}
use Rattle.tree_model.specs.Need.{Bill, records_wanted}
use Rattle.tree_model.specs.Subjects.{Located}
use Rattle.tree_model.specs.declared.command.Command.{Command}
use Rattle.edit_def.specs.Account.{AreTouched, Plan, wants_of}
use Rattle.edit_def.specs.OneFile.{IsTabled}
use Rattle.edit_def.specs.Purses.{room_of}
use Rattle.edit_def.proofs.NeedLaws.{IsPlanned-by}
use Rattle.session_def.specs.Owed.{CallsOf, goes_by}
use Rattle.session_def.specs.State.{Stands, State}
use Rattle.in_place.specs.Unnamed.{LiesApart}
use Rattle.in_place.proofs.EditedInPlace.{editable-sound, edited}
use Rattle.in_place.proofs.StillApart.{apart-sound}
use Rattle.in_place_owed.specs.SetsInPlace.{SetsInPlace, StandsAlone, is_set_key}
use Rattle.in_place_owed.proofs.EmptyBill.{bill-empty}
use Rattle.in_place_owed.proofs.MarksLaws.{marks-right, right_marks}
use Rattle.in_place_owed.proofs.SetKeys.{set-inside, set-no_room}
use Rattle.in_place_owed.proofs.TabledLaws.{tabled}

-- a sector has 512 bytes at most
sector-most : (image : List ℕ) (n : ℕ) → length (sector_in (Some image) n) ≤ 512
unfolding sector_in
sector-most image n = simp length-take (omega arith)

-- THE VOLUME of an image lies apart, and its table holds its records.
pub apart-of : (image : List ℕ) (view : VolumeView) → IsVolumeOf image view → IsSound view → LiesApart view
apart-of image view volume sound =
    subst LiesApart (sym volume.is)
    (apart-sound (sector_in (Some image)) (boot_sector image) volume.layout volume.has.table_clause (sector-most image)
    (subst IsSound volume.is sound))

pub tabled-of : (image : List ℕ) (view : VolumeView) → IsVolumeOf image view → IsSound view → IsTabled view
tabled-of image view volume sound =
    subst IsTabled (sym volume.is)
    (tabled (sector_in (Some image)) (boot_sector image) volume.layout volume.has.table_clause
    (subst LiesApart volume.is (apart-of image view volume sound)))

pub stands-alone : (before : State) → Stands before → StandsAlone before
stands-alone before stands = record {
  apart = apart-of before.image before.view stands.volume stands.sound;
  tabled = tabled-of before.image before.view stands.volume stands.sound;
  sound = stands.sound;
  reading = stands.reading;
}

-- the plan of a bill that touches no file
abbrev pub empty_plan : VolumeView → Plan
empty_plan view = record { size = cluster_bytes view.layout; files = []; name = λ f. longest_name (parts (records_of view) f) }

pub calls : (before next : State) (command : Command) (at : Located) (made : ℕ) (staged : VolumeView)
    → SetsInPlace before next command at staged → CallsOf before next command at made
calls before next command at made staged s =
    let view = before.view in
    let tree = before.machine.tree in
    let apart = s.stands.apart in
    let plan = empty_plan view in
    let bill = bill_of view tree command at in
    let empty = bill-empty view tree command at s.edits s.new s.in_place in
    let some = apart.some in
    let few : records_wanted bill ≡ 0 = ap records_wanted empty in
    let right = marks-right view in
    let room = set-no_room tree command at (records_of view) s.edits s.shown in
    record {
      changed = is_set_key tree command at;
      inside = set-inside view tree next.machine.tree command at made s.edits s.new;
      no_log = s.firsts LOG_FILE (omega arith) DATA [];
      no_mark = s.firsts VOLUME (omega arith) VOLUME_INFORMATION [];
      plan = plan;
      units = λ f. 0;
      size = refl;
      large = omega (arith, some);
      apart = tt;
      planned = IsPlanned-by plan (room_of view plan) bill (goes_by tree command at) (λ f. 0) refl
          (λ f. omega arith) (λ f goes. refl);
      touched = subst (λ (b : Bill). AreTouched plan (room_of view plan) [] b.touched) (sym empty) tt;
      few = omega (arith, few);
      tabled = s.stands.tabled;
      was = right_marks view;
      now = right_marks view;
      start = editable-sound view (right_marks view) s.stands.sound right;
      staged = staged;
      edited = edited (is_set_key tree command at)
          (wants_of plan bill (goes_by tree command at) (λ f. 0)) view staged (right_marks view) s.rewrites
          apart.owners apart.some
          apart.unnamed room right s.sound;
      marked = s.first.marked;
    }
