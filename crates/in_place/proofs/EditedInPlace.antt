-- A REWRITE KEEPS THE PROMISE OF A CALL, whatever its bill has.
use Rattle.std.proofs.Common.{◌≡◌, ◌*◌, ◌<◌, ◌≤◌, ℕ, Bool, true, false, [], length, Option, Some, None, refl, sym, ap, inl, inr, ◌∙◌, arith}
use Rattle.std.proofs.lemmas.Bool.{cases_lt}
use Rattle.std.specs.Prelude.{is_some}
use Rattle.ntfs_def.specs.declared.records.TheConstants.{FIRST_ORDINARY}
use Rattle.volume_def.specs.BitmapClauses.{cluster_bits, written_by}
use Rattle.volume_def.specs.Files.{Record, record_on}
use Rattle.volume_def.specs.Sound.{IsSound}
use Rattle.volume_def.specs.Sound as clauses
use Rattle.volume_def.specs.Values.{first_part, value_on}
use Rattle.volume_def.specs.View.{VolumeView}
use Rattle.volume_edits.specs.Owners.{HasOwners}
use Rattle.session_def.specs.Account.{Wants}
use Rattle.session_def.specs.Edited.{Edited, is_list_key, is_room_key}
use Rattle.session_def.specs.EditDefKept.{Key, either}
use Rattle.session_def.specs.Marks.{AreRight, HasBitmaps, IsEditable, Marks}
use Rattle.session_def.proofs.NamesLaws.{bases-of}
use Rattle.volume_def.specs.Files.{records_of}
use Rattle.volume_def.proofs.SoundLaws.{readable-sound}
use Rattle.in_place.specs.InPlace.{Rewrites}
use Rattle.in_place.proofs.FormSame.{forms-kept}
use Rattle.in_place.proofs.KeptInPlace.{kept-room}
use Rattle.in_place.proofs.PlacesSame.{in_place, right-same, volume-same}
use Rattle.in_place.proofs.RoomSame.{bare-same, spent, used-same}

-- the least that is above all below a bound
all-below : (bound most : ℕ) → ((n : ℕ) → n < bound → n < most) → bound ≤ most
all-below bound most each = elim (cases_lt most bound) [
  | inl lt ↦ let never = each most lt in absurd (omega (arith, never))
  | inr le ↦ le
]

bitmaps-sound : (view : VolumeView) → IsSound view → HasBitmaps view
bitmaps-sound view sound = record {
  plain = (sound clauses.ClusterBits 0).plain;
  placed = (sound clauses.ClusterBits 0).placed;
  long = all-below view.layout.clusters (8 * length (value_on view (cluster_bits view))) (λ n. (sound clauses.ClusterBits n).long);
  written = all-below view.layout.clusters (8 * written_by (first_part (cluster_bits view))) (λ n. (sound clauses.ClusterBits n).written);
  records = (sound clauses.RecordBits FIRST_ORDINARY).bits refl;
}

-- A SOUND VOLUME, with the bits in memory right, stands as between two calls.
pub editable-sound : (view : VolumeView) (marks : Marks) → IsSound view → AreRight view marks → IsEditable view marks
editable-sound view marks sound right = record {
  readable = readable-sound view sound;
  owners = sound clauses.Owners;
  version = sound clauses.Version;
  mirror_place = sound clauses.MirrorPlace;
  mirror = sound clauses.Mirror;
  bitmaps = bitmaps-sound view sound;
  right = right;
}

none-same : (o u : Option Record) → is_some o ≡ is_some u → u ≡ None → o ≡ None
none-same None u same none = refl
none-same (Some r) u same none = let never : true ≡ false = same ∙ ap is_some none in cc

pub none-still : (changed : Key → Bool) (old new : VolumeView) → Rewrites changed old new → (n : ℕ) → record_on old n ≡ None
    → record_on new n ≡ None
none-still changed old new w n none = none-same (record_on new n) (record_on old n) (used-same changed old new w n) none

pub edited : (changed : Key → Bool) (wants : Wants) (old new : VolumeView) (marks : Marks) → Rewrites changed old new → (o : HasOwners old)
    → 0 < old.layout.cluster_sectors → o.table.part.name ≡ [] → ((key : Key) → is_room_key key ≡ true → changed key ≡ false)
    → AreRight old marks → IsSound new → Edited changed wants old new marks marks
edited changed wants old new marks w o some unnamed room right sound = record {
  told = w.told;
  volume = volume-same changed old new w;
  rest = w.rest;
  kept = kept-room changed old new w o some unnamed;
  forms = λ f. forms-kept changed old new w (either is_list_key changed) f;
  places = in_place changed old new w o some room;
  spent = spent changed old new w wants;
  editable = editable-sound new marks sound (right-same changed old new w marks right);
  limits = sound clauses.Limits;
  bases = bases-of (records_of new) (sound clauses.References);
  system = λ n low none. none-still changed old new w n none;
  held = λ n bare. sym (bare-same changed old new w n) ∙ bare;
}
