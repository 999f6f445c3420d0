-- THE FIRST STEP: where the standard information of a file was set its names can be told anew, one after another.
use Rattle.std.proofs.Common.{◌≡◌, ◌≢◌, ℕ, Bool, List, refl, sym, subst}
use Rattle.ntfs_def.specs.declared.records.TheConstants.{VOLUME}
use Rattle.volume_def.specs.FileNames.{names_of}
use Rattle.volume_def.specs.Files.{record_on, records_of}
use Rattle.volume_def.specs.Readable.{IsFile}
use Rattle.volume_def.specs.Sound.{IsSound}
use Rattle.volume_def.specs.View.{VolumeView}
use Rattle.edit_def.specs.Kept.{Key}
use Rattle.in_place.specs.InPlace.{Rewrites}
use Rattle.in_place.specs.Unnamed.{LiesApart}
use Rattle.in_place.proofs.PlacesSame as places
use Rattle.in_place.proofs.RoomSame as room
use Rattle.in_place.proofs.StillApart as still
use Rattle.entry_edits.specs.Below.{SetsStandard}
use Rattle.attribute_edits.proofs.ChainLaws.{StandElsewhere, looks-outside}
use Rattle.attribute_edits.proofs.ItemLaws.{StandsFor, file-still}
use Rattle.attribute_edits.proofs.StandardSet.{front-written}
use Rattle.attribute_edits.proofs.StandardVolume as standard
use Rattle.attribute_edits.proofs.StandardWritten.{one-rewritten, standard_key}

module _ (old mid : VolumeView) (f : ℕ) (times : List ℕ) (flags : ℕ) (s : SetsStandard old mid f times flags) where
  abbrev standard-key : Key → Bool
  standard-key = standard_key f

  pub set-rewrites : Rewrites standard-key old mid
  set-rewrites = one-rewritten old mid f 0 s.front (front-written old mid f times flags s)

  pub names-first : names_of (records_of mid) f ≡ names_of (records_of old) f
  names-first = places.names-same standard-key old mid set-rewrites f (λ name. refl)

  pub stands-first : IsSound old → LiesApart old → f ≢ VOLUME → StandElsewhere (names_of (records_of old) f) → IsFile old f
      → StandsFor mid f (names_of (records_of mid) f)
  stands-first sound apart other elsewhere file = record {
    sound = standard.sound-set old mid f times flags s sound (looks-outside old apart.owners apart.some) other;
    apart = still.apart-still standard-key old mid set-rewrites apart;
    file = file-still (record_on old f) (record_on mid f) (room.numbers-same standard-key old mid set-rewrites f) file;
    own = λ name c. c;
    elsewhere = subst StandElsewhere (sym names-first) elsewhere;
  }
