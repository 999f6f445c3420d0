-- A sound volume has all that reading its descriptors asks for.
use Rattle.std.proofs.Common.{ℕ, List, refl, ap, subst, filter}
use Rattle.std.specs.Prelude.{codes}
use Rattle.ntfs_def.specs.Units.{wide}
use Rattle.ntfs_def.specs.declared.kinds.TheConstants.{DATA}
use Rattle.ntfs_def.specs.declared.records.TheConstants.{SECURE}
use Rattle.volume_def.specs.Files.{is_of}
use Rattle.volume_def.specs.Sound.{IsSound}
use Rattle.volume_def.specs.Sound.Clause.{Indexes, References}
use Rattle.volume_def.specs.Readable.{IsFile}
use Rattle.volume_def.specs.Values.{IsPlain}
use Rattle.volume_def.specs.View.{VolumeView}
use Rattle.tree_model.specs.Facts.{HasDescriptor}
use Rattle.volume_def.proofs.FileLaws.{no-parts}
use Rattle.volume_def.proofs.SoundLaws.{readable-sound}
use Rattle.view_index.specs.Security.{IsReadableSecurity}

pub sound-readable : (view : VolumeView) → IsSound view → IsReadableSecurity view
sound-readable view sound = record {
  readable = readable-sound view sound;
  ids = (sound Indexes SECURE).security_ids refl;
  own = λ none kind name. ap (filter (is_of kind name)) (no-parts view SECURE (sound References) none);
}

-- without the file no id has a descriptor
pub no-descriptors : (view : VolumeView) → IsReadableSecurity view → (id : ℕ) → ¬ (IsFile view SECURE) → (bytes : List ℕ)
    → ¬ (HasDescriptor view id bytes)
no-descriptors view readable id none bytes has = subst IsPlain (readable.own none DATA (wide (codes "$SDS"))) has.plain
