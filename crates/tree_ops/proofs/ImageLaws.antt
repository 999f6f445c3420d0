-- What a disk tells, and what is staged over it.
use Rattle.std.proofs.Common.{◌≡◌, ◌*◌, ℕ, true, List, length, Option, Some, None, refl, ap}
use Rattle.std.specs.Prelude.{IfSome, is_some}
use Rattle.vol_disk.specs.Contents.{sector_in}
use Rattle.vol_disk.specs.declared.Disk.{Ghosts}
use Rattle.vol_stage.specs.declared.stage.Stage.{Stage}
use Rattle.vol_stage.specs.Staged.{disk_of, image}
use Rattle.vol_stage.proofs.ImageLaws.{length-image_of}
use Rattle.volume_def.specs.Sound.{told_view}
use Rattle.volume_def.specs.View.{view_of}
use Rattle.mft_table.specs.declared.mft.Mft.{Mft}
use Rattle.mft_table.specs.Mft.{mounted_of, stage_of, view}
use Rattle.mft_table.specs.Mounted.{mounted_layout}

-- what is told is some bytes
pub some-bytes : (o : Option (List ℕ)) → is_some o ≡ true → (bytes : List ℕ) × (o ≡ Some bytes)
some-bytes None e = cc
some-bytes (Some bytes) e = (bytes, refl)

-- the image is as long as the disk
pub image-long : {D : Type 0} (g : Ghosts D) (stage : Stage D g)
    → IfSome (g.now (disk_of g stage)) (λ all. length all ≡ 512 * g.size (disk_of g stage))
    → IfSome (image g stage) (λ all. length all ≡ 512 * g.size (disk_of g stage))
image-long g stage sized = length-image_of stage.writes.items (g.size (disk_of g stage)) stage.within stage.whole
    (g.now (disk_of g stage)) sized

-- the volume of an image that is told
pub view-told : {D : Type 0} (g : Ghosts D) (mft : Mft D g) (bytes : List ℕ) → image g (stage_of g mft) ≡ Some bytes
    → view g mft ≡ told_view (sector_in (Some bytes)) (mounted_layout (mounted_of g mft))
view-told g mft bytes e = ap (λ (o : Option (List ℕ)). view_of (is_some o) (sector_in o) (mounted_layout (mounted_of g mft))) e
