-- What a refusal of a volume says of the contents of its disk.
use Rattle.std.proofs.Common.{◌≡◌, ◌/◌, ℕ, List, length, Option, Some, IsTrue, inr, refl, sym, subst}
use Rattle.std.specs.Prelude.{is_some}
use Rattle.vol_disk.specs.Contents.{sector_in}
use Rattle.ntfs_def.specs.Boot.{boot_sector}
use Rattle.volume_def.specs.Sound.{HasLayout}
use Rattle.volume_def.specs.Table.{TableLayout}
use Rattle.volume_def.specs.View.{VolumeView, view_of}
use Rattle.mft_table.specs.declared.mount.MountNo.{MountNo}
use Rattle.mft_table.specs.declared.mount.MountNo.TheVariants as no
use Rattle.clause_order.specs.Refusals.{IsFirstBroken, IsRefusalIf}
use Rattle.mount_check.specs.Refusals.{IsMountNo, IsMountNoIf, IsUnclean}

-- a refusal by one of the clauses, under premises that others give
pub IsMountNoIf-refusal : {A B : Type 0} (view : VolumeView) (refusal : MountNo) → (IsTrue view.told → B → A)
    → IsRefusalIf 15 A view refusal → IsMountNoIf B view refusal
IsMountNoIf-refusal view (no.Refused k n) gives h = λ told b. h told (gives told b)
IsMountNoIf-refusal view no.Dirty gives h = absurd h
IsMountNoIf-refusal view no.Device gives h = tt
IsMountNoIf-refusal view no.Memory gives h = tt

pub IsMountNoIf-weaker : {A B : Type 0} (view : VolumeView) (refusal : MountNo) → (IsTrue view.told → B → A) → IsMountNoIf A view refusal
    → IsMountNoIf B view refusal
IsMountNoIf-weaker view (no.Refused k n) gives h = λ told b. h told (gives told b)
IsMountNoIf-weaker view no.Dirty gives h = λ told b. h told (gives told b)
IsMountNoIf-weaker view no.Device gives h = tt
IsMountNoIf-weaker view no.Memory gives h = tt

-- what failed is no refusal
pub IsMountNoIf-device : (A : Type 0) (view : VolumeView) (refusal : MountNo) → refusal ≡ no.Device → IsMountNoIf A view refusal
IsMountNoIf-device A view refusal is = subst (IsMountNoIf A view) (sym is) tt

-- a table was found on the disk, and its volume is refused
pub IsMountNo-later : (A : Type 0) (told : Option (List ℕ)) (layout : TableLayout) (refusal : MountNo)
    → ((image : List ℕ) → told ≡ Some image → HasLayout (sector_in (Some image)) (boot_sector image) (length image / 512) layout)
    → (IsTrue (is_some told) → A) → IsMountNoIf A (view_of (is_some told) (sector_in told) layout) refusal → IsMountNo told refusal
IsMountNo-later A told layout (no.Refused k n) found before h = λ image is.
    let here = subst (λ t. IsTrue (is_some t) → A → IsFirstBroken 15 (view_of (is_some t) (sector_in t) layout) k n) is h refl
    (subst (λ t. IsTrue (is_some t) → A) is before refl) in
    inr (inr (record { layout = layout; has = found image is; clause = here.clause; number = here.number; first = here.first }))
IsMountNo-later A told layout no.Dirty found before h = λ image is.
    let unclean = subst (λ t. IsTrue (is_some t) → A → IsUnclean (view_of (is_some t) (sector_in t) layout)) is h refl
    (subst (λ t. IsTrue (is_some t) → A) is before refl) in
    record { layout = layout; has = found image is; unclean = unclean }
IsMountNo-later A told layout no.Device found before h = tt
IsMountNo-later A told layout no.Memory found before h = tt
