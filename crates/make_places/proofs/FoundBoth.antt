-- TWO ARE ASKED FOR, one behind the other: calls that find whether something is so.
use Rattle.std.proofs.Common.{◌≡◌, ◌&&◌, Bool, true, false, Result, Ok, Err, IfErr, IfOk, IsTrue, refl, ap, ◌∙◌}
use Rattle.vol_disk.specs.declared.Disk.{Ghosts}
use Rattle.volume_def.specs.View.{VolumeView}
use Rattle.mft_table.specs.declared.mft.Mft.{Mft}
use Rattle.mft_table.specs.Mft.{view}
use Rattle.tree_edit.specs.Answered.{Finds, IsFound}
use Rattle.tree_edit.specs.Stop.{Stop}
use Rattle.tree_edit.specs.Stop.TheVariants as stop
use Rattle.tree_model.specs.declared.reply.No.TheVariants as no
use Rattle.tree_edit.proofs.GivesLaws.{at_once, both, tells}

module _ {D : Type 0} (g : Ghosts D) (P Q : VolumeView → Bool) where
  -- the first call failed
  pub first-failed : {A B : Type 0} {old new : Mft D g} (Is : VolumeView → A → Type 0) (That : VolumeView → B → Type 0) (why : Stop)
      → Finds g old new Is (Err why) → Finds g old new That (Err why)
  first-failed Is That why call = tells call refl (λ told failed. failed)

  -- it is not so
  pub first-false : {old new : Mft D g} → Finds g old new (λ v b. b ≡ P v) (Ok false) → Finds g old new (λ v b. b ≡ (P v && Q v)) (Ok false)
  first-false {old = old} call = tells call refl (λ told is. ap (λ b. b && Q (view g old)) is)

  -- .. or the second is asked
  pub then-second : {old middle new : Mft D g} (result : Result Bool Stop) → Finds g old middle (λ v b. b ≡ P v) (Ok true)
      → Finds g middle new (λ v b. b ≡ Q v) result → Finds g old new (λ v b. b ≡ (P v && Q v)) result
  then-second {old = old} result first next = tells (both first next) refl (λ told says. by result says.0 says.1)
    where
      by : (r : Result Bool Stop) → true ≡ P (view g old) → IsFound (λ b. b ≡ Q (view g old)) r
          → IsFound (λ b. b ≡ (P (view g old) && Q (view g old))) r
      by (Ok b) one two = two ∙ ap (λ x. x && Q (view g old)) one
      by (Err why) one two = two

-- What is found is told by another word that says the same.
pub found-as : {D : Type 0} {g : Ghosts D} {old new : Mft D g} (P Q : VolumeView → Bool) (result : Result Bool Stop)
    → ((v : VolumeView) → P v ≡ Q v) → Finds g old new (λ v b. b ≡ P v) result → Finds g old new (λ v b. b ≡ Q v) result
found-as {g = g} {old = old} P Q result same call = tells call refl (λ told is. by result is)
  where
    by : (r : Result Bool Stop) → IsFound (λ b. b ≡ P (view g old)) r → IsFound (λ b. b ≡ Q (view g old)) r
    by (Ok b) is = is ∙ same (view g old)
    by (Err why) is = is

-- It was found at once, or memory wants.
pub found-once : {D : Type 0} (g : Ghosts D) {old : Mft D g} (P : VolumeView → Bool) (result : Result Bool Stop) (b : Bool)
    → IfOk result (λ x. x ≡ b) → IfErr result (λ why. why ≡ stop.No no.Memory) → (IsTrue (view g old).told → b ≡ P (view g old))
    → Finds g old old (λ v x. x ≡ P v) result
found-once g P (Ok x) b is memory so = at_once refl (λ told. is ∙ so told)
found-once g P (Err why) b is memory so = rw memory (at_once refl (λ told. refl))
