-- Calls that answer, behind one another and behind calls that find.
use Rattle.std.proofs.Common.{◌≡◌, Result, Ok, Err, IfErr, IfOk, IsTrue, refl, sym, ap, subst, inl, inr}
use Rattle.vol_disk.specs.declared.Disk.{Ghosts}
use Rattle.volume_def.specs.View.{VolumeView}
use Rattle.mft_table.specs.declared.mft.Mft.{Mft}
use Rattle.mft_table.specs.Mft.{view}
use Rattle.tree_model.specs.Paths.{and_then}
use Rattle.tree_model.specs.declared.reply.No.{No}
use Rattle.tree_model.specs.declared.reply.No.TheVariants as no
use Rattle.tree_read.specs.Answered.{Answered, Finds, IsFailed, IsFound, Says}
use Rattle.tree_read.specs.declared.stop.Stop.{Stop}
use Rattle.tree_read.specs.declared.stop.Stop.TheVariants as stop
use Rattle.tree_read.proofs.GivesLaws.{both, is_fault, tells}

-- what stops a call stops what is wanted behind it
says-stop : {A B : Type 0} (first : Result A No) (then_ : A → Result B No) (why : Stop) → Says first (Err why)
    → Says (and_then first then_) (Err why)
says-stop first then_ stop.Device says = tt
says-stop first then_ (stop.No refused) says = elim says [
  | inl same ↦ inl (ap (λ r. and_then r then_) same)
  | inr memory ↦ inr memory
]

-- A call that fails is no answer.
pub says-failed : {A : Type 0} (wanted : Result A No) (why : Stop) → IsFailed why → Says wanted (Err why)
says-failed wanted stop.Device failed = tt
says-failed wanted (stop.No refused) memory = inr memory

-- what is found answers, where it is what is wanted
says-found : {A : Type 0} (Is : A → Type 0) (wanted : Result A No) (result : Result A Stop) → IsFound Is result
    → ((x : A) → Is x → wanted ≡ Ok x) → Says wanted result
says-found Is wanted (Ok x) is more = more x is
says-found Is wanted (Err why) failed more = says-failed wanted why failed

module _ {D A B : Type 0} (g : Ghosts D) (first : VolumeView → Result A No) (then_ : VolumeView → A → Result B No) where
  -- A call that stops stops what would follow it.
  pub stops : {old new : Mft D g} (why : Stop) → Answered g old new first (Err why)
      → Answered {A = B} g old new (λ volume. and_then (first volume) (then_ volume)) (Err why)
  stops why call = tells call refl (λ told says. says-stop _ _ why says)

  -- A call that went on is followed by the next.
  pub follows : {old middle new : Mft D g} (x : A) (result : Result B Stop) → Answered g old middle first (Ok x)
      → Answered g middle new (λ volume. then_ volume x) result
      → Answered g old new (λ volume. and_then (first volume) (then_ volume)) result
  follows {old = old} x result call next = tells (both call next) refl (λ told says.
      subst (λ r. Says (and_then r (then_ (view g old))) result) (sym says.0) says.1)

-- The same result is wanted by another name.
pub same_wanted : {D A : Type 0} (g : Ghosts D) {old new : Mft D g} (wanted other : VolumeView → Result A No) (result : Result A Stop)
    → ((volume : VolumeView) → wanted volume ≡ other volume) → Answered g old new wanted result → Answered g old new other result
same_wanted g {old = old} wanted other result same call =
    tells call refl (λ told says. subst (λ r. Says r result) (same (view g old)) says)

-- An answer that is made of what was found; memory may want.
pub answers-or : {D A B : Type 0} {g : Ghosts D} {old new : Mft D g} (Is : VolumeView → A → Type 0) (wanted : VolumeView → Result B No)
    (x : A) (result : Result B Stop) → Finds g old new Is (Ok x) → IfErr result (λ why. why ≡ stop.No no.Memory)
    → (IsTrue (view g old).told → Is (view g old) x → IfOk result (λ y. wanted (view g old) ≡ Ok y)) → Answered g old new wanted result
answers-or Is wanted x (Ok y) call memory more = tells call refl more
answers-or {g = g} {old = old} Is wanted x (Err why) call memory more =
    tells call (ap is_fault memory) (λ told is. subst (λ w. Says (wanted (view g old)) (Err w)) (sym memory) (inr refl))

-- A call that finds the answer itself.
pub answers-it : {D A : Type 0} {g : Ghosts D} {old new : Mft D g} (Is : VolumeView → A → Type 0) (wanted : VolumeView → Result A No)
    (result : Result A Stop) → Finds g old new Is result
    → (IsTrue (view g old).told → (x : A) → Is (view g old) x → wanted (view g old) ≡ Ok x) → Answered g old new wanted result
answers-it Is wanted result call more = tells call refl (λ told is. says-found (Is _) _ result is (more told))
