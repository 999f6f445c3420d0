use Rattle.std.proofs.Common.{◌≡◌, ◌<◌, ◌≤◌, ◌∙◌, ℕ, None, arith, length, refl, subst, sym, ap, inl, inr}
use Rattle.std.proofs.lemmas.Bool.{cases_lt}
use Rattle.std.specs.List.{slice_get}
use Rattle.frame_disk.specs.Frames.{IsIn}
use Rattle.frame_disk.proofs.SlotLaws.{get-set-at, get-set-other}
use Rattle.frame_disk.proofs.frames.FrameDisk.empty_slots.Goals as goal

pub loop-k-init : goal.loop-k-init
loop-k-init g c = (λ s p h lt is. absurd (omega arith), refl, refl)

pub loop-k-preserved : goal.loop-k-preserved
loop-k-preserved g c =
    let held = c.loop-k.self.held.items in
    let k = c.loop-k.k in (
      λ s p h lt is.
          let stands = sym (ap (λ xs. slice_get xs s) c.empty.ensures.held) ∙ is in
          elim (cases_lt s k) [
            | inl below ↦ c.loop-k.invariant.0 s p h below (sym (get-set-other held k s None (λ same. absurd (omega arith))) ∙ stands)
            | inr ge ↦
                let within : k < length held = omega (arith, c.requires, c.loop-k.self.slots, c.loop-k.self.held.ok) in
                let empty = get-set-at held k s None (omega arith) within in
                cc
          ],
      c.empty.ensures.room ∙ c.loop-k.invariant.1,
      c.empty.ensures.disk ∙ c.loop-k.invariant.2,
    )

pub returns-clause-emptied : goal.returns-clause-emptied
returns-clause-emptied g c s p h lt is = c.loop-k.invariant.0 s p h (omega arith) is

pub returns-clause-room : goal.returns-clause-room
returns-clause-room g c = c.loop-k.invariant.1

pub returns-clause-disk : goal.returns-clause-disk
returns-clause-disk g c = c.loop-k.invariant.2
