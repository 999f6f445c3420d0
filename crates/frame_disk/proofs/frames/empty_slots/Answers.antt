use Rattle.std.proofs.Common.{◌≡◌, ◌+◌, ◌∙◌, None, Some, arith, ap, inl, inr, length, slice_get, subst, sym}
use Rattle.std.proofs.lemmas.List.{length_push}
use Rattle.frame_disk.specs.Frames.{IsIn}
use Rattle.frame_disk.proofs.SlotLaws.{get-push}
use Rattle.frame_disk.proofs.frames.empty_slots.Goals as goal

pub loop-k-init : goal.loop-k-init
loop-k-init c =
    let none = c.in_ok-held.ensures.items in
    ((λ s p is. let e = subst (λ xs. IsIn xs s p) none is in cc), ap length none)

pub loop-k-preserved : goal.loop-k-preserved
loop-k-preserved c =
    let held = c.loop-k.held.items in
    let more = c.in_ok-push.ensures.items in (
      (λ s p is.
          elim (get-push held s None (Some p) (subst (λ xs. IsIn xs s p) more is)) [
            | inl before ↦ c.loop-k.invariant.0 s p before
            | inr e ↦ cc
          ]),
      ap length more ∙ length_push held None ∙ ap (λ n. n + 1) c.loop-k.invariant.1,
    )

pub returns-clause-empty : goal.returns-clause-empty
returns-clause-empty c = c.loop-k.invariant.0

pub returns-clause-slots : goal.returns-clause-slots
returns-clause-slots c = omega (arith, c.loop-k.invariant.1, c.loop-k.held.ok)
