use Rattle.std.proofs.Common.{◌≡◌, ◌+◌, ◌*◌, ◌<◌, ◌≤◌, ◌%◌, ◌∙◌, ℕ, Some, arith, length, refl, subst, sym, ap, inl, inr}
use Rattle.std.proofs.lemmas.Bool.{cases_lt}
use Rattle.std.specs.List.{slice_get, slice_set}
use Rattle.vol_disk.specs.Contents.{IsTold, sector_in, sector_of}
use Rattle.frame_disk.specs.Frames.{HasFrame, IsIn, slot_of}
use Rattle.frame_disk.specs.Framed.{inner_of}
use Rattle.frame_disk.proofs.SlotLaws.{get-set-at, get-set-other}
use Rattle.frame_disk.proofs.frames.FrameDisk.note_frames.Goals as goal

pub loop-k-init : goal.loop-k-init
loop-k-init g c = (λ lt. absurd (omega arith), refl, refl)

pub note-requires : goal.note-requires
note-requires g c =
    let frame = c.args.frame in
    let k = c.loop-k.k in
    let slot : slot_of frame + k ≡ slot_of (frame + k) = omega (arith, c.requires.slots) in
    let has : HasFrame (g.D.Disk.now (inner_of g.D.Disk c.args.self.now)) c.args.self.now.room.items (slot_of frame + k) (frame + k)
    = c.requires.frames k (omega arith) in
    let now = g.D.Disk.now (inner_of g.D.Disk c.args.self.now) in
    subst (λ disk. HasFrame (g.D.Disk.now disk) c.loop-k.self.room.items (slot_of (frame + k)) (frame + k)) (sym c.loop-k.invariant.2)
    (subst (λ room. HasFrame now room (slot_of (frame + k)) (frame + k)) (sym c.loop-k.invariant.1)
    (subst (λ s. HasFrame now c.args.self.now.room.items s (frame + k)) slot has))

pub loop-k-preserved : goal.loop-k-preserved
loop-k-preserved g c =
    let held = c.loop-k.self.held.items in
    let frame = c.args.frame in
    let k = c.loop-k.k in
    let within : slot_of (frame + k) < length held = omega (arith, c.loop-k.self.slots, c.loop-k.self.held.ok) in
    let stands : slice_get (slice_set held (slot_of (frame + k)) (Some (frame + k))) (slot_of frame) ≡ Some (Some frame)
    = elim (cases_lt 0 k) [
      | inl later ↦
          get-set-other held (slot_of (frame + k)) (slot_of frame) (Some (frame + k)) (λ same. absurd (omega (arith, c.requires.slots)))
          ∙ c.loop-k.invariant.0 later
      | inr first ↦
          get-set-at held (slot_of (frame + k)) (slot_of frame) (Some (frame + k)) (omega arith) within
          ∙ ap (λ p. Some (Some p)) (omega arith)
    ] in (
      λ lt. ap (λ xs. slice_get xs (slot_of frame)) c.note.ensures.held ∙ stands,
      c.note.ensures.room ∙ c.loop-k.invariant.1,
      c.note.ensures.disk ∙ c.loop-k.invariant.2,
    )

pub returns-clause-held : goal.returns-clause-held
returns-clause-held g c = c.loop-k.invariant.0 (omega (arith, c.requires.some))

pub returns-clause-disk : goal.returns-clause-disk
returns-clause-disk g c = c.loop-k.invariant.2
