use Rattle.frame_disk.proofs.frames.FrameDisk.new.Goals as goal

pub invariant_of-result-clause-sized : goal.invariant_of-result-clause-sized
invariant_of-result-clause-sized g c = c.in_ok-vec.ensures.len

pub invariant_of-result-clause-agrees : goal.invariant_of-result-clause-agrees
invariant_of-result-clause-agrees g c s p is = absurd (c.in_ok-empty_slots.ensures.empty s p is)
