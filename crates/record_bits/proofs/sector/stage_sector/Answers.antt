use Rattle.std.proofs.Common.{ℕ, List, [], ◌∷◌, subst, inl, inr, arith}
use Rattle.std.specs.Prelude.{Contains}
use Rattle.sparse_io.proofs.StageLaws.{AtMost, AtMost-reserved}
use Rattle.record_bits.proofs.sector.stage_sector.Goals as goal

pub returns-in-Ok-clause-places : goal.returns-in-Ok-clause-places
returns-in-Ok-clause-places g c = record {
  only = λ s there. elim (c.put_sector.ensures.stages.places.only s there) [
    | inl was ↦ inl (subst (λ (xs : List ℕ). Contains xs s) c.reserve.ensures.keeps.places was)
    | inr new ↦ inr new
  ];
}

pub returns-in-Ok-clause-stages : goal.returns-in-Ok-clause-stages
returns-in-Ok-clause-stages g c =
    AtMost-reserved g.D.Disk 1 c.args.mft.now c.reserve.new.self c.put_sector.new.mft c.reserve.ensures.keeps
    (AtMost g.D.Disk (c.args.sector ∷ []) 1 c.reserve.new.self c.put_sector.new.mft (omega arith) c.put_sector.ensures.stages)
