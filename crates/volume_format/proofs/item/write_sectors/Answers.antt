use Rattle.std.proofs.Common.{◌≢◌, ◌+◌, inl, inr, below_more, ◌∙◌, arith}
use Rattle.volume_format.proofs.item.write_sectors.Goals as goal

pub loop-k-preserved : goal.loop-k-preserved
loop-k-preserved g c =
    let before = c.loop-k.invariant in
    let write = c.in_ok-write.ensures in
    record {
      here = λ told. below_more _ _
          (λ j lt. let other : c.args.first + j ≢ c.args.first + c.loop-k.k = omega arith in write.others _ other ∙ before.here told j lt)
          (write.here (before.keeps.told ∙ told) ∙ c.fill.ensures);
      others = λ sector outside.
          let other : sector ≢ c.args.first + c.loop-k.k = elim outside [ inl low ↦ omega arith | inr high ↦ omega arith ] in
          write.others sector other ∙ before.others sector outside;
      keeps = record {
        told = write.told ∙ before.keeps.told;
        settled = write.settled ∙ before.keeps.settled;
        fenced = write.fenced ∙ before.keeps.fenced;
        size = write.size ∙ before.keeps.size;
        fetched = write.fetched ∙ before.keeps.fetched;
      };
      faults = write.faults ∙ before.faults;
      on_time = λ none. write.on_time (before.faults ∙ none) ∙ before.on_time none;
    }
