use Rattle.std.proofs.Common.{arith}
use Rattle.record_notes.proofs.facts.Facts.new.Goals as goal

pub returns-clause-none : goal.returns-clause-none
returns-clause-none c = λ records. record {
  attributes = λ k h. absurd (omega arith);
  right = λ all. record {
    unlisted = c.new-4.ensures.none records;
    owners = c.in_ok-owners.ensures.none records;
    used = c.in_ok-used.ensures.none records;
    heads = c.new-5.ensures records;
    names = c.new-6.ensures records;
    spread = c.new-7.ensures records;
    streams = c.in_ok-streams.ensures.none records;
    long = c.new-8.ensures records;
  };
}
