use Rattle.std.proofs.Common.{false, refl, subst, arith}
use Rattle.std.specs.Prelude.{IsSome}
use Rattle.mft_table.proofs.StreamReads.{MftReads-then}
use Rattle.tree_ops.specs.declared.place.MarkPlace.{MarkPlace}
use Rattle.tree_ops.proofs.FindLaws.{flag-some, found-placed, none-of}
use Rattle.tree_ops.proofs.place.mark_place.Goals as goal

pub returns-in_err-log-in-Ok-Some-clause-reads : goal.returns-in_err-log-in-Ok-Some-clause-reads
returns-in_err-log-in-Ok-Some-clause-reads g c = (
  20680,
  MftReads-then g.D.Disk c.args.mft.now c.find_flag.new.mft c.find_log.new.mft 2 20678 20680 c.find_flag.ensures.reads
      c.find_log.ensures.reads (omega arith),
)

pub returns-in_ok-log-in-Ok-Some-clause-placed : goal.returns-in_ok-log-in-Ok-Some-clause-placed
returns-in_ok-log-in-Ok-Some-clause-placed g c =
    let place : MarkPlace = record { flag = c.in-Ok-Some.flag; marked = false; spans = c.in_ok-log-in-Ok-Some.log } in
    found-placed g.D.Disk c.args.mft.now c.args.mark c.requires.can c.find_flag.new.mft 2 c.find_flag.ensures.reads place
    (none-of c.args.mark c.in_default.not-Some) refl
    (rw c.in-Ok-Some.field-0-is at c.in-Ok-Some.ensures.flag) (rw c.in-Ok-Some.field-0-is at c.in-Ok-Some.ensures.lies)
    c.in_ok-log-in-Ok-Some.ensures.lie c.in_ok-log-in-Ok-Some.ensures.log

pub returns-in_ok-log-in-Ok-Some-clause-reads : goal.returns-in_ok-log-in-Ok-Some-clause-reads
returns-in_ok-log-in-Ok-Some-clause-reads g c = (
  20680,
  MftReads-then g.D.Disk c.args.mft.now c.find_flag.new.mft c.find_log.new.mft 2 20678 20680 c.find_flag.ensures.reads
      c.find_log.ensures.reads (omega arith),
)

pub returns-in-Ok-None-clause-failed : goal.returns-in-Ok-None-clause-failed
returns-in-Ok-None-clause-failed g c told =
    let some = subst IsSome c.in-Ok-None.field-0-is
    (flag-some g.D.Disk c.args.mft.now c.args.mark c.requires.can c.in-Ok-None.field-0 c.in-Ok-None.ensures.some told) in
    cc
