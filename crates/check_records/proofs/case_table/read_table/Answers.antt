use Rattle.std.proofs.Common.{refl, length, arith}
use Rattle.mft_table.specs.Mft.{view}
use Rattle.volume_def.specs.CaseClause.{case_parts}
use Rattle.check_records.proofs.BelowLaws.{places-table}
use Rattle.check_records.proofs.ComeLaws.{case-table-come}
use Rattle.check_records.proofs.case_table.read_table.Goals as goal

pub returns-then-not-is_plain_of-clause-right : goal.returns-then-not-is_plain_of-clause-right
returns-then-not-is_plain_of-clause-right g c told come =
    let v = view g.D.Disk c.args.mft.now in
    let decided = c.is_plain_of.ensures (case_parts v) (case-table-come v c.args.facts.now come) in
    (λ t. absurd (cc), λ is. absurd (let yes = decided.1 is in cc))

pub returns-then-not-is_plain_of-clause-bytes : goal.returns-then-not-is_plain_of-clause-bytes
returns-then-not-is_plain_of-clause-bytes g c told come long t = absurd (cc)

pub returns-clause-right : goal.returns-clause-right
returns-clause-right g c told come =
    let v = view g.D.Disk c.args.mft.now in
    let decided = c.is_plain_of.ensures (case_parts v) (case-table-come v c.args.facts.now come) in
    (λ t. decided.0 c.if-not-is_plain_of.false, λ is. refl)

pub returns-clause-bytes : goal.returns-clause-bytes
returns-clause-bytes g c told come long t =
    let v = view g.D.Disk c.args.mft.now in
    c.in_ok-read_start.ensures.read told (case_parts v) (case-table-come v c.args.facts.now come)
    (places-table v c.args.facts.now (length c.args.into.now) come long (omega arith))
