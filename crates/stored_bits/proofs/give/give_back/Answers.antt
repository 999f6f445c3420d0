use Rattle.std.proofs.Common.{sym, subst, inl, inr, ◌∙◌}
use Rattle.std.proofs.lemmas.Bool.{false≢true}
use Rattle.std.specs.Prelude.{Contains, IfSome, IsTrue}
use Rattle.std.proofs.lemmas.Result.{on_ok_weaker}
use Rattle.volume_def.specs.View.{VolumeView}
use Rattle.mft_table.specs.declared.mounted.Mounted.{Mounted}
use Rattle.mft_table.specs.Mft.{mounted_of, view}
use Rattle.file_record.proofs.ReadLaws.{view-kept}
use Rattle.record_edits.specs.Given.{AreOwned, GivesBack}
use Rattle.stored_bits.specs.HeldBits.{HoldsBits, ShowsStored, StagesBits}
use Rattle.stored_bits.specs.declared.held.HeldBits.{HeldBits}
use Rattle.stored_bits.proofs.HoldsFound.{holds-placed}
use Rattle.stored_bits.proofs.give.give_back.Goals as goal

pub give_runs-requires-clause-holds : goal.give_runs-requires-clause-holds
give_runs-requires-clause-holds g c told =
    let old = view g.D.Disk c.args.mft.now in
    let mounted = mounted_of g.D.Disk c.args.mft.now in
    let bits = c.in-Some.bits in
    let only = c.hold_bits.ensures.reads in
    let same = view-kept g.D.Disk c.args.mft.now c.hold_bits.new.mft _ only in
    let holds = subst (λ o. IfSome o (λ (bits : HeldBits). IsTrue old.told
    → HoldsBits old mounted.upcase bits.file bits.found)) c.in-Some.is
    c.in_ok-bits.ensures.holds in
    subst (λ (v : VolumeView). HoldsBits v (mounted_of g.D.Disk c.hold_bits.new.mft).upcase bits.file bits.found) (sym same)
    (subst (λ (m : Mounted). HoldsBits old m.upcase bits.file bits.found) (sym only.mounted)
    (holds (subst (λ (v : VolumeView). IsTrue v.told) same told)))

pub returns-clause-given : goal.returns-clause-given
returns-clause-given g c = on_ok_weaker c.give_runs.result (λ given told placed owned.
    let runs = c.args.runs.now in
    let new = view g.D.Disk c.give_runs.new.mft in
    let mounted = mounted_of g.D.Disk c.give_runs.new.mft in
    let same = view-kept g.D.Disk c.args.mft.now c.hold_bits.new.mft _ c.hold_bits.ensures.reads in
    (subst (λ (v : VolumeView). IsTrue v.told → AreOwned v runs → GivesBack v new runs × ShowsStored new mounted) same given told owned).0)
    c.give_runs.ensures.given

pub returns-clause-stored : goal.returns-clause-stored
returns-clause-stored g c = on_ok_weaker c.give_runs.result (λ given told placed owned.
    let runs = c.args.runs.now in
    let new = view g.D.Disk c.give_runs.new.mft in
    let mounted = mounted_of g.D.Disk c.give_runs.new.mft in
    let same = view-kept g.D.Disk c.args.mft.now c.hold_bits.new.mft _ c.hold_bits.ensures.reads in
    (subst (λ (v : VolumeView). IsTrue v.told → AreOwned v runs → GivesBack v new runs × ShowsStored new mounted) same given told owned).1)
    c.give_runs.ensures.given

pub returns-clause-none : goal.returns-clause-none
returns-clause-none g c = on_ok_weaker c.give_runs.result (λ given told none.
    let old = view g.D.Disk c.args.mft.now in
    let mounted = mounted_of g.D.Disk c.args.mft.now in
    let bits = c.in-Some.bits in
    let holds = subst (λ o. IfSome o (λ (bits : HeldBits). IsTrue old.told
    → HoldsBits old mounted.upcase bits.file bits.found)) c.in-Some.is
    c.in_ok-bits.ensures.holds in
    absurd (false≢true (sym none ∙ holds-placed old mounted.upcase bits.file bits.found (holds told))))
    c.give_runs.ensures.given

pub returns-clause-places : goal.returns-clause-places
returns-clause-places g c told sector there =
    let only = c.hold_bits.ensures.reads in
    let same = view-kept g.D.Disk c.args.mft.now c.hold_bits.new.mft _ only in
    elim (subst (λ (v : VolumeView). IsTrue v.told → StagesBits g.D.Disk v c.hold_bits.new.mft c.give_runs.new.mft) same
    c.give_runs.ensures.places told sector there) [
      | inl before ↦ inl (subst (λ xs. Contains xs sector) only.stage.only_reads.places before)
      | inr its ↦ inr its
    ]
