use Rattle.std.proofs.Common.{◌≡◌, None, Some, length, sym, ap, subst, ◌∙◌, arith}
use Rattle.std.specs.Int.{div_ceil}
use Rattle.std.proofs.lemmas.List.{with_items_is}
use Rattle.list_laws.specs.Bits.{flags_in}
use Rattle.volume_def.specs.BitmapClauses.{MeetsRecordBits, record_bits}
use Rattle.volume_def.specs.Sound.Clause.{RecordBits}
use Rattle.volume_def.specs.Values.{value_on}
use Rattle.mft_table.specs.declared.mounted.Mounted.{Mounted}
use Rattle.mft_table.specs.Mft.{view}
use Rattle.list_laws.specs.BitRanges.{IsPieceOf}
use Rattle.list_laws.specs.Least.{IsLeastFailing}
use Rattle.clause_order.specs.Refusals.{IsRefusalIf}
use Rattle.check_records.specs.Views.{HasComeWith}
use Rattle.clause_order.proofs.OrderLaws.{HoldBelow-more, IsFirstBroken-of}
use Rattle.list_laws.proofs.OptionLaws.{ok-always, ok-weaker}
use Rattle.check_records.proofs.records.read_record_bits.Goals as goal

pub returns-in-Some-clause-err : goal.returns-in-Some-clause-err
returns-in-Some-clause-err g c =
    let v = view g.D.Disk c.args.mft.now in
    let count = c.count-records.ensures ∙ ap (λ (m : Mounted). length m.records) c.mounted.ensures in
    let long : length c.deref_mut.result.now ≡ div_ceil v.layout.count 8 =
    omega (arith, count, c.div_ceil.ensures, c.deref_mut.ensures.len, c.in_ok-bytes.ensures.len) in
    subst (IsRefusalIf 10 (HasComeWith v 6 c.args.facts.now) v) (sym c.refusal.ensures) (λ told come.
    let first : IsLeastFailing (MeetsRecordBits v) (Some c.in-Some.number) =
    rw c.in-Some.is at c.in_ok-number.ensures.first told come long in
    IsFirstBroken-of 10 v RecordBits c.in-Some.number (omega arith) come.before (λ _. first))

pub returns-clause-ok : goal.returns-clause-ok
returns-clause-ok g c = ok-always c.load_bits.result (λ told come.
    let v = view g.D.Disk c.args.mft.now in
    let count = c.count-records.ensures ∙ ap (λ (m : Mounted). length m.records) c.mounted.ensures in
    let long : length c.deref_mut.result.now ≡ div_ceil v.layout.count 8 =
    omega (arith, count, c.div_ceil.ensures, c.deref_mut.ensures.len, c.in_ok-bytes.ensures.len) in
    let none : IsLeastFailing (MeetsRecordBits v) None =
    rw c.in_default.is at c.in_ok-number.ensures.first told come long in
    HoldBelow-more v RecordBits come.before none)

pub returns-clause-bits : goal.returns-clause-bits
returns-clause-bits g c = ok-weaker c.load_bits.result (λ bits flags told come.
    let v = view g.D.Disk c.args.mft.now in
    let value = value_on v (record_bits v) in
    let new = c.decide_record_bits.new.into in
    let items = with_items_is c.in_ok-bytes.bytes new (omega (arith, c.decide_record_bits.auto.into, c.deref_mut.ensures.len)) in
    let count = c.count-records.ensures ∙ ap (λ (m : Mounted). length m.records) c.mounted.ensures in
    let long : length c.deref_mut.result.now ≡ div_ceil v.layout.count 8 =
    omega (arith, count, c.div_ceil.ensures, c.deref_mut.ensures.len, c.in_ok-bytes.ensures.len) in
    let read : IsPieceOf value 0 new =
    rw c.in_default.is at c.in_ok-number.ensures.bytes told come long in
    flags value (subst (IsPieceOf value 0) (sym (c.deref.ensures.value ∙ items)) read)
    ∙ ap (flags_in value) count) c.load_bits.ensures.flags
