use Rattle.std.proofs.Common.{◌≡◌, false, Result, Ok, Err, refl, sym, ◌∙◌, arith}
use Rattle.std.specs.Prelude.{OnOk, is_err}
use Rattle.script_lines.proofs.LineLaws.{none_yet, part_more, took_newline, took_last, took_end, took_none, took_much, took_memory}
use Rattle.script_lines.proofs.reader.LineReader.next_line.Goals as goal

on_ok : {A E P : Type 0} (r : Result A E) → is_err r ≡ false → OnOk r P → P
on_ok (Ok a) e h = h
on_ok (Err why) e h = cc e

pub returns-in-Is-eq10-clause-next : goal.returns-in-Is-eq10-clause-next
returns-in-Is-eq10-clause-next g c still text h =
    let p = c.bytes.invariant.part text h in
    took_newline text c.bytes.line.items _ c.in-Is-eq10.field-0 _ _ _ c.args.self.now c.next_byte.new.self p
    (c.in-Is-eq10.ensures.byte p.rest p.coming) c.in-Is-eq10.field-0-test (c.next_byte.ensures.ended ∙ c.bytes.invariant.open_still)

pub returns-then-is_err-clause-next : goal.returns-then-is_err-clause-next
returns-then-is_err-clause-next g c still text h =
    let p = c.bytes.invariant.part text h in
    took_memory text c.bytes.line.items _ _ c.in-Is.byte _ _ _ c.args.self.now c.next_byte.new.self p
    (c.in-Is.ensures.byte p.rest p.coming)

pub returns-in-Failed-clause-next : goal.returns-in-Failed-clause-next
returns-in-Failed-clause-next g c still text h =
    let p = c.bytes.invariant.part text h in
    took_none text c.bytes.line.items _ _ _ _ c.args.self.now c.next_byte.new.self p (c.in-Failed.ensures.byte p.rest p.coming)

pub returns-in-TooMuch-clause-next : goal.returns-in-TooMuch-clause-next
returns-in-TooMuch-clause-next g c still text h =
    let p = c.bytes.invariant.part text h in
    took_much text c.bytes.line.items _ _ _ _ c.args.self.now c.next_byte.new.self p (c.in-TooMuch.ensures.byte p.rest p.coming)

pub bytes-preserved : goal.bytes-preserved
bytes-preserved g c = record {
  open_before = c.bytes.invariant.open_before;
  open_still = c.next_byte.ensures.ended ∙ c.bytes.invariant.open_still;
  quiet = c.in-Is.ensures.faults ∙ c.bytes.invariant.quiet;
  later = omega (arith, c.keep.ensures.grew, c.in-Is.ensures.consumes, c.bytes.invariant.later);
  short = c.keep.ensures.short;
  part = λ text h. let p = c.bytes.invariant.part text h in
      part_more text c.bytes.line.items c.keep.new.line.items _ _ _ c.in-Is.byte _ _ _ p (c.in-Is.ensures.byte p.rest p.coming)
      c.in-Is.byte-test.1 (on_ok c.keep.result (sym c.is_err.ensures.value ∙ c.if-is_err.false) c.keep.ensures.kept);
}

pub returns-in-End-clause-next : goal.returns-in-End-clause-next
returns-in-End-clause-next g c still text h =
    let p = c.bytes.invariant.part text h in
    took_end text c.bytes.line.items _ _ _ _ c.args.self.now c.next_byte.new.self p (c.in-End.ensures.byte p.rest p.coming)
    (sym c.deref.ensures.value ∙ c.is_empty.ensures.none c.if-is_empty.true)

pub returns-in-End-2-clause-next : goal.returns-in-End-2-clause-next
returns-in-End-2-clause-next g c still text h =
    let p = c.bytes.invariant.part text h in
    took_last text c.bytes.line.items _ _ _ _ c.args.self.now _ p (c.in-End.ensures.byte p.rest p.coming)
    (rw (← c.deref.ensures.value) (c.is_empty.ensures.some c.if-is_empty.false)) refl

pub bytes-init : goal.bytes-init
bytes-init g c = record {
  open_before = c.if-self.false;
  open_still = c.if-self.false;
  quiet = refl;
  later = omega (arith, c.clear.ensures);
  short = omega (arith, c.clear.ensures);
  part = λ text h. none_yet text _ _ _ (c.clear.ensures.items) h;
}
