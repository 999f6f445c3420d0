use Rattle.std.proofs.Common.{◌≡◌, ℕ, suc, ◌+◌, ◌-◌, ◌<◌, ◌≤◌, List, length, take, drop, sym, ap, ◌∙◌, arith, length-drop}
use Rattle.std.proofs.lemmas.List.{nil_from_length}
use Rattle.edge.specs.Noted.{Printed, all_printed, line_ended, printed_of}
use Rattle.edge.proofs.LineLaws.{rest-of}
use Rattle.edge.proofs.PrintedLaws.{printed-line, printed-part}
use Rattle.edge.proofs.noted.ScriptNotes.print.Goals as goal

pub returns-in-None-clause-printed : goal.returns-in-None-clause-printed
returns-in-None-clause-printed c =
    let kept : List ℕ → Printed = λ l. record { line = l; slips = c.loop.self.count } in
    let law = printed-part c.loop.self.printed.items c.loop.self.count c.loop.rest.now c.remember-in-None.ensures.fit
    (λ k lies is. c.in-None.ensures k (omega arith) lies is) in
    ap kept c.remember-in-None.ensures.front ∙ sym law ∙ c.loop.invariant.0

pub loop-preserved : goal.loop-preserved
loop-preserved c =
    let rest = c.loop.rest.now in
    let len = c.in-Some.len in
    let law = printed-line c.loop.self.printed.items c.loop.self.count rest len c.remember.ensures.fit
    c.in-Some.ensures.0.high (λ k low is. c.in-Some.ensures.0.before k (omega arith) low is) c.in-Some.ensures.1 in
    let ended = c.end_printed.ensures.printed ∙ ap (λ l. line_ended l c.loop.self.count) c.remember.ensures.front in
    let lies : len < length rest = c.in-Some.ensures.0.high in
    let shorter : length (take (length rest - (len + 1)) (drop (len + 1) rest)) + (c.loop.counter + 1) ≤ length c.args.bytes.now =
    omega (arith, lies, c.loop.invariant.1, ap length (rest-of rest len), length-drop (suc len) rest) in (
      ap (λ l. all_printed (printed_of c.end_printed.new.self) l) (rest-of rest len)
          ∙ ap (λ p. all_printed p (drop (suc len) rest)) ended ∙ sym law ∙ c.loop.invariant.0,
      shorter,
      λ there. grind (arith, c.loop.invariant.2 there, c.end_printed.ensures.first),
    )

pub returns-clause-printed : goal.returns-clause-printed
unfolding all_printed
returns-clause-printed c =
    let none : length c.loop.rest.now ≡ 0 = omega (arith, c.loop.invariant.1, c.loop-test.false) in
    sym (ap (λ l. all_printed (printed_of c.loop.self) l) (nil_from_length c.loop.rest.now none)) ∙ c.loop.invariant.0
