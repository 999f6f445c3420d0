use Rattle.std.proofs.Common.{◌++◌, ◌∷◌, [], length-append, sym, ◌∙◌, arith}
use Rattle.script_lines.proofs.KeptLaws.{kept-full, kept-all}
use Rattle.script_lines.proofs.reader.keep.Goals as goal

pub returns-then-len-ge-KEPT-clause-kept : goal.returns-then-len-ge-KEPT-clause-kept
returns-then-len-ge-KEPT-clause-kept c = sym (kept-full c.args.line.now.items c.args.byte (omega (
  arith,
  c.if-len-ge-KEPT.true,
  c.len.ensures,
  c.requires,
)))

pub returns-clause-kept : goal.returns-clause-kept
returns-clause-kept c =
    let l = length-append c.args.line.now.items (c.args.byte ∷ []) in
    c.in_ok-push.ensures.items ∙ sym (kept-all (c.args.line.now.items ++ c.args.byte ∷ []) (omega (
      arith,
      l,
      c.if-len-ge-KEPT.false,
      c.len.ensures,
    )))
