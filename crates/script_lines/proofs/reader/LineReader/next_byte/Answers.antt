use Rattle.script_lines.proofs.ByteLaws.{used_up, handed_next}
use Rattle.script_lines.proofs.reader.LineReader.next_byte.Goals as goal

pub returns-clause-byte : goal.returns-clause-byte
returns-clause-byte g c text h =
    let left = used_up c.args.self.now.buffer c.args.self.now.at c.args.self.now.end (g.S.Source.left c.args.source.now) text
    c.if-self.false h in
    rw (← c.in-Ok.ensures.consumed) (handed_next c.hand-2.result c.fill.new.self c.hand-2.new.self (g.S.Source.left c.fill.new.source) text
    (c.in-Ok.ensures.coming text left) c.hand-2.ensures.handed c.hand-2.ensures.consumes)
