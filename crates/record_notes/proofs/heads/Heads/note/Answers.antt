use Rattle.std.proofs.Common.{Some, sym, subst}
use Rattle.record_notes.specs.Heads.{IsHeadIn}
use Rattle.record_notes.proofs.HeadLaws.{HeadsNote-more}
use Rattle.record_notes.proofs.heads.Heads.note.Goals as goal

pub returns : goal.returns
returns c records n at note =
    HeadsNote-more records n _ _ (Some c.head_of.result) c.in_ok-push.ensures.items
    (subst (λ o. IsHeadIn o (Some c.head_of.result)) (sym at) (c.head_of.ensures n)) note
