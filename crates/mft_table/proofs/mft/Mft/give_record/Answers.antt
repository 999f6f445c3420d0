use Rattle.std.proofs.Common.{◌≡◌, Bool, Some, false, ap, subst, sym, ◌∙◌, arith}
use Rattle.std.specs.Prelude.{slice_get}
use Rattle.mft_table.proofs.ChangeLaws.{record_given-free}
use Rattle.mft_table.proofs.mft.Mft.give_record.Goals as goal

pub returns-else-is_set-clause-given : goal.returns-else-is_set-clause-given
returns-else-is_set-clause-given g c =
    let records = c.args.self.now.mounted.records in
    let clear : slice_get records c.args.number ≡ Some false = c.is_set.ensures ∙ ap (λ (b : Bool). Some b) c.if-is_set.false in
    sym (record_given-free c.args.self.now.mounted c.args.number
    (λ k low high. subst (λ n. slice_get records n ≡ Some false) (let e : c.args.number ≡ k = omega arith in e) clear))
