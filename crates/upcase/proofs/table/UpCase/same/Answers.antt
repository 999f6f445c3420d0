use Rattle.std.proofs.Common.{◌↔◌, ◌≡◌, IsTrue, map, subst, sym, ap, ◌∙◌}
use Rattle.std.specs.Ordering.{is_eq}
use Rattle.ntfs_def.specs.KeyOrder.{fold_of}
use Rattle.ntfs_def.proofs.KeyOrderLaws.{numbers_is_eq}
use Rattle.upcase.proofs.table.UpCase.same.Goals as goal

pub returns : goal.returns
returns c =
    let fold = fold_of c.args.self.now in
    let xs = map fold c.args.a.now in
    let ys = map fold c.args.b.now in
    subst (λ answer. IsTrue answer ↔ (xs ≡ ys)) (sym (c.is_eq.ensures ∙ ap is_eq c.compare_folded.ensures)) (numbers_is_eq xs ys)
