use Rattle.std.proofs.Common.{ap, sym, ◌∙◌}
use Rattle.tree_model.specs.Paths.{lookup, reached}
use Rattle.plain_tree.specs.Plain.{lent_place, tree_of}
use Rattle.tree_model.proofs.ResolveLaws.{resolve-goes, resolve-root, resolve-stops}
use Rattle.plain_tree.proofs.PlainLaws.{lent-error}
use Rattle.plain_tree.proofs.tree.PlainTree.resolve.Goals as goal

pub returns-in_default : goal.returns-in_default
returns-in_default c =
    sym (resolve-root (tree_of c.args.self.now) c.args.path.now
    (let e = c.as_slice.ensures in let n = c.in_default.ensures.cases in rw (sym e) n))

pub returns-in_err-dir : goal.returns-in_err-dir
returns-in_err-dir c =
    lent-error c.from_residual.result c.in_err-dir.field-0.0 c.from_residual.ensures.1
    ∙ sym (resolve-stops (tree_of c.args.self.now) c.args.path.now c.in-Some.first.now c.in-Some.rest.now c.in_err-dir.field-0.0
    (sym c.as_slice.ensures ∙ c.in-Some.ensures.cases.0)
    (sym c.last_place.ensures ∙ ap lent_place c.in_err-dir.was))

pub returns : goal.returns
returns c =
    c.reached.ensures
    ∙ ap (reached (tree_of c.args.self.now))
    (c.lookup.ensures ∙ ap (lookup (tree_of c.args.self.now) c.in_ok-dir.dir) c.as_slice-2.ensures)
    ∙ sym (resolve-goes (tree_of c.args.self.now) c.args.path.now c.in-Some.first.now c.in-Some.rest.now
    (record { directory = c.in_ok-dir.dir; name = c.in_ok-dir.name.now })
    (sym c.as_slice.ensures ∙ c.in-Some.ensures.cases.0) (sym c.in_ok-dir.ensures))
