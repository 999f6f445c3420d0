use Rattle.std.proofs.Common.{◌≡◌, ◌-◌, suc, Some, None, refl, sym, subst, ◌∙◌, arith}
use Rattle.mft_table.specs.Mft.{view}
use Rattle.tree_read.proofs.GivesLaws.{at_once, both, handed-on, tells}
use Rattle.tree_read.proofs.KindLaws.{IsUp, up-begins, up-ends, up-goes, up-known}
use Rattle.tree_read.proofs.below.leads_to_system.Goals as goal
use Rattle.volume_def.specs.Readable.{IsDirectory}

pub steps-init : goal.steps-init
steps-init g c = at_once refl (λ told. (
  c.requires.above told,
  c.requires.directory told,
  up-begins (view g.D.Disk c.args.mft.now) (c.requires.volume told).sound c.args.dir c.args.most (c.requires.directory told)
      (c.requires.most told),
))

pub returns-in-None : goal.returns-in-None
returns-in-None g c = record {
  found = tells (both c.steps.invariant c.in_ok-parent.ensures.found) refl (λ told is.
      let v = view g.D.Disk c.args.mft.now in
      let left : c.steps.left ≡ suc (c.steps.left - 1) = omega (arith, c.steps-test.true) in
      let up = up-goes v (c.requires.volume told).sound c.args.dir c.steps.at (c.steps.left - 1) c.in_ok-parent.field-0
      c.if-at-ge-FIRST_ORDINARY.true (subst (IsUp v c.args.dir c.steps.at) left is.0.2) is.1.1 in
      let none : None ≡ Some up.parent = sym c.in-None.is ∙ up.is in
      absurd (cc));
}

pub returns-in_err-parent : goal.returns-in_err-parent
returns-in_err-parent g c = record {
  found = rw (handed-on c.from_residual.result c.in_err-parent.field-0.0 c.from_residual.ensures.1)
      (tells (both c.steps.invariant c.in_err-parent.ensures.found) refl (λ told is. is.1));
}

pub steps-preserved : goal.steps-preserved
steps-preserved g c =
    tells (both c.steps.invariant c.in_ok-parent.ensures.found) refl (λ told is.
    let v = view g.D.Disk c.args.mft.now in
    let left : c.steps.left ≡ suc (c.steps.left - 1) = omega (arith, c.steps-test.true) in
    let up = up-goes v (c.requires.volume told).sound c.args.dir c.steps.at (c.steps.left - 1) c.in_ok-parent.field-0
    c.if-at-ge-FIRST_ORDINARY.true (subst (IsUp v c.args.dir c.steps.at) left is.0.2) is.1.1 in
    let some : Some up.parent ≡ Some c.in-Some-2.parent = sym up.is ∙ c.in-Some-2.is in
    let same : up.parent ≡ c.in-Some-2.parent = cc in (
      is.1.0,
      subst (IsDirectory v) same up.directory,
      subst (λ p. IsUp v c.args.dir p (c.steps.left - 1)) same up.up,
    ))

pub returns-in-Some : goal.returns-in-Some
returns-in-Some g c = record {
  found = tells c.steps.invariant refl (λ told is. (
    is.0,
    up-known (view g.D.Disk c.args.mft.now) (c.requires.volume told).sound c.args.dir c.steps.at c.steps.left c.in-Some.known is.2 is.1
        (is.0.leads c.steps.at c.in-Some.known (sym c.in-Some.ensures)),
  ));
}

pub returns-then-at-lt-FIRST_ORDINARY : goal.returns-then-at-lt-FIRST_ORDINARY
returns-then-at-lt-FIRST_ORDINARY g c = record {
  found = tells c.steps.invariant refl (λ told is. (
    is.0,
    up-ends (view g.D.Disk c.args.mft.now) (c.requires.volume told).sound c.args.dir c.steps.at c.steps.left is.2
        c.if-at-lt-FIRST_ORDINARY.true,
  ));
}
