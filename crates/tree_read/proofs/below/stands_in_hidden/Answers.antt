use Rattle.std.proofs.Common.{◌≡◌, ◌-◌, true, false, length, refl, sym, ap, ◌∙◌}
use Rattle.std.proofs.lemmas.List.Folds.{list_any_at}
use Rattle.mft_table.specs.Mft.{view}
use Rattle.mft_table.specs.declared.mounted.Mounted.{Mounted}
use Rattle.tree_model.specs.declared.tree.Link.{Link}
use Rattle.tree_read.specs.Above.{leads_hidden}
use Rattle.tree_read.proofs.GivesLaws.{at_once, both, handed-on, tells, told-kept}
use Rattle.list_laws.proofs.FindLaws.{any-more-none}
use Rattle.tree_read.proofs.below.stands_in_hidden.Goals as goal

pub loop-link-init : goal.loop-link-init
loop-link-init g c = at_once refl (λ told. (c.requires.above told, refl))

pub leads_elsewhere-requires-clause-most : goal.leads_elsewhere-requires-clause-most
leads_elsewhere-requires-clause-most g c =
    told-kept (λ v. c.saturating_sub-most.result ≡ v.layout.count - 1) c.loop-link.invariant.only (λ told.
    c.saturating_sub-most.ensures ∙ ap (λ n. n - 1) (c.count.ensures ∙ ap (λ (m : Mounted). length m.records) c.mounted.ensures))

pub returns-then-branch : goal.returns-then-branch
returns-then-branch g c = record {
  found = tells (both c.loop-link.invariant c.in_ok-leads_elsewhere.ensures.found) refl (λ told is.
      let v = view g.D.Disk c.args.mft.now in
      let p = λ (link : Link). leads_hidden v link.parent in
      let here : p c.link-item.result ≡ true = sym is.1.1 ∙ c.if-branch.true in (
        is.1.0,
        sym (list_any_at p c.args.links.now c.loop-link.link-index c.link-item.result c.loop-link-test.true
            (ap p (sym c.link-item.is) ∙ here)),
      ));
}

pub returns-in_err-leads_elsewhere : goal.returns-in_err-leads_elsewhere
returns-in_err-leads_elsewhere g c = record {
  found = rw (handed-on c.from_residual.result c.in_err-leads_elsewhere.field-0.0 c.from_residual.ensures.1)
      (tells (both c.loop-link.invariant c.in_err-leads_elsewhere.ensures.found) refl (λ told is. is.1));
}

pub loop-link-preserved : goal.loop-link-preserved
loop-link-preserved g c =
    tells (both c.loop-link.invariant c.in_ok-leads_elsewhere.ensures.found) refl (λ told is.
    let v = view g.D.Disk c.args.mft.now in
    let p = λ (link : Link). leads_hidden v link.parent in
    let here : p c.link-item.result ≡ false = sym is.1.1 ∙ c.if-branch.false in (
      is.1.0,
      any-more-none p c.args.links.now c.loop-link.link-index c.link-item.result c.loop-link-test.true is.0.1
          (ap p (sym c.link-item.is) ∙ here),
    ))
