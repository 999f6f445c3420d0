use Rattle.std.proofs.Common.{◌≡◌, true, false, subst}
use Rattle.std.specs.Prelude.{IsTrue}
use Rattle.check_dirs.proofs.OrderLaws.{ascends_from_rise, keys_from_valid, rise_from_ascends, valid_from_keys}
use Rattle.check_dirs.proofs.order.are_ordered.Goals as goal

no_true : IsTrue false → ⊥
no_true e = let f : false ≡ true = e in cc

pub returns-then-not-are_valid : goal.returns-then-not-are_valid
returns-then-not-are_valid g c = (
  (λ e. absurd (no_true e)),
  λ ordered. subst IsTrue c.if-not-are_valid.true
      (c.are_valid.ensures.1 (valid_from_keys (g.C.Collation.valid c.args.order.now) c.args.entries.now ordered.keys)),
)

pub returns : goal.returns
returns g c =
    let order = g.C.Collation.order c.args.order.now in
    let laws = g.met.C.Collation.is_order c.args.order.now in
    let valid = g.C.Collation.valid c.args.order.now in
    let entries = c.args.entries.now in (
      (λ yes. record {
        keys = keys_from_valid valid entries (c.are_valid.ensures.0 c.if-not-are_valid.false);
        ascending = ascends_from_rise order laws entries (c.rise.ensures.0 yes);
      }),
      λ ordered. c.rise.ensures.1 (rise_from_ascends order laws entries ordered.ascending),
    )
