use Rattle.std.proofs.Common.{inl, refl, sym, ◌∙◌}
use Rattle.tree_edit.proofs.SecureFound.{found-securable, not-editable, place-secured}
use Rattle.tree_edit.proofs.securable.securable_in.Goals as goal

pub returns-in-Some-clause-decides : goal.returns-in-Some-clause-decides
returns-in-Some-clause-decides c = λ view mounts sound n.
    let e = sym c.in-Ok-true.ensures ∙ c.in-Ok-true.field-0-test in
    let standard = c.read_standard-standard in (
      place-secured view c.args.mounted.now c.args.held.now mounts sound n c.in-Some.part c.in-Some.ensures e,
      c.number.ensures,
      λ bytes volume.
          found-securable view c.args.mounted.now c.args.held.now mounts sound n c.in-Some.part c.in-Some.ensures bytes volume e
          (record { number = c.number.result; part = c.in-Some.part; times = standard.result.times; flags = standard.result.flags })
          c.number.ensures refl standard.ensures.times standard.ensures.flags,
    )

pub returns-in-Ok-false-clause-decides : goal.returns-in-Ok-false-clause-decides
returns-in-Ok-false-clause-decides c = λ view mounts sound n.
    inl (not-editable view c.args.mounted.now c.args.held.now mounts sound n (sym c.in-Ok-false.ensures ∙ c.in-Ok-false.field-0-test), refl)
