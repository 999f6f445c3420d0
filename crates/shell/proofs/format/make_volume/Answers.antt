use Rattle.std.proofs.Common.{refl, ap, inl, inr, ◌∙◌}
use Rattle.shell.specs.Text.{formatted_text}
use Rattle.shell.proofs.Formats.{ends-made}
use Rattle.shell.proofs.format.make_volume.Goals as goal

pub returns-in-Ok : goal.returns-in-Ok
returns-in-Ok g c =
    let made = c.in-Ok.ensures in
    ends-made _ _ _ _ _
    (record {
      in_range = elim made.in_range [ inl out ↦ absurd (cc) | inr range ↦ range ];
      volume = made.volume;
      settled = made.settled;
    })
    (c.as_slice.ensures.value ∙ c.formatted_text.ensures ∙ ap formatted_text made.clusters)
    c.print.ensures made.faults made.others made.told made.fenced made.size made.fetched refl refl
