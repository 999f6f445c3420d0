use Rattle.std.proofs.Common.{◌≡◌, ◌-◌, inl, inr, sym, ap, ◌∙◌, arith}
use Rattle.std.proofs.lemmas.Bool.{cases_lt}
use Rattle.ntfs_def.specs.declared.run_text.Spot.TheVariants.{Outside}
use Rattle.ntfs_def.specs.Runs.{spot_of}
use Rattle.volume_def.proofs.RunPieces.{spot_of-behind}
use Rattle.record_notes.specs.Skips.{first_spot, noted_at}
use Rattle.record_notes.proofs.SpotLaws.{first-outside, noted-none, noted-then}
use Rattle.record_notes.proofs.streams.Spots.note_runs.Goals as goal

pub places-init : goal.places-init
places-init c = record {
  begun = omega arith;
  noted = noted-none c.args.self.now.spots.items c.args.runs.now c.args.first c.args.first;
}

pub places-preserved : goal.places-preserved
places-preserved c = record {
  begun = omega (arith, c.note_at-at.ensures.on, c.places.invariant.begun);
  noted = noted-then _ _ _ c.args.runs.now c.args.first c.args.first c.places.at _ c.places.invariant.begun
      (omega (arith, c.note_at-at.ensures.on)) c.places.invariant.noted c.note_at-at.ensures.noted;
}

pub returns-clause-held : goal.returns-clause-held
returns-clause-held c = λ k inside high.
    let noted = c.places.invariant.noted in
    elim (cases_lt k c.places.at) [
      | inl lt ↦ noted.inside k high lt
      | inr ge ↦
          let nowhere : spot_of c.args.runs.now (k - c.args.first) ≡ Outside =
          spot_of-behind c.args.runs.now (k - c.args.first) (omega (arith, c.clusters_of.ensures, inside, ge)) in
          noted.behind k ge
          ∙ sym (ap (first_spot (noted_at c.args.self.now.spots.items k)) nowhere ∙ first-outside (noted_at c.args.self.now.spots.items k))
    ]
