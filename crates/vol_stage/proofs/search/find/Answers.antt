use Rattle.std.proofs.Common.{◌≤◌, [], length, ap, arith, ◌∙◌}
use Rattle.vol_disk.specs.declared.mem_disk.Write.{Write}
use Rattle.vol_stage.proofs.WriteLaws.{Contains-places_of-not}
use Rattle.vol_stage.proofs.search.find.Goals.{in_default-via-in-Some+else-write-sector, in_default-via-in_default}
use Rattle.vol_stage.proofs.search.find.Goals as goal

pub returns-in_default-clause-none : goal.returns-in_default-clause-none
returns-in_default-clause-none c = elim c.in_default.branch [
  | in_default-via-in-Some+else-write-sector w ↦
      Contains-places_of-not c.args.writes.now c.place_of.result c.args.sector w.in-Some.write.now c.requires c.place_of.ensures
      (λ below same. w.if-write-sector.false (ap (λ (write : Write). write.sector) w.in-Some.ensures.lookup.1 ∙ same))
  | in_default-via-in_default w ↦
      let past : length c.args.writes.now ≤ c.place_of.result = w.in_default.ensures.lookup.3 in
      let none : Write = record { sector = 0; bytes = [] } in
      Contains-places_of-not c.args.writes.now c.place_of.result c.args.sector none c.requires c.place_of.ensures
      (λ below same. omega arith)
]
