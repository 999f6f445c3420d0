use Rattle.std.proofs.Common.{◌≡◌, refl, subst}
use Rattle.shell.specs.declared.words.Draws.{Draws}
use Rattle.shell.specs.Make.{MakeEnds}
use Rattle.shell.specs.World.{world}
use Rattle.shell.specs.declared.ending.Ending.TheVariants as ending
use Rattle.shell.proofs.Formats.{ends-same}
use Rattle.shell.proofs.shell.run_shell.Goals as goal

pub returns-in-Ok-Format-clause-format : goal.returns-in-Ok-Format-clause-format
returns-in-Ok-Format-clause-format g c options are =
    let found = c.in-Ok-Format.ensures.format options are in
    let whole = c.in-Ok-Format.field-0-is in
    let part = c.in-Ok-Format.options-is in
    let same : c.in-Ok-Format.options ≡ options = cc in
    (c.make_volume.result, c.status-in-Ok-Format.ensures.status, ends-same _ _ _ _ _ same c.make_volume.ensures)

pub returns-in-Err-clause-format : goal.returns-in-Err-clause-format
returns-in-Err-clause-format g c options are = (
  ending.Memory,
  refl,
  record {
    causes = record { disk = refl; source = refl; sink = refl };
    answered = (
      record {
        contents = record { now = refl; settled = refl; fenced = refl; sectors = refl; written = refl; late = refl };
        fetched = refl;
        faults = refl;
      },
      record { got = refl; sink_faults = refl },
    );
    others = λ sector behind. refl;
    told = refl;
    fenced = refl;
    sectors = refl;
    fetched = refl;
    left = refl;
    source_faults = refl;
  },
)

pub returns-in-Ok-Make-clause-make : goal.returns-in-Ok-Make-clause-make
returns-in-Ok-Make-clause-make g c count seed are =
    let found = c.in-Ok-Make.ensures.make count seed are in
    let whole = c.in-Ok-Make.field-0-is in
    let same : c.in-Ok-Make.draws ≡ record { count = count; seed = seed } = cc in (
      c.make.result,
      c.status-in-Ok-Make.ensures.status,
      subst (λ (d : Draws). MakeEnds d.seed d.count c.make.result
          (world g.D.Disk g.S.Source g.K.Sink c.args.disk.now c.args.script.now c.args.out.now)
          (world g.D.Disk g.S.Source g.K.Sink c.make.new.disk c.args.script.now c.make.new.out)) same c.make.ensures.ends,
    )

pub returns-in-Ok-Make-clause-format : goal.returns-in-Ok-Make-clause-format
returns-in-Ok-Make-clause-format g c options are =
    let found = c.in-Ok-Make.ensures.format options are in
    let whole = c.in-Ok-Make.field-0-is in
    cc
