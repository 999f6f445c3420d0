use Rattle.std.proofs.Common.{rules}
use Rattle.volume_format.specs.NewBoot.{HasGeometry}
use Rattle.volume_format.proofs.BootLaws.{boot_failing-none}
use Rattle.volume_format.proofs.boot.new_boot_sector.Goals as goal

pub returns-clause-clause : goal.returns-clause-clause
returns-clause-clause c disk low =
    let geometry : HasGeometry c.args.options.now c.put_numbers.new.boot = search rules in
    boot_failing-none c.args.options.now c.put_numbers.new.boot disk geometry c.put_numbers.ensures.elsewhere c.requires.range low
