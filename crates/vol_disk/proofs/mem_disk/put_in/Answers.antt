use Rattle.std.proofs.Common.{ap, ◌∙◌}
use Rattle.std.proofs.lemmas.List.{with_items_is}
use Rattle.vol_disk.specs.Contents.{with_sector}
use Rattle.vol_disk.proofs.mem_disk.put_in.Goals as goal

pub returns : goal.returns
returns c =
    with_items_is c.args.latest.now c.put_sector.new.all (c.put_sector.auto.all ∙ c.deref_mut.ensures.len)
    ∙ c.put_sector.ensures
    ∙ ap (λ all. with_sector all c.args.sector c.args.from.now) c.deref_mut.ensures.value
