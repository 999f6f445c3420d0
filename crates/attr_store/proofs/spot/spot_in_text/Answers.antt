use Rattle.std.proofs.Common.{◌-◌, [], sym, ap, ◌∙◌}
use Rattle.std.specs.Prelude.{unwrap_or}
use Rattle.ntfs_def.specs.Runs.{spot_of}
use Rattle.ntfs_def.proofs.SpotLaws.{spot_of-none}
use Rattle.attr_store.proofs.spot.spot_in_text.Goals as goal

pub returns-in-None : goal.returns-in-None
returns-in-None c =
    let k = c.args.vcn - c.args.first in
    sym (ap (λ all. spot_of (unwrap_or all []) k) (sym c.in_ok-runs.ensures ∙ c.in-None.is) ∙ spot_of-none k)
