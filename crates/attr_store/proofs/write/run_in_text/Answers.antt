use Rattle.std.proofs.Common.{◌-◌, [], sym, ap, ◌∙◌}
use Rattle.std.specs.Prelude.{unwrap_or}
use Rattle.data_runs.specs.Left.{run_left}
use Rattle.data_runs.proofs.LeftLaws.{run_left-none}
use Rattle.attr_store.proofs.write.run_in_text.Goals as goal

pub returns-in-None : goal.returns-in-None
returns-in-None c =
    let k = c.args.vcn - c.args.first in
    sym (ap (λ all. run_left (unwrap_or all []) k) (sym c.in_ok-runs.ensures ∙ c.in-None.is) ∙ run_left-none k)
