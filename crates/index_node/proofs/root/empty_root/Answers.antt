use Rattle.std.proofs.Common.{◌≡◌, ◌++◌, length, take, drop, ap, sym, subst, ◌∙◌, arith}
use Rattle.std.proofs.Math.Seq.{take-append_seam}
use Rattle.index_node.specs.Edit.{LeadsDown}
use Rattle.index_node.proofs.RootLaws.{down_short}
use Rattle.index_node.proofs.root.empty_root.Goals as goal

pub returns : goal.returns
returns c =
    let new = c.lead_down.new.root in
    let rest = drop (length new) c.resize.new.self.items in
    let s : c.resize.new.self.len ≡ length new = omega (arith, c.in_ok-resize.ensures.len, c.lead_down.ensures.len) in
    subst (λ bytes. LeadsDown c.args.form bytes c.args.vcn)
    (sym (ap (λ n. take n (new ++ rest)) s ∙ take-append_seam new rest))
    (record { short = down_short new c.args.vcn c.lead_down.ensures c.args.form })
