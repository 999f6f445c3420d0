use Rattle.std.proofs.Common.{◌≡◌, ◌<◌, false, List, ◌++◌, ℕ, length, get_or, sym, ap, subst, ◌∙◌, arith}
use Rattle.std.specs.Prelude.{IsTrue}
use Rattle.std.proofs.lemmas.List.{get_or_append_left}
use Rattle.ntfs_def.specs.Node.{is_one_entry}
use Rattle.index_node.specs.Edit.{LeadsTo}
use Rattle.index_node.proofs.LayOutLaws.{entry_facts}
use Rattle.index_node.proofs.LeadLaws.{leads_to}
use Rattle.index_tree.specs.Replace.{SwapsAt}
use Rattle.index_tree.proofs.replacement.swap_leading.Goals as goal

in_front : {xs zs : List ℕ} (ys : List ℕ) (k : ℕ) → xs ≡ zs → k < length zs → get_or (xs ++ ys) k 0 ≡ get_or zs k 0
in_front {xs} {zs} ys k e lt = ap (λ l. get_or (l ++ ys) k 0) e ∙ get_or_append_left zs ys 0 k lt

pub lead_to-requires-clause-low : goal.lead_to-requires-clause-low
lead_to-requires-clause-low c = let f = (entry_facts c.args.form false c.args.entry.now c.requires.entry.one).1 in omega (arith, f)

pub swap_entry-requires-clause-one : goal.swap_entry-requires-clause-one
swap_entry-requires-clause-one c =
    let l : LeadsTo c.args.form c.args.entry.now c.args.vcn c.lead_to.new.bytes =
    leads_to c.args.form c.args.entry.now false c.requires.entry (length c.args.entry.now) c.args.vcn (omega arith) _ c.lead_to.new.bytes
    (λ k lt. in_front _ k c.copy_from_slice.ensures.after lt) c.lead_to.ensures in
    subst (λ b. IsTrue (is_one_entry c.args.form b c.lead_to.new.bytes)) (sym c.requires.children) l.short.one

pub returns : goal.returns
returns c =
    let l : LeadsTo c.args.form c.args.entry.now c.args.vcn c.lead_to.new.bytes =
    leads_to c.args.form c.args.entry.now false c.requires.entry (length c.args.entry.now) c.args.vcn (omega arith) _ c.lead_to.new.bytes
    (λ k lt. in_front _ k c.copy_from_slice.ensures.after lt) c.lead_to.ensures in
    subst (λ e. SwapsAt c.args.form c.args.node.now c.swap_entry.new.node c.args.i e) l.says c.swap_entry.ensures
