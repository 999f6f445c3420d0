use Rattle.std.proofs.Common.{ℕ, Option, ap, option_map, sym, ◌∙◌}
use Rattle.tree_model.specs.declared.reply.No.TheVariants as no
use Rattle.share_table.proofs.ApartLaws.{apart-is}
use Rattle.tree_read.proofs.data.kept_apart.Goals as goal

pub returns-in-Some : goal.returns-in-Some
returns-in-Some c =
    sym (apart-is c.args.opens.now c.args.file
    ∙ ap (λ (o : Option (ℕ × ℕ)). option_map (λ (at : ℕ × ℕ). no.Shared at.0 at.1) o) (sym c.conflict.ensures ∙ c.in-Some.is))

pub returns-in-None : goal.returns-in-None
returns-in-None c =
    sym (apart-is c.args.opens.now c.args.file
    ∙ ap (λ (o : Option (ℕ × ℕ)). option_map (λ (at : ℕ × ℕ). no.Shared at.0 at.1) o) (sym c.conflict.ensures ∙ c.in-None.is))
