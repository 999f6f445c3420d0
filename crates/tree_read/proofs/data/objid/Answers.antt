use Rattle.std.proofs.Common.{◌≡◌, [], List, ℕ, Ok, Option, ap, refl, rules, sym, ◌∙◌}
use Rattle.std.specs.Prelude.{unwrap_or}
use Rattle.mft_table.specs.Mft.{view}
use Rattle.tree_model.specs.declared.reply.Answer.TheVariants as a
use Rattle.tree_read.proofs.DataLaws.{objid-held}
use Rattle.tree_read.proofs.GivesLaws.{tells}
use Rattle.tree_read.proofs.data.objid.Goals as goal

pub returns-in-Some : goal.returns-in-Some
returns-in-Some g c =
    let held = c.args.held.now in
    record {
      answered = tells c.in_ok-bytes.ensures.found refl (λ told so. objid-held (view g.D.Disk c.args.mft.now) held (c.requires.held told)
          ∙ ap (λ (o : Option (List ℕ)). Ok (a.ObjectId (unwrap_or o []))) (sym so ∙ c.in-Some.is));
    }

pub returns-in-None : goal.returns-in-None
returns-in-None g c =
    let held = c.args.held.now in
    let none : c.from_vec.result ≡ [] = search rules in
    record {
      answered = tells c.in_ok-bytes.ensures.found refl (λ told so. objid-held (view g.D.Disk c.args.mft.now) held (c.requires.held told)
          ∙ ap (λ (o : Option (List ℕ)). Ok (a.ObjectId (unwrap_or o []))) (sym so ∙ c.in-None.is)
          ∙ ap (λ bytes. Ok (a.ObjectId bytes)) (sym none));
    }
