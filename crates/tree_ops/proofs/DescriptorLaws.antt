-- WHAT `sd` SAYS of an id, by what was read.
use Rattle.std.proofs.Common.{ℕ, List, Option, Some, None, Ok, Err, inl, inr, ap}
use Rattle.volume_def.specs.View.{VolumeView}
use Rattle.tree_model.specs.Facts.{TellsDescriptor}
use Rattle.tree_model.specs.declared.reply.Answer.{Answer}
use Rattle.tree_model.specs.declared.reply.Answer.TheVariants as a
use Rattle.tree_model.specs.declared.reply.No.TheVariants as no
use Rattle.tree_model.proofs.FactsLaws.{one_told}
use Rattle.tree_read.specs.Answered.{IsFailed, Says}
use Rattle.tree_read.specs.declared.stop.Stop.{Stop}
use Rattle.tree_read.specs.declared.stop.Stop.TheVariants as stop
use Rattle.tree_ops.specs.Wanted.{sd_wanted}

module _ (view : VolumeView) (id : ℕ) (found : Option (List ℕ)) (told : TellsDescriptor view id found) where
  -- the descriptor was found ..
  pub shown-says : (bytes : List ℕ) → TellsDescriptor view id (Some bytes) → Says (sd_wanted found) (Ok (a.Sd bytes))
  shown-says bytes is = ap sd_wanted (one_told view id found (Some bytes) told is)

  -- .. or there is none
  pub none-says : TellsDescriptor view id None → Says {A = Answer} (sd_wanted found) (Err (stop.No no.NoSecurity))
  none-says is = inl (ap sd_wanted (one_told view id found None told is))

-- or it was not read.
pub failed-says : (found : Option (List ℕ)) (why : Stop) → IsFailed why → Says {A = Answer} (sd_wanted found) (Err why)
failed-says found stop.Device failed = tt
failed-says found (stop.No refused) memory = inr memory
