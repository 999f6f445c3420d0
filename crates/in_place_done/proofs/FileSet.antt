-- TIMES AND FLAGS OF A FILE that were set, on whatever volume: what is asked of it, of a command that names these attributes.
use Rattle.std.proofs.Common.{◌≡◌, ℕ, Bool, true, List, refl, arith}
use Rattle.std.proofs.lemmas.Bool.{false_from_ne_true}
use Rattle.std.specs.Prelude.{bit_and, false}
use Rattle.volume_def.specs.View.{VolumeView}
use Rattle.tree_model.specs.Subjects.{Located}
use Rattle.tree_model.specs.declared.command.Command.{Command}
use Rattle.tree_model.specs.declared.tree.Node.{Node}
use Rattle.tree_model.specs.declared.tree.TheConstants.{SHOWN_FLAGS}
use Rattle.edit_def.specs.Kept.{Key}
use Rattle.session_def.specs.State.{State}
use Rattle.attribute_edits.specs.Below.{SetsAttributes}
use Rattle.in_place.proofs.RewriteLaws.{Rewrites-more}
use Rattle.in_place.specs.Unnamed.{CanSet}
use Rattle.attribute_edits.specs.Attributes as attributes
use Rattle.attribute_edits.proofs.AttributesSet as edits
use Rattle.in_place_owed.specs.SetsInPlace.{is_set_key, punches_stream}
use Rattle.in_place_done.proofs.StagedVolume.{IsSet}

never : {b : Bool} → b ≡ true → b ≡ false → ⊥
never x y = cc

module _ (before : State) (at : Located) (node : Node) (can : CanSet before.view at.file node) (times : List ℕ) (flags : ℕ)
    (shown : bit_and flags SHOWN_FLAGS ≡ flags) (new : VolumeView) (sets : SetsAttributes before.view new at.file times flags) where
  abbrev old : VolumeView
  old = before.view

  pub file-set : (command : Command)
      → ((key : Key) → attributes.is_set_key before.view at.file key ≡ true → is_set_key before.machine.tree command at key ≡ true)
      → (punches_stream command ≡ true → ⊥) → IsSet before command at new
  file-set command named none =
      let marks = edits.marks-kept old new at.file times flags sets can.sound can.apart can.other can.elsewhere shown node can.there in
      record {
        rewrites =
            Rewrites-more (attributes.is_set_key old at.file) (is_set_key before.machine.tree command at) old new
            (λ key free. false_from_ne_true (attributes.is_set_key old at.file key) (λ its. never (named key its) free))
            (edits.rewrites old new at.file times flags sets can.sound can.apart can.other can.elsewhere shown node can.there);
        sound = edits.sound-last old new at.file times flags sets can.sound can.apart can.other can.elsewhere shown node can.there;
        standard =
            edits.standard-kept old new at.file times flags sets can.sound can.apart can.other can.elsewhere shown node can.there;
        marks = record { sparse = marks 0x200 refl refl; point = marks 0x400 refl refl };
        roots = λ dir was now there still. record {
          head =
              edits.heads old new at.file times flags sets can.sound can.apart can.other can.elsewhere shown node can.there dir was now
              there still;
          depth =
              let same = edits.depths old new at.file times flags sets can.sound can.apart can.other can.elsewhere shown node can.there
              dir in
              omega (arith, same);
        };
        entries =
            edits.entries old new at.file times flags sets can.sound can.apart can.other can.elsewhere shown node can.there;
        rests = edits.rests old new at.file times flags sets can.sound can.apart can.other can.elsewhere shown node can.there;
        nowhere = λ punches. absurd (none punches);
      }
