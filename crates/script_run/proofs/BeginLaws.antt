-- A run that ended before its first line.
use Rattle.std.proofs.Common.{◌≡◌, ◌≤◌, ℕ, zero, arith, List, [], ◌++◌, Option, Some, None, refl, sym, ap, ◌∙◌, inl, inr, append-nil}
use Rattle.vol_disk.specs.Contents.{map_told}
use Rattle.script_lines.specs.Reading.{AreFirstLines}
use Rattle.script_lines.specs.Text.{commands, lines_of}
use Rattle.session_def.specs.State.{Begins, State}
use Rattle.script_run.specs.declared.end.ScriptEnd.TheVariants as end
use Rattle.script_run.specs.Drawn.{AreFirstDrawn}
use Rattle.script_run.specs.Ran.{AreLines, IsPrinted, Ran}
use Rattle.script_run.specs.Says.{Origin, of_script, of_seed}
use Rattle.script_run.specs.World.{World}
use Rattle.script_run.proofs.TurnLaws.{whole_as}

-- nothing of what a run leaves changed
pub record IsUntouched (old new : World) : Type 0 where
  pub now : new.now ≡ old.now
  pub settled : new.settled ≡ old.settled
  pub written : new.written ≡ old.written
  pub got : new.got ≡ old.got

no_text_lines : (text : List ℕ) → AreFirstLines text []
no_text_lines text = record { more = commands (lines_of text); all = refl }

no_draws : (seed count : ℕ) → AreFirstDrawn seed count []
no_draws seed count = record { k = 0; within = omega arith; are = refl }

no_lines_memory : (from : Origin) (left : Option (List ℕ)) → AreLines from end.Memory [] left
no_lines_memory (of_script text) left = no_text_lines text
no_lines_memory (of_seed seed count) left = no_draws seed count

no_lines_device : (from : Origin) (left : Option (List ℕ)) → AreLines from end.Device [] left
no_lines_device (of_script text) left = no_text_lines text
no_lines_device (of_seed seed count) left = no_draws seed count

no_text : (got : Option (List ℕ)) → map_told (λ all. all ++ []) got ≡ got
no_text None = refl
no_text (Some all) = ap (λ (xs : List ℕ). Some xs) (append-nil all)

no_images : (past : Option (List (List ℕ))) → map_told (λ images. (images ++ []) ++ []) past ≡ past
no_images None = refl
no_images (Some images) = ap (λ (xs : List (List ℕ)). Some xs) (append-nil (images ++ []) ∙ append-nil images)

unprinted_memory : (from : Origin) (first : State) (old new : World) → IsUntouched old new → IsPrinted from end.Memory first [] old new
unprinted_memory (of_script text) first old new same = same.got ∙ sym (no_text old.got)
unprinted_memory (of_seed seed count) first old new same = same.got

unprinted_device : (from : Origin) (first : State) (old new : World) → IsUntouched old new → new.sink_faults ≡ old.sink_faults
    → IsPrinted from end.Device first [] old new
unprinted_device (of_script text) first old new same quiet = inl (quiet, same.got ∙ sym (no_text old.got))
unprinted_device (of_seed seed count) first old new same quiet = inl (quiet, inl same.got)

pub ran_memory : (first : State) (from : Origin) (old new : World) → Begins first → old.written ≡ first.written → old.now ≡ Some first.image
    → IsUntouched old new
    → Ran first.image from end.Memory old new
ran_memory first from old new begins count now same = record {
  first = first;
  on_image = refl;
  from_count = sym count;
  begins = begins;
  turns = [];
  session = tt;
  lines = no_lines_memory from new.left;
  printed = unprinted_memory from first old new same;
  finals = [];
  settled = same.settled ∙ sym (no_images old.settled);
  leaves = record {
    closes = record { bytes = first.image; are = same.now ∙ now; final = (refl, refl); accepted = whole_as first begins };
    count = same.written ∙ count;
  };
}

pub ran_device : (first : State) (from : Origin) (old new : World) → Begins first → old.written ≡ first.written → old.now ≡ Some first.image
    → IsUntouched old new → new.sink_faults ≡ old.sink_faults → Ran first.image from end.Device old new
ran_device first from old new begins count now same quiet = record {
  first = first;
  on_image = refl;
  from_count = sym count;
  begins = begins;
  turns = [];
  session = tt;
  lines = no_lines_device from new.left;
  printed = unprinted_device from first old new same quiet;
  finals = [];
  settled = same.settled ∙ sym (no_images old.settled);
  leaves = record {
    none = refl;
    harmed = record { bytes = first.image; are = same.now ∙ now; state = inr (inl (whole_as first begins)) };
    came = inl (record { none = refl; same = same.now ∙ now });
  };
}
