-- THE REFUSALS OF AN EDIT OF A STREAM THAT IS THERE, of which bytes become zeros, or which goes, in their order, and what is wanted.
use Rattle.std.proofs.Common.{◌≡◌, ℕ, Bool, true, false, [], ◌∷◌, not, Option, Some, None, Result, Ok, Err, refl}
use Rattle.std.specs.Prelude.{if◌then◌else◌, is_some}
use Rattle.std.specs.Option.{option_map_or}
use Rattle.tree_model.specs.Cases.{is_packed}
use Rattle.tree_model.specs.Paths.{and_then}
use Rattle.tree_model.specs.Refusals.{first_some, unless, when}
use Rattle.tree_model.specs.Shown.{plain_bytes}
use Rattle.tree_model.specs.Subjects.{Located}
use Rattle.tree_model.specs.declared.reply.No.{No}
use Rattle.tree_model.specs.declared.reply.No.TheVariants as no
use Rattle.tree_model.specs.declared.tree.Content.{Content}
use Rattle.tree_model.specs.declared.tree.Content.TheVariants.{Packed, Plain}
use Rattle.tree_ops.proofs.Judged.{last_two, with_at}

abbrev pub judge : Option Content → Bool → Bool → Option No → Bool → Option No → Option No
judge content dir wide apart unbuilt room = first_some (
    when dir no.IsDir ∷
    when (not (is_some content)) no.NoStream ∷
    when (option_map_or is_packed content false) no.Packed ∷
    when wide no.TooBig ∷
    apart ∷
    when unbuilt no.Unbuilt ∷
    room ∷ [])

abbrev pub wanted_by : Option Content → Bool → Bool → Option No → Result ℕ No → Result ℕ No
wanted_by content dir wide apart decided =
    and_then (if dir then Err no.IsDir else plain_bytes content)
    (λ bytes. if wide then Err no.TooBig else option_map_or Err apart decided)

pub judged : (at : Located) (content : Option Content) (dir wide : Bool) (apart : Option No) (unbuilt : Bool) (room : Option No)
    (decided : Result ℕ No) → unless (last_two unbuilt room) at ≡ with_at at decided
    → unless (judge content dir wide apart unbuilt room) at ≡ with_at at (wanted_by content dir wide apart decided)
judged at None true wide apart unbuilt room decided last = refl
judged at None false wide apart unbuilt room decided last = refl
judged at (Some (Packed size)) true wide apart unbuilt room decided last = refl
judged at (Some (Packed size)) false wide apart unbuilt room decided last = refl
judged at (Some (Plain bytes)) true wide apart unbuilt room decided last = refl
judged at (Some (Plain bytes)) false true apart unbuilt room decided last = refl
judged at (Some (Plain bytes)) false false (Some w) unbuilt room decided last = refl
judged at (Some (Plain bytes)) false false None unbuilt room decided last = last

pub same-file : (content : Option Content) (dir wide : Bool) (apart : Option No) (decided : Result ℕ No) (file other : ℕ)
    → (decided ≡ Ok other → file ≡ other) → wanted_by content dir wide apart decided ≡ Ok other → file ≡ other
same-file None true wide apart decided file other same e = cc
same-file None false wide apart decided file other same e = cc
same-file (Some (Packed size)) true wide apart decided file other same e = cc
same-file (Some (Packed size)) false wide apart decided file other same e = cc
same-file (Some (Plain bytes)) true wide apart decided file other same e = cc
same-file (Some (Plain bytes)) false true apart decided file other same e = cc
same-file (Some (Plain bytes)) false false (Some w) decided file other same e = cc
same-file (Some (Plain bytes)) false false None decided file other same e = same e
