-- $STANDARD_INFORMATION of all files behind the first mark: that of other files is the same.
use Rattle.std.proofs.Common.{◌≡◌, ◌==◌, ◌&&◌, ℕ, Bool, true, false, List, [], filter, inl, inr, refl, sym, ap, subst, ◌∙◌}
use Rattle.std.proofs.lemmas.Bool.{cases_Bool, eqb-true}
use Rattle.std.specs.Option.{option_and_then}
use Rattle.std.specs.Prelude.{bit_and, unwrap_or}
use Rattle.list_laws.proofs.FindLaws.{find-agree, find-filter}
use Rattle.ntfs_def.specs.StandardInformation.{dos_flags}
use Rattle.ntfs_def.specs.declared.kinds.TheConstants.{STANDARD_INFORMATION}
use Rattle.volume_def.specs.Files.{Part, content_value, is_of, parts, parts_at, records_of}
use Rattle.volume_def.specs.View.{VolumeView}
use Rattle.tree_model.specs.Reading.{standard_of}
use Rattle.tree_model.specs.Subjects.{Located}
use Rattle.tree_model.specs.declared.command.Command.{Command}
use Rattle.edit_def.specs.Kept.{key_of}
use Rattle.session_def.specs.FirstMark.{is_first_key}
use Rattle.session_def.specs.Kept.{KeepsStandard}
use Rattle.session_def.specs.Nodes.{flag_of}
use Rattle.session_def.specs.State.{State}
use Rattle.in_place.specs.Unnamed.{KeepsMarks}
use Rattle.in_place.proofs.OtherParts.{at-other}
use Rattle.in_place_owed.specs.SetsInPlace.{SetsInPlace}
use Rattle.in_place_owed.proofs.BothRewrites.{both, is_either_key}
use Rattle.in_place_owed.proofs.InPlaceCommands.{own-kind}

pub standard-itself : (was now : List Part) → now ≡ was → KeepsStandard false was now
standard-itself was now e =
    subst (KeepsStandard false was) (sym e)
    (record { flags = refl; value = record { long = inl refl; others = λ k shown. refl; flags = refl } })

both-same : (b : Bool) → b ≡ (b && b)
both-same true = refl
both-same false = refl

-- its value, sought among its own parts alone
pub standard-among : (all : List Part) → standard_of (filter (is_of STANDARD_INFORMATION []) all) ≡ standard_of all
standard-among all =
    let p = is_of STANDARD_INFORMATION [] in
    ap (λ o. unwrap_or (option_and_then (λ (part : Part). content_value part.content) o) [])
    (find-filter p p all ∙ sym (find-agree (λ x. p x && p x) p all (λ x c. both-same (p x))))

pub flag-same : (flag : ℕ) (old new : VolumeView) (f : ℕ)
    → parts_at new f STANDARD_INFORMATION [] ≡ parts_at old f STANDARD_INFORMATION [] → flag_of flag new f ≡ flag_of flag old f
flag-same flag old new f same =
    ap (λ value. bit_and (dos_flags value) flag)
    (sym (standard-among (parts (records_of new) f)) ∙ ap standard_of same ∙ standard-among (parts (records_of old) f))

module _ (before next : State) (command : Command) (at : Located) (staged : VolumeView) (s : SetsInPlace before next command at staged)
  where
    -- the file of the command: as the calls left it
    main-same : parts_at next.view at.file STANDARD_INFORMATION [] ≡ parts_at staged at.file STANDARD_INFORMATION []
    main-same = at-other is_first_key staged next.view s.first.rewrites at.file STANDARD_INFORMATION [] refl

    -- another
    other-same : (f : ℕ) → (at.file == f) ≡ false
        → parts_at next.view f STANDARD_INFORMATION [] ≡ parts_at before.view f STANDARD_INFORMATION []
    other-same f other =
        at-other (is_either_key before.machine.tree command at) before.view next.view (both before next command at staged s) f
        STANDARD_INFORMATION []
        (let own = own-kind before.machine.tree command at (key_of f STANDARD_INFORMATION []) s.edits refl in rw (own, other) refl)

    pub standard-owed : (f : ℕ)
        → KeepsStandard false (parts_at before.view f STANDARD_INFORMATION []) (parts_at next.view f STANDARD_INFORMATION [])
    standard-owed f = elim (cases_Bool (at.file == f)) [
      | inl is ↦
          subst (λ g. KeepsStandard false (parts_at before.view g STANDARD_INFORMATION []) (parts_at next.view g STANDARD_INFORMATION []))
          (eqb-true at.file f is)
          (subst (KeepsStandard false (parts_at before.view at.file STANDARD_INFORMATION [])) (sym main-same) s.standard)
      | inr other ↦
          standard-itself (parts_at before.view f STANDARD_INFORMATION []) (parts_at next.view f STANDARD_INFORMATION [])
          (other-same f other)
    ]

    pub marks-owed : (f : ℕ) → KeepsMarks before.view next.view f
    marks-owed f = elim (cases_Bool (at.file == f)) [
      | inl is ↦
          subst (KeepsMarks before.view next.view) (eqb-true at.file f is)
          (record {
            sparse = flag-same 0x200 staged next.view at.file main-same ∙ s.marks.sparse;
            point = flag-same 0x400 staged next.view at.file main-same ∙ s.marks.point;
          })
      | inr other ↦ record {
        sparse = flag-same 0x200 before.view next.view f (other-same f other);
        point = flag-same 0x400 before.view next.view f (other-same f other);
      }
    ]
