-- BYTES WRITTEN INTO A VALUE put it in its own place.
use Rattle.std.proofs.Common.{◌≡◌, ◌≢◌, ◌⊎◌, ◌+◌, ◌≤◌, ℕ, List, [], ◌∷◌, length}
use Rattle.std.proofs.Common.{sym, ap, subst, inl, ◌∙◌, arith, length-append, length-drop, length-take}
use Rattle.std.specs.Prelude.{IsSome, IsSomeAnd, is_some}
use Rattle.std.specs.List.{Contains}
use Rattle.std.specs.Option.{option_map}
use Rattle.std.proofs.lemmas.List.Elements.{All-contains}
use Rattle.ntfs_def.specs.Attribute.{Body, NonResident, Resident, value_of}
use Rattle.ntfs_def.specs.declared.kinds.TheConstants.{ATTRIBUTE_LIST, FILE_NAME, STANDARD_INFORMATION}
use Rattle.attr_view.specs.Values.{overwritten}
use Rattle.list_laws.proofs.MemberLaws.{Contains-head}
use Rattle.list_laws.proofs.OptionLaws.{some-value}
use Rattle.list_laws.proofs.ReplacesLaws.{Replaces-map, Replaces-stood}
use Rattle.volume_def.specs.AttributesClause.{IsRightRecord, IsStandard}
use Rattle.volume_def.specs.Files.{Part, content_of, content_value, part_of}
use Rattle.volume_def.specs.View.{VolumeView}
use Rattle.file_record.specs.Written.{HoldsBytes, WritesBytes}
use Rattle.record_calls.specs.Calls.{MayReplace}
use Rattle.record_calls.specs.Edits.{record_there}
use Rattle.record_calls.proofs.ValueEdits.{value-content}
use Rattle.record_calls.proofs.Values.{body-value, value-mapped}

-- they leave its length
length-overwritten : (at : ℕ) (from value : List ℕ) → at + length from ≤ length value → length (overwritten value at from) ≡ length value
length-overwritten at from value fits = simp (length-append, length-take, length-drop) (omega arith)

overwritten-long : (was now : Body) (at : ℕ) (from : List ℕ) → value_of now ≡ option_map (λ value. overwritten value at from) (value_of was)
    → IsSomeAnd (value_of was) (λ value. at + length from ≤ length value)
    → IsSomeAnd (content_value (content_of was)) (λ value. (length value ≡ 48) ⊎ (length value ≡ 72))
    → IsSomeAnd (content_value (content_of now)) (λ value. (length value ≡ 48) ⊎ (length value ≡ 72))
overwritten-long (Resident value) now at from e fits long =
    subst (λ o. IsSomeAnd o (λ value. (length value ≡ 48) ⊎ (length value ≡ 72))) (sym (body-value now ∙ e))
    (subst (λ n. (n ≡ 48) ⊎ (n ≡ 72)) (sym (length-overwritten at from value fits)) long)
overwritten-long (NonResident extent text) now at from e fits long = absurd fits

module _ (old new : VolumeView) (part : Part) (at : ℕ) (from : List ℕ) (e : WritesBytes old new part at from)
    (right : IsRightRecord part.holder (record_there old part.holder)) (fits : HoldsBytes at (length from) part)
    (no_list : part.kind ≢ ATTRIBUTE_LIST) (no_name : part.kind ≢ FILE_NAME) where
  was-kind : e.was.kind ≡ part.kind
  was-kind = ap (λ (p : Part). p.kind) e.is

  was-fits : IsSomeAnd (value_of e.was.body) (λ value. at + length from ≤ length value)
  was-fits = subst (λ o. IsSomeAnd o (λ value. at + length from ≤ length value))
      (sym (ap (λ (p : Part). content_value p.content) e.is) ∙ body-value e.was.body) fits

  was-value : IsSome (value_of e.was.body)
  was-value = ap is_some (some-value (value_of e.was.body) (λ value. at + length from ≤ length value) was-fits).1

  now-value : IsSome (value_of e.now.body)
  now-value = value-mapped e.was.body e.now.body (λ value. overwritten value at from) e.overwrites.value was-value

  stood : Contains (record_there old part.holder).parts (part_of part.holder e.was)
  stood = Replaces-stood _ _ _ _ (part_of part.holder e.was)
      (Replaces-map (part_of part.holder) _ _ (e.was ∷ []) (e.now ∷ []) e.record_is.attributes_are)
      (Contains-head (part_of part.holder e.was) [])

  pub bytes-replace : MayReplace old part.holder e.was e.now
  bytes-replace = record {
    was_value = was-value;
    value = now-value;
    no_list = λ z. no_list (sym was-kind ∙ z);
    kind = e.overwrites.kind;
    name = e.overwrites.name;
    id = inl e.overwrites.id;
    part = record {
      resident = λ kept. value-content part.holder e.now now-value;
      name = λ z. absurd (no_name (sym was-kind ∙ (sym e.overwrites.kind ∙ z)));
    };
    standard = λ b z.
        let standard : IsStandard (part_of part.holder e.was) =
        All-contains (λ (part : Part). part.kind ≡ STANDARD_INFORMATION → IsStandard part) (record_there old part.holder).parts
        (part_of part.holder e.was) (right.standard b) stood (sym e.overwrites.kind ∙ z) in (
          e.overwrites.name ∙ standard.0,
          overwritten-long e.was.body e.now.body at from e.overwrites.value was-fits standard.1,
        );
  }
