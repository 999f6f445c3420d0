use Rattle.std.proofs.Common.{ℕ, ◌+◌, List, [], ◌∷◌, ◌++◌, length, ap, ◌∙◌, append_assoc}
use Rattle.record_bytes.specs.AttributeBytes.{padded_bytes}
use Rattle.record_bytes.proofs.entries.push_name_entry.Goals as goal

abbrev after : List ℕ → List ℕ → List ℕ
after more x = x ++ more

-- what the pushes leave
abbrev built : List ℕ → ℕ → ℕ → ℕ → List ℕ → List ℕ
built old number sequence len name =
    ((old ++ (number ∷ 0 ∷ 0 ∷ 0 ∷ 0 ∷ 0 ∷ sequence ∷ 0 ∷ [])) ++ (len ∷ 0 ∷ length name ∷ 0 ∷ 0 ∷ 0 ∷ 0 ∷ 0 ∷ [])) ++ padded_bytes name

pub returns-clause-entry : goal.returns-clause-entry
returns-clause-entry c =
    c.in_ok-push_padded.ensures ∙ ap (after (padded_bytes c.args.name.now)) (
    c.in_ok-extend_from_slice-2.ensures.items
    ∙ ap (after ((16 + c.up_to_8.result) ∷ 0 ∷ length c.args.name.now ∷ 0 ∷ 0 ∷ 0 ∷ 0 ∷ 0 ∷ [])) c.in_ok-extend_from_slice.ensures.items)
    ∙ ap (λ k. built c.args.entries.now.items c.args.number c.args.sequence (16 + k) c.args.name.now) c.up_to_8.ensures
    ∙ simp append_assoc
