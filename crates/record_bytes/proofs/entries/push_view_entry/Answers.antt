use Rattle.std.proofs.Common.{ℕ, ◌+◌, List, [], ◌∷◌, ◌++◌, length, ap, ◌∙◌, append_assoc}
use Rattle.record_bytes.specs.AttributeBytes.{fill_to_8}
use Rattle.record_bytes.proofs.entries.push_view_entry.Goals as goal

abbrev after : List ℕ → List ℕ → List ℕ
after more x = x ++ more

-- what the pushes leave
abbrev built : List ℕ → List ℕ → List ℕ → ℕ → List ℕ
built old key content len =
    ((((old ++ ((16 + length key) ∷ 0 ∷ length content ∷ 0 ∷ 0 ∷ 0 ∷ 0 ∷ 0 ∷ []))
    ++ (len ∷ 0 ∷ length key ∷ 0 ∷ 0 ∷ 0 ∷ 0 ∷ 0 ∷ [])) ++ key) ++ content) ++ fill_to_8 (length key + length content)

pub returns-clause-entry : goal.returns-clause-entry
returns-clause-entry c =
    c.in_ok-push_fill.ensures ∙ ap (after (fill_to_8 (length c.args.key.now + length c.args.content.now))) (
    c.in_ok-extend_from_slice-4.ensures.items ∙ ap (after c.args.content.now) (
    c.in_ok-extend_from_slice-3.ensures.items ∙ ap (after c.args.key.now) (
    c.in_ok-extend_from_slice-2.ensures.items
    ∙ ap (after ((16 + c.up_to_8.result) ∷ 0 ∷ length c.args.key.now ∷ 0 ∷ 0 ∷ 0 ∷ 0 ∷ 0 ∷ [])) c.in_ok-extend_from_slice.ensures.items)))
    ∙ ap (λ k. built c.args.entries.now.items c.args.key.now c.args.content.now (16 + k)) c.up_to_8.ensures
    ∙ simp append_assoc
