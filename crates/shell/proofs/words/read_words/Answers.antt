use Rattle.std.proofs.Common.{◌⊎◌, refl, inl, inr}
use Rattle.shell.proofs.words.read_words.Goals as goal

none-of : {A B C D E F : Type 0} → ¬ A → ¬ B → ¬ C → ¬ D → ¬ E → ¬ F → ¬ ((A ⊎ B ⊎ C) ⊎ D ⊎ E ⊎ F)
none-of a b c d e f (inl (inl is)) = a is
none-of a b c d e f (inl (inr (inl is))) = b is
none-of a b c d e f (inl (inr (inr is))) = c is
none-of a b c d e f (inr (inl is)) = d is
none-of a b c d e f (inr (inr (inl is))) = e is
none-of a b c d e f (inr (inr (inr is))) = f is

pub returns-in-Some-clause-format : goal.returns-in-Some-clause-format
returns-in-Some-clause-format c options are =
    let make = c.in-Some.ensures.some in
    let one = make.form in
    let two = are.form in
    absurd (cc)

pub returns-in-Some-2-clause-format : goal.returns-in-Some-2-clause-format
returns-in-Some-2-clause-format c options are =
    let found = c.in_ok-options.ensures.exact options are in
    let is = c.in-Some-2.is in
    cc

pub returns-in-None-clause-format : goal.returns-in-None-clause-format
returns-in-None-clause-format c options are =
    let found = c.in_ok-options.ensures.exact options are in
    let is = c.in-None.is in
    absurd (cc)

pub returns-in-None-clause-unknown : goal.returns-in-None-clause-unknown
returns-in-None-clause-unknown c = (
  λ _. none-of
      (λ boot. let yes = c.are_words.ensures.1 boot in let no = c.if-are_words.false in absurd (cc))
      (λ label. let yes = c.are_words-2.ensures.1 label in let no = c.if-are_words-2.false in absurd (cc))
      (λ check. let yes = c.are_words-3.ensures.1 check in let no = c.if-are_words-3.false in absurd (cc))
      (λ ask. let found = c.in_ok-options.ensures.exact ask.0 ask.1 in let is = c.in-None.is in absurd (cc))
      (λ run. let yes = c.are_words-4.ensures.1 run in let no = c.if-are_words-4.false in absurd (cc))
      (λ ask. let found = c.draws_of.ensures.exact ask.0 ask.1 ask.2 in let is = c.in_default.is in absurd (cc)),
  λ _. refl,
)
