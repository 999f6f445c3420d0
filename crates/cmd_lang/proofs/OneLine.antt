-- A line means one command.
use Rattle.std.proofs.Common.{◌≡◌, ℕ, ◌^◌, List, [], ◌∷◌, Option, Some, None, inl, inr, refl, sym, ap, ◌∙◌, subst, arith}
use Rattle.std.specs.Prelude.{decimal}
use Rattle.std.proofs.lemmas.Fmt.{decimal_injective}
use Rattle.tree_model.specs.declared.command.Command.{Command}
use Rattle.tree_model.specs.declared.command.Command.TheVariants as command
use Rattle.cmd_lang.specs.declared.verb.Verb.{Verb}
use Rattle.cmd_lang.specs.declared.verb.Verb.TheVariants as verb
use Rattle.cmd_lang.specs.Grammar.{AreWords, IsCommand, IsLine, IsSession, Row, path_command}
use Rattle.cmd_lang.specs.Words.{AreDigits, AreFlags, IsAccess, IsHex, IsNumber, IsPath, IsShare, IsTag, IsTarget, words_of}
use Rattle.cmd_lang.proofs.DigitLaws.{one_hex_number}
use Rattle.cmd_lang.proofs.NumberLaws.{one_number}
use Rattle.cmd_lang.proofs.OneWord.{one_access, one_digits, one_hex, one_path, one_share, one_target}
use Rattle.cmd_lang.proofs.RowLaws.{same_word}
use Rattle.cmd_lang.proofs.VerbLaws.{not_session, one_verb}

abbrev or_none : Option (List ℕ) → List ℕ
or_none None = []
or_none (Some text) = text

-- the words behind a first word make one command
one_row : (which : Verb) (words : List (List ℕ)) (said other : Command) → Row which words said → Row which words other → said ≡ other
one_row (verb.OfPath which) words said other x y =
    let e0 : x.0 ≡ y.0 = one_path y.1.0 x.0 y.0 (same_word (λ w. IsPath w x.0) words (x.1.0 ∷ []) (y.1.0 ∷ []) 0 x.1.1 y.1.1 x.1.2) y.1.2 in
    let made : path_command which x.0 ≡ path_command which y.0 = rw (e0) refl in
    x.2 ∙ made ∙ sym y.2
one_row verb.Time words said other x y =
    let e0 : x.0 ≡ y.0 = one_number (2 ^ 64) y.1.0 x.0 y.0 (omega arith) (same_word (λ w. IsNumber (2 ^ 64) w x.0) words (x.1.0 ∷ [])
    (y.1.0 ∷ []) 0 x.1.1 y.1.1 x.1.2) y.1.2 in
    let made : command.Time x.0 ≡ command.Time y.0 = rw (e0) refl in
    x.2 ∙ made ∙ sym y.2
one_row verb.Cat words said other x y =
    let t = one_target y.2.0 x.0 y.0 x.1 y.1 (same_word (λ w. IsTarget w x.0 x.1) words (x.2.0 ∷ [])
    (y.2.0 ∷ []) 0 x.2.1 y.2.1 x.2.2) y.2.2 in
    let e0 : x.0 ≡ y.0 = t.0 in
    let e1 : x.1 ≡ y.1 = t.1 in
    let made : command.Cat x.0 x.1 ≡ command.Cat y.0 y.1 = rw (e0, e1) refl in
    x.3 ∙ made ∙ sym y.3
one_row verb.Read words said other x y =
    let t = one_target y.4.0 x.0 y.0 x.1 y.1 (same_word (λ w. IsTarget w x.0 x.1) words (x.4.0 ∷ x.4.1 ∷ x.4.2 ∷ [])
    (y.4.0 ∷ y.4.1 ∷ y.4.2 ∷ []) 0 x.4.3 y.4.3 x.4.4.0) y.4.4.0 in
    let e0 : x.0 ≡ y.0 = t.0 in
    let e1 : x.1 ≡ y.1 = t.1 in
    let e2 : x.2 ≡ y.2 = one_number (2 ^ 64) y.4.1 x.2 y.2 (omega arith) (same_word (λ w. IsNumber (2 ^ 64) w x.2) words
    (x.4.0 ∷ x.4.1 ∷ x.4.2 ∷ []) (y.4.0 ∷ y.4.1 ∷ y.4.2 ∷ []) 1 x.4.3 y.4.3 x.4.4.1) y.4.4.1 in
    let e3 : x.3 ≡ y.3 = one_number (2 ^ 64) y.4.2 x.3 y.3 (omega arith) (same_word (λ w. IsNumber (2 ^ 64) w x.3) words
    (x.4.0 ∷ x.4.1 ∷ x.4.2 ∷ []) (y.4.0 ∷ y.4.1 ∷ y.4.2 ∷ []) 2 x.4.3 y.4.3 x.4.4.2) y.4.4.2 in
    let made : command.Read x.0 x.1 x.2 x.3 ≡ command.Read y.0 y.1 y.2 y.3 = rw (e0, e1, e2, e3) refl in
    x.5 ∙ made ∙ sym y.5
one_row verb.Ln words said other x y =
    let e0 : x.0 ≡ y.0 = one_path y.2.0 x.0 y.0 (same_word (λ w. IsPath w x.0) words (x.2.0 ∷ x.2.1 ∷ [])
    (y.2.0 ∷ y.2.1 ∷ []) 0 x.2.2 y.2.2 x.2.3.0) y.2.3.0 in
    let e1 : x.1 ≡ y.1 = one_path y.2.1 x.1 y.1 (same_word (λ w. IsPath w x.1) words (x.2.0 ∷ x.2.1 ∷ [])
    (y.2.0 ∷ y.2.1 ∷ []) 1 x.2.2 y.2.2 x.2.3.1) y.2.3.1 in
    let made : command.Ln x.0 x.1 ≡ command.Ln y.0 y.1 = rw (e0, e1) refl in
    x.3 ∙ made ∙ sym y.3
one_row verb.Mv words said other x y =
    let e0 : x.0 ≡ y.0 = one_path y.2.0 x.0 y.0 (same_word (λ w. IsPath w x.0) words (x.2.0 ∷ x.2.1 ∷ [])
    (y.2.0 ∷ y.2.1 ∷ []) 0 x.2.2 y.2.2 x.2.3.0) y.2.3.0 in
    let e1 : x.1 ≡ y.1 = one_path y.2.1 x.1 y.1 (same_word (λ w. IsPath w x.1) words (x.2.0 ∷ x.2.1 ∷ [])
    (y.2.0 ∷ y.2.1 ∷ []) 1 x.2.2 y.2.2 x.2.3.1) y.2.3.1 in
    let made : command.Mv x.0 x.1 ≡ command.Mv y.0 y.1 = rw (e0, e1) refl in
    x.3 ∙ made ∙ sym y.3
one_row verb.Write words said other x y =
    let t = one_target y.4.0 x.0 y.0 x.1 y.1 (same_word (λ w. IsTarget w x.0 x.1) words (x.4.0 ∷ x.4.1 ∷ x.4.2 ∷ [])
    (y.4.0 ∷ y.4.1 ∷ y.4.2 ∷ []) 0 x.4.3 y.4.3 x.4.4.0) y.4.4.0 in
    let e0 : x.0 ≡ y.0 = t.0 in
    let e1 : x.1 ≡ y.1 = t.1 in
    let e2 : x.2 ≡ y.2 = one_number (2 ^ 64) y.4.1 x.2 y.2 (omega arith) (same_word (λ w. IsNumber (2 ^ 64) w x.2) words
    (x.4.0 ∷ x.4.1 ∷ x.4.2 ∷ []) (y.4.0 ∷ y.4.1 ∷ y.4.2 ∷ []) 1 x.4.3 y.4.3 x.4.4.1) y.4.4.1 in
    let e3 : x.3 ≡ y.3 = one_digits y.4.2 x.3 y.3 (same_word (λ w. AreDigits w x.3) words (x.4.0 ∷ x.4.1 ∷ x.4.2 ∷ [])
    (y.4.0 ∷ y.4.1 ∷ y.4.2 ∷ []) 2 x.4.3 y.4.3 x.4.4.2) y.4.4.2 in
    let made : command.Write x.0 x.1 x.2 x.3 ≡ command.Write y.0 y.1 y.2 y.3 = rw (e0, e1, e2, e3) refl in
    x.5 ∙ made ∙ sym y.5
one_row verb.Truncate words said other x y =
    let t = one_target y.3.0 x.0 y.0 x.1 y.1 (same_word (λ w. IsTarget w x.0 x.1) words (x.3.0 ∷ x.3.1 ∷ [])
    (y.3.0 ∷ y.3.1 ∷ []) 0 x.3.2 y.3.2 x.3.3.0) y.3.3.0 in
    let e0 : x.0 ≡ y.0 = t.0 in
    let e1 : x.1 ≡ y.1 = t.1 in
    let e2 : x.2 ≡ y.2 = one_number (2 ^ 64) y.3.1 x.2 y.2 (omega arith) (same_word (λ w. IsNumber (2 ^ 64) w x.2) words
    (x.3.0 ∷ x.3.1 ∷ []) (y.3.0 ∷ y.3.1 ∷ []) 1 x.3.2 y.3.2 x.3.3.1) y.3.3.1 in
    let made : command.Truncate x.0 x.1 x.2 ≡ command.Truncate y.0 y.1 y.2 = rw (e0, e1, e2) refl in
    x.4 ∙ made ∙ sym y.4
one_row verb.Punch words said other x y =
    let t = one_target y.4.0 x.0 y.0 x.1 y.1 (same_word (λ w. IsTarget w x.0 x.1) words (x.4.0 ∷ x.4.1 ∷ x.4.2 ∷ [])
    (y.4.0 ∷ y.4.1 ∷ y.4.2 ∷ []) 0 x.4.3 y.4.3 x.4.4.0) y.4.4.0 in
    let e0 : x.0 ≡ y.0 = t.0 in
    let e1 : x.1 ≡ y.1 = t.1 in
    let e2 : x.2 ≡ y.2 = one_number (2 ^ 64) y.4.1 x.2 y.2 (omega arith) (same_word (λ w. IsNumber (2 ^ 64) w x.2) words
    (x.4.0 ∷ x.4.1 ∷ x.4.2 ∷ []) (y.4.0 ∷ y.4.1 ∷ y.4.2 ∷ []) 1 x.4.3 y.4.3 x.4.4.1) y.4.4.1 in
    let e3 : x.3 ≡ y.3 = one_number (2 ^ 64) y.4.2 x.3 y.3 (omega arith) (same_word (λ w. IsNumber (2 ^ 64) w x.3) words
    (x.4.0 ∷ x.4.1 ∷ x.4.2 ∷ []) (y.4.0 ∷ y.4.1 ∷ y.4.2 ∷ []) 2 x.4.3 y.4.3 x.4.4.2) y.4.4.2 in
    let made : command.Punch x.0 x.1 x.2 x.3 ≡ command.Punch y.0 y.1 y.2 y.3 = rw (e0, e1, e2, e3) refl in
    x.5 ∙ made ∙ sym y.5
one_row verb.Rmstream words said other x y =
    let t = one_target y.2.0 x.0 y.0 (Some x.1) (Some y.1) (same_word (λ w. IsTarget w x.0 (Some x.1)) words (x.2.0 ∷ [])
    (y.2.0 ∷ []) 0 x.2.1 y.2.1 x.2.2) y.2.2 in
    let e0 : x.0 ≡ y.0 = t.0 in
    let e1 : x.1 ≡ y.1 = ap or_none t.1 in
    let made : command.Rmstream x.0 x.1 ≡ command.Rmstream y.0 y.1 = rw (e0, e1) refl in
    x.3 ∙ made ∙ sym y.3
one_row verb.Setattr words said other x y =
    let e0 : x.0 ≡ y.0 = one_path y.2.0 x.0 y.0 (same_word (λ w. IsPath w x.0) words (x.2.0 ∷ x.2.1 ∷ [])
    (y.2.0 ∷ y.2.1 ∷ []) 0 x.2.2 y.2.2 x.2.3.0) y.2.3.0 in
    let e1 : x.1 ≡ y.1 = one_hex_number 2 y.2.1 x.1 y.1 (same_word (λ w. AreFlags w x.1) words (x.2.0 ∷ x.2.1 ∷ [])
    (y.2.0 ∷ y.2.1 ∷ []) 1 x.2.2 y.2.2 x.2.3.1).number y.2.3.1.number in
    let made : command.Setattr x.0 x.1 ≡ command.Setattr y.0 y.1 = rw (e0, e1) refl in
    x.3 ∙ made ∙ sym y.3
one_row verb.Setsec words said other x y =
    let e0 : x.0 ≡ y.0 = one_path y.2.0 x.0 y.0 (same_word (λ w. IsPath w x.0) words (x.2.0 ∷ x.2.1 ∷ [])
    (y.2.0 ∷ y.2.1 ∷ []) 0 x.2.2 y.2.2 x.2.3.0) y.2.3.0 in
    let e1 : x.1 ≡ y.1 = one_number (2 ^ 32) y.2.1 x.1 y.1 (omega arith) (same_word (λ w. IsNumber (2 ^ 32) w x.1) words
    (x.2.0 ∷ x.2.1 ∷ []) (y.2.0 ∷ y.2.1 ∷ []) 1 x.2.2 y.2.2 x.2.3.1) y.2.3.1 in
    let made : command.Setsec x.0 x.1 ≡ command.Setsec y.0 y.1 = rw (e0, e1) refl in
    x.3 ∙ made ∙ sym y.3
one_row verb.Sd words said other x y =
    let e0 : x.0 ≡ y.0 = one_number (2 ^ 32) y.1.0 x.0 y.0 (omega arith) (same_word (λ w. IsNumber (2 ^ 32) w x.0) words (x.1.0 ∷ [])
    (y.1.0 ∷ []) 0 x.1.1 y.1.1 x.1.2) y.1.2 in
    let made : command.Sd x.0 ≡ command.Sd y.0 = rw (e0) refl in
    x.2 ∙ made ∙ sym y.2
one_row verb.Mkreparse words said other x y =
    let e0 : x.0 ≡ y.0 = one_path y.3.0 x.0 y.0 (same_word (λ w. IsPath w x.0) words (x.3.0 ∷ x.3.1 ∷ x.3.2 ∷ [])
    (y.3.0 ∷ y.3.1 ∷ y.3.2 ∷ []) 0 x.3.3 y.3.3 x.3.4.0) y.3.4.0 in
    let e1 : x.1 ≡ y.1 = one_hex_number 4 y.3.1 x.1 y.1 (same_word (λ w. IsTag w x.1) words (x.3.0 ∷ x.3.1 ∷ x.3.2 ∷ [])
    (y.3.0 ∷ y.3.1 ∷ y.3.2 ∷ []) 1 x.3.3 y.3.3 x.3.4.1) y.3.4.1 in
    let e2 : x.2 ≡ y.2 = one_hex y.3.2 x.2 y.2 (same_word (λ w. IsHex w x.2) words (x.3.0 ∷ x.3.1 ∷ x.3.2 ∷ [])
    (y.3.0 ∷ y.3.1 ∷ y.3.2 ∷ []) 2 x.3.3 y.3.3 x.3.4.2) y.3.4.2 in
    let made : command.Mkreparse x.0 x.1 x.2 ≡ command.Mkreparse y.0 y.1 y.2 = rw (e0, e1, e2) refl in
    x.4 ∙ made ∙ sym y.4
one_row verb.Df words said other x y =
    x.1 ∙ sym y.1
one_row verb.Open words said other x y =
    let t = one_target y.4.0 x.0 y.0 x.1 y.1 (same_word (λ w. IsTarget w x.0 x.1) words (x.4.0 ∷ x.4.1 ∷ x.4.2 ∷ [])
    (y.4.0 ∷ y.4.1 ∷ y.4.2 ∷ []) 0 x.4.3 y.4.3 x.4.4.0) y.4.4.0 in
    let e0 : x.0 ≡ y.0 = t.0 in
    let e1 : x.1 ≡ y.1 = t.1 in
    let e2 : x.2 ≡ y.2 = one_access y.4.1 x.2 y.2 (same_word (λ w. IsAccess w x.2) words (x.4.0 ∷ x.4.1 ∷ x.4.2 ∷ [])
    (y.4.0 ∷ y.4.1 ∷ y.4.2 ∷ []) 1 x.4.3 y.4.3 x.4.4.1) y.4.4.1 in
    let e3 : x.3 ≡ y.3 = one_share y.4.2 x.3 y.3 (same_word (λ w. IsShare w x.3) words (x.4.0 ∷ x.4.1 ∷ x.4.2 ∷ [])
    (y.4.0 ∷ y.4.1 ∷ y.4.2 ∷ []) 2 x.4.3 y.4.3 x.4.4.2) y.4.4.2 in
    let made : command.Open x.0 x.1 x.2 x.3 ≡ command.Open y.0 y.1 y.2 y.3 = rw (e0, e1, e2, e3) refl in
    x.5 ∙ made ∙ sym y.5
one_row verb.Hread words said other x y =
    let e0 : x.0 ≡ y.0 = one_number (2 ^ 32) y.3.0 x.0 y.0 (omega arith) (same_word (λ w. IsNumber (2 ^ 32) w x.0) words
    (x.3.0 ∷ x.3.1 ∷ x.3.2 ∷ []) (y.3.0 ∷ y.3.1 ∷ y.3.2 ∷ []) 0 x.3.3 y.3.3 x.3.4.0) y.3.4.0 in
    let e1 : x.1 ≡ y.1 = one_number (2 ^ 64) y.3.1 x.1 y.1 (omega arith) (same_word (λ w. IsNumber (2 ^ 64) w x.1) words
    (x.3.0 ∷ x.3.1 ∷ x.3.2 ∷ []) (y.3.0 ∷ y.3.1 ∷ y.3.2 ∷ []) 1 x.3.3 y.3.3 x.3.4.1) y.3.4.1 in
    let e2 : x.2 ≡ y.2 = one_number (2 ^ 64) y.3.2 x.2 y.2 (omega arith) (same_word (λ w. IsNumber (2 ^ 64) w x.2) words
    (x.3.0 ∷ x.3.1 ∷ x.3.2 ∷ []) (y.3.0 ∷ y.3.1 ∷ y.3.2 ∷ []) 2 x.3.3 y.3.3 x.3.4.2) y.3.4.2 in
    let made : command.Hread x.0 x.1 x.2 ≡ command.Hread y.0 y.1 y.2 = rw (e0, e1, e2) refl in
    x.4 ∙ made ∙ sym y.4
one_row verb.Hwrite words said other x y =
    let e0 : x.0 ≡ y.0 = one_number (2 ^ 32) y.3.0 x.0 y.0 (omega arith) (same_word (λ w. IsNumber (2 ^ 32) w x.0) words
    (x.3.0 ∷ x.3.1 ∷ x.3.2 ∷ []) (y.3.0 ∷ y.3.1 ∷ y.3.2 ∷ []) 0 x.3.3 y.3.3 x.3.4.0) y.3.4.0 in
    let e1 : x.1 ≡ y.1 = one_number (2 ^ 64) y.3.1 x.1 y.1 (omega arith) (same_word (λ w. IsNumber (2 ^ 64) w x.1) words
    (x.3.0 ∷ x.3.1 ∷ x.3.2 ∷ []) (y.3.0 ∷ y.3.1 ∷ y.3.2 ∷ []) 1 x.3.3 y.3.3 x.3.4.1) y.3.4.1 in
    let e2 : x.2 ≡ y.2 = one_digits y.3.2 x.2 y.2 (same_word (λ w. AreDigits w x.2) words (x.3.0 ∷ x.3.1 ∷ x.3.2 ∷ [])
    (y.3.0 ∷ y.3.1 ∷ y.3.2 ∷ []) 2 x.3.3 y.3.3 x.3.4.2) y.3.4.2 in
    let made : command.Hwrite x.0 x.1 x.2 ≡ command.Hwrite y.0 y.1 y.2 = rw (e0, e1, e2) refl in
    x.4 ∙ made ∙ sym y.4
one_row verb.Close words said other x y =
    let e0 : x.0 ≡ y.0 = one_number (2 ^ 32) y.1.0 x.0 y.0 (omega arith) (same_word (λ w. IsNumber (2 ^ 32) w x.0) words (x.1.0 ∷ [])
    (y.1.0 ∷ []) 0 x.1.1 y.1.1 x.1.2) y.1.2 in
    let made : command.Close x.0 ≡ command.Close y.0 = rw (e0) refl in
    x.2 ∙ made ∙ sym y.2

one_command : (words : List (List ℕ)) (said other : Command) → IsCommand words said → IsCommand words other → said ≡ other
one_command [] said other x y = absurd x
one_command (first ∷ words) said other x y =
    let same = one_verb x.0 y.0 (sym x.1 ∙ y.1) in
    one_row y.0 words said other (subst (λ which. Row which words said) same x.2) y.2

abbrev tail : List ℕ → List ℕ
tail [] = []
tail (x ∷ xs) = xs

one_session : (text : List ℕ) (session other : ℕ) → IsSession text session → IsSession text other → session ≡ other
one_session text session other x y =
    let xb = x.below in
    let yb = y.below in
    decimal_injective session other (omega (arith, xb)) (omega (arith, yb)) (ap tail (sym x.written ∙ y.written))

-- a session and its command
abbrev pub SameSaid : ℕ → Command → ℕ → Command → Type 0
SameSaid session said other told = (session ≡ other) × (said ≡ told)

not_both : (first : List ℕ) (words : List (List ℕ)) (session : ℕ) (said : Command) → IsSession first session
    → IsCommand (first ∷ words) said → ⊥
not_both first words session said x y = not_session y.0 (decimal session) (sym y.1 ∙ x.written)

one_words : (words : List (List ℕ)) (session other : ℕ) (said told : Command) → AreWords words session said → AreWords words other told
    → SameSaid session said other told
one_words [] session other said told x y = absurd x
one_words (first ∷ words) session other said told (inl x) (inl y) =
    (one_session first session other x.0 y.0, one_command words said told x.1 y.1)
one_words (first ∷ words) session other said told (inl x) (inr y) = absurd (not_both first words session told x.0 y.1)
one_words (first ∷ words) session other said told (inr x) (inl y) = absurd (not_both first words other said y.0 x.1)
one_words (first ∷ words) session other said told (inr x) (inr y) = (x.0 ∙ sym y.0, one_command (first ∷ words) said told x.1 y.1)

pub one_line : (line : List ℕ) (session other : ℕ) (said told : Command) → IsLine line session said → IsLine line other told
    → SameSaid session said other told
one_line line session other said told x y = one_words (words_of line) session other said told x.words y.words
