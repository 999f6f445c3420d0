-- A number is read as it is written.
use Rattle.std.proofs.Common.{◌≡◌, ◌≢◌, ℕ, ◌<◌, ◌≤◌, ◌^◌, List, Option, Result, Ok, Err, sym, ap, ◌∙◌, subst, arith}
use Rattle.std.specs.Prelude.{decimal}
use Rattle.std.specs.Str.{IsUtf8}
use Rattle.std.specs.Str.Parse.{ParsesUnsigned}
use Rattle.std.proofs.lemmas.Str.{IsUtf8-from_ascii}
use Rattle.std.proofs.lemmas.Fmt.{IsAscii-decimal, decimal_injective, parse-decimal}
use Rattle.std.specs.Result.{OkIff, result_ok}
use Rattle.cmd_lang.specs.Lines.{Finds}
use Rattle.cmd_lang.specs.Words.{IsNumber}

pub is_utf8 : (text : List ℕ) (n : ℕ) → IsNumber (2 ^ 64) text n → IsUtf8 text
is_utf8 text n x = subst IsUtf8 (sym x.written) (IsUtf8-from_ascii (decimal n) (IsAscii-decimal n x.below))

pub parsed : {E : Type 0} (text digits : List ℕ) (n : ℕ) (r : Result ℕ E) → digits ≡ text → IsNumber (2 ^ 64) text n
    → ParsesUnsigned 64 10 digits r → r ≡ Ok n
parsed text digits n r e x p = parse-decimal 64 n digits r x.below x.below (e ∙ x.written) p

pub not_err : {E : Type 0} (n : ℕ) (r : Result ℕ E) (why : E) → r ≡ Ok n → r ≢ Err why
not_err n r why a b = let c = sym a ∙ b in cc

abbrev or_zero : {E : Type 0} → Result ℕ E → ℕ
or_zero (Ok n) = n
or_zero (Err why) = 0

pub same_number : {E : Type 0} (n m : ℕ) (r : Result ℕ E) → r ≡ Ok n → r ≡ Ok m → n ≡ m
same_number n m r a b = ap or_zero (sym a ∙ b)

-- a text writes one number
pub one_number : (bound : ℕ) (text : List ℕ) (n m : ℕ) → bound ≤ 2 ^ 64 → IsNumber bound text n → IsNumber bound text m → n ≡ m
one_number bound text n m fits x y =
    let xb = x.below in let yb = y.below in
    decimal_injective n m (omega (arith, xb, fits)) (omega (arith, yb, fits)) (sym x.written ∙ y.written)

-- a number that is tried as one of 32 bits
pub shorter : {E : Type 0} (text : List ℕ) (n : ℕ) (r : Result ℕ E) (found : Option ℕ) → IsNumber (2 ^ 64) text n → OkIff r (n < 2 ^ 32) n
    → found ≡ result_ok r → Finds (IsNumber (2 ^ 32) text) found
shorter text n (Ok m) found x fits e = rw (e, fits.1) record { written = x.written; below = fits.0 }
shorter text n (Err why) found x fits e = rw e (λ m y.
    let below = y.below in
    let same : n ≡ m = decimal_injective n m x.below (omega (arith, below)) (sym x.written ∙ y.written) in
    fits (omega (arith, same, below)))
