-- BILLS of parts of one file.
use Rattle.std.proofs.Common.{◌≡◌, ◌≤◌, ◌+◌, ◌==◌, ℕ, Bool, true, false, cond, max, refl, ap, arith}
use Rattle.std.proofs.lemmas.Bool.{eq-eqb}
use Rattle.edit_def.specs.Account.{Wants, Within, also, at_file, nothing}
use Rattle.made_edits.specs.Wants.{wants_named}

at-least : (b : Bool) (x y z : ℕ) → x + y ≤ z → cond b x 0 + cond b y 0 ≤ cond b z 0
at-least true x y z le = le
at-least false x y z le = omega arith

at-most : (b : Bool) (x y z : ℕ) → max x y ≤ z → max (cond b x 0) (cond b y 0) ≤ cond b z 0
at-most true x y z le = le
at-most false x y z le = omega arith

-- two of them in a third
pub parts-within : (n a b c u v w i j k : ℕ) → a + b ≤ c → max u v ≤ w → i + j ≤ k
    → Within (also (wants_named n a u i) (wants_named n b v j)) (wants_named n c w k)
parts-within n a b c u v w i j k le units records = record {
  clusters = omega arith;
  parts = λ f. at-least (f == n) a b c le;
  units = λ f. at-most (f == n) u v w units;
  goes = λ f is. is;
  records = records;
}

-- its own parts
pub own-parts : (n count : ℕ) → at_file n count n ≡ count
own-parts n count = ap (λ b. cond b count 0) (eq-eqb n n refl)

-- nothing, and then the bill
pub nothing-first : (a : Wants) → Within (also nothing a) a
nothing-first a = record {
  clusters = omega arith;
  parts = λ f. omega arith;
  units = λ f. omega arith;
  goes = λ f is. is;
  records = omega arith;
}
