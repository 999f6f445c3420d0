-- The list of all verbs.
use Rattle.std.specs.Prelude.{◌==◌, ◌&&◌, Bool, true, false, Option, Some, None, find}
use Rattle.std.proofs.Common.{◌≡◌, ◌≢◌, ℕ, zero, suc, ◌+◌, ◌<◌, List, [], ◌∷◌, length, get_or, refl, sym, ap, ◌∙◌, subst, arith, inl, inr}
use Rattle.std.proofs.lemmas.Bool.{cases_lt}
use Rattle.cmd_lang.specs.declared.verb.PathVerb.TheVariants as path_verb
use Rattle.cmd_lang.specs.declared.verb.Verb.{Verb}
use Rattle.cmd_lang.specs.declared.verb.Verb.TheVariants as verb
use Rattle.cmd_lang.specs.Grammar.{verb_text}

inside : (vs : List Verb) (k : ℕ) (d e : Verb) → k < length vs → get_or vs k d ≡ get_or vs k e
inside [] k d e h = absurd (omega arith)
inside (v ∷ vs) zero d e h = refl
inside (v ∷ vs) (suc k) d e h = inside vs k d e (omega arith)

pub one_more : (word : List ℕ) (vs : List Verb) (n : ℕ) (d0 : Verb) → ((k : ℕ) (d : Verb) → k < n → word ≢ verb_text (get_or vs k d))
    → n < length vs → word ≢ verb_text (get_or vs n d0)
    → (k : ℕ) (d : Verb) → k < n + 1 → word ≢ verb_text (get_or vs k d)
one_more word vs n d0 before h here k d l e = elim (cases_lt k n) [
  | inl lt ↦ before k d lt e
  | inr ge ↦ let same : k ≡ n = omega arith in here (subst (λ j. word ≡ verb_text (get_or vs j d0)) same (e
      ∙ ap verb_text (inside vs k d d0 (omega arith))))
]

abbrev pub all : List Verb
all =
    verb.Time ∷ verb.OfPath path_verb.Ls ∷ verb.OfPath path_verb.Stat ∷ verb.OfPath path_verb.Links ∷ verb.Cat ∷ verb.Read
    ∷ verb.OfPath path_verb.Create ∷ verb.OfPath path_verb.Mkdir ∷ verb.OfPath path_verb.Rm ∷ verb.OfPath path_verb.Rmdir
    ∷ verb.Ln ∷ verb.Mv
    ∷ verb.Write ∷ verb.Truncate ∷ verb.Punch ∷ verb.OfPath path_verb.Streams ∷ verb.Rmstream ∷ verb.OfPath path_verb.Attr
    ∷ verb.Setattr ∷ verb.OfPath path_verb.Sec ∷ verb.Setsec ∷ verb.Sd
    ∷ verb.OfPath path_verb.Reparse ∷ verb.Mkreparse ∷ verb.OfPath path_verb.Rmreparse ∷ verb.OfPath path_verb.Objid ∷ verb.Df
    ∷ verb.Open ∷ verb.Hread ∷ verb.Hwrite ∷ verb.Close ∷ []

pub is_none : (word : List ℕ) → ((k : ℕ) (d : Verb) → k < 31 → word ≢ verb_text (get_or all k d)) → (which : Verb) → word ≢ verb_text which
is_none word h verb.Time = h 0 verb.Time (omega arith)
is_none word h (verb.OfPath path_verb.Ls) = h 1 verb.Time (omega arith)
is_none word h (verb.OfPath path_verb.Stat) = h 2 verb.Time (omega arith)
is_none word h (verb.OfPath path_verb.Links) = h 3 verb.Time (omega arith)
is_none word h verb.Cat = h 4 verb.Time (omega arith)
is_none word h verb.Read = h 5 verb.Time (omega arith)
is_none word h (verb.OfPath path_verb.Create) = h 6 verb.Time (omega arith)
is_none word h (verb.OfPath path_verb.Mkdir) = h 7 verb.Time (omega arith)
is_none word h (verb.OfPath path_verb.Rm) = h 8 verb.Time (omega arith)
is_none word h (verb.OfPath path_verb.Rmdir) = h 9 verb.Time (omega arith)
is_none word h verb.Ln = h 10 verb.Time (omega arith)
is_none word h verb.Mv = h 11 verb.Time (omega arith)
is_none word h verb.Write = h 12 verb.Time (omega arith)
is_none word h verb.Truncate = h 13 verb.Time (omega arith)
is_none word h verb.Punch = h 14 verb.Time (omega arith)
is_none word h (verb.OfPath path_verb.Streams) = h 15 verb.Time (omega arith)
is_none word h verb.Rmstream = h 16 verb.Time (omega arith)
is_none word h (verb.OfPath path_verb.Attr) = h 17 verb.Time (omega arith)
is_none word h verb.Setattr = h 18 verb.Time (omega arith)
is_none word h (verb.OfPath path_verb.Sec) = h 19 verb.Time (omega arith)
is_none word h verb.Setsec = h 20 verb.Time (omega arith)
is_none word h verb.Sd = h 21 verb.Time (omega arith)
is_none word h (verb.OfPath path_verb.Reparse) = h 22 verb.Time (omega arith)
is_none word h verb.Mkreparse = h 23 verb.Time (omega arith)
is_none word h (verb.OfPath path_verb.Rmreparse) = h 24 verb.Time (omega arith)
is_none word h (verb.OfPath path_verb.Objid) = h 25 verb.Time (omega arith)
is_none word h verb.Df = h 26 verb.Time (omega arith)
is_none word h verb.Open = h 27 verb.Time (omega arith)
is_none word h verb.Hread = h 28 verb.Time (omega arith)
is_none word h verb.Hwrite = h 29 verb.Time (omega arith)
is_none word h verb.Close = h 30 verb.Time (omega arith)

-- no first word of a command begins with an `@`
abbrev begins_with : ℕ → List ℕ → Bool
begins_with byte [] = false
begins_with byte (first ∷ rest) = first == byte

no_session : (which : Verb) → begins_with 0x40 (verb_text which) ≡ false
no_session verb.Time = refl
no_session (verb.OfPath path_verb.Ls) = refl
no_session (verb.OfPath path_verb.Stat) = refl
no_session (verb.OfPath path_verb.Links) = refl
no_session verb.Cat = refl
no_session verb.Read = refl
no_session (verb.OfPath path_verb.Create) = refl
no_session (verb.OfPath path_verb.Mkdir) = refl
no_session (verb.OfPath path_verb.Rm) = refl
no_session (verb.OfPath path_verb.Rmdir) = refl
no_session verb.Ln = refl
no_session verb.Mv = refl
no_session verb.Write = refl
no_session verb.Truncate = refl
no_session verb.Punch = refl
no_session (verb.OfPath path_verb.Streams) = refl
no_session verb.Rmstream = refl
no_session (verb.OfPath path_verb.Attr) = refl
no_session verb.Setattr = refl
no_session (verb.OfPath path_verb.Sec) = refl
no_session verb.Setsec = refl
no_session verb.Sd = refl
no_session (verb.OfPath path_verb.Reparse) = refl
no_session verb.Mkreparse = refl
no_session (verb.OfPath path_verb.Rmreparse) = refl
no_session (verb.OfPath path_verb.Objid) = refl
no_session verb.Df = refl
no_session verb.Open = refl
no_session verb.Hread = refl
no_session verb.Hwrite = refl
no_session verb.Close = refl

pub not_session : (which : Verb) (rest : List ℕ) → verb_text which ≡ 0x40 ∷ rest → ⊥
not_session which rest e = let no = no_session which in let yes : begins_with 0x40 (verb_text which) ≡ true = ap (begins_with 0x40) e in cc

-- a word is that of one command
abbrev are_same : List ℕ → List ℕ → Bool
are_same [] [] = true
are_same (a ∷ more) (b ∷ rest) = (a == b) && are_same more rest
are_same word other = false

abbrev verb_at : List ℕ → Option Verb
verb_at word = find (λ which. are_same (verb_text which) word) all

verb_back : (which : Verb) → verb_at (verb_text which) ≡ Some which
verb_back verb.Time = refl
verb_back (verb.OfPath path_verb.Ls) = refl
verb_back (verb.OfPath path_verb.Stat) = refl
verb_back (verb.OfPath path_verb.Links) = refl
verb_back verb.Cat = refl
verb_back verb.Read = refl
verb_back (verb.OfPath path_verb.Create) = refl
verb_back (verb.OfPath path_verb.Mkdir) = refl
verb_back (verb.OfPath path_verb.Rm) = refl
verb_back (verb.OfPath path_verb.Rmdir) = refl
verb_back verb.Ln = refl
verb_back verb.Mv = refl
verb_back verb.Write = refl
verb_back verb.Truncate = refl
verb_back verb.Punch = refl
verb_back (verb.OfPath path_verb.Streams) = refl
verb_back verb.Rmstream = refl
verb_back (verb.OfPath path_verb.Attr) = refl
verb_back verb.Setattr = refl
verb_back (verb.OfPath path_verb.Sec) = refl
verb_back verb.Setsec = refl
verb_back verb.Sd = refl
verb_back (verb.OfPath path_verb.Reparse) = refl
verb_back verb.Mkreparse = refl
verb_back (verb.OfPath path_verb.Rmreparse) = refl
verb_back (verb.OfPath path_verb.Objid) = refl
verb_back verb.Df = refl
verb_back verb.Open = refl
verb_back verb.Hread = refl
verb_back verb.Hwrite = refl
verb_back verb.Close = refl

abbrev or_time : Option Verb → Verb
or_time None = verb.Time
or_time (Some which) = which

pub one_verb : (a b : Verb) → verb_text a ≡ verb_text b → a ≡ b
one_verb a b e = ap or_time (sym (verb_back a) ∙ ap verb_at e ∙ verb_back b)
