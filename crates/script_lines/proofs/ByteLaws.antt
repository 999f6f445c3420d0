-- The bytes that a reader hands on.
use Rattle.std.proofs.Common.{◌≡◌, ℕ, ◌-◌, ◌≤◌, List, [], ◌∷◌, ◌++◌, length, Option, Some, None, refl, sym, ap, ◌∙◌, arith, slice_range}
use Rattle.vol_disk.specs.Contents.{map_told}
use Rattle.script_lines.specs.declared.reader.LineReader.{LineReader}
use Rattle.script_lines.specs.declared.reader.Byte.{Byte}
use Rattle.script_lines.specs.declared.reader.Byte.TheVariants as byte
use Rattle.script_lines.specs.Bytes.{HandedOver, IsOneAhead, NextByte, consumes, pending}

nothing : (buffer : List ℕ) (at end : ℕ) → end ≤ at → slice_range buffer at end ≡ []
nothing buffer at end h = let e : end - at ≡ 0 = omega arith in rw e refl

pub used_up : (buffer : List ℕ) (at end : ℕ) (left : Option (List ℕ)) (text : List ℕ) → end ≤ at
    → map_told (λ l. slice_range buffer at end ++ l) left ≡ Some text → left ≡ Some text
used_up buffer at end None text h e = cc
used_up buffer at end (Some l) text h e = ap (λ xs. Some (xs ++ l)) (sym (nothing buffer at end h)) ∙ e

one_ahead : (ahead others : List ℕ) → length ahead ≡ 1 → IsOneAhead (ahead ++ others) (Some others)
one_ahead [] others one = absurd (omega arith)
one_ahead (byte ∷ []) others one = record { byte = byte; others = others; whole = refl; behind = refl }
one_ahead (byte ∷ next ∷ ahead) others one = absurd (omega arith)

pub handed_next : (given : Byte) (old new : LineReader) (left : Option (List ℕ)) (text : List ℕ)
    → map_told (λ l. pending old ++ l) left ≡ Some text → HandedOver given old new → consumes given old.consumed new.consumed
    → NextByte given text old.consumed new.consumed (map_told (λ l. pending new ++ l) left) left
handed_next given old new None text e h c = cc
handed_next (byte.Is b) old new (Some l) text e h c =
    let t : pending old ++ l ≡ text = cc in
    record { rest = pending new ++ l; coming = refl; is = (sym t ∙ ap (λ xs. xs ++ l) h, c) }
handed_next byte.TooMuch old new (Some l) text e h c =
    let t : pending old ++ l ≡ text = cc in
    record {
      rest = pending new ++ l;
      coming = refl;
      is = (
        ap (λ xs. xs ++ l) h.0
            ∙ t,
        c,
        h.1,
        one_ahead (pending new) l h.2,
      );
    }
handed_next byte.End old new (Some l) text e h c = absurd h
handed_next byte.Failed old new (Some l) text e h c = absurd h
