use Rattle.std.proofs.Common.{ℕ, zero, suc, ◌<◌, ◌≤◌, ◌+◌, [], ◌∷◌, rules, arith}
use Rattle.mark_write.specs.Logs.{IsOutside}
use Rattle.block_tests.proofs.marks.edit_and_close.Goals as goal

-- the log lies in the sectors from 6 on
outside : (n : ℕ) → n < 6 → IsOutside (record { first = 6; len = 2 } ∷ []) n
outside n low zero below within = let w = within.0 in absurd (omega (arith, w, low))
outside n low (suc i) below within = absurd (omega (arith, below))

pub finish_edit-requires : goal.finish_edit-requires
finish_edit-requires g c =
    let low = c.in_ok-stage_low.ensures.low in
    record {
      can = record {
        place = search rules;
        spans = search rules;
        sound = search rules;
        home = λ told h. let l = low 3 h in absurd (omega (arith, l));
        copy = λ told h. let l = low 5 h in absurd (omega (arith, l));
        plain = λ told n h. outside n (let l = low n h in omega (arith, l));
        apart = λ told. outside 3 omega arith;
        apart_copy = λ told. outside 5 omega arith;
        marked = search rules;
        copied = search rules;
      };
    }
