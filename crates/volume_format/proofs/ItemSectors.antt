-- A sector that was filled byte by byte.
use Rattle.std.proofs.Common.{◌≡◌, ℕ, ◌+◌, ◌*◌, ◌<◌, List, length, get_or, sym, ◌∙◌, refl, arith}
use Rattle.std.proofs.lemmas.Grind.{same_number_lists}
use Rattle.std.proofs.lemmas.List.FromFn.{length-map-range_with_len, get_or-map-range_with_len}
use Rattle.volume_format.specs.Items.{item_sector}

-- it is that of the rule
pub item_sector-filled : (rule : ℕ → ℕ) (k : ℕ) (bytes : List ℕ) → length bytes ≡ 512
    → ((j : ℕ) → j < 512 → get_or bytes j 0 ≡ rule (512 * k + j)) → bytes ≡ item_sector rule k
item_sector-filled rule k bytes len each =
    same_number_lists bytes (item_sector rule k) (len ∙ sym (length-map-range_with_len rule (512 * k) 512))
    (λ j lt. each j (omega arith) ∙ sym (get_or-map-range_with_len rule (512 * k) 512 j (512 * k + j) 0 (omega arith) refl))
