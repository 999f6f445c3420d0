-- What a stored block opens to: byte by byte, and with its array.
use Rattle.std.proofs.Common.{◌∙◌, ◌≤◌, ◌<◌, ◌%◌, ◌/◌, ◌-◌, ◌+◌, ◌≡◌, List, ap, arith, cond, get_or, length, sym, ℕ}
use Rattle.std.proofs.lemmas.Bool.{le-ltb}
use Rattle.std.proofs.lemmas.Grind.{same_number_lists}
use Rattle.ntfs_def.specs.Fixup.{HasArray, IsSealed, opened_byte, opened_of, pair_place}
use Rattle.ntfs_def.proofs.FixupLaws.{HasArray-opened_of, get_or-opened_of, length-opened_of}

-- a list with these bytes is the opened block
pub opened_of-exact : (stored other : List ℕ) → length other ≡ length stored
    → ((k : ℕ) → k < length stored → get_or other k 0 ≡ opened_byte stored k) → other ≡ opened_of stored
opened_of-exact stored other len each =
    let opened = λ (k : ℕ) (lt : k < length other). each k (omega (arith, len)) ∙ sym (get_or-opened_of stored k (omega (arith, len))) in
    same_number_lists other (opened_of stored) (len ∙ sym (length-opened_of stored)) opened

-- at the end of a stride the bytes come from the array
pub opened_of-end : (stored : List ℕ) (k : ℕ) → k < length stored → 510 ≤ k % 512
    → get_or (opened_of stored) k 0 ≡ get_or stored (pair_place stored (k / 512) + (k % 512 - 510)) 0
opened_of-end stored k inside past =
    get_or-opened_of stored k inside
    ∙ ap (λ b. cond b (get_or stored k 0) (get_or stored (pair_place stored (k / 512) + (k % 512 - 510)) 0)) (le-ltb (k % 512) 510 past)

-- what a stored block opens to has the array still
pub HasArray-opens : (stored opened : List ℕ) → IsSealed stored → opened ≡ opened_of stored → HasArray opened
HasArray-opens stored opened s is = rw is (HasArray-opened_of stored s.array)
