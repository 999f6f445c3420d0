-- The units that a key is compared by, one by one.
use Rattle.std.proofs.Common.{◌≡◌, ◌≢◌, ◌&&◌, nat_le, ℕ, ◌+◌, ◌*◌, ◌<◌, ◌≤◌, List, length, ap, ◌∙◌, IsTrue, arith}
use Rattle.std.specs.Prelude.{◌==◌, slice_index}
use Rattle.std.proofs.lemmas.Bool.{and_parts, leb-true, ne_eqb}
use Rattle.std.proofs.lemmas.List.FromFn.{get_or-map-range_with_len, length-map-range_with_len}
use Rattle.vol_bytes.specs.Field.{u16_at}
use Rattle.ntfs_def.specs.FileName.{is_name_key, key_units, unit_count}
use Rattle.ntfs_def.specs.Units.{units_at}
use Rattle.dir_index.specs.Sought.{is_sought_key, sought_units}
use Rattle.dir_index.proofs.SoughtOrders.{own_units}
use Rattle.list_laws.proofs.BoolLaws.{or_last}

-- a key that is not empty is a name's
pub own_key : (key : List ℕ) → 0 < length key → IsTrue (is_sought_key key) → IsTrue (is_name_key key)
own_key key some valid =
    let other : length key ≢ 0 = omega arith in
    or_last (length key == 0) (is_name_key key) (ne_eqb (length key) 0 other) valid

-- the units of a key, by their number and places
pub key_units-count : (key : List ℕ) → length (key_units key) ≡ unit_count key
unfolding units_at
key_units-count key = length-map-range_with_len (λ k. u16_at key (0x42 + 2 * k)) 0 (unit_count key)

pub key_units-at : (key : List ℕ) (i : ℕ) → i < unit_count key → slice_index (key_units key) i ≡ u16_at key (0x42 + 2 * i)
unfolding units_at
key_units-at key i inside = get_or-map-range_with_len (λ k. u16_at key (0x42 + 2 * k)) 0 (unit_count key) i i 0 inside (omega arith)

pub own_count : (name key : List ℕ) → 0 < length key → IsTrue (is_sought_key key) → length (sought_units name key) ≡ unit_count key
own_count name key some valid = ap length (own_units name key (own_key key some valid)) ∙ key_units-count key

pub own_at : (name key : List ℕ) (i : ℕ) → 0 < length key → IsTrue (is_sought_key key) → i < unit_count key
    → slice_index (sought_units name key) i ≡ u16_at key (0x42 + 2 * i)
own_at name key i some valid inside =
    ap (λ xs. slice_index xs i) (own_units name key (own_key key some valid)) ∙ key_units-at key i inside

-- .. and each of them lies in the key
pub own_inside : (name key : List ℕ) (i : ℕ) → 0 < length key → IsTrue (is_sought_key key) → i < length (sought_units name key)
    → 0x42 + 2 * i + 2 ≤ length key
own_inside name key i some valid inside =
    let count = own_count name key some valid in
    let parts = and_parts (nat_le 0x42 (length key) && nat_le 1 (unit_count key)) (nat_le (0x42 + 2 * unit_count key) (length key))
    (own_key key some valid) in
    let whole : 0x42 + 2 * unit_count key ≤ length key = leb-true (0x42 + 2 * unit_count key) (length key) parts.1 in
    omega arith
