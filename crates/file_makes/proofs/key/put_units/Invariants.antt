use Rattle.std.proofs.Common.{◌≡◌, ℕ, ◌+◌, ◌*◌, ◌<◌, length}
use Rattle.std.specs.Prelude.{slice_index}
use Rattle.vol_bytes.specs.Field.{SameOutside, u16_at}
use Rattle.file_makes.proofs.key.put_units.Given as goal

abbrev pub invariant-units : goal.invariant-units
invariant-units l = record {
  rest : SameOutside l.initial.key l.key 0x42 (0x42 + 2 * length l.name);
  units : (j : ℕ) → j < l.k → u16_at l.key (0x42 + 2 * j) ≡ slice_index l.name j;
}
