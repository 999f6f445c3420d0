use Rattle.std.proofs.Common.{◌≡◌, ℕ, ◌+◌, ◌*◌, ◌<◌, get_or, length}
use Rattle.volume_format.proofs.item.fill.Given as goal

abbrev pub invariant-loop-i : goal.invariant-loop-i
invariant-loop-i g l = record {
  len : length l.into ≡ 512;
  filled : (j : ℕ) → j < l.i → get_or l.into j 0 ≡ g.I.Item.rule l.fn.item (512 * l.fn.k + j);
}
