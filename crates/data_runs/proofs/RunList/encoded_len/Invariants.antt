use Rattle.std.proofs.Common.{◌≡◌, ℕ, ◌+◌, ◌*◌, ◌^◌, ◌≤◌, List, length, drop}
use Rattle.ntfs_def.specs.Runs.{IsRunListFrom}
use Rattle.data_runs.specs.Written.{IsWritten, IsWrittenFrom}
use Rattle.data_runs.proofs.RunList.encoded_len.Given as goal

-- the text of all runs is what was counted, and then the text of the runs that are left
abbrev pub invariant-loop-run : goal.invariant-loop-run
invariant-loop-run l = record {
  near : l.last ≤ 2 ^ 62;
  small : l.len ≤ 17 * l.run-index;
  list : (total : ℕ) × IsRunListFrom total (drop l.run-index l.self);
  counted : (text : List ℕ) → IsWritten l.self text
      → (rest : List ℕ) × IsWrittenFrom l.last (drop l.run-index l.self) rest × (length text ≡ l.len + length rest);
}
