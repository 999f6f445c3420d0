use Rattle.std.proofs.Common.{ℕ, ◌^◌, ◌≤◌, drop}
use Rattle.ntfs_def.specs.Runs.{IsRunListFrom}
use Rattle.data_runs.proofs.EncodeLaws.{IsBegun}
use Rattle.data_runs.proofs.RunList.encode_into.Given as goal

abbrev pub invariant-loop-run : goal.invariant-loop-run
invariant-loop-run l = record {
  near : l.last ≤ 2 ^ 62;
  list : (total : ℕ) × IsRunListFrom total (drop l.run-index l.self);
  begun : IsBegun l.self l.run-index l.last l.initial.out l.out l.at;
}
