-- What is left of a run.
use Rattle.std.specs.Prelude.{ℕ, ◌+◌, ◌-◌, nat_lt, List, [], ◌∷◌, Option, Some, None, if◌then◌else◌}
use Rattle.std.specs.Option.{option_map}
use Rattle.ntfs_def.specs.declared.run_text.Run.{Run}

-- the run without its first n clusters
abbrev pub without_first : Run → ℕ → Run
without_first run n = record { len = run.len - n; lcn = option_map (λ lcn. lcn + n) run.lcn }

-- What is left of the run that holds cluster n of the stream, from that cluster on; `None` behind the runs.
unfoldable pub run_left : List Run → ℕ → Option Run
run_left [] n = None
run_left (run ∷ runs) n = if nat_lt n run.len then Some (without_first run n) else run_left runs (n - run.len)
