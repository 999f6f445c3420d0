-- WHAT A FILE THAT GOES TAKES: nothing. It is of no plan then.
use Rattle.std.specs.Prelude.{ℕ, ◌==◌}
use Rattle.edit_def.specs.Account.{Wants}

abbrev pub going_wants : ℕ → Wants
going_wants n = record { clusters = 0; parts = λ f. 0; units = λ f. 0; goes = λ f. f == n; records = 0 }
