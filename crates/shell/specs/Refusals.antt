-- The refusals of the words that only read. S1 is the boot clause, S2 the table clause, S3 the one on
-- records and S14 the one on the volume's own record.
use Rattle.std.specs.Prelude.{ℕ}
use Rattle.shell.specs.declared.refusal.Refusal.{Refusal}

-- the boot clause fails with this number
abbrev pub boot_refusal : ℕ → Refusal
boot_refusal number = record { clause = 1; number = number }

-- the table clause fails
abbrev pub no_table : Refusal
no_table = record { clause = 2; number = 0 }

-- record 3 is no record in use that can be read
abbrev pub no_volume_record : Refusal
no_volume_record = record { clause = 3; number = 3 }

-- record 3 tells no version
abbrev pub no_version : Refusal
no_version = record { clause = 14; number = 3 }
