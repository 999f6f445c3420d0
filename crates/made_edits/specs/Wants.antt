-- WHAT A FILE THAT COMES UNDER ONE NAME TAKES: a record, and three parts of the file, of a directory one that has a name.
use Rattle.std.specs.Prelude.{ℕ, Bool, false, codes, if◌then◌else◌, length}
use Rattle.edit_def.specs.Account.{Wants, at_file}

-- so many parts of file n, units of names of attributes, and records; no cluster
abbrev pub wants_named : ℕ → ℕ → ℕ → ℕ → Wants
wants_named n count units records =
    record { clusters = 0; parts = at_file n count; units = at_file n units; goes = λ f. false; records = records }

abbrev pub wants_parts : ℕ → ℕ → ℕ → Wants
wants_parts n count records = wants_named n count 0 records

-- the units of the name of its body: of a directory those of its index
abbrev pub body_units : Bool → ℕ
body_units directory = if directory then length (codes "$I30") else 0

-- the file without its name, and then its name
abbrev pub making_wants : Bool → ℕ → Wants
making_wants directory n = wants_named n 2 (body_units directory) 1

abbrev pub naming_wants : ℕ → Wants
naming_wants n = wants_parts n 1 0

-- both
abbrev pub made_wants : Bool → ℕ → Wants
made_wants directory n = wants_named n 3 (body_units directory) 1
