use Rattle.std.proofs.Common.{rules}
use Rattle.file_clauses.proofs.attributes.is_right_alone.Goals as goal

pub returns-else-not-base : goal.returns-else-not-base
returns-else-not-base c = λ n. (
  λ t. record {
    right = record { resident = λ kept. search rules; name = λ kind. search rules };
    standard = λ _ _. (c.is_standard.ensures n).0 t;
  },
  λ right. (c.is_standard.ensures n).1 (right.standard (search rules) (search rules)),
)
