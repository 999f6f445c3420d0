use Rattle.std.proofs.Common.{◌≡◌, ℕ, List, ap}
use Rattle.ntfs_def.proofs.AttributeLaws.{length-attributes, slice_get-attributes}
use Rattle.ntfs_def.proofs.ShapeLaws.{HasShape-FailsAt}
use Rattle.attr_view.proofs.OneShape.{FailsAt-exact, HasShape-exact}
use Rattle.attr_view.specs.declared.ViewNo.{ViewNo}
use Rattle.attr_view.specs.declared.ViewNo.TheVariants.{Full, Shape}
use Rattle.ntfs_def.specs.Shape.{HasShape}
use Rattle.attr_view.specs.View.{Refuses}
use Rattle.attr_view.proofs.laws.one_answer.Goals as goal

one_refusal : (block : List ℕ) (one other : ViewNo) → Refuses block one → Refuses block other → one ≡ other
one_refusal block (Shape a) (Shape b) fails also = ap (λ at. Shape at) (FailsAt-exact block a b fails also)
one_refusal block (Shape a) (Full need free) fails also = absurd also
one_refusal block (Full need free) other fails also = absurd fails

pub returns-clause-count : goal.returns-clause-count
returns-clause-count c = HasShape-exact

pub returns-clause-all : goal.returns-clause-all
returns-clause-all c = length-attributes

pub returns-clause-each : goal.returns-clause-each
returns-clause-each c = slice_get-attributes

pub returns-clause-refusal : goal.returns-clause-refusal
returns-clause-refusal c = one_refusal

refused : (block : List ℕ) (count : ℕ) (refusal : ViewNo) → HasShape block count → Refuses block refusal → ⊥
refused block count (Shape at) shape fails = HasShape-FailsAt block count at shape fails
refused block count (Full need free) shape fails = absurd fails

pub returns-clause-either : goal.returns-clause-either
returns-clause-either c = refused
