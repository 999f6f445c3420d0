-- THE COST, where clusters were taken: each is on the bill, which pays for more sectors than the two that its flag may take.
use Rattle.std.proofs.Common.{◌≡◌, ◌≤◌, ◌+◌, ◌*◌, ◌/◌, ℕ, [], ◌∷◌, subst, arith}
use Rattle.std.proofs.Math.Nat.{mul-le-mul_right}
use Rattle.volume_def.specs.Sound.{IsSound}
use Rattle.volume_def.specs.View.{VolumeView}
use Rattle.tree_model.specs.Need.{Bill, need_of}
use Rattle.tree_model.specs.Reading.{read}
use Rattle.tree_model.specs.Subjects.{Located}
use Rattle.tree_model.specs.Tree.{Tree}
use Rattle.tree_model.specs.declared.command.Command.{Command}
use Rattle.session_def.specs.Cost.{bytes_in, cost_of, depths, given_back, need_for}
use Rattle.session_def.specs.Named.{timed}
use Rattle.session_def.specs.State.{State}
use Rattle.value_edits.specs.SetsInPlace.{links_of}
use Rattle.value_edits.proofs.CostLaws.{names-depth}
use Rattle.value_edits.proofs.InPlaceCommands.{DoesLittle}

-- the need is that of the clusters at least
pub need-least : (size free : ℕ) (bill : Bill) → bill.clusters ≤ need_of size free bill
need-least size free bill = omega arith

cost-least : (old new : VolumeView) (before next : Tree) (command : Command) (at : Located) (made : ℕ)
    → 24 * (depths old before command at made + 4) + 6 * (need_for old before command at + 2) + bytes_in command / 512
    + 2 * given_back old new ≤ cost_of old new before next command at made
unfolding cost_of
cost-least old new before next command at made =
    let sectors : 6 * (need_for old before command at + 2) ≤ (old.layout.cluster_sectors + 6) * (need_for old before command at + 2) =
    mul-le-mul_right (need_for old before command at + 2) (omega arith) in
    omega (arith, sectors)

pub cost-taking : (before next : State) (command : Command) (at : Located) (made : ℕ) → IsSound before.view
    → read before.view ≡ before.machine.tree → DoesLittle before.machine.tree command at → timed command at made ≡ at.file ∷ []
    → 12 * links_of before.machine.tree at.file + bytes_in command / 512 + 96 + 2 * given_back before.view next.view
    + 6 * need_for before.view before.machine.tree command at
    ≤ cost_of before.view next.view before.machine.tree next.machine.tree command at made
cost-taking before next command at made sound reading little one =
    let tree = before.machine.tree in
    let deep : links_of tree at.file ≤ depths before.view tree command at made =
    subst (λ t. DoesLittle t command at → links_of t at.file ≤ depths before.view t command at made) reading
    (λ little. names-depth before.view sound command at made little one) little in
    let cost = cost-least before.view next.view tree next.machine.tree command at made in
    omega (arith, deep, cost)
