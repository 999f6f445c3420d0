use Rattle.std.proofs.Common.{subst}
use Rattle.record_calls.specs.Marks.{marks_of}
use Rattle.gone_edits.specs.Between.{HasExited, HasNoName, IsFreed, KeepsRows}
use Rattle.gone_edits.specs.Exits.{ExitsIndex}
use Rattle.gone_edits.specs.Goes.{CanGo}
use Rattle.gone_edits.proofs.Steps as steps
use Rattle.gone_edits.proofs.between.between_gone.Goals as goal

pub returns : goal.returns
returns c = record {
  exited = λ old left was n dir file parent name key can right exits.
      subst (λ d. CanGo old n d file parent name → ExitsIndex old left d key → HasExited old left (marks_of was) n d) can.inside
      (λ can exits. steps.has-exited old left was n file parent name key can right exits) can exits;
  unnamed = λ old left counted was n dir file parent name key can right exits quits.
      subst (λ d. CanGo old n d file parent name → ExitsIndex old left d key → HasNoName counted (marks_of was) n) can.inside
      (λ can exits. steps.has-no-name old left was n file parent name key can right exits counted quits) can exits;
  freed = λ old left counted freed was now n dir file parent name key can right exits quits frees given.
      subst (λ d. CanGo old n d file parent name → ExitsIndex old left d key → IsFreed freed (marks_of now) n) can.inside
      (λ can exits. steps.is-freed old left was n file parent name key can right exits counted quits freed now frees given) can exits;
  rows = λ old left counted freed was now n dir file parent name key can right exits quits frees given.
      subst (λ d. CanGo old n d file parent name → ExitsIndex old left d key → KeepsRows old counted freed now n) can.inside
      (λ can exits. steps.keeps-rows old left was n file parent name key can right exits counted quits freed now frees given) can exits;
}
