use Rattle.std.proofs.Common.{◌≡◌, ◌<◌, ℕ, length, slice_index, ap, subst, ◌∙◌, arith}
use Rattle.ntfs_def.specs.declared.records.TheConstants.{ROOT}
use Rattle.record_notes.specs.Heads.{head_at}
use Rattle.list_laws.specs.Least.{IsLeastFailing}
use Rattle.volume_clauses.specs.Links.{IsFiled}
use Rattle.volume_clauses.specs.Marks.{IsKnown, is_found, mark_at}
use Rattle.volume_clauses.specs.Tallies.{parent_within, tally_at}
use Rattle.volume_clauses.proofs.LeastFiling.{least-filing}
use Rattle.volume_clauses.proofs.links.first_wrong_filing.Goals as goal

pub returns : goal.returns
returns c records ends heads names references =
    let tallies = c.in_ok-tallies.tallies.items in
    let parents = c.in_ok-parents.parents.items in
    let marks = c.in_ok-marks.marks.items in
    let lent : c.deref.result.now ≡ tallies = c.deref.ensures.value in
    let count : c.count.result ≡ records.count = c.count.ensures ∙ heads.count in
    let all : length tallies ≡ records.count = c.in_ok-tallies.ensures.all ∙ count in
    let long : length parents ≡ records.count = c.in_ok-parents.ensures.all ∙ ap length lent ∙ all in
    let parent : (f : ℕ) → f < length tallies → slice_index parents f ≡ parent_within (length tallies) f (tally_at tallies f).parent =
    subst (λ xs. (f : ℕ) → f < length xs
    → slice_index parents f ≡ parent_within (length xs) f (tally_at xs f).parent) lent c.in_ok-parents.ensures.each in
    let known : (f : ℕ) → f < length parents → IsKnown parents ROOT (mark_at marks f) f =
    subst (λ xs. (f : ℕ) → f < length xs → IsKnown xs ROOT (mark_at marks f) f) c.deref-2.ensures.value c.in_ok-marks.ensures.right in
    least-filing records c.args.heads.now c.args.names.now.names.items tallies parents marks _ ends heads names references
    (record {
      tally = λ f l. c.in_ok-tallies.ensures.each f (omega (arith, count));
      parent = λ f l. subst (λ n. slice_index parents f ≡ parent_within n f (tally_at tallies f).parent) all
          (parent f (omega (arith, all)));
      known = λ f l. known f (omega (arith, long));
    })
    (subst (λ xs. IsLeastFailing
    (λ f. IsFiled f (head_at c.args.heads.now f) (tally_at xs f)
    (is_found (mark_at marks f))) c.first_misfiled.result) c.deref-3.ensures.value
    (subst (λ xs. IsLeastFailing
    (λ f. IsFiled f (head_at c.args.heads.now f) (tally_at c.deref-3.result.now f)
    (is_found (mark_at xs f))) c.first_misfiled.result) c.deref-4.ensures.value
    c.first_misfiled.ensures))
