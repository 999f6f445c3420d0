use Rattle.std.proofs.Common.{◌≡◌, ◌+◌, ◌-◌, ◌/◌, ◌<◌, ℕ, zero, suc, max, inl, inr, refl, ap, ◌∙◌, arith}
use Rattle.std.specs.Prelude.{if◌then◌else◌}
use Rattle.std.proofs.lemmas.Bool.{cases_eq, eq-eqb, ne_eqb}
use Rattle.ntfs_def.specs.Rounded.{clusters_for}
use Rattle.file_room.proofs.ValueLaws.{new-none, new-some}
use Rattle.file_room.proofs.value.clusters_of_value.Goals as goal

pub overflow_add-result : goal.overflow_add-result
overflow_add-result c =
    omega (arith, c.clusters_for-front.ensures.few, c.touched_behind.ensures.few, c.requires.near, c.ranges.value.fits)

pub returns-clause-few : goal.returns-clause-few
returns-clause-few c most low near =
    omega (arith, low, near, c.clusters_for-front.ensures.few, c.touched_behind.ensures.few)

pub returns-clause-clusters : goal.returns-clause-clusters
returns-clause-clusters c extents long nowhere =
    let a = c.args in
    let front = c.clusters_for-front.ensures.clusters in
    let behind = clusters_for (a.from + a.len) a.size - max c.clusters_for-front.result (a.from / a.size) in
    elim (cases_eq a.len 0) [
      | inl none ↦
          let touched = c.touched_behind.ensures.behind ∙ ap (λ b. if b then 0 else behind) (eq-eqb a.len 0 none) in
          omega (arith, touched, front, new-none a.size a.from a.len a.value extents c.requires.some long nowhere none)
      | inr one ↦
          let touched = c.touched_behind.ensures.behind ∙ ap (λ b. if b then 0 else behind) (ne_eqb a.len 0 one) in
          let some : 0 < a.len = by a.len one in
          let most = ap (λ n. max n (a.from / a.size)) front in
          omega (arith, touched, front, most, new-some a.size a.from a.len a.value extents c.requires.some long nowhere some)
    ]
  where
    by : (n : ℕ) → (n ≡ 0 → ⊥) → 0 < n
    by zero one = absurd (one refl)
    by (suc n) one = omega arith
