-- Items that stand stay where sectors behind them are written.
use Rattle.std.proofs.Common.{◌≡◌, ℕ, ◌+◌, ◌<◌, ◌≤◌, List, inl, inr, subst, ◌∙◌, arith}
use Rattle.std.proofs.Math.Nat.{mul-le-mul_left}
use Rattle.volume_format.specs.Plan.{Plan, clusters_needed}
use Rattle.volume_format.specs.Written.{SameOutsideClusters, Stands, sector_at, sectors_per}

pub sector_at-rises : (p : Plan) (a b : ℕ) → a ≤ b → sector_at p a ≤ sector_at p b
sector_at-rises p a b le = omega (arith, mul-le-mul_left (sectors_per p) le)

module _ (old new : ℕ → List ℕ) (p : Plan) (from to : ℕ) (same : SameOutsideClusters old new p from to) where
  -- an item in front of them
  pub Stands-kept : (at len : ℕ) (rule : ℕ → ℕ) → at + clusters_needed p len ≤ from → Stands old p at len rule → Stands new p at len rule
  Stands-kept at len rule before stands =
      let rises : sector_at p (at + clusters_needed p len) ≤ sector_at p from = sector_at-rises p _ _ before in
      record {
        sector = λ k lt.
            let low : sector_at p at + k < sector_at p from = omega arith in
            same (sector_at p at + k) (inl low) ∙ stands.sector k lt;
      }

  -- the same of more sectors
  pub SameOutsideClusters-wider : (low high : ℕ) → low ≤ from → to ≤ high → SameOutsideClusters old new p low high
  SameOutsideClusters-wider low high begins ends sector (inl lt) =
      let rises : sector_at p low ≤ sector_at p from = sector_at-rises p _ _ begins in same sector (inl (omega arith))
  SameOutsideClusters-wider low high begins ends sector (inr le) =
      let rises : sector_at p to ≤ sector_at p high = sector_at-rises p _ _ ends in same sector (inr (omega arith))

-- two writes, one behind the other
pub SameOutsideClusters-twice : (old mid new : ℕ → List ℕ) (p : Plan) (from to : ℕ) → SameOutsideClusters old mid p from to
    → SameOutsideClusters mid new p from to → SameOutsideClusters old new p from to
SameOutsideClusters-twice old mid new p from to a b sector outside = b sector outside ∙ a sector outside

-- Three items that were written one behind the other, from cluster `at` on.
pub record ThreeWritten (p : Plan) (one two three : ℕ → List ℕ) (at then last : ℕ) (a b c : ℕ) (f g h : ℕ → ℕ) : Type 0 where
  pub first : Stands one p at a f
  pub second : Stands two p then b g
  pub third : Stands three p last c h
  pub behind : SameOutsideClusters one two p then (then + clusters_needed p b)
  pub last_behind : SameOutsideClusters two three p last (last + clusters_needed p c)
  pub then_is : then ≡ at + clusters_needed p a
  pub last_is : last ≡ then + clusters_needed p b

module _ (p : Plan) (one two three : ℕ → List ℕ) (at then last : ℕ) (a b c : ℕ) (f g h : ℕ → ℕ)
    (written : ThreeWritten p one two three at then last a b c f g h) where
  moved : (at place len : ℕ) (rule : ℕ → ℕ) → at ≡ place → Stands three p at len rule → Stands three p place len rule
  moved at place len rule e stands = subst (λ n. Stands three p n len rule) e stands

  -- they all stand
  pub first-stands : (place : ℕ) → at ≡ place → Stands three p place a f
  first-stands place e =
      moved at place a f e
      (Stands-kept two three p last _ written.last_behind at a f (omega (arith, written.then_is, written.last_is))
      (Stands-kept one two p then _ written.behind at a f (omega (arith, written.then_is)) written.first))

  pub second-stands : (place : ℕ) → at + clusters_needed p a ≡ place → Stands three p place b g
  second-stands place e =
      moved then place b g (written.then_is ∙ e)
      (Stands-kept two three p last _ written.last_behind then b g (omega (arith, written.last_is)) written.second)

  pub third-stands : (place : ℕ) → at + clusters_needed p a + clusters_needed p b ≡ place → Stands three p place c h
  third-stands place e = moved last place c h (omega (arith, written.then_is, written.last_is, e)) written.third
