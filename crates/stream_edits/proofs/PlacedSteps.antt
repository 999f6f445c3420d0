-- CLUSTERS PLACED ONE STEP AFTER ANOTHER are placed in one.
use Rattle.std.proofs.Common.{◌≡◌, ◌<◌, ◌≤◌, ◌⊎◌, ℕ, refl, sym, ap, inl, inr, ◌∙◌, arith}
use Rattle.std.specs.Prelude.{slice_index}
use Rattle.ntfs_def.specs.declared.run_text.Spot.TheVariants.{At, Hole, Outside}
use Rattle.stream_edits.specs.Streams.{ClusterStream}
use Rattle.stream_edits.specs.Steps.{IsFilled, KeepsSpot, Places}

outside-hole : Outside ≡ Hole → ⊥
outside-hole e = cc

hole-at : (c : ℕ) → Hole ≡ At c → ⊥
hole-at c e = cc

outside-at : (c : ℕ) → Outside ≡ At c → ⊥
outside-at c e = cc

pub Places-none : (s : ClusterStream) (from to : ℕ) → Places s s from to
Places-none s from to = record {
  sizes = record { size = refl; initialized = refl; real = refl };
  spots = λ vcn. inl (inl refl);
  outside = λ vcn out. inl refl;
  kept = λ vcn cluster at. refl;
}

-- in a wider range
pub Places-wider : (s t : ClusterStream) (from to low high : ℕ) → low ≤ from → to ≤ high → Places s t from to → Places s t low high
Places-wider s t from to low high le ge p = record {
  sizes = p.sizes;
  spots = p.spots;
  outside = λ vcn out. p.outside vcn (wider vcn out);
  kept = p.kept;
}
  where
    wider : (vcn : ℕ) → (vcn < low) ⊎ (high ≤ vcn) → (vcn < from) ⊎ (to ≤ vcn)
    wider vcn (inl l) = inl (omega arith)
    wider vcn (inr g) = inr (omega arith)

-- spots that are kept twice
keeps-twice : (a b c : ClusterStream) (vcn : ℕ) → KeepsSpot a b vcn → KeepsSpot b c vcn → KeepsSpot a c vcn
keeps-twice a b c vcn (inl e) (inl f) = inl (f ∙ e)
keeps-twice a b c vcn (inl e) (inr f) = inr (sym e ∙ f.0, f.1)
keeps-twice a b c vcn (inr e) (inl f) = inr (e.0, f ∙ e.1)
keeps-twice a b c vcn (inr e) (inr f) = absurd (outside-hole (sym f.0 ∙ e.1))

module _ (a b c : ClusterStream) (from to : ℕ) (p : Places a b from to) (q : Places b c from to) where
  -- a cluster that was filled stays
  filled-stays : (vcn : ℕ) → IsFilled a b vcn → KeepsSpot b c vcn → IsFilled a c vcn
  filled-stays vcn f (inl e) = record {
    hole = f.hole;
    cluster = f.cluster;
    placed = e ∙ f.placed;
    zeros = λ k. ap (λ bytes. slice_index bytes k) (q.kept vcn f.cluster f.placed) ∙ f.zeros k;
  }
  filled-stays vcn f (inr e) = absurd (outside-at f.cluster (sym e.0 ∙ f.placed))

  -- one that was kept is filled
  kept-filled : (vcn : ℕ) → KeepsSpot a b vcn → IsFilled b c vcn → IsFilled a c vcn
  kept-filled vcn k f = record { hole = by k f.hole; cluster = f.cluster; placed = f.placed; zeros = f.zeros }
    where
      by : KeepsSpot a b vcn → (b.spot vcn ≡ Hole) ⊎ (b.spot vcn ≡ Outside) → (a.spot vcn ≡ Hole) ⊎ (a.spot vcn ≡ Outside)
      by (inl e) (inl h) = inl (sym e ∙ h)
      by (inl e) (inr h) = inr (sym e ∙ h)
      by (inr e) h = inr e.0

  filled-twice : (vcn : ℕ) → IsFilled a b vcn → IsFilled b c vcn → ⊥
  filled-twice vcn f g = by g.hole
    where
      by : (b.spot vcn ≡ Hole) ⊎ (b.spot vcn ≡ Outside) → ⊥
      by (inl h) = hole-at f.cluster (sym h ∙ f.placed)
      by (inr h) = outside-at f.cluster (sym h ∙ f.placed)

  spots-twice : (vcn : ℕ) → KeepsSpot a b vcn ⊎ IsFilled a b vcn → KeepsSpot b c vcn ⊎ IsFilled b c vcn
      → KeepsSpot a c vcn ⊎ IsFilled a c vcn
  spots-twice vcn (inl k) (inl m) = inl (keeps-twice a b c vcn k m)
  spots-twice vcn (inl k) (inr f) = inr (kept-filled vcn k f)
  spots-twice vcn (inr f) (inl m) = inr (filled-stays vcn f m)
  spots-twice vcn (inr f) (inr g) = absurd (filled-twice vcn f g)

  -- a cluster that had a place has it still
  still-there : (vcn cluster : ℕ) → a.spot vcn ≡ At cluster → KeepsSpot a b vcn ⊎ IsFilled a b vcn → b.spot vcn ≡ At cluster
  still-there vcn cluster at (inl (inl e)) = e ∙ at
  still-there vcn cluster at (inl (inr e)) = absurd (outside-at cluster (sym e.0 ∙ at))
  still-there vcn cluster at (inr f) = absurd (by f.hole)
    where
      by : (a.spot vcn ≡ Hole) ⊎ (a.spot vcn ≡ Outside) → ⊥
      by (inl h) = hole-at cluster (sym h ∙ at)
      by (inr h) = outside-at cluster (sym h ∙ at)

  pub Places-then : Places a c from to
  Places-then = record {
    sizes = record {
      size = q.sizes.size ∙ p.sizes.size;
      initialized = q.sizes.initialized ∙ p.sizes.initialized;
      real = q.sizes.real ∙ p.sizes.real;
    };
    spots = λ vcn. spots-twice vcn (p.spots vcn) (q.spots vcn);
    outside = λ vcn out. keeps-twice a b c vcn (p.outside vcn out) (q.outside vcn out);
    kept = λ vcn cluster at. q.kept vcn cluster (still-there vcn cluster at (p.spots vcn)) ∙ p.kept vcn cluster at;
  }
