-- A walk that ascends by one order rises by each coarser one.
use Rattle.std.proofs.Common.{◌≡◌, ◌≢◌, ℕ, List, [], ◌∷◌, refl, sym, ap, ◌∙◌}
use Rattle.std.specs.declared.cmp.Ordering.{Ordering}
use Rattle.std.specs.declared.cmp.Ordering.TheVariants.{Less, Equal, Greater}
use Rattle.std.specs.Ordering.{ordering_reverse}
use Rattle.std.specs.Cmp.{IsTotalOrder}
use Rattle.ntfs_def.specs.Node.{Item}
use Rattle.ntfs_def.specs.IndexTree.{Ascends}
use Rattle.index_tree.specs.Search.{IsBefore, Rises}
use Rattle.index_tree.proofs.IndexTreeLaws.{Each-map}

module _ (order : List ℕ → List ℕ → Ordering) (laws : IsTotalOrder order) where
  pub before_of : (x y key : List ℕ) → order x y ≢ Greater → IsBefore (order x key) (order y key)
  before_of x y key ne = go (order x y) refl
    where
      go : (o : Ordering) → order x y ≡ o → IsBefore (order x key) (order y key)
      go Less e = record {
        low = λ h. laws.trans x y key e h;
        high = λ h.
            let a : order key x ≡ Less = laws.antisymm key x ∙ ap ordering_reverse h in
            let b : order key y ≡ Less = laws.trans key x y a e in
            laws.antisymm y key ∙ ap ordering_reverse b;
      }
      go Equal e = record {
        low = λ h. laws.congr x y key e ∙ h;
        high = λ h. sym (laws.congr x y key e) ∙ h;
      }
      go Greater e = absurd (ne e)

  pub rises_of : (fine : List ℕ → List ℕ → Ordering) → ((x y : List ℕ) → fine x y ≡ Less → order x y ≢ Greater)
      → (key : List ℕ) (xs : List Item) → Ascends fine xs → Rises (λ x. order x key) xs
  rises_of fine agree key [] h = tt
  rises_of fine agree key (x ∷ xs) h = (
    Each-map (λ (y : Item). fine x.key y.key ≡ Less) (λ (y : Item). IsBefore (order x.key key) (order y.key key))
        (λ y e. before_of x.key y.key key (agree x.key y.key e)) xs h.0,
    rises_of fine agree key xs h.1,
  )
