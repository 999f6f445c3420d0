-- One more write behind the others.
use Rattle.std.proofs.Common.{◌≡◌, ℕ, ◌≤◌, List, [], ◌∷◌, ◌++◌, length, take, ap, refl, arith}
use Rattle.std.proofs.lemmas.List.{take-append-le}
use Rattle.std.specs.Prelude.{All}
use Rattle.std.specs.List.{AllByRecursion}
use Rattle.std.proofs.lemmas.List.Elements.{recursion_from_All}
use Rattle.vol_disk.specs.declared.mem_disk.Write.{Write}
use Rattle.vol_disk.specs.Contents.{with_sector}
use Rattle.vol_disk.specs.Replay.{replay, contents_at}

-- no write
pub replay-none : (writes : List Write) (first : List ℕ) → length writes ≡ 0 → first ≡ replay writes first
replay-none [] first h = refl
replay-none (w ∷ writes) first h = absurd (omega arith)

-- it is done last
pub replay-push : (writes : List Write) (write : Write) (first : List ℕ)
    → replay (writes ++ write ∷ []) first ≡ with_sector (replay writes first) write.sector write.bytes
replay-push [] write first = refl
replay-push (w ∷ writes) write first = replay-push writes write (with_sector first w.sector w.bytes)

-- and it changes no contents before it
pub replay-before : (k : ℕ) (writes : List Write) (write : Write) (first : List ℕ)
    → k ≤ length writes → replay (take k (writes ++ write ∷ [])) first ≡ replay (take k writes) first
replay-before k writes write first h = ap (λ writes. replay writes first) (take-append-le k writes (write ∷ []) h)

contents_at-more : (places : List ℕ) (writes : List Write) (write : Write) (first : List ℕ)
    → AllByRecursion (λ k. k ≤ length writes) places
    → contents_at places (writes ++ write ∷ []) first ≡ contents_at places writes first
contents_at-more [] writes write first h = refl
contents_at-more (k ∷ places) writes write first h =
    let here : k ≤ length writes = h.0 in
    rw (take-append-le k writes (write ∷ []) here, contents_at-more places writes write first h.1) refl

-- and it changes no earlier contents
pub contents_at-push : (places : List ℕ) (writes : List Write) (write : Write) (first : List ℕ)
    → All (λ k. k ≤ length writes) places
    → contents_at places (writes ++ write ∷ []) first ≡ contents_at places writes first
contents_at-push places writes write first h = contents_at-more places writes write first (recursion_from_All _ _ h)
