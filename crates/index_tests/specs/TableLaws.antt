-- What the law of records that can be edited wants of records in memory.
use Rattle.std.proofs.Common.{◌≡◌, ℕ, List, Option, Some, ap, sym, ◌∙◌, subst}
use Rattle.index_node.specs.Edit.{IsOpened}
use Rattle.index_tests.specs.Table.{slot_at}

some_same : {X : Type 0} {a b : X} → Some a ≡ Some b → a ≡ b
some_same e = cc

pub opened_of : (slots : List (Option (List ℕ))) → ((vcn : ℕ) (bytes : List ℕ) → slot_at slots vcn ≡ Some bytes → IsOpened vcn bytes)
    → (r : ℕ → Option (List ℕ)) → Some (slot_at slots) ≡ Some r → (vcn : ℕ) (bytes : List ℕ) → r vcn ≡ Some bytes → IsOpened vcn bytes
opened_of slots opened r e vcn bytes is = opened vcn bytes (ap (λ f. f vcn) (some_same e) ∙ is)

pub then_same : {a b c : ℕ} → b ≡ a → c ≡ b → c ≡ a
then_same e f = f ∙ e
