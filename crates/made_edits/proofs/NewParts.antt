-- THE NAME THAT COMES into a new file, as a part, and lists of one and of two parts.
use Rattle.std.proofs.Common.{◌≡◌, ◌≤◌, ℕ, List, [], ◌∷◌, length, map, Some, refl, ap, arith}
use Rattle.ntfs_def.specs.Attribute.{Body, NonResident, Resident, attribute_at, value_of}
use Rattle.ntfs_def.specs.declared.kinds.TheConstants.{FILE_NAME}
use Rattle.volume_def.specs.Files.{Part, Value, content_of, part_of}
use Rattle.record_bytes.specs.AttributeBytes.{part, resident_bytes}
use Rattle.record_bytes.proofs.ResidentLaws.{IsResident-bytes}

-- the bytes of a name in a new file
abbrev pub name_bytes : List ℕ → List ℕ
name_bytes key = resident_bytes FILE_NAME [] 2 key

abbrev pub name_part : ℕ → List ℕ → Part
name_part n key = part n FILE_NAME [] 2 (Value key)

pub name-is : (n : ℕ) (key : List ℕ) → length key ≤ 900 → part_of n (attribute_at (name_bytes key) 0) ≡ name_part n key
name-is n key short =
    (IsResident-bytes FILE_NAME [] 2 key (name_bytes key) (omega arith) (omega arith) (omega arith) refl short
    (λ e. absurd (omega (arith, e))) refl).part n

-- a part that is a value is an attribute that is one
pub value-body : (body : Body) (value : List ℕ) → content_of body ≡ Value value → value_of body ≡ Some value
value-body (Resident v) value e = cc
value-body (NonResident extent text) value e = cc

-- LISTS of one, and of two
head-same : {A : Type 0} {a b : A} {xs ys : List A} → a ∷ xs ≡ b ∷ ys → a ≡ b
head-same e = cc

tail-same : {A : Type 0} {a b : A} {xs ys : List A} → a ∷ xs ≡ b ∷ ys → xs ≡ ys
tail-same e = cc

pub none-mapped : {A B : Type 0} (f : A → B) (xs : List A) → map f xs ≡ [] → xs ≡ []
none-mapped f [] e = refl
none-mapped f (x ∷ xs) e = cc

pub one-mapped : {A B : Type 0} (f : A → B) (xs : List A) (p : B) → map f xs ≡ p ∷ [] → (a : A) × (xs ≡ a ∷ []) × (f a ≡ p)
one-mapped f [] p e = cc
one-mapped f (x ∷ xs) p e = (x, ap (λ ys. x ∷ ys) (none-mapped f xs (tail-same e)), head-same e)

pub two-mapped : {A B : Type 0} (f : A → B) (xs : List A) (p q : B) → map f xs ≡ p ∷ q ∷ []
    → (a : A) × (b : A) × (xs ≡ a ∷ b ∷ []) × (f a ≡ p) × (f b ≡ q)
two-mapped f [] p q e = cc
two-mapped f (x ∷ xs) p q e =
    let rest = one-mapped f xs q (tail-same e) in
    (x, rest.0, ap (λ ys. x ∷ ys) rest.1, head-same e, rest.2)
