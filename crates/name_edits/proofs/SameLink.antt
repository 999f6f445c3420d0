-- Links are told apart by what is compared of them.
use Rattle.std.proofs.Common.{eq-eqb, eqb-true, refl, true, ◌==◌, ◌≡◌}
use Rattle.std.specs.Str.{bytes_eq}
use Rattle.std.proofs.lemmas.Bool.{and_parts}
use Rattle.std.proofs.lemmas.Slice.Eq.{bytes_eq-Decides}
use Rattle.tree_model.specs.Drops.{is_link}
use Rattle.tree_model.specs.declared.tree.Link.{Link}

pub is_link-itself : (link : Link) → is_link link link ≡ true
is_link-itself link =
    rw (
      eq-eqb link.parent link.parent refl,
      (bytes_eq-Decides link.name link.name).1 refl,
      eq-eqb link.space link.space refl,
      eq-eqb link.child link.child refl,
    ) refl

pub is_link-exact : (a b : Link) → is_link a b ≡ true → a ≡ b
is_link-exact a b e =
    let p = and_parts _ (a.child == b.child) e in
    let q = and_parts _ (a.space == b.space) p.0 in
    let r = and_parts (a.parent == b.parent) (bytes_eq a.name b.name) q.0 in
    let x = eqb-true a.parent b.parent r.0 in
    let n = (bytes_eq-Decides a.name b.name).0 r.1 in
    let s = eqb-true a.space b.space q.1 in
    let c = eqb-true a.child b.child p.1 in
    λ i. record { parent = x i; name = n i; space = s i; child = c i }
