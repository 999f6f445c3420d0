-- What a path leads to, once it is known where its last name stands.
use Rattle.std.proofs.Common.{◌≡◌, ℕ, List, [], ◌∷◌, Ok, Err, ap, arith, length, refl, ◌∙◌}
use Rattle.ntfs_def.specs.declared.records.TheConstants.{ROOT}
use Rattle.tree_model.specs.Paths.{Place, and_then, last_place, lookup, reached, resolve}
use Rattle.tree_model.specs.Tree.{Tree}
use Rattle.tree_model.specs.declared.reply.No.{No}
use Rattle.tree_model.specs.declared.tree.Found.TheVariants as found

pub resolve-root : (tree : Tree) (path : List (List ℕ)) → length path ≡ 0 → resolve tree path ≡ Ok found.Root
unfolding resolve
resolve-root tree [] e = refl
resolve-root tree (name ∷ names) e = absurd (omega arith)

pub resolve-stops : (tree : Tree) (path : List (List ℕ)) (name : List ℕ) (names : List (List ℕ)) (refused : No) → path ≡ name ∷ names
    → last_place tree ROOT name names ≡ Err refused → resolve tree path ≡ Err refused
unfolding resolve
resolve-stops tree path name names refused is stops =
    ap (resolve tree) is ∙ ap (λ at. and_then at (λ place. reached tree (lookup tree place.directory place.name))) stops

pub resolve-goes : (tree : Tree) (path : List (List ℕ)) (name : List ℕ) (names : List (List ℕ)) (place : Place) → path ≡ name ∷ names
    → last_place tree ROOT name names ≡ Ok place → resolve tree path ≡ reached tree (lookup tree place.directory place.name)
unfolding resolve
resolve-goes tree path name names place is goes =
    ap (resolve tree) is ∙ ap (λ at. and_then at (λ place. reached tree (lookup tree place.directory place.name))) goes
