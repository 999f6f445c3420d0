-- NO KEY of $R or of $O goes with a file that has no reparse point and no object id.
use Rattle.std.proofs.Common.{◌≡◌, ◌==◌, Bool, true, false, cond, ℕ, List, [], ◌∷◌, Option, Some, None, map, filter, length, refl, ap}
use Rattle.std.proofs.lemmas.Bool.{and_parts, false_from_ne_true}
use Rattle.std.specs.List.{find, list_any}
use Rattle.std.specs.Option.{option_and_then, option_map, option_map_or, option_to_list}
use Rattle.std.specs.Prelude.{is_some, take}
use Rattle.list_laws.proofs.FindLaws.{any-more, find-none, none-counted}
use Rattle.ntfs_def.specs.declared.kinds.TheConstants.{OBJECT_ID}
use Rattle.tree_model.specs.Answers.{bytes_of, is_unnamed_object_id, object_id}
use Rattle.tree_model.specs.Bill.{ids_dropped, removes_file, tags_dropped}
use Rattle.tree_model.specs.Subjects.{Located}
use Rattle.tree_model.specs.Tree.{Tree}
use Rattle.tree_model.specs.declared.command.Command.TheVariants as c
use Rattle.tree_model.specs.declared.tree.Node.{Node}
use Rattle.tree_model.specs.declared.tree.Point.{Point}
use Rattle.tree_model.specs.declared.tree.RawAttr.{RawAttr}
use Rattle.gone_owed.specs.GoneOwed.{IsUnlinked}

never : {b : Bool} → b ≡ true → b ≡ false → ⊥
never x y = cc

either-none : {A : Type 0} (b : Bool) (xs : List A) → xs ≡ [] → cond b xs [] ≡ []
either-none true xs none = none
either-none false xs none = refl

-- the tag of a point
tag-none : (o : Option Node) → option_map_or (λ (node : Node). is_some node.point) o false ≡ false
    → option_to_list (option_map (λ (point : Point). point.tag) (option_and_then (λ (node : Node). node.point) o)) ≡ []
tag-none None none = refl
tag-none (Some node) none = by node.point none
  where
    by : (o : Option Point) → is_some o ≡ false → option_to_list (option_map (λ (point : Point). point.tag) o) ≡ []
    by None e = refl
    by (Some point) e = cc

pub tags-none : (tree : Tree) (path : List (List ℕ)) (at : Located) → IsUnlinked at → tags_dropped tree (c.Rm path) at ≡ []
tags-none tree path at is = either-none (removes_file tree (c.Rm path) at) _ (tag-none at.node is.no_point)

-- the bytes of an object id
id-of : (others : List RawAttr) → list_any (λ (a : RawAttr). a.kind == OBJECT_ID) others ≡ false
    → take 16 (option_map_or (λ (a : RawAttr). bytes_of a.value) (find is_unnamed_object_id others) []) ≡ []
id-of others none =
    let unnamed : list_any is_unnamed_object_id others ≡ false = false_from_ne_true (list_any is_unnamed_object_id others) (λ is.
    never (any-more is_unnamed_object_id (λ (a : RawAttr). a.kind == OBJECT_ID) others (λ a e.
    (and_parts (a.kind == OBJECT_ID) (length a.name == 0) e).0) is) none) in
    ap (λ (o : Option RawAttr). take 16 (option_map_or (λ (a : RawAttr). bytes_of a.value) o []))
    (find-none is_unnamed_object_id others (none-counted is_unnamed_object_id others unnamed))

id-none : (o : Option Node) → option_map_or (λ (node : Node). list_any (λ (a : RawAttr). a.kind == OBJECT_ID) node.others) o false ≡ false
    → filter (λ (id : List ℕ). length id == 16) (map object_id (option_to_list o)) ≡ []
id-none None none = refl
id-none (Some node) none =
    ap (λ (id : List ℕ). filter (λ (id : List ℕ). length id == 16) (id ∷ [])) (id-of node.others none)

pub ids-none : (tree : Tree) (path : List (List ℕ)) (at : Located) → IsUnlinked at → ids_dropped tree (c.Rm path) at ≡ []
ids-none tree path at is = either-none (removes_file tree (c.Rm path) at) _ (id-none at.node is.no_object_id)
