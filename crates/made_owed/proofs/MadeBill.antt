-- THE BILL of `create` and `mkdir`: of all changes of indexes that of the directory alone has an entry that comes, so the bill counts one,
-- and touches the directory and the new file.
use Rattle.std.proofs.Common.{◌≡◌, ◌<◌, ◌≤◌, ◌+◌, ◌==◌, ◌||◌, ◌++◌, ℕ, zero, suc, Bool, true, false, cond, List, [], ◌∷◌, filter}
use Rattle.std.proofs.Common.{append-nil, append_assoc, map, max, nat_lt, Some, inl, inr, refl, sym, ap, ◌∙◌, arith, if◌then◌else◌}
use mathlib.Core.Path.{fun_ext}
use Rattle.std.proofs.lemmas.Bool.{cases_eq, eq-eqb, ne_eqb}
use Rattle.std.specs.List.{range_with_len}
use Rattle.std.specs.Option.{option_to_list}
use Rattle.volume_def.specs.Files.{parts, records_of}
use Rattle.volume_def.specs.Room.{list_len_of, longest_name}
use Rattle.volume_def.specs.Table.{cluster_bytes}
use Rattle.volume_def.specs.View.{VolumeView}
use Rattle.tree_model.specs.Bill.{Change, bill_of, bill_with, changes_of, clusters_of, counted_in, counted_of, directory_change, is_touched}
use Rattle.tree_model.specs.Bill.{object_id_change, point_change, touches_file}
use Rattle.tree_model.specs.IndexRoom.{Index, directory_index, index_depth, object_id_index, point_index}
use Rattle.tree_model.specs.Need.{Bill, Counted, Touched}
use Rattle.tree_model.specs.Subjects.{Located}
use Rattle.tree_model.specs.Tree.{Tree}
use Rattle.tree_model.specs.declared.command.Command.{Command}
use Rattle.file_room.specs.Made.{made_bill}
use Rattle.file_room.specs.Asked.{new_touched}
use Rattle.made_owed.specs.MadeOwed.{at_name, made_command}

-- changes without entries count nothing
abbrev counts : VolumeView → List Change → List Counted
counts view changes = filter (λ (counted : Counted). nat_lt 0 counted.entries) (map (counted_in view) changes)

counts-none : {X : Type 0} (view : VolumeView) (change : X → Change) (xs : List X) (rest : List Change)
    → ((x : X) → (counted_in view (change x)).entries ≡ 0) → counts view (map change xs ++ rest) ≡ counts view rest
counts-none view change [] rest none = refl
counts-none view change (x ∷ xs) rest none =
    ap (λ entries. cond (nat_lt 0 entries) (counted_in view (change x) ∷ counts view (map change xs ++ rest))
    (counts view (map change xs ++ rest))) (none x)
    ∙ counts-none view change xs rest none

-- THE NUMBER of the directory comes once among all.
abbrev touched_from : ℕ → ℕ → ℕ → List Counted → List ℕ
touched_from file from n counted = filter (is_touched false file counted) (range_with_len from n)

-- EITHER COMMAND drops nothing, changes no other index, and touches no file but for its entries.
change-plain : (directory : Bool) (tree : Tree) (path : List (List ℕ)) (dir : ℕ) (units : List ℕ) (d : ℕ)
    → directory_change tree (made_command directory path) (at_name dir units) d
    ≡ record { index = directory_index d; added = if dir == d then 1 else 0; dropped = [] }
change-plain true tree path dir units d = refl
change-plain false tree path dir units d = refl

point-none : (directory : Bool) (view : VolumeView) (tree : Tree) (path : List (List ℕ)) (dir : ℕ) (units : List ℕ) (index : Index)
    → (counted_in view (point_change view tree (made_command directory path) (at_name dir units) index)).entries ≡ 0
point-none true view tree path dir units index = refl
point-none false view tree path dir units index = refl

id-none : (directory : Bool) (view : VolumeView) (tree : Tree) (path : List (List ℕ)) (dir : ℕ) (units : List ℕ) (index : Index)
    → (counted_in view (object_id_change tree (made_command directory path) (at_name dir units) index)).entries ≡ 0
id-none true view tree path dir units index = refl
id-none false view tree path dir units index = refl

-- a directory as it is touched, which gets no longer name of an attribute
abbrev touched_plain : VolumeView → ℕ → Touched
touched_plain view f =
    record { file = Some f; list_len = list_len_of view f; name_units = max (longest_name (parts (records_of view) f)) 0 }

bill-plain : (directory : Bool) (view : VolumeView) (tree : Tree) (path : List (List ℕ)) (dir : ℕ) (units : List ℕ)
    (counted : List Counted) → bill_with (cluster_bytes view.layout) view tree (made_command directory path) (at_name dir units) counted
    ≡ record {
      new_files = 1;
      clusters = 0;
      touched = map (touched_plain view) (touched_from 0 0 view.layout.count counted) ++ new_touched directory ∷ [];
      counted = counted;
    }
unfolding clusters_of touches_file
bill-plain true view tree path dir units counted = refl
bill-plain false view tree path dir units counted = refl

module _ (directory : Bool) (view : VolumeView) (tree : Tree) (path : List (List ℕ)) (dir : ℕ) (units : List ℕ) where
  abbrev command : Command
  command = made_command directory path

  abbrev at : Located
  at = at_name dir units

  abbrev one : Counted
  one = record { file = dir; depth = index_depth view (directory_index dir); entries = 1 }

  abbrev change : ℕ → Change
  change d = record { index = directory_index d; added = if dir == d then 1 else 0; dropped = [] }

  abbrev changed : List ℕ → List Change
  changed dirs = map change dirs

  step : (d : ℕ) (b : Bool) (dirs : List ℕ) (rest : List Change) → (dir == d) ≡ b
      → counts view (changed (d ∷ dirs) ++ rest)
      ≡ cond b (record { file = d; depth = index_depth view (directory_index d); entries = 1 } ∷ counts view (changed dirs ++ rest))
      (counts view (changed dirs ++ rest))
  step d true dirs rest e =
      ap (λ (b : Bool). cond (nat_lt 0 (cond b 1 0 + 0))
      (record { file = d; depth = index_depth view (directory_index d); entries = cond b 1 0 + 0 } ∷ counts view (changed dirs ++ rest))
      (counts view (changed dirs ++ rest))) e
  step d false dirs rest e =
      ap (λ (b : Bool). cond (nat_lt 0 (cond b 1 0 + 0))
      (record { file = d; depth = index_depth view (directory_index d); entries = cond b 1 0 + 0 } ∷ counts view (changed dirs ++ rest))
      (counts view (changed dirs ++ rest))) e

  none-past : (from n : ℕ) (rest : List Change) → dir < from → counts view (changed (range_with_len from n) ++ rest) ≡ counts view rest
  none-past from zero rest past = refl
  none-past from (suc n) rest past =
      step from false (range_with_len (from + 1) n) rest (ne_eqb dir from (λ e. omega (arith, e, past)))
      ∙ none-past (from + 1) n rest (omega (arith, past))

  counts-one : (from n : ℕ) (rest : List Change) → from ≤ dir → dir < from + n
      → counts view (changed (range_with_len from n) ++ rest) ≡ one ∷ counts view rest
  counts-one from zero rest low high = absurd (omega (arith, low, high))
  counts-one from (suc n) rest low high = elim (cases_eq dir from) [
    | inl same ↦
        step from true (range_with_len (from + 1) n) rest (eq-eqb dir from same)
        ∙ ap (λ (others : List Counted). record { file = from; depth = index_depth view (directory_index from); entries = 1 } ∷ others)
        (none-past (from + 1) n rest (omega (arith, same)))
        ∙ ap (λ (d : ℕ). record { file = d; depth = index_depth view (directory_index d); entries = 1 } ∷ counts view rest) (sym same)
    | inr other ↦
        step from false (range_with_len (from + 1) n) rest (ne_eqb dir from other)
        ∙ counts-one (from + 1) n rest (omega (arith, low, other)) (omega (arith, high))
  ]

  -- ONE ENTRY counts.
  counted-one : dir < view.layout.count → counted_of view tree command at ≡ one ∷ []
  unfolding counted_of changes_of
  counted-one inside =
      let points = map (point_change view tree command at) (option_to_list (point_index view)) in
      let ids = map (object_id_change tree command at) (option_to_list (object_id_index view)) in
      let directories = changed (range_with_len 0 view.layout.count) in
      ap (λ (g : ℕ → Change). counts view ((map g (range_with_len 0 view.layout.count) ++ points) ++ ids))
      (fun_ext (change-plain directory tree path dir units))
      ∙ ap (counts view) (append_assoc directories points ids)
      ∙ counts-one 0 view.layout.count (points ++ ids) (omega arith) (omega (arith, inside))
      ∙ ap (λ (others : List Counted). one ∷ others)
      (counts-none view (point_change view tree command at) (option_to_list (point_index view)) ids
      (point-none directory view tree path dir units)
      ∙ ap (counts view) (sym (append-nil ids))
      ∙ counts-none view (object_id_change tree command at) (option_to_list (object_id_index view)) []
      (id-none directory view tree path dir units))

  touched-step : (from n : ℕ) (b : Bool) → (dir == from) ≡ b
      → touched_from 0 from (suc n) (one ∷ [])
      ≡ cond b (from ∷ touched_from 0 (from + 1) n (one ∷ [])) (touched_from 0 (from + 1) n (one ∷ []))
  touched-step from n true e =
      ap (λ b. cond (b || false) (from ∷ touched_from 0 (from + 1) n (one ∷ [])) (touched_from 0 (from + 1) n (one ∷ []))) e
  touched-step from n false e =
      ap (λ b. cond (b || false) (from ∷ touched_from 0 (from + 1) n (one ∷ [])) (touched_from 0 (from + 1) n (one ∷ []))) e

  touched-past : (from n : ℕ) → dir < from → touched_from 0 from n (one ∷ []) ≡ []
  touched-past from zero past = refl
  touched-past from (suc n) past =
      touched-step from n false (ne_eqb dir from (λ e. omega (arith, e, past))) ∙ touched-past (from + 1) n (omega (arith, past))

  touched-one : (from n : ℕ) → from ≤ dir → dir < from + n → touched_from 0 from n (one ∷ []) ≡ dir ∷ []
  touched-one from zero low high = absurd (omega (arith, low, high))
  touched-one from (suc n) low high = elim (cases_eq dir from) [
    | inl same ↦
        touched-step from n true (eq-eqb dir from same)
        ∙ ap (λ (rest : List ℕ). from ∷ rest) (touched-past (from + 1) n (omega (arith, same)))
        ∙ ap (λ (f : ℕ). f ∷ []) (sym same)
    | inr other ↦
        touched-step from n false (ne_eqb dir from other)
        ∙ touched-one (from + 1) n (omega (arith, low, other)) (omega (arith, high))
  ]

  -- SO THE BILL has the directory and the new file.
  abbrev bill_on : List Touched → Bill
  bill_on touched = record { new_files = 1; clusters = 0; touched = touched ++ new_touched directory ∷ []; counted = one ∷ [] }

  pub bill-made : dir < view.layout.count
      → bill_of view tree command at ≡ made_bill view directory dir (index_depth view (directory_index dir))
  unfolding bill_of
  bill-made inside =
      let longest = longest_name (parts (records_of view) dir) in
      let same : max longest 0 ≡ longest = omega arith in
      ap (bill_with (cluster_bytes view.layout) view tree command at) (counted-one inside)
      ∙ bill-plain directory view tree path dir units (one ∷ [])
      ∙ ap (λ (files : List ℕ). bill_on (map (touched_plain view) files))
      (touched-one 0 view.layout.count (omega arith) (omega (arith, inside)))
      ∙ ap (λ (n : ℕ). bill_on (record { file = Some dir; list_len = list_len_of view dir; name_units = n } ∷ [])) same
