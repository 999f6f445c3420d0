use Rattle.std.proofs.Common.{◌≡◌, ℕ, suc, ◌+◌, ◌≤◌, List, [], Some, None, false, refl, sym, subst, ◌∙◌, arith}
use Rattle.ntfs_def.specs.Node.{Node, child_at, entries_from, has_children, is_entry, is_last_entry, node_header, node_in}
use Rattle.ntfs_def.specs.Node.{scan_node}
use Rattle.ntfs_def.specs.declared.index.NodeForm.{NodeForm}
use Rattle.ntfs_def.specs.declared.index.NodeForm.TheVariants.{Names}
use Rattle.index_node.specs.Edit.{FitsBehind, HasEntry, IsKeyless, entries_len, front_len}
use Rattle.index_node.specs.Edited.{edited_form}
use Rattle.index_node.specs.LayOut.{room_len}
use Rattle.index_tests.specs.declared.node_edits.TheConstants.{THREE, EMPTY}
use Rattle.index_tests.proofs.node_edits.split_inside.Goals as goal

abbrev three_said : Node
three_said = record { entries = entries_from THREE false 0x20 3; last = None }

three : node_in Names THREE ≡ Some three_said
unfolding scan_node is_entry is_last_entry node_header child_at
three = refl

empty : node_in Names EMPTY ≡ Some (record { entries = []; last = None })
unfolding scan_node is_entry is_last_entry node_header child_at
empty = refl

some_same : {a b : Node} → Some a ≡ Some b → a ≡ b
some_same e = cc

entry : HasEntry Names THREE 1
entry = record { said = three_said; is = three; within = omega arith }

takes : entries_len THREE three_said ≤ front_len THREE (suc 1) + room_len EMPTY
unfolding node_header
takes = omega arith

fits : FitsBehind Names THREE 1 (room_len EMPTY)
fits said is = subst (λ (n : Node). entries_len THREE n ≤ front_len THREE (suc 1) + room_len EMPTY) (some_same (sym three ∙ is)) takes

alike : has_children EMPTY ≡ has_children THREE
unfolding node_header
alike = refl

pub split_into-requires-clause-entry : goal.split_into-requires-clause-entry
split_into-requires-clause-entry g c =
    subst (λ (bytes : List ℕ). HasEntry (edited_form c.in_ok-edited.edited) bytes 1) (sym c.in_ok-edited.ensures.ok)
    (subst (λ (form : NodeForm). HasEntry form THREE 1) (sym c.in_ok-edited.ensures.form) entry)

pub split_into-requires-clause-keyless : goal.split_into-requires-clause-keyless
split_into-requires-clause-keyless g c =
    subst (λ (form : NodeForm). IsKeyless form EMPTY) (sym c.in_ok-edited.ensures.form) (record { last = None; is = empty })

pub split_into-requires-clause-same : goal.split_into-requires-clause-same
split_into-requires-clause-same g c =
    subst (λ (bytes : List ℕ). has_children EMPTY ≡ has_children bytes) (sym c.in_ok-edited.ensures.ok) alike

pub split_into-requires-clause-fits : goal.split_into-requires-clause-fits
split_into-requires-clause-fits g c =
    subst (λ (bytes : List ℕ). FitsBehind (edited_form c.in_ok-edited.edited) bytes 1 (room_len EMPTY)) (sym
    c.in_ok-edited.ensures.ok)
    (subst (λ (form : NodeForm). FitsBehind form THREE 1 (room_len EMPTY)) (sym c.in_ok-edited.ensures.form) fits)
