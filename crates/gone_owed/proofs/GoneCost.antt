-- THE COST: the index of each directory in which the directory has a name has a depth, so what is written of it is paid. Any edit pays for
-- more sectors than those of the new file.
use Rattle.std.proofs.Common.{◌≡◌, ◌≢◌, ◌≤◌, ◌+◌, ◌*◌, ◌==◌, ◌||◌, not, ℕ, Bool, true, false, List, [], ◌∷◌, filter, length, Option}
use Rattle.std.proofs.Common.{Some, None, refl, sym, ap, subst, ◌∙◌, arith}
use Rattle.std.proofs.lemmas.Bool.{and_from, eqb-true, or_right}
use Rattle.std.proofs.lemmas.List.Elements.{All-contains}
use Rattle.std.proofs.lemmas.List.Sums.{sum_by-cons}
use Rattle.std.specs.List.{Contains, sum_by}
use Rattle.std.specs.Prelude.{IfSome, IsSomeAnd, IsTrue}
use Rattle.list_laws.proofs.FilterLaws.{filter-passed}
use Rattle.list_laws.proofs.MemberLaws.{Contains-from_filter, Contains-head, Contains-later}
use Rattle.ntfs_def.specs.FileName.{FileName}
use Rattle.volume_def.specs.FileNames.{names_of}
use Rattle.volume_def.specs.Files.{Record, is_base, is_directory, record_on, records_of}
use Rattle.volume_def.specs.IndexesClause.{IsDirectoryIndex, name_rule}
use Rattle.volume_def.specs.Sound as clauses
use Rattle.volume_def.specs.Sound.{IsSound}
use Rattle.volume_def.specs.View.{VolumeView}
use Rattle.tree_model.specs.IndexRoom.{directory_index, index_depth}
use Rattle.tree_model.specs.Reading.{link_for, read}
use Rattle.tree_model.specs.Subjects.{Located}
use Rattle.tree_model.specs.Tree.{Tree, leads_to}
use Rattle.tree_model.specs.declared.command.Command.{Command}
use Rattle.tree_model.specs.declared.command.Command.TheVariants as c
use Rattle.tree_model.specs.declared.tree.Link.{Link}
use Rattle.tree_model.specs.declared.tree.Node.{Node}
use Rattle.tree_model.proofs.IndexRoomLaws.{depth-walk}
use Rattle.tree_model.proofs.ShownLaws.{link-named}
use Rattle.edit_def.specs.Names.{is_directory_in}
use Rattle.edit_def.proofs.NamesLaws.{in-directory, stand-of}
use Rattle.session_def.specs.Cost.{cost_of, depths, is_refreshed, refreshed_depth}
use Rattle.session_def.specs.Done.{first_cost}
use Rattle.session_def.specs.Named.{every_link}
use Rattle.session_def.specs.State.{State}
use Rattle.in_place_owed.specs.SetsInPlace.{links_of}
use Rattle.in_place_owed.proofs.CostLaws.{link-among}
use Rattle.gone_owed.specs.GoneOwed.{SetsBehindGone, at_gone, gone_sectors}
use Rattle.gone_owed.proofs.GoneBase as base
use Rattle.gone_owed.proofs.GoneRecords as records
use Rattle.gone_owed.proofs.GoneTree as trees
use Rattle.gone_owed.proofs.GoneTree.{not-dropped}

-- a directory has an index
directory-depth : (view : VolumeView) → IsSound view → (dir : ℕ) (o : Option Record) → record_on view dir ≡ o
    → IsSomeAnd o (λ r. IsTrue (is_base r)) → IsSomeAnd o (λ r. IsTrue (is_directory r)) → 1 ≤ index_depth view (directory_index dir)
directory-depth view sound dir None at base is = absurd base
directory-depth view sound dir (Some r) at base is =
    let clause = subst (λ o. IfSome o (λ r. IsTrue (is_base r) → IsTrue (is_directory r) → IsDirectoryIndex view dir)) at
    (sound clauses.Indexes dir).directory in
    let index : IsDirectoryIndex view dir = clause base is in
    let deep = depth-walk view (directory_index dir) (name_rule view) index.items index.index in
    omega (arith, deep)

first-of : (o : Option Record) (P Q : Record → Type 0) → IsSomeAnd o (λ r. P r × Q r) → IsSomeAnd o P
first-of None P Q is = is
first-of (Some r) P Q is = is.0

-- EACH LINK stands in a directory whose index has a depth.
link-depth : (view : VolumeView) → IsSound view → (link : Link) → Contains (every_link (read view)) link → 1 ≤ refreshed_depth view link
link-depth view sound link there =
    let named = link-named view link (link-among view link there) in
    let records = records_of view in
    let stands = All-contains (λ (name : FileName). IsTrue (is_directory_in records name.parent)) (names_of records link.child) named.name
    (stand-of records (sound clauses.References) link.child) named.there in
    let directory = in-directory records named.name.parent stands in
    subst (λ dir. 1 ≤ index_depth view (directory_index dir)) (ap (λ (l : Link). l.parent) named.same)
    (directory-depth view sound named.name.parent.number (record_on view named.name.parent.number) refl
    (first-of (record_on view named.name.parent.number) (λ r. IsTrue (is_base r)) _ directory.0) directory.1)

-- a sum of ones at least
at-least : {X : Type 0} (f : X → ℕ) (xs : List X) → ((x : X) → Contains xs x → 1 ≤ f x) → length xs ≤ sum_by f xs
at-least f [] each = omega arith
at-least f (x ∷ xs) each =
    let here = each x (Contains-head x xs) in
    let rest = at-least f xs (λ y c. each y (Contains-later x xs y c)) in
    let all = sum_by-cons f x xs in
    omega (arith, here, rest, all)

-- some of a list are no more than all
some-few : {X : Type 0} (p : X → Bool) (xs : List X) → length (filter p xs) ≤ length xs
some-few p [] = omega arith
some-few {X = X} p (x ∷ xs) = by (some-few p xs) (p x) refl
  where
    by : length (filter p xs) ≤ length xs → (b : Bool) → p x ≡ b → length (filter p (x ∷ xs)) ≤ length (x ∷ xs)
    by rest true e = rw e (omega (arith, rest))
    by rest false e = rw e (omega (arith, rest))

-- of the entries that are told anew some are of the directory's names
going-depth : (view : VolumeView) → IsSound view → (path : List (List ℕ)) (n : ℕ) (name : FileName) (made : ℕ) → name.parent.number ≢ n
    → links_of (read view) name.parent.number ≤ depths view (read view) (c.Rm path) (at_gone (read view) n name) made
unfolding depths
going-depth view sound path n name made other =
    let dir = name.parent.number in
    let links = every_link (read view) in
    let told = is_refreshed (read view) (c.Rm path) (at_gone (read view) n name) made in
    let enough = at-least (refreshed_depth view) (filter told links) (λ link there. link-depth view sound link
    (Contains-from_filter told links link there).0) in
    let few = some-few (leads_to dir) (filter told links) in
    let same : length (filter (leads_to dir) (filter told links)) ≡ length (filter (leads_to dir) links) =
    ap length (filter-passed (leads_to dir) told links (λ link is.
    and_from ((link.child == n) || ((link.child == dir) || false)) _
    (or_right (link.child == n) ((link.child == dir) || false) (ap (λ b. b || false) is))
    (ap not (not-dropped (read view) (link_for n name) link (λ gone. other (sym (eqb-true link.child dir is) ∙ gone)))))) in
    omega (arith, enough, few, same)

cost-least : (old new : VolumeView) (before next : Tree) (command : Command) (at : Located) (made : ℕ)
    → 24 * (depths old before command at made + 4) ≤ cost_of old new before next command at made
unfolding cost_of
cost-least old new before next command at made = omega arith

module _ (before next : State) (n : ℕ) (file parent : Node) (name : FileName) (mid staged : VolumeView)
    (s : SetsBehindGone before next n name.parent.number file parent name mid staged) where
  abbrev dir : ℕ
  dir = name.parent.number

  pub wrote : (path : List (List ℕ)) (made : ℕ) → next.written ≤ before.written + first_cost before.view
      + cost_of before.view next.view before.machine.tree next.machine.tree (c.Rm path) (at_gone before.machine.tree n name) made
  wrote path made =
      let tree = before.machine.tree in
      let command : Command = c.Rm path in
      let leads = at_gone tree n name in
      let other = base.other before next n file parent name mid staged s in
      let deep : links_of tree dir ≤ depths before.view tree command leads made =
      subst (λ t. links_of t dir ≤ depths before.view t (c.Rm path) (at_gone t n name) made) s.stands.reading
      (going-depth before.view s.stands.sound path n name made other) in
      let cost = cost-least before.view next.view tree next.machine.tree command leads made in
      let set : next.written ≤ before.written + gone_sectors + first_cost mid + 24 + 12 * links_of (read mid) dir + 0 = s.behind.wrote in
      let first = records.first_cost-same before next n file parent name mid staged s in
      let links = trees.links-same tree (link_for n name) dir other (read mid) (base.reads before next n file parent name mid staged s) in
      omega (arith, deep, cost, set, first, links)
