-- THE COST: the index of each directory in which the file has a name has a depth, so what is written of it is paid.
use Rattle.std.proofs.Common.{◌≡◌, ◌≤◌, ◌+◌, ◌*◌, ◌/◌, ◌&&◌, ◌||◌, not, ℕ, Bool, true, false, List, [], ◌∷◌, filter, length, Option}
use Rattle.std.proofs.Common.{Some, None, inl, inr, refl, ap, subst, ◌∙◌, arith}
use mathlib.Core.Path.{fun_ext}
use Rattle.std.proofs.lemmas.List.Elements.{All-contains, Contains-append_cases}
use Rattle.std.proofs.lemmas.List.Sums.{sum_by-cons}
use Rattle.std.specs.List.{Contains, list_any, sum_by}
use Rattle.std.specs.Prelude.{IfSome, IsSomeAnd, IsTrue}
use Rattle.list_laws.proofs.MemberLaws.{Contains-from_filter, Contains-head, Contains-later}
use Rattle.list_laws.proofs.OrderedLaws.{Contains-from_in_order}
use Rattle.ntfs_def.specs.FileName.{FileName}
use Rattle.volume_def.specs.CaseClause.{volume_fold}
use Rattle.volume_def.specs.FileNames.{names_of}
use Rattle.volume_def.specs.Files.{Record, is_base, is_directory, record_on, records_of}
use Rattle.volume_def.specs.IndexesClause.{IsDirectoryIndex, name_rule}
use Rattle.volume_def.specs.Sound as clauses
use Rattle.volume_def.specs.Sound.{IsSound}
use Rattle.volume_def.specs.View.{VolumeView}
use Rattle.tree_model.specs.Drops.{is_link}
use Rattle.tree_model.specs.IndexRoom.{directory_index, index_depth}
use Rattle.tree_model.specs.Reading.{all_links, is_hidden_link, read}
use Rattle.tree_model.specs.Subjects.{Located}
use Rattle.tree_model.specs.Tree.{Tree, leads_to, link_above}
use Rattle.tree_model.specs.declared.command.Command.{Command}
use Rattle.tree_model.specs.declared.tree.Link.{Link}
use Rattle.tree_model.proofs.IndexRoomLaws.{depth-walk}
use Rattle.tree_model.proofs.ShownLaws.{link-named}
use Rattle.edit_def.specs.Names.{is_directory_in}
use Rattle.edit_def.proofs.NamesLaws.{in-directory, stand-of}
use Rattle.session_def.specs.Cost.{bytes_in, cost_of, depths, given_back, is_refreshed, refreshed_depth}
use Rattle.session_def.specs.Done.{first_cost}
use Rattle.session_def.specs.Named.{every_link, leads_among, timed}
use Rattle.session_def.specs.State.{State}
use Rattle.in_place_owed.specs.SetsInPlace.{SetsInPlace, links_of}
use Rattle.in_place_owed.proofs.InPlaceCommands.{DoesLittle, does-little, timed-one}

-- A LINK is a name of the volume.
pub link-among : (view : VolumeView) (link : Link) → Contains (every_link (read view)) link → Contains (all_links view) link
unfolding read
link-among view link there =
    elim (Contains-append_cases (read view).links (read view).hidden link there) [
      | inl shown ↦
          (Contains-from_filter (λ l. not (is_hidden_link view l)) (all_links view) link
          (Contains-from_in_order (link_above (volume_fold view)) _ link shown)).0
      | inr hides ↦
          (Contains-from_filter (is_hidden_link view) (all_links view) link
          (Contains-from_in_order (link_above (volume_fold view)) _ link hides)).0
    ]

-- a directory has an index
directory-depth : (view : VolumeView) → IsSound view → (dir : ℕ) (o : Option Record) → record_on view dir ≡ o
    → IsSomeAnd o (λ r. IsTrue (is_base r)) → IsSomeAnd o (λ r. IsTrue (is_directory r)) → 1 ≤ index_depth view (directory_index dir)
directory-depth view sound dir None at base is = absurd base
directory-depth view sound dir (Some r) at base is =
    let clause = subst (λ o. IfSome o (λ r. IsTrue (is_base r) → IsTrue (is_directory r) → IsDirectoryIndex view dir)) at
    (sound clauses.Indexes dir).directory in
    let index : IsDirectoryIndex view dir = clause base is in
    let deep = depth-walk view (directory_index dir) (name_rule view) index.items index.index in
    omega (arith, deep)

first-of : (o : Option Record) (P Q : Record → Type 0) → IsSomeAnd o (λ r. P r × Q r) → IsSomeAnd o P
first-of None P Q is = is
first-of (Some r) P Q is = is.0

-- EACH LINK stands in a directory whose index has a depth.
link-depth : (view : VolumeView) → IsSound view → (link : Link) → Contains (every_link (read view)) link → 1 ≤ refreshed_depth view link
link-depth view sound link there =
    let named = link-named view link (link-among view link there) in
    let records = records_of view in
    let stands = All-contains (λ (name : FileName). IsTrue (is_directory_in records name.parent)) (names_of records link.child) named.name
    (stand-of records (sound clauses.References) link.child) named.there in
    let directory = in-directory records named.name.parent stands in
    subst (λ dir. 1 ≤ index_depth view (directory_index dir)) (ap (λ (l : Link). l.parent) named.same)
    (directory-depth view sound named.name.parent.number (record_on view named.name.parent.number) refl
    (first-of (record_on view named.name.parent.number) (λ r. IsTrue (is_base r)) _ directory.0) directory.1)

-- a sum of ones at least
at-least : {X : Type 0} (f : X → ℕ) (xs : List X) → ((x : X) → Contains xs x → 1 ≤ f x) → length xs ≤ sum_by f xs
at-least f [] each = omega arith
at-least f (x ∷ xs) each =
    let here = each x (Contains-head x xs) in
    let rest = at-least f xs (λ y c. each y (Contains-later x xs y c)) in
    let all = sum_by-cons f x xs in
    omega (arith, here, rest, all)

-- the entries that are told anew are those of the file's names
all-refreshed : (tree : Tree) (command : Command) (at : Located) (made : ℕ) → DoesLittle tree command at
    → timed command at made ≡ at.file ∷ []
    → is_refreshed tree command at made ≡ leads_to at.file
all-refreshed tree command at made little one = fun_ext (λ link.
    ap (λ gone. leads_among (timed command at made) link && not (list_any (is_link link) gone)) little.drops
    ∙ ap (λ files. leads_among files link && true) one ∙ plain (leads_to at.file link))
  where
    plain : (b : Bool) → ((b || false) && true) ≡ b
    plain true = refl
    plain false = refl

pub names-depth : (view : VolumeView) → IsSound view → (command : Command) (at : Located) (made : ℕ) → DoesLittle (read view) command at
    → timed command at made ≡ at.file ∷ [] → links_of (read view) at.file ≤ depths view (read view) command at made
unfolding depths
names-depth view sound command at made little one =
    let links = every_link (read view) in
    let mine = filter (leads_to at.file) links in
    let enough = at-least (refreshed_depth view) mine (λ link there. link-depth view sound link
    (Contains-from_filter (leads_to at.file) links link there).0) in
    let same : sum_by (refreshed_depth view) (filter (is_refreshed (read view) command at made) links)
    ≡ sum_by (refreshed_depth view) mine =
    ap (λ (p : Link → Bool). sum_by (refreshed_depth view) (filter p links)) (all-refreshed (read view) command at made little one) in
    omega (arith, enough, same)

cost-least : (old new : VolumeView) (before next : Tree) (command : Command) (at : Located) (made : ℕ)
    → 24 * (depths old before command at made + 4) + bytes_in command / 512 + 2 * given_back old new
    ≤ cost_of old new before next command at made
unfolding cost_of
cost-least old new before next command at made = omega arith

-- So a command that does little, and of one file sets the times, may write twelve sectors for each of its names, and more, and two for each
-- cluster that it gives back.
pub cost-enough : (before next : State) (command : Command) (at : Located) (made : ℕ) → IsSound before.view
    → read before.view ≡ before.machine.tree → DoesLittle before.machine.tree command at → timed command at made ≡ at.file ∷ []
    → 12 * links_of before.machine.tree at.file + bytes_in command / 512 + 96 + 2 * given_back before.view next.view
    ≤ cost_of before.view next.view before.machine.tree next.machine.tree command at made
cost-enough before next command at made sound reading little one =
    let tree = before.machine.tree in
    let deep : links_of tree at.file ≤ depths before.view tree command at made =
    subst (λ t. DoesLittle t command at → links_of t at.file ≤ depths before.view t command at made) reading
    (λ little. names-depth before.view sound command at made little one) little in
    let cost = cost-least before.view next.view tree next.machine.tree command at made in
    omega (arith, deep, cost)

pub wrote-owed : (before next : State) (command : Command) (at : Located) (made : ℕ) (staged : VolumeView)
    → SetsInPlace before next command at staged
    → next.written ≤ before.written + first_cost before.view
    + cost_of before.view next.view before.machine.tree next.machine.tree command at made
wrote-owed before next command at made staged s =
    let cost = cost-enough before next command at made s.stands.sound s.stands.reading (does-little before.machine.tree command at s.edits)
    (timed-one command at made s.edits s.new) in
    let wrote = s.wrote in
    omega (arith, cost, wrote)
