-- WHERE A PATH PUTS A NEW NAME of a new file, and the refusals that come of finding it, in the order of the machine for `create` and
-- `mkdir`.
use Rattle.std.specs.Prelude.{ℕ, Bool, List, Result, Ok, Err, if◌then◌else◌}
use Rattle.std.specs.List.{list_any}
use Rattle.std.specs.Option.{option_map_or}
use Rattle.tree_model.specs.Cases.{is_bad_name}
use Rattle.tree_model.specs.Paths.{Place, and_then, resolve_new}
use Rattle.tree_model.specs.Tree.{Tree, are_same, links_in}
use Rattle.tree_model.specs.declared.reply.No.{No}
use Rattle.tree_model.specs.declared.reply.No.TheVariants as no
use Rattle.tree_read.specs.Standings.{number_within}
use Rattle.name_places.specs.declared.place.NewPlace.{NewPlace}

-- a link of the directory, a hidden one too, has the same name, in whichever case
abbrev pub has_same : Tree → ℕ → List ℕ → Bool
has_same tree dir name = list_any (λ other. are_same tree.fold other.name name) (links_in tree dir)

-- a name that may come there
abbrev pub unless_there : Tree → Place → Result Place No
unless_there tree place = if has_same tree place.directory place.name then Err no.Exists else Ok place

abbrev pub unless_bad : Tree → Place → Result Place No
unless_bad tree place = if is_bad_name place.name then Err no.BadName else unless_there tree place

-- THE PLACE that is wanted; the root is there already
abbrev pub place_wanted : Tree → List (List ℕ) → Result Place No
place_wanted tree path = and_then (resolve_new tree path) (λ new. option_map_or (unless_bad tree) new (Err no.Exists))

abbrev pub place_of : NewPlace → Place
place_of new = record { directory = number_within new.standing; name = new.name.now }
