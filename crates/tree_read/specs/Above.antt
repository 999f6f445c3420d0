-- The names by which directories are reached, and where the ways up from them lead.
use Rattle.std.specs.Prelude.{◌≡◌, ◌-◌, ℕ, Bool, not, find, Option, Some}
use Rattle.std.specs.Ordering.{nat_cmp}
use Rattle.std.specs.BTreeMap.{get}
use Rattle.volume_def.specs.Files.{records_of}
use Rattle.volume_def.specs.View.{VolumeView}
use Rattle.tree_model.specs.Hidden.{leads_to_system}
use Rattle.tree_model.specs.Reading.{links_to}
use Rattle.tree_model.specs.Tree.{is_dos}
use Rattle.tree_model.specs.declared.tree.Link.{Link}
use Rattle.tree_read.specs.declared.above.Above.{Above}

-- the first name of a file that is no DOS name
abbrev pub name_above : VolumeView → ℕ → Option Link
name_above view f = find (λ link. not (is_dos link)) (links_to view f)

-- whether a way up from a directory leads to a record of the system: so many steps lead to the root from each
abbrev pub leads_hidden : VolumeView → ℕ → Bool
leads_hidden view dir = leads_to_system (records_of view) (view.layout.count - 1) dir

-- What is kept of directories is the name of each, and whether a way up from it leads to a record of the system.
pub record AreAbove (view : VolumeView) (above : Above) : Type 0 where
  pub names : (f : ℕ) (link : Link) → get nat_cmp above.names f ≡ Some link → name_above view f ≡ Some link
  pub leads : (f : ℕ) (known : Bool) → get nat_cmp above.leads f ≡ Some known → leads_hidden view f ≡ known
