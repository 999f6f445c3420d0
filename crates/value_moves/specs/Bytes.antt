-- THE BYTES OF AN ATTRIBUTE that moved out of its record into clusters; the attribute stands at their front.
use Rattle.std.specs.Prelude.{◌≡◌, ◌^◌, ◌<◌, ◌≤◌, ℕ, List, length}
use Rattle.ntfs_def.specs.Attribute.{Attribute, attribute_at, attribute_id}
use Rattle.ntfs_def.specs.Shape.{IsOneAttribute}
use Rattle.ntfs_def.specs.declared.run_text.Run.{Run}
use Rattle.value_moves.specs.Moved.{BecomesExtent, moved_len}

-- These bytes are one attribute of the same type, name, id and flags, which was a value and became an extent of this run, with these two
-- sizes. They are no more than an attribute of its name has in clusters.
pub record MovesAttribute (bytes : ℕ) (run : Run) (real initialized : ℕ) (was : Attribute) (new : List ℕ) : Type 0 where
  pub one : IsOneAttribute new
  pub most : length new ≤ moved_len was.name
  pub kind : (attribute_at new 0).kind ≡ was.kind
  pub name : (attribute_at new 0).name ≡ was.name
  pub id : (attribute_at new 0).id ≡ was.id
  pub small : attribute_id new 0 < 2 ^ 16
  pub flags : (attribute_at new 0).flags ≡ was.flags
  pub becomes : BecomesExtent bytes run real initialized was (attribute_at new 0)
