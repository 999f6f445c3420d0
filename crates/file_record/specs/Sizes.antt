-- What a file that is held is after the sizes of a stream of it were written.
use Rattle.std.specs.Prelude.{◌≡◌, ℕ, List, IsSome}
use Rattle.ntfs_def.specs.Attribute.{Attribute}
use Rattle.ntfs_def.specs.Fixup.{opened_of}
use Rattle.ntfs_def.specs.Record.{header_of}
use Rattle.attr_view.specs.Sizes.{PutsSizes, body_with_sizes}
use Rattle.volume_def.specs.Files.{Part, content_extent, part_of}
use Rattle.volume_def.specs.View.{VolumeView}
use Rattle.volume_edits.specs.Rewritten.{RewritesRecord}

-- the part is an extent of a stream
abbrev pub IsExtent : Part → Type 0
IsExtent part = IsSome (content_extent part.content)

-- The attribute has these two sizes in its header; all else of it stays, each of its bytes too.
pub record ChangesSizes (was now : Attribute) (real initialized : ℕ) : Type 0 where
  pub kind : now.kind ≡ was.kind
  pub name : now.name ≡ was.name
  pub id : now.id ≡ was.id
  pub flags : now.flags ≡ was.flags
  pub body : now.body ≡ body_with_sizes was.body real initialized
  pub bytes : PutsSizes was.bytes now.bytes 0 real initialized

-- THE SIZES OF A STREAM WERE WRITTEN: the record of the part has this real and this initialized size in the part's header, under the
-- same header of its own, and nothing else of the volume changed.
pub record WritesSizes (old new : VolumeView) (part : Part) (real initialized : ℕ) : Type 0 where
  pub stored : List ℕ
  pub was : Attribute
  pub now : Attribute
  pub is : part_of part.holder was ≡ part
  pub record_is : RewritesRecord old new part.holder stored was now
  pub header_is : header_of (opened_of stored) ≡ header_of (opened_of (old.block part.holder))
  pub changes : ChangesSizes was now real initialized
