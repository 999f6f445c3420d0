-- An index that is held of a file is that of the volume.
use Rattle.std.proofs.Common.{◌≡◌, ap, List, ℕ}
use Rattle.std.specs.Prelude.{filter}
use Rattle.ntfs_def.specs.declared.kinds.TheConstants.{BITMAP, INDEX_ALLOCATION, INDEX_ROOT}
use Rattle.volume_def.specs.Files.{Part, is_of}
use Rattle.volume_def.specs.IndexesClause.{IndexParts, index_parts}
use Rattle.volume_def.specs.View.{VolumeView}
use Rattle.attr_store.specs.FileParts.{FileParts}
use Rattle.attr_store.specs.Held.{AreParts, file_number}
use Rattle.index_store.specs.Index.{index_held}

pub index-held : (view : VolumeView) (file : FileParts) (name : List ℕ) → AreParts view file
    → index_held file name ≡ index_parts view (file_number file) name
index-held view file name are =
    ap (λ (all : List Part). let index : IndexParts = record {
      root = filter (is_of INDEX_ROOT name) all;
      records = filter (is_of INDEX_ALLOCATION name) all;
      bits = filter (is_of BITMAP name) all;
    } in index) are.parts
