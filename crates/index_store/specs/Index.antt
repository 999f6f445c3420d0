-- One index of a file: the parts of its name, and what has to be known of them so that its records are read.
use Rattle.std.specs.Prelude.{◌≡◌, ℕ, List, [], ◌∷◌, map, Some, IfSome}
use Rattle.ntfs_def.specs.declared.kinds.TheConstants.{BITMAP, INDEX_ALLOCATION, INDEX_ROOT}
use Rattle.volume_def.specs.Files.{content_extent, content_value}
use Rattle.volume_def.specs.IndexesClause.{IndexParts}
use Rattle.volume_def.specs.Values.{IsPlainIfThere, first_part}
use Rattle.attr_store.specs.FileParts.{FileParts}
use Rattle.attr_store.specs.First.{IsStoredIfThere, attribute_held}
use Rattle.index_store.specs.declared.index.FoundIndex.{FoundIndex}

-- the index of a name, as it is held
abbrev pub index_held : FileParts → List ℕ → IndexParts
index_held file name = record {
  root = attribute_held file INDEX_ROOT name;
  records = attribute_held file INDEX_ALLOCATION name;
  bits = attribute_held file BITMAP name;
}

-- The parts are those of an index with this root: all that the clause asks of them beside the tree.
pub record HasParts (index : IndexParts) (root : List ℕ) : Type 0 where
  pub is_root : map (λ part. content_value part.content) index.root ≡ Some root ∷ []
  pub plain : IsPlainIfThere index.records
  pub plain_bits : IsPlainIfThere index.bits
  pub written : IfSome (first_part index.records) (λ part. IfSome (content_extent part.content) (λ extent.
      extent.sizes.initialized ≡ extent.sizes.real))

-- WHAT IS FOUND: the file has an index of this name with this root, and its records and their bitmap stand at these places.
pub record IsFound (file : FileParts) (index : FoundIndex) : Type 0 where
  pub parts : HasParts (index_held file index.name.now) index.root.now
  pub records : IsStoredIfThere file INDEX_ALLOCATION index.name.now index.records
  pub bits : IsStoredIfThere file BITMAP index.name.now index.bits
