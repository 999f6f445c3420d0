use Rattle.volume_format.proofs.Directories.{IsDirectoryIndex-extend, IsDirectoryIndex-root}
use Rattle.volume_format.proofs.Fits.{size-some}
use Rattle.volume_format.proofs.IndexesClause.{MeetsIndexes-planned}
use Rattle.volume_format.proofs.ViewIndexes.{object_ids, reparse_points, security_hashes, security_ids}
use Rattle.volume_format.proofs.index_laws.planned_indexes.Goals as goal

pub returns : goal.returns
returns c = record {
  root = λ p view fits is. IsDirectoryIndex-root p view is (size-some p.size fits.size);
  extend = λ p view fits is. IsDirectoryIndex-extend p view is (size-some p.size fits.size);
  security_ids = λ p view fits is. security_ids p view is;
  security_hashes = λ p view fits is. security_hashes p view is;
  object_ids = λ p view fits is. object_ids p view is;
  reparse_points = λ p view fits is. reparse_points p view is;
  all = λ p view fits is. MeetsIndexes-planned p view is (size-some p.size fits.size);
}
