use Rattle.volume_format.proofs.CaseTable.{volume_fold-planned}
use Rattle.volume_format.proofs.Contents.{case_parts-value, cluster_bits-value, log_parts-value, record_bits-value, security_parts-value}
use Rattle.volume_format.proofs.Fits.{size-some}
use Rattle.volume_format.proofs.NewVolumes.{owned}
use Rattle.volume_format.proofs.Readings.{read-planned}
use Rattle.volume_format.proofs.laws.content_laws.Goals as goal

pub returns : goal.returns
returns c = record {
  owned = owned;
  cluster_bits = λ p view fits is. cluster_bits-value p view is (size-some p.size fits.size);
  record_bits = λ p view fits is. record_bits-value p view is (size-some p.size fits.size);
  case_table = λ p view fits is. case_parts-value p view is (size-some p.size fits.size);
  log = λ p view fits is. log_parts-value p view is (size-some p.size fits.size);
  security = λ p view fits is. security_parts-value p view is (size-some p.size fits.size);
  fold = λ p view fits is. volume_fold-planned p view is (size-some p.size fits.size);
  reading = read-planned;
}
