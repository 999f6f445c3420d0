use Rattle.std.proofs.Common.{sym}
use Rattle.ntfs_def.proofs.AttributeLaws.{length-attributes}
use Rattle.file_record.proofs.HeldLaws.{Held-few}
use Rattle.file_record.proofs.held.Held.count.Goals as goal

pub returns-clause-count : goal.returns-clause-count
returns-clause-count c = sym (length-attributes c.args.self.now.block c.args.self.now.count c.args.self.now.shape)

pub returns-clause-few : goal.returns-clause-few
returns-clause-few c = Held-few c.args.self.now
