use Rattle.std.proofs.Common.{length-set}
use Rattle.cluster_bitmap.proofs.RangeLaws.{bit_of-padded, bit_of-kept}
use Rattle.cluster_bitmap.proofs.pad.Goals as goal

pub returns-then-within-ne0-clause-set : goal.returns-then-within-ne0-clause-set
returns-then-within-ne0-clause-set c = λ at from h. bit_of-padded c.args.words.now c.args.count at c.requires.few from
    (simp length-set at h)

pub returns-then-within-ne0-clause-kept : goal.returns-then-within-ne0-clause-kept
returns-then-within-ne0-clause-kept c = λ at h. bit_of-kept c.args.words.now c.args.count at c.requires.enough h
