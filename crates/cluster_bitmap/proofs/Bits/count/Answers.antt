use Rattle.std.proofs.Common.{length, ap, sym, ◌∙◌}
use Rattle.cluster_bitmap.proofs.FlagLaws.{length-flags_of}
use Rattle.cluster_bitmap.proofs.Bits.count.Goals as goal

pub returns : goal.returns
returns c = sym (length-flags_of c.self.inside.words.items c.self.inside.count) ∙ ap length c.self.view_is
