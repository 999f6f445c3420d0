use Rattle.std.proofs.Common.{◌≡◌, ◌≤◌, ℕ, length, subst, sym, ap, ◌∙◌, arith}
use Rattle.std.specs.Prelude.{slice_index}
use Rattle.volume_def.specs.Table.{cluster_bytes}
use Rattle.volume_def.specs.Values.{pieces_touched}
use Rattle.attr_store.specs.Mft.{view}
use Rattle.attr_store.proofs.StreamReads.{MftReads-less}
use Rattle.sparse_io.proofs.PatchLaws.{placed-index, sector-piece}
use Rattle.sparse_io.proofs.write.read_sector.Goals as goal

pub returns-in-Ok-clause-read : goal.returns-in-Ok-clause-read
returns-in-Ok-clause-read g c told j lt =
    let old = view g.D.Disk c.args.mft.now in
    let len : length c.args.into.now ≡ 512 = omega arith in
    ap (λ xs. slice_index xs j) (c.in-Ok.ensures.read told)
    ∙ placed-index old.cluster (cluster_bytes old.layout) c.args.cluster c.args.skip (length c.args.into.now) j (omega (arith, lt, len))
    (omega (arith, len, c.requires.inside))

pub returns-in-Ok-clause-reads : goal.returns-in-Ok-clause-reads
returns-in-Ok-clause-reads g c =
    let len : length c.args.into.now ≡ 512 = omega arith in
    MftReads-less g.D.Disk c.args.mft.now c.read_placed.new.self _ _ c.read_placed.ensures.reads
    (subst (λ (n : ℕ). pieces_touched c.args.skip n ≤ 1) (sym len) (sector-piece c.args.skip c.requires.aligned))

pub returns-in-Err-clause-reads : goal.returns-in-Err-clause-reads
returns-in-Err-clause-reads g c =
    let len : length c.args.into.now ≡ 512 = omega arith in
    MftReads-less g.D.Disk c.args.mft.now c.read_placed.new.self _ _ c.read_placed.ensures.reads
    (subst (λ (n : ℕ). pieces_touched c.args.skip n ≤ 1) (sym len) (sector-piece c.args.skip c.requires.aligned))
