use Rattle.std.proofs.Common.{◌≡◌, ◌+◌, ◌*◌, ◌/◌, List, ℕ, length, Some, sym, ap, subst, ◌∙◌, arith}
use Rattle.std.specs.List.{range_with_len}
use Rattle.file_record.specs.Mft.{MftStages, view}
use Rattle.attr_store.specs.Written.{run_sectors}
use Rattle.attr_store.proofs.PutLaws.{put-none}
use Rattle.attr_store.proofs.StageLaws.{MftStages-more, MftStages-none}
use Rattle.attr_store.proofs.write.put_run.Goals as goal

pub returns-in_default-clause-written : goal.returns-in_default-clause-written
returns-in_default-clause-written g c spot k first e whole apart own lies = let none = c.in_default.is in cc

pub returns-in_default-clause-stages : goal.returns-in_default-clause-stages
returns-in_default-clause-stages g c =
    MftStages-more g.D.Disk _ _ 0 (length c.args.from.now / 512) c.args.mft.now c.args.mft.now (λ s h. h) (omega arith)
    (MftStages-none g.D.Disk _ c.args.mft.now c.requires.sound)

pub returns-then-cluster-sectors-clause-written : goal.returns-then-cluster-sectors-clause-written
returns-then-cluster-sectors-clause-written g c spot k first e whole apart own lies =
    let per = (view g.D.Disk c.args.mft.now).layout.cluster_sectors in
    let there = c.in-Some.is in
    let same : first ≡ c.in-Some.cluster = cc in
    c.put_sectors.ensures.written spot k whole apart own (λ j lt. lies j lt
    ∙ ap (λ n. Some (n * per + c.args.skip / 512 + j)) same
    ∙ ap (λ p. Some (c.in-Some.cluster * p + c.args.skip / 512 + j)) (sym c.cluster_sectors.ensures.sectors))

pub returns-then-cluster-sectors-clause-stages : goal.returns-then-cluster-sectors-clause-stages
returns-then-cluster-sectors-clause-stages g c =
    let per = (view g.D.Disk c.args.mft.now).layout.cluster_sectors in
    let n = length c.args.from.now / 512 in
    let named = ap (λ o. run_sectors per o c.args.skip (length c.args.from.now)) c.in-Some.is
    ∙ ap (λ p. range_with_len (c.in-Some.cluster * p + c.args.skip / 512) n) (sym c.cluster_sectors.ensures.sectors) in
    subst (λ (xs : List ℕ). MftStages g.D.Disk xs n c.args.mft.now c.put_sectors.new.mft) (sym named) c.put_sectors.ensures.stages

pub returns-else-cluster-sectors-clause-written : goal.returns-else-cluster-sectors-clause-written
returns-else-cluster-sectors-clause-written g c spot k first e whole apart own lies =
    let there = c.in-Some.is in
    let same : first ≡ c.in-Some.cluster = cc in
    put-none g.D.Disk c.args.mft.now spot k first c.args.skip c.args.from.now whole apart own lies
    (omega (arith, same, c.if-cluster-sectors.false, c.sectors.ensures.size))

pub returns-else-cluster-sectors-clause-stages : goal.returns-else-cluster-sectors-clause-stages
returns-else-cluster-sectors-clause-stages g c =
    MftStages-more g.D.Disk _ _ 0 (length c.args.from.now / 512) c.args.mft.now c.args.mft.now (λ s h. h) (omega arith)
    (MftStages-none g.D.Disk _ c.args.mft.now c.requires.sound)
