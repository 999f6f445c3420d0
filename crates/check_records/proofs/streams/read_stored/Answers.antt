use Rattle.std.proofs.Common.{inl, ◌<◌, length, refl, ◌∙◌, arith}
use Rattle.mft_table.proofs.StreamBytes.{stored_bytes-next, stored_bytes-none}
use Rattle.mft_table.proofs.StreamReads.{MftReads-none, MftReads-then, seam-next, touched-add}
use Rattle.attr_store.proofs.Spanned.{stored-whole}
use Rattle.check_records.proofs.streams.read_stored.Goals as goal

pub clusters-init : goal.clusters-init
clusters-init g c = record {
  within = omega arith;
  cut = inl refl;
  read = λ told. rw stored_bytes-none refl;
  faults = refl;
  reads = MftReads-none g.D.Disk c.args.mft.now;
}

pub clusters-preserved : goal.clusters-preserved
clusters-preserved g c =
    let n = c.in_ok-done.field-0 in
    let len = length c.args.into.now in
    let lt : c.clusters.done < len = omega arith in
    let kept = c.clusters.invariant.reads in
    record {
      within = omega (arith, c.in_ok-done.ensures.len);
      cut = seam-next c.args.at c.clusters.done _ n _ len c.in_ok-done.ensures.cut refl (omega arith) lt
          (omega (arith, c.in_ok-done.ensures.some));
      read = λ told. stored_bytes-next _ _ _ c.args.into.now c.clusters.into _ _ _ c.clusters.done n _ refl (omega arith)
          (c.clusters.invariant.read told)
          (rw (kept.stage.only_reads.image, kept.mounted) at c.in_ok-done.ensures.read told);
      faults = c.in_ok-done.ensures.faults ∙ c.clusters.invariant.faults;
      reads = MftReads-then g.D.Disk _ c.clusters.mft _ _ _ _ kept c.in_ok-done.ensures.reads
          (touched-add c.args.at _ c.clusters.done n len lt c.clusters.invariant.cut refl);
    }

pub returns-clause-read : goal.returns-clause-read
returns-clause-read g c told =
    stored-whole _ _ _ c.args.into.now c.clusters.into c.args.at c.clusters.done (omega arith) (c.clusters.invariant.read told)
