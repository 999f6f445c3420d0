use Rattle.std.proofs.Common.{◌≤◌, ◌<◌, ◌/◌, refl, sym, subst, ◌∙◌}
use Rattle.mft_table.specs.declared.mounted.Mounted.{Mounted}
use Rattle.mft_table.specs.Mft.{mounted_of, view}
use Rattle.tree_edit.proofs.GivesLaws.{at_once}
use Rattle.make_places.proofs.FreeRecords.{behind-written, in-written, none-free}
use Rattle.make_places.proofs.record_free.has_record.Goals as goal

pub returns-in_default-clause-has : goal.returns-in_default-clause-has
returns-in_default-clause-has g c = at_once refl (λ told.
    let old = c.args.mft.now in
    sym (none-free (view g.D.Disk old) (mounted_of g.D.Disk old) (c.requires.volume told) c.in_default.ensures.none))

pub returns-then-n-mounted-clause-has : goal.returns-then-n-mounted-clause-has
returns-then-n-mounted-clause-has g c = at_once refl (λ told.
    let old = c.args.mft.now in
    sym (behind-written (view g.D.Disk old) (mounted_of g.D.Disk old) (c.requires.volume told) c.in-Some.n c.in-Some.ensures.some
    (subst (λ (m : Mounted). m.initialized / 1024 ≤ c.in-Some.n) c.mounted.ensures c.if-n-mounted.true)))

pub returns-in-Ok-clause-has : goal.returns-in-Ok-clause-has
returns-in-Ok-clause-has g c = record {
  reads = 20678;
  only = c.in-Ok.ensures.reads;
  counts = c.in-Ok.ensures.faults;
  is = λ told.
      let old = c.args.mft.now in
      c.in-Ok.ensures.can told
      ∙ sym (in-written (view g.D.Disk old) (mounted_of g.D.Disk old) (c.requires.volume told) c.in-Some.n c.in-Some.ensures.some
      (subst (λ (m : Mounted). c.in-Some.n < m.initialized / 1024) c.mounted.ensures c.if-n-mounted.false));
}

pub returns-in-Ok-clause-free : goal.returns-in-Ok-clause-free
returns-in-Ok-clause-free g c = λ can. (c.in-Some.n, c.in-Some.ensures.some.free)
