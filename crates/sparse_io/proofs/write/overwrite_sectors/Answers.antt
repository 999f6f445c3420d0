use Rattle.std.proofs.Common.{◌≡◌, ◌≢◌, ◌%◌, List, length, sym, subst, ◌∙◌, arith}
use Rattle.std.proofs.lemmas.Bool.{eqb-false}
use Rattle.std.proofs.lemmas.Result.{on_ok_weaker}
use Rattle.ntfs_def.specs.declared.kinds.TheConstants.{DATA, FILE_NAME}
use Rattle.volume_def.specs.Files.{Part, parts_at}
use Rattle.volume_def.specs.Values.{spot_at}
use Rattle.vol_stage.specs.Staged.{StagesOnly}
use Rattle.volume_edits.specs.Clusters.{IsWritable, WritesStream, stream_sectors}
use Rattle.attr_store.specs.Mft.{stage_of, view}
use Rattle.attr_store.specs.Held.{file_number}
use Rattle.sparse_io.specs.Overwritten.{touched_sectors}
use Rattle.sparse_io.proofs.OverwriteLaws.{found-parts, found-stored, only-more, whole-touched}
use Rattle.sparse_io.proofs.write.overwrite_sectors.Goals as goal

pub returns-clause-written : goal.returns-clause-written
returns-clause-written g c =
    let old = view g.D.Disk c.args.mft.now in
    let new = view g.D.Disk c.write_stored.new.mft in
    let file = c.args.file.now in
    let found = c.args.found.now in
    let bytes = c.args.sectors.now in
    let other : DATA ≢ FILE_NAME = λ e. omega (arith, e) in
    on_ok_weaker c.write_stored.result (λ w told table name h is can.
    let parts = found-parts old table name file found h is in
    subst (λ (xs : List Part). WritesStream old new (spot_at xs) c.args.at bytes) parts
    (w told h.readable h.parts h.is_file DATA is.part.name (found-stored old table name file found h is) other
    (subst (λ (xs : List Part). IsWritable old xs c.args.at (length bytes)) (sym parts) can))) c.write_stored.ensures.written

pub returns-clause-places : goal.returns-clause-places
returns-clause-places g c told table name h is =
    let old = view g.D.Disk c.args.mft.now in
    let file = c.args.file.now in
    let found = c.args.found.now in
    let len = length c.args.sectors.now in
    let a = stage_of g.D.Disk c.args.mft.now in
    let b = stage_of g.D.Disk c.write_stored.new.mft in
    let other : DATA ≢ FILE_NAME = λ e. omega (arith, e) in
    let parts = found-parts old table name file found h is in
    let spot = spot_at (parts_at old (file_number file) DATA is.part.name) in
    let ne = eqb-false len 0 (sym c.is_empty.ensures ∙ c.if-is_empty.false) in
    let aligned : c.args.at % 512 ≡ 0 = c.requires.aligned (omega (arith, ne)) in
    only-more g.D.Disk (stream_sectors old.layout spot c.args.at len) (touched_sectors old.layout spot c.args.at len) a b
    (λ s there. whole-touched old.layout spot c.args.at len s aligned c.requires.whole there)
    (subst (λ (xs : List Part). StagesOnly g.D.Disk (stream_sectors old.layout (spot_at xs) c.args.at len) a b) parts
    (c.write_stored.ensures.places told h.readable h.parts h.is_file DATA is.part.name (found-stored old table name file found h is) other))
