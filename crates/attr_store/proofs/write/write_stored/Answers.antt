use Rattle.std.proofs.Common.{◌≡◌, ℕ, List, length, inl, inr, sym, subst}
use Rattle.std.specs.Prelude.{Contains}
use Rattle.std.proofs.lemmas.Result.{on_ok_weaker}
use Rattle.volume_def.specs.Coverage.{IsApart}
use Rattle.volume_def.specs.ExtentsClause.{AreAttribute}
use Rattle.volume_def.specs.Files.{Part}
use Rattle.volume_def.specs.Table.{cluster_bytes}
use Rattle.volume_def.specs.Values.{spot_at}
use Rattle.volume_def.specs.View.{VolumeView}
use Rattle.vol_stage.specs.Staged.{StagesOnly}
use Rattle.file_record.specs.Clusters.{IsOwnStream, IsPlaced, WritesStream, stream_sectors}
use Rattle.attr_view.specs.View.{attribute_of}
use Rattle.file_record.specs.Mft.{stage_of, view}
use Rattle.file_record.proofs.StagedRecord.{view-reserved}
use Rattle.file_record.specs.Held.{file_number}
use Rattle.attr_store.specs.Sought.{parts_held_like}
use Rattle.attr_store.proofs.Found.{among-place}
use Rattle.attr_store.proofs.StoredLaws.{stored-like, stored-stream}
use Rattle.attr_store.proofs.write.write_stored.Goals as goal

pub write_stream-requires-clause-among : goal.write_stream-requires-clause-among
write_stream-requires-clause-among g c =
    among-place c.args.file.now c.args.stored.now.part (attribute_of c.attr-attribute.result) c.attr-attribute.ensures.part

pub returns-clause-written : goal.returns-clause-written
returns-clause-written g c =
    let file = c.args.file.now in
    let a = attribute_of c.attr-attribute.result in
    let volume = view g.D.Disk c.args.mft.now in
    let new = view g.D.Disk c.write_stream.new.mft in
    let f = file_number file in
    let size = cluster_bytes volume.layout in
    let from = c.args.from.now in
    let same = view-reserved g.D.Disk c.args.mft.now c.reserve.new.mft c.in_ok-reserve.ensures.keeps in
    on_ok_weaker c.write_stream.result (λ w told readable are is_file kind name st other may.
    let like = stored-like file kind name c.args.stored.now st a c.attr-attribute.ensures.part in
    let stream = stored-stream file kind name c.args.stored.now st volume readable are is_file other in
    let its = subst (λ (v : VolumeView). (n : ℕ) → AreAttribute (cluster_bytes v.layout) n (parts_held_like file a) → IsApart v.layout
    → IsOwnStream v.layout (spot_at (parts_held_like file a))
    → IsPlaced (cluster_bytes v.layout) (spot_at (parts_held_like file a)) c.args.at (length from)
    → WritesStream v new (spot_at (parts_held_like file a)) c.args.at from) same w in
    subst (λ (xs : List Part). AreAttribute size f xs → IsApart volume.layout → IsOwnStream volume.layout (spot_at xs)
    → IsPlaced size (spot_at xs) c.args.at (length from) → WritesStream volume new (spot_at xs) c.args.at from) like (its f)
    stream may.apart may.own may.placed) c.write_stream.ensures.written

pub returns-clause-places : goal.returns-clause-places
returns-clause-places g c told readable are is_file kind name st other =
    let file = c.args.file.now in
    let a = attribute_of c.attr-attribute.result in
    let volume = view g.D.Disk c.args.mft.now in
    let f = file_number file in
    let size = cluster_bytes volume.layout in
    let len = length c.args.from.now in
    let keeps = c.in_ok-reserve.ensures.keeps in
    let same = view-reserved g.D.Disk c.args.mft.now c.reserve.new.mft keeps in
    let like = stored-like file kind name c.args.stored.now st a c.attr-attribute.ensures.part in
    let stream = stored-stream file kind name c.args.stored.now st volume readable are is_file other in
    let its = subst (λ (v : VolumeView). AreAttribute (cluster_bytes v.layout) f (parts_held_like file a)
    → StagesOnly g.D.Disk (stream_sectors v.layout (spot_at (parts_held_like file a)) c.args.at len) (stage_of g.D.Disk c.reserve.new.mft)
    (stage_of g.D.Disk c.write_stream.new.mft)) same (c.write_stream.ensures.places f)
    (subst (λ (xs : List Part). AreAttribute size f xs) (sym like) stream) in
    let all = subst (λ (xs : List Part). StagesOnly g.D.Disk (stream_sectors volume.layout (spot_at xs) c.args.at len)
    (stage_of g.D.Disk c.reserve.new.mft) (stage_of g.D.Disk c.write_stream.new.mft)) like its in
    record {
      only = λ s h. elim (all.only s h) [
        | inl was ↦ inl (subst (λ (xs : List ℕ). Contains xs s) keeps.places was)
        | inr new ↦ inr new
      ];
    }
