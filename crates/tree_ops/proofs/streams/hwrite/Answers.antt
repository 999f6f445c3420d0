use Rattle.std.proofs.Common.{◌≡◌, ◌&&◌, ◌∙◌, ℕ, List, Ok, Err, ap, inl, length, subst, sym}
use Rattle.std.specs.Prelude.{IsSome}
use Rattle.std.specs.Option.{option_map_or}
use Rattle.std.proofs.lemmas.List.Elements.{All-contains}
use Rattle.list_laws.proofs.FindLaws.{find-found}
use Rattle.mft_table.specs.Mft.{view}
use Rattle.tree_model.specs.Opens.{contains, is_handle, to_write}
use Rattle.tree_model.specs.Reading.{read}
use Rattle.tree_model.specs.Tree.{node_of}
use Rattle.tree_model.specs.declared.opens.OpenEntry.{OpenEntry}
use Rattle.tree_model.specs.declared.reply.No.TheVariants as no
use Rattle.tree_read.specs.Nodes.{number_of}
use Rattle.stream_changes.specs.Below.{IsWritable, hwrite_in}
use Rattle.tree_ops.specs.Edits.{hwrite_edit, most_for}
use Rattle.tree_ops.specs.declared.streams.StreamEdit.TheVariants as s
use Rattle.tree_ops.proofs.EndLaws.{all-keeps, ended, placed-back, stages-back}
use Rattle.tree_ops.proofs.PlaceLaws.{can-finish}
use Rattle.tree_ops.proofs.StagedEdits.{giving-staged}
use Rattle.tree_ops.proofs.StillLaws.{reads-still, still-can, still-then, still-told}
use Rattle.tree_ops.proofs.TablesKept.{tables-device}
use Rattle.tree_ops.proofs.streams.hwrite.Goals as goal

pub find_writable_through-requires-clause-file : goal.find_writable_through-requires-clause-file
find_writable_through-requires-clause-file g c = λ told.
    All-contains (λ (entry : OpenEntry). IsSome (node_of (read (view g.D.Disk c.args.mft.now)) entry.file)) c.args.opens.now
    c.in-Some.entry.now (c.requires.files told)
    (find-found (λ (entry : OpenEntry). is_handle c.args.session c.args.handle entry && contains entry.access to_write) c.args.opens.now
    c.in-Some.entry.now (sym c.in-Some.ensures)).0

pub mark_place-requires : goal.mark_place-requires
mark_place-requires g c = record {
  can = still-can g.D.Disk c.args.mft.now c.find_writable_through.new.mft
      (reads-still g.D.Disk c.args.mft.now c.find_writable_through.new.mft c.find_writable_through.ensures.answered.reads
      c.find_writable_through.ensures.answered.only) c.args.mark.now
      c.requires.can;
}

pub stage_stream-requires-clause-can : goal.stage_stream-requires-clause-can
stage_stream-requires-clause-can g c =
    let old = c.args.mft.now in
    let v = view g.D.Disk c.mark_place.new.mft in
    let stream = c.in-Some.entry.now.stream in
    let one = reads-still g.D.Disk old c.find_writable_through.new.mft c.find_writable_through.ensures.answered.reads
    c.find_writable_through.ensures.answered.only in
    let two = reads-still g.D.Disk c.find_writable_through.new.mft c.mark_place.new.mft c.mark_place.ensures.reads.0
    c.mark_place.ensures.reads.1 in
    λ told. (
      stream,
      subst (λ (all : List ℕ). IsWritable v c.in_ok-found.found stream c.args.from (length all)) c.as_slice.ensures
          (still-told g.D.Disk old c.mark_place.new.mft
          (still-then g.D.Disk old c.find_writable_through.new.mft c.mark_place.new.mft one two)
          (λ v. IsWritable v c.in_ok-found.found stream c.args.from (length c.as_slice.result.now)) c.in_ok-found.ensures.can told),
    )

pub finish-requires : goal.finish-requires
finish-requires g c =
    let old = c.args.mft.now in
    let found = c.in_ok-found.found in
    let mid = c.mark_place.new.mft in
    let most = most_for (s.Write c.args.from c.args.bytes) in
    let edit = hwrite_edit (s.Write c.args.from c.args.bytes) c.args.opens.now c.args.session c.args.handle c.args.moment in
    let one = reads-still g.D.Disk old c.find_writable_through.new.mft c.find_writable_through.ensures.answered.reads
    c.find_writable_through.ensures.answered.only in
    let two = reads-still g.D.Disk c.find_writable_through.new.mft mid c.mark_place.ensures.reads.0 c.mark_place.ensures.reads.1 in
    let both = still-then g.D.Disk old c.find_writable_through.new.mft mid one two in
    record {
      can =
          can-finish g.D.Disk old c.stage_stream.new.mft c.args.mark.now c.requires.can edit (number_of found.held)
          (λ told. let set = (c.in_ok-found.ensures.can told).settable in (set.can.node, set.can.can)) (λ sector is. inl is)
          c.in_ok-place.place
          (placed-back g.D.Disk old c.find_writable_through.new.mft one c.args.mark.now c.in_ok-place.place c.in_ok-place.ensures.placed)
          (all-keeps g.D.Disk old mid both c.stage_stream.new.mft
          (tables-device g.D.Disk mid c.stage_stream.new.mft c.in_ok-stage_stream.ensures.device))
          (stages-back g.D.Disk old mid both edit (number_of found.held) c.stage_stream.new.mft
          (λ told. giving-staged g.D.Disk most (number_of found.held) (view g.D.Disk mid) mid c.stage_stream.new.mft
          (c.in_ok-stage_stream.ensures.places told)));
    }

pub returns-clause-ends : goal.returns-clause-ends
returns-clause-ends g c =
    let old = c.args.mft.now in
    let v = view g.D.Disk old in
    let found = c.in_ok-found.found in
    let mid = c.mark_place.new.mft in
    let stream = c.in-Some.entry.now.stream in
    let one = reads-still g.D.Disk old c.find_writable_through.new.mft c.find_writable_through.ensures.answered.reads
    c.find_writable_through.ensures.answered.only in
    let two = reads-still g.D.Disk c.find_writable_through.new.mft mid c.mark_place.ensures.reads.0 c.mark_place.ensures.reads.1 in
    let both = still-then g.D.Disk old c.find_writable_through.new.mft mid one two in
    ended g.D.Disk old mid both
    (hwrite_edit (s.Write c.args.from c.args.bytes) c.args.opens.now c.args.session c.args.handle c.args.moment) (number_of found.held)
    c.stage_stream.new.mft (tables-device g.D.Disk mid c.stage_stream.new.mft c.in_ok-stage_stream.ensures.device)
    c.in_ok-stage_stream.ensures.tables
    (λ told. record {
      entry = c.in-Some.entry.now;
      opened = sym c.in-Some.ensures;
      edits = c.in_ok-stage_stream.ensures.edits told stream
          (subst (λ (all : List ℕ). IsWritable (view g.D.Disk mid) found stream c.args.from (length all)) c.as_slice.ensures
          (still-told g.D.Disk old mid both (λ v. IsWritable v found stream c.args.from (length c.as_slice.result.now))
          c.in_ok-found.ensures.can told));
    })
    (λ told. giving-staged g.D.Disk (most_for (s.Write c.args.from c.args.bytes)) (number_of found.held) (view g.D.Disk mid) mid
    c.stage_stream.new.mft (c.in_ok-stage_stream.ensures.places told))
    c.args.mark.now (λ told.
    ap (λ o. option_map_or (λ (entry : OpenEntry). hwrite_in v entry.stream c.args.from (length c.args.bytes.now) entry.file) o (Err
    no.NoHandle))
    (sym c.in-Some.ensures)
    ∙ subst (λ (all : List ℕ). hwrite_in v stream c.args.from (length all) c.in-Some.entry.now.file ≡ Ok (number_of found.held))
    c.as_slice.ensures (c.in_ok-found.ensures.answered.is told))
    c.requires.can.clear.plain c.in_ok-place.place
    (placed-back g.D.Disk old c.find_writable_through.new.mft one c.args.mark.now c.in_ok-place.place c.in_ok-place.ensures.placed)
    c.finish.new.mft c.finish.ensures.mounted c.finish.ensures.goes_on c.finish.new.mark c.finish.result c.finish.ensures.done
    c.finish.ensures.fails c.finish.ensures.mark c.finish.ensures.device c.finish.ensures.most
