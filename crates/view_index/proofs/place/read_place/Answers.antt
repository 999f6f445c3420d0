use Rattle.std.proofs.Common.{◌≡◌, ◌+◌, ◌++◌, drop, length, take, sym, ap, ◌∙◌, arith}
use Rattle.std.proofs.Math.Seq.{take-append_seam}
use Rattle.std.specs.Prelude.{slice_range}
use Rattle.ntfs_def.specs.declared.kinds.TheConstants.{DATA}
use Rattle.volume_def.specs.Values.{value_on}
use Rattle.index_store.specs.First.{attribute_held}
use Rattle.mft_table.specs.Mft.{view}
use Rattle.view_index.proofs.PlaceLaws.{bytes-told, sds}
use Rattle.view_index.proofs.place.read_place.Goals as goal

pub returns-clause-read : goal.returns-clause-read
returns-clause-read g c told id has =
    let volume = view g.D.Disk c.args.mft.now in
    let held = c.requires.held told in
    let place = c.args.place.now in
    let new = c.read_stored.new.into in
    let items = c.in_ok-bytes.bytes.items in
    let long : length c.deref_mut.result.now ≡ place.len = c.deref_mut.ensures.len ∙ c.in_ok-bytes.ensures.len in
    let whole = sym (c.read_stored.auto.into ∙ c.deref_mut.ensures.len) in
    let bytes : c.from_vec.result ≡ new =
    c.from_vec.ensures ∙ ap (λ n. take n (new ++ drop (length new) items)) whole ∙ take-append_seam new (drop (length new) items) in
    let read = c.in_ok-read_stored.ensures.read told held.held.readable held.held.parts held.held.is_file DATA sds has.stored
    (omega (arith, long, has.inside)) in
    bytes-told volume c.args.file.now held id place c.from_vec.result has
    (bytes ∙ read ∙ ap (λ n. slice_range (value_on volume (attribute_held c.args.file.now DATA sds)) place.at (place.at + n)) long)
