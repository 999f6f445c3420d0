use Rattle.std.proofs.Common.{◌≡◌, ◌≤◌, ◌+◌, ◌-◌, ◌++◌, length, replicate, sym, ap, ◌∙◌, arith}
use Rattle.std.specs.Prelude.{slice_range}
use Rattle.std.proofs.lemmas.List.{length-take-le}
use Rattle.attr_view.specs.View.{attribute_of}
use Rattle.volume_def.specs.Values.{value_of_parts}
use Rattle.volume_def.specs.Table.{cluster_bytes}
use Rattle.volume_def.proofs.StoredLaws.{value-length_told, value-range}
use Rattle.file_record.specs.Mft.{view}
use Rattle.attr_store.specs.Sought.{parts_held_like}
use Rattle.attr_store.proofs.Filled.{filled}
use Rattle.attr_store.proofs.read.read_clusters.Goals as goal

pub returns-clause-read : goal.returns-clause-read
returns-clause-read g c told f extent s first fits =
    let v = view g.D.Disk c.args.mft.now in
    let size = cluster_bytes v.layout in
    let extents = parts_held_like c.args.file.now (attribute_of c.args.wanted.now) in
    let n = c.written_len-written.result in
    let len = length c.args.into.now in
    let (one, begins, is) = c.initialized_size-initialized.ensures size f s extent first in
    let within : n ≤ len = omega (arith, c.written_len-written.ensures) in
    let all = length-take-le n c.args.into.now within in
    let read = rw all at c.in_ok-read_stream.ensures.read told f s in
    let long : length c.read_stream.new.into ≡ n = omega (arith, all) in
    let real = value-length_told v.cluster size f extents one s begins in
    let sum : n + (len - n) ≡ len = omega (arith, within) in
    filled c.args.into.now c.read_stream.new.into c.fill.new.self n _ within long (omega arith) (c.fill.ensures.after (λ y e. e))
    ∙ ap (λ xs. xs ++ replicate (len - n) 0) read
    ∙ sym (value-range v.cluster size f extents one c.args.at n (len - n) s begins (omega (arith, fits, real, within))
    (λ some. omega (arith, c.written_len-written.ensures, is)) (λ some. omega (arith, c.written_len-written.ensures, is)))
    ∙ ap (λ k. slice_range (value_of_parts v.cluster size extents) c.args.at (c.args.at + k)) sum
