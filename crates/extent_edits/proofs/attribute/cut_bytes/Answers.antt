use Rattle.std.proofs.Common.{◌≡◌, ◌≤◌, length, arith}
use Rattle.std.specs.Prelude.{sum_by}
use Rattle.std.proofs.Math.Nat.{mul-le-mul_right}
use Rattle.std.proofs.lemmas.List.{take_rest}
use Rattle.edit_def.specs.Purses.{run_size}
use Rattle.ntfs_def.specs.Attribute.{runs_offset}
use Rattle.extent_edits.proofs.EditLaws.{CutsBytes-put, drop-cut, stored-few, text-inside}
use Rattle.extent_edits.proofs.attribute.cut_bytes.Goals as goal

pub stored_in-requires : goal.stored_in-requires
stored_in-requires c =
    let old = c.args.bytes.now in
    let from = c.u16_at-from.result in
    let runs = c.args.runs.now in
    let cut = c.cut_text.ensures in
    let at : from ≡ runs_offset old 0 = c.u16_at-from.ensures in
    let inside = text-inside old runs c.requires.one c.requires.extent c.requires.means in
    let behind = drop-cut old c.cut_text.new.text from c.args.clusters runs (omega (arith, inside.1, at)) cut in
    (cut.kept, rw (take_rest, behind) cut.means)

pub overflow_mul-stored : goal.overflow_mul-stored
overflow_mul-stored c =
    let old = c.args.bytes.now in
    let from = c.u16_at-from.result in
    let runs = c.args.runs.now in
    let cut = c.cut_text.ensures in
    let at : from ≡ runs_offset old 0 = c.u16_at-from.ensures in
    let inside = text-inside old runs c.requires.one c.requires.extent c.requires.means in
    let behind = drop-cut old c.cut_text.new.text from c.args.clusters runs (omega (arith, inside.1, at)) cut in
    let sum : c.in_ok-stored.stored ≡ sum_by run_size cut.kept = c.in_ok-stored.ensures cut.kept (rw (take_rest, behind) cut.means) in
    let few = mul-le-mul_right {m = sum_by run_size cut.kept} {n =
    c.args.clusters} c.args.cluster (stored-few cut.kept c.args.clusters runs cut.clusters) in
    rw sum (omega (arith, few, c.requires.told))

pub returns : goal.returns
returns c =
    let old = c.args.bytes.now in
    let from = c.u16_at-from.result in
    let runs = c.args.runs.now in
    let cut = c.cut_text.ensures in
    let at : from ≡ runs_offset old 0 = c.u16_at-from.ensures in
    let inside = text-inside old runs c.requires.one c.requires.extent c.requires.means in
    let within : from ≤ length old = omega (arith, inside.1, at) in
    let behind = drop-cut old c.cut_text.new.text from c.args.clusters runs within cut in
    let sum : c.in_ok-stored.stored ≡ sum_by run_size cut.kept = c.in_ok-stored.ensures cut.kept (rw (take_rest, behind) cut.means) in
    CutsBytes-put old c.cut_text.new.text from c.args.clusters runs within cut c.put_numbers.new.bytes c.args.cluster c.args.sizes.now
    c.has_compressed_len-more.result c.in_ok-stored.stored at c.has_compressed_len-more.ensures inside.0 sum
    (λ k. (c.type_inv.bytes k).fits) c.put_numbers.ensures
