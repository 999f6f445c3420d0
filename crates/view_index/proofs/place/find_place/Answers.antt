use Rattle.std.proofs.Common.{◌+◌, ◌≤◌, refl, sym, ◌∙◌, arith}
use Rattle.std.proofs.lemmas.Bool.{false≢true}
use Rattle.ntfs_def.specs.declared.kinds.TheConstants.{DATA}
use Rattle.mft_table.specs.Mft.{view}
use Rattle.view_index.proofs.PlaceLaws.{place-found, sds, stream-length}
use Rattle.view_index.proofs.place.find_place.Goals as goal

pub returns-then-not-is_inside-clause-told : goal.returns-then-not-is_inside-clause-told
returns-then-not-is_inside-clause-told g c told tells =
    let volume = view g.D.Disk c.args.mft.now in
    let len = stream-length volume c.args.file.now (c.requires.held told) c.in-Some.stream c.in-Some.ensures.stored in
    let inside : c.u64_at-offset.result + c.u32_at-size.result ≤ c.in-Some.stream.len =
    omega (arith, tells.inside, len, c.u64_at-offset.ensures, c.u32_at-size.ensures) in
    false≢true (sym c.if-not-is_inside.true ∙ c.is_inside.ensures.1 inside)

pub returns-clause-told : goal.returns-clause-told
returns-clause-told g c told =
    let volume = view g.D.Disk c.args.mft.now in
    let held = c.requires.held told in
    let inside : c.u64_at-offset.result + c.u32_at-size.result ≤ c.in-Some.stream.len = c.is_inside.ensures.0 c.if-not-is_inside.false in
    let same = c.in_ok-has_header.ensures.same told held.held DATA sds c.in-Some.ensures.stored
    (omega (arith, inside, c.if-size.false)) in
    place-found volume c.args.file.now held c.args.data.now c.in-Some.stream c.u64_at-offset.result c.u32_at-size.result
    c.in-Some.ensures.stored (c.in-Some.ensures.plain.0 refl) c.if-data-lt-HEADER.false c.u64_at-offset.ensures c.u32_at-size.ensures
    c.if-size.false c.if-size-gt-MOST.false inside (same.0 c.if-not-branch.false)
