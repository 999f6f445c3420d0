use Rattle.std.proofs.Common.{◌<◌, ◌≤◌, None, length, get_or}
use Rattle.ntfs_def.specs.declared.run_text.Run.{Run}
use Rattle.data_runs.proofs.SpotSteps.{IsRunListFrom-later}
use Rattle.data_runs.proofs.WrittenLaws.{place_after-near}
use Rattle.data_runs.proofs.EncodeLaws.{room-next, IsBegun-next, room-end, Puts-end, MeansRuns-put}
use Rattle.data_runs.proofs.RunList.encode_into.Goals as goal

pub put_run-at-requires-clause-room : goal.put_run-at-requires-clause-room
put_run-at-requires-clause-room c =
    let d : Run = record { len = 0; lcn = None } in
    let lt : c.loop-run.run-index < length c.args.self.now = rw c.runs-run-items.ensures.runs at c.loop-run-test.true in
    let (total, list) = c.loop-run.invariant.list in
    rw c.runs-run-items.ensures.runs (room-next c.args.self.now c.loop-run.run-index c.loop-run.last total c.args.out.now _ _ d lt
    c.loop-run.invariant.near c.requires
    (IsRunListFrom-later total c.args.self.now c.loop-run.run-index d lt list) c.loop-run.invariant.begun)

pub loop-run-preserved : goal.loop-run-preserved
loop-run-preserved c =
    let d : Run = record { len = 0; lcn = None } in
    let lt : c.loop-run.run-index < length c.args.self.now = rw c.runs-run-items.ensures.runs at c.loop-run-test.true in
    let (total, list) = c.loop-run.invariant.list in
    let (some, bounded, reach, more) = IsRunListFrom-later total c.args.self.now c.loop-run.run-index d lt list in
    let run = get_or c.args.self.now c.loop-run.run-index d in
    let puts = rw c.runs-run-items.ensures.runs at c.put_run-at.ensures in
    rw (c.unwrap_or-last.ensures, c.runs-run-items.ensures.runs) (record {
      near = place_after-near c.loop-run.last run.len run.lcn c.loop-run.invariant.near reach;
      list = (_, more);
      begun = IsBegun-next c.args.self.now c.loop-run.run-index c.loop-run.last c.args.out.now _ _ _ _ d lt
          c.loop-run.invariant.begun c.put_run-at.auto.out puts;
    })

pub bounds-out-at : goal.bounds-out-at
bounds-out-at c =
    let all : length c.args.self.now ≤ c.loop-run.run-index = rw c.runs-run-items.ensures.runs at c.loop-run-test.false in
    room-end c.args.self.now c.loop-run.run-index _ c.args.out.now _ _ all c.requires c.loop-run.invariant.begun

pub returns-clause-written : goal.returns-clause-written
returns-clause-written c =
    let all : length c.args.self.now ≤ c.loop-run.run-index = rw c.runs-run-items.ensures.runs at c.loop-run-test.false in
    let room = room-end c.args.self.now c.loop-run.run-index _ c.args.out.now _ _ all c.requires c.loop-run.invariant.begun in
    Puts-end c.args.self.now c.loop-run.run-index _ c.args.out.now _ _ all room c.loop-run.invariant.begun

pub returns-clause-means : goal.returns-clause-means
returns-clause-means c =
    let all : length c.args.self.now ≤ c.loop-run.run-index = rw c.runs-run-items.ensures.runs at c.loop-run-test.false in
    let room = room-end c.args.self.now c.loop-run.run-index _ c.args.out.now _ _ all c.requires c.loop-run.invariant.begun in
    MeansRuns-put c.args.self.now c.args.out.now _ _ c.runs-run-items.ensures.limits
    (Puts-end c.args.self.now c.loop-run.run-index _ c.args.out.now _ _ all room c.loop-run.invariant.begun)
