use Rattle.std.proofs.Common.{◌+◌, ◌*◌, ◌<◌, ◌≤◌, length, take, ap, ◌∙◌, sym, arith, vec_len}
use Rattle.std.proofs.lemmas.List.{length_push}
use Rattle.vol_disk.specs.Contents.{with_sector}
use Rattle.vol_disk.specs.Replay.{replay, contents_at}
use Rattle.vol_disk.specs.declared.mem_disk.Write.{Write}
use Rattle.vol_disk.proofs.ReplayLaws.{replay-push, replay-before, contents_at-push}
use Rattle.vol_disk.proofs.SectorLaws.{length-with_sector}
use Rattle.vol_disk.proofs.mem_disk.MemDisk.record.Goals as goal

pub invariant_of-self-clause-agrees : goal.invariant_of-self-clause-agrees
invariant_of-self-clause-agrees c _ =
    let disk = c.args.self.now in
    let write : Write = record { sector = c.args.sector; bytes = c.args.from.now } in
    let room : 0 < disk.room + vec_len disk.writes = omega (arith, c.requires.room) in
    c.put_in.ensures
    ∙ ap (λ all. with_sector all c.args.sector c.args.from.now) (disk.agrees room)
    ∙ sym (replay-push disk.writes.items write disk.first.items)
    ∙ sym (ap (λ writes. replay writes disk.first.items) c.push_reserved.ensures.items)

pub invariant_of-self-clause-sized : goal.invariant_of-self-clause-sized
invariant_of-self-clause-sized c =
    let disk = c.args.self.now in
    let write : Write = record { sector = c.args.sector; bytes = c.args.from.now } in
    let all = replay disk.writes.items disk.first.items in
    let long : 512 * c.args.sector + 512 ≤ length all = omega (arith, disk.sized, c.requires.sector) in
    ap (λ writes. length (replay writes disk.first.items)) c.push_reserved.ensures.items
    ∙ ap length (replay-push disk.writes.items write disk.first.items)
    ∙ length-with_sector all c.args.from.now c.args.sector long c.told-from
    ∙ disk.sized

pub invariant_of-self-clause-within : goal.invariant_of-self-clause-within
invariant_of-self-clause-within c k d h =
    let disk = c.args.self.now in
    let write : Write = record { sector = c.args.sector; bytes = c.args.from.now } in
    omega (arith, disk.within k d h, ap length c.push_reserved.ensures.items, length_push disk.writes.items write)

pub invariant_of-self-clause-fence_within : goal.invariant_of-self-clause-fence_within
invariant_of-self-clause-fence_within c =
    let disk = c.args.self.now in
    let write : Write = record { sector = c.args.sector; bytes = c.args.from.now } in
    omega (arith, disk.fence_within, ap length c.push_reserved.ensures.items, length_push disk.writes.items write)

pub returns-clause-fenced : goal.returns-clause-fenced
returns-clause-fenced c =
    let disk = c.args.self.now in
    let write : Write = record { sector = c.args.sector; bytes = c.args.from.now } in
    ap (λ writes. replay (take disk.fence writes) disk.first.items) c.push_reserved.ensures.items
    ∙ replay-before disk.fence disk.writes.items write disk.first.items disk.fence_within

pub returns-clause-settled : goal.returns-clause-settled
returns-clause-settled c =
    let disk = c.args.self.now in
    let write : Write = record { sector = c.args.sector; bytes = c.args.from.now } in
    ap (λ writes. contents_at disk.settles.items writes disk.first.items) c.push_reserved.ensures.items
    ∙ contents_at-push disk.settles.items disk.writes.items write disk.first.items disk.within
