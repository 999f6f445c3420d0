use Rattle.std.proofs.Common.{◌≡◌, length, ◌∙◌, arith}
use Rattle.std.proofs.lemmas.Bool.Decides.{nat_tests}
use Rattle.vol_disk.proofs.ReplayLaws.{replay-none}
use Rattle.vol_disk.proofs.mem_disk.MemDisk.copy_first.Goals as goal

pub returns-in_ok-self-clause-copied : goal.returns-in_ok-self-clause-copied
returns-in_ok-self-clause-copied c =
    let disk = c.args.self.now in
    let none : length disk.writes.items ≡ 0 = grind (arith, nat_tests, c.if-is_empty.ensures, disk.writes.ok) in
    c.in_ok-self.ensures.items_if_clones_equal (λ x y e. e) ∙ c.deref.ensures.value ∙ replay-none disk.writes.items disk.first.items none
