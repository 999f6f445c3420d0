use Rattle.std.proofs.Common.{◌+◌, ◌*◌, ◌^◌}
use Rattle.std.proofs.Math.Nat.{mod-add-mod}
use Rattle.cmd_lang.specs.Script.{next_draw}
use Rattle.cmd_lang.proofs.script.next_draw.Goals as goal

pub returns : goal.returns
unfolding next_draw
returns c = mod-add-mod (c.args.x * 6364136223846793005) (2 ^ 64) 1442695040888963407
