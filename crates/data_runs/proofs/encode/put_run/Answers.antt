use Rattle.std.proofs.Common.{◌≡◌, ◌<◌, length, pos, refl, ap, arith}
use Rattle.std.specs.Int.{w64, cast_signed}
use Rattle.std.proofs.lemmas.Int.{ints}
use Rattle.data_runs.proofs.PutLaws.{Puts-run, parts-narrow, room-len, room-offset}
use Rattle.data_runs.proofs.WrittenForm.{run_text}
use Rattle.data_runs.proofs.encode.put_run.Goals as goal

pub overflow_add-at : goal.overflow_add-at
overflow_add-at c =
    let (text, is) = run_text c.args.last c.args.run.now c.requires.last c.requires.len c.requires.reach in
    let fits = c.requires.room text is in
    omega (arith, ap length is.all)

pub put_number-middle-requires : goal.put_number-middle-requires
put_number-middle-requires c =
    let is : cast_signed w64 c.args.run.now.len ≡ pos c.args.run.now.len = omega (arith, ints, c.requires.len) in
    rw is (room-len c.args.last c.args.run.now c.args.at _ c.requires.last c.requires.reach c.requires.room)

pub put_offset-end-requires-clause-room : goal.put_offset-end-requires-clause-room
put_offset-end-requires-clause-room c =
    let is : cast_signed w64 c.args.run.now.len ≡ pos c.args.run.now.len = omega (arith, ints, c.requires.len) in
    rw c.put_number-middle.auto.out (room-offset c.args.last c.args.run.now c.args.out.now _ c.args.at _ c.requires.room
    (rw is at c.put_number-middle.ensures))

pub overflow_mul-out : goal.overflow_mul-out
overflow_mul-out c =
    let is : cast_signed w64 c.args.run.now.len ≡ pos c.args.run.now.len = omega (arith, ints, c.requires.len) in
    let (len, offset) = parts-narrow c.args.last c.args.run.now _ _ _ c.args.at _ _ c.requires.last c.requires.len c.requires.reach
    (rw is at c.put_number-middle.ensures) c.put_offset-end.ensures in
    omega arith

pub overflow_add-out : goal.overflow_add-out
overflow_add-out c =
    let is : cast_signed w64 c.args.run.now.len ≡ pos c.args.run.now.len = omega (arith, ints, c.requires.len) in
    let (len, offset) = parts-narrow c.args.last c.args.run.now _ _ _ c.args.at _ _ c.requires.last c.requires.len c.requires.reach
    (rw is at c.put_number-middle.ensures) c.put_offset-end.ensures in
    omega arith

pub overflow_cast-out : goal.overflow_cast-out
overflow_cast-out c =
    let is : cast_signed w64 c.args.run.now.len ≡ pos c.args.run.now.len = omega (arith, ints, c.requires.len) in
    let (len, offset) = parts-narrow c.args.last c.args.run.now _ _ _ c.args.at _ _ c.requires.last c.requires.len c.requires.reach
    (rw is at c.put_number-middle.ensures) c.put_offset-end.ensures in
    omega arith

pub returns : goal.returns
returns c =
    let is : cast_signed w64 c.args.run.now.len ≡ pos c.args.run.now.len = omega (arith, ints, c.requires.len) in
    let (text, one) = run_text c.args.last c.args.run.now c.requires.last c.requires.len c.requires.reach in
    let within : c.args.at < length c.args.out.now = omega (arith, c.requires.room text one, ap length one.all) in
    Puts-run c.args.last c.args.run.now c.args.out.now _ _ c.args.at _ _ _ within
    (rw is at c.put_number-middle.ensures) c.put_offset-end.ensures refl
