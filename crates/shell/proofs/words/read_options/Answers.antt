use Rattle.std.proofs.Common.{refl}
use Rattle.shell.proofs.words.read_options.Goals as goal

pub returns-in_err-label-clause-memory : goal.returns-in_err-label-clause-memory
returns-in_err-label-clause-memory c err never =
    c.in_err-label.ensures.memory refl (λ units is. never (
      record { sectors = c.in-Some.sectors; cluster = c.in-Some-read_size.cluster; serial = c.in-Some-read_number.serial; label = units },
      record {
        label = c.args.label.now;
        form =
            let one = c.in-Some.ensures.written in
            let two = c.in-Some-read_size.ensures.written in
            let three = c.in-Some-read_number.ensures.written in
            cc;
        sectors = c.in-Some.ensures.fits;
        cluster = c.in-Some-read_size.ensures.fits;
        serial = c.in-Some-read_number.ensures.fits;
        name = is;
      },
    ))
