use Rattle.std.proofs.Common.{◌≡◌, drop, find}
use Rattle.std.specs.Str.{bytes_eq}
use Rattle.sparse_io.specs.declared.held.HeldStream.{HeldStream}
use Rattle.sparse_io.proofs.find.seek_exact.Given as goal

-- the streams that were passed over have another name
abbrev pub invariant-streams : goal.invariant-streams
invariant-streams l =
    find (λ (kept : HeldStream). bytes_eq kept.name l.name) (drop l.kept-index l.streams)
    ≡ find (λ (kept : HeldStream). bytes_eq kept.name l.name) l.streams
