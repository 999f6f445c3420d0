use Rattle.std.proofs.Common.{◌≡◌, ◌+◌, ◌*◌, ◌<◌, ℕ}
use Rattle.ntfs_def.specs.declared.run_text.Spot.TheVariants.{At}
use Rattle.record_notes.specs.Streams.{spot_noted}
use Rattle.mount_check.proofs.mirror_place.lie_from.Given as goal

-- the clusters so far lie where they have to
abbrev pub invariant-loop-vcn : goal.invariant-loop-vcn
invariant-loop-vcn l = (k : ℕ) → k < l.vcn → k * l.sectors < 8 → spot_noted l.note k ≡ At (l.mirror + k)
