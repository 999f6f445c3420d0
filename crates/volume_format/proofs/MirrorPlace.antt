-- The clause on the mirror's place holds of a new volume.
use Rattle.std.proofs.Common.{ℕ, ◌+◌, ◌*◌, ◌<◌, [], ◌∷◌, inl, inr, refl, sym, ap, ◌∙◌, arith}
use Rattle.std.proofs.Math.Nat.{mul-le-mul_left}
use Rattle.std.proofs.lemmas.Bool.{cases_lt}
use Rattle.ntfs_def.specs.declared.kinds.TheConstants.{DATA}
use Rattle.ntfs_def.specs.declared.records.TheConstants.{MFT_MIRROR}
use Rattle.ntfs_def.specs.declared.run_text.Spot.TheVariants.{At}
use Rattle.volume_def.specs.Table.{cluster_bytes}
use Rattle.volume_def.specs.VersionClause.{IsMirror, MeetsMirrorPlace}
use Rattle.volume_def.specs.View.{VolumeView}
use Rattle.volume_format.specs.Plan.{Plan, clusters_needed, mirror_at, mirror_len, stream_part}
use Rattle.volume_format.specs.Planned.{IsPlanned}
use Rattle.volume_format.proofs.Contents.{mirror_parts-planned}
use Rattle.volume_format.proofs.Needed.{clusters_needed-covers}
use Rattle.volume_format.proofs.Values.{spot-stream}

module _ (p : Plan) (view : VolumeView) (is : IsPlanned p view) (some : 0 < p.size) where
  -- a cluster that begins in the mirror is one of it
  few : (k : ℕ) → k * cluster_bytes view.layout < mirror_len → k < clusters_needed p mirror_len
  few k lt = elim (cases_lt k (clusters_needed p mirror_len)) [
    | inl below ↦ below
    | inr ge ↦ absurd (omega (
      arith,
      clusters_needed-covers p some mirror_len,
      lt,
      mul-le-mul_left p.size ge,
      ap (λ size. k * size) is.size,
    ))
  ]

  IsMirror-planned : IsMirror view (stream_part p MFT_MIRROR DATA [] 2 (mirror_at p) mirror_len ∷ [])
  IsMirror-planned = record {
    plain = refl;
    extent = refl;
    placed = λ k lt.
        spot-stream p some MFT_MIRROR DATA [] 2 (mirror_at p) mirror_len k (few k lt) ∙ ap (λ at. At (at + k)) (sym is.mirror);
  }

  pub MeetsMirrorPlace-planned : (n : ℕ) → MeetsMirrorPlace view n
  MeetsMirrorPlace-planned n e = rw (mirror_parts-planned p view is) IsMirror-planned
