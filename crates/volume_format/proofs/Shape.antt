-- The clauses on shape and on the mirror's copies hold of a new volume.
use Rattle.std.proofs.Common.{ℕ, refl, arith}
use Rattle.volume_def.specs.ShapeClause.{MeetsShape}
use Rattle.volume_def.specs.VersionClause.{MeetsMirror}
use Rattle.volume_def.specs.View.{VolumeView}
use Rattle.volume_format.specs.Plan.{Plan}
use Rattle.volume_format.specs.Planned.{IsPlanned}

module _ (p : Plan) (view : VolumeView) (is : IsPlanned p view) where
  pub MeetsShape-planned : (n : ℕ) → MeetsShape view n
  MeetsShape-planned n inside used = is.well_formed n (omega (arith, is.count)) used

  -- what is copied byte by byte says the same
  pub MeetsMirror-planned : (n : ℕ) → MeetsMirror view n
  MeetsMirror-planned n lt used =
      let e = is.copies n lt in
      record {
        sealed = rw e (is.well_formed n (omega arith) used).sealed;
        same = rw e (record { used = refl; front = λ k l. refl; middle = λ k l h. refl; behind = λ k l h. refl });
      }
