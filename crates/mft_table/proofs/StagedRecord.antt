-- What is staged in room that was reserved just before.
use Rattle.std.proofs.Common.{◌≡◌, ℕ, List, ap, subst, ◌∙◌, arith, inl, inr}
use Rattle.std.specs.Prelude.{Contains, is_some}
use Rattle.vol_disk.specs.Contents.{sector_in}
use Rattle.vol_disk.specs.declared.Disk.{Ghosts}
use Rattle.volume_def.specs.View.{view_of}
use Rattle.vol_stage.specs.Staged.{image}
use Rattle.mft_table.specs.declared.mft.Mft.{Mft}
use Rattle.mft_table.specs.Mft.{MftReserves, MftStages, mounted_of, stage_of, view}
use Rattle.mft_table.specs.Mounted.{mounted_layout}
use Rattle.mft_table.proofs.StageTwice.{GoesOn-twice}

module _ {D : Type 0} (g : Ghosts D) (a b : Mft D g) (first : MftReserves g a b) where
  pub view-reserved : view g b ≡ view g a
  view-reserved = ap (λ all. view_of (is_some all) (sector_in all) (mounted_layout (mounted_of g b))) first.image
      ∙ ap (λ tables. view_of (is_some (image g (stage_of g a))) (sector_in (image g (stage_of g a))) (mounted_layout tables)) first.mounted

  pub MftStages-reserved : (c : Mft D g) (named : List ℕ) (most : ℕ) → MftStages g named most b c → MftStages g named most a c
  MftStages-reserved c named most then = record {
    goes_on = GoesOn-twice g (stage_of g a) (stage_of g b) (stage_of g c) first.disk first.goes_on then.goes_on;
    disk = then.disk ∙ first.disk;
    places = record {
      only = λ s h. elim (then.places.only s h) [
        | inl staged ↦ inl (subst (λ all. Contains all s) first.places staged)
        | inr new ↦ inr new
      ];
    };
    room = omega (arith, first.spare, then.room);
    sound = then.sound;
    mounted = then.mounted ∙ first.mounted;
    committed = then.committed ∙ first.committed;
  }
