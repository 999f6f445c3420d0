-- What is promised of a volume that is not marked.
use Rattle.std.proofs.Common.{◌≡◌, ℕ, List, [], ◌++◌, Option, Some, None, refl, sym, ap, subst, append-nil}
use Rattle.std.specs.Prelude.{is_some}
use Rattle.vol_disk.specs.Contents.{map_told}
use Rattle.vol_disk.specs.declared.Disk.{Ghosts}
use Rattle.volume_def.specs.View.{VolumeView}
use Rattle.session_def.specs.State.{State}
use Rattle.mark_write.specs.declared.flag.Flag.{Flag}
use Rattle.volume_mark.specs.Closing.{Closes, CountsClosing, MarkStands}
use Rattle.volume_mark.proofs.StandLaws.{clean_as}
use Rattle.tree_ops.specs.declared.volume.Volume.{Volume}
use Rattle.tree_ops.specs.Runs.{Closed, Ready}
use Rattle.tree_ops.specs.Volumes.{disk_under, mark_of}

none-behind : (past : Option (List (List ℕ))) → past ≡ map_told (λ images. images ++ []) past
none-behind None = refl
none-behind (Some images) = ap (λ (xs : List (List ℕ)). Some xs) (sym (append-nil images))

-- there is nothing to close
pub closed-unmarked : {D : Type 0} (g : Ghosts D) (first : VolumeView) (state : State) (volume : Volume D g) → mark_of g volume ≡ None
    → Ready g first volume state → Closed g first state volume volume
closed-unmarked g first state volume none r =
    let stands : MarkStands first state None = subst (MarkStands first state) none r.mark in
    record {
      finals = [];
      closes = subst (λ (m : Option Flag). Closes first state (is_some m) [] (g.now (disk_under g volume))) (sym none) (record {
        bytes = state.image;
        are = r.now;
        final = (refl, refl);
        accepted = clean_as state r.stands stands.1;
      });
      count = subst (λ (m : Option Flag). CountsClosing (is_some m) (g.written (disk_under g volume)) (g.written (disk_under g volume)))
          (sym none) refl;
      settled = none-behind (g.settled (disk_under g volume));
    }
