-- WHAT `rm` OWES, put together; and so what it leaves.
use Rattle.std.proofs.Common.{◌≡◌, ℕ, Bool, true, false, List, refl, sym, ap, ◌∙◌}
use Rattle.ntfs_def.specs.FileName.{FileName}
use Rattle.volume_def.specs.Files.{parts_at}
use Rattle.volume_def.specs.Values.{spot_at}
use Rattle.volume_def.specs.View.{VolumeView}
use Rattle.tree_model.specs.StreamRoom.{is_cluster}
use Rattle.tree_model.specs.Subjects.{Located}
use Rattle.tree_model.specs.declared.command.Command.TheVariants as c
use Rattle.tree_model.specs.declared.tree.Node.{Node}
use Rattle.edit_def.specs.Kept.{Key}
use Rattle.session_def.specs.Done.{GainsRightly, IsGained, LeavesDone}
use Rattle.session_def.specs.Owed.{Owes}
use Rattle.session_def.specs.State.{State}
use Rattle.session_def.proofs.OwedLaws.{leaves-done}
use Rattle.made_edits.specs.InPlace.{Rewrites}
use Rattle.made_edits.proofs.SameRecords.{spots-same}
use Rattle.gone_owed.specs.GoneOwed.{SetsBehindGone, at_gone}
use Rattle.gone_owed.proofs.GoneBase as base
use Rattle.gone_owed.proofs.GoneCalls as calls
use Rattle.gone_owed.proofs.GoneCost as cost
use Rattle.gone_owed.proofs.GoneIndexes as indexes
use Rattle.gone_owed.proofs.GoneNodes as nodes
use Rattle.gone_owed.proofs.GoneRecords as records

never : {b : Bool} → b ≡ true → b ≡ false → ⊥
never x y = cc

module _ (before next : State) (n : ℕ) (file parent : Node) (name : FileName) (mid staged : VolumeView)
    (s : SetsBehindGone before next n name.parent.number file parent name mid staged) where
  abbrev leads : Located
  leads = at_gone before.machine.tree n name

  abbrev named : Key → Bool
  named = base.named before next n file parent name mid staged s

  rewrote : Rewrites named mid next.view
  rewrote = base.behind before next n file parent name mid staged s

  -- NO STREAM gained a cluster.
  none-gained : (f kind : ℕ) (called : List ℕ) (vcn : ℕ)
      → IsGained (parts_at before.view f kind called) (parts_at next.view f kind called) vcn → ⊥
  none-gained f kind called vcn gained =
      let lies : is_cluster (spot_at (parts_at mid f kind called) vcn) ≡ true =
      sym (ap is_cluster (spots-same named mid next.view rewrote f kind called vcn)) ∙ gained.0 in
      let lay = (base.rest before next n file parent name mid staged s).spots f kind called vcn lies in
      never (sym (ap is_cluster lay) ∙ lies) gained.1

  clusters : (path : List (List ℕ)) → GainsRightly before next (c.Rm path) leads
  clusters path = record {
    ends = λ f kind called plain vcn gained. absurd (none-gained f kind called vcn gained);
    gains = λ vcn gained. refl;
    owned = λ vcn is. refl;
  }

  pub owes : (path : List (List ℕ)) (made : ℕ) → Owes before next (c.Rm path) leads made
  owes path made = record {
    long = s.behind.long;
    named = nodes.of-named before next n file parent name mid staged s path made;
    clusters = clusters path;
    nodes = nodes.nodes before next n file parent name mid staged s path made;
    indexes = indexes.indexes before next n file parent name mid staged s path made;
    blocks = records.blocks before next n file parent name mid staged s path made;
    unused = records.unused before next n file parent name mid staged s;
    copies = records.copies before next n file parent name mid staged s;
    made_forms = records.forms before next n file parent name mid staged s;
    lists = records.lists before next n file parent name mid staged s;
    log_end = records.log_end before next n file parent name mid staged s;
    wrote = cost.wrote before next n file parent name mid staged s path made;
  }

  pub leaves : (path : List (List ℕ)) (made : ℕ) → LeavesDone before next (c.Rm path) leads made
  leaves path made =
      leaves-done before next (c.Rm path) leads made (calls.calls before next n file parent name mid staged s path made) (owes path made)
