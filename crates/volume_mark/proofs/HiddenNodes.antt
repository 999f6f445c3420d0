-- A file of the system is no node, whatever the volume.
use Rattle.std.proofs.Common.{◌≡◌, ℕ, zero, suc, true, cond, Option, Some, None, refl, ap}
use Rattle.std.specs.Prelude.{option_and_then}
use Rattle.std.proofs.lemmas.Bool.{and_right, not_from_true}
use Rattle.volume_def.specs.Files.{Record, Records, is_base, parts, record_on, records_of}
use Rattle.volume_def.specs.View.{VolumeView}
use Rattle.tree_model.specs.Hidden.{is_hidden, is_system, leads_to_system}
use Rattle.tree_model.specs.Reading.{node_at, node_by, node_on}

system-hidden : (records : Records) (k f : ℕ) → is_system f ≡ true → leads_to_system records k f ≡ true
system-hidden records zero f s = s
system-hidden records (suc k) f s = rw s refl

pub hidden-node : (v : VolumeView) (f : ℕ) → is_system f ≡ true → node_at v f ≡ None
unfolding node_at is_hidden
hidden-node v f s = by (record_on v f)
  where
    by : (o : Option Record) → option_and_then (node_on v f) o ≡ None
    by None = refl
    by (Some r) = let h = system-hidden (records_of v) v.layout.count f s in
        ap (λ b. cond b (Some (node_by v r (parts (records_of v) f))) None) (and_right (is_base r) _ (not_from_true _ h))
