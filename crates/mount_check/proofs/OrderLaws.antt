-- The clauses that speak of one number, and the order of the clauses.
use Rattle.std.proofs.Common.{◌≡◌, ◌≤◌, ℕ, Bool, true, false, [], Option, Some, None, IsTrue, refl, sym, subst, ◌∙◌, arith}
use Rattle.std.specs.Prelude.{◌↔◌, IsFalse}
use Rattle.std.proofs.lemmas.Bool.{false≢true}
use Rattle.ntfs_def.specs.declared.kinds.TheConstants.{DATA}
use Rattle.ntfs_def.specs.declared.records.TheConstants.{MFT_MIRROR, VOLUME}
use Rattle.volume_def.specs.Files.{parts_at}
use Rattle.volume_def.specs.Sound.Clause.{MirrorPlace, Version}
use Rattle.volume_def.specs.VersionClause.{HasVersion, IsMirror}
use Rattle.volume_def.specs.Sound.{HoldBelow}
use Rattle.volume_def.specs.View.{VolumeView}
use Rattle.list_laws.specs.Least.{IsLeastFailing}
use Rattle.clause_order.specs.Refusals.{DecidesFirst}
use Rattle.clause_order.proofs.OrderLaws.{HoldBelow-less, least-unless}
use Rattle.mount_check.specs.Views.{HasComeTo}

-- the check goes on to a later clause, or is asked for an earlier one
pub come-on : (view : VolumeView) (rank next : ℕ) → HasComeTo view rank → HoldBelow view next → HasComeTo view next
come-on view rank next come before = record { before = before; records = come.records }

pub come-less : (view : VolumeView) (low high : ℕ) → low ≤ high → HasComeTo view high → HasComeTo view low
come-less view low high le come = record { before = HoldBelow-less view low high le come.before; records = come.records }

-- The clauses on the version and on the mirror's place.
pub decided-version : (view : VolumeView) (meets : Bool) (first : Option ℕ) → (IsTrue meets → first ≡ None)
    → (IsFalse meets → first ≡ Some VOLUME) → IsTrue meets ↔ HasVersion (view.block VOLUME) → DecidesFirst Version view first
decided-version view meets first so unset is = λ before. least-unless (HasVersion (view.block VOLUME)) VOLUME meets first so unset is

pub decided-place : (view : VolumeView) (meets : Bool) (first : Option ℕ) → (IsTrue meets → first ≡ None)
    → (IsFalse meets → first ≡ Some MFT_MIRROR) → IsTrue meets ↔ IsMirror view (parts_at view MFT_MIRROR DATA [])
    → DecidesFirst MirrorPlace view first
decided-place view meets first so unset is =
    λ before. least-unless (IsMirror view (parts_at view MFT_MIRROR DATA [])) MFT_MIRROR meets first so unset is
