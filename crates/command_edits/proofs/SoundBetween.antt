-- The clauses between calls, one by one.
use Rattle.std.proofs.Common.{Bool, arith, refl, ℕ}
use Rattle.volume_def.specs.CaseClause.{MeetsCaseTable}
use Rattle.volume_def.specs.Files.{records_of}
use Rattle.volume_def.specs.IndexesClause.{MeetsIndexes}
use Rattle.volume_def.specs.LinksClause.{MeetsLinks}
use Rattle.volume_def.specs.Readable.{IsReadableVolume}
use Rattle.volume_def.specs.ReferencesClause.{MeetsReferences}
use Rattle.volume_def.specs.Sound as clauses
use Rattle.volume_def.specs.Sound.{IsSound}
use Rattle.volume_def.specs.View.{VolumeView}
use Rattle.edit_def.specs.Account.{Wants}
use Rattle.edit_def.specs.Edited.{Edited, StoresBits}
use Rattle.edit_def.specs.Kept.{Key}
use Rattle.edit_def.specs.Marks.{Marks}
use Rattle.edit_def.specs.Names.{HasRightBases}
use Rattle.edit_def.proofs.NamesLaws.{bases-of}
use Rattle.command_edits.specs.Between.{IsBetween, IsSoundButBits}

-- from a call, and the three clauses of which it does not tell by itself
pub between-by : (changed : Key → Bool) (wants : Wants) (old new : VolumeView) (before after : Marks)
    → Edited changed wants old new before after → ((n : ℕ) → MeetsReferences (records_of new) n) → ((n : ℕ) → MeetsCaseTable new n)
    → ((n : ℕ) → MeetsIndexes new n) → IsBetween new
between-by changed wants old new before after e references case indexes clauses.Shape bits other = e.editable.readable.shape
between-by changed wants old new before after e references case indexes clauses.Attributes bits other = e.editable.readable.attributes
between-by changed wants old new before after e references case indexes clauses.Lists bits other = e.editable.readable.lists
between-by changed wants old new before after e references case indexes clauses.Extents bits other = e.editable.readable.extents
between-by changed wants old new before after e references case indexes clauses.Owners bits other = e.editable.owners
between-by changed wants old new before after e references case indexes clauses.ClusterBits bits other = cc
between-by changed wants old new before after e references case indexes clauses.RecordBits bits other = cc
between-by changed wants old new before after e references case indexes clauses.References bits other = references
between-by changed wants old new before after e references case indexes clauses.Links bits other = absurd (other refl)
between-by changed wants old new before after e references case indexes clauses.CaseTable bits other = case
between-by changed wants old new before after e references case indexes clauses.Indexes bits other = indexes
between-by changed wants old new before after e references case indexes clauses.Version bits other = e.editable.version
between-by changed wants old new before after e references case indexes clauses.MirrorPlace bits other = e.editable.mirror_place
between-by changed wants old new before after e references case indexes clauses.Mirror bits other = e.editable.mirror
between-by changed wants old new before after e references case indexes clauses.Limits bits other = e.limits

-- once the one on links holds
pub sound-by : (view : VolumeView) → IsBetween view → ((n : ℕ) → MeetsLinks (records_of view) n) → IsSoundButBits view
sound-by view between links clauses.Shape bits = between clauses.Shape refl (λ e. absurd (omega arith))
sound-by view between links clauses.Attributes bits = between clauses.Attributes refl (λ e. absurd (omega arith))
sound-by view between links clauses.Lists bits = between clauses.Lists refl (λ e. absurd (omega arith))
sound-by view between links clauses.Extents bits = between clauses.Extents refl (λ e. absurd (omega arith))
sound-by view between links clauses.Owners bits = between clauses.Owners refl (λ e. absurd (omega arith))
sound-by view between links clauses.ClusterBits bits = cc
sound-by view between links clauses.RecordBits bits = cc
sound-by view between links clauses.References bits = between clauses.References refl (λ e. absurd (omega arith))
sound-by view between links clauses.Links bits = links
sound-by view between links clauses.CaseTable bits = between clauses.CaseTable refl (λ e. absurd (omega arith))
sound-by view between links clauses.Indexes bits = between clauses.Indexes refl (λ e. absurd (omega arith))
sound-by view between links clauses.Version bits = between clauses.Version refl (λ e. absurd (omega arith))
sound-by view between links clauses.MirrorPlace bits = between clauses.MirrorPlace refl (λ e. absurd (omega arith))
sound-by view between links clauses.Mirror bits = between clauses.Mirror refl (λ e. absurd (omega arith))
sound-by view between links clauses.Limits bits = between clauses.Limits refl (λ e. absurd (omega arith))

pub between-sound : (view : VolumeView) → IsSoundButBits view → IsBetween view
between-sound view sound clause bits other = sound clause bits

-- what a volume meets between calls
pub between-references : (view : VolumeView) → IsBetween view → (n : ℕ) → MeetsReferences (records_of view) n
between-references view between = between clauses.References refl (λ e. absurd (omega arith))

pub between-bases : (view : VolumeView) → IsBetween view → HasRightBases (records_of view)
between-bases view between = bases-of (records_of view) (between-references view between)

pub between-readable : (view : VolumeView) → IsBetween view → IsReadableVolume view
between-readable view between = record {
  shape = between clauses.Shape refl (λ e. absurd (omega arith));
  attributes = between clauses.Attributes refl (λ e. absurd (omega arith));
  lists = between clauses.Lists refl (λ e. absurd (omega arith));
  extents = between clauses.Extents refl (λ e. absurd (omega arith));
}

pub between-indexes : (view : VolumeView) → IsBetween view → (n : ℕ) → MeetsIndexes view n
between-indexes view between = between clauses.Indexes refl (λ e. absurd (omega arith))

pub between-case : (view : VolumeView) → IsBetween view → (n : ℕ) → MeetsCaseTable view n
between-case view between = between clauses.CaseTable refl (λ e. absurd (omega arith))

-- with the bits stored
pub sound-stored : (view : VolumeView) → IsSoundButBits view → StoresBits view → IsSound view
sound-stored view sound bits clauses.Shape = sound clauses.Shape refl
sound-stored view sound bits clauses.Attributes = sound clauses.Attributes refl
sound-stored view sound bits clauses.Lists = sound clauses.Lists refl
sound-stored view sound bits clauses.Extents = sound clauses.Extents refl
sound-stored view sound bits clauses.Owners = sound clauses.Owners refl
sound-stored view sound bits clauses.ClusterBits = bits.clusters
sound-stored view sound bits clauses.RecordBits = bits.records
sound-stored view sound bits clauses.References = sound clauses.References refl
sound-stored view sound bits clauses.Links = sound clauses.Links refl
sound-stored view sound bits clauses.CaseTable = sound clauses.CaseTable refl
sound-stored view sound bits clauses.Indexes = sound clauses.Indexes refl
sound-stored view sound bits clauses.Version = sound clauses.Version refl
sound-stored view sound bits clauses.MirrorPlace = sound clauses.MirrorPlace refl
sound-stored view sound bits clauses.Mirror = sound clauses.Mirror refl
sound-stored view sound bits clauses.Limits = sound clauses.Limits refl

pub sound-whole : (view : VolumeView) → IsSound view → IsSoundButBits view
sound-whole view sound clause bits = sound clause
