-- The clusters of one stream changed, which is no attribute list, on a volume on which no cluster has two owners: a file that is held is so
-- still.
use Rattle.std.proofs.Common.{◌≢◌, ℕ, List, sym, ap, subst, ◌∙◌}
use Rattle.std.specs.Prelude.{IsSomeAnd, IsTrue}
use Rattle.std.proofs.lemmas.List.Elements.{All-contains}
use Rattle.ntfs_def.specs.declared.kinds.TheConstants.{ATTRIBUTE_LIST}
use Rattle.ntfs_def.specs.Fixup.{bare_of, opened_of}
use Rattle.list_laws.proofs.MemberLaws.{All-from_Contains}
use Rattle.volume_def.specs.Files.{Records, is_base, parts, parts_at}
use Rattle.volume_def.specs.Values.{spot_at}
use Rattle.volume_def.specs.View.{VolumeView}
use Rattle.volume_edits.specs.Clusters.{ChangesStream}
use Rattle.volume_edits.specs.Owners.{HasOwners}
use Rattle.volume_edits.proofs.ChangedStream.{readable-kept, records-kept}
use Rattle.file_record.specs.declared.parts.FileParts.{FileParts}
use Rattle.file_record.specs.Held.{IsCurrentRecord, IsHeldFile, file_number, held_of}

pub held-kept : (old new : VolumeView) (f kind : ℕ) (name : List ℕ) → HasOwners old
    → ChangesStream old new (spot_at (parts_at old f kind name)) → kind ≢ ATTRIBUTE_LIST → (file : FileParts) → IsHeldFile old file
    → IsHeldFile new file
held-kept old new f kind name o w plain file h = record {
  readable = readable-kept old new f kind name o w plain h.readable;
  parts = record {
    current = All-from_Contains (IsCurrentRecord new) (held_of file) (λ held c.
        All-contains (IsCurrentRecord old) (held_of file) held h.parts.current c
        ∙ ap (λ b. bare_of (opened_of b)) (sym (w.blocks held.number)));
    parts = h.parts.parts ∙ ap (λ rs. parts rs (file_number file)) (sym (records-kept old new f kind name o w));
  };
  is_file = subst (λ (rs : Records). IsSomeAnd (rs.record_at (file_number file)) (λ r. IsTrue (is_base r)))
      (sym (records-kept old new f kind name o w)) h.is_file;
}
