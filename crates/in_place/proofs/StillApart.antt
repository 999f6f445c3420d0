-- NO CLUSTER HAS TWO OWNERS after a rewrite where none had before; nor has one on a sound volume whose contents are told.
use Rattle.std.proofs.Common.{◌≡◌, ◌+◌, ◌*◌, ◌<◌, ◌≤◌, ℕ, Bool, false, List, [], length, Option, Some, None, map, refl, sym, ap, subst, ◌∙◌}
use Rattle.std.specs.List.{Contains}
use Rattle.std.specs.Option.{option_map}
use Rattle.std.specs.Prelude.{IsSome, IsSomeAnd}
use Rattle.ntfs_def.specs.Flags.{is_packed}
use Rattle.ntfs_def.specs.declared.kinds.TheConstants.{DATA}
use Rattle.ntfs_def.specs.declared.records.TheConstants.{BOOT, MFT, MFT_MIRROR}
use Rattle.ntfs_def.specs.declared.run_text.Spot.TheVariants.{At}
use Rattle.volume_def.specs.Coverage.{times_covered}
use Rattle.volume_def.specs.Files.{Clusters, Content, Part, Value, content_extent, joined_runs, part_runs, parts, parts_at, records_of}
use Rattle.volume_def.specs.OwnersClause.{MeetsOwners}
use Rattle.volume_def.specs.Sound.{IsSound, told_view}
use Rattle.volume_def.specs.Sound.{MirrorPlace, Owners}
use Rattle.volume_def.specs.Table.{MeetsTable, TableLayout, cluster_bytes}
use Rattle.volume_def.specs.Values.{first_part}
use Rattle.volume_def.specs.VersionClause.{IsMirror}
use Rattle.volume_def.specs.View.{VolumeView}
use Rattle.list_laws.proofs.MemberLaws.{Contains-from_map, Contains-map}
use Rattle.volume_edits.proofs.TableParts.{some-sectors, table-part, table-unnamed}
use Rattle.session_def.specs.EditDefKept.{Key}
use Rattle.in_place.specs.Blank.{blank_content, blank_part}
use Rattle.in_place.specs.InPlace.{Rewrites}
use Rattle.in_place.specs.Unnamed.{LiesApart}
use Rattle.in_place.proofs.BlankLaws.{blank-joined, blank-runs, first-blank}
use Rattle.in_place.proofs.RoomSame.{times-same}
use Rattle.in_place.proofs.SameRecords.{at-same, parts-same, spots-same}

-- what is told of the first part whatever the bytes
some-blank : (P : Part → Type 0) → ((part : Part) → P part → P (blank_part part)) → (o : Option Part) → IsSomeAnd o P
    → IsSomeAnd (option_map blank_part o) P
some-blank P go None is = is
some-blank P go (Some part) is = go part is

some-back : (P : Part → Type 0) → ((part : Part) → P (blank_part part) → P part) → (o : Option Part) → IsSomeAnd (option_map blank_part o) P
    → IsSomeAnd o P
some-back P back None is = is
some-back P back (Some part) is = back part is

first-moved : (P : Part → Type 0) → ((part : Part) → P part → P (blank_part part)) → ((part : Part) → P (blank_part part) → P part)
    → (xs ys : List Part) → map blank_part ys ≡ map blank_part xs → IsSomeAnd (first_part xs) P → IsSomeAnd (first_part ys) P
first-moved P go back xs ys same is =
    some-back P back (first_part ys)
    (subst (λ o. IsSomeAnd o P) (sym (first-blank xs) ∙ sym (ap first_part same) ∙ first-blank ys) (some-blank P go (first_part xs) is))

extent-blank : (content : Content) → IsSome (content_extent content) → IsSome (content_extent (blank_content content))
extent-blank (Value value) is = is
extent-blank (Clusters extent runs) is = is

extent-back : (content : Content) → IsSome (content_extent (blank_content content)) → IsSome (content_extent content)
extent-back (Value value) is = is
extent-back (Clusters extent runs) is = is

module _ (changed : Key → Bool) (old new : VolumeView) (w : Rewrites changed old new) where
  owners-still : ((n : ℕ) → MeetsOwners (records_of old) old.layout.clusters n) → (n : ℕ)
      → MeetsOwners (records_of new) new.layout.clusters n
  owners-still owners n =
      let joined : joined_runs (parts_at new BOOT DATA []) ≡ joined_runs (parts_at old BOOT DATA []) =
      sym (blank-joined (parts_at new BOOT DATA [])) ∙ ap joined_runs (at-same changed old new w BOOT DATA [])
      ∙ blank-joined (parts_at old BOOT DATA []) in
      let times = times-same changed old new w n in
      record {
        boot = λ e. subst (λ runs. 1 ≤ times_covered runs 0) (sym joined) ((owners n).boot e);
        inside = λ past. times ∙ (owners n).inside (subst (λ (l : TableLayout). l.clusters ≤ n) w.layout past);
        once = subst (λ t. t ≤ 1) (sym times) (owners n).once;
      }

  mirror-still : IsMirror old (parts_at old MFT_MIRROR DATA []) → IsMirror new (parts_at new MFT_MIRROR DATA [])
  mirror-still mirror =
      let was = parts_at old MFT_MIRROR DATA [] in
      let now = parts_at new MFT_MIRROR DATA [] in
      let same = at-same changed old new w MFT_MIRROR DATA [] in
      record {
        plain = first-moved (λ part. is_packed part.kind part.flags ≡ false) (λ part is. is) (λ part is. is) was now same mirror.plain;
        extent = first-moved (λ part. IsSome (content_extent part.content)) (λ part is. extent-blank part.content is)
            (λ part is. extent-back part.content is) was now same mirror.extent;
        placed = λ k below.
            spots-same changed old new w MFT_MIRROR DATA [] k
            ∙ mirror.placed k (subst (λ (l : TableLayout). k * cluster_bytes l < 4096) w.layout below)
            ∙ ap (λ (l : TableLayout). At (l.mirror + k)) (sym w.layout);
      }

  part-still : (f : ℕ) (part : Part) → Contains (parts (records_of old) f) part
      → (now : Part) × Contains (parts (records_of new) f) now × (blank_part now ≡ blank_part part)
  part-still f part c =
      Contains-from_map blank_part (parts (records_of new) f) (blank_part part)
      (subst (λ xs. Contains xs (blank_part part)) (sym (parts-same changed old new w f)) (Contains-map blank_part (parts
      (records_of old) f) part c))

  pub apart-still : LiesApart old → LiesApart new
  apart-still a =
      let t = part-still MFT a.owners.table.part a.owners.table.among in
      record {
        owners = record {
          owners = owners-still a.owners.owners;
          mirror = mirror-still a.owners.mirror;
          table = record {
            part = t.0;
            among = t.1;
            data_is = ap (λ (p : Part). p.kind) t.2 ∙ a.owners.table.data_is;
            runs = sym (blank-runs t.0) ∙ ap part_runs t.2 ∙ blank-runs a.owners.table.part ∙ a.owners.table.runs
                ∙ sym (ap (λ (l : TableLayout). l.runs) w.layout);
          };
        };
        some = subst (λ (l : TableLayout). 0 < l.cluster_sectors) (sym w.layout) a.some;
        unnamed = ap (λ (p : Part). p.name) t.2 ∙ a.unnamed;
      }

-- A SOUND VOLUME
pub apart-sound : (disk : ℕ → List ℕ) (boot : List ℕ) (layout : TableLayout) → MeetsTable disk boot layout → ((n : ℕ)
    → length (disk n) ≤ 512)
    → IsSound (told_view disk layout) → LiesApart (told_view disk layout)
apart-sound disk boot layout meets sectors sound = record {
  owners = record {
    owners = sound Owners;
    mirror = sound MirrorPlace MFT_MIRROR refl;
    table = table-part disk boot layout meets sectors sound;
  };
  some = some-sectors disk boot layout meets sectors sound;
  unnamed = table-unnamed disk boot layout meets sectors sound;
}
