-- WHERE THE SYSTEM IS NOT EDITED: its clauses, its bitmaps, and the places that every edit keeps. Files 0 to 8 but the root have the parts
-- that they had, and the records that the mirror copies are as they were.
use Rattle.std.proofs.Common.{◌≡◌, ◌≢◌, ◌<◌, ◌≤◌, ◌+◌, ◌*◌, ℕ, List, [], length, map, filter}
use Rattle.std.proofs.Common.{sym, ap, subst, ◌∙◌, arith}
use Rattle.std.specs.List.{Contains}
use Rattle.std.specs.Option.{option_map_or}
use Rattle.std.specs.Prelude.{All, IsSome, IsTrue}
use Rattle.ntfs_def.specs.Fixup.{IsSealed, opened_of}
use Rattle.ntfs_def.specs.Record.{is_in_use}
use Rattle.ntfs_def.specs.declared.kinds.TheConstants.{BITMAP, DATA}
use Rattle.ntfs_def.specs.declared.records.TheConstants.{CLUSTER_BITMAP, MFT, MFT_MIRROR, ROOT, SECURE, VOLUME}
use Rattle.ntfs_def.specs.declared.run_text.Spot.TheVariants.{At}
use Rattle.list_laws.specs.Bits.{bit_in}
use Rattle.list_laws.proofs.SameItemsLaws.{SameItems-same}
use Rattle.volume_def.specs.BitmapClauses.{HasNoHole, cluster_bits, record_bits, written_by}
use Rattle.volume_def.specs.Files.{Part, all_covered, content_extent, is_of, parts, parts_at, records_of}
use Rattle.volume_def.specs.Sound.{Holds, Mirror, MirrorPlace, Version}
use Rattle.volume_def.specs.StreamSize.{told_size}
use Rattle.volume_def.specs.Table.{TableLayout, cluster_bytes}
use Rattle.volume_def.specs.Values.{IsPlain, KeepsClusters, first_part, is_first, spot_at, value_of_parts, value_on}
use Rattle.volume_def.specs.VersionClause.{HasCopy, HasVersion, IsMirror, Mirrors}
use Rattle.volume_def.specs.View.{VolumeView}
use Rattle.volume_def.proofs.ValueLaws.{value-frame, value-length}
use Rattle.edit_def.specs.Edited.{SameVolume}
use Rattle.edit_def.specs.Kept.{told_by, told_of}
use Rattle.edit_def.specs.Marks.{HasBitmaps}
use Rattle.edit_def.specs.Places.{KeepsBits, KeepsMirrorEnd, KeepsPlaces, StaysInPlace, StaysPlaced, blank, is_stream}
use Rattle.record_edits.specs.Between.{HasTableData}

pub record KeepsSystem (old new : VolumeView) : Type 0 where
  pub layout : new.layout ≡ old.layout
  pub blocks : (m : ℕ) → m < 4 → new.block m ≡ old.block m
  pub copies : (m : ℕ) → m < 4 → new.copy m ≡ old.copy m
  pub parts_are : (m : ℕ) → m < SECURE → m ≢ ROOT → parts (records_of new) m ≡ parts (records_of old) m

mirror-kept : (old new : VolumeView) (extents : List Part) → new.layout ≡ old.layout → IsMirror old extents → IsMirror new extents
mirror-kept old new extents layout h = record {
  plain = h.plain;
  extent = h.extent;
  placed = subst (λ (l : TableLayout). (k : ℕ) → k * cluster_bytes l < 4096 → spot_at extents k ≡ At (l.mirror + k)) (sym layout) h.placed;
}

copy-kept : (old new : VolumeView) (m : ℕ) → new.block m ≡ old.block m → new.copy m ≡ old.copy m → HasCopy old m → HasCopy new m
copy-kept old new m b c h = record {
  sealed = subst IsSealed (sym c) h.sealed;
  same = subst (λ block. Mirrors (opened_of block) (opened_of (new.copy m))) (sym b)
      (subst (λ copy. Mirrors (opened_of (old.block m)) (opened_of copy)) (sym c) h.same);
}

module _ (old new : VolumeView) (k : KeepsSystem old new) where
  at-same : (m kind : ℕ) → m < SECURE → m ≢ ROOT → parts_at new m kind [] ≡ parts_at old m kind []
  at-same m kind low other = ap (filter (is_of kind [])) (k.parts_are m low other)

  bits : cluster_bits new ≡ cluster_bits old
  bits = at-same CLUSTER_BITMAP DATA (omega arith) (λ z. absurd (omega (arith, z)))

  table_bits : record_bits new ≡ record_bits old
  table_bits = at-same MFT BITMAP (omega arith) (λ z. absurd (omega (arith, z)))

  mirrors : parts_at new MFT_MIRROR DATA [] ≡ parts_at old MFT_MIRROR DATA []
  mirrors = at-same MFT_MIRROR DATA (omega arith) (λ z. absurd (omega (arith, z)))

  clusters : new.layout.clusters ≡ old.layout.clusters
  clusters = ap (λ (l : TableLayout). l.clusters) k.layout

  pub volume-kept : SameVolume old.layout new.layout
  volume-kept = record {
    cluster_sectors = ap (λ (l : TableLayout). l.cluster_sectors) k.layout;
    clusters = clusters;
    mirror = ap (λ (l : TableLayout). l.mirror) k.layout;
    count = let e = ap (λ (l : TableLayout). l.count) k.layout in omega (arith, e);
  }

  -- THE CLAUSES on the version and the mirror
  pub version-kept : Holds old Version → Holds new Version
  version-kept h m is = subst HasVersion (sym (k.blocks VOLUME (omega arith))) (h m is)

  pub place-kept : Holds old MirrorPlace → Holds new MirrorPlace
  place-kept h m is = subst (IsMirror new) (sym mirrors) (mirror-kept old new (parts_at old MFT_MIRROR DATA []) k.layout (h m is))

  pub mirror-holds : Holds old Mirror → Holds new Mirror
  mirror-holds h m low used =
      copy-kept old new m (k.blocks m low) (k.copies m low) (h m low (subst (λ b. IsTrue (is_in_use b)) (k.blocks m low) used))

  -- THE BITMAPS, whatever their bits
  long-kept : length (value_on new (cluster_bits new)) ≡ length (value_on old (cluster_bits old))
  long-kept =
      value-length new.cluster (cluster_bytes new.layout) (cluster_bits new) ∙ ap (λ extents. told_size (first_part extents)) bits
      ∙ sym (value-length old.cluster (cluster_bytes old.layout) (cluster_bits old))

  pub bitmaps-kept : HasBitmaps old → HasBitmaps new
  bitmaps-kept h = record {
    plain = subst IsPlain (sym bits) h.plain;
    placed = subst HasNoHole (sym bits) h.placed;
    long = let most = h.long in omega (arith, clusters, most, long-kept);
    written = let most = h.written in let same = ap (λ extents. written_by (first_part extents)) bits in omega (
      arith,
      clusters,
      most,
      same,
    );
    records = record {
      plain = subst IsPlain (sym table_bits) h.records.plain;
      placed = subst HasNoHole (sym table_bits) h.records.placed;
      extents = subst (All (λ part. IsSome (content_extent part.content))) (sym table_bits) h.records.extents;
      room = subst (λ (l : TableLayout). l.count ≤ 8 * (all_covered (record_bits new) * cluster_bytes l)) (sym k.layout)
          (subst (λ extents. old.layout.count ≤ 8 * (all_covered extents * cluster_bytes old.layout)) (sym table_bits) h.records.room);
    };
  }

  -- THE TABLE lies where it lay.
  pub table-kept : HasTableData old → HasTableData new
  table-kept h = record {
    table = record {
      part = h.table.part;
      among = subst (λ all. Contains all h.table.part) (sym (k.parts_are MFT (omega arith) (λ z. absurd (omega (arith, z))))) h.table.among;
      data_is = h.table.data_is;
      runs = h.table.runs ∙ sym (ap (λ (l : TableLayout). l.runs) k.layout);
    };
    unnamed = h.unnamed;
    some = subst (λ (l : TableLayout). 0 < l.cluster_sectors) (sym k.layout) h.some;
  }

  -- PLACES
  told-kept : (m : ℕ) → m < SECURE → m ≢ ROOT → told_of new m ≡ told_of old m
  told-kept m low other = ap (λ all. map told_by (filter is_first all)) (k.parts_are m low other)

  placed-kept : (m kind : ℕ) → m < SECURE → m ≢ ROOT → StaysPlaced (parts_at old m kind []) (parts_at new m kind [])
  placed-kept m kind low other =
      let same = at-same m kind low other in
      record {
        spots = λ vcn c at. ap (λ extents. spot_at extents vcn) same ∙ at;
        flags = ap (λ extents. option_map_or (λ (part : Part). part.flags) (first_part extents) 0) same;
      }

  mirror-places : KeepsPlaces old new MFT_MIRROR
  mirror-places = record {
    told = SameItems-same _ _ (sym (ap (filter is_stream) (told-kept MFT_MIRROR (omega arith) (λ z. absurd (omega (arith, z))))));
    spots = λ vcn. ap (λ extents. spot_at extents vcn) mirrors;
  }

  -- .. where the mirror's end holds what it held, and bits that stand for nothing do
  pub places-kept : KeepsMirrorEnd old new → KeepsBits old new → StaysInPlace old new
  places-kept mirror_end stay = record {
    mirror = mirror-places;
    mirror_end = mirror_end;
    table = placed-kept MFT DATA (omega arith) (λ z. absurd (omega (arith, z)));
    table_bits = placed-kept MFT BITMAP (omega arith) (λ z. absurd (omega (arith, z)));
    cluster_bits = record {
      told = SameItems-same _ _ (sym (ap (λ all. map blank (filter is_stream all))
          (told-kept CLUSTER_BITMAP (omega arith) (λ z. absurd (omega (arith, z))))));
      spots = λ vcn. ap (λ extents. spot_at extents vcn) bits;
    };
    bits = stay;
  }

  -- THE VALUE of an attribute whose clusters hold what they held
  value-kept : (was now : List Part) → now ≡ was → KeepsClusters old new was → value_on new now ≡ value_on old was
  value-kept was now same kept =
      ap (λ (l : TableLayout). value_of_parts new.cluster (cluster_bytes l) now) k.layout
      ∙ ap (value_of_parts new.cluster (cluster_bytes old.layout)) same
      ∙ value-frame old.cluster new.cluster (cluster_bytes old.layout) was kept

  pub bits-kept : KeepsClusters old new (cluster_bits old) → KeepsClusters old new (record_bits old) → KeepsBits old new
  bits-kept of_clusters of_records =
      let rows = value-kept (record_bits old) (record_bits new) table_bits of_records in
      let flags = value-kept (cluster_bits old) (cluster_bits new) bits of_clusters in
      record {
        system = λ n low. ap (λ value. bit_in value n) rows;
        past = λ n past one. sym (ap (λ value. bit_in value n) rows) ∙ one;
        clusters = λ n past. ap (λ value. bit_in value n) flags;
      }
