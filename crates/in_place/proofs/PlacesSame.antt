-- PLACES, BITS AND NAMES that stay: of room where none of it is named, and of names where no name is.
use Rattle.std.proofs.Common.{◌≡◌, ◌*◌, ◌<◌, ◌≤◌, ◌==◌, not, ℕ, Bool, true, false, List, [], length, Some, filter, map}
use Rattle.std.proofs.Common.{refl, sym, ap, subst, inl, inr, ◌∙◌, arith}
use Rattle.std.proofs.lemmas.Bool.{and_parts, eqb-true}
use Rattle.std.specs.Option.{option_map, option_map_or}
use Rattle.std.specs.Prelude.{filter_map, nat_le}
use Rattle.std.proofs.lemmas.Slice.Eq.{bytes_eq-Decides}
use Rattle.std.specs.Str.{bytes_eq}
use Rattle.ntfs_def.specs.FileName.{name_in}
use Rattle.ntfs_def.specs.declared.kinds.TheConstants.{BITMAP, DATA, FILE_NAME}
use Rattle.ntfs_def.specs.declared.records.TheConstants.{CLUSTER_BITMAP, MFT, MFT_MIRROR}
use Rattle.ntfs_def.specs.declared.run_text.Spot.TheVariants.{At}
use Rattle.list_laws.specs.Bits.{bit_in}
use Rattle.volume_def.specs.BitmapClauses.{cluster_bits, record_bits}
use Rattle.volume_def.specs.FileNames.{is_file_name, names_of}
use Rattle.volume_def.specs.Files.{Part, content_value, is_of, parts, parts_at, records_of}
use Rattle.volume_def.specs.Table.{TableLayout, cluster_bytes}
use Rattle.volume_def.specs.Values.{KeepsClusters, first_part, spot_at, value_of_parts, value_on}
use Rattle.volume_def.specs.View.{VolumeView}
use Rattle.volume_def.proofs.ValueLaws.{spot_at-owned, value-frame}
use Rattle.list_laws.proofs.FilterLaws.{filter-passed}
use Rattle.list_laws.proofs.MemberLaws.{Contains-from_filter}
use Rattle.list_laws.proofs.SameItemsLaws.{SameItems-same}
use Rattle.volume_edits.specs.Owners.{HasOwners}
use Rattle.session_def.specs.Edited.{SameVolume, is_room_key}
use Rattle.session_def.specs.EditDefKept.{Key, Told, is_kept, key_of, told_of}
use Rattle.session_def.specs.Marks.{AreRight, Marks}
use Rattle.session_def.specs.Names.{KeepsNames}
use Rattle.session_def.specs.Places.{KeepsPlaces, StaysInPlace, StaysPlaced, blank, is_stream}
use Rattle.session_def.proofs.PlaceLaws.{no-name}
use Rattle.in_place.specs.InPlace.{Rewrites}
use Rattle.in_place.proofs.OtherClusters.{clusters-kept, part-free}
use Rattle.in_place.proofs.OtherParts.{at-other, passed-same, told-other}
use Rattle.in_place.proofs.RoomSame.{numbers-same, times-same, used-same}
use Rattle.in_place.proofs.SameRecords.{spots-same}
use Rattle.record_edits.proofs.TableOwners.{mirror-outside}

module _ (changed : Key → Bool) (old new : VolumeView) (w : Rewrites changed old new) where
  -- what is told of attributes that are not named
  pub told-passed : (f : ℕ) (q : Told → Bool) → ((t : Told) → q t ≡ true → changed (key_of f t.kind t.name) ≡ false)
      → filter q (told_of new f) ≡ filter q (told_of old f)
  told-passed f q free = sym (again (told_of new f)) ∙ ap (filter q) (told-other changed old new w f) ∙ again (told_of old f)
    where
      again : (xs : List Told) → filter q (filter (is_kept changed f) xs) ≡ filter q xs
      again xs = filter-passed q (is_kept changed f) xs (λ t e. ap not (free t e))

  stream-told : (f : ℕ) → changed (key_of f DATA []) ≡ false → filter is_stream (told_of new f) ≡ filter is_stream (told_of old f)
  stream-told f free = told-passed f is_stream (λ t is.
      let p = and_parts (t.kind == DATA) (length t.name == 0) is in
      let k = eqb-true t.kind DATA p.0 in
      let n = no-name t.name p.1 in
      ap (λ kind. changed (key_of f kind t.name)) k ∙ ap (λ name. changed (key_of f DATA name)) n ∙ free)

  -- THE VALUE of an attribute that is not named
  pub value-other : (f kind : ℕ) (name : List ℕ) → changed (key_of f kind name) ≡ false → KeepsClusters old new (parts_at old f kind name)
      → value_on new (parts_at new f kind name) ≡ value_on old (parts_at old f kind name)
  value-other f kind name free kept =
      ap (λ (l : TableLayout). value_of_parts new.cluster (cluster_bytes l) (parts_at new f kind name)) w.layout
      ∙ ap (value_of_parts new.cluster (cluster_bytes old.layout)) (at-other changed old new w f kind name free)
      ∙ value-frame old.cluster new.cluster (cluster_bytes old.layout) (parts_at old f kind name) kept

  pub stream-places : (f : ℕ) → changed (key_of f DATA []) ≡ false → KeepsPlaces old new f
  stream-places f free = record {
    told = SameItems-same _ _ (sym (stream-told f free));
    spots = spots-same changed old new w f DATA [];
  }

  placed-same : (f kind : ℕ) (name : List ℕ) → changed (key_of f kind name) ≡ false
      → StaysPlaced (parts_at old f kind name) (parts_at new f kind name)
  placed-same f kind name free = record {
    spots = λ vcn c at. spots-same changed old new w f kind name vcn ∙ at;
    flags = ap (λ xs. option_map_or (λ (part : Part). part.flags) (first_part xs) 0) (at-other changed old new w f kind name free);
  }

  -- THE BITS IN MEMORY are right still.
  pub right-same : (marks : Marks) → AreRight old marks → AreRight new marks
  right-same marks right = record {
    count = right.count ∙ sym (ap (λ (l : TableLayout). l.clusters) w.layout);
    taken = λ c below.
        right.taken c (subst (λ (l : TableLayout). c < l.clusters) w.layout below)
        ∙ sym (ap (λ n. Some (nat_le 1 n)) (times-same changed old new w c));
    rows = right.rows ∙ sym (ap (λ (l : TableLayout). l.count) w.layout);
    used = λ n low below.
        right.used n low (subst (λ (l : TableLayout). n < l.count) w.layout below) ∙ sym (ap Some (used-same changed old new w n));
  }

  -- NAMES
  pub names-same : (f : ℕ) → ((name : List ℕ) → changed (key_of f FILE_NAME name) ≡ false)
      → names_of (records_of new) f ≡ names_of (records_of old) f
  unfolding names_of
  names-same f free =
      ap (filter_map (λ (part : Part). option_map name_in (content_value part.content))) (passed-same changed old new w f is_file_name
      (λ part is.
      ap (λ kind. changed (key_of f kind part.name)) (eqb-true part.kind FILE_NAME is) ∙ free part.name))

  pub names-kept : (f : ℕ) → ((name : List ℕ) → changed (key_of f FILE_NAME name) ≡ false) → KeepsNames (records_of old) (records_of new) f
  names-kept f free = record {
    numbers = numbers-same changed old new w f;
    names = SameItems-same _ _ (sym (names-same f free));
  }

  pub volume-same : SameVolume old.layout new.layout
  volume-same = record {
    cluster_sectors = ap (λ (l : TableLayout). l.cluster_sectors) w.layout;
    clusters = ap (λ (l : TableLayout). l.clusters) w.layout;
    mirror = ap (λ (l : TableLayout). l.mirror) w.layout;
    count = let e = ap (λ (l : TableLayout). l.count) w.layout in omega (arith, e);
  }

  -- ALL THAT EVERY EDIT MAY WRITE stays in its place, where none of it is named.
  module _ (o : HasOwners old) (some : 0 < old.layout.cluster_sectors)
      (room : (key : Key) → is_room_key key ≡ true → changed key ≡ false) where
    table-bits : value_on new (record_bits new) ≡ value_on old (record_bits old)
    table-bits =
        let free = room (key_of MFT BITMAP []) refl in
        value-other MFT BITMAP [] free (clusters-kept changed old new w o some MFT BITMAP [] free (inl (λ q. omega (arith, q))))

    cluster-bits : value_on new (cluster_bits new) ≡ value_on old (cluster_bits old)
    cluster-bits =
        let free = room (key_of CLUSTER_BITMAP DATA []) refl in
        value-other CLUSTER_BITMAP DATA [] free
        (clusters-kept changed old new w o some CLUSTER_BITMAP DATA [] free (inr ((λ q. omega (arith, q)), (λ q. omega (arith, q)))))

    mirror-end : (vcn c : ℕ) → 4096 ≤ vcn * cluster_bytes old.layout → spot_at (parts_at old MFT_MIRROR DATA []) vcn ≡ At c
        → new.cluster c ≡ old.cluster c
    mirror-end vcn c behind at =
        let owned = spot_at-owned (parts_at old MFT_MIRROR DATA []) vcn c at in
        let its = Contains-from_filter (is_of DATA []) (parts (records_of old) MFT_MIRROR) owned.0 owned.1 in
        w.clusters c (mirror-outside old o some vcn c behind at)
        (part-free changed old new w o MFT_MIRROR owned.0 c its.0 (mirror-free owned.0 its.1) owned.2)
      where
        mirror-free : (part : Part) → is_of DATA [] part ≡ true → changed (key_of MFT_MIRROR part.kind part.name) ≡ false
        mirror-free part is =
            let p = and_parts (part.kind == DATA) (bytes_eq part.name []) is in
            let k = eqb-true part.kind DATA p.0 in
            let n = (bytes_eq-Decides part.name []).0 p.1 in
            ap (λ kind. changed (key_of MFT_MIRROR kind part.name)) k ∙ ap (λ name. changed (key_of MFT_MIRROR DATA name)) n
            ∙ room (key_of MFT_MIRROR DATA []) refl

    pub in_place : StaysInPlace old new
    in_place = record {
      mirror = stream-places MFT_MIRROR (room (key_of MFT_MIRROR DATA []) refl);
      mirror_end = mirror-end;
      table = placed-same MFT DATA [] (room (key_of MFT DATA []) refl);
      table_bits = placed-same MFT BITMAP [] (room (key_of MFT BITMAP []) refl);
      cluster_bits = record {
        told = SameItems-same _ _ (sym (ap (map blank) (stream-told CLUSTER_BITMAP (room (key_of CLUSTER_BITMAP DATA []) refl))));
        spots = spots-same changed old new w CLUSTER_BITMAP DATA [];
      };
      bits = record {
        system = λ n low. ap (λ value. bit_in value n) table-bits;
        past = λ n high one. sym (ap (λ value. bit_in value n) table-bits) ∙ one;
        clusters = λ n high. ap (λ value. bit_in value n) cluster-bits;
      };
    }
