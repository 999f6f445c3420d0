-- WHAT IS KEPT of all attributes that are not named, nor the table or its mirror.
use Rattle.std.proofs.Common.{◌≡◌, ◌≢◌, ◌<◌, ◌==◌, ◌&&◌, ◌||◌, ℕ, Bool, true, false, List, [], length}
use Rattle.std.proofs.Common.{refl, sym, ap, inl, inr, ◌∙◌}
use Rattle.std.proofs.lemmas.Bool.{and_from, and_parts, cases_Bool, eq-eqb, eqb-true, or_from}
use Rattle.std.proofs.lemmas.Slice.Eq.{bytes_eq-Decides}
use Rattle.std.specs.Str.{bytes_eq}
use Rattle.ntfs_def.specs.declared.kinds.TheConstants.{DATA}
use Rattle.ntfs_def.specs.declared.records.TheConstants.{MFT, MFT_MIRROR}
use Rattle.volume_def.specs.Files.{Part, is_of, parts, parts_at, records_of}
use Rattle.volume_def.specs.Values.{KeepsClusters}
use Rattle.volume_def.specs.View.{VolumeView}
use Rattle.volume_def.proofs.ValueLaws.{spot_at-owned}
use Rattle.list_laws.proofs.MemberLaws.{Contains-from_filter}
use Rattle.list_laws.proofs.SameItemsLaws.{SameItems-same}
use Rattle.volume_edits.specs.Owners.{HasOwners}
use Rattle.session_def.specs.Edited.{is_room_key, is_table_key}
use Rattle.session_def.proofs.EditedLaws.{table-room}
use Rattle.session_def.proofs.KeptLaws.{KeepsFile-more}
use Rattle.session_def.specs.EditDefKept.{KeepsBut, Key, either, kept_told, key_of}
use Rattle.in_place.specs.InPlace.{Rewrites}
use Rattle.in_place.proofs.OtherClusters.{clusters-kept, part-free}
use Rattle.in_place.proofs.OtherParts.{told-other}
use Rattle.in_place.proofs.RewriteLaws.{Rewrites-more, second-less}
use Rattle.in_place.proofs.SameRecords.{spots-same}
use Rattle.record_edits.proofs.TableOwners.{other-outside}

or-false : (x y : Bool) → (x || y) ≡ false → (x ≡ false) × (y ≡ false)
or-false true y e = cc
or-false false y e = (refl, e)

and-last : (x y z : Bool) → (x && (y && z)) ≡ false → (x && y) ≡ true → z ≡ false
and-last true true z e t = e
and-last true false z e t = cc
and-last false y z e t = cc

no-file : (f : ℕ) → ((f == MFT) || (f == MFT_MIRROR)) ≡ false → (f ≢ MFT) × (f ≢ MFT_MIRROR)
no-file f e =
    let q = or-false (f == MFT) (f == MFT_MIRROR) e in (
      (λ s. let t = eq-eqb f MFT s in let never : true ≡ false = sym t ∙ q.0 in cc),
      (λ s. let t = eq-eqb f MFT_MIRROR s in let never : true ≡ false = sym t ∙ q.1 in cc),
    )

module _ (changed : Key → Bool) (old new : VolumeView) (w : Rewrites changed old new) (o : HasOwners old)
    (some : 0 < old.layout.cluster_sectors)
    (unnamed : o.table.part.name ≡ []) where
  other-clusters : (f kind : ℕ) (name : List ℕ) → either is_table_key changed (key_of f kind name) ≡ false
      → KeepsClusters old new (parts_at old f kind name)
  other-clusters f kind name free =
      let both = or-false (is_table_key (key_of f kind name)) (changed (key_of f kind name)) free in
      elim (cases_Bool ((kind == DATA) && (length name == 0))) [
        | inl stream ↦ clusters-kept changed old new w o some f kind name both.1
            (inr (no-file f (and-last (kind == DATA) (length name == 0) ((f == MFT) || (f == MFT_MIRROR)) both.0 stream)))
        | inr other ↦ λ vcn c at.
            let owned = spot_at-owned (parts_at old f kind name) vcn c at in
            let its = Contains-from_filter (is_of kind name) (parts (records_of old) f) owned.0 owned.1 in
            let p = and_parts (owned.0.kind == kind) (bytes_eq owned.0.name name) its.1 in
            let k = eqb-true owned.0.kind kind p.0 in
            let n = (bytes_eq-Decides owned.0.name name).0 p.1 in
            w.clusters c (other-outside old o some unnamed f owned.0 c its.0 (no-stream kind name other owned.0 k n) owned.2)
            (part-free changed old new w o f owned.0 c its.0
            (ap (λ kind. changed (key_of f kind owned.0.name)) k ∙ ap (λ name. changed (key_of f kind name)) n ∙ both.1) owned.2)
      ]
    where
      no-stream : (kind : ℕ) (name : List ℕ) → ((kind == DATA) && (length name == 0)) ≡ false → (part : Part) → part.kind ≡ kind
          → part.name ≡ name → is_of DATA [] part ≡ false
      no-stream kind name other part k n = by (is_of DATA [] part) refl
        where
          by : (b : Bool) → is_of DATA [] part ≡ b → is_of DATA [] part ≡ false
          by false e = e
          by true e =
              let p = and_parts (part.kind == DATA) (bytes_eq part.name []) e in
              let empty : name ≡ [] = sym n ∙ (bytes_eq-Decides part.name []).0 p.1 in
              let is : kind ≡ DATA = sym k ∙ eqb-true part.kind DATA p.0 in
              let yes = and_from (kind == DATA) (length name == 0) (eq-eqb kind DATA is) (eq-eqb (length name) 0 (ap length empty)) in
              let never : true ≡ false = sym yes ∙ other in
              cc

  -- ALL FILES keep them.
  pub kept : KeepsBut (either is_table_key changed) old new
  kept f =
      let more = Rewrites-more changed (either is_table_key changed) old new (second-less is_table_key changed) w in
      let told = told-other (either is_table_key changed) old new more f in
      record {
        told = SameItems-same (kept_told (either is_table_key changed) old f) (kept_told (either is_table_key changed) new f) (sym told);
        order = inl told;
        spots = λ kind name free vcn. spots-same changed old new w f kind name vcn;
        clusters = λ kind name free. other-clusters f kind name free;
      }

  -- the same apart from all room
  pub kept-room : KeepsBut (either is_room_key changed) old new
  kept-room f = KeepsFile-more (either is_table_key changed) (either is_room_key changed) old new f less (kept f)
    where
      less : (key : Key) → either is_room_key changed key ≡ false → either is_table_key changed key ≡ false
      less key e =
          let both = or-false (is_room_key key) (changed key) e in
          or_from (is_table_key key) (changed key) (table-room key both.0) both.1
