-- STEPS THAT LEAVE ALONE all but one record and some clusters, one after another; and the values of other files.
use Rattle.std.proofs.Common.{◌≡◌, ◌≢◌, ◌⊎◌, ◌<◌, ◌≤◌, ◌==◌, ◌&&◌, ℕ, Bool, true, false, List, [], filter}
use Rattle.std.proofs.Common.{refl, sym, ap, subst, inl, inr, ◌∙◌, arith}
use Rattle.std.proofs.lemmas.Bool.{and_parts, eqb-true}
use Rattle.std.proofs.lemmas.Slice.Eq.{bytes_eq-Decides}
use Rattle.std.specs.List.{Contains}
use Rattle.std.specs.Str.{bytes_eq}
use Rattle.list_laws.proofs.MemberLaws.{Contains-from_filter}
use Rattle.ntfs_def.specs.declared.kinds.TheConstants.{BITMAP, DATA}
use Rattle.ntfs_def.specs.declared.records.TheConstants.{FIRST_ORDINARY, MFT, MFT_MIRROR}
use Rattle.volume_def.specs.Coverage.{IsOutsideTable, times_covered}
use Rattle.volume_def.specs.Files.{Part, Records, is_of, part_runs, parts, parts_at, records_of}
use Rattle.volume_def.specs.Table.{TableLayout, cluster_bytes}
use Rattle.volume_def.specs.Values.{KeepsClusters, spot_at, value_of_parts, value_on}
use Rattle.volume_def.specs.View.{ReplacesBlock, VolumeView}
use Rattle.volume_def.proofs.ValueLaws.{spot_at-owned, value-frame}
use Rattle.volume_edits.specs.Clusters.{ChangesStream}
use Rattle.volume_edits.specs.Owners.{HasOwners}
use Rattle.volume_edits.proofs.OwnerLaws.{lies-outside}
use Rattle.edit_def.specs.Kept.{Key, key_of}
use Rattle.record_edits.specs.InPlace.{IsUnnamed}
use Rattle.record_edits.proofs.PlaceEdits.{part-unnamed, same}
use Rattle.made_edits.specs.Left.{Leaves, NamesOthers, is_row_key}

-- ONE AFTER ANOTHER
pub Leaves-then : (changed : Key → Bool) (n : ℕ) (old mid new : VolumeView) → NamesOthers changed n → Leaves changed n old mid
    → Leaves changed n mid new → Leaves changed n old new
Leaves-then changed n old mid new away a b = record {
  told = b.told ∙ a.told;
  layout = b.layout ∙ a.layout;
  rest = λ k. b.rest k ∙ a.rest k;
  blocks = λ m ne. b.blocks m ne ∙ a.blocks m ne;
  copies = λ m few. b.copies m few ∙ a.copies m few;
  clusters = λ c outside free.
      b.clusters c (subst (λ (l : TableLayout). IsOutsideTable l c) (sym a.layout) outside) (still c free) ∙ a.clusters c outside free;
  others = λ g ne. b.others g ne ∙ a.others g ne;
}
  where
    still : (c : ℕ) → IsUnnamed changed old c → IsUnnamed changed mid c
    still c free f kind name named vcn at = free f kind name named vcn
        (sym (ap (λ (xs : List Part). spot_at (filter (is_of kind name) xs) vcn) (a.others f (away f kind name named))) ∙ at)

-- one that names less
pub Leaves-more : (less changed : Key → Bool) (n : ℕ) (old new : VolumeView)
    → ((key : Key) → less key ≡ true → changed key ≡ true) → Leaves less n old new → Leaves changed n old new
Leaves-more less changed n old new more a = record {
  told = a.told;
  layout = a.layout;
  rest = a.rest;
  blocks = a.blocks;
  copies = a.copies;
  clusters = λ c outside free. a.clusters c outside (λ f kind name named. free f kind name (more (key_of f kind name) named));
  others = a.others;
}

-- BYTES in the clusters of one attribute
pub records-stream : (f kind : ℕ) (name : List ℕ) (old new : VolumeView) → ChangesStream old new (spot_at (parts_at old f kind name))
    → records_of new ≡ records_of old
records-stream f kind name old new w = same (λ key. true) old new (record {
  told = w.told;
  layout = w.layout;
  blocks = w.blocks;
  copies = w.copies;
  rest = w.rest;
  clusters = λ c owned free. w.clusters c (free f kind name refl);
})

pub Leaves-stream : (changed : Key → Bool) (n f kind : ℕ) (name : List ℕ) (old new : VolumeView) → changed (key_of f kind name) ≡ true
    → ChangesStream old new (spot_at (parts_at old f kind name)) → Leaves changed n old new
Leaves-stream changed n f kind name old new named w = record {
  told = w.told;
  layout = w.layout;
  rest = w.rest;
  blocks = λ m ne. w.blocks m;
  copies = w.copies;
  clusters = λ c outside free. w.clusters c (free f kind name named);
  others = λ g ne. ap (λ (r : Records). parts r g) (records-stream f kind name old new w);
}

-- ONE BLOCK that has no copy
pub Leaves-block : (changed : Key → Bool) (n : ℕ) (stored : List ℕ) (old new : VolumeView) → 4 ≤ n → ReplacesBlock old new n stored
    → ((g : ℕ) → g ≢ n → parts (records_of new) g ≡ parts (records_of old) g) → Leaves changed n old new
Leaves-block changed n stored old new high w others = record {
  told = w.told;
  layout = w.layout;
  rest = w.rest;
  blocks = w.blocks;
  copies = λ m few. w.copies m few (λ is. absurd (omega (arith, is, few, high)));
  clusters = λ c outside free. w.clusters c outside;
  others = others;
}

-- the bitmap of records is none of an ordinary file
pub row-away : (n : ℕ) → FIRST_ORDINARY ≤ n → NamesOthers is_row_key n
row-away n ordinary f kind name named is =
    let p = and_parts (BITMAP == kind) ((MFT == f) && bytes_eq [] name) named in
    let q = and_parts (MFT == f) (bytes_eq [] name) p.1 in
    let file = eqb-true MFT f q.0 in
    absurd (omega (arith, file, is, ordinary))

-- CLUSTERS AND VALUES of attributes that are not named, nor the table or its mirror, where no cluster has two owners
module _ (changed : Key → Bool) (old new : VolumeView)
    (left : (c : ℕ) → IsOutsideTable old.layout c → IsUnnamed changed old c → new.cluster c ≡ old.cluster c) (o : HasOwners old)
    (some : 0 < old.layout.cluster_sectors) where
  pub part-kept : (g : ℕ) (part : Part) (c : ℕ) → Contains (parts (records_of old) g) part → changed (key_of g part.kind part.name) ≡ false
      → 1 ≤ times_covered (part_runs part) c → (part.kind ≢ DATA) ⊎ ((g ≢ MFT) × (g ≢ MFT_MIRROR)) → new.cluster c ≡ old.cluster c
  part-kept g part c among free covered which =
      left c (lies-outside old o some g part c among covered which) (part-unnamed changed old o g part c among free covered)

  pub clusters-kept : (f kind : ℕ) (name : List ℕ) → changed (key_of f kind name) ≡ false
      → (kind ≢ DATA) ⊎ ((f ≢ MFT) × (f ≢ MFT_MIRROR)) → KeepsClusters old new (parts_at old f kind name)
  clusters-kept f kind name free which vcn c at =
      let owned = spot_at-owned (parts_at old f kind name) vcn c at in
      let its = Contains-from_filter (is_of kind name) (parts (records_of old) f) owned.0 owned.1 in
      let p = and_parts (owned.0.kind == kind) (bytes_eq owned.0.name name) its.1 in
      let k = eqb-true owned.0.kind kind p.0 in
      let n = (bytes_eq-Decides owned.0.name name).0 p.1 in
      part-kept f owned.0 c its.0
      (ap (λ kind. changed (key_of f kind owned.0.name)) k ∙ ap (λ name. changed (key_of f kind name)) n ∙ free) owned.2
      (elim which [
        | inl kinds ↦ inl (λ e. kinds (sym k ∙ e))
        | inr files ↦ inr files
      ])

  pub same-value : (g kind : ℕ) (name : List ℕ) → new.layout ≡ old.layout → parts_at new g kind name ≡ parts_at old g kind name
      → changed (key_of g kind name) ≡ false → (kind ≢ DATA) ⊎ ((g ≢ MFT) × (g ≢ MFT_MIRROR))
      → value_on new (parts_at new g kind name) ≡ value_on old (parts_at old g kind name)
  same-value g kind name layout same free which =
      ap (λ (l : TableLayout). value_of_parts new.cluster (cluster_bytes l) (parts_at new g kind name)) layout
      ∙ ap (λ (xs : List Part). value_of_parts new.cluster (cluster_bytes old.layout) xs) same
      ∙ value-frame old.cluster new.cluster (cluster_bytes old.layout) (parts_at old g kind name) (clusters-kept g kind name free which)

-- .. of other files, where one record was written
pub value-kept : (changed : Key → Bool) (n : ℕ) (old new : VolumeView) → Leaves changed n old new → HasOwners old
    → 0 < old.layout.cluster_sectors → (g kind : ℕ) (name : List ℕ) → g ≢ n → changed (key_of g kind name) ≡ false
    → (kind ≢ DATA) ⊎ ((g ≢ MFT) × (g ≢ MFT_MIRROR)) → value_on new (parts_at new g kind name) ≡ value_on old (parts_at old g kind name)
value-kept changed n old new l o some g kind name other free which =
    same-value changed old new l.clusters o some g kind name l.layout (ap (filter (is_of kind name)) (l.others g other)) free which
