-- THE VOLUME in which bytes went over bytes of a stream: its records are the same, and so are the clusters of all other attributes. So it
-- is sound still.
use Rattle.std.proofs.Common.{◌≡◌, ◌≢◌, ◌/◌, ◌==◌, ◌&&◌, ℕ, Bool, false, List, sym, ap, subst, inl, inr, ◌∙◌}
use Rattle.std.specs.Str.{bytes_eq}
use Rattle.std.proofs.lemmas.Bool.{and_left, and_right, ne_eqb}
use Rattle.ntfs_def.specs.declared.kinds.TheConstants.{DATA}
use Rattle.ntfs_def.specs.declared.records.TheConstants.{CLUSTER_BITMAP, UPCASE}
use Rattle.volume_def.specs.Files.{Part, parts_at, records_of}
use Rattle.volume_def.specs.Looked.{IsLookedAt, IsLookedInto, with_clusters}
use Rattle.volume_def.specs.Sound.{IsSound}
use Rattle.volume_def.specs.Table.{cluster_bytes}
use Rattle.volume_def.specs.Values.{spot_at}
use Rattle.volume_def.specs.View.{VolumeView}
use Rattle.volume_def.proofs.LookedLaws as looked
use Rattle.volume_edits.specs.Clusters.{ChangesStream, WritesStream}
use Rattle.volume_edits.proofs.OwnerLaws.{lies-looked}
use Rattle.edit_def.specs.Kept.{Key, key_of, same_key}
use Rattle.in_place.specs.InPlace.{Rewrites}
use Rattle.in_place.specs.Unnamed.{LiesApart}
use Rattle.in_place.proofs.CallLaws.{streamed}
use Rattle.in_place.proofs.OtherClusters.{part-free}

module _ (old new : VolumeView) (f : ℕ) (name : List ℕ) (at : ℕ) (bytes : List ℕ)
    (w : WritesStream old new (spot_at (parts_at old f DATA name)) at bytes) where
  changes : ChangesStream old new (spot_at (parts_at old f DATA name))
  changes = record {
    told = w.told;
    layout = w.layout;
    blocks = w.blocks;
    copies = w.copies;
    rest = w.rest;
    clusters = λ c none. w.clusters c (λ i inside. none (i / cluster_bytes old.layout));
  }

  abbrev pub named : Key → Bool
  named = same_key (key_of f DATA name)

  -- the attribute was rewritten
  pub rewrites : Rewrites named old new
  rewrites = streamed old new f DATA name changes

  abbrev other : VolumeView
  other = with_clusters old new.copy new.cluster new.rest

  is : new ≡ other
  is = λ i. record {
    told = w.told i;
    layout = w.layout i;
    block = λ n. w.blocks n i;
    copy = new.copy;
    cluster = new.cluster;
    rest = new.rest;
  }

  pub records-same : records_of new ≡ records_of old
  records-same = ap records_of is

  module _ (apart : LiesApart old) (no_bitmap : f ≢ CLUSTER_BITMAP) (no_case : f ≢ UPCASE) where
    other-file : (g : ℕ) (n : List ℕ) → f ≢ g → ((f == g) && bytes_eq name n) ≡ false
    other-file g n ne = and_left (f == g) (bytes_eq name n) (ne_eqb f g ne)

    -- no clause looks into the stream
    not-looked : (g : ℕ) (part : Part) → IsLookedInto g part → named (key_of g part.kind part.name) ≡ false
    not-looked g part (inl kind) = ap (λ k. (DATA == k) && ((f == g) && bytes_eq name part.name)) kind
    not-looked g part (inr (inl kind)) = ap (λ k. (DATA == k) && ((f == g) && bytes_eq name part.name)) kind
    not-looked g part (inr (inr (inl kind))) = ap (λ k. (DATA == k) && ((f == g) && bytes_eq name part.name)) kind
    not-looked g part (inr (inr (inr (kind, inl file)))) =
        and_right (DATA == part.kind) ((f == g) && bytes_eq name part.name) (other-file g part.name (λ e. no_bitmap (e ∙ file)))
    not-looked g part (inr (inr (inr (kind, inr file)))) =
        and_right (DATA == part.kind) ((f == g) && bytes_eq name part.name) (other-file g part.name (λ e. no_case (e ∙ file)))

    looked-kept : (c : ℕ) → IsLookedAt old c → new.cluster c ≡ old.cluster c
    looked-kept c l = rewrites.clusters c (lies-looked old apart.owners apart.some c l)
        (part-free named old new rewrites apart.owners l.file l.part c l.among (not-looked l.file l.part l.looked) l.covered)

    -- SOUND
    pub sound : IsSound old → IsSound new
    sound was = subst IsSound (sym is) (λ clause m.
        looked.clause-kept old new.copy new.cluster new.rest w.copies looked-kept clause m (was clause m))
