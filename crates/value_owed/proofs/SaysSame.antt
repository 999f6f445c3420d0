-- PARTS THAT SAY THE SAME but for the bytes of values: a stream that has them is kept as the one was that had those.
use Rattle.std.proofs.Common.{◌≡◌, ◌⊎◌, ◌*◌, ℕ, Bool, false, List, map, Option, Some, None, inl, inr, refl}
use Rattle.std.proofs.Common.{sym, ap, subst, ◌∙◌}
use mathlib.Core.Path.{fun_ext}
use Rattle.std.specs.List.{range_with_len}
use Rattle.std.specs.Option.{option_map, option_map_or}
use Rattle.std.specs.Prelude.{IfSome, count_by, is_some, option_and_then}
use Rattle.ntfs_def.specs.Flags.{is_sparse}
use Rattle.ntfs_def.specs.Runs.{total_clusters}
use Rattle.volume_def.specs.Files.{Clusters, Content, Part, Value, all_covered, content_extent, part_clusters}
use Rattle.volume_def.specs.StreamSize.{told_size}
use Rattle.volume_def.specs.Table.{cluster_bytes}
use Rattle.volume_def.specs.Values.{first_part, spot_at}
use Rattle.volume_def.specs.View.{VolumeView}
use Rattle.tree_model.specs.StreamRoom.{is_cluster}
use Rattle.edit_def.specs.Places.{flags_of}
use Rattle.session_def.specs.Nodes.{IsSpreadRight, IsSpreadSame, KeepsStream, Spread, has_hole, is_sparse_stream, owned_by, spread_of}
use Rattle.value_edits.specs.Blank.{blank_part}
use Rattle.value_edits.proofs.BlankLaws.{blank-runs, blank-spot, first-blank, sum-map}
use Rattle.value_edits.proofs.IndexesOwed.{flags-blank, size-blank}
use Rattle.value_edits.proofs.StreamSame.{hole-blank}

-- WHAT THE BYTES OF VALUES DO NOT TELL: of the first part that is there ..
there-blank : (o : Option Part) → is_some (option_map blank_part o) ≡ is_some o
there-blank None = refl
there-blank (Some part) = refl

abbrev sparse_by : Option Part → Bool
sparse_by o = option_map_or (λ (part : Part). is_sparse part.flags) o false

sparse-blank : (o : Option Part) → sparse_by (option_map blank_part o) ≡ sparse_by o
sparse-blank None = refl
sparse-blank (Some part) = refl

abbrev spread_by : Option Part → Option Spread
spread_by o = option_map (λ extent. record { allocated = extent.sizes.allocated; compressed = extent.compressed })
    (option_and_then (λ (part : Part). content_extent part.content) o)

spread-blank : (o : Option Part) → spread_by (option_map blank_part o) ≡ spread_by o
spread-blank None = refl
spread-blank (Some part) = by part.content
  where
    by : (content : Content) → spread_by (Some (blank_part (record part { content = content })))
        ≡ spread_by (Some (record part { content = content }))
    by (Value value) = refl
    by (Clusters extent runs) = refl

-- .. and of all
covered-blank : (xs : List Part) → all_covered (map blank_part xs) ≡ all_covered xs
covered-blank = sum-map blank_part part_clusters (λ part. ap total_clusters (blank-runs part))

-- WHAT PARTS OF A STREAM SAY of it
pub record SaysSame (was now : List Part) : Type 0 where
  pub there : is_some (first_part now) ≡ is_some (first_part was)
  pub flags : flags_of (first_part now) ≡ flags_of (first_part was)
  pub sparse : is_sparse_stream now ≡ is_sparse_stream was
  pub size : told_size (first_part now) ≡ told_size (first_part was)
  pub spread : spread_of now ≡ spread_of was
  pub hole : has_hole now ≡ has_hole was
  pub covered : all_covered now ≡ all_covered was
  pub spots : (vcn : ℕ) → spot_at now vcn ≡ spot_at was vcn

pub says-same : (was now : List Part) → map blank_part now ≡ map blank_part was → SaysSame was now
says-same was now e = record {
  there = first (λ o. is_some o) there-blank;
  flags = first flags_of flags-blank;
  sparse = first sparse_by sparse-blank;
  size = first told_size size-blank;
  spread = first spread_by spread-blank;
  hole = sym (hole-blank now) ∙ ap has_hole e ∙ hole-blank was;
  covered = sym (covered-blank now) ∙ ap all_covered e ∙ covered-blank was;
  spots = λ vcn. sym (blank-spot now vcn) ∙ ap (λ xs. spot_at xs vcn) e ∙ blank-spot was vcn;
}
  where
    first : {X : Type 0} (g : Option Part → X) → ((o : Option Part) → g (option_map blank_part o) ≡ g o)
        → g (first_part now) ≡ g (first_part was)
    first g same = sym (same (first_part now)) ∙ ap g (sym (first-blank now) ∙ ap first_part e ∙ first-blank was) ∙ same (first_part was)

-- THE STREAM is kept from parts on that were before them.
if-same : {X : Type 0} (P Q : X → Type 0) (o u : Option X) → o ≡ u → ((x : X) → P x → Q x) → IfSome u P → IfSome o Q
if-same P Q None u e turn is = tt
if-same P Q (Some x) None e turn is = cc
if-same P Q (Some x) (Some y) e turn is = let same : y ≡ x = cc in turn x (subst P same is)

module _ (old new : VolumeView) (before was now : List Part) (size : cluster_bytes new.layout ≡ cluster_bytes old.layout)
    (same : SaysSame was now) where
  owned-same : owned_by now ≡ owned_by was
  owned-same =
      ap (λ n. count_by (λ vcn. is_cluster (spot_at now vcn)) (range_with_len 0 n)) same.covered
      ∙ ap (λ p. count_by p (range_with_len 0 (all_covered was))) (fun_ext (λ vcn. ap is_cluster (same.spots vcn)))

  spread-still : (spread : Spread) → IsSpreadSame before was ⊎ IsSpreadRight (cluster_bytes old.layout) was spread
      → IsSpreadSame before now ⊎ IsSpreadRight (cluster_bytes new.layout) now spread
  spread-still spread (inl stays) =
      inl (record { spots = λ vcn. same.spots vcn ∙ stays.spots vcn; told = same.spread ∙ stays.told })
  spread-still spread (inr right) = inr (record {
    allocated = right.allocated ∙ λ i. sym same.covered i * sym size i;
    compressed = λ sparse.
        right.compressed (sym same.sparse ∙ sparse) ∙ λ i. Some (sym owned-same i * sym size i);
  })

  pub keeps-same : KeepsStream old before was → KeepsStream new before now
  keeps-same kept = record {
    flags = elim kept.flags [
      | inl stay ↦ inl (same.flags ∙ stay)
      | inr holed ↦ inr (same.flags ∙ holed.0, same.hole ∙ holed.1)
    ];
    sizes = if-same _ _ (spread_of now) (spread_of was) same.spread spread-still kept.sizes;
    sparse = λ hole none. same.sparse ∙ kept.sparse (sym same.hole ∙ hole) none;
  }
