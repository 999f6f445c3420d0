-- The value of a stream of the plan is what its clusters hold.
use Rattle.std.proofs.Common.{◌≡◌, ℕ, ◌+◌, ◌/◌, ◌%◌, ◌<◌, true, cond, List, [], ◌∷◌, map, Some, None, refl, sym, ap, ◌∙◌, arith}
use Rattle.std.specs.List.{range_with_len}
use Rattle.std.proofs.lemmas.Bool.{lt-ltb, le-leb}
use Rattle.std.proofs.lemmas.Grind.{same_number_lists}
use Rattle.std.proofs.lemmas.List.FromFn.{length-map-range_with_len, get_or-map-range_with_len}
use Rattle.ntfs_def.specs.declared.run_text.Run.{Run}
use Rattle.ntfs_def.specs.declared.run_text.Spot.TheVariants.{At}
use Rattle.ntfs_def.specs.Runs.{spot_of}
use Rattle.ntfs_def.proofs.SpotLaws.{spot_of-first}
use Rattle.volume_def.specs.Files.{Part}
use Rattle.volume_def.specs.Values.{byte_there, holds_vcn, spot_at, spot_by, stored_byte, value_byte, value_of_parts}
use Rattle.volume_format.specs.Items.{HoldsItem}
use Rattle.volume_format.specs.Plan.{Plan, clusters_needed, stream_part}
use Rattle.volume_format.proofs.Needed.{below-clusters_needed}

module _ (p : Plan) (some : 0 < p.size) (n kind : ℕ) (name : List ℕ) (id at bytes : ℕ) where
  abbrev stream : Part
  stream = stream_part p n kind name id at bytes

  abbrev extents : List Part
  extents = stream ∷ []

  -- cluster `vcn` of the stream
  pub spot-stream : (vcn : ℕ) → vcn < clusters_needed p bytes → spot_at extents vcn ≡ At (at + vcn)
  spot-stream vcn lt =
      let held : holds_vcn vcn stream ≡ true =
      rw (le-leb 0 vcn (omega arith), lt-ltb vcn (0 + (0 + clusters_needed p bytes)) (omega arith)) refl in
      let run : Run = record { len = clusters_needed p bytes; lcn = Some at } in
      ap (λ b. spot_by (cond b (Some stream) None) vcn) held
      ∙ ap (spot_of (run ∷ [])) (omega arith)
      ∙ spot_of-first run [] vcn lt

  module _ (cluster : ℕ → List ℕ) (rule : ℕ → ℕ) (holds : HoldsItem cluster p.size at bytes rule) where
    abbrev byte_of : ℕ → ℕ
    byte_of = value_byte cluster p.size (spot_at extents) bytes

    byte-stream : (i : ℕ) → i < bytes → byte_of i ≡ rule i
    byte-stream i inside =
        ap (λ b. cond b (stored_byte cluster p.size (spot_at extents) i) 0) (lt-ltb i bytes inside)
        ∙ ap (λ s. byte_there cluster s (i % p.size)) (spot-stream (i / p.size) (below-clusters_needed p some bytes i inside))
        ∙ holds.byte i inside

    pub value-stream : value_of_parts cluster p.size extents ≡ map rule (range_with_len 0 bytes)
    unfolding value_of_parts
    value-stream =
        same_number_lists _ _ (length-map-range_with_len byte_of 0 bytes ∙ sym (length-map-range_with_len rule 0 bytes))
        (λ i lt.
        let inside : i < bytes = omega (arith, length-map-range_with_len byte_of 0 bytes) in
        get_or-map-range_with_len byte_of 0 bytes i i 0 inside (omega arith)
        ∙ byte-stream i inside
        ∙ sym (get_or-map-range_with_len rule 0 bytes i i 0 inside (omega arith)))
