-- A STREAM after a rewrite: its first part has the same flags and sizes, its clusters lie where they lay, and it has a hole where it had
-- one.
use Rattle.std.proofs.Common.{◌≡◌, ◌==◌, ◌&&◌, ◌||◌, ℕ, Bool, true, false, List, [], ◌∷◌, Option, Some, None, filter, map, refl, sym, ap}
use Rattle.std.proofs.Common.{inl, ◌∙◌}
use Rattle.std.specs.List.{list_any}
use Rattle.std.specs.Option.{option_map}
use Rattle.std.specs.Prelude.{IfSome, is_none, option_and_then}
use Rattle.std.specs.Str.{bytes_eq}
use Rattle.ntfs_def.specs.Units.{units_in}
use Rattle.ntfs_def.specs.declared.kinds.TheConstants.{DATA}
use Rattle.ntfs_def.specs.declared.run_text.Run.{Run}
use Rattle.volume_def.specs.Files.{Clusters, Content, Part, Value, content_extent, parts, parts_at, records_of}
use Rattle.volume_def.specs.Values.{first_part, spot_at}
use Rattle.volume_def.specs.View.{VolumeView}
use Rattle.list_laws.proofs.MemberLaws.{filter-map}
use Rattle.session_def.specs.StreamRoom.{parts_named}
use Rattle.session_def.specs.EditDefKept.{Key}
use Rattle.session_def.specs.Places.{flags_of}
use Rattle.session_def.specs.Nodes.{KeepsStream, Spread, has_hole, spread_of}
use Rattle.in_place.specs.Blank.{blank_part}
use Rattle.in_place.specs.InPlace.{Rewrites}
use Rattle.in_place.proofs.BlankLaws.{blank-runs, blank-spot, first-blank}
use Rattle.in_place.proofs.SameRecords.{at-same, parts-same}

never : {b : Bool} → b ≡ true → b ≡ false → ⊥
never x y = cc

-- WHAT THE BYTES OF VALUES DO NOT TELL of the parts of a stream
pub hole-blank : (xs : List Part) → has_hole (map blank_part xs) ≡ has_hole xs
hole-blank [] = refl
hole-blank (x ∷ xs) = λ i. list_any (λ (run : Run). is_none run.lcn) (blank-runs x i) || hole-blank xs i

flags-blank : (xs : List Part) → flags_of (first_part (map blank_part xs)) ≡ flags_of (first_part xs)
flags-blank xs = ap (λ (o : Option Part). flags_of o) (first-blank xs) ∙ by (first_part xs)
  where
    by : (o : Option Part) → flags_of (option_map blank_part o) ≡ flags_of o
    by None = refl
    by (Some part) = refl

-- of the first part
abbrev spread_by : Option Part → Option Spread
spread_by o = option_map (λ extent. record { allocated = extent.sizes.allocated; compressed = extent.compressed })
    (option_and_then (λ (part : Part). content_extent part.content) o)

spread-blank : (xs : List Part) → spread_of (map blank_part xs) ≡ spread_of xs
spread-blank xs = ap spread_by (first-blank xs) ∙ by (first_part xs)
  where
    at : (part : Part) (content : Content) → spread_by (Some (blank_part (record part { content = content })))
        ≡ spread_by (Some (record part { content = content }))
    at part (Value value) = refl
    at part (Clusters extent runs) = refl

    by : (o : Option Part) → spread_by (option_map blank_part o) ≡ spread_by o
    by None = refl
    by (Some part) = at part part.content

-- what holds of all holds of one that is there
if-some : {A : Type 0} (o : Option A) (P : A → Type 0) → ((a : A) → P a) → IfSome o P
if-some None P each = tt
if-some (Some a) P each = each a

-- PARTS THAT SAY THE SAME so
hole-same : (was now : List Part) → map blank_part now ≡ map blank_part was → has_hole now ≡ has_hole was
hole-same was now e = sym (hole-blank now) ∙ ap has_hole e ∙ hole-blank was

kept-by : (view : VolumeView) (was now : List Part) → map blank_part now ≡ map blank_part was → KeepsStream view was now
kept-by view was now e = record {
  flags = inl (sym (flags-blank now) ∙ ap (λ xs. flags_of (first_part xs)) e ∙ flags-blank was);
  sizes = if-some (spread_of now) _ (λ spread. inl (record {
    spots = λ vcn. sym (blank-spot now vcn) ∙ ap (λ xs. spot_at xs vcn) e ∙ blank-spot was vcn;
    told = sym (spread-blank now) ∙ ap spread_of e ∙ spread-blank was;
  }));
  sparse = λ hole none. absurd (never hole (hole-same was now e ∙ none));
}

module _ (changed : Key → Bool) (old new : VolumeView) (w : Rewrites changed old new) where
  -- A STREAM that is told by the units of its name
  pub stream-kept : (f : ℕ) (name : List ℕ) → KeepsStream new (parts_named old f name) (parts_named new f name)
  stream-kept f name =
      let p : Part → Bool = λ part. (part.kind == DATA) && bytes_eq (units_in part.name) name in
      kept-by new (parts_named old f name) (parts_named new f name)
      (sym (filter-map blank_part p (parts (records_of new) f)) ∙ ap (filter p) (parts-same changed old new w f)
      ∙ filter-map blank_part p (parts (records_of old) f))

  -- any attribute in clusters has a hole where it had one
  pub holes-same : (f kind : ℕ) (name : List ℕ) → has_hole (parts_at new f kind name) ≡ has_hole (parts_at old f kind name)
  holes-same f kind name = hole-same (parts_at old f kind name) (parts_at new f kind name) (at-same changed old new w f kind name)
