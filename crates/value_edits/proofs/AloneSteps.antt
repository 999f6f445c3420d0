-- WHAT THE STEPS OF A CALL ARE on one stream: the header of the record stays, and a value stands in the place of a value.
use Rattle.std.proofs.Common.{◌≡◌, ◌≤◌, ◌^◌, ℕ, true, false, List, [], ◌∷◌, Option, None}
use Rattle.std.proofs.Common.{refl, sym, ap, subst, inl, ◌∙◌, arith}
use Rattle.std.specs.Option.{option_map}
use Rattle.std.specs.Prelude.{IfSome, IsSome, ◌⊎◌}
use Rattle.ntfs_def.specs.Attribute.{Attribute, Body, NonResident, Resident, value_of}
use Rattle.ntfs_def.specs.Record.{Header}
use Rattle.ntfs_def.specs.declared.run_text.Run.{Run}
use Rattle.ntfs_def.specs.declared.run_text.Spot.TheVariants.{Outside}
use Rattle.ntfs_def.specs.Runs.{spot_of}
use Rattle.ntfs_def.proofs.SpotLaws.{spot_of-none}
use Rattle.volume_def.specs.Files.{Part, content_extent, content_of, part_of, part_runs}
use Rattle.volume_def.specs.LimitsClause.{IsInLimits}
use Rattle.volume_def.specs.Table.{cluster_bytes}
use Rattle.volume_def.specs.Values.{first_vcn_of, spot_at}
use Rattle.volume_def.specs.View.{VolumeView}
use Rattle.tree_model.specs.StreamRoom.{is_cluster}
use Rattle.edit_def.specs.Forms.{form_of}
use Rattle.session_def.specs.Nodes.{IsSpreadRight, IsSpreadSame, Spread, has_hole, spread_of}
use Rattle.record_edits.specs.RecordEdit.{parts_made}
use Rattle.record_edits.proofs.WholeEdits as whole
use Rattle.stream_overwrites.proofs.Below.{body-none, value-content, value-size}
use Rattle.extent_edits.specs.Cut.{KeepsRecord}
use Rattle.value_edits.specs.ValueEdits.{ComesInPlace, no_gain}
use Rattle.value_edits.proofs.OnePart.{flags-one, holed-one, spot-one, spread-one, spread_in}
use Rattle.value_edits.proofs.RunHoles.{has_hole_in}

-- a header that stays
pub header-same : (was now : Header) → now ≡ was → KeepsRecord was now
header-same was now same = record { next = was.next_id; is = same; rises = omega arith }

-- A VALUE: it lies in no cluster, has no hole, and tells no sizes of clusters.
value-limits : (f n : ℕ) (attribute : Attribute) → IsSome (value_of attribute.body) → IsInLimits f (part_of n attribute)
value-limits f n attribute is = λ stream good. by attribute.body is
  where
    by : (body : Body) → IsSome (value_of body)
        → IfSome (content_extent (content_of body)) (λ extent. extent.sizes.first ≡ 0 → extent.sizes.real ≤ 2 ^ 40)
    by (Resident value) s = tt
    by (NonResident extent text) s = cc

value-first : (body : Body) → IsSome (value_of body) → first_vcn_of (content_of body) ≡ 0
value-first (Resident value) is = refl
value-first (NonResident extent text) is = cc

value-spread : (body : Body) → IsSome (value_of body) → content_extent (content_of body) ≡ None
value-spread (Resident value) is = refl
value-spread (NonResident extent text) is = cc

module _ (f : ℕ) (a : Attribute) (is : IsSome (value_of a.body)) where
  abbrev part : Part
  part = part_of f a

  no-run : part_runs part ≡ []
  no-run = body-none a.body is

  first : first_vcn_of part.content ≡ 0
  first = value-first a.body is

  pub outside : (vcn : ℕ) → spot_at (part ∷ []) vcn ≡ Outside
  outside vcn = spot-one part vcn first ∙ ap (λ (runs : List Run). spot_of runs vcn) no-run ∙ spot_of-none vcn

  no-hole : has_hole (part ∷ []) ≡ true → ⊥
  no-hole holed =
      let none : has_hole_in (part_runs part) ≡ false = ap has_hole_in no-run in
      let never = sym none ∙ holed-one part holed in
      cc

  no-spread : spread_of (part ∷ []) ≡ None
  no-spread = spread-one part first ∙ ap (option_map spread_in) (value-spread a.body is)

-- .. in the place of a value
pub value-comes : (view : VolumeView) (f : ℕ) (was now : Attribute) → IsSome (value_of was.body) → IsSome (value_of now.body)
    → now.kind ≡ was.kind → now.name ≡ was.name → now.flags ≡ was.flags → form_of now ≡ form_of was
    → ComesInPlace view f no_gain 0 was now
value-comes view f was now was_is now_is kind name flags form = record {
  kind = kind;
  name = name;
  form = inl form;
  limits = value-limits f f now now_is;
  whole = whole.one-value (cluster_bytes view.layout) f (part_of f now) (value-content f now now_is);
  size = omega (arith, value-size f now now_is);
  spots = λ vcn lies. let never = sym (ap is_cluster (outside f now now_is vcn)) ∙ lies in cc;
  holes = λ holed. absurd (no-hole f now now_is holed);
  keeps = record {
    flags = inl (flags-one (part_of f now) (first f now now_is) ∙ flags ∙ sym (flags-one (part_of f was) (first f was was_is)));
    sizes = subst (λ (o : Option Spread). IfSome o (λ (s : Spread). IsSpreadSame (parts_made f (was ∷ [])) (parts_made f (now ∷ []))
        ⊎ IsSpreadRight (cluster_bytes view.layout) (parts_made f (now ∷ [])) s)) (sym (no-spread f now now_is)) tt;
    sparse = λ holed. absurd (no-hole f now now_is holed);
  };
}
