-- WHERE NO RECORD WAS WRITTEN, but clusters of some attributes, as a stream's or the bitmaps': the headers of attributes stay, and so does
-- what the clusters hold of the other attributes.
use Rattle.std.proofs.Common.{◌≡◌, ◌==◌, ◌≤◌, ℕ, Bool, false, cond, [], filter, map, ap, ◌∙◌, arith}
use mathlib.Core.Path.{fun_ext}
use Rattle.std.specs.List.{Contains, flat_map, range_with_len}
use Rattle.std.specs.Option.{option_map_or}
use Rattle.ntfs_def.specs.Attribute.{attributes}
use Rattle.ntfs_def.specs.Fixup.{opened_of}
use Rattle.volume_def.specs.Coverage.{times_covered}
use Rattle.volume_def.specs.Files.{Part, file_of, part_runs, parts, record_on, records_of}
use Rattle.volume_def.specs.Table.{TableLayout}
use Rattle.volume_def.specs.View.{VolumeView}
use Rattle.volume_edits.proofs.OwnerLaws.{owned-once}
use Rattle.edit_def.specs.Forms.{attributes_on, begins, form_of, forms_of}
use Rattle.edit_def.specs.Kept.{Key, key_of}
use Rattle.record_edits.specs.InPlace.{WritesInPlace}
use Rattle.record_edits.proofs.PlaceEdits.{at-same, part-unnamed}
use Rattle.value_edits.specs.Unnamed.{LiesApart}

module _ (changed : Key → Bool) (old new : VolumeView) (w : WritesInPlace changed old new) where
  -- CLUSTERS of a part hold what they held, unless it is one of those attributes'
  pub part-kept : LiesApart old → (g : ℕ) (part : Part) (c : ℕ) → Contains (parts (records_of old) g) part
      → changed (key_of g part.kind part.name) ≡ false → 1 ≤ times_covered (part_runs part) c → new.cluster c ≡ old.cluster c
  part-kept apart g part c among free covered =
      let owned = owned-once old g part c among in
      w.clusters c (omega (arith, owned, covered)) (part-unnamed changed old apart.owners g part c among free covered)

  -- HEADERS OF ATTRIBUTES
  pub forms-same : (f : ℕ) → forms_of new f ≡ forms_of old f
  forms-same f =
      ap (λ g. map form_of (filter begins (flat_map g (range_with_len 0 new.layout.count)))) (fun_ext (λ n.
      ap (λ o. option_map_or (λ r. cond (file_of n r == f) (attributes (opened_of (new.block n))) []) o []) (at-same changed old new w n)
      ∙ ap (λ b. option_map_or (λ r. cond (file_of n r == f) (attributes (opened_of b)) []) (record_on old n) []) (w.blocks n)))
      ∙ ap (λ (l : TableLayout). map form_of (filter begins (flat_map (attributes_on old f) (range_with_len 0 l.count)))) w.layout
