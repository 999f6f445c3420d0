-- THE BYTES OF A STREAM over some of which others went.
use Rattle.std.proofs.Common.{◌≡◌, ◌+◌, ◌-◌, ◌/◌, ◌≤◌, ℕ, List, [], ◌∷◌, ◌++◌, length, take, drop, Option, Some, refl, sym, ap, subst}
use Rattle.std.proofs.Common.{◌∙◌, arith, append_assoc}
use Rattle.std.specs.Prelude.{IsTrue, replicate}
use Rattle.std.proofs.lemmas.List.{append-nil, take-append-drop}
use Rattle.ntfs_def.specs.Attribute.{ExtentHeader}
use Rattle.ntfs_def.specs.declared.run_text.Run.{Run}
use Rattle.volume_def.specs.BitmapClauses.{written_by, written_in}
use Rattle.volume_def.specs.Files.{Clusters, Content, Part, Value}
use Rattle.volume_def.specs.Readable.{IsReadableVolume}
use Rattle.volume_def.specs.Table.{cluster_bytes}
use Rattle.volume_def.specs.Values.{first_part, value_by, value_of_parts, value_on, value_over}
use Rattle.volume_def.specs.View.{VolumeView}
use Rattle.volume_def.proofs.StoredLaws.{value-length_told}
use Rattle.volume_edits.specs.Clusters.{OverwritesStream, with_bytes}
use Rattle.volume_edits.proofs.StreamClusters.{value-written}
use Rattle.tree_model.specs.Reading.{node_at}
use Rattle.tree_model.specs.Streams.{written}
use Rattle.tree_model.specs.declared.tree.Node.{Node}
use Rattle.stream_overwrites.specs.Overwritten.{FindsPlain}
use Rattle.stream_overwrites.proofs.FoundStream as found
use Rattle.stream_overwrites.proofs.ShownFile.{file, not-bad}
use Rattle.stream_overwrites.proofs.StreamParts as stream

-- Within a list, bytes that are written leave no gap before them.
pub written-within : (at : ℕ) (bytes held : List ℕ) → at ≤ length held → written at bytes held ≡ with_bytes held at bytes
written-within at bytes held inside =
    let none : at - length held ≡ 0 = omega (arith, inside) in
    let rest = drop (at + length bytes) held in
    ap (λ k. take at held ++ replicate k 0 ++ bytes ++ rest) none
    ∙ ap (λ xs. xs ++ bytes ++ rest) (append-nil (take at held))
    ∙ append_assoc (take at held) bytes rest

-- no bytes leave it as it was
written-none : (at : ℕ) (held : List ℕ) → at ≤ length held → written at [] held ≡ held
written-none at held inside =
    let none : at + 0 ≡ at = omega arith in
    written-within at [] held inside ∙ ap (λ k. take at held ++ drop k held) none ∙ take-append-drop at held

module _ (old new : VolumeView) (f : ℕ) (node : Node) (asked name : List ℕ) (at : ℕ) (bytes held : List ℕ) (told : IsTrue old.told)
    (readable : IsReadableVolume old) (there : node_at old f ≡ Some node) (finds : FindsPlain old f node asked name held)
    (over : OverwritesStream old new f name at bytes) where
  abbrev extents : List Part
  extents = stream.extents old f name readable (file old f node there) finds.there

  abbrev first : Part
  first = (stream.first old f name readable (file old f node there) finds.there).0

  first-is : first_part extents ≡ Some first
  first-is = (stream.first old f name readable (file old f node there) finds.there).1

  held-is : value_on old extents ≡ held
  held-is = found.value old f node asked name held readable (file old f node there) there finds

  below : at + length bytes ≤ written_in first.content
  below = subst (λ (o : Option Part). at + length bytes ≤ written_by o) first-is over.can.below

  -- A VALUE in its record: no byte went over it.
  value-held : (view : VolumeView) (v : List ℕ) → first.content ≡ Value v → value_on view extents ≡ v
  unfolding value_of_parts
  value-held view v is =
      ap (value_over view.cluster (cluster_bytes view.layout) extents) first-is
      ∙ ap (value_by view.cluster (cluster_bytes view.layout) extents) is

  no-bytes : (v : List ℕ) → first.content ≡ Value v → (some : List ℕ) → some ≡ bytes → some ≡ []
  no-bytes v is [] e = refl
  no-bytes v is (x ∷ xs) e =
      let long : length bytes ≡ length (x ∷ xs) = ap length (sym e) in
      let placed = over.can.placed at (omega arith, omega (arith, long)) in
      absurd (stream.value-nowhere old f name readable (file old f node there) finds.there v is (at / cluster_bytes old.layout) placed.0
      placed.1)

  in-record : (v : List ℕ) → first.content ≡ Value v → value_on new extents ≡ written at bytes held
  in-record v is =
      let none : bytes ≡ [] = no-bytes v is bytes refl in
      let same : v ≡ held = sym (value-held old v is) ∙ held-is in
      let fits : at + length bytes ≤ length v = subst (λ (content : Content). at + length bytes ≤ written_in content) is below in
      let inside : at ≤ length held = subst (λ (xs : List ℕ). at ≤ length xs) same (omega (arith, fits)) in
      value-held new v is ∙ same ∙ sym (written-none at held inside) ∙ ap (λ xs. written at xs held) (sym none)

  -- IN CLUSTERS the bytes stand in it.
  in-clusters : (extent : ExtentHeader) (runs : Option (List Run)) → first.content ≡ Clusters extent runs
      → value_on new extents ≡ written at bytes held
  in-clusters extent runs is =
      let size = cluster_bytes old.layout in
      let it = stream.attribute old f name readable (file old f node there) finds.there in
      let begins = stream.first-extent old f name readable (file old f node there) finds.there extent runs is in
      let within = stream.inside old f name readable (file old f node there) finds.there (not-bad old f node there)
      (found.plain old f node asked name held readable (file old f node there) there finds) extent runs is in
      let fits : at + length bytes ≤ extent.sizes.initialized =
      subst (λ (content : Content). at + length bytes ≤ written_in content) is below in
      let long : length held ≡ extent.sizes.real =
      ap length (sym held-is) ∙ value-length_told old.cluster size f extents extent it begins in
      value-written old new f extents extent at bytes told it begins fits (omega (arith, fits, within)) over.writes
      ∙ ap (λ xs. with_bytes xs at bytes) held-is
      ∙ sym (written-within at bytes held (omega (arith, fits, within, long)))

  -- THE VALUE is the machine's.
  pub value-over : value_on new extents ≡ written at bytes held
  value-over = by first.content refl
    where
      by : (content : Content) → first.content ≡ content → value_on new extents ≡ written at bytes held
      by (Value v) is = in-record v is
      by (Clusters extent runs) is = in-clusters extent runs is
