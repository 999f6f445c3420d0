-- BYTES THAT WENT OVER BYTES of a stream of a file that is shown, in its clusters, or in the value that it is.
use Rattle.std.proofs.Common.{◌≡◌, ◌≤◌, ◌+◌, ℕ, List, [], ◌∷◌, length, filter, refl, sym, ap, subst, ◌∙◌, arith}
use Rattle.std.specs.Prelude.{IsTrue}
use Rattle.ntfs_def.specs.declared.kinds.TheConstants.{DATA}
use Rattle.volume_def.specs.Files.{Part, Records, is_of, parts, parts_at, records_of}
use Rattle.volume_def.specs.Values.{IsPlain, value_of_parts, value_on}
use Rattle.volume_def.specs.View.{VolumeView}
use Rattle.volume_def.proofs.SoundLaws.{readable-sound}
use Rattle.volume_edits.specs.Clusters.{OverwritesStream, with_bytes}
use Rattle.tree_model.specs.Streams.{written}
use Rattle.tree_model.specs.declared.tree.Node.{Node}
use Rattle.edit_def.specs.Kept.{key_of}
use Rattle.stream_edits.specs.Streams.{ShowsBytes}
use Rattle.in_place.specs.Unnamed.{CanSet}
use Rattle.stream_overwrites.specs.Overwritten.{FindsPlain, GoesOverValue, IsOverwritten}
use Rattle.stream_overwrites.proofs.FoundStream as found
use Rattle.stream_overwrites.proofs.OverBytes.{value-over, written-within}
use Rattle.stream_overwrites.proofs.OverVolume as clusters
use Rattle.stream_overwrites.proofs.RewrittenReading.{rewritten}
use Rattle.stream_overwrites.proofs.ShownFile.{file, not-bitmap, not-case}
use Rattle.stream_overwrites.proofs.ValueVolume as one
use Rattle.stream_overwrites.proofs.ValueVolume.{with_value}

-- a value in one part
value-one : (view : VolumeView) (part : Part) (value : List ℕ) → value_on view (with_value part value ∷ []) ≡ value
unfolding value_of_parts
value-one view part value = refl

plain-one : (part : Part) (was now : List ℕ) → IsPlain (with_value part was ∷ []) → IsPlain (with_value part now ∷ [])
plain-one part was now plain = plain

-- the stream in the volume before
plain-was : (old : VolumeView) (f : ℕ) (node : Node) (asked name held : List ℕ) → CanSet old f node → FindsPlain old f node asked name held
    → IsPlain (parts_at old f DATA name)
plain-was old f node asked name held can finds =
    found.plain-parts old f node asked name held (readable-sound old can.sound) (file old f node can.there) can.there finds

-- IN CLUSTERS
module _ (old new : VolumeView) (f : ℕ) (node : Node) (asked name : List ℕ) (at : ℕ) (bytes held : List ℕ) (told : IsTrue old.told)
    (can : CanSet old f node) (finds : FindsPlain old f node asked name held) (over : OverwritesStream old new f name at bytes) where
  same : records_of new ≡ records_of old
  same = clusters.records-same old new f name at bytes over.writes

  cluster-shows : ShowsBytes new (key_of f DATA name) (written at bytes held)
  cluster-shows = record {
    plain = subst (λ (r : Records). IsPlain (filter (is_of DATA name) (parts r f))) (sym same)
        (plain-was old f node asked name held can finds);
    value = ap (λ (r : Records). value_on new (filter (is_of DATA name) (parts r f))) same
        ∙ value-over old new f node asked name at bytes held told (readable-sound old can.sound) can.there finds over;
  }

  pub overwritten : IsOverwritten old new f node asked name at bytes held
  overwritten = rewritten old new f node asked name at bytes held can finds
      (clusters.rewrites old new f name at bytes over.writes)
      (clusters.sound old new f name at bytes over.writes can.apart (not-bitmap old f node can.there) (not-case old f node can.there)
      can.sound)
      cluster-shows

-- OF A VALUE
module _ (old new : VolumeView) (f : ℕ) (node : Node) (asked name : List ℕ) (at : ℕ) (bytes held : List ℕ) (can : CanSet old f node)
    (finds : FindsPlain old f node asked name held) (over : GoesOverValue old new f name at bytes) where
  abbrev pub value : List ℕ
  value = one.value old new f name at bytes over

  pub was : parts_at old f DATA name ≡ with_value over.part value ∷ []
  was = one.parts-was old new f name at bytes over node can.sound can.apart can.there

  now : parts_at new f DATA name ≡ with_value over.part (one.next old new f name at bytes over) ∷ []
  now = one.parts-now old new f name at bytes over node can.sound can.apart can.there

  pub value-is : value ≡ held
  value-is =
      sym (value-one old over.part value) ∙ ap (value_on old) (sym was)
      ∙ found.value old f node asked name held (readable-sound old can.sound) (file old f node can.there) can.there finds

  inside : at ≤ length held
  inside =
      let fits : at + length bytes ≤ length value = one.fits old new f name at bytes over in
      let long = ap length value-is in
      omega (arith, fits, long)

  value-shows : ShowsBytes new (key_of f DATA name) (written at bytes held)
  value-shows = record {
    plain = subst IsPlain (sym now) (plain-one over.part value (one.next old new f name at bytes over) (subst IsPlain was
        (plain-was old f node asked name held can finds)));
    value = ap (value_on new) now ∙ value-one new over.part (one.next old new f name at bytes over)
        ∙ ap (λ v. with_bytes v at bytes) value-is ∙ sym (written-within at bytes held inside);
  }

  pub value-overwritten : IsOverwritten old new f node asked name at bytes held
  value-overwritten = rewritten old new f node asked name at bytes held can finds (one.rewrites old new f name at bytes over)
      (one.sound-now old new f name at bytes over node can.sound can.apart can.there) value-shows
