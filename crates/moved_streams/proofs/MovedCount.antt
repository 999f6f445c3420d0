-- HOW MANY CLUSTERS a stream takes that moves: no more than the machine counts, each of which the bytes touch, or the old value does.
use Rattle.std.proofs.Common.{◌≡◌, ◌+◌, ◌≤◌, ◌<◌, ◌&&◌, not, max, ℕ, zero, suc, Bool, true, List, [], ◌∷◌, Option, Some}
use Rattle.std.proofs.Common.{length, refl, sym, ap, subst, ◌∙◌, arith}
use Rattle.std.specs.List.{range_with_len}
use Rattle.std.specs.Option.{option_and_then, option_map_or}
use Rattle.std.specs.Prelude.{count_by, is_some, sum_by}
use Rattle.std.proofs.lemmas.Bool.{and_from}
use Rattle.list_laws.proofs.FindLaws.{count-yes}
use Rattle.ntfs_def.specs.Attribute.{Body, NonResident, Resident, value_of}
use Rattle.ntfs_def.specs.Rounded.{clusters_for}
use Rattle.ntfs_def.specs.Runs.{total_clusters}
use Rattle.ntfs_def.specs.declared.kinds.TheConstants.{DATA}
use Rattle.ntfs_def.specs.declared.run_text.Run.{Run}
use Rattle.volume_def.specs.Files.{Content, Part, Value, content_of, content_value, part_of, parts_at}
use Rattle.volume_def.specs.Table.{cluster_bytes}
use Rattle.volume_def.specs.Values.{spot_at}
use Rattle.volume_def.specs.View.{VolumeView}
use Rattle.volume_def.proofs.RunPieces.{total-cons}
use Rattle.tree_model.specs.StreamRoom.{is_cluster, new_clusters, stream_value_len}
use Rattle.tree_model.specs.declared.tree.Node.{Node}
use Rattle.edit_def.specs.Purses.{run_size}
use Rattle.in_place_owed.specs.Below.{CanSet}
use Rattle.stream_overwrites.specs.Overwritten.{FindsPlain}
use Rattle.value_edits.proofs.AloneSteps.{outside}
use Rattle.value_edits.proofs.RunHoles.{placed-all}
use Rattle.value_edits.proofs.ValueCalls.{shown}
use Rattle.value_edits.proofs.ValueShown.{alone-first}
use Rattle.value_edits.specs.ValueEdits.{gained_by_write}
use Rattle.moved_streams.specs.MovedStreams.{MovesStream}
use Rattle.moved_streams.proofs.MovedExtent.{placed-alone}

-- all of a range pass
count-each : (p : ℕ → Bool) (a n : ℕ) → ((k : ℕ) → a ≤ k → k < a + n → p k ≡ true) → count_by p (range_with_len a n) ≡ n
count-each p a zero each = refl
count-each p a (suc n) each =
    let rest = count-each p (a + 1) n (λ k low high. each k (omega (arith, low)) (omega (arith, high))) in
    omega (arith, count-yes p a (range_with_len (a + 1) n) (each a (omega arith) (omega arith)), rest)

value-is : (body : Body) (value : List ℕ) → content_of body ≡ Value value → value_of body ≡ Some value
value-is (Resident held) value is = ap content_value is
value-is (NonResident extent text) value is = absurd (cc)

module _ {old new : VolumeView} {f i : ℕ} {name : List ℕ} {run : Run} {real : ℕ} {put : List ℕ}
    (x : MovesStream old new f i name run real put) {node : Node} {asked held : List ℕ} (can : CanSet old f node)
    (finds : FindsPlain old f node asked name held) where
  abbrev was : Part
  was = part_of f x.moves.was

  abbrev value : List ℕ
  value = x.moves.becomes.can.value

  is-value : value_of x.moves.was.body ≡ Some value
  is-value = value-is x.moves.was.body value x.moves.becomes.can.is

  -- THE OLD VALUE is what the node shows.
  pub had : stream_value_len (parts_at old f DATA name) ≡ length held
  had =
      ap stream_value_len x.stood
      ∙ ap (λ (o : Option Part). option_map_or length (option_and_then (λ (p : Part). content_value p.content) o) 0)
      (alone-first was value x.moves.becomes.can.is)
      ∙ ap (λ (content : Content). option_map_or length (content_value content) 0) x.moves.becomes.can.is
      ∙ ap length (shown old f node asked name held can finds x.moves.was x.is.kind x.stood value is-value)

  -- it lies in no cluster
  nowhere : (vcn : ℕ) → not (is_cluster (spot_at (parts_at old f DATA name) vcn)) ≡ true
  nowhere vcn =
      ap (λ xs. not (is_cluster (spot_at xs vcn))) x.stood
      ∙ ap (λ s. not (is_cluster s)) (outside f x.moves.was (ap is_some is-value) vcn)

  -- THE RUN has as many clusters as the bytes need that were put into it.
  taken : sum_by run_size (run ∷ []) ≡ clusters_for (length put) (cluster_bytes old.layout)
  taken =
      let all = placed-all (run ∷ []) (placed-alone run x.fills.needs.placed) in
      let one = total-cons run [] in
      let none : total_clusters [] ≡ 0 = refl in
      let same : clusters_for (0 + length put) (cluster_bytes old.layout) ≡ clusters_for (length put) (cluster_bytes old.layout) =
      ap (λ n. clusters_for n (cluster_bytes old.layout)) (omega arith) in
      omega (arith, all, one, none, same, x.fills.needs.len)

  pub takes-counted : (from len : ℕ) → length put ≡ max (from + len) (length held)
      → ((vcn : ℕ) → vcn < run.len → gained_by_write (cluster_bytes old.layout) (parts_at old f DATA name) from len vcn ≡ true)
      → sum_by run_size (run ∷ []) ≤ new_clusters (cluster_bytes old.layout) (parts_at old f DATA name) from len
  takes-counted from len long touched =
      let size = cluster_bytes old.layout in
      let extents = parts_at old f DATA name in
      let end : length put ≡ max (from + len) (stream_value_len extents) = omega (arith, long, had) in
      let needed : clusters_for (length put) size ≡ clusters_for (max (from + len) (stream_value_len extents)) size =
      ap (λ n. clusters_for n size) end in
      let one = total-cons run [] in
      let none : total_clusters [] ≡ 0 = refl in
      let all = placed-all (run ∷ []) (placed-alone run x.fills.needs.placed) in
      let counted = count-each (λ vcn. gained_by_write size extents from len vcn && not (is_cluster (spot_at extents vcn)))
      0 (clusters_for (max (from + len) (stream_value_len extents)) size)
      (λ vcn low high. and_from (gained_by_write size extents from len vcn) (not (is_cluster (spot_at extents vcn)))
      (touched vcn (omega (arith, high, needed, taken, all, one, none))) (nowhere vcn)) in
      omega (arith, counted, needed, taken)
