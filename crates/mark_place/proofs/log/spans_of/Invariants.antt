use Rattle.std.proofs.Common.{◌≡◌, ◌+◌, ◌*◌, ◌-◌, ◌≤◌, ℕ}
use Rattle.std.specs.Prelude.{All, min}
use Rattle.volume_def.specs.ExtentsClause.{AreAttribute}
use Rattle.volume_def.specs.Table.{TableLayout, cluster_bytes}
use Rattle.volume_def.specs.Values.{spot_at}
use Rattle.attr_view.specs.View.{attribute_of}
use Rattle.attr_store.specs.Sought.{parts_held_like}
use Rattle.mark_write.specs.Logs.{span_sectors}
use Rattle.mark_place.specs.LogSpans.{AreSpansOf, LiesBelow}
use Rattle.mark_place.proofs.log.spans_of.Given as goal

-- the spans are those of the clusters that were passed
abbrev pub invariant-runs : goal.invariant-runs
invariant-runs l = record {
  upto : l.vcn * l.per ≤ l.count + l.per;
  lie : All (λ span. span.first + span.len ≤ l.sectors) l.spans.items;
  most : span_sectors l.spans.items ≤ min (l.vcn * l.per) l.count;
  are : (layout : TableLayout) (f : ℕ) → layout.cluster_sectors ≡ l.per
      → AreAttribute (cluster_bytes layout) f (parts_held_like l.file (attribute_of l.stream))
      → LiesBelow l.per l.sectors (spot_at (parts_held_like l.file (attribute_of l.stream)))
      → AreSpansOf layout (spot_at (parts_held_like l.file (attribute_of l.stream))) (min (l.vcn * l.per) l.count) l.spans.items;
}

abbrev pub decreases-runs : goal.decreases-runs
decreases-runs l = l.count - l.vcn * l.per
