use Rattle.std.proofs.Common.{◌≡◌, ◌++◌, List}
use Rattle.std.specs.Prelude.{flat_map}
use Rattle.ntfs_def.specs.declared.run_text.Run.{Run}
use Rattle.attr_view.specs.Left.{attributes_left}
use Rattle.attr_view.specs.View.{attributes_of}
use Rattle.record_notes.specs.Owners.{RunsNote, attribute_runs}
use Rattle.record_notes.proofs.owners.OwnedClusters.note_record.Given as goal

-- what is noted, with what the attributes that are left have, is what all have
abbrev pub invariant-loop-attribute : goal.invariant-loop-attribute
invariant-loop-attribute l = record {
  clusters : l.self.clusters ≡ l.fn.self.clusters;
  noted : (runs : List Run) → RunsNote runs l.fn.self → (now : List Run) × RunsNote now l.self
      × (now ++ flat_map attribute_runs (attributes_left l.attribute-iterator) ≡ runs ++ flat_map attribute_runs (attributes_of l.view));
}
