use Rattle.std.proofs.Common.{◌==◌, ◌∙◌, Option, None, Some, ap, sym}
use Rattle.std.specs.Prelude.{IsSomeAnd, slice_get}
use Rattle.ntfs_def.specs.Rounded.{clusters_for}
use Rattle.volume_def.specs.Files.{Part, part_clusters}
use Rattle.file_room.specs.Nodes.{parts_in}
use Rattle.tree_edit.proofs.alone.ends_in_last.Goals as goal

some-weaker : {X : Type 0} (o : Option X) (P Q : X → Type 0) → ((x : X) → P x → Q x) → IsSomeAnd o P → IsSomeAnd o Q
some-weaker None P Q more some = absurd some
some-weaker (Some x) P Q more some = more x some

pub returns : goal.returns
returns c = record {
  ends =
      some-weaker (slice_get (parts_in c.args.held.now) c.args.stream.now.part) _ _ (λ (part : Part) is.
      ap (λ k. k == c.in_ok-total.total) c.clusters_for.ensures
      ∙ ap (λ k. clusters_for c.args.size c.args.cluster_bytes == k) (c.in_ok-total.ensures part.holder ∙ ap part_clusters (sym is)))
      c.attr-attribute.ensures.part;
}
