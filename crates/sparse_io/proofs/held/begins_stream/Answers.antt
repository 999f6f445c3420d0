use Rattle.std.proofs.Common.{◌&&◌, sym, ap, ◌∙◌}
use Rattle.std.proofs.lemmas.Bool.{eq-eqb}
use Rattle.ntfs_def.specs.declared.kinds.TheConstants.{DATA}
use Rattle.attr_view.specs.View.{attribute_of}
use Rattle.volume_def.specs.Files.{part_of}
use Rattle.volume_def.specs.Values.{is_first}
use Rattle.sparse_io.proofs.held.begins_stream.Goals as goal

pub returns-then-kind-eq-DATA : goal.returns-then-kind-eq-DATA
returns-then-kind-eq-DATA c n =
    let a = attribute_of c.args.attribute.now in
    c.is_first.ensures n
    ∙ sym (ap (λ b. b && is_first (part_of n a)) (eq-eqb a.kind DATA (sym c.kind.ensures ∙ c.if-kind-eq-DATA.true)))
