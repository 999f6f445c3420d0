use Rattle.std.proofs.Common.{sym, ap, ◌∙◌}
use Rattle.ntfs_def.specs.Flags.{is_packed}
use Rattle.attr_view.specs.View.{attribute_of}
use Rattle.volume_def.specs.Files.{part_of}
use Rattle.attr_store.proofs.FirstLaws.{find-here, find-later, is_sought}
use Rattle.attr_store.proofs.first.first_here.Goals as goal

pub returns-then-not-tells_sizes : goal.returns-then-not-tells_sizes
returns-then-not-tells_sizes c file n left at seen =
    seen ∙ find-later (is_sought c.args.kind c.args.name.now) (part_of n (attribute_of c.args.attribute.now)) left
    (sym (c.tells_sizes.ensures n) ∙ c.if-not-tells_sizes.true)

pub returns : goal.returns
returns c file n left at seen =
    let a = attribute_of c.args.attribute.now in
    record {
      part = part_of n a;
      at = at;
      is_first = seen ∙ find-here (is_sought c.args.kind c.args.name.now) (part_of n a) left
          (sym (c.tells_sizes.ensures n) ∙ c.if-not-tells_sizes.false);
      packed = c.is_packed.ensures ∙ ap (λ k. is_packed k c.flags.result) c.kind.ensures ∙ ap (is_packed a.kind) c.flags.ensures;
      len = c.real_size.ensures;
      written = c.written_size.ensures;
    }
