use Rattle.std.proofs.Common.{rules, sym, ◌∙◌}
use Rattle.ntfs_def.specs.Attribute.{attributes}
use Rattle.attr_view.specs.View.{viewed_block}
use Rattle.volume_def.specs.Files.{part_of}
use Rattle.volume_def.specs.ListsClause.{is_list}
use Rattle.list_laws.proofs.FindLaws.{list_any-map}
use Rattle.record_notes.proofs.heads.head_of.Goals as goal

pub returns : goal.returns
returns c = λ n. record {
  base = search rules;
  sequence = search rules;
  links = search rules;
  directory = search rules;
  listed = c.has_list.ensures.has ∙ sym (list_any-map is_list (part_of n) (attributes (viewed_block c.args.view.now)));
}
