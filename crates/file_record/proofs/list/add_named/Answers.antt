use Rattle.std.proofs.Common.{◌++◌, map, refl, sym, ap, ◌∙◌, append-nil}
use Rattle.ntfs_def.specs.Record.{Reference}
use Rattle.file_record.specs.Numbers.{named_in}
use Rattle.file_record.proofs.NamedLaws.{named-few}
use Rattle.file_record.proofs.list.add_named.Goals as goal

pub returns-clause-added : goal.returns-clause-added
returns-clause-added c =
    let items = c.loop-holder.numbers.items in
    record {
      named = named_in c.args.value.now;
      added = sym (append-nil items)
          ∙ sym (ap (λ holders. items ++ map (λ (holder : Reference). holder.number) holders) c.in-None.ensures.steps.0)
          ∙ c.loop-holder.invariant;
      few = named-few c.args.value.now c.in-Ok.ensures.shape;
      all = λ shape. refl;
    }
