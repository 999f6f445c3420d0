use Rattle.std.proofs.Common.{◌≡◌, ◌++◌, map}
use Rattle.attr_list.specs.Left.{holders_left}
use Rattle.file_record.specs.Numbers.{named_in}
use Rattle.file_record.proofs.list.add_named.Given as goal

abbrev pub invariant-loop-holder : goal.invariant-loop-holder
invariant-loop-holder l =
    l.numbers.items ++ map (λ holder. holder.number) (holders_left l.holder-iterator) ≡ l.fn.numbers.items ++ named_in l.value
