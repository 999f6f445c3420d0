use Rattle.std.proofs.Common.{◌≡◌, ◌≤◌, None, length, ap, sym, ◌∙◌}
use Rattle.std.proofs.lemmas.Bool.{ltb-false}
use Rattle.std.proofs.lemmas.Option.{slice_get_past}
use Rattle.std.specs.List.{slice_get}
use Rattle.list_laws.proofs.OptionLaws.{some_same, none_not_some}
use Rattle.index_tests.proofs.trees.StoredBlocks.read.Goals as goal

pub returns-in_default-clause-read : goal.returns-in_default-clause-read
returns-in_default-clause-read c = λ contents e.
    let blocks = c.args.self.now.blocks.now in
    let past : length blocks ≤ c.args.vcn = ltb-false c.args.vcn (length blocks) (sym c.in_default.ensures.lookup.0) in
    let none : slice_get blocks c.args.vcn ≡ None = slice_get_past blocks c.args.vcn past in
    absurd (none_not_some (contents c.args.vcn) (sym (ap (λ f. f c.args.vcn) (some_same e)) ∙ none) (c.requires.there contents e))
