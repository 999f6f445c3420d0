use Rattle.std.proofs.Common.{List, ℕ, true, refl, sym, ◌∙◌, subst}
use Rattle.std.specs.Prelude.{IsTrue}
use Rattle.ntfs_def.specs.Node.{is_last_entry, is_one_last, node_header}
use Rattle.index_tests.proofs.nodes.root_laid_out.Goals as goal

pub lay_out-requires-clause-header : goal.lay_out-requires-clause-header
unfolding node_header
lay_out-requires-clause-header g c = refl

pub lay_out-requires-clause-entries : goal.lay_out-requires-clause-entries
unfolding is_last_entry
lay_out-requires-clause-entries g c =
    subst (λ (bytes : List ℕ). IsTrue (is_one_last true bytes)) (sym (c.from_vec.ensures ∙ c.in_ok-from_slice.ensures.items)) refl
