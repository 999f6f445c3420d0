use Rattle.std.proofs.Common.{ℕ, List, Some, None, subst, sym}
use Rattle.ntfs_def.specs.KeyOrder.{fold_of}
use Rattle.dir_index.specs.Sought.{CanSeek, SeekCosts, Seeks, exact_order, folded_order}
use Rattle.dir_index.proofs.HeldIndex.{can_seek_both, costs_exact, costs_folded, finds_exact, finds_folded}
use Rattle.dir_index.proofs.laws.directory_search_laws.Goals as goal

pub returns : goal.returns
returns c = record {
  can_seek = λ view dir table root records name held.
      subst (λ (t : List ℕ). CanSeek (exact_order (fold_of t) name) records root × CanSeek (folded_order (fold_of t) name) records root)
      (sym held.case) (can_seek_both view dir table root records held held.directory name);
  exact = λ view dir table root records name held entry seeks.
      finds_exact view dir table root records held held.directory name entry
      (subst (λ (t : List ℕ). Seeks (exact_order (fold_of t) name) records root (Some entry)) held.case seeks);
  folded = λ view dir table root records name held found none seeks.
      finds_folded view dir table root records held held.directory name found
      (subst (λ (t : List ℕ). Seeks (exact_order (fold_of t) name) records root None) held.case none)
      (subst (λ (t : List ℕ). Seeks (folded_order (fold_of t) name) records root found) held.case seeks);
  costs = λ view dir table root records name held has most before after. (
    λ costs. costs_exact view dir table root records held has name most before after
        (subst (λ (t : List ℕ). SeekCosts most (exact_order (fold_of t) name) records root before after) held.case costs),
    λ costs. costs_folded view dir table root records held has name most before after
        (subst (λ (t : List ℕ). SeekCosts most (folded_order (fold_of t) name) records root before after) held.case costs),
  );
}
