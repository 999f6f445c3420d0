use Rattle.std.proofs.Common.{◌≡◌, ◌+◌, ◌<◌, [], ◌∷◌, ◌++◌, length, take, get_or, ap, sym, subst, ◌∙◌, add-one, arith}
use Rattle.std.proofs.Math.Seq.{take-suc}
use Rattle.std.proofs.lemmas.List.Sums.{sum_by_more}
use Rattle.index_node.specs.LayOut.{HoldsPieces}
use Rattle.index_node.proofs.LayOutLaws.{HoldsPieces-more, HoldsPieces-same}
use Rattle.index_node.proofs.written.put_entries.Goals as goal

pub loop-entry-preserved : goal.loop-entry-preserved
loop-entry-preserved c =
    let all = c.args.entries.now in
    let i = c.loop-entry.entry-index in
    let old = c.loop-entry.node in
    let new = c.put_entry.new.node in
    let entry = c.entry-item.result in
    let within : i < length all = omega arith in
    let more = sum_by_more length all i entry within in
    let is : get_or all i entry ≡ entry = sym c.entry-item.is in
    let size = ap length is in
    let written : HoldsPieces new c.loop-entry.at (entry ∷ []) = subst (λ bytes. HoldsPieces new c.loop-entry.at
    (bytes ∷ [])) c.as_slice.ensures c.put_entry.ensures.holds in
    let rest = c.put_entry.ensures.rest in
    let before = c.loop-entry.invariant.rest in
    let len = ap length c.as_slice.ensures in
    let len_again = ap length c.as_slice-in-loop-entry.ensures in
    let all_more : take (i + 1) all ≡ take i all ++ entry ∷ [] =
    ap (λ n. take n all) (add-one i) ∙ take-suc all i entry within ∙ ap (λ x. take i all ++ (x ∷ [])) is in
    record {
      at = omega (arith, more, size, len_again, c.loop-entry.invariant.at);
      holds = subst (HoldsPieces new c.args.first) (sym all_more)
          (HoldsPieces-more new c.args.first c.loop-entry.at (take i all) entry c.loop-entry.invariant.at
          (HoldsPieces-same old new c.args.first (take i all) rest.len (λ k from to. rest.below k (omega
          (arith, to, c.loop-entry.invariant.at))) c.loop-entry.invariant.holds)
          written);
      rest = record {
        len = rest.len ∙ before.len;
        below = λ k lt. rest.below k (omega (arith, lt, c.loop-entry.invariant.at)) ∙ before.below k lt;
        above = λ k le. rest.above k (omega (arith, le, more, size, len, c.loop-entry.invariant.at))
            ∙ before.above k (omega (arith, le, more));
      };
    }
