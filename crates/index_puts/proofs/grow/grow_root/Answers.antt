use Rattle.std.proofs.Common.{◌≡◌, ◌≤◌, ◌++◌, false, length, take, drop, get_or, ap, sym, subst, ◌∙◌, arith}
use Rattle.std.proofs.Math.Seq.{take-append_seam}
use Rattle.std.proofs.lemmas.List.{get_or_append_left, length-append}
use Rattle.std.specs.Prelude.{IsTrue}
use Rattle.ntfs_def.specs.declared.index.NodeForm.TheVariants.{Names}
use Rattle.index_node.specs.Edit.{IsLonger}
use Rattle.index_puts.specs.PutsRoot.{GrowsRoot}
use Rattle.index_node.proofs.CrowdLaws.{most_most}
use Rattle.index_node.proofs.FoundLaws.{has_at}
use Rattle.index_node.proofs.LenLaws.{node_enough}
use Rattle.ntfs_def.specs.Node.{is_one_entry, most_len}
use Rattle.index_puts.proofs.grow.grow_root.Goals as goal

pub put_wide-requires-clause-long : goal.put_wide-requires-clause-long
put_wide-requires-clause-long c =
    let old = c.args.root.now.items in
    let s = has_at Names old c.args.place c.requires.place in
    let is = c.as_mut_slice.ensures.value ∙ c.in_ok-extend_from_slice.ensures.items in
    let n = ap length is ∙ length-append old c.args.entry.now in
    let e = node_enough Names old c.args.place s.at s.behind s.end s.span in
    omega (arith, n, e)

pub put_wide-requires-clause-short : goal.put_wide-requires-clause-short
put_wide-requires-clause-short c =
    let old = c.args.root.now.items in
    let is = c.as_mut_slice.ensures.value ∙ c.in_ok-extend_from_slice.ensures.items in
    let n = ap length is ∙ length-append old c.args.entry.now in
    let m = most_most false in
    omega (arith, n, m, c.requires.short, c.requires.entry.short)

pub put_wide-requires-clause-was : goal.put_wide-requires-clause-was
put_wide-requires-clause-was c =
    let old = c.args.root.now.items in
    let s = has_at Names old c.args.place c.requires.place in
    let is = c.as_mut_slice.ensures.value ∙ c.in_ok-extend_from_slice.ensures.items in
    let n = ap length is ∙ length-append old c.args.entry.now in
    record {
      old = old;
      longer = record {
        at = s.at;
        behind = s.behind;
        fin = s.end;
        span = s.span;
        one = subst (λ b. IsTrue (is_one_entry Names b c.args.entry.now)) (sym c.requires.leaf) c.requires.entry.one;
        fits = subst (λ b. length c.args.entry.now ≤ most_len b) (sym c.requires.leaf) c.requires.entry.short;
        enough = node_enough Names old c.args.place s.at s.behind s.end s.span;
        long = n;
        same = λ k lt. ap (λ xs. get_or xs k 0) is ∙ get_or_append_left old c.args.entry.now 0 k lt;
      };
    }

pub returns : goal.returns
returns c =
    let old = c.args.root.now.items in
    let s = has_at Names old c.args.place c.requires.place in
    let is = c.as_mut_slice.ensures.value ∙ c.in_ok-extend_from_slice.ensures.items in
    let n = ap length is ∙ length-append old c.args.entry.now in
    let longer : IsLonger Names c.as_mut_slice.result.now old c.args.place c.args.entry.now = record {
      at = s.at;
      behind = s.behind;
      fin = s.end;
      span = s.span;
      one = subst (λ b. IsTrue (is_one_entry Names b c.args.entry.now)) (sym c.requires.leaf) c.requires.entry.one;
      fits = subst (λ b. length c.args.entry.now ≤ most_len b) (sym c.requires.leaf) c.requires.entry.short;
      enough = node_enough Names old c.args.place s.at s.behind s.end s.span;
      long = n;
      same = λ k lt. ap (λ xs. get_or xs k 0) is ∙ get_or_append_left old c.args.entry.now 0 k lt;
    } in
    let new = c.put_wide.new.root in
    let rest = drop (length new) c.extend_from_slice.new.self.items in
    let a : c.extend_from_slice.new.self.len ≡ length new = omega (
      arith,
      c.in_ok-extend_from_slice.ensures.len,
      n,
      c.put_wide.ensures.len,
    ) in
    let all = ap (λ k. take k (new ++ rest)) a ∙ take-append_seam new rest in
    subst (λ bytes. GrowsRoot old bytes c.args.place c.args.entry.now) (sym all)
    (record {
      short = c.put_wide.ensures.ok old longer;
      long = c.put_wide.ensures.len ∙ n;
      head = λ k lt. c.put_wide.ensures.head k lt ∙ longer.same k (omega (arith, lt, longer.enough));
    })
