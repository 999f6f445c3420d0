use Rattle.std.proofs.Common.{ℕ, List, Option, sym, ap, subst, ◌∙◌, arith, true≢false}
use Rattle.std.specs.Prelude.{IfSome, not}
use Rattle.ntfs_def.specs.Node.{short_node}
use Rattle.ntfs_def.specs.declared.index.NodeForm.TheVariants.{Names}
use Rattle.index_tree.specs.Edit.{short_nodes}
use Rattle.index_tree.proofs.EditMemory.{apart_of, edits_after, is_some_of}
use Rattle.index_tree.proofs.OrderLaws.{is_order}
use Rattle.list_laws.proofs.OptionLaws.{ok-weaker}
use Rattle.tree_model.specs.LeafRoom.{leaf_of}
use Rattle.index_puts.specs.declared.leaf.Leaf.{Leaf}
use Rattle.index_puts.specs.Leaf.{EndsIn, ReadsLeaf}
use Rattle.index_takes.proofs.TakeSteps.{leaf-missing, takes-in, was-hit}
use Rattle.index_takes.proofs.take.take_in_leaf.Goals as goal

pub returns-in_default-clause-taken : goal.returns-in_default-clause-taken
returns-in_default-clause-taken g c =
    let order = g.C.Collation.order c.args.order.now in
    let side : List ℕ → _ = λ x. order x c.args.key.now in
    let root = short_node Names c.args.root.now in
    let block = c.find_leaf.new.block in
    record {
      back = λ r told. (r, sym c.in_ok-leaf.ensures.records ∙ told);
      on = λ r told.
          let reads = subst (λ (leaf : Option Leaf). ReadsLeaf r (leaf_of side (short_nodes Names r) root) leaf block)
          c.in_default.is (c.in_ok-leaf.ensures.leaf r told) in
          absurd (leaf-missing order c.args.key.now r root block reads (c.requires.entry r told));
    }

-- the search hit it, where the records are told
pub returns-then-not-leaf-clause-taken : goal.returns-then-not-leaf-clause-taken
returns-then-not-leaf-clause-taken g c =
    let order = g.C.Collation.order c.args.order.now in
    let side : List ℕ → _ = λ x. order x c.args.key.now in
    let root = short_node Names c.args.root.now in
    let block = c.find_leaf.new.block in
    let ends = subst (λ (leaf : Option Leaf). IfSome leaf (EndsIn order c.args.key.now block)) c.in-Some.is c.in_ok-leaf.ensures.ends in
    record {
      back = λ r told. (r, sym c.in_ok-leaf.ensures.records ∙ told);
      on = λ r told.
          let reads = subst (λ (leaf : Option Leaf). ReadsLeaf r (leaf_of side (short_nodes Names r) root) leaf block)
          c.in-Some.is (c.in_ok-leaf.ensures.leaf r told) in
          let hit = was-hit order c.args.key.now r root block c.in-Some.leaf reads ends (c.requires.entry r told) in
          absurd (true≢false (sym c.if-not-leaf.true ∙ ap not hit));
    }

pub write-requires-clause-there : goal.write-requires-clause-there
write-requires-clause-there g c = λ r told.
    let order = g.C.Collation.order c.args.order.now in
    let side : List ℕ → _ = λ x. order x c.args.key.now in
    let root = short_node Names c.args.root.now in
    let block = c.find_leaf.new.block in
    let reads = subst (λ (leaf : Option Leaf). ReadsLeaf r (leaf_of side (short_nodes Names r) root) leaf block)
    c.in-Some.is (c.in_ok-leaf.ensures.leaf r (sym c.in_ok-leaf.ensures.records ∙ told)) in
    is_some_of reads.bytes

pub write-requires-clause-opened : goal.write-requires-clause-opened
write-requires-clause-opened g c = λ r told.
    let order = g.C.Collation.order c.args.order.now in
    let side : List ℕ → _ = λ x. order x c.args.key.now in
    let root = short_node Names c.args.root.now in
    let block = c.find_leaf.new.block in
    let reads = subst (λ (leaf : Option Leaf). ReadsLeaf r (leaf_of side (short_nodes Names r) root) leaf block)
    c.in-Some.is (c.in_ok-leaf.ensures.leaf r (sym c.in_ok-leaf.ensures.records ∙ told)) in
    c.remove_at.ensures.ok.opened c.in-Some.leaf.vcn
    (g.met.B.WriteBlocks.opened_records c.find_leaf.new.blocks r told c.in-Some.leaf.vcn block reads.bytes)

pub write-requires-clause-apart : goal.write-requires-clause-apart
write-requires-clause-apart g c =
    let order = g.C.Collation.order c.args.order.now in
    let ends = subst (λ (leaf : Option Leaf). IfSome leaf (EndsIn order c.args.key.now c.find_leaf.new.block)) c.in-Some.is
    c.in_ok-leaf.ensures.ends in
    let n = c.remove_at.ensures.ok.node ends.place.said ends.place.is in
    apart_of Names c.remove_at.new.node (is_some_of n) (omega (arith, c.remove_at.ensures.ok.header.len, c.find_leaf.array_long))

pub returns-clause-taken : goal.returns-clause-taken
returns-clause-taken g c =
    let order = g.C.Collation.order c.args.order.now in
    let valid = g.C.Collation.valid c.args.order.now in
    let laws = is_order order (g.met.C.Collation.is_order c.args.order.now) in
    let key = c.args.key.now in
    let side : List ℕ → _ = λ x. order x key in
    let root = short_node Names c.args.root.now in
    let block = c.find_leaf.new.block in
    let leaf = c.in-Some.leaf in
    let ends = subst (λ (leaf : Option Leaf). IfSome leaf (EndsIn order key block)) c.in-Some.is c.in_ok-leaf.ensures.ends in
    ok-weaker c.write.result (λ done writes. record {
      back = λ r' told'. let e = edits_after writes r' told' in (e.0, sym c.in_ok-leaf.ensures.records ∙ e.1);
      on = λ r told.
          let w = writes.on r (c.in_ok-leaf.ensures.records ∙ told) in
          let reads = subst (λ (leaf : Option Leaf). ReadsLeaf r (leaf_of side (short_nodes Names r) root) leaf block)
          c.in-Some.is (c.in_ok-leaf.ensures.leaf r told) in (
            w.0,
            w.1,
            takes-in order key r root block leaf reads ends valid laws c.sealed_nodes.ensures.place c.sealed_nodes.ensures.short
                (c.requires.entry r told) c.remove_at.new.node c.remove_at.ensures.ok
                (omega (arith, c.remove_at.ensures.ok.header.len, c.find_leaf.array_long)) w.0 w.2,
          );
    }) c.write.ensures.done

pub returns-clause-edits : goal.returns-clause-edits
returns-clause-edits g c =
    g.met.B.WriteBlocks.edits_on c.args.blocks.now c.find_leaf.new.blocks c.write.new.self
    (g.met.B.WriteBlocks.edits_reads c.args.blocks.now c.find_leaf.new.blocks c.in_ok-leaf.ensures.only_reads) c.write.ensures.edits
