use Rattle.std.proofs.Common.{ℕ, List, length, sym, subst}
use Rattle.std.specs.Prelude.{IfOk, IsTrue}
use Rattle.mft_table.specs.Mft.{view}
use Rattle.stream_changes.specs.Below.{IsWritable, Writable}
use Rattle.tree_ops.specs.Edits.{IsFoundFor}
use Rattle.tree_ops.proofs.streams.find_stream.Goals as goal

pub returns-in-Write-clause-can : goal.returns-in-Write-clause-can
returns-in-Write-clause-can g c =
    let v = view g.D.Disk c.args.mft.now in
    subst (λ what. IfOk c.find_writable.result (λ (found : Writable). IsTrue v.told → IsFoundFor what v found c.args.name.now))
    (sym c.in-Write.is)
    (subst (λ (all : List ℕ). IfOk c.find_writable.result (λ (found : Writable). IsTrue v.told
    → IsWritable v found c.args.name.now c.in-Write.from (length all))) c.as_slice-len.ensures c.find_writable.ensures.can)

pub returns-in-Punch-clause-can : goal.returns-in-Punch-clause-can
returns-in-Punch-clause-can g c =
    let v = view g.D.Disk c.args.mft.now in
    subst (λ what. IfOk c.find_punchable.result (λ (found : Writable). IsTrue v.told → IsFoundFor what v found c.args.name.now))
    (sym c.in-Punch.is) c.find_punchable.ensures.can

pub returns-in-Resize-clause-can : goal.returns-in-Resize-clause-can
returns-in-Resize-clause-can g c =
    let v = view g.D.Disk c.args.mft.now in
    subst (λ what. IfOk c.find_to_resize.result (λ (found : Writable). IsTrue v.told → IsFoundFor what v found c.args.name.now))
    (sym c.in-Resize.is) c.find_to_resize.ensures.can

pub returns-in-Remove-clause-can : goal.returns-in-Remove-clause-can
returns-in-Remove-clause-can g c =
    let v = view g.D.Disk c.args.mft.now in
    subst (λ what. IfOk c.find_to_drop.result (λ (found : Writable). IsTrue v.told → IsFoundFor what v found c.args.name.now))
    (sym c.in-Remove.is) c.find_to_drop.ensures.can
