-- Entries by themselves.
use Rattle.std.proofs.Common.{◌%◌, Bool, List, length, rules, subst, sym, ℕ}
use Rattle.std.specs.Prelude.{IsTrue}
use Rattle.ntfs_def.specs.Node.{IsOwnEntry, IsWholeEntry, entry_flags, is_one_entry}
use Rattle.ntfs_def.specs.declared.index.NodeForm.{NodeForm}
use Rattle.index_node.proofs.NodeLaws.{entry_whole, flag_is}

-- what is one entry is whole
pub own_whole : (form : NodeForm) (children : Bool) (entry : List ℕ) → IsTrue (is_one_entry form children entry)
    → IsWholeEntry entry children (length entry) 0
own_whole form children entry own = entry_whole form entry children (length entry) 0 (search rules)

-- it says itself whether it has a child
pub one_own : (form : NodeForm) (children : Bool) (entry : List ℕ) → IsTrue (is_one_entry form children entry) → IsOwnEntry form entry
one_own form children entry own =
    let w = own_whole form children entry own in
    subst (λ b. IsTrue (is_one_entry form b entry)) (sym (flag_is children (entry_flags entry 0 % 2) w.flag)) own
