use Rattle.std.proofs.Common.{◌≡◌, drop}
use Rattle.ntfs_def.specs.declared.records.TheConstants.{ROOT}
use Rattle.tree_model.specs.Paths.{last_place}
use Rattle.plain_tree.specs.Plain.{tree_of}
use Rattle.plain_tree.proofs.tree.PlainTree.last_place.Given as goal

abbrev pub invariant-names : goal.invariant-names
invariant-names l =
    last_place (tree_of l.self) ROOT l.fn.first l.fn.rest ≡ last_place (tree_of l.self) l.dir l.name (drop l.next-index l.rest)
