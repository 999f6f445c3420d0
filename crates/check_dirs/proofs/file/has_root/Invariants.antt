use Rattle.std.proofs.Common.{◌≡◌}
use Rattle.std.specs.Prelude.{filter}
use Rattle.ntfs_def.specs.declared.kinds.TheConstants.{INDEX_ROOT}
use Rattle.file_record.specs.Held.{attributes_held}
use Rattle.file_record.specs.Left.{attributes_left}
use Rattle.attr_store.proofs.FirstLaws.{of_name}
use Rattle.check_dirs.proofs.file.has_root.Given as goal

-- those that were passed over are no root of the name
abbrev pub invariant-loop-attribute : goal.invariant-loop-attribute
invariant-loop-attribute l =
    filter (of_name INDEX_ROOT l.name) (attributes_left l.attribute-iterator) ≡ filter (of_name INDEX_ROOT l.name) (attributes_held l.file)
