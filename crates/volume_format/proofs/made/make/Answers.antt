use Rattle.std.proofs.Common.{subst}
use Rattle.volume_format.specs.Made.{IsTable}
use Rattle.volume_format.proofs.made.make.Goals as goal

pub returns-clause-made : goal.returns-clause-made
returns-clause-made c = record {
  boot_len = c.new_boot_sector-boot.ensures.elsewhere.len;
  geometry = c.new_boot_sector-boot.ensures.geometry;
  clause = c.new_boot_sector-boot.ensures.clause;
  is_table = subst (λ p. IsTable p c.in_ok-table.table.items) c.in_ok-places.ensures c.in_ok-table.ensures;
  is_root = c.in_ok-fill_root_node.ensures.root;
}
