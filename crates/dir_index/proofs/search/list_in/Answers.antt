use Rattle.std.proofs.Common.{sym, ap, subst, ◌∙◌}
use Rattle.index_store.specs.MountedType.{Mounted}
use Rattle.index_store.specs.Mft.{view}
use Rattle.dir_index.specs.Held.{IsHeldDirectory}
use Rattle.dir_index.proofs.search.list_in.Goals as goal

pub list_links-requires : goal.list_links-requires
list_links-requires g c = record {
  held = λ told.
      subst (IsHeldDirectory (view g.D.Disk c.args.mft.now) c.args.dir.now)
      (sym (c.in_ok-upcase.ensures.table ∙ ap (λ (m : Mounted). m.upcase) c.mounted.ensures)) (c.requires.held told);
}
