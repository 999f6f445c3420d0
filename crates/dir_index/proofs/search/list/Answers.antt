use Rattle.std.proofs.Common.{◌≡◌, ◌+◌, ap, ◌∙◌, subst, arith}
use Rattle.std.specs.Prelude.{IsTrue}
use Rattle.volume_def.specs.View.{VolumeView}
use Rattle.list_laws.proofs.OptionLaws.{ok-weaker}
use Rattle.index_store.specs.Mft.{view}
use Rattle.index_store.proofs.StreamReads.{MftReads-then}
use Rattle.tree_model.specs.Reading.{directory_links}
use Rattle.index_store.specs.Held.{file_number}
use Rattle.index_store.proofs.ReadLaws.{view-kept}
use Rattle.dir_index.proofs.HeldDirectory.{is-loaded}
use Rattle.dir_index.proofs.search.list.Goals as goal

pub list_in-requires : goal.list_in-requires
list_in-requires g c = record {
  held = is-loaded g.D.Disk c.args.mft.now c.load.new.mft _ c.args.dir c.in_ok-file.file c.load.ensures.reads c.requires.directory
      c.in_ok-file.ensures.number c.in_ok-file.ensures.parts;
}

pub returns-clause-links : goal.returns-clause-links
returns-clause-links g c =
    let volume = view g.D.Disk c.args.mft.now in
    let kept = view-kept g.D.Disk c.args.mft.now c.load.new.mft _ c.load.ensures.reads in
    let file = c.in_ok-file.file in
    ok-weaker c.list_in.result (λ links is told.
    subst (λ (v : VolumeView). IsTrue v.told → links.items ≡ directory_links v (file_number file)) kept is told
    ∙ ap (directory_links volume) c.in_ok-file.ensures.number)
    c.list_in.ensures.links

pub returns-clause-reads : goal.returns-clause-reads
returns-clause-reads g c = (
  20678 + c.list_in.ensures.reads.0,
  MftReads-then g.D.Disk c.args.mft.now c.load.new.mft c.list_in.new.mft _ _ _ c.load.ensures.reads c.list_in.ensures.reads.1 (omega arith),
)
