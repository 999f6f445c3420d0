use Rattle.std.proofs.Common.{ap, is_some, ◌∙◌}
use Rattle.mft_table.specs.Mft.{mounted_of, view}
use Rattle.tree_read.proofs.HeldDirectory.{is-held}
use Rattle.tree_read.specs.Nodes.{number_of}
use Rattle.name_places.proofs.PlaceLaws.{sought-there}
use Rattle.name_places.proofs.place.is_there.Goals as goal

pub lookup_in-requires : goal.lookup_in-requires
lookup_in-requires g c = record {
  held = λ told.
      let directory = c.requires.directory told in
      is-held (view g.D.Disk c.args.mft.now) (mounted_of g.D.Disk c.args.mft.now) c.args.dir.now.parts (c.requires.volume told)
      directory.is_shown.directory directory.held.parts;
}

pub returns : goal.returns
returns g c = record {
  reads = c.in_ok-found.ensures.reads.0;
  only = c.in_ok-found.ensures.reads.1;
  counts = c.in_ok-found.ensures.faults;
  is = λ told.
      c.is_some.ensures ∙ ap is_some (c.in_ok-found.ensures.found told)
      ∙ sought-there (view g.D.Disk c.args.mft.now) (number_of c.args.dir.now) c.args.name.now;
}
