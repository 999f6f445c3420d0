use Rattle.std.proofs.Common.{◌&&◌, sym}
use Rattle.std.specs.Prelude.{IsSome}
use Rattle.std.proofs.lemmas.List.Elements.{All-contains}
use Rattle.list_laws.proofs.FindLaws.{find-found}
use Rattle.mft_table.specs.Mft.{view}
use Rattle.tree_model.specs.Opens.{contains, is_handle, to_read}
use Rattle.tree_model.specs.Reading.{read}
use Rattle.tree_model.specs.Tree.{node_of}
use Rattle.tree_model.specs.declared.opens.OpenEntry.{OpenEntry}
use Rattle.tree_ops.proofs.handles.hread.Goals as goal

pub read_through-requires-clause-file : goal.read_through-requires-clause-file
read_through-requires-clause-file g c = λ told.
    All-contains (λ (entry : OpenEntry). IsSome (node_of (read (view g.D.Disk c.args.mft.now)) entry.file)) c.args.opens.now
    c.in-Some.entry.now (c.requires.files told)
    (find-found (λ (entry : OpenEntry). is_handle c.args.session c.args.handle entry && contains entry.access to_read) c.args.opens.now
    c.in-Some.entry.now (sym c.in-Some.ensures)).0
