-- The number of a file that comes is a fresh one of the machine.
use Rattle.std.proofs.Common.{Bool, ap, false, filter, sym, ℕ, ◌∙◌, ◌≡◌}
use Rattle.std.specs.Prelude.{is_some}
use Rattle.std.proofs.lemmas.Bool.{ne_eqb}
use Rattle.list_laws.proofs.MemberLaws.{All-from_Contains, Contains-from_filter}
use Rattle.list_laws.proofs.OptionLaws.{none_other}
use Rattle.list_laws.proofs.OrderedLaws.{Contains-from_in_order}
use Rattle.volume_def.specs.Files.{record_on}
use Rattle.volume_def.specs.View.{VolumeView}
use Rattle.tree_model.specs.Facts.{TellsFacts}
use Rattle.tree_model.specs.Reading.{all_links, is_hidden_link, read}
use Rattle.tree_model.specs.Refusals.{Facts}
use Rattle.tree_model.specs.Step.{IsFresh}
use Rattle.tree_model.specs.Tree.{leads_to, link_above}
use Rattle.tree_model.specs.declared.tree.Link.{Link}
use Rattle.tree_model.specs.declared.tree.Node.{Node}
use Rattle.tree_model.proofs.NamesLaws.{link-base}
use Rattle.tree_model.proofs.ReadingLaws.{node_of-read}
use Rattle.edit_def.specs.Account.{Wants}
use Rattle.edit_def.specs.Marks.{Marks}
use Rattle.edit_def.proofs.NodeLaws.{no-file-none}
use Rattle.command_edits.specs.Calls.{MakesNode}

pub fresh-number : (facts : Facts) (wants : Wants) (old new : VolumeView) (before after : Marks) (f : ℕ) (directory : Bool) (node : Node)
    → TellsFacts old facts → MakesNode wants old new before after f directory node → IsFresh facts (read old) f
unfolding read
fresh-number facts wants old new before after f directory node told call = record {
  ordinary = call.ordinary;
  no_node = node_of-read old f ∙ no-file-none old f call.comes.none;
  no_child = All-from_Contains (λ (link : Link). leads_to f link ≡ false) (read old).hidden (λ link there.
      let o = Contains-from_in_order (link_above (read old).fold) (filter (is_hidden_link old) (all_links old)) link there in
      let w = link-base old link (Contains-from_filter (is_hidden_link old) (all_links old) link o).0 in
      ne_eqb link.child f (λ e. none_other (sym call.unused ∙ ap (record_on old) (sym e) ∙ w.1)));
  free = told.in_use f ∙ ap is_some call.unused;
}
