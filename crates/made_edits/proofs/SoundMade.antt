-- THE VOLUME IS SOUND behind the two calls, reads as the machine's tree, and attributes of the directory can be set.
use Rattle.std.proofs.Common.{◌≡◌, ◌≢◌, ℕ, Bool, true, false, List, length, Some, refl, ap, subst, ◌∙◌, arith}
use Rattle.std.specs.List.{Contains}
use Rattle.ntfs_def.specs.FileName.{FileName}
use Rattle.ntfs_def.specs.declared.records.TheConstants.{ROOT}
use Rattle.volume_def.specs.FileNames.{names_of}
use Rattle.volume_def.specs.Files.{records_of}
use Rattle.volume_def.specs.LinksClause.{MeetsLinks}
use Rattle.volume_def.specs.ReferencesClause.{MeetsReferences}
use Rattle.volume_def.specs.Sound.{IsSound}
use Rattle.volume_def.specs.Sound as clauses
use Rattle.volume_def.specs.View.{VolumeView}
use Rattle.mft_table.specs.declared.mounted.Mounted.{Mounted}
use Rattle.mft_table.specs.HeldTables.{AreStored}
use Rattle.tree_model.specs.Effects.{add_link, link_to, new_node}
use Rattle.tree_model.specs.Hidden.{is_hidden}
use Rattle.tree_model.specs.Reading.{link_for, node_at, read}
use Rattle.tree_model.specs.declared.tree.Node.{Node}
use Rattle.tree_model.proofs.NamesLaws.{is_shown}
use Rattle.edit_def.specs.Marks.{AreRight, Marks}
use Rattle.edit_def.specs.Names.{is_directory_in}
use Rattle.edit_def.proofs.NamesLaws.{directories-comes}
use Rattle.root_puts.proofs.CommandLinks.{sound-made}
use Rattle.root_puts.proofs.HiddenFiles.{hides-comes}
use Rattle.root_puts.proofs.NamesInTurn.{KeepsNames-same}
use Rattle.root_puts.specs.Steps.{with_node}
use Rattle.root_puts.specs.Marks.{marks_of}
use Rattle.root_puts.specs.Between.{IsBetween}
use Rattle.root_puts.specs.Calls.{AddsLink, IsNewStandard, MakesNode}
use Rattle.root_puts.proofs.CallsRead.{read-adds, read-makes}
use Rattle.root_puts.proofs.LinksBetween.{between-adds}
use Rattle.root_puts.proofs.MadeAndLinked.{link-new, plain-dos}
use Rattle.root_puts.proofs.NodesBetween.{between-makes}
use Rattle.root_puts.proofs.SoundBetween.{between-bases, between-sound, sound-by, sound-stored, sound-whole}
use Rattle.root_puts.proofs.StageLaws.{get-other, node-by, not-extend}
use Rattle.made_edits.specs.Comes.{CanMake, ComesUnder, IsNewKey}
use Rattle.made_edits.specs.Made.{IsMade, new_name}
use Rattle.made_edits.specs.Wants.{making_wants, naming_wants}
use Rattle.made_edits.proofs.MadeCalls as calls
use Rattle.made_edits.proofs.ReadyLaws.{apart-ready}
use Rattle.made_edits.proofs.ShownDirectory.{directory-reference}
use Rattle.made_edits.proofs.StoredAfter as after_all

module _ (old new : VolumeView) (was now : Mounted) (dir n : ℕ) (node : Node) (units standard key : List ℕ) (moment security : ℕ)
    (directory : Bool) (can : CanMake old dir node units) (right : AreRight old (marks_of was))
    (is_key : IsNewKey old directory dir units moment key)
    (is_standard : IsNewStandard directory moment security standard) (long : length standard ≡ 72)
    (u : ComesUnder directory old new was now n dir standard key) where
  abbrev before : Marks
  before = marks_of was

  abbrev after : Marks
  after = marks_of now

  abbrev mid : VolumeView
  mid = u.comes.bodied

  abbrev made_node : Node
  made_node = new_node directory moment security

  abbrev name : FileName
  name = new_name old dir units

  makes : MakesNode (making_wants directory n) old mid before after n directory made_node
  makes = calls.makes old new was now dir n node units standard key moment security directory can right is_key is_standard long u

  adds : AddsLink (naming_wants n) mid new after after n name
  adds = calls.adds old new was now dir n node units standard key moment security directory can right is_key is_standard long u

  -- BETWEEN CALLS
  between0 : IsBetween old
  between0 = between-sound old (sound-whole old can.parent.sound)

  between1 : IsBetween mid
  between1 = between-makes (making_wants directory n) old mid before after n directory made_node makes between0

  parent0 : is_directory_in (records_of old) name.parent ≡ true
  parent0 = directory-reference old dir node can.parent.there can.directory

  parent1 : is_directory_in (records_of mid) name.parent ≡ true
  parent1 = directories-comes (records_of old) (records_of mid) n _ makes.comes name.parent parent0

  shown1 : is_hidden (records_of mid) dir ≡ false
  shown1 =
      hides-comes old mid (between-bases old between0) makes.edited.volume.count n _ makes.comes dir
      ∙ (is_shown old dir node can.parent.there).shown

  between2 : IsBetween new
  between2 = between-adds (naming_wants n) mid new after after n name adds between1 parent1 (not-extend mid dir shown1)

  -- THE READING
  away : n ≢ ROOT
  away e = let l = makes.ordinary in absurd (omega (arith, e, l))

  pub reads : read new ≡ add_link (link_to n dir units) (with_node n made_node (read old))
  reads =
      read-adds (naming_wants n) mid new after after n name adds between1 away (is_shown mid n made_node makes.node_is).shown shown1
      ∙ ap (add_link (link_for n name)) (read-makes (making_wants directory n) old mid before after n directory made_node makes between0)
      ∙ ap (λ l. add_link l (with_node n made_node (read old))) (link-new n name refl)

  -- THE CLAUSES
  clauses-made : (k : ℕ) → MeetsReferences (records_of new) k × MeetsLinks (records_of new) k
  clauses-made =
      sound-made old new n (can.parent.sound clauses.References) (can.parent.sound clauses.Links) (between-bases new between2) name
      (record {
        made = records_of mid;
        named = records_of new;
        sequence = makes.sequence;
        directory = directory;
        comes = makes.comes;
        gets = adds.gets;
        kept = KeepsNames-same (records_of new);
      }) (plain-dos name refl) parent0

  module _ (stored : AreStored old was.clusters was.records was.upcase) where
    pub sound : IsSound new
    sound = sound-stored new (sound-by new between2 (λ k. (clauses-made k).1))
        (after_all.bits-now old new was now dir n node units standard key moment security directory can right is_key is_standard long u
        stored)

    -- THE DIRECTORY
    other : dir ≢ n
    other = (calls.file old new was now dir n node units standard key moment security directory can right is_key is_standard long u).other

    there : node_at new dir ≡ Some node
    there = node-by old new _ dir reads (get-other (read old) n dir made_node other) ∙ can.parent.there

    names-dir : names_of (records_of new) dir ≡ names_of (records_of old) dir
    names-dir =
        after_all.names-left old new was now dir n node units standard key moment security directory can right is_key is_standard long u
        dir other

    pub made : IsMade directory old new was now n dir node units moment security
    made =
        let ready = calls.ready-new old new was now dir n node units standard key moment security directory can right is_key is_standard
        long u in
        record {
          calls = calls.made-calls old new was now dir n node units standard key moment security directory can right is_key is_standard
              long u;
          sound = sound;
          right = ready.editable.right;
          can = record {
            sound = sound;
            apart = apart-ready new after ready;
            there = there;
            other = can.parent.other;
            elsewhere = λ name c. can.parent.elsewhere name (subst (λ xs. Contains xs name) names-dir c);
          };
          reads = reads;
          stored = after_all.stored-now old new was now dir n node units standard key moment security directory can right is_key
              is_standard long u
              stored;
          leaves = after_all.left old new was now dir n node units standard key moment security directory can right is_key is_standard long
              u;
        }
