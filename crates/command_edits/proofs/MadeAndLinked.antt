-- `create`, `mkdir` and `ln`, and the commands that set a file: what the volume is and reads as behind them.
use Rattle.std.proofs.Common.{Bool, List, None, Option, Some, ap, arith, false, refl, subst, sym, true, ℕ, ◌&&◌, ◌==◌, ◌∙◌, ◌≡◌, ◌≢◌}
use Rattle.std.specs.Prelude.{unwrap_or}
use Rattle.list_laws.proofs.OptionLaws.{none_other}
use Rattle.ntfs_def.specs.FileName.{FileName}
use Rattle.ntfs_def.specs.declared.records.TheConstants.{ROOT}
use Rattle.volume_def.specs.FileNames.{is_dos}
use Rattle.volume_def.specs.Files.{records_of}
use Rattle.volume_def.specs.LinksClause.{MeetsLinks}
use Rattle.volume_def.specs.ReferencesClause.{MeetsReferences}
use Rattle.volume_def.specs.Sound as clauses
use Rattle.volume_def.specs.View.{VolumeView}
use Rattle.tree_model.specs.Effects.{add_link, changed, link_to, new_node, security_of, stamp, stamped, touch, tree_after}
use Rattle.tree_model.specs.Hidden.{is_hidden}
use Rattle.tree_model.specs.Reading.{link_for, node_at, read}
use Rattle.tree_model.specs.Subjects.{Located, Machine, NameIn}
use Rattle.tree_model.specs.declared.command.Command.TheVariants as c
use Rattle.tree_model.specs.declared.tree.Node.{Node}
use Rattle.tree_model.proofs.NamesLaws.{is_shown}
use Rattle.tree_model.proofs.ReadingLaws.{node_of-read}
use Rattle.edit_def.specs.Account.{Wants}
use Rattle.edit_def.specs.Marks.{Marks}
use Rattle.edit_def.specs.Names.{KeepsNames, Numbers, is_directory_by, is_directory_in, numbers_at}
use Rattle.edit_def.proofs.NamesLaws.{directories-comes, stand-of}
use Rattle.edit_def.proofs.NodeLaws.{no-file-none}
use Rattle.reading_edits.proofs.CommandLinks.{sound-linked, sound-made}
use Rattle.reading_edits.proofs.HiddenFiles.{hides-comes}
use Rattle.reading_edits.proofs.LinksAfter.{links-same}
use Rattle.reading_edits.proofs.NamesInTurn.{KeepsNames-then}
use Rattle.reading_edits.specs.Steps.{with_node}
use Rattle.reading_edits.proofs.EffectSteps.{node-changed, tree-create, tree-ln, tree-mkdir}
use Rattle.command_edits.specs.Between.{IsBetween, StandsAs}
use Rattle.command_edits.specs.Commands.{DoesLink, DoesMake, DoesSet}
use Rattle.command_edits.proofs.CallsRead.{read-adds, read-makes, read-sets}
use Rattle.command_edits.proofs.LinksBetween.{between-adds}
use Rattle.command_edits.proofs.NodesBetween.{between-makes, between-sets}
use Rattle.command_edits.proofs.SoundBetween.{between-bases, between-references, between-sound, sound-by}
use Rattle.command_edits.proofs.StageLaws.{Ended, Refreshed, ended, get-other, node-by, node-directory, not-extend, refreshed}
use Rattle.command_edits.proofs.StageLaws.{stamped-node, stamped-read}

-- the link of a new name, which is no DOS name
pub link-new : (f : ℕ) (name : FileName) → name.namespace ≡ 0 → link_for f name ≡ link_to f name.parent.number name.units
link-new f name plain = ap (λ s. record { parent = name.parent.number; name = name.units; space = s; child = f }) plain

pub plain-dos : (name : FileName) → name.namespace ≡ 0 → is_dos name ≡ false
plain-dos name plain = ap (λ n. n == 2) plain

-- CREATE AND MKDIR
module _ (m : Machine) (wants : Wants) (old new : VolumeView) (before after : Marks) (f : ℕ) (directory : Bool) (name : FileName)
    (stands : StandsAs old m.tree) (x : DoesMake m wants old new before after f directory name) where
  abbrev dir : ℕ
  dir = name.parent.number

  abbrev node : Node
  node = new_node directory m.now (security_of m.tree dir)

  between0 : IsBetween old
  between0 = between-sound old stands.sound

  between1 : IsBetween x.made.view
  between1 = between-makes x.making old x.made.view before x.made.marks f directory node x.makes between0

  -- the directory is another file, is one still, and is shown
  apart : dir ≢ f
  apart e =
      let never : None ≡ Some x.parent = sym (no-file-none old f x.makes.comes.none)
      ∙ subst (λ g. node_at old g ≡ Some x.parent) e x.inside.node_is in
      none_other never

  parent1 : is_directory_in (records_of x.made.view) name.parent ≡ true
  parent1 = directories-comes (records_of old) (records_of x.made.view) f _ x.makes.comes name.parent x.inside.directory

  shown1 : is_hidden (records_of x.made.view) dir ≡ false
  shown1 =
      hides-comes old x.made.view (between-bases old between0) x.makes.edited.volume.count f _ x.makes.comes dir
      ∙ (is_shown old dir x.parent x.inside.node_is).shown

  between2 : IsBetween x.named.view
  between2 =
      between-adds x.adding x.made.view x.named.view x.made.marks x.named.marks f name x.adds between1 parent1
      (not-extend x.made.view dir shown1)

  away : f ≢ ROOT
  away e = let l = x.makes.ordinary in absurd (omega (arith, e, l))

  read2 : read x.named.view ≡ add_link (link_for f name) (with_node f node (read old))
  read2 =
      read-adds x.adding x.made.view x.named.view x.made.marks x.named.marks f name x.adds between1 away
      (is_shown x.made.view f node x.makes.node_is).shown shown1
      ∙ ap (add_link (link_for f name)) (read-makes x.making old x.made.view before x.made.marks f directory node x.makes between0)

  parent2 : node_at x.named.view dir ≡ Some x.parent
  parent2 = node-by old x.named.view _ dir read2 (get-other (read old) f dir node apart) ∙ x.inside.node_is

  end : Ended m.now x.named.view new dir
  end = ended m.now x.named.view new x.named.marks after dir x.parent x.ends between2 parent2

  made-sound : (n : ℕ) → MeetsReferences (records_of new) n × MeetsLinks (records_of new) n
  made-sound =
      sound-made old new f (stands.sound clauses.References refl) (stands.sound clauses.Links refl) (between-bases new end.between) name
      (record {
        made = records_of x.made.view;
        named = records_of x.named.view;
        sequence = x.makes.sequence;
        directory = directory;
        comes = x.makes.comes;
        gets = x.adds.gets;
        kept = end.names;
      }) (plain-dos name x.inside.plain) x.inside.directory

  made-reads : read new ≡ touch m.now dir (add_link (link_to f dir name.units) (with_node f node m.tree))
  made-reads =
      end.reading
      ∙ ap (touch m.now dir) (read2 ∙ ap (λ l. add_link l (with_node f node (read old))) (link-new f name x.inside.plain)
      ∙ ap (λ t. add_link (link_to f dir name.units) (with_node f node t)) stands.reading)

  pub made : StandsAs new (touch m.now dir (add_link (link_to f dir name.units) (with_node f node m.tree)))
  made = record { sound = sound-by new end.between (λ n. (made-sound n).1); reading = made-reads }

module _ (m : Machine) (wants : Wants) (old new : VolumeView) (before after : Marks) (f : ℕ) (name : FileName)
    (stands : StandsAs old m.tree) (at : Located) (into : at.new ≡ NameIn name.parent.number name.units) (path : List (List ℕ)) where
  pub create : DoesMake m wants old new before after f false name → StandsAs new (tree_after m (c.Create path) at f)
  create x = subst (StandsAs new) (tree-create m at path f name.parent.number name.units into)
      (made m wants old new before after f false name stands x)

  pub mkdir : DoesMake m wants old new before after f true name → StandsAs new (tree_after m (c.Mkdir path) at f)
  mkdir x = subst (StandsAs new) (tree-mkdir m at path f name.parent.number name.units into)
      (made m wants old new before after f true name stands x)

-- LN
module _ (m : Machine) (wants : Wants) (old new : VolumeView) (before after : Marks) (f : ℕ) (name : FileName)
    (stands : StandsAs old m.tree) (x : DoesLink m wants old new before after f name) where
  abbrev into_dir : ℕ
  into_dir = name.parent.number

  link-between0 : IsBetween old
  link-between0 = between-sound old stands.sound

  link-inside : is_hidden (records_of old) into_dir ≡ false
  link-inside = (is_shown old into_dir x.parent x.inside.node_is).shown

  link-between1 : IsBetween x.named.view
  link-between1 =
      between-adds wants old x.named.view before x.named.marks f name x.adds link-between0 x.inside.directory
      (not-extend old into_dir link-inside)

  link-read1 : read x.named.view ≡ add_link (link_for f name) (read old)
  link-read1 =
      read-adds wants old x.named.view before x.named.marks f name x.adds link-between0 x.away (is_shown old f x.node x.there).shown
      link-inside

  link-node1 : (g : ℕ) → node_at x.named.view g ≡ node_at old g
  link-node1 g = node-by old x.named.view _ g link-read1 refl

  is-file : (numbers : Numbers) → numbers_at (records_of old) f ≡ Some numbers → numbers.directory ≡ false
  is-file numbers at = node-directory old f x.node numbers x.there at ∙ x.file

  -- the directory is another file
  link-apart : into_dir ≢ f
  link-apart e =
      let was = x.adds.gets.was in
      let d = subst (λ n. is_directory_by (numbers_at (records_of old) n) name.parent.sequence ≡ true) e x.inside.directory in
      let never : false ≡ true = sym (ap (λ b. b && (was.sequence == name.parent.sequence)) (is-file was x.adds.gets.was_at))
      ∙ sym (ap (λ o. is_directory_by o name.parent.sequence) x.adds.gets.was_at) ∙ d in
      cc

  link-end : Ended m.now x.set.view new into_dir
  link-end =
      ended m.now x.set.view new x.set.marks after into_dir x.parent x.ends
      (between-sets _ x.named.view x.set.view x.named.marks x.set.marks f _ _ None x.stamps link-between1)
      (stamped-node m.now x.named.view x.set.view x.named.marks x.set.marks f x.node x.stamps link-between1 (link-node1 f ∙ x.there)
      into_dir link-apart
      ∙ link-node1 into_dir ∙ x.inside.node_is)

  link-names : (g : ℕ) → KeepsNames (records_of x.named.view) (records_of new) g
  link-names g =
      KeepsNames-then (records_of x.named.view) (records_of x.set.view) (records_of new) g (x.stamps.names_kept g) (link-end.names g)

  link-sound : (n : ℕ) → MeetsReferences (records_of new) n × MeetsLinks (records_of new) n
  link-sound =
      sound-linked old new f (stands.sound clauses.References refl) (stands.sound clauses.Links refl) (between-bases new link-end.between)
      name (record { named = records_of x.named.view; gets = x.adds.gets; kept = link-names }) (plain-dos name x.inside.plain)
      x.inside.directory is-file

  link-reads : read new ≡ touch m.now into_dir (stamp m.now f (add_link (link_to f into_dir name.units) m.tree))
  link-reads =
      link-end.reading
      ∙ ap (touch m.now into_dir)
      (stamped-read m.now x.named.view x.set.view x.named.marks x.set.marks f x.node x.stamps link-between1 (link-node1 f ∙ x.there)
      ∙ ap (stamp m.now f) (link-read1 ∙ ap (λ l. add_link l (read old)) (link-new f name x.inside.plain)
      ∙ ap (add_link (link_to f into_dir name.units)) stands.reading))

  pub linked : StandsAs new (touch m.now into_dir (stamp m.now f (add_link (link_to f into_dir name.units) m.tree)))
  linked = record { sound = sound-by new link-end.between (λ n. (link-sound n).1); reading = link-reads }

pub ln : (m : Machine) (wants : Wants) (old new : VolumeView) (before after : Marks) (at : Located) (name : FileName)
    → StandsAs old m.tree → at.new ≡ NameIn name.parent.number name.units → (path target : List (List ℕ)) (file : ℕ)
    → DoesLink m wants old new before after at.file name → StandsAs new (tree_after m (c.Ln path target) at file)
ln m wants old new before after at name stands into path target file x =
    subst (StandsAs new) (tree-ln m at path target file name.parent.number name.units into)
    (linked m wants old new before after at.file name stands x)

-- SETATTR AND SETSEC
module _ (m : Machine) (wants : Wants) (old new : VolumeView) (before after : Marks) (f : ℕ) (flags security : Option ℕ)
    (stands : StandsAs old m.tree) (x : DoesSet m wants old new before after f flags security) where
  set-between0 : IsBetween old
  set-between0 = between-sound old stands.sound

  set-end : Refreshed x.set.view new
  set-end =
      refreshed x.entries x.set.view new x.set.marks after x.refreshes
      (between-sets wants old x.set.view before x.set.marks f _ _ security x.sets set-between0)

  set-links : (n : ℕ) → MeetsLinks (records_of new) n
  set-links =
      links-same old new (stands.sound clauses.References refl) (stands.sound clauses.Links refl)
      (stand-of (records_of new) (between-references new set-end.between))
      (λ g. KeepsNames-then (records_of old) (records_of x.set.view) (records_of new) g (x.sets.names_kept g) (set-end.names g))

  abbrev with_both : Node → Node
  with_both node = record node { flags = unwrap_or flags node.flags; security = unwrap_or security node.security }

  pub set : StandsAs new (changed f (λ node. stamped m.now (with_both node)) m.tree)
  set = record {
    sound = sound-by new set-end.between set-links;
    reading = set-end.reading
        ∙ read-sets wants old x.set.view before x.set.marks f (stamped m.now x.node).times (unwrap_or flags x.node.flags) security x.sets
        set-between0 x.node x.there
        ∙ node-changed (read old) f x.node (λ node. stamped m.now (with_both node)) (node_of-read old f ∙ x.there)
        ∙ ap (changed f (λ node. stamped m.now (with_both node))) stands.reading;
  }

module _ (m : Machine) (wants : Wants) (old new : VolumeView) (before after : Marks) (at : Located) (stands : StandsAs old m.tree)
    (path : List (List ℕ)) (file : ℕ) where
  pub setattr : (flags : ℕ) → DoesSet m wants old new before after at.file (Some flags) None
      → StandsAs new (tree_after m (c.Setattr path flags) at file)
  unfolding tree_after
  setattr flags x = set m wants old new before after at.file (Some flags) None stands x

  pub setsec : (id : ℕ) → DoesSet m wants old new before after at.file None (Some id)
      → StandsAs new (tree_after m (c.Setsec path id) at file)
  unfolding tree_after
  setsec id x = set m wants old new before after at.file None (Some id) stands x
