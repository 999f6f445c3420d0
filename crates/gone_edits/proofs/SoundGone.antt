-- THE VOLUME IS SOUND behind the calls, reads as the machine's tree, and attributes of the directory can be set.
use Rattle.std.proofs.Common.{◌≡◌, ℕ, true, false, List, [], ◌∷◌, Some, cond, length, map, sym, ap, subst, inl, inr, ◌∙◌, arith}
use Rattle.std.specs.List.{Contains}
use Rattle.std.proofs.lemmas.Bool.{cases_Bool}
use Rattle.std.proofs.lemmas.List.Sums.{count_by-le-length}
use Rattle.list_laws.proofs.MemberLaws.{Contains-only}
use Rattle.ntfs_def.specs.FileName.{FileName}
use Rattle.volume_def.specs.FileNames.{is_not_dos, names_of}
use Rattle.volume_def.specs.Files.{records_of}
use Rattle.volume_def.specs.IndexesClause.{IsDirectoryIndex}
use Rattle.volume_def.specs.LinksClause.{MeetsLinks}
use Rattle.volume_def.specs.ReferencesClause.{MeetsReferences}
use Rattle.volume_def.specs.Sound.{IsSound}
use Rattle.volume_def.specs.Sound as clauses
use Rattle.volume_def.specs.View.{VolumeView}
use Rattle.mft_table.specs.declared.mounted.Mounted.{Mounted}
use Rattle.mft_table.specs.HeldTables.{AreStored}
use Rattle.tree_model.specs.Drops.{is_last_name}
use Rattle.tree_model.specs.Effects.{drop_link, leave_file, stamp}
use Rattle.tree_model.specs.Hidden.{is_hidden}
use Rattle.tree_model.specs.Reading.{link_for, node_at, read}
use Rattle.tree_model.specs.Tree.{Tree}
use Rattle.tree_model.specs.declared.tree.Link.{Link}
use Rattle.tree_model.specs.declared.tree.Node.{Node}
use Rattle.tree_model.proofs.NamesLaws.{is_shown}
use Rattle.edit_def.specs.Account.{nothing}
use Rattle.edit_def.specs.Marks.{AreRight, Marks}
use Rattle.edit_def.specs.Names.{LosesNames, gone_names, numbers_in}
use Rattle.record_calls.specs.Edits.{record_there}
use Rattle.record_calls.specs.Marks.{marks_of}
use Rattle.name_edits.specs.Dropped.{AreDropped}
use Rattle.name_edits.proofs.CommandLinks.{sound-removed}
use Rattle.name_edits.proofs.NamesInTurn.{KeepsNames-same, no-names-lost}
use Rattle.name_edits.proofs.TreeNames.{shown-dropped, shown-other}
use Rattle.reading_edits.specs.Steps.{without_link, without_node}
use Rattle.reading_edits.proofs.EffectSteps.{links-dropped}
use Rattle.command_edits.specs.Between.{IsBetween}
use Rattle.command_edits.specs.Calls.{DropsNode}
use Rattle.command_edits.proofs.CallsRead.{read-gone}
use Rattle.command_edits.proofs.NodesBetween.{between-goes}
use Rattle.command_edits.proofs.SoundBetween.{between-bases, sound-by, sound-stored}
use Rattle.command_edits.proofs.StageLaws.{Dropped, dropped, dropped-node, get-gone, node-by}
use Rattle.made_edits.proofs.ReadyLaws.{apart-ready}
use Rattle.gone_edits.specs.Goes.{CanGo, GoesUnder}
use Rattle.gone_edits.specs.Gone.{IsGone}
use Rattle.gone_edits.specs.Wants.{going_wants}
use Rattle.gone_edits.proofs.Before as before
use Rattle.gone_edits.proofs.GoneCalls as calls
use Rattle.gone_edits.proofs.StoredAfter as after_all

-- a file leaves a tree with its last name
leaves-last : (now : ℕ) (link : Link) (tree : Tree) → is_last_name tree link ≡ true
    → leave_file now link tree ≡ without_node link.child (drop_link link tree)
leaves-last now link tree last =
    ap (λ b. cond b (without_node link.child (drop_link link tree)) (stamp now link.child (drop_link link tree))) last

module _ (old new : VolumeView) (was now : Mounted) (n : ℕ) (node parent : Node) (name : FileName)
    (can : CanGo old n name.parent.number node parent name) (right : AreRight old (marks_of was))
    (u : GoesUnder old new was now n name.parent.number name) where
  abbrev dir : ℕ
  dir = name.parent.number

  abbrev marks : Marks
  marks = marks_of was

  abbrev after : Marks
  after = marks_of now

  abbrev counted : VolumeView
  counted = u.counted

  abbrev link : Link
  link = link_for n name

  abbrev its_names : List FileName
  its_names = names_of (records_of old) n

  goes : DropsNode (going_wants n) counted new marks after n
  goes = calls.goes old new was now n node parent name can right u

  index : IsDirectoryIndex old dir
  index = before.index old was n node parent name can right

  between0 : IsBetween old
  between0 = before.between0 old was n node parent name can right

  -- THE NAME LOST
  lost : Dropped n (name ∷ []) old counted
  lost = dropped n (name ∷ []) nothing old counted marks marks (calls.loses-one old new was now n node parent name can right u) between0
      (before.away old was n node parent name can right) (is_shown old n node can.there).shown
      (λ one c. subst (λ (other : FileName). is_hidden (records_of old) other.parent.number ≡ false) (Contains-only name one c)
      (is_shown old dir parent can.directory.there).shown)
      (numbers_in (record_there old n)) (before.numbers-was old was n node parent name can right)

  only-gone : gone_names its_names name ≡ name ∷ []
  only-gone = calls.only-gone old new was now n node parent name can right u

  loses-gone : LosesNames (records_of old) (records_of counted) n (gone_names its_names name)
  loses-gone = subst (LosesNames (records_of old) (records_of counted) n) (sym only-gone) lost.lost

  -- BETWEEN CALLS
  between2 : IsBetween new
  between2 = between-goes (going_wants n) counted new marks after n goes lost.between can.ordinary
      (no-names-lost (records_of old) (records_of counted) n n (name ∷ []) lost.lost (before.no-names old was n node parent name can right))

  -- THE READING
  pub reads : read new ≡ without_node n (without_link link (read old))
  reads =
      read-gone (going_wants n) counted new marks after n goes lost.between can.ordinary ∙ ap (without_node n) lost.reading

  pub last : is_last_name (read old) link ≡ true
  last = elim (cases_Bool (is_last_name (read old) link)) [
    | inl held ↦ held
    | inr more ↦
        let two = shown-other old n node can.there (before.away old was n node parent name can right) name
        (before.among old was n node parent name can right) index (before.no-dos old was n node parent name can right) more in
        let most = count_by-le-length is_not_dos its_names in
        let one : length its_names ≡ 1 = ap length can.only in
        absurd (omega (arith, two, most, one))
  ]

  gone-links : AreDropped (read old) link (map (link_for n) (name ∷ []))
  gone-links = subst (λ gone. AreDropped (read old) link (map (link_for n) gone)) only-gone
      (shown-dropped old n node can.there (before.away old was n node parent name can right) name
      (before.among old was n node parent name can right) index)

  pub leaves-file : (moment : ℕ) → read new ≡ leave_file moment link (read old)
  leaves-file moment =
      reads ∙ ap (without_node n) (links-dropped (read old) link (map (link_for n) (name ∷ [])) gone-links)
      ∙ sym (leaves-last moment link (read old) last)

  -- THE CLAUSES
  clauses-gone : (k : ℕ) → MeetsReferences (records_of new) k × MeetsLinks (records_of new) k
  clauses-gone =
      sound-removed old new n (can.directory.sound clauses.References) (can.directory.sound clauses.Links) (between-bases new between2) name
      (before.no-dos old was n node parent name can right)
      (record {
        left = records_of counted;
        without = records_of new;
        was = goes.was;
        loses = loses-gone;
        goes = goes.goes;
        kept = KeepsNames-same (records_of new);
      }) (before.away old was n node parent name can right) (before.no-names old was n node parent name can right)

  module _ (stored : AreStored old was.clusters was.records was.upcase) where
    pub sound : IsSound new
    sound = sound-stored new (sound-by new between2 (λ k. (clauses-gone k).1))
        (after_all.bits-now old new was now n node parent name can right u stored)

    -- THE DIRECTORY
    there : node_at new dir ≡ Some parent
    there =
        node-by counted new _ dir (read-gone (going_wants n) counted new marks after n goes lost.between can.ordinary)
        (get-gone (read counted) n dir (before.other old was n node parent name can right))
        ∙ dropped-node n (name ∷ []) old counted lost dir ∙ can.directory.there

    names-dir : names_of (records_of new) dir ≡ names_of (records_of old) dir
    names-dir = after_all.names-left old new was now n node parent name can right u dir (before.other old was n node parent name can right)

    pub gone : IsGone old new was now n dir parent name
    gone =
        let then = calls.ready old new was now n node parent name can right u in
        record {
          calls = calls.gone-calls old new was now n node parent name can right u;
          sound = sound;
          right = then.editable.right;
          can = record {
            sound = sound;
            apart = apart-ready new after then;
            there = there;
            other = can.directory.other;
            elsewhere = λ one c. can.directory.elsewhere one (subst (λ xs. Contains xs one) names-dir c);
          };
          last = last;
          reads = reads;
          leaves_file = leaves-file;
          stored = after_all.stored-now old new was now n node parent name can right u stored;
          leaves = after_all.left old new was now n node parent name can right u;
        }
