-- THE VOLUME BEFORE: what is told of a file that may go, and of its directory.
use Rattle.std.proofs.Common.{◌≡◌, ◌≢◌, ◌≤◌, ◌<◌, ◌==◌, ◌&&◌, ℕ, true, false, [], Some, None, cond, length}
use Rattle.std.proofs.Common.{sym, ap, subst, inl, inr, ◌∙◌, arith, eqb-true, ne_eqb}
use Rattle.std.specs.List.{Contains, count_by}
use Rattle.std.specs.Prelude.{IfSome, IsSomeAnd, IsTrue}
use Rattle.std.proofs.lemmas.Bool.{and_parts, cases_Bool}
use Rattle.std.proofs.lemmas.List.Elements.{All-contains}
use Rattle.list_laws.proofs.FindLaws.{count-no}
use Rattle.list_laws.proofs.MemberLaws.{Contains-head}
use Rattle.ntfs_def.specs.FileName.{FileName}
use Rattle.ntfs_def.specs.declared.records.TheConstants.{ROOT}
use Rattle.volume_def.specs.FileNames.{is_dos, names_of}
use Rattle.volume_def.specs.Files.{Record, is_base, is_directory, parts, record_on, records_of}
use Rattle.volume_def.specs.IndexesClause.{IsDirectoryIndex}
use Rattle.volume_def.specs.LinksClause.{HasRightLinks, IsPairedAmong, is_long_in}
use Rattle.volume_def.specs.ListsClause.{HasRightList, IsAlone}
use Rattle.volume_def.specs.Readable.{IsFile}
use Rattle.volume_def.specs.Sound as clauses
use Rattle.volume_def.specs.View.{VolumeView}
use Rattle.volume_def.proofs.PartLaws.{record_at-block}
use Rattle.volume_def.proofs.ReadableLaws.{of_base}
use Rattle.mft_table.specs.declared.mounted.Mounted.{Mounted}
use Rattle.file_clauses.proofs.InOrderLaws.{alone-parts}
use Rattle.tree_model.specs.declared.tree.Node.{Node}
use Rattle.tree_model.proofs.NamesLaws.{IsShown, is_shown}
use Rattle.edit_def.specs.Marks.{AreRight}
use Rattle.edit_def.specs.Names.{HasNoNames, StandRightly, is_directory_by, is_directory_in, numbers_at, numbers_by, numbers_in}
use Rattle.edit_def.proofs.NamesLaws.{number-inside, stand-of}
use Rattle.record_edits.specs.Between.{IsReady}
use Rattle.record_calls.specs.Edits.{record_there}
use Rattle.record_calls.specs.Marks.{marks_of}
use Rattle.name_edits.proofs.NamesInTurn.{file-no-names}
use Rattle.command_edits.specs.Between.{IsBetween}
use Rattle.command_edits.proofs.CallsRead.{parent-index}
use Rattle.command_edits.proofs.SoundBetween.{between-sound, sound-whole}
use Rattle.command_edits.proofs.StageLaws.{node-directory}
use Rattle.made_edits.proofs.AloneLaws.{StandsAlone}
use Rattle.made_edits.proofs.ReadyLaws.{ready-sound}
use Rattle.gone_edits.specs.Goes.{CanGo}

module _ (old : VolumeView) (was : Mounted) (n : ℕ) (file parent : Node) (name : FileName)
    (can : CanGo old n name.parent.number file parent name) (right : AreRight old (marks_of was)) where
  abbrev dir : ℕ
  dir = name.parent.number

  pub ready : IsReady old (marks_of was)
  ready = ready-sound old (marks_of was) can.directory.sound can.directory.apart right

  pub between0 : IsBetween old
  between0 = between-sound old (sound-whole old can.directory.sound)

  -- ITS RECORD
  shown : IsShown old n
  shown = is_shown old n file can.there

  pub there : record_on old n ≡ Some (record_there old n)
  there = shown.at ∙ ap (λ (r : Record). Some r) (sym (record_at-block old n shown.base shown.at))

  pub numbers-was : numbers_at (records_of old) n ≡ Some (numbers_in (record_there old n))
  numbers-was = ap numbers_by there ∙ ap (λ b. cond b (Some (numbers_in (record_there old n))) None) can.one.base

  inside : n < old.layout.count
  inside = number-inside old n (numbers_in (record_there old n)) numbers-was

  is-file : IsFile old n
  is-file = subst (λ o. IsSomeAnd o (λ r. IsTrue (is_base r))) (sym there) can.one.base

  alone-file : IsAlone old n
  alone-file =
      (of_base (HasRightList old n (parts (records_of old) n)) (record_on old n) is-file (ready.editable.readable.lists n)).alone
      can.one.no_list

  pub alone : StandsAlone old n (record_there old n)
  alone = record {
    at = there;
    base = can.one.base;
    whole = alone-parts (records_of old) n (record_there old n) there inside can.one.base alone-file;
  }

  -- ITS NAME
  pub among : Contains (names_of (records_of old) n) name
  among = subst (λ xs. Contains xs name) (sym can.only) (Contains-head name [])

  right-links : HasRightLinks (records_of old) n (record_there old n)
  right-links =
      subst (λ o. IfSome o (λ r. IsTrue (is_base r) → HasRightLinks (records_of old) n r)) there
      (can.directory.sound clauses.Links n).links can.one.base

  pub one-link : (record_there old n).header.links ≡ 1
  one-link = right-links.count can.ordinary ∙ ap length can.only

  pub no-dos : is_dos name ≡ false
  no-dos = elim (cases_Bool (is_dos name)) [
    | inr free ↦ free
    | inl dos ↦
        let pair = All-contains (IsPairedAmong (names_of (records_of old) n)) (names_of (records_of old) n) name right-links.paired among in
        let long = subst (λ xs. 1 ≤ count_by (is_long_in dir) xs) can.only (pair.long dos) in
        let space = eqb-true name.namespace 2 dos in
        let none = count-no (is_long_in dir) name []
        (ap (λ b. b && (name.parent.number == dir)) (ne_eqb name.namespace 1 (λ one. omega (arith, one, space)))) in
        absurd (omega (arith, long, none))
  ]

  pub away : n ≢ ROOT
  away is = let high = can.ordinary in omega (arith, is, high)

  -- NO NAME stands in it, so its directory is another file.
  stand : StandRightly (records_of old)
  stand = stand-of (records_of old) (can.directory.sound clauses.References)

  pub no-names : HasNoNames (records_of old) n
  no-names = file-no-names (records_of old) n (numbers_in (record_there old n)) stand numbers-was
      (node-directory old n file (numbers_in (record_there old n)) can.there numbers-was ∙ can.plain)

  pub other : dir ≢ n
  other = All-contains (λ (one : FileName). one.parent.number ≢ n) (names_of (records_of old) n) name (no-names n) among

  -- ITS DIRECTORY
  pub index : IsDirectoryIndex old dir
  index = parent-index old between0 n name among

  pub parent-directory : (base : Record) → record_on old dir ≡ Some base → is_base base ≡ true → is_directory base ≡ true
  parent-directory base at is =
      let numbers : numbers_at (records_of old) dir ≡ Some (numbers_in base) = ap numbers_by at
      ∙ ap (λ b. cond b (Some (numbers_in base)) None) is in
      let stands = All-contains (λ (one : FileName). IsTrue (is_directory_in (records_of old) one.parent)) (names_of (records_of old) n)
      name (stand n) among in
      (and_parts (is_directory base) (base.header.sequence == name.parent.sequence)
      (sym (ap (λ o. is_directory_by o name.parent.sequence) numbers) ∙ stands)).0
