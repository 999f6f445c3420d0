-- The clauses on references and on links behind a whole command, from its calls.
use Rattle.std.proofs.Common.{List, None, Option, Some, [], ap, false, length, refl, subst, sym, true, ℕ, ◌++◌, ◌+◌, ◌∙◌, ◌∷◌, ◌≡◌}
use Rattle.std.proofs.Common.{◌≢◌, ◌≤◌}
use Rattle.std.specs.Prelude.{count_by}
use Rattle.list_laws.specs.SameItems.{SameItems}
use Rattle.list_laws.proofs.OptionLaws.{none_other, some_same}
use Rattle.list_laws.proofs.SameItemsLaws.{SameItems-append, SameItems-same, SameItems-sym, SameItems-trans}
use Rattle.ntfs_def.specs.FileName.{FileName}
use Rattle.ntfs_def.specs.declared.records.TheConstants.{ROOT}
use Rattle.volume_def.specs.FileNames.{is_dos, is_not_dos, names_of}
use Rattle.volume_def.specs.Files.{Records, records_of}
use Rattle.volume_def.specs.LinksClause.{MeetsLinks}
use Rattle.volume_def.specs.ReferencesClause.{MeetsReferences}
use Rattle.volume_def.specs.View.{VolumeView}
use Rattle.tree_model.specs.Cases.{lies_in}
use Rattle.tree_model.specs.Hidden.{is_hidden}
use Rattle.tree_model.specs.Reading.{read}
use Rattle.edit_def.specs.Names.{DropsNames, HasNoNames, HasRightBases, KeepsOthers, LosesNames, Numbers, StandRightly, gone_names}
use Rattle.edit_def.specs.Names.{is_directory_in, numbers_at}
use Rattle.edit_def.proofs.NamesLaws.{directories-comes, stand-comes, stand-gets, stand-goes, stand-of}
use Rattle.name_edits.specs.Commands.{LinksFile, CreatesFile, MovesFile, RemovesFile, UnlinksFile}
use Rattle.name_edits.specs.Renamed.{ChangesNames}
use Rattle.name_edits.proofs.CommandSteps.{SameItems-cons, directories-same, others-back, stand-lost, stand-same}
use Rattle.name_edits.proofs.GoneNames.{gone-drops, gone-one, gone-some}
use Rattle.name_edits.proofs.LinksWhole.{whole-gone, whole-linked, whole-made, whole-moved, whole-unlinked}
use Rattle.name_edits.proofs.NamesInTurn.{KeepsOthers-then, directories-lost, no-names-lost, others-of}
use Rattle.name_edits.proofs.ReferencesAfter.{references-whole}
use Rattle.name_edits.proofs.RightNames.{names-meets, root-meets}

module _ (old new : VolumeView) (f : ℕ) (references : (n : ℕ) → MeetsReferences (records_of old) n)
    (links : (n : ℕ) → MeetsLinks (records_of old) n) (bases : HasRightBases (records_of new)) where
  abbrev before : Records
  before = records_of old

  abbrev after : Records
  after = records_of new

  abbrev Sound : Type 0
  Sound = (n : ℕ) → MeetsReferences after n × MeetsLinks after n

  stands : StandRightly before
  stands = stand-of before references

  changes : KeepsOthers before after f → StandRightly after → f ≢ ROOT → ChangesNames old new f
  changes others stand away = record { references = references; links = links; stand = stand; others = others; away = away }

  both : StandRightly after → ((n : ℕ) → MeetsLinks after n) → Sound
  both stand meets n = (references-whole new bases stand n, meets n)

  -- the root is a directory
  root-away : (o : Option Numbers) → numbers_at before f ≡ o → ((numbers : Numbers) → o ≡ Some numbers → numbers.directory ≡ false)
      → f ≢ ROOT
  root-away o at plain e =
      let root = root-meets before (links ROOT) in
      let never : true ≡ false = sym root.2 ∙ plain root.0 (sym at ∙ ap (numbers_at before) e ∙ root.1) in cc

  pub sound-made : (name : FileName) → CreatesFile before after f name → is_dos name ≡ false → is_directory_in before name.parent ≡ true
      → Sound
  sound-made name x plain parent =
      let none : Numbers = record { sequence = x.sequence; links = 0; directory = x.directory } in
      let stand1 = stand-comes before x.made f none x.comes stands in
      let stand2 = stand-gets x.made x.named f name x.gets (directories-comes before x.made f none x.comes name.parent parent) stand1 in
      let stand = stand-same x.named after x.kept stand2 in
      let others = KeepsOthers-then before x.made after f x.comes.others
      (KeepsOthers-then x.made x.named after f x.gets.others (others-of x.named after f x.kept)) in
      let away = root-away None x.comes.none (λ numbers e. absurd (none_other e)) in
      let was : x.gets.was ≡ none = some_same (sym x.gets.was_at ∙ x.comes.now_at) in
      both stand (whole-made old new f (changes others stand away) name x.sequence x.directory x.comes.none plain parent
      (SameItems-trans (name ∷ []) (names_of x.named f) (names_of after f)
      (subst (λ l. SameItems (name ∷ l) (names_of x.named f)) x.comes.unnamed x.gets.names) (x.kept f).names)
      ((x.kept f).numbers ∙ x.gets.now_at ∙ ap (λ (k : Numbers). Some (record k { links = k.links + 1 })) was))

  pub sound-linked : (name : FileName) → LinksFile before after f name → is_dos name ≡ false → is_directory_in before name.parent ≡ true
      → ((numbers : Numbers) → numbers_at before f ≡ Some numbers → numbers.directory ≡ false) → Sound
  sound-linked name x plain parent file =
      let stand = stand-same x.named after x.kept (stand-gets before x.named f name x.gets parent stands) in
      let others = KeepsOthers-then before x.named after f x.gets.others (others-of x.named after f x.kept) in
      let away = root-away (numbers_at before f) refl file in
      both stand (whole-linked old new f (changes others stand away) name x.gets.was x.gets.was_at (file x.gets.was x.gets.was_at) plain
      (SameItems-trans (name ∷ names_of before f) (names_of x.named f) (names_of after f) x.gets.names (x.kept f).names)
      ((x.kept f).numbers ∙ x.gets.now_at))

  -- the names that go with one, of those that the file has
  module _ (name : FileName) (plain : is_dos name ≡ false) where
    abbrev gone : List FileName
    gone = gone_names (names_of before f) name

    drops : (left : Records) (now : List FileName) → (lost : LosesNames before left f gone) → SameItems (names_of left f) now
        → DropsNames name.parent.number gone (names_of before f) now
    drops left now lost same =
        let right = names-meets before f (record lost.now { links = lost.now.links + length gone }) (links f) lost.was_at in
        gone-drops (names_of before f) now name plain
        (SameItems-trans (gone ++ now) (gone ++ names_of left f) (names_of before f)
        (SameItems-append gone gone now (names_of left f) (SameItems-same gone gone refl)
        (SameItems-sym (names_of left f) now same)) lost.names)
        right.paired

    pub sound-unlinked : UnlinksFile before after f gone → 2 ≤ count_by is_not_dos (names_of before f)
        → ((numbers : Numbers) → numbers_at before f ≡ Some numbers → numbers.directory ≡ false) → Sound
    sound-unlinked x two file =
        let stand = stand-same x.left after x.kept (stand-lost before x.left f gone x.loses stands) in
        let others = KeepsOthers-then before x.left after f x.loses.others (others-of x.left after f x.kept) in
        let away = root-away (numbers_at before f) refl file in
        let d = drops x.left (names_of after f) x.loses (x.kept f).names in
        both stand (whole-unlinked old new f (changes others stand away) name.parent.number gone x.loses.now x.loses.was_at
        (file (record x.loses.now { links = x.loses.now.links + length gone }) x.loses.was_at) d
        (gone-some (names_of before f) (names_of after f) name plain d.items two) ((x.kept f).numbers ∙ x.loses.now_at))

    pub sound-removed : RemovesFile before after f gone → f ≢ ROOT → HasNoNames before f → Sound
    sound-removed x away empty =
        let stand1 = stand-lost before x.left f gone x.loses stands in
        let stand2 = stand-goes x.left x.without f x.was x.goes (no-names-lost before x.left f f gone x.loses empty) stand1 in
        let stand = stand-same x.without after x.kept stand2 in
        let others = KeepsOthers-then before x.left after f x.loses.others
        (KeepsOthers-then x.left x.without after f (others-back x.without x.left f x.goes.others) (others-of x.without after f x.kept)) in
        both stand (whole-gone old new f (changes others stand away) ((x.kept f).numbers ∙ x.goes.none))

    pub sound-moved : (fresh : FileName) → MovesFile before after f gone fresh → f ≢ ROOT → is_dos fresh ≡ false
        → is_directory_in before fresh.parent ≡ true → is_hidden before fresh.parent.number ≡ false
        → ((numbers : Numbers) → numbers_at before f ≡ Some numbers → numbers.directory ≡ true
        → lies_in (read old) (length (read old).links) f fresh.parent.number ≡ false) → Sound
    sound-moved fresh x away clean parent shown apart =
        let stand1 = stand-same x.left x.stamped x.between (stand-lost before x.left f gone x.loses stands) in
        let parent1 = directories-same x.left x.stamped x.between fresh.parent
        (directories-lost before x.left f gone x.loses fresh.parent parent) in
        let stand = stand-same x.named after x.kept (stand-gets x.stamped x.named f fresh x.gets parent1 stand1) in
        let others = KeepsOthers-then before x.left after f x.loses.others
        (KeepsOthers-then x.left x.stamped after f (others-of x.left x.stamped f x.between)
        (KeepsOthers-then x.stamped x.named after f x.gets.others (others-of x.named after f x.kept))) in
        let was : x.gets.was ≡ x.loses.now = some_same (sym x.gets.was_at ∙ (x.between f).numbers ∙ x.loses.now_at) in
        both stand (whole-moved old new f (changes others stand away) name.parent.number gone
        (names_of x.left f) fresh x.loses.now x.loses.was_at
        (drops x.left (names_of x.left f) x.loses (SameItems-same (names_of x.left f) (names_of x.left f) refl))
        (gone-one (names_of before f) name plain) clean
        (SameItems-trans (fresh ∷ names_of x.left f) (fresh ∷ names_of x.stamped f) (names_of after f)
        (SameItems-cons fresh (names_of x.left f) (names_of x.stamped f) (x.between f).names)
        (SameItems-trans (fresh ∷ names_of x.stamped f) (names_of x.named f) (names_of after f) x.gets.names (x.kept f).names))
        parent shown (apart (record x.loses.now { links = x.loses.now.links + length gone }) x.loses.was_at)
        ((x.kept f).numbers ∙ x.gets.now_at ∙ ap (λ (k : Numbers). Some (record k { links = k.links + 1 })) was))
