-- The clause on links after a command that changed the names of one file.
use Rattle.std.proofs.Common.{Bool, IsSomeAnd, IsTrue, List, None, Some, [], ap, arith, eq-eqb, eqb, false, length, length-append, not}
use Rattle.std.proofs.Common.{refl, subst, suc, sym, true, ℕ, ◌&&◌, ◌++◌, ◌+◌, ◌==◌, ◌∙◌, ◌∷◌, ◌≡◌, ◌≢◌, ◌≤◌}
use Rattle.std.specs.List.{list_any}
use Rattle.std.specs.Prelude.{count_by}
use Rattle.std.proofs.lemmas.Bool.{and_from}
use Rattle.list_laws.specs.SameItems.{SameItems}
use Rattle.list_laws.proofs.FindLaws.{count-yes}
use Rattle.list_laws.proofs.SameItemsLaws.{SameItems-length, count-append}
use Rattle.ntfs_def.specs.FileName.{FileName}
use Rattle.ntfs_def.specs.declared.records.TheConstants.{ROOT}
use Rattle.volume_def.specs.FileNames.{is_dos, is_not_dos, names_of}
use Rattle.volume_def.specs.Files.{is_base, is_directory, record_on, records_of}
use Rattle.volume_def.specs.LinksClause.{MeetsLinks, ReachesRoot, steps_up}
use Rattle.volume_def.specs.ReferencesClause.{MeetsReferences}
use Rattle.volume_def.specs.View.{VolumeView}
use Rattle.tree_model.proofs.ClimbLaws.{Climbs, IsDirectoryOf, climbs, way}
use Rattle.edit_def.specs.Names.{DropsNames, KeepsNames, KeepsOthers, Numbers, StandRightly, numbers_at, numbers_by}
use Rattle.edit_def.proofs.NamesLaws.{past}
use Rattle.name_edits.proofs.NamesInTurn.{others-of}
use Rattle.name_edits.proofs.OneChanged.{links-changed, reaches-past}
use Rattle.name_edits.proofs.PairedNames.{paired-drops, paired-gets}
use Rattle.name_edits.proofs.RightNames.{directory-numbers, names-meets}
use Rattle.name_edits.proofs.WaysUp.{parent-by, past-none}

-- THE CLAUSE ON LINKS AFTER A COMMAND.
module _ (old new : VolumeView) (f : ℕ)
    (references : (n : ℕ) → MeetsReferences (records_of old) n) (links : (n : ℕ) → MeetsLinks (records_of old) n)
    (stand : StandRightly (records_of new)) (others : KeepsOthers (records_of old) (records_of new) f) (away : f ≢ ROOT) where
  -- a file that is no directory now
  no-directory : (numbers : Numbers) → numbers_at (records_of new) f ≡ Some numbers → numbers.directory ≡ false → IsDirectoryOf new f → ⊥
  no-directory numbers at file dir =
      let n = directory-numbers (record_on new f) dir in
      let e : Some n.0 ≡ Some numbers = sym n.1 ∙ at in
      let same : n.0 ≡ numbers = cc in
      let never : true ≡ false = sym n.2 ∙ ap (λ (k : Numbers). k.directory) same ∙ file in
      cc

  -- the directory of a name leads to the root, by a way that does not pass f
  pub reaches-by : (dir : ℕ) → IsDirectoryOf old dir → ((m : ℕ) (c : Climbs old m dir) → list_any (eqb f) (way old m dir c) ≡ false)
      → count_by is_not_dos (names_of (records_of new) f) ≤ 1
      → 1 ≤ count_by (λ name. is_not_dos name && (name.parent.number == dir)) (names_of (records_of new) f) → ReachesRoot (records_of new) f
  reaches-by dir is past one some =
      let c = climbs old references links dir is in
      let up = reaches-past old new f references links stand others c.0 dir c.1 (past c.0 c.1) in
      (suc up.0, ap (steps_up up.0 (records_of new)) (parent-by (records_of new) f dir one some) ∙ up.1)

  -- `create`, `mkdir`: it came, with one name
  pub links-made : (name : FileName) (sequence : ℕ) (dir : Bool) → numbers_at (records_of old) f ≡ None → is_dos name ≡ false
      → IsDirectoryOf old name.parent.number → SameItems (name ∷ []) (names_of (records_of new) f)
      → numbers_at (records_of new) f ≡ Some (record { sequence = sequence; links = 1; directory = dir }) → (n : ℕ)
      → MeetsLinks (records_of new) n
  links-made name sequence dir none plain parent items at =
      let l = SameItems-length (name ∷ []) (names_of (records_of new) f) items in
      let a = items.counts is_not_dos in
      let b = count-yes is_not_dos name [] (ap not plain) in
      let c = items.counts (λ (n : FileName). is_not_dos n && (n.parent.number == name.parent.number)) in
      let d = count-yes (λ (n : FileName). is_not_dos n && (n.parent.number == name.parent.number)) name []
      (and_from (is_not_dos name) (name.parent.number == name.parent.number) (ap not plain)
      (eq-eqb name.parent.number name.parent.number refl)) in
      links-changed old new f references links stand others away
      (λ numbers is.
      let e : Some (record { sequence = sequence; links = 1; directory = dir }) ≡ Some numbers = sym at ∙ is in
      let same : ◌≡◌ {A = Numbers} (record { sequence = sequence; links = 1; directory = dir }) numbers = cc in
      record {
        named = λ ge. omega (arith, l);
        count = λ ge. sym (ap (λ (k : Numbers). k.links) same) ∙ omega (arith, l);
        paired = paired-gets name [] (names_of (records_of new) f) plain items (λ k some. absurd (omega (arith, some)));
        once = λ ne is. omega (arith, a, b);
      })
      (λ is. reaches-by name.parent.number parent (λ m way_up. past-none old references links f m name.parent.number none way_up parent)
      (omega (arith, a, b)) (omega (arith, c, d)))

  -- `ln`: a file that is no directory got a name
  pub links-linked : (name : FileName) (was : Numbers) → numbers_at (records_of old) f ≡ Some was → was.directory ≡ false
      → is_dos name ≡ false
      → SameItems (name ∷ names_of (records_of old) f) (names_of (records_of new) f)
      → numbers_at (records_of new) f ≡ Some (record was { links = was.links + 1 }) → (n : ℕ) → MeetsLinks (records_of new) n
  links-linked name was was_at file plain items at =
      let right = names-meets (records_of old) f was (links f) was_at in
      let l = SameItems-length (name ∷ names_of (records_of old) f) (names_of (records_of new) f) items in
      links-changed old new f references links stand others away
      (λ numbers is.
      let e : Some (record was { links = was.links + 1 }) ≡ Some numbers = sym at ∙ is in
      let same : ◌≡◌ {A = Numbers} (record was { links = was.links + 1 }) numbers = cc in
      record {
        named = λ ge. omega (arith, l);
        count = λ ge. let c = right.count ge in sym (ap (λ (k : Numbers). k.links) same) ∙ omega (arith, c, l);
        paired = paired-gets name (names_of (records_of old) f) (names_of (records_of new) f) plain items right.paired;
        once = λ ne is. let never : true ≡ false = sym is ∙ sym (ap (λ (k : Numbers). k.directory) same) ∙ file in cc;
      })
      (λ is. absurd (no-directory (record was { links = was.links + 1 }) at file is))

  -- `rm` of a name that is not the last: a file that is no directory lost names
  pub links-unlinked : (dir : ℕ) (gone : List FileName) (now : Numbers)
      → numbers_at (records_of old) f ≡ Some (record now { links = now.links + length gone }) → now.directory ≡ false
      → DropsNames dir gone (names_of (records_of old) f) (names_of (records_of new) f) → 1 ≤ length (names_of (records_of new) f)
      → numbers_at (records_of new) f ≡ Some now → (n : ℕ) → MeetsLinks (records_of new) n
  links-unlinked dir gone now was_at file drops some at =
      let right = names-meets (records_of old) f (record now { links = now.links + length gone }) (links f) was_at in
      let l = SameItems-length (gone ++ names_of (records_of new) f) (names_of (records_of old) f) drops.items in
      let a = length-append gone (names_of (records_of new) f) in
      links-changed old new f references links stand others away
      (λ numbers is.
      let e : Some now ≡ Some numbers = sym at ∙ is in
      let same : now ≡ numbers = cc in
      record {
        named = λ ge. some;
        count = λ ge. let c = right.count ge in sym (ap (λ (k : Numbers). k.links) same) ∙ omega (arith, c, l, a);
        paired = paired-drops dir gone (names_of (records_of old) f) (names_of (records_of new) f) drops right.paired;
        once = λ ne is. let never : true ≡ false = sym is ∙ sym (ap (λ (k : Numbers). k.directory) same) ∙ file in cc;
      })
      (λ is. absurd (no-directory now at file is))

  -- `rm` of the last one, and `rmdir`: it went
  pub links-gone : numbers_at (records_of new) f ≡ None → (n : ℕ) → MeetsLinks (records_of new) n
  links-gone none =
      links-changed old new f references links stand others away
      (λ numbers is. let never : None ≡ Some numbers = sym none ∙ is in absurd (none-some numbers never))
      (λ is. let n = directory-numbers (record_on new f) is in
      let never : None ≡ Some n.0 = sym none ∙ n.1 in absurd (none-some n.0 never))
    where
      none-some : (n : Numbers) → None ≡ Some n → ⊥
      none-some n e = cc

  -- `mv`: a file lost names, one of them no DOS name, and got one; a directory does not lie on the way up from its new place
  pub links-moved : (dir : ℕ) (gone left : List FileName) (name : FileName) (now : Numbers)
      → numbers_at (records_of old) f ≡ Some (record now { links = now.links + length gone })
      → DropsNames dir gone (names_of (records_of old) f) left → count_by is_not_dos gone ≡ 1 → is_dos name ≡ false
      → SameItems (name ∷ left) (names_of (records_of new) f) → IsDirectoryOf old name.parent.number
      → (now.directory ≡ true → (m : ℕ) (c : Climbs old m name.parent.number) → list_any (eqb f) (way old m name.parent.number c) ≡ false)
      → numbers_at (records_of new) f ≡ Some (record now { links = now.links + 1 }) → (n : ℕ) → MeetsLinks (records_of new) n
  links-moved dir gone left name now was_at drops one plain items parent past at =
      let right = names-meets (records_of old) f (record now { links = now.links + length gone }) (links f) was_at in
      let l = SameItems-length (gone ++ left) (names_of (records_of old) f) drops.items in
      let s = length-append gone left in
      let k = SameItems-length (name ∷ left) (names_of (records_of new) f) items in
      let a = drops.items.counts is_not_dos in
      let b = count-append is_not_dos gone left in
      let c = items.counts is_not_dos in
      let d = count-yes is_not_dos name left (ap not plain) in
      let test : FileName → Bool = λ n. is_not_dos n && (n.parent.number == name.parent.number) in
      let g = items.counts test in
      let h = count-yes test name left
      (and_from (is_not_dos name) (name.parent.number == name.parent.number) (ap not plain)
      (eq-eqb name.parent.number name.parent.number refl)) in
      links-changed old new f references links stand others away
      (λ numbers is.
      let e : Some (record now { links = now.links + 1 }) ≡ Some numbers = sym at ∙ is in
      let same : ◌≡◌ {A = Numbers} (record now { links = now.links + 1 }) numbers = cc in
      record {
        named = λ ge. omega (arith, k);
        count = λ ge. let q = right.count ge in sym (ap (λ (k : Numbers). k.links) same) ∙ omega (arith, q, l, s, k);
        paired = paired-gets name left (names_of (records_of new) f) plain items
            (paired-drops dir gone (names_of (records_of old) f) left drops right.paired);
        once = λ ne is. let q = right.once ne (ap (λ (k : Numbers). k.directory) same ∙ is) in omega (arith, q, a, b, c, d, one);
      })
      (λ is.
      let n = directory-numbers (record_on new f) is in
      let e : Some n.0 ≡ Some (record now { links = now.links + 1 }) = sym n.1 ∙ at in
      let same : ◌≡◌ {A = Numbers} n.0 (record now { links = now.links + 1 }) = cc in
      let dir_now : now.directory ≡ true = sym (ap (λ (k : Numbers). k.directory) same) ∙ n.2 in
      let q = right.once away dir_now in
      reaches-by name.parent.number parent (past dir_now) (omega (arith, q, a, b, c, d, one)) (omega (arith, g, h)))

-- A command that leaves all names: by a number past both tables.
pub links-same : (old new : VolumeView) → ((n : ℕ) → MeetsReferences (records_of old) n) → ((n : ℕ) → MeetsLinks (records_of old) n)
    → StandRightly (records_of new) → ((g : ℕ) → KeepsNames (records_of old) (records_of new) g) → (n : ℕ) → MeetsLinks (records_of new) n
links-same old new references links stand kept =
    let f = old.layout.count + new.layout.count in
    let none = ap numbers_by (past new f (omega arith)) in
    links-gone old new f references links stand (others-of (records_of old) (records_of new) f kept)
    (λ e. in-root (ap (λ n. record_on old n) (sym e) ∙ past old f (omega arith)) ((links ROOT).root refl)) none
  where
    in-root : record_on old ROOT ≡ None → IsDirectoryOf old ROOT → ⊥
    in-root e is = subst (λ o. IsSomeAnd o (λ r. IsTrue (is_base r) × IsTrue (is_directory r))) e is
