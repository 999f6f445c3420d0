-- Which names go with one, by the names of the file and by the links of the tree.
use Rattle.std.proofs.Common.{Bool, List, Some, [], ap, arith, eq-eqb, eqb-true, false, filter, if◌then◌else◌, inl, inr, ltb, map, not}
use Rattle.std.proofs.Common.{refl, subst, sym, true, ℕ, ◌&&◌, ◌==◌, ◌||◌, ◌∙◌, ◌≡◌, ◌≢◌, ◌≤◌}
use Rattle.std.specs.List.{Contains, list_any}
use Rattle.std.specs.Prelude.{count_by}
use Rattle.std.proofs.lemmas.Bool.{and_from, and_parts, cases_lt, le-ltb, lt-ltb, not-false, not-true}
use Rattle.list_laws.specs.Ordered.{in_order}
use Rattle.list_laws.proofs.BoolLaws.{and-none, and-swap}
use Rattle.list_laws.proofs.FindLaws.{any-found, count-some, passing, same_passing, some-counted}
use Rattle.list_laws.proofs.MemberLaws.{Contains-filter, Contains-from_filter, Contains-from_map, Contains-map}
use Rattle.list_laws.proofs.OrderedLaws.{Contains-from_in_order}
use Rattle.list_laws.proofs.SameItemsLaws.{SameItems-passing}
use Rattle.ntfs_def.specs.FileName.{FileName}
use Rattle.ntfs_def.specs.declared.records.TheConstants.{ROOT}
use Rattle.volume_def.specs.CaseClause.{volume_fold}
use Rattle.volume_def.specs.FileNames.{is_dos, is_not_dos, names_of}
use Rattle.volume_def.specs.Files.{records_of}
use Rattle.volume_def.specs.IndexesClause.{IsDirectoryIndex}
use Rattle.volume_def.specs.LinksClause.{is_dos_in, is_long_in}
use Rattle.volume_def.specs.View.{VolumeView}
use Rattle.tree_model.specs.Drops.{goes_with, has_other_long, is_beside, is_last_name, is_link, is_long}
use Rattle.tree_model.specs.Reading.{link_for, links_to, node_at, read}
use Rattle.tree_model.specs.Tree.{leads_to, link_above, names_file}
use Rattle.tree_model.specs.declared.tree.Link.{Link}
use Rattle.tree_model.specs.declared.tree.Node.{Node}
use Rattle.tree_model.proofs.NamesLaws.{is_shown, links-read}
use Rattle.edit_def.specs.Names.{gone_names}
use Rattle.name_edits.specs.Dropped.{AreDropped}
use Rattle.name_edits.proofs.ListTests.{both-ways, count-implied, count-split, in_order-items}
use Rattle.name_edits.proofs.OnceNames.{names-once, numbers-shown}
use Rattle.name_edits.proofs.SameLink.{is_link-exact, is_link-itself}
use Rattle.tree_model.specs.Tree as trees

-- A FILE THAT IS SHOWN, by its names and by the tree. `once`: no two of its names are the same in one directory.
module _ (v : VolumeView) (f : ℕ) (node : Node) (there : node_at v f ≡ Some node) (away : f ≢ ROOT) (name : FileName)
    (among : Contains (names_of (records_of v) f) name)
    (once : count_by (λ (n : FileName). is_link (link_for f name) (link_for f n)) (names_of (records_of v) f) ≤ 1) where
  abbrev all : List FileName
  all = names_of (records_of v) f

  abbrev dir : ℕ
  dir = name.parent.number

  abbrev link : Link
  link = link_for f name

  -- the links of the tree to it are its names
  pub of-tree : (other : Link) → Contains (read v).links other → other.child ≡ f → (n : FileName) × Contains all n × (link_for f n ≡ other)
  of-tree other c e =
      let k = Contains-filter (leads_to f) (read v).links other c (eq-eqb other.child f e) in
      let o = subst (λ l. Contains l other) (links-read v f node there away) k in
      Contains-from_map (link_for f) all other (Contains-from_in_order (link_above (volume_fold v)) (links_to v f) other o)

  in-tree : (n : FileName) → Contains all n → Contains (read v).links (link_for f n)
  in-tree n c =
      let w = SameItems-passing (is_link (link_for f n)) (links_to v f) (in_order (link_above (volume_fold v)) (links_to v f))
      (link_for f n)
      (in_order-items (link_above (volume_fold v)) (links_to v f)) (Contains-map (link_for f) all n c) (is_link-itself (link_for f n)) in
      let e = is_link-exact (link_for f n) w.0 w.2 in
      let k = subst (λ l. Contains l w.0) (sym (links-read v f node there away)) w.1 in
      subst (Contains (read v).links) (sym e) (Contains-from_filter (leads_to f) (read v).links w.0 k).0

  -- another name, where two pass
  another : (test : FileName → Bool) → 2 ≤ count_by test all
      → (n : FileName) × Contains all n × (test n ≡ true) × (is_link link (link_for f n) ≡ false)
  another test two =
      let s = count-split test (λ (n : FileName). is_link link (link_for f n)) all in
      let l = count-implied (λ n. test n && is_link link (link_for f n)) (λ (n : FileName). is_link link (link_for f n)) all
      (λ n e. (and_parts (test n) (is_link link (link_for f n)) e).1) in
      let w = passing (λ n. test n && not (is_link link (link_for f n))) all (omega (arith, s, l, two, once)) in
      let p = and_parts (test w.0) (not (is_link link (link_for f w.0))) w.2 in
      (w.0, w.1, p.0, not-true (is_link link (link_for f w.0)) p.1)

  -- where one passes at most, and this one does, any that passes is this one
  pub only-one : (test : FileName → Bool) → test name ≡ true → (n : FileName) → Contains all n → test n ≡ true
      → is_link link (link_for f n) ≡ false
      → 2 ≤ count_by test all
  only-one test here n c t apart = elim (cases_lt 1 (count_by test all)) [
    | inl lt ↦ omega (arith, lt)
    | inr ge ↦
        let same = same_passing test all name n (omega (arith, ge)) among here c t in
        let never : false ≡ true = sym apart ∙ ap (λ (k : FileName). is_link link (link_for f k)) (sym same) ∙ is_link-itself link in
        cc
  ]

  -- ANOTHER LONG NAME, by the tree and by the names
  other-long : name.namespace ≡ 1 → has_other_long (read v) link ≡ ltb 1 (count_by (is_long_in dir) all)
  other-long long = both-ways _ _ to from
    where
      here : is_long_in dir name ≡ true
      here = and_from (name.namespace == 1) (dir == dir) (eq-eqb name.namespace 1 long) (eq-eqb dir dir refl)

      to : has_other_long (read v) link ≡ true → ltb 1 (count_by (is_long_in dir) all) ≡ true
      to e =
          let w = passing (λ other. is_beside link other && is_long other && not (is_link link other)) (read v).links
          (some-counted (λ other. is_beside link other && is_long other && not (is_link link other)) (read v).links e) in
          let p = and_parts _ (not (is_link link w.0)) w.2 in
          let q = and_parts (is_beside link w.0) (is_long w.0) p.0 in
          let b = and_parts (w.0.parent == dir) (w.0.child == f) q.0 in
          let n = of-tree w.0 w.1 (eqb-true w.0.child f b.1) in
          let apart : is_link link (link_for f n.0) ≡ false = ap (is_link link) n.2 ∙ not-true (is_link link w.0) p.1 in
          let t : is_long_in dir n.0 ≡ true = and_from (n.0.namespace == 1) (n.0.parent.number == dir)
          (ap (λ (l : Link). l.space == 1) n.2 ∙ q.1) (ap (λ (l : Link). l.parent == dir) n.2 ∙ b.0) in
          lt-ltb 1 (count_by (is_long_in dir) all) (let two = only-one (is_long_in dir) here n.0 n.1 t apart in omega (arith, two))

      from : ltb 1 (count_by (is_long_in dir) all) ≡ true → has_other_long (read v) link ≡ true
      from e = elim (cases_lt 1 (count_by (is_long_in dir) all)) [
        | inr ge ↦ let never : false ≡ true = sym (le-ltb 1 (count_by (is_long_in dir) all) ge) ∙ e in cc
        | inl lt ↦
            let w = another (is_long_in dir) (omega (arith, lt)) in
            let p = and_parts (w.0.namespace == 1) (w.0.parent.number == dir) w.2 in
            any-found (λ other. is_beside link other && is_long other && not (is_link link other)) (read v).links (link_for f w.0)
            (in-tree w.0 w.1)
            (and_from (is_beside link (link_for f w.0) && is_long (link_for f w.0)) (not (is_link link (link_for f w.0)))
            (and_from (is_beside link (link_for f w.0)) (is_long (link_for f w.0))
            (and_from (w.0.parent.number == dir) (f == f) p.1 (eq-eqb f f refl)) p.0)
            (ap not w.3))
      ]

  -- THE DOS NAMES beside it
  dos-beside : (other : Link) → Contains (read v).links other
      → (trees.is_dos other && is_beside link other) ≡ list_any (λ one. is_link one other) (map (link_for f) (filter (is_dos_in dir) all))
  dos-beside other c = both-ways _ _ to from
    where
      to : (trees.is_dos other && is_beside link other) ≡ true
          → list_any (λ one. is_link one other) (map (link_for f) (filter (is_dos_in dir) all)) ≡ true
      to e =
          let p = and_parts (trees.is_dos other) (is_beside link other) e in
          let b = and_parts (other.parent == dir) (other.child == f) p.1 in
          let n = of-tree other c (eqb-true other.child f b.1) in
          let t : is_dos_in dir n.0 ≡ true = and_from (n.0.namespace == 2) (n.0.parent.number == dir)
          (ap (λ (l : Link). l.space == 2) n.2 ∙ p.0) (ap (λ (l : Link). l.parent == dir) n.2 ∙ b.0) in
          any-found (λ one. is_link one other) (map (link_for f) (filter (is_dos_in dir) all)) (link_for f n.0)
          (Contains-map (link_for f) (filter (is_dos_in dir) all) n.0 (Contains-filter (is_dos_in dir) all n.0 n.1 t))
          (ap (is_link (link_for f n.0)) (sym n.2) ∙ is_link-itself (link_for f n.0))

      from : list_any (λ one. is_link one other) (map (link_for f) (filter (is_dos_in dir) all)) ≡ true
          → (trees.is_dos other && is_beside link other) ≡ true
      from e =
          let w = passing (λ one. is_link one other) (map (link_for f) (filter (is_dos_in dir) all))
          (some-counted (λ one. is_link one other) (map (link_for f) (filter (is_dos_in dir) all)) e) in
          let n = Contains-from_map (link_for f) (filter (is_dos_in dir) all) w.0 w.1 in
          let k = Contains-from_filter (is_dos_in dir) all n.0 n.1 in
          let same : link_for f n.0 ≡ other = n.2 ∙ is_link-exact w.0 other w.2 in
          let p = and_parts (n.0.namespace == 2) (n.0.parent.number == dir) k.1 in
          subst (λ (l : Link). (trees.is_dos l && is_beside link l) ≡ true) same
          (and_from (n.0.namespace == 2) (is_beside link (link_for f n.0)) p.0
          (and_from (n.0.parent.number == dir) (f == f) p.1 (eq-eqb f f refl)))

  and-all : (b : Bool) → (b && true) ≡ b
  and-all b = and-swap b true

  -- THE LAW: the names that go by the file are those that go by the machine.
  pub names-dropped : AreDropped (read v) link (map (link_for f) (gone_names all name))
  names-dropped other c = by (name.namespace == 1) refl
    where
      rest : Bool → List FileName
      rest b = if b then filter (is_dos_in dir) all else []

      by : (b : Bool) → (name.namespace == 1) ≡ b
          → goes_with (read v) link other
          ≡ (is_link link other || list_any (λ one. is_link one other)
          (map (link_for f) (rest ((name.namespace == 1) && not (ltb 1 (count_by (is_long_in dir) all))))))
      by false e =
          let lhs : (is_long link && trees.is_dos other && is_beside link other && not (has_other_long (read v) link)) ≡ false =
          ap (λ b. b && trees.is_dos other && is_beside link other && not (has_other_long (read v) link)) e in
          ap (λ b. is_link link other || b)
          (lhs ∙ sym (ap (λ b. list_any (λ one. is_link one other)
          (map (link_for f) (rest (b && not (ltb 1 (count_by (is_long_in dir) all)))))) e))
      by true e =
          let l = other-long (eqb-true name.namespace 1 e) in
          let lhs : (is_long link && trees.is_dos other && is_beside link other && not (has_other_long (read v) link))
          ≡ (trees.is_dos other && is_beside link other && not (ltb 1 (count_by (is_long_in dir) all))) =
          ap (λ b. b && trees.is_dos other && is_beside link other && not (has_other_long (read v) link)) e
          ∙ ap (λ b. trees.is_dos other && is_beside link other && not b) l in
          ap (λ b. is_link link other || b) (lhs ∙ two (ltb 1 (count_by (is_long_in dir) all))
          ∙ sym (ap (λ b. list_any (λ one. is_link one other)
          (map (link_for f) (rest (b && not (ltb 1 (count_by (is_long_in dir) all)))))) e))
        where
          two : (b : Bool) → (trees.is_dos other && is_beside link other && not b) ≡ list_any (λ one. is_link one other)
              (map (link_for f) (rest (not b)))
          two true = and-none (trees.is_dos other && is_beside link other)
          two false = and-all (trees.is_dos other && is_beside link other) ∙ dos-beside other c

  -- THE LAST NAME that is no DOS name, by the machine and by the names.
  pub last-only : is_last_name (read v) link ≡ true → count_by is_not_dos all ≤ 1
  last-only last = elim (cases_lt 1 (count_by is_not_dos all)) [
    | inr ge ↦ ge
    | inl lt ↦
        let w = another is_not_dos (omega (arith, lt)) in
        let found = any-found (λ other. names_file f other && not (is_link link other)) (read v).links (link_for f w.0) (in-tree w.0 w.1)
        (and_from (names_file f (link_for f w.0)) (not (is_link link (link_for f w.0)))
        (and_from (f == f) (is_not_dos w.0) (eq-eqb f f refl) w.2)
        (ap not w.3)) in
        let never : true ≡ false = sym last ∙ ap not found in cc
  ]

  pub last-other : is_not_dos name ≡ true → is_last_name (read v) link ≡ false → 2 ≤ count_by is_not_dos all
  last-other plain more =
      let test : Link → Bool = λ other. names_file f other && not (is_link link other) in
      let w = passing test (read v).links (some-counted test (read v).links (not-false (list_any test (read v).links) more)) in
      let p = and_parts (names_file f w.0) (not (is_link link w.0)) w.2 in
      let q = and_parts (w.0.child == f) (not (trees.is_dos w.0)) p.0 in
      let n = of-tree w.0 w.1 (eqb-true w.0.child f q.0) in
      only-one is_not_dos plain n.0 n.1 (ap (λ (l : Link). not (trees.is_dos l)) n.2 ∙ q.1)
      (ap (is_link link) n.2 ∙ not-true (is_link link w.0) p.1)

-- where the names of the directory are those of its index
pub shown-dropped : (v : VolumeView) (f : ℕ) (node : Node) → node_at v f ≡ Some node → f ≢ ROOT → (name : FileName)
    → Contains (names_of (records_of v) f) name → IsDirectoryIndex v name.parent.number
    → AreDropped (read v) (link_for f name) (map (link_for f) (gone_names (names_of (records_of v) f) name))
shown-dropped v f node there away name among d =
    let n = numbers-shown v f (is_shown v f node there) in
    names-dropped v f node there away name among (names-once v f name n.0 n.1 d)

-- by the same, whether it is the last
pub shown-last : (v : VolumeView) (f : ℕ) (node : Node) → node_at v f ≡ Some node → f ≢ ROOT → (name : FileName)
    → Contains (names_of (records_of v) f) name → IsDirectoryIndex v name.parent.number → is_dos name ≡ false
    → is_last_name (read v) (link_for f name) ≡ true → count_by is_not_dos (names_of (records_of v) f) ≡ 1
shown-last v f node there away name among d plain last =
    let n = numbers-shown v f (is_shown v f node there) in
    let most = last-only v f node there away name among (names-once v f name n.0 n.1 d) last in
    let some = count-some is_not_dos (names_of (records_of v) f) name among (ap not plain) in
    omega (arith, most, some)

pub shown-other : (v : VolumeView) (f : ℕ) (node : Node) → node_at v f ≡ Some node → f ≢ ROOT → (name : FileName)
    → Contains (names_of (records_of v) f) name → IsDirectoryIndex v name.parent.number → is_dos name ≡ false
    → is_last_name (read v) (link_for f name) ≡ false → 2 ≤ count_by is_not_dos (names_of (records_of v) f)
shown-other v f node there away name among d plain more =
    let n = numbers-shown v f (is_shown v f node there) in
    last-other v f node there away name among (names-once v f name n.0 n.1 d) (ap not plain) more
