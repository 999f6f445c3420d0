-- The names of files as links of the tree: where they have entries, and those that go.
use Rattle.std.proofs.Common.{Bool, List, None, Option, Some, [], ap, arith, eq-eqb, false, filter, if◌then◌else◌, inl, inr, map, not, refl}
use Rattle.std.proofs.Common.{subst, sym, true, ℕ, ◌&&◌, ◌==◌, ◌||◌, ◌∙◌, ◌∷◌, ◌≡◌, ◌≢◌, ◌⊎◌}
use Rattle.std.specs.List.{Contains, flat_map, list_any, range_with_len}
use Rattle.std.specs.Prelude.{IsSomeAnd, IsTrue}
use Rattle.std.proofs.lemmas.Bool.{and_from, cases_Bool, cases_eq, ne_eqb, or_from}
use Rattle.std.proofs.lemmas.List.Elements.{Contains-append_left, Contains-append_right}
use Rattle.list_laws.specs.Ordered.{in_order}
use Rattle.list_laws.proofs.FindLaws.{any-found, none-among, passing, some-counted}
use Rattle.list_laws.proofs.MemberLaws.{Contains-cases, Contains-filter, Contains-flat_map, Contains-from_filter, Contains-from_map}
use Rattle.list_laws.proofs.MemberLaws.{Contains-map, Contains-nil, Contains-range}
use Rattle.list_laws.proofs.SameItemsLaws.{SameItems-passing}
use Rattle.ntfs_def.specs.FileName.{FileName}
use Rattle.ntfs_def.specs.declared.records.TheConstants.{ROOT}
use Rattle.volume_def.specs.CaseClause.{volume_fold}
use Rattle.volume_def.specs.FileNames.{links, names_of}
use Rattle.volume_def.specs.Files.{Record, is_base, record_on, records_of}
use Rattle.volume_def.specs.LinksClause.{is_dos_in}
use Rattle.volume_def.specs.Readable.{IsFile}
use Rattle.volume_def.specs.View.{VolumeView}
use Rattle.tree_model.specs.Bill.{links_with}
use Rattle.tree_model.specs.Drops.{goes_with, is_link}
use Rattle.tree_model.specs.Hidden.{is_hidden}
use Rattle.tree_model.specs.Reading.{all_links, is_hidden_link, link_by, link_for, node_at, read}
use Rattle.tree_model.specs.Tree.{Tree, is_in, link_above}
use Rattle.tree_model.specs.declared.tree.Link.{Link}
use Rattle.tree_model.specs.declared.tree.Node.{Node}
use Rattle.tree_model.proofs.NamesLaws.{is_shown}
use Rattle.edit_def.specs.Names.{HasRightBases, Numbers, gone_names, is_only_long, numbers_at, numbers_by, numbers_in}
use Rattle.edit_def.proofs.LinkLaws.{by_file, file-links, links_by, referred}
use Rattle.edit_def.proofs.NamesLaws.{number-inside}
use Rattle.reading_edits.proofs.HiddenFiles.{name-file}
use Rattle.reading_edits.proofs.ListTests.{in_order-items}
use Rattle.reading_edits.proofs.SameLink.{is_link-exact, is_link-itself}
use Rattle.reading_edits.specs.Dropped.{AreDropped}
use Rattle.session_def.specs.Kept.{KeepsNamesBut, link_told}
use Rattle.session_def.specs.Named.{every_link, has_entry_of, is_one_of, leads_among}
use Rattle.command_edits.specs.Between.{IsBetween}
use Rattle.command_edits.specs.Keys.{AreToldIn}
use Rattle.command_edits.proofs.SoundBetween.{between-bases}

-- A NAME of a file is a link of the volume ..
link-there : (v : VolumeView) (g : ℕ) (name : FileName) → HasRightBases (records_of v) → Contains (names_of (records_of v) g) name
    → Contains (all_links v) (link_for g name)
unfolding all_links links
link-there v g name bases among = by (numbers_at (records_of v) g) refl (name-file v g name bases among)
  where
    no-file : (o : Option Record) → numbers_by o ≡ None → IsSomeAnd o (λ r. IsTrue (is_base r)) → ⊥
    no-file None e is = is
    no-file (Some r) e is = let never = sym (ap (λ b. if b then Some (numbers_in r) else None) is) ∙ e in some-none never
      where
        some-none : Some (numbers_in r) ≡ None → ⊥
        some-none e = cc

    by : (o : Option Numbers) → numbers_at (records_of v) g ≡ o → IsFile v g → Contains (all_links v) (link_for g name)
    by None at file = absurd (no-file (record_on v g) at file)
    by (Some numbers) at file =
        let here = file-links (records_of v) g (record_on v g) ∙ ap (λ o. links_by g o (names_of (records_of v) g)) at in
        let l = Contains-map (referred g numbers.sequence) (names_of (records_of v) g) name among in
        Contains-map link_by (flat_map (by_file (records_of v)) (range_with_len 0 v.layout.count)) (referred g numbers.sequence name)
        (Contains-flat_map (by_file (records_of v)) (range_with_len 0 v.layout.count) g (referred g numbers.sequence name)
        (Contains-range 0 v.layout.count g (omega arith) (let i = number-inside v g numbers at in omega (arith, i)))
        (subst (λ l. Contains l (referred g numbers.sequence name)) (sym here) l))

-- .. and of the tree, shown or hidden.
kept-link : (v : VolumeView) (test : Link → Bool) (link : Link) → Contains (all_links v) link → test link ≡ true
    → (l : Link) × (l ≡ link) × Contains (in_order (link_above (volume_fold v)) (filter test (all_links v))) l
kept-link v test link there passes =
    let all = filter test (all_links v) in
    let w = SameItems-passing (is_link link) all (in_order (link_above (volume_fold v)) all) link
    (in_order-items (link_above (volume_fold v)) all) (Contains-filter test (all_links v) link there passes) (is_link-itself link) in
    (w.0, sym (is_link-exact link w.0 w.2), w.1)

shown-link : (v : VolumeView) (link : Link) → Contains (all_links v) link → is_hidden_link v link ≡ false → Contains (read v).links link
unfolding read
shown-link v link there shown =
    let w = kept-link v (λ l. not (is_hidden_link v l)) link there (ap not shown) in
    subst (Contains (read v).links) w.1 w.2

hidden-link : (v : VolumeView) (link : Link) → Contains (all_links v) link → is_hidden_link v link ≡ true → Contains (read v).hidden link
unfolding read
hidden-link v link there hides =
    let w = kept-link v (is_hidden_link v) link there hides in
    subst (Contains (read v).hidden) w.1 w.2

every-link : (v : VolumeView) (link : Link) → Contains (all_links v) link → Contains (every_link (read v)) link
every-link v link there = elim (cases_Bool (is_hidden_link v link)) [
  | inl hides ↦ Contains-append_right (read v).links (read v).hidden link (hidden-link v link there hides)
  | inr shown ↦ Contains-append_left (read v).links (read v).hidden link (shown-link v link there shown)
]

-- ITS DIRECTORY has an entry of the file.
leads : (files : List ℕ) (g : ℕ) → is_one_of files g ≡ true → list_any (λ f. g == f) files ≡ true
leads [] g is = is
leads (f ∷ files) g is = by (leads files g) (cases_eq g f)
  where
    by : (is_one_of files g ≡ true → list_any (λ f. g == f) files ≡ true) → (g ≡ f) ⊎ (g ≢ f)
        → ((g == f) || list_any (λ f. g == f) files) ≡ true
    by rest (inl e) = ap (λ b. b || list_any (λ f. g == f) files) (eq-eqb g f e)
    by rest (inr ne) =
        ap (λ b. b || list_any (λ f. g == f) files) (ne_eqb g f ne)
        ∙ rest (sym (ap (λ b. b || is_one_of files g) (ne_eqb f g (λ e. ne (sym e)))) ∙ is)

pub told-entry : (v : VolumeView) → IsBetween v → (files : List ℕ) (g : ℕ) (name : FileName) → is_one_of files g ≡ true
    → Contains (names_of (records_of v) g) name → has_entry_of (read v) files name.parent.number ≡ true
told-entry v between files g name of among =
    let dir = name.parent.number in
    any-found (λ link. is_in dir link && leads_among files link) (every_link (read v)) (link_for g name)
    (every-link v (link_for g name) (link-there v g name (between-bases v between) among))
    (and_from (dir == dir) (leads_among files (link_for g name)) (eq-eqb dir dir refl) (leads files g of))

pub told-entries : (v : VolumeView) → IsBetween v → (files : List ℕ) (entries : List (ℕ × FileName))
    → ((entry : ℕ × FileName) → Contains entries entry
    → (is_one_of files entry.0 ≡ true) × Contains (names_of (records_of v) entry.0) entry.1)
    → (before : Tree) → AreToldIn (λ dir. has_entry_of before files dir || has_entry_of (read v) files dir) entries
told-entries v between files entries each before entry there =
    let e = each entry there in
    either-one (has_entry_of before files entry.1.parent.number) _ (told-entry v between files entry.0 entry.1 e.0 e.1)
  where
    either-one : (a b : Bool) → b ≡ true → (a || b) ≡ true
    either-one true b e = refl
    either-one false b e = e

-- THE LINKS THAT GO are those of the names that go.
gone-among : (all : List FileName) (name one : FileName) → Contains all name → Contains (gone_names all name) one → Contains all one
gone-among all name one among there = elim (Contains-cases name _ one there) [
  | inl e ↦ subst (Contains all) e among
  | inr later ↦ by (is_only_long all name) later
]
  where
    by : (b : Bool) → Contains (if b then filter (is_dos_in name.parent.number) all else []) one → Contains all one
    by true c = (Contains-from_filter (is_dos_in name.parent.number) all one c).0
    by false c = absurd (Contains-nil one c)

abbrev gone_links : VolumeView → ℕ → FileName → List Link
gone_links old f name = map (link_for f) (gone_names (names_of (records_of old) f) name)

pub dropped-values : (old new : VolumeView) → IsBetween old → (f : ℕ) (node : Node) → node_at old f ≡ Some node → f ≢ ROOT
    → (name : FileName) → Contains (names_of (records_of old) f) name
    → AreDropped (read old) (link_for f name) (map (link_for f) (gone_names (names_of (records_of old) f) name))
    → (g : ℕ) → KeepsNamesBut (map (link_for f) (gone_names (names_of (records_of old) f) name)) old new g
    → KeepsNamesBut (links_with (read old) (link_for f name)) old new g
dropped-values old new between f node there away name among dropped g kept told at stays =
    kept told at (elim (cases_Bool (list_any (is_link (link_told g told)) (gone_links old f name))) [
      | inr none ↦ none
      | inl some ↦ absurd (never some)
    ])
  where
    never : list_any (is_link (link_told g told)) (gone_links old f name) ≡ true → ⊥
    never some =
        let w = passing (is_link (link_told g told)) (gone_links old f name)
        (some-counted (is_link (link_told g told)) (gone_links old f name) some) in
        let m = Contains-from_map (link_for f) (gone_names (names_of (records_of old) f) name) w.0 w.1 in
        let seen = or_from (f == ROOT) (is_hidden (records_of old) f) (ne_eqb f ROOT away) (is_shown old f node there).shown in
        let link = link_for f m.0 in
        let inside = shown-link old link
        (link-there old f m.0 (between-bases old between) (gone-among (names_of (records_of old) f) name m.0 among m.1)) seen in
        let same : w.0 ≡ link = sym m.2 in
        let goes : goes_with (read old) (link_for f name) link ≡ true = dropped link inside
        ∙ any-found (λ one. is_link one link) (gone_links old f name) w.0 w.1
        (subst (λ l. is_link l link ≡ true) (sym same) (is_link-itself link)) in
        let among_all = Contains-filter (goes_with (read old) (link_for f name)) (read old).links link inside goes in
        let no = none-among (is_link (link_told g told)) (links_with (read old) (link_for f name)) link stays among_all in
        let yes = subst (λ l. is_link (link_told g told) l ≡ true) same w.2 in
        let contradiction : true ≡ false = sym yes ∙ no in
        cc
