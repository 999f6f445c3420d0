-- Directories in which no name stands.
use Rattle.std.proofs.Common.{IsSomeAnd, IsTrue, List, None, Option, Some, [], ap, arith, eq-eqb, false, filter, if◌then◌else◌, length}
use Rattle.std.proofs.Common.{refl, subst, sym, true, ℕ, ◌&&◌, ◌<◌, ◌∙◌, ◌∷◌, ◌≡◌, ◌≢◌}
use Rattle.std.specs.List.{Contains, flat_map, range_with_len}
use Rattle.std.specs.Prelude.{count_by}
use Rattle.std.proofs.lemmas.Bool.{and_from, lt-ltb}
use Rattle.list_laws.proofs.FindLaws.{count-some, count-yes}
use Rattle.list_laws.proofs.MemberLaws.{All-from_Contains, Contains-flat_map, Contains-map, Contains-range}
use Rattle.list_laws.proofs.SameItemsLaws.{count-filter}
use Rattle.ntfs_def.specs.FileName.{FileName}
use Rattle.volume_def.specs.CaseClause.{volume_fold}
use Rattle.volume_def.specs.FileNames.{links, names_of}
use Rattle.volume_def.specs.Files.{Record, is_base, record_on, records_of}
use Rattle.volume_def.specs.Readable.{IsFile}
use Rattle.volume_def.specs.View.{VolumeView}
use Rattle.tree_model.specs.Cases.{has_links}
use Rattle.tree_model.specs.Paths.{links_in_order}
use Rattle.tree_model.specs.Reading.{all_links, directory_links, link_by, link_for, read}
use Rattle.tree_model.specs.Tree.{is_in, link_above, links_in}
use Rattle.tree_model.proofs.ReadingLaws.{links_in_order-read}
use Rattle.edit_def.specs.Names.{HasNoNames, HasRightBases, Numbers, numbers_at, numbers_by, numbers_in}
use Rattle.edit_def.proofs.LinkLaws.{by_file, file-links, links_by, referred}
use Rattle.edit_def.proofs.NamesLaws.{number-inside}
use Rattle.name_edits.proofs.HiddenFiles.{name-file}
use Rattle.name_edits.proofs.ListTests.{count-implied, in_order-items}

-- NOT EMPTY: by the tree a directory without links is one in which no name stands.
pub empty-names : (v : VolumeView) (dir : ℕ) → HasRightBases (records_of v) → has_links (read v) dir ≡ false → HasNoNames (records_of v) dir
unfolding all_links links links_in_order directory_links
empty-names v dir bases none g =
    All-from_Contains (λ (name : FileName). name.parent.number ≢ dir) (names_of (records_of v) g) (λ name c e. stands name c e)
  where
    link-there : (name : FileName) → Contains (names_of (records_of v) g) name → (o : Option Numbers) → numbers_at (records_of v) g ≡ o
        → IsFile v g
        → Contains (all_links v) (link_for g name)
    link-there name c None at file = absurd (no-file (record_on v g) at file)
      where
        no-file : (o : Option Record) → numbers_by o ≡ None → IsSomeAnd o (λ r. IsTrue (is_base r)) → ⊥
        no-file None e is = is
        no-file (Some r) e is = let never = sym (ap (λ b. if b then Some (numbers_in r) else None) is) ∙ e in some-none never
          where
            some-none : Some (numbers_in r) ≡ None → ⊥
            some-none e = cc
    link-there name c (Some numbers) at file =
        let here = file-links (records_of v) g (record_on v g) ∙ ap (λ o. links_by g o (names_of (records_of v) g)) at in
        let l = Contains-map (referred g numbers.sequence) (names_of (records_of v) g) name c in
        Contains-map link_by (flat_map (by_file (records_of v)) (range_with_len 0 v.layout.count)) (referred g numbers.sequence name)
        (Contains-flat_map (by_file (records_of v)) (range_with_len 0 v.layout.count) g (referred g numbers.sequence name)
        (Contains-range 0 v.layout.count g (omega arith) (let i = number-inside v g numbers at in omega (arith, i)))
        (subst (λ l. Contains l (referred g numbers.sequence name)) (sym here) l))

    stands : (name : FileName) → Contains (names_of (records_of v) g) name → name.parent.number ≡ dir → ⊥
    stands name c e =
        let file = name-file v g name bases c in
        let l = link-there name c (numbers_at (records_of v) g) refl file in
        let some = count-some (is_in dir) (all_links v) (link_for g name) l (eq-eqb name.parent.number dir e) in
        let a = count-filter (is_in dir) (λ _. true) (all_links v) in
        let b = count-implied (is_in dir) (λ x. is_in dir x && true) (all_links v) (λ x t. and_from (is_in dir x) true t refl) in
        let x = (in_order-items (link_above (volume_fold v)) (filter (is_in dir) (all_links v))).counts (λ _. true) in
        let y = (in_order-items (link_above (read v).fold) (links_in (read v) dir)).counts (λ _. true) in
        let z = ap (count_by (λ _. true)) (links_in_order-read v dir) in
        let n = count-all (links_in (read v) dir) in
        let long : 0 < length (links_in (read v) dir) = omega (arith, some, a, b, x, y, z, n) in
        let never : true ≡ false = sym (lt-ltb 0 (length (links_in (read v) dir)) long) ∙ none in
        cc
      where
        count-all : {A : Type 0} (xs : List A) → count_by (λ _. true) xs ≡ length xs
        count-all [] = refl
        count-all (x ∷ xs) = let c = count-yes (λ _. true) x xs refl in let r = count-all xs in omega (arith, c, r)
