-- WHETHER A FILE CAN BE EDITED, a hidden one too, by what it tells of its names.
use Rattle.std.proofs.Common.{◌≡◌, ◌<◌, ◌≤◌, ◌%◌, ◌==◌, ◌&&◌, ◌||◌, ℕ, not, Bool, true, false, cond, List, [], ◌++◌, length, filter, map}
use Rattle.std.proofs.Common.{Option, Some, None, refl, sym, ap, subst, inl, inr, ◌∙◌, arith}
use Rattle.std.proofs.lemmas.Bool.{and_from, and_parts, cases_lt, eq-eqb, eqb-true, le-ltb, lt-ltb}
use Rattle.std.proofs.lemmas.List.Elements.{Contains-append_cases, Contains-append_left, Contains-append_right}
use Rattle.std.specs.List.{Contains, list_any, range_with_len}
use Rattle.std.specs.Prelude.{IsSomeAnd, IsTrue, nat_lt}
use Rattle.list_laws.proofs.FindLaws.{any-found, count-some, passing, some-counted}
use Rattle.list_laws.proofs.MemberLaws.{Contains-filter, Contains-flat_map, Contains-from_filter, Contains-from_map, Contains-map}
use Rattle.list_laws.proofs.MemberLaws.{Contains-range}
use Rattle.list_laws.proofs.OrderedLaws.{Contains-from_in_order, count-in_order}
use Rattle.list_laws.specs.Ordered.{in_order}
use Rattle.ntfs_def.specs.FileName as names
use Rattle.ntfs_def.specs.declared.lengths.TheConstants.{RECORD}
use Rattle.volume_def.specs.CaseClause.{volume_fold}
use Rattle.volume_def.specs.FileNames.{links, links_of_file, names_of}
use Rattle.volume_def.specs.Files.{Record, is_base, record_on, records_of}
use Rattle.volume_def.specs.Sound.{IsSound}
use Rattle.volume_def.specs.View.{VolumeView}
use Rattle.tree_model.specs.Facts.{is_whole_table}
use Rattle.tree_model.specs.Reading.{all_links, is_hidden_link, link_by, link_for, links_to, read}
use Rattle.tree_model.specs.Staging.{cannot_edit}
use Rattle.tree_model.specs.Tree.{leads_to, link_above}
use Rattle.tree_model.specs.Ways.{has_copied_name, stands_in_copied}
use Rattle.tree_model.specs.declared.tree.Link.{Link}
use Rattle.tree_model.proofs.ShownLaws.{link-named}
use Rattle.mft_table.specs.declared.mounted.Mounted.{Mounted}
use Rattle.file_record.specs.Base.{HasHeader}
use Rattle.file_record.specs.declared.base.BaseFile.{BaseFile}
use Rattle.tree_edit.specs.FileLinks.{links_held}
use Rattle.tree_edit.specs.Nodes.{IsFileHeld, number_of}
use Rattle.tree_edit.proofs.OutlineLaws.{links-told}
use Rattle.tree_edit.specs.Settable.{is_editable}

same-truth : (a b : Bool) → (a ≡ true → b ≡ true) → (b ≡ true → a ≡ true) → a ≡ b
same-truth true true there back = refl
same-truth true false there back = sym (there refl)
same-truth false true there back = back refl
same-truth false false there back = refl

-- a record that is there is one of the table
pub on-inside : (view : VolumeView) (f : ℕ) (r : Record) → record_on view f ≡ Some r → f < view.layout.count
on-inside view f r on = elim (cases_lt f view.layout.count) [
  | inl lt ↦ lt
  | inr high ↦ absurd (never (sym (past high) ∙ on))
]
  where
    past : view.layout.count ≤ f → record_on view f ≡ None
    past high = rw (le-ltb f view.layout.count high) refl

    never : ◌≡◌ {A = Option Record} None (Some r) → ⊥
    never e = cc

module _ (view : VolumeView) (f : ℕ) (r : Record) (on : record_on view f ≡ Some r) (base : is_base r ≡ true) where
  -- A NAME of the file is a link of the volume
  link-of : (name : names.FileName) → Contains (names_of (records_of view) f) name → Contains (all_links view) (link_for f name)
  unfolding all_links links
  link-of name there =
      let records = records_of view in
      let named : names.FileName → names.Link = λ n. record { file = record { number = f; sequence = r.header.sequence }; name = n } in
      let mine : Contains (links_of_file records f (Some r)) (named name) =
      subst (λ b. Contains (cond b (map named (names_of records f)) []) (named name)) (sym base)
      (Contains-map named (names_of records f) name there) in
      let inside = on-inside view f r on in
      Contains-map link_by (links records) (named name)
      (Contains-flat_map (λ g. links_of_file records g (records.record_at g)) (range_with_len 0 records.count) f (named name)
      (Contains-range 0 records.count f (omega arith) (omega (arith, inside)))
      (subst (λ o. Contains (links_of_file records f o) (named name)) (sym on) mine))

  abbrev leads : Link → Bool
  leads link = leads_to f link && stands_in_copied link

  abbrev all : List Link
  all = all_links view

  -- a link that passes stands among those that the reading keeps
  kept : (x : Link) → Contains all x → leads x ≡ true → (keep : Link → Bool) → keep x ≡ true
      → (y : Link) × Contains (in_order (link_above (volume_fold view)) (filter keep all)) y × (leads y ≡ true)
  kept x c passes keep is =
      let above = link_above (volume_fold view) in
      passing leads (in_order above (filter keep all))
      (subst (λ n. 1 ≤ n) (sym (count-in_order above leads (filter keep all)))
      (count-some leads (filter keep all) x (Contains-filter keep all x c is) passes))

  there : list_any stands_in_copied (links_to view f) ≡ true → list_any leads ((read view).links ++ (read view).hidden) ≡ true
  unfolding read
  there any =
      let one = passing stands_in_copied (links_to view f) (some-counted stands_in_copied (links_to view f) any) in
      let named = Contains-from_map (link_for f) (names_of (records_of view) f) one.0 one.1 in
      let led : Contains all one.0 = subst (λ (l : Link). Contains all l) named.2 (link-of named.0 named.1) in
      let child : f ≡ one.0.child = ap (λ (l : Link). l.child) named.2 in
      by one.0 led (and_from (leads_to f one.0) (stands_in_copied one.0) (eq-eqb one.0.child f (sym child)) one.2)
      (is_hidden_link view one.0) refl
    where
      by : (x : Link) → Contains all x → leads x ≡ true → (b : Bool) → is_hidden_link view x ≡ b
          → list_any leads ((read view).links ++ (read view).hidden) ≡ true
      by x c passes true e =
          let y = kept x c passes (is_hidden_link view) e in
          any-found leads ((read view).links ++ (read view).hidden) y.0
          (Contains-append_right (read view).links (read view).hidden y.0 y.1) y.2
      by x c passes false e =
          let y = kept x c passes (λ l. not (is_hidden_link view l)) (ap not e) in
          any-found leads ((read view).links ++ (read view).hidden) y.0
          (Contains-append_left (read view).links (read view).hidden y.0 y.1) y.2

  back : list_any leads ((read view).links ++ (read view).hidden) ≡ true → list_any stands_in_copied (links_to view f) ≡ true
  unfolding read
  back any =
      let both = (read view).links ++ (read view).hidden in
      let one = passing leads both (some-counted leads both any) in
      let parts = and_parts (leads_to f one.0) (stands_in_copied one.0) one.2 in
      let named = link-named view one.0 (from one.0 one.1) in
      let same : one.0.child ≡ f = eqb-true one.0.child f parts.0 in
      any-found stands_in_copied (links_to view f) one.0
      (subst (λ (l : Link). Contains (links_to view f) l) (ap (λ k. link_for k named.name) (sym same) ∙ named.same)
      (Contains-map (link_for f) (names_of (records_of view) f) named.name
      (subst (λ k. Contains (names_of (records_of view) k) named.name) same named.there)))
      parts.1
    where
      from : (x : Link) → Contains ((read view).links ++ (read view).hidden) x → Contains all x
      from x c = elim (Contains-append_cases (read view).links (read view).hidden x c) [
        | inl shown ↦ let keep : Link → Bool = λ l. not (is_hidden_link view l) in
            (Contains-from_filter keep all x (Contains-from_in_order (link_above (volume_fold view)) (filter keep all) x shown)).0
        | inr hidden ↦
            (Contains-from_filter (is_hidden_link view) all x
            (Contains-from_in_order (link_above (volume_fold view)) (filter (is_hidden_link view) all) x hidden)).0
      ]

  pub copied-is : has_copied_name (read view) f ≡ list_any stands_in_copied (links_to view f)
  copied-is = same-truth _ _ back there

-- WHAT IS ASKED OF A FILE THAT IS HELD says whether it can be edited.
module _ (view : VolumeView) (mounted : Mounted) (held : BaseFile) (is : IsFileHeld view (number_of held) held) (sound : IsSound view)
    (whole : view.layout.initialized ≡ mounted.initialized) (count : view.layout.count ≡ length mounted.records) where
  abbrev number : ℕ
  number = number_of held

  told-links : links_held held.parts ≡ links_to view number
  told-links = links-told view number held is sound

  by-base : (o : Option Record) → record_on view number ≡ o → IsSomeAnd o (λ r. IsTrue (is_base r) × HasHeader held.header r)
      → (has_copied_name (read view) number ≡ list_any stands_in_copied (links_held held.parts)) × (number < view.layout.count)
  by-base None at base = absurd base
  by-base (Some r) at base =
      (copied-is view number r at base.0 ∙ ap (list_any stands_in_copied) (sym told-links), on-inside view number r at)

  pub cannot-file : cannot_edit (is_whole_table view) (read view) number ≡ not (is_editable mounted held.parts)
  cannot-file =
      let b = by-base (record_on view number) refl is.base in
      let inside : nat_lt number (length mounted.records) ≡ true = lt-ltb number (length mounted.records) (omega (arith, count, b.1)) in
      ap (λ c. not (is_whole_table view) || c) b.0
      ∙ by (is_whole_table view) (mounted.initialized % RECORD == 0) (ap (λ n. n % RECORD == 0) whole)
      ∙ ap (λ b. not ((mounted.initialized % RECORD == 0) && (b && not (list_any stands_in_copied (links_held held.parts))))) (sym inside)
    where
      by : (a b : Bool) → a ≡ b
          → (not a || list_any stands_in_copied (links_held held.parts))
          ≡ not (b && not (list_any stands_in_copied (links_held held.parts)))
      by true true e = last (list_any stands_in_copied (links_held held.parts))
        where
          last : (c : Bool) → c ≡ not (not c)
          last true = refl
          last false = refl
      by false false e = refl
      by true false e = cc
      by false true e = cc

  pub editable-is : is_editable mounted held.parts ≡ not (cannot_edit (is_whole_table view) (read view) number)
  editable-is = sym (ap not cannot-file ∙ twice (is_editable mounted held.parts))
    where
      twice : (b : Bool) → not (not b) ≡ b
      twice true = refl
      twice false = refl
