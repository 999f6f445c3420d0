-- A FILE HAS AN ENTRY in each directory in which it has a name.
use Rattle.std.proofs.Common.{◌≡◌, ◌<◌, ◌≤◌, ◌&&◌, ◌||◌, not, ℕ, Bool, true, false, cond, List, [], ◌∷◌, ◌++◌, map, filter}
use Rattle.std.proofs.Common.{Option, Some, None, inl, inr, refl, sym, ap, subst, ◌∙◌, arith}
use Rattle.std.proofs.lemmas.Bool.{and_from, cases_lt, eq-eqb}
use Rattle.std.proofs.lemmas.List.Elements.{Contains-append_left, Contains-append_right}
use Rattle.std.specs.List.{Contains, list_any, range_with_len}
use Rattle.std.specs.Prelude.{IsSomeAnd, IsTrue}
use Rattle.list_laws.proofs.FindLaws.{any-found, count-some, passing}
use Rattle.list_laws.proofs.MemberLaws.{Contains-filter, Contains-flat_map, Contains-map, Contains-range}
use Rattle.list_laws.proofs.OrderedLaws.{count-in_order}
use Rattle.list_laws.specs.Ordered.{in_order}
use Rattle.ntfs_def.specs.FileName as names
use Rattle.volume_def.specs.CaseClause.{volume_fold}
use Rattle.volume_def.specs.FileNames.{links, links_of_file, names_of}
use Rattle.volume_def.specs.Files.{Record, is_base, record_on, records_of}
use Rattle.volume_def.specs.Readable.{IsFile}
use Rattle.volume_def.specs.View.{VolumeView}
use Rattle.tree_model.specs.Reading.{all_links, is_hidden_link, link_by, link_for, read}
use Rattle.tree_model.specs.Tree.{is_in, link_above}
use Rattle.tree_model.specs.declared.tree.Link.{Link}
use Rattle.edit_def.proofs.NamesLaws.{past}
use Rattle.session_def.specs.Named.{has_entry_of, leads_among}
use Rattle.session_def.specs.State.{Stands, State}

module _ (view : VolumeView) (f : ℕ) (name : names.FileName) (there : Contains (names_of (records_of view) f) name) where
  abbrev link : Link
  link = link_for f name

  -- its link is one of the volume
  link-of : (o : Option Record) → record_on view f ≡ o → IsSomeAnd o (λ r. IsTrue (is_base r)) → Contains (all_links view) link
  unfolding all_links links
  link-of None at file = absurd file
  link-of (Some r) at file =
      let records = records_of view in
      let named : names.FileName → names.Link = λ n. record { file = record { number = f; sequence = r.header.sequence }; name = n } in
      let mine : Contains (links_of_file records f (Some r)) (named name) =
      subst (λ b. Contains (cond b (map named (names_of records f)) []) (named name)) (sym file)
      (Contains-map named (names_of records f) name there) in
      let inside : f < view.layout.count = elim (cases_lt f view.layout.count) [
        | inl lt ↦ lt
        | inr high ↦ let none = sym at ∙ past view f high in absurd (never none)
      ] in
      Contains-map link_by (links records) (named name)
      (Contains-flat_map (λ g. links_of_file records g (records.record_at g)) (range_with_len 0 records.count) f (named name)
      (Contains-range 0 records.count f (omega arith) (omega (arith, inside)))
      (subst (λ o. Contains (links_of_file records f o) (named name)) (sym at) mine))
    where
      never : ◌≡◌ {A = Option Record} (Some r) None → ⊥
      never e = cc

  abbrev dir : ℕ
  dir = name.parent.number

  abbrev is_entry : Link → Bool
  is_entry l = is_in dir l && leads_among (f ∷ []) l

  own : is_entry link ≡ true
  own = and_from (is_in dir link) (leads_among (f ∷ []) link) (eq-eqb dir dir refl) (ap (λ b. b || false) (eq-eqb f f refl))

  kept : (all : List Link) → Contains all link → (test : Link → Bool) → test link ≡ true
      → (x : Link) × Contains (in_order (link_above (volume_fold view)) (filter test all)) x × (is_entry x ≡ true)
  kept all c test is =
      let above = link_above (volume_fold view) in
      passing is_entry (in_order above (filter test all))
      (subst (λ n. 1 ≤ n) (sym (count-in_order above is_entry (filter test all)))
      (count-some is_entry (filter test all) link (Contains-filter test all link c is) own))

  entry-in : Contains (all_links view) link → has_entry_of (read view) (f ∷ []) dir ≡ true
  unfolding read
  entry-in c = by (is_hidden_link view link) refl
    where
      by : (b : Bool) → is_hidden_link view link ≡ b → list_any is_entry ((read view).links ++ (read view).hidden) ≡ true
      by true e =
          let x = kept (all_links view) c (is_hidden_link view) e in
          any-found is_entry ((read view).links ++ (read view).hidden) x.0
          (Contains-append_right (read view).links (read view).hidden x.0 x.1) x.2
      by false e =
          let x = kept (all_links view) c (λ l. not (is_hidden_link view l)) (ap not e) in
          any-found is_entry ((read view).links ++ (read view).hidden) x.0
          (Contains-append_left (read view).links (read view).hidden x.0 x.1) x.2

pub entry-there : (before : State) → Stands before → (f : ℕ) (name : names.FileName) → IsFile before.view f
    → Contains (names_of (records_of before.view) f) name → has_entry_of before.machine.tree (f ∷ []) name.parent.number ≡ true
entry-there before stands f name file there =
    subst (λ tree. has_entry_of tree (f ∷ []) name.parent.number ≡ true) stands.reading
    (entry-in before.view f name there (link-of before.view f name there (record_on before.view f) refl file))
