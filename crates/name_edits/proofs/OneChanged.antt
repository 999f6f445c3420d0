-- The clause on links where the names of one file changed: all others keep what it asks, and their way up.
use Rattle.std.proofs.Common.{Bool, IsSomeAnd, IsTrue, None, Option, Some, ap, arith, eq-eqb, eqb, eqb-true, false, if◌then◌else◌, inl}
use Rattle.std.proofs.Common.{inr, refl, subst, suc, sym, true, zero, ℕ, ◌&&◌, ◌==◌, ◌||◌, ◌∙◌, ◌≡◌, ◌≢◌}
use Rattle.std.specs.List.{list_any}
use Rattle.std.specs.Prelude.{option_map}
use Rattle.std.proofs.lemmas.Bool.{and_from, and_parts, cases_eq}
use Rattle.std.proofs.lemmas.List.Elements.{All-contains}
use Rattle.list_laws.proofs.FindLaws.{find-one}
use Rattle.list_laws.proofs.SameItemsLaws.{SameItems-passing}
use Rattle.ntfs_def.specs.FileName.{FileName}
use Rattle.ntfs_def.specs.declared.records.TheConstants.{ROOT}
use Rattle.volume_def.specs.FileNames.{is_not_dos, names_of}
use Rattle.volume_def.specs.Files.{Record, is_base, is_directory, record_on, records_of}
use Rattle.volume_def.specs.LinksClause.{MeetsLinks, ReachesRoot, parent_of, steps_up}
use Rattle.volume_def.specs.ReferencesClause.{MeetsReferences}
use Rattle.volume_def.specs.View.{VolumeView}
use Rattle.tree_model.proofs.ClimbLaws.{Climbs, IsDirectoryOf, climbs, way}
use Rattle.tree_model.proofs.ParentLaws.{HasName}
use Rattle.edit_def.specs.Names.{HasRightNames, KeepsOthers, Numbers, StandRightly, is_directory_by, is_directory_in, numbers_at}
use Rattle.edit_def.specs.Names.{numbers_by, numbers_in}
use Rattle.edit_def.proofs.NamesLaws.{past}
use Rattle.name_edits.proofs.RightNames.{directory-of, meets-names, names-meets, right-same}

-- ONE FILE CHANGED. All others keep what the clause asks, and their way up, where each name of the new volume stands rightly.
module _ (old new : VolumeView) (f : ℕ)
    (references : (n : ℕ) → MeetsReferences (records_of old) n) (links : (n : ℕ) → MeetsLinks (records_of old) n)
    (stand : StandRightly (records_of new)) (others : KeepsOthers (records_of old) (records_of new) f) where
  -- the directory above another one is the same, and a directory
  parent-kept : (g : ℕ) → g ≢ f → (has : HasName (records_of old) g)
      → (parent_of (records_of new) g ≡ Some has.name.parent.number) × IsDirectoryOf new has.name.parent.number
  parent-kept g ne has =
      let same = (others g ne).names in
      let dir = has.name.parent.number in
      let test : FileName → Bool = λ name. is_not_dos name && (name.parent.number == dir) in
      let w = SameItems-passing test (names_of (records_of old) g) (names_of (records_of new) g) has.name same has.there
      (and_from (is_not_dos has.name) (dir == dir) has.not_dos (eq-eqb dir dir refl)) in
      let t = and_parts (is_not_dos w.0) (w.0.parent.number == dir) w.2 in
      let e = eqb-true w.0.parent.number dir t.1 in
      let c = same.counts is_not_dos in
      let one = has.once in
      let found = find-one is_not_dos (names_of (records_of new) g) w.0 (omega (arith, c, one)) w.1 t.0 in
      let is = All-contains (λ (name : FileName). IsTrue (is_directory_in (records_of new) name.parent)) (names_of (records_of new) g) w.0
      (stand g) w.1 in (
        ap (option_map (λ (name : FileName). name.parent.number)) found ∙ ap Some e,
        subst (IsDirectoryOf new) e (directory-of (record_on new w.0.parent.number) w.0.parent.sequence is),
      )

  -- a way that does not pass f
  pub reaches-past : (m g : ℕ) → (c : Climbs old m g) → list_any (eqb f) (way old m g c) ≡ false → ReachesRoot (records_of new) g
  reaches-past zero g c past = (0, ap Some c)
  reaches-past (suc m) g (ne, has, c) past = by (λ rest. reaches-past m has.name.parent.number c rest) (eqb f g) refl past
    where
      by : (list_any (eqb f) (way old m has.name.parent.number c) ≡ false → ReachesRoot (records_of new) has.name.parent.number)
          → (b : Bool) → eqb f g ≡ b → (b || list_any (eqb f) (way old m has.name.parent.number c)) ≡ false → ReachesRoot (records_of new) g
      by ih true e past = cc
      by ih false e past =
          let p = parent-kept g (λ same. differ same e) has in
          let up = ih past in
          (suc up.0, ap (steps_up up.0 (records_of new)) p.0 ∙ up.1)
        where
          differ : g ≡ f → eqb f g ≡ false → ⊥
          differ same e = let t = eq-eqb f g (sym same) in let never = sym t ∙ e in cc

  -- and any way, where f itself has one if it is a directory now
  pub reaches : (IsDirectoryOf new f → ReachesRoot (records_of new) f) → (m g : ℕ) → Climbs old m g → IsDirectoryOf new g
      → ReachesRoot (records_of new) g
  reaches own zero g c dir = (0, ap Some c)
  reaches own (suc m) g (ne, has, c) dir = elim (cases_eq g f) [
    | inl e ↦ subst (ReachesRoot (records_of new)) (sym e) (own (subst (IsDirectoryOf new) e dir))
    | inr other ↦
        let p = parent-kept g other has in
        let up = reaches own m has.name.parent.number c p.1 in
        (suc up.0, ap (steps_up up.0 (records_of new)) p.0 ∙ up.1)
  ]

  same-directory : (a b : Option Record) → numbers_by b ≡ numbers_by a → IsSomeAnd b (λ r. IsTrue (is_base r) × IsTrue (is_directory r))
      → IsSomeAnd a (λ r. IsTrue (is_base r) × IsTrue (is_directory r))
  same-directory a None e dir = absurd dir
  same-directory a (Some r) e dir =
      let numbers : numbers_by (Some r) ≡ Some (numbers_in r) = ap (λ b. if b then Some (numbers_in r) else None) dir.0 in
      directory-of a r.header.sequence (ap (λ o. is_directory_by o r.header.sequence) (sym e ∙ numbers)
      ∙ and_from (is_directory r) (r.header.sequence == r.header.sequence) dir.1 (eq-eqb r.header.sequence r.header.sequence refl))

  pub was-directory : (g : ℕ) → g ≢ f → IsDirectoryOf new g → IsDirectoryOf old g
  was-directory g ne dir = same-directory (record_on old g) (record_on new g) (others g ne).numbers dir

  pub is-directory : (g : ℕ) → g ≢ f → IsDirectoryOf old g → IsDirectoryOf new g
  is-directory g ne dir = same-directory (record_on new g) (record_on old g) (sym (others g ne).numbers) dir

  -- THE LAW: the clause holds of all files once it holds of the names of f, and f reaches the root where it is a directory.
  pub links-changed : f ≢ ROOT
      → ((numbers : Numbers) → numbers_at (records_of new) f ≡ Some numbers → HasRightNames f numbers (names_of (records_of new) f))
      → (IsDirectoryOf new f → ReachesRoot (records_of new) f) → (n : ℕ) → MeetsLinks (records_of new) n
  links-changed away right own n = elim (cases_eq n f) [
    | inl e ↦ subst (MeetsLinks (records_of new)) (sym e) (meets-names new f right (λ ne dir. own dir) (λ root. absurd (away root)))
    | inr ne ↦ meets-names new n
        (λ numbers at. right-same n numbers (names_of (records_of old) n) (names_of (records_of new) n) (others n ne).names
        (names-meets (records_of old) n numbers (links n) (sym (others n ne).numbers ∙ at)))
        (λ other dir. let c = climbs old references links n (was-directory n ne dir) in reaches own c.0 n c.1 dir)
        (λ root. is-directory ROOT (λ e. away (sym e)) ((links ROOT).root refl))
  ]
