-- Between calls: a file got a name, lost one, or the entry of one was told anew.
use Rattle.std.proofs.Common.{Bool, List, Some, [], ap, arith, inl, inr, refl, subst, sym, true, false, ℕ, ◌+◌, ◌∙◌, ◌∷◌, ◌≡◌, ◌≢◌, ◌≤◌}
use Rattle.std.proofs.lemmas.Bool.{cases_eq, ne_eqb, or_from}
use Rattle.std.specs.List.{count_by}
use Rattle.list_laws.proofs.FindLaws.{count-cons, count-no}
use Rattle.list_laws.proofs.OptionLaws.{some_same}
use Rattle.ntfs_def.specs.FileName.{FileName, Link}
use Rattle.ntfs_def.specs.declared.records.TheConstants.{EXTEND}
use Rattle.volume_def.specs.FileNames.{names_of}
use Rattle.volume_def.specs.Files.{records_of}
use Rattle.volume_def.specs.IndexesClause.{is_in_extend}
use Rattle.volume_def.specs.View.{VolumeView}
use Rattle.edit_def.specs.Account.{Wants}
use Rattle.edit_def.specs.Items.{ChangesItems}
use Rattle.edit_def.specs.Kept.{Key, either}
use Rattle.edit_def.specs.Marks.{Marks}
use Rattle.edit_def.specs.Names.{Numbers, is_directory_in, numbers_at}
use Rattle.edit_def.proofs.IndexLaws.{directory-gets, directory-gets-other, directory-loses, directory-loses-other, directory-refreshes}
use Rattle.edit_def.proofs.IndexLaws.{directory-same}
use Rattle.edit_def.proofs.LinkLaws.{links-gets, links-kept}
use Rattle.reading_edits.proofs.ReferencesAfter.{references-gets, references-kept, references-loses}
use Rattle.command_edits.specs.Between.{IsBetween}
use Rattle.command_edits.specs.Calls.{AddsLink, DropsLink, RefreshesEntry, link_with}
use Rattle.command_edits.specs.Keys.{is_index_key_of, is_name_key_of}
use Rattle.command_edits.proofs.AfterCall.{between-after, directory-was, items-same}
use Rattle.command_edits.proofs.FreeKeys.{index-no-view, name-no-view}
use Rattle.command_edits.proofs.SoundBetween.{between-indexes, between-references}

-- a name of a directory other than $Extend
away : (units : List ℕ) (name : FileName) → name.parent.number ≢ EXTEND → is_in_extend units name ≡ false
away units name ne = let e = ne_eqb name.parent.number EXTEND ne in rw e refl

-- a file's names and the index of a directory
abbrev pub link_keys : ℕ → ℕ → Key → Bool
link_keys f directory = either (is_name_key_of f) (is_index_key_of directory)

-- A NAME CAME, in a directory other than $Extend.
module _ (wants : Wants) (old new : VolumeView) (before after : Marks) (f : ℕ) (name : FileName)
    (call : AddsLink wants old new before after f name) (between : IsBetween old)
    (directory : is_directory_in (records_of old) name.parent ≡ true) (outside : name.parent.number ≢ EXTEND) where
  abbrev added : Link
  added = link_with f call.gets.was.sequence name

  was-gets : (n : ℕ) (numbers : Numbers) → numbers_at (records_of new) n ≡ Some numbers → numbers.directory ≡ true
      → (was : Numbers) × (numbers_at (records_of old) n ≡ Some was) × (was.directory ≡ true)
  was-gets n numbers at dir = elim (cases_eq n f) [
    | inl e ↦
        let here : Some (record call.gets.was { links = call.gets.was.links + 1 }) ≡ Some numbers =
        sym call.gets.now_at ∙ subst (λ k. numbers_at (records_of new) k ≡ Some numbers) e at in
        let same : record call.gets.was { links = call.gets.was.links + 1 } ≡ numbers = some_same here in
        (call.gets.was, ap (numbers_at (records_of old)) e ∙ call.gets.was_at, ap (λ (k : Numbers). k.directory) same ∙ dir)
    | inr ne ↦ (numbers, sym (call.gets.others n ne).numbers ∙ at, dir)
  ]

  pub between-adds : IsBetween new
  between-adds =
      let keys = link_keys f name.parent.number in
      let same = items-same keys wants old new before after call.edited between refl in
      let links = links-gets old new f name call.gets in
      between-after keys wants old new before after call.edited between refl
      (references-gets old new (between-references old between) call.edited.bases f name call.gets directory)
      (λ n numbers at dir.
      let w = was-gets n numbers at dir in
      let d = directory-was old n w.0 (between-indexes old between n) w.1 w.2 in
      elim (cases_eq n name.parent.number) [
        | inl e ↦
            directory-gets old new n added call.item (subst (λ k. ChangesItems old new k [] (call.item ∷ [])) (sym e) call.entry) call.link
            (sym e) links d
        | inr ne ↦
            let other = ne_eqb n name.parent.number ne in
            directory-gets-other old new n added (same n other other other) ne links d
      ])
      (λ n units some. elim (cases_eq n f) [
        | inl e ↦
            let c = call.gets.names.counts (is_in_extend units) in
            let d = count-no (is_in_extend units) name (names_of (records_of old) f) (away units name outside) in
            let s = subst (λ k. 1 ≤ count_by (is_in_extend units) (names_of (records_of new) k)) e some in
            subst (λ k. 1 ≤ count_by (is_in_extend units) (names_of (records_of old) k)) (sym e) (omega (arith, c, d, s))
        | inr ne ↦ let c = (call.gets.others n ne).names.counts (is_in_extend units) in omega (arith, c, some)
      ])
      (record {
        secure = λ units kind is of. or_from _ _ (name-no-view f _ kind units of) (index-no-view name.parent.number _ kind units is);
        others = λ n units kind is of some. or_from _ _ (name-no-view f n kind units of) (index-no-view name.parent.number n kind units is);
      })

-- A NAME WENT.
module _ (wants : Wants) (old new : VolumeView) (before after : Marks) (f : ℕ) (name : FileName)
    (call : DropsLink wants old new before after f name) (between : IsBetween old) where
  abbrev dropped : Link
  dropped = link_with f call.loses.was.sequence name

  was-loses : (n : ℕ) (numbers : Numbers) → numbers_at (records_of new) n ≡ Some numbers → numbers.directory ≡ true
      → (was : Numbers) × (numbers_at (records_of old) n ≡ Some was) × (was.directory ≡ true)
  was-loses n numbers at dir = elim (cases_eq n f) [
    | inl e ↦
        let here : Some call.loses.was ≡ Some numbers =
        sym call.loses.was_at ∙ subst (λ k. numbers_at (records_of new) k ≡ Some numbers) e at in
        let same : call.loses.was ≡ numbers = some_same here in (
          record call.loses.was { links = call.loses.was.links + 1 },
          ap (numbers_at (records_of old)) e ∙ call.loses.now_at,
          ap (λ (k : Numbers). k.directory) same ∙ dir,
        )
    | inr ne ↦ (numbers, (call.loses.others n ne).numbers ∙ at, dir)
  ]

  pub between-drops : IsBetween new
  between-drops =
      let keys = link_keys f name.parent.number in
      let same = items-same keys wants old new before after call.edited between refl in
      let links = links-gets new old f name call.loses in
      between-after keys wants old new before after call.edited between refl
      (references-loses old new (between-references old between) call.edited.bases f name call.loses)
      (λ n numbers at dir.
      let w = was-loses n numbers at dir in
      let d = directory-was old n w.0 (between-indexes old between n) w.1 w.2 in
      elim (cases_eq n name.parent.number) [
        | inl e ↦
            directory-loses old new n dropped call.item
            (subst (λ k. ChangesItems old new k (call.item ∷ []) []) (sym e) call.entry) call.link
            (sym e) links d
        | inr ne ↦
            let other = ne_eqb n name.parent.number ne in
            directory-loses-other old new n dropped (same n other other other) ne links d
      ])
      (λ n units some. elim (cases_eq n f) [
        | inl e ↦
            let c = call.loses.names.counts (is_in_extend units) in
            let d = count-cons (is_in_extend units) name (names_of (records_of new) f) in
            let s = subst (λ k. 1 ≤ count_by (is_in_extend units) (names_of (records_of new) k)) e some in
            subst (λ k. 1 ≤ count_by (is_in_extend units) (names_of (records_of old) k)) (sym e) (omega (arith, c, d, s))
        | inr ne ↦ let c = (call.loses.others n ne).names.counts (is_in_extend units) in omega (arith, c, some)
      ])
      (record {
        secure = λ units kind is of. or_from _ _ (name-no-view f _ kind units of) (index-no-view name.parent.number _ kind units is);
        others = λ n units kind is of some. or_from _ _ (name-no-view f n kind units of) (index-no-view name.parent.number n kind units is);
      })

-- AN ENTRY WAS TOLD ANEW.
module _ (wants : Wants) (old new : VolumeView) (before after : Marks) (f : ℕ) (name : FileName)
    (call : RefreshesEntry wants old new before after f name) (between : IsBetween old) where
  pub between-refreshes : IsBetween new
  between-refreshes =
      let keys = is_index_key_of name.parent.number in
      let same = items-same keys wants old new before after call.edited between refl in
      let links = links-kept old new call.names_kept in
      between-after keys wants old new before after call.edited between refl
      (references-kept old new (between-references old between) call.edited.bases call.names_kept)
      (λ n numbers at dir.
      let d = directory-was old n numbers (between-indexes old between n) (sym (call.names_kept n).numbers ∙ at) dir in
      elim (cases_eq n name.parent.number) [
        | inl e ↦
            directory-refreshes old new n call.was call.now
            (subst (λ k. ChangesItems old new k (call.was ∷ []) (call.now ∷ [])) (sym e) call.entry) call.same links d
        | inr ne ↦
            let other = ne_eqb n name.parent.number ne in
            directory-same old new n (same n other other other) links d
      ])
      (λ n units some. let c = (call.names_kept n).names.counts (is_in_extend units) in omega (arith, c, some))
      (record {
        secure = λ units kind is of. index-no-view name.parent.number _ kind units is;
        others = λ n units kind is of some. index-no-view name.parent.number n kind units is;
      })
