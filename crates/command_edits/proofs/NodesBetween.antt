-- Between calls: a file came or went without a name, or was set.
use Rattle.std.proofs.Common.{Bool, List, None, Option, Some, [], ap, arith, false, filter, inl, inr, length, map, refl, subst, sym}
use Rattle.std.proofs.Common.{true, ℕ}
use Rattle.std.proofs.Common.{◌∙◌, ◌≡◌, ◌≢◌, ◌≤◌, if◌then◌else◌}
use Rattle.std.specs.List.{Contains, range_with_len}
use Rattle.std.specs.Prelude.{IsTrue}
use Rattle.std.proofs.lemmas.Bool.{cases_eq, eqb-true, ne_eqb}
use Rattle.std.proofs.lemmas.List.Elements.{All-contains}
use Rattle.list_laws.proofs.MemberLaws.{Contains-from_filter, Contains-from_flat_map, Contains-from_map, Contains-nil, nil-from_Contains}
use Rattle.list_laws.proofs.OptionLaws.{none_other, some_same}
use Rattle.list_laws.proofs.SameItemsLaws.{SameItems-filter, SameItems-same, SameItems-sym, SameItems-trans}
use Rattle.list_laws.specs.SameItems.{SameItems}
use Rattle.ntfs_def.specs.FileName.{FileName, Link}
use Rattle.ntfs_def.specs.declared.kinds.TheConstants.{DATA}
use Rattle.ntfs_def.specs.declared.records.TheConstants.{FIRST_ORDINARY, SECURE, UPCASE}
use Rattle.volume_def.specs.FileNames.{is_in_directory, links, links_of_file, names_of}
use Rattle.volume_def.specs.Files.{Record, Records, is_base, records_of}
use Rattle.volume_def.specs.IndexesClause.{IsDirectoryIndex, is_in_extend}
use Rattle.volume_def.specs.View.{VolumeView}
use Rattle.tree_model.specs.declared.tree.Node.{Node}
use Rattle.edit_def.specs.Account.{Wants}
use Rattle.edit_def.specs.Kept.{key_of, same_key}
use Rattle.edit_def.specs.Marks.{Marks}
use Rattle.edit_def.specs.Names.{HasNoNames, Numbers, StandRightly, is_directory_by, is_directory_in, numbers_at}
use Rattle.edit_def.proofs.IndexLaws.{directory-of-items, directory-same}
use Rattle.edit_def.proofs.LinkLaws.{links-comes, links-kept}
use Rattle.edit_def.proofs.NamesLaws.{names-comes, stand-of}
use Rattle.reading_edits.proofs.ReferencesAfter.{references-comes, references-goes, references-kept}
use Rattle.command_edits.specs.Between.{IsBetween}
use Rattle.command_edits.specs.Calls.{DropsNode, MakesNode, SetsNode, link_with}
use Rattle.command_edits.specs.Keys.{is_key_of, standard_key}
use Rattle.command_edits.proofs.AfterCall.{between-after, directory-was, items-same}
use Rattle.command_edits.proofs.FreeKeys.{standard-no-index}
use Rattle.command_edits.proofs.SoundBetween.{between-indexes, between-references}

-- the name of a link is one of its file
pub link-name : (records : Records) (link : Link) → Contains (links records) link → Contains (names_of records link.file.number) link.name
unfolding links
link-name records link c =
    let at = Contains-from_flat_map (λ f. links_of_file records f (records.record_at f)) (range_with_len 0 records.count) link c in
    by at.0 (records.record_at at.0) at.2
  where
    last : (f : ℕ) (r : Record) (b : Bool) → Contains (if b then map (link_with f r.header.sequence) (names_of records f) else []) link
        → Contains (names_of records link.file.number) link.name
    last f r true c =
        let w = Contains-from_map (link_with f r.header.sequence) (names_of records f) link c in
        subst (λ (l : Link). Contains (names_of records l.file.number) l.name) w.2 w.1
    last f r false c = absurd (Contains-nil link c)

    by : (f : ℕ) (o : Option Record) → Contains (links_of_file records f o) link → Contains (names_of records link.file.number) link.name
    by f None c = absurd (Contains-nil link c)
    by f (Some r) c = last f r (is_base r) c

-- no name stands in a file that is none
none-stands : (records : Records) (dir : ℕ) → StandRightly records → numbers_at records dir ≡ None → (name : FileName) (f : ℕ)
    → Contains (names_of records f) name → name.parent.number ≢ dir
none-stands records dir stand none name f c same =
    let is = All-contains (λ (other : FileName). IsTrue (is_directory_in records other.parent)) (names_of records f) name (stand f) c in
    let never : false ≡ true = sym (ap (λ n. is_directory_by (numbers_at records n) name.parent.sequence) same
    ∙ ap (λ o. is_directory_by o name.parent.sequence) none) ∙ is in
    cc

no-links : (records : Records) (dir : ℕ) → StandRightly records → numbers_at records dir ≡ None
    → filter (is_in_directory dir) (links records) ≡ []
no-links records dir stand none = nil-from_Contains (filter (is_in_directory dir) (links records)) (λ link c.
    let w = Contains-from_filter (is_in_directory dir) (links records) link c in
    none-stands records dir stand none link.name link.file.number (link-name records link w.0) (eqb-true link.name.parent.number dir w.1))

-- what a call names that names all of one file
pub away-of : (f n : ℕ) → FIRST_ORDINARY ≤ f → n ≤ 23 → is_key_of f (key_of n DATA []) ≡ false
away-of f n high low = ne_eqb n f (λ e. absurd (omega (arith, e, high, low)))

-- A FILE CAME.
module _ (wants : Wants) (old new : VolumeView) (before after : Marks) (f : ℕ) (directory : Bool) (node : Node)
    (call : MakesNode wants old new before after f directory node) (between : IsBetween old) where
  stand : StandRightly (records_of old)
  stand = stand-of (records_of old) (between-references old between)

  links-same : SameItems (links (records_of old)) (links (records_of new))
  links-same = links-comes old new f _ call.comes

  -- its own index has no item, as there is no link of it
  made-index : IsTrue directory → IsDirectoryIndex new f
  made-index is =
      let here = is_in_directory f in
      directory-of-items new f [] (call.index is)
      (SameItems-trans [] (filter here (links (records_of old))) (filter here (links (records_of new)))
      (SameItems-same [] (filter here (links (records_of old))) (sym (no-links (records_of old) f stand call.comes.none)))
      (SameItems-filter here (links (records_of old)) (links (records_of new)) links-same))

  pub between-makes : IsBetween new
  between-makes =
      let free = away-of f UPCASE call.ordinary (omega arith) in
      let same = items-same (is_key_of f) wants old new before after call.edited between free in
      between-after (is_key_of f) wants old new before after call.edited between free
      (references-comes old new (between-references old between) call.edited.bases f _ call.comes)
      (λ n numbers at is. elim (cases_eq n f) [
        | inl e ↦
            let here : Some (record { sequence = call.sequence; links = 0; directory = directory }) ≡ Some numbers =
            sym call.comes.now_at ∙ subst (λ k. numbers_at (records_of new) k ≡ Some numbers) e at in
            let equal : ◌≡◌ {A = Numbers} (record { sequence = call.sequence; links = 0; directory = directory }) numbers =
            some_same here in
            subst (IsDirectoryIndex new) (sym e) (made-index (ap (λ (k : Numbers). k.directory) equal ∙ is))
        | inr ne ↦
            let other = ne_eqb n f ne in
            directory-same old new n (same n other other other) links-same
            (directory-was old n numbers (between-indexes old between n) (sym (call.comes.others n ne).numbers ∙ at) is)
      ])
      (λ n units some. let c = (names-comes (records_of old) (records_of new) f _ call.comes n).counts (is_in_extend units) in
      omega (arith, c, some))
      (record {
        secure = λ units kind is of. away-of f SECURE call.ordinary (omega arith);
        others = λ n units kind is of some. ne_eqb n f (λ e.
            let none : length (names_of (records_of new) n) ≡ 0 = ap (λ k. length (names_of (records_of new) k)) e
            ∙ ap (λ (l : List FileName). length l) call.comes.unnamed in
            absurd (omega (arith, none, some)));
      })

-- ONE WENT, in which no name stood.
module _ (wants : Wants) (old new : VolumeView) (before after : Marks) (f : ℕ)
    (call : DropsNode wants old new before after f) (between : IsBetween old) (ordinary : FIRST_ORDINARY ≤ f)
    (empty : HasNoNames (records_of old) f) where
  names-went : (g : ℕ) → SameItems (names_of (records_of old) g) (names_of (records_of new) g)
  names-went g =
      SameItems-sym (names_of (records_of new) g) (names_of (records_of old) g)
      (names-comes (records_of new) (records_of old) f _ call.goes g)

  pub between-goes : IsBetween new
  between-goes =
      let free = away-of f UPCASE ordinary (omega arith) in
      let same = items-same (is_key_of f) wants old new before after call.edited between free in
      let links = SameItems-sym (links (records_of new)) (links (records_of old)) (links-comes new old f _ call.goes) in
      between-after (is_key_of f) wants old new before after call.edited between free
      (references-goes old new (between-references old between) call.edited.bases f _ call.goes empty)
      (λ n numbers at is. elim (cases_eq n f) [
        | inl e ↦
            let never : None ≡ Some numbers = sym call.goes.none ∙ subst (λ k. numbers_at (records_of new) k ≡ Some numbers) e at in
            absurd (none_other never)
        | inr ne ↦
            let other = ne_eqb n f ne in
            directory-same old new n (same n other other other) links
            (directory-was old n numbers (between-indexes old between n) ((call.goes.others n ne).numbers ∙ at) is)
      ])
      (λ n units some. let c = (names-went n).counts (is_in_extend units) in omega (arith, c, some))
      (record {
        secure = λ units kind is of. away-of f SECURE ordinary (omega arith);
        others = λ n units kind is of some. ne_eqb n f (λ e.
            let none : length (names_of (records_of new) n) ≡ 0 = ap (λ k. length (names_of (records_of new) k)) e
            ∙ ap (λ (l : List FileName). length l) call.goes.nowhere in
            absurd (omega (arith, none, some)));
      })

-- ONE WAS SET.
module _ (wants : Wants) (old new : VolumeView) (before after : Marks) (f : ℕ) (times : List ℕ) (flags : ℕ) (security : Option ℕ)
    (call : SetsNode wants old new before after f times flags security) (between : IsBetween old) where
  pub between-sets : IsBetween new
  between-sets =
      let keys = same_key (standard_key f) in
      let same = items-same keys wants old new before after call.edited between refl in
      between-after keys wants old new before after call.edited between refl
      (references-kept old new (between-references old between) call.edited.bases call.names_kept)
      (λ n numbers at dir. directory-same old new n (same n refl refl refl) (links-kept old new call.names_kept)
      (directory-was old n numbers (between-indexes old between n) (sym (call.names_kept n).numbers ∙ at) dir))
      (λ n units some. let c = (call.names_kept n).names.counts (is_in_extend units) in omega (arith, c, some))
      (record {
        secure = λ units kind is of. standard-no-index f _ kind _ of;
        others = λ n units kind is of some. standard-no-index f n kind _ of;
      })
