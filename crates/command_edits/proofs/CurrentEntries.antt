-- Entries that were told anew tell what their files do, once all of a row were.
use Rattle.std.proofs.Common.{Bool, List, [], ap, arith, cond, eq-eqb, eqb-true, false, filter, inl, inr, map, refl, subst, sym, true, ℕ}
use Rattle.std.proofs.Common.{◌&&◌, ◌==◌, ◌||◌, ◌∙◌, ◌∷◌, ◌≡◌, ◌≢◌, ◌⊎◌}
use Rattle.std.specs.List.{Contains}
use Rattle.std.specs.Str.{bytes_eq}
use Rattle.std.proofs.lemmas.Bool.{cases_eq, ne_eqb, or_from}
use Rattle.std.proofs.lemmas.Slice.Eq.{bytes_eq-Decides}
use Rattle.list_laws.specs.SameItems.{SameItems}
use Rattle.list_laws.proofs.FindLaws.{count-cons, same_passing}
use Rattle.list_laws.proofs.MemberLaws.{Contains-from_filter, Contains-head, Contains-map, Contains-only}
use Rattle.list_laws.proofs.ReplacesLaws.{Replaces-came, Replaces-count, Replaces-map, Replaces-member}
use Rattle.list_laws.proofs.SameItemsLaws.{SameItems-filter, SameItems-passing, SameItems-trans}
use Rattle.ntfs_def.specs.FileName.{FileName, Link, key_units, link_of, name_in}
use Rattle.ntfs_def.specs.Node.{Item}
use Rattle.volume_def.specs.CaseClause.{volume_fold}
use Rattle.volume_def.specs.FileNames.{is_in_directory, links}
use Rattle.volume_def.specs.Files.{records_of}
use Rattle.volume_def.specs.IndexesClause.{IsDirectoryIndex}
use Rattle.volume_def.specs.Readable.{IsFile}
use Rattle.volume_def.specs.View.{VolumeView}
use Rattle.tree_model.specs.Hidden.{is_hidden}
use Rattle.edit_def.specs.Account.{Wants, nothing}
use Rattle.edit_def.specs.Edited.{is_room_key}
use Rattle.edit_def.specs.Items.{ChangesItems, IsCurrent}
use Rattle.edit_def.specs.Kept.{Key, either, key_of}
use Rattle.edit_def.specs.Marks.{Marks}
use Rattle.edit_def.specs.Names.{HasRightBases}
use Rattle.edit_def.proofs.CurrentLaws.{current-kept}
use Rattle.edit_def.proofs.IndexLaws.{cluster-size, items-of-directory}
use Rattle.edit_def.proofs.LinkLaws.{links-kept}
use Rattle.reading_edits.proofs.HiddenFiles.{hides-kept, name-file}
use Rattle.reading_edits.proofs.OnceNames.{named_item, once-item}
use Rattle.command_edits.specs.Between.{IsBetween}
use Rattle.command_edits.specs.Calls.{RefreshesEntries, RefreshesEntry}
use Rattle.command_edits.specs.KeptBy.{EntriesCurrent, is_told}
use Rattle.command_edits.specs.Keys.{is_index_key_of}
use Rattle.command_edits.proofs.AfterCall.{items-same}
use Rattle.command_edits.proofs.FreeKeys.{index-unseen, room-unseen}
use Rattle.command_edits.proofs.LinksBetween.{between-refreshes}
use Rattle.command_edits.proofs.NodesBetween.{link-name}
use Rattle.command_edits.proofs.SoundBetween.{between-bases, between-readable}

or-cases : (a b : Bool) → (a || b) ≡ true → (a ≡ true) ⊎ (b ≡ true)
or-cases true b e = inl refl
or-cases false b e = inr e

-- the file of an entry is one
item-file : (v : VolumeView) (dir : ℕ) (items : List Item) → HasRightBases (records_of v)
    → SameItems (map link_of items) (filter (is_in_directory dir) (links (records_of v)))
    → (item : Item) → Contains items item → IsFile v (link_of item).file.number
item-file v dir items right same item there =
    let g = (link_of item).file.number in
    let w = SameItems-passing (λ (l : Link). l.file.number == g) (map link_of items) (filter (is_in_directory dir) (links (records_of v)))
    (link_of item) same (Contains-map link_of items item there) (eq-eqb g g refl) in
    let l = Contains-from_filter (is_in_directory dir) (links (records_of v)) w.0 w.1 in
    subst (IsFile v) (eqb-true w.0.file.number g w.2) (name-file v w.0.file.number w.0.name right (link-name (records_of v) w.0 l.0))

module _ (wants : Wants) (old new : VolumeView) (before after : Marks) (f : ℕ) (name : FileName)
    (call : RefreshesEntry wants old new before after f name) (between : IsBetween old) where
  abbrev changed : Key → Bool
  changed = is_index_key_of name.parent.number

  bases : HasRightBases (records_of old)
  bases = between-bases old between

  same-links : SameItems (links (records_of old)) (links (records_of new))
  same-links = links-kept old new call.names_kept

  hides : (g : ℕ) → is_hidden (records_of new) g ≡ is_hidden (records_of old) g
  hides = hides-kept old new bases call.edited.volume.count (λ h. (call.names_kept h).names)

  -- the names of the directory behind it
  names-now : (dir : ℕ) (items : List Item) → SameItems (map link_of items) (filter (is_in_directory dir) (links (records_of old)))
      → SameItems (map link_of items) (filter (is_in_directory dir) (links (records_of new)))
  names-now dir items same =
      SameItems-trans (map link_of items) (filter (is_in_directory dir) (links (records_of old)))
      (filter (is_in_directory dir) (links (records_of new))) same
      (SameItems-filter (is_in_directory dir) (links (records_of old)) (links (records_of new)) same-links)

  -- an entry that stays as it is
  entry-kept : (dir : ℕ) (d : IsDirectoryIndex old dir) (item : Item) → Contains d.items item
      → is_hidden (records_of new) (link_of item).file.number ≡ false → IsCurrent old (link_of item).file.number item.key
      → IsCurrent new (link_of item).file.number item.key
  entry-kept dir d item there shown is =
      let g = (link_of item).file.number in
      current-kept (either is_room_key changed) old new g item.key (call.edited.kept g) (cluster-size old new call.edited.volume)
      (between-readable old between) call.edited.editable.readable bases
      (λ kind units seen. or_from (is_room_key (key_of g kind units)) (changed (key_of g kind units))
      (room-unseen (records_of old) g (sym (hides g) ∙ shown) kind units seen) (index-unseen name.parent.number g kind units seen))
      (item-file old dir d.items bases d.names item there)
      (item-file new dir d.items call.edited.bases (names-now dir d.items d.names) item there) is

  -- the directory in which an entry is told anew
  changed-entry : (told : List ℕ → Bool) (dir : ℕ) → name.parent.number ≡ dir → EntriesCurrent told old dir
      → EntriesCurrent (λ units. told units || bytes_eq units name.units) new dir
  unfolding name_in
  changed-entry told dir same was =
      let d = was.right in
      let c = subst (λ k. ChangesItems old new k (call.was ∷ []) (call.now ∷ [])) same call.entry d.items (items-of-directory old dir d) in
      record {
        right = record {
          items = c.0;
          index = c.1.index;
          kind = c.1.kind;
          names = record {
            counts = λ p.
                let a = Replaces-count p _ _ _ _ (Replaces-map link_of d.items c.0 (call.was ∷ []) (call.now ∷ []) c.2) in
                let b = (names-now dir d.items d.names).counts p in
                let i = count-cons p (link_of call.was) [] in
                let j = count-cons p (link_of call.now) [] in
                let k = ap {B = ℕ} (λ l. cond (p l) 1 0) call.same in
                omega (arith, a, b, i, j, k);
          };
        };
        current = λ item there is shown.
            elim (or-cases (told (key_units item.key)) (bytes_eq (key_units item.key) name.units) is) [
              | inl first ↦ elim (Replaces-member d.items c.0 (call.was ∷ []) (call.now ∷ []) item c.2 there) [
                | inl stood ↦
                    entry-kept dir d item stood shown (was.current item stood first (sym (hides (link_of item).file.number) ∙ shown))
                | inr came ↦ of-now item (Contains-only call.now item came)
              ]
              | inr named ↦ of-now item (same_passing (named_item name.units) c.0 call.now item
                  (once-item (volume_fold new) name.units c.0 c.1.index.ascending)
                  (Replaces-came d.items c.0 (call.was ∷ []) (call.now ∷ []) call.now c.2 (Contains-head call.now []))
                  ((bytes_eq-Decides (key_units call.now.key) name.units).1 (ap (λ (l : Link). l.name.units) (call.same ∙ call.link)))
                  there named)
            ];
      }
    where
      of-now : (item : Item) → call.now ≡ item → IsCurrent new (link_of item).file.number item.key
      of-now item e =
          subst (λ (i : Item). IsCurrent new (link_of i).file.number i.key) e
          (subst (λ k. IsCurrent new k call.now.key) (sym (ap (λ (l : Link). l.file.number) (call.same ∙ call.link))) call.current)

  -- all others
  other-entries : (told : List ℕ → Bool) (dir : ℕ) → name.parent.number ≢ dir → EntriesCurrent told old dir → EntriesCurrent told new dir
  other-entries told dir ne was =
      let d = was.right in
      let away = ne_eqb dir name.parent.number (λ e. ne (sym e)) in
      let h = items-same changed wants old new before after call.edited between refl dir away away away d.items
      (items-of-directory old dir d) in
      record {
        right = record { items = d.items; index = h.index; kind = h.kind; names = names-now dir d.items d.names };
        current = λ item there is shown.
            entry-kept dir d item there shown (was.current item there is (sym (hides (link_of item).file.number) ∙ shown));
      }

  entries-refreshed : (told : List ℕ → Bool) (dir : ℕ) → EntriesCurrent told old dir
      → EntriesCurrent (λ units. told units || ((name.parent.number == dir) && bytes_eq units name.units)) new dir
  entries-refreshed told dir was = elim (cases_eq name.parent.number dir) [
    | inl e ↦ told-as _ _ (λ units is. by-here units (eq-eqb name.parent.number dir e) is) (changed-entry told dir e was)
    | inr ne ↦ told-as _ _ (λ units is. by-away units (ne_eqb name.parent.number dir ne) is) (other-entries told dir ne was)
  ]
    where
      told-as : (a b : List ℕ → Bool) → ((units : List ℕ) → b units ≡ true → a units ≡ true) → EntriesCurrent a new dir
          → EntriesCurrent b new dir
      told-as a b more e = record { right = e.right; current = λ item there is shown. e.current item there (more _ is) shown }

      by-here : (units : List ℕ) → (name.parent.number == dir) ≡ true
          → (told units || ((name.parent.number == dir) && bytes_eq units name.units)) ≡ true
          → (told units || bytes_eq units name.units) ≡ true
      by-here units e is = ap (λ b. told units || (b && bytes_eq units name.units)) (sym e) ∙ is

      by-away : (units : List ℕ) → (name.parent.number == dir) ≡ false
          → (told units || ((name.parent.number == dir) && bytes_eq units name.units)) ≡ true → told units ≡ true
      by-away units e is = first (told units) (ap (λ b. told units || (b && bytes_eq units name.units)) (sym e) ∙ is)
        where
          first : (b : Bool) → (b || false) ≡ true → b ≡ true
          first true g = refl
          first false g = g

-- a row of them
row-refreshed : (entries : List (ℕ × FileName)) (old new : VolumeView) (before after : Marks)
    → RefreshesEntries entries old new before after
    → IsBetween old → (told : List ℕ → Bool) (dir : ℕ) → EntriesCurrent told old dir → EntriesCurrent (is_told entries dir told) new dir
row-refreshed [] old new before after (same, marks) between told dir was = subst (λ v. EntriesCurrent told v dir) (sym same) was
row-refreshed (entry ∷ entries) old new before after (mid, marks, call, rest) between told dir was =
    row-refreshed entries mid new marks after rest (between-refreshes nothing old mid before marks entry.0 entry.1 call between)
    (λ units. told units || ((entry.1.parent.number == dir) && bytes_eq units entry.1.units)) dir
    (entries-refreshed nothing old mid before marks entry.0 entry.1 call between told dir was)

pub refreshed-current : (entries : List (ℕ × FileName)) (old new : VolumeView) (before after : Marks)
    → RefreshesEntries entries old new before after → IsBetween old → (dir : ℕ) → IsDirectoryIndex old dir
    → EntriesCurrent (is_told entries dir (λ units. false)) new dir
refreshed-current entries old new before after row between dir index =
    row-refreshed entries old new before after row between (λ units. false) dir
    (record { right = index; current = λ item there is shown. cc })
