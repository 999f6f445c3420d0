-- ITEMS OF DIRECTORIES behind the command: those that were there, but for the one of the file that went.
use Rattle.std.proofs.Common.{◌≡◌, ◌≢◌, ◌⊎◌, ◌==◌, ◌&&◌, ◌||◌, not, ℕ, Bool, true, false, List, [], ◌∷◌, filter, map}
use Rattle.std.proofs.Common.{None, Option, Some, codes, inl, inr, refl, sym, ap, subst, ◌∙◌}
use Rattle.std.proofs.lemmas.Bool.{and_left, cases_eq, eq-eqb, eqb-true, false_from_ne_true, ne_eqb, not_from_false, or_cases, or_from}
use Rattle.std.specs.List.{Contains, list_any}
use Rattle.list_laws.specs.SameItems.{SameItems}
use Rattle.list_laws.proofs.FilterLaws.{filter-passed}
use Rattle.list_laws.proofs.FindLaws.{any-found, passing, some-counted}
use Rattle.list_laws.proofs.MemberLaws.{Contains-filter, Contains-from_filter, Contains-nil, Contains-only}
use Rattle.list_laws.proofs.ReplacesLaws.{Replaces-filter, Replaces-itself, Replaces-member, Replaces-sym}
use Rattle.list_laws.proofs.SameItemsLaws.{SameItems-filter, SameItems-passing, SameItems-same, SameItems-sym, SameItems-trans}
use Rattle.ntfs_def.specs.FileName as names
use Rattle.ntfs_def.specs.FileName.{FileName}
use Rattle.ntfs_def.specs.Node.{Item}
use Rattle.ntfs_def.specs.Units.{wide}
use Rattle.ntfs_def.specs.declared.kinds.TheConstants.{FILE_NAME, INDEX_ROOT}
use Rattle.volume_def.specs.Files.{Part, content_value, is_of, parts, parts_at, records_of}
use Rattle.volume_def.specs.Readable.{IsDirectory}
use Rattle.volume_def.specs.View.{VolumeView}
use Rattle.tree_model.specs.Bill.{links_with}
use Rattle.tree_model.specs.Drops.{is_link}
use Rattle.tree_model.specs.Reading.{link_for, read}
use Rattle.tree_model.specs.Subjects.{Located, at_file}
use Rattle.tree_model.specs.Tree.{Tree}
use Rattle.tree_model.specs.declared.command.Command.{Command}
use Rattle.tree_model.specs.declared.command.Command.TheVariants as c
use Rattle.tree_model.specs.declared.tree.Link.{Link}
use Rattle.tree_model.specs.declared.tree.Node.{Node}
use Rattle.edit_def.specs.Items.{HasItems}
use Rattle.edit_def.specs.Kept.{Key, is_name_told, key_of, told_names}
use Rattle.session_def.specs.Indexes.{KeepsRests, is_same_entry, stays_in}
use Rattle.session_def.specs.Kept.{IsRight, KeepsEntries, file_in, link_in}
use Rattle.session_def.specs.Named.{is_one_of}
use Rattle.session_def.specs.State.{State}
use Rattle.made_edits.proofs.SameLink.{is_link-exact}
use Rattle.made_edits.specs.Blank.{blank_part}
use Rattle.made_edits.specs.InPlace.{Rewrites}
use Rattle.made_edits.proofs.PlacesSame.{told-passed}
use Rattle.made_edits.proofs.SameRecords.{parts-same}
use Rattle.attribute_edits.proofs.NamedItems.{index-of, item-named, items-of, one-items}
use Rattle.in_place_owed.proofs.EntriesOwed.{entries-first, items-back, rests-owed}
use Rattle.gone_edits.specs.Beside as beside
use Rattle.gone_edits.specs.Left.{LeavesRest}
use Rattle.made_edits.proofs.AloneLaws.{names-of-parts}
use Rattle.gone_owed.specs.GoneOwed.{SetsBehindGone, between}
use Rattle.gone_owed.proofs.GoneBase as base
use Rattle.gone_owed.proofs.GoneRecords as records
use Rattle.gone_owed.proofs.GoneTree.{not-dropped}

never : {b : Bool} → b ≡ true → b ≡ false → ⊥
never x y = cc

strip : (b g : Bool) → g ≡ false → (b && not g) ≡ false → b ≡ false
strip true true e f = cc
strip true false e f = f
strip false g e f = refl

no-parts : (xs : List Part) → map blank_part xs ≡ [] → xs ≡ []
no-parts [] e = refl
no-parts (x ∷ xs) e = cc

no-root : (root : List ℕ) → ◌≡◌ {A = List (Option (List ℕ))} [] (Some root ∷ []) → ⊥
no-root root e = cc

-- THE ITEMS BETWEEN: those that were there, but for that of file `gone`
record Went (gone : ℕ) (files : List ℕ) (mid : VolumeView) (g : ℕ) (was items : List Item) : Type 0 where
  has : HasItems mid g items
  each : (x : Item) → Contains items x → Contains was x
  stays : (x : Item) → Contains was x → file_in x ≢ gone → Contains items x
  others : filter (λ x. not (is_one_of files (file_in x))) items ≡ filter (λ x. not (is_one_of files (file_in x))) was

module _ (before next : State) (n : ℕ) (file parent : Node) (name : FileName) (mid staged : VolumeView)
    (s : SetsBehindGone before next n name.parent.number file parent name mid staged) where
  abbrev dir : ℕ
  dir = name.parent.number

  abbrev old : VolumeView
  old = before.view

  abbrev new : VolumeView
  new = next.view

  abbrev tree : Tree
  tree = before.machine.tree

  abbrev half : State
  half = between before mid

  abbrev setter : Command
  setter = c.Setattr [] 0

  abbrev folder : Located
  folder = at_file (read mid) None dir

  abbrev files : List ℕ
  files = n ∷ dir ∷ []

  abbrev named : Key → Bool
  named = base.named before next n file parent name mid staged s

  rewrote : Rewrites named mid new
  rewrote = base.behind before next n file parent name mid staged s

  left : LeavesRest old mid n dir
  left = base.left before next n file parent name mid staged s

  rest : beside.KeepsRest old mid n dir name
  rest = base.rest before next n file parent name mid staged s

  other : dir ≢ n
  other = base.other before next n file parent name mid staged s

  abbrev none_of : List ℕ → Item → Bool
  none_of all x = not (is_one_of all (file_in x))

  pub names-behind : (f : ℕ) → told_names new f ≡ told_names mid f
  names-behind f =
      told-passed named mid new rewrote f
      is_name_told (λ t is.
      ap (λ kind. named (key_of f kind t.name)) (eqb-true t.kind FILE_NAME is)
      ∙ base.names-free before next n file parent name mid staged s f t.name)

  -- the file has no part behind it
  pub none-behind : parts (records_of new) n ≡ []
  none-behind = no-parts (parts (records_of new) n) (parts-same named mid new rewrote n ∙ ap (map blank_part) rest.none)

  no-items : (now : List Item) → HasItems new n now → ⊥
  no-items now has =
      let none : map (λ (p : Part). content_value p.content) (parts_at new n INDEX_ROOT (wide (codes "$I30"))) ≡ [] =
      ap (λ (xs : List Part). map (λ (p : Part). content_value p.content) (filter (is_of INDEX_ROOT (wide (codes "$I30"))) xs))
      none-behind in
      no-root has.index.root (sym none ∙ has.index.is_root)

  module _ (g : ℕ) (was now : List Item) (is : IsDirectory old g) (has : HasItems old g was) (becomes : HasItems new g now) where
    away : g ≢ n
    away same = no-items now (subst (λ f. HasItems new f now) same becomes)

    still : IsDirectory mid g
    still = records.directory-still before next n file parent name mid staged s g away is

    went-here : g ≡ dir → (items : List Item) × Went n files mid g was items
    went-here here =
        let index = index-of mid g (base.is_gone before next n file parent name mid staged s).sound still in
        let entry = rest.entry in
        let its : file_in entry.item ≡ n = ap (λ (l : names.Link). l.file.number) entry.link in
        let takes = entry.items was index.items (subst (λ d. HasItems old d was) here has)
        (subst (λ d. HasItems mid d index.items) here (items-of mid g index)) in
        let out : none_of files entry.item ≡ false =
        ap (λ f. not ((n == f) || ((dir == f) || false))) its
        ∙ ap (λ b. not (b || ((dir == n) || false))) (eq-eqb n n refl) in (
          index.items,
          record {
            has = items-of mid g index;
            each = λ x c. elim (Replaces-member was index.items (entry.item ∷ []) [] x takes c) [
              | inl had ↦ had
              | inr never ↦ absurd (Contains-nil x never)
            ];
            stays = λ x c kept. elim (Replaces-member index.items was [] (entry.item ∷ []) x
                (Replaces-sym was index.items (entry.item ∷ []) [] takes) c) [
                  | inl there ↦ there
                  | inr gone ↦ absurd (kept (sym (ap file_in (Contains-only entry.item x gone)) ∙ its))
                ];
            others = Replaces-itself (filter (none_of files) was) (filter (none_of files) index.items)
                (filter (none_of files) (entry.item ∷ [])) [] (left-out entry.item out)
                (Replaces-filter (none_of files) was index.items (entry.item ∷ []) [] takes);
          },
        )
      where
        left-out : (x : Item) → none_of files x ≡ false → filter (none_of files) (x ∷ []) ≡ []
        left-out x e = rw e refl

    went : (items : List Item) × Went n files mid g was items
    went = elim (cases_eq g dir) [
      | inl here ↦ went-here here
      | inr elsewhere ↦ (
        was,
        record {
          has = left.items g away elsewhere was has;
          each = λ x c. c;
          stays = λ x c kept. c;
          others = refl;
        },
      )
    ]

    abbrev items : List Item
    items = went.0

    its : Went n files mid g was items
    its = went.1

    -- none between is of the file, which has no name
    none-between : (x : Item) → Contains items x → file_in x ≡ n → ⊥
    none-between x there of_file =
        let index = index-of mid g (base.is_gone before next n file parent name mid staged s).sound still in
        let one = one-items mid g items index.items its.has (items-of mid g index) in
        let named = item-named mid n g index x (subst (λ xs. Contains xs x) one there) of_file in
        let none = names-of-parts mid n [] rest.none in
        Contains-nil named.name (subst (λ xs. Contains xs named.name) none named.among)

    -- WHAT CAME BEHIND of these
    kept : KeepsEntries new tree next.machine.tree (dir ∷ []) [] items now
    kept =
        entries-first half next setter folder staged s.behind tree items now
        (s.entries g items now still its.has (items-back half next setter folder staged s.behind g now becomes))

    rests : KeepsRests new (dir ∷ []) [] items now
    rests = rests-owed half next setter folder staged s.behind g items now still its.has becomes

    -- one of these files is either
    two-files : (f : ℕ) → is_one_of files f ≡ true → (f ≡ n) ⊎ ((f ≡ dir) × (is_one_of (dir ∷ []) f ≡ true))
    two-files f one = elim (or_cases (n == f) ((dir == f) || false) one) [
      | inl e ↦ inl (sym (eqb-true n f e))
      | inr rest ↦ elim (or_cases (dir == f) false rest) [
        | inl e ↦ inr (sym (eqb-true dir f e), rest)
        | inr none ↦ absurd (never none refl)
      ]
    ]

    -- none behind is of the file
    none-now : (x : Item) → Contains now x → file_in x ≡ n → ⊥
    none-now x c of_file =
        let out : none_of (dir ∷ []) x ≡ true =
        not_from_false (is_one_of (dir ∷ []) (file_in x))
        (or_from (dir == file_in x) false (ne_eqb dir (file_in x) (λ e. other (e ∙ of_file))) refl) in
        let met = SameItems-passing (λ y. file_in y == n) (filter (none_of (dir ∷ [])) now) (filter (none_of (dir ∷ [])) items) x
        (SameItems-sym (filter (none_of (dir ∷ [])) items) (filter (none_of (dir ∷ [])) now) kept.others)
        (Contains-filter (none_of (dir ∷ [])) now x c out) (eq-eqb (file_in x) n of_file) in
        none-between met.0 (Contains-from_filter (none_of (dir ∷ [])) items met.0 met.1).0 (eqb-true (file_in met.0) n met.2)

    -- ENTRIES
    right : (x : Item) → Contains now x → is_one_of files (file_in x) ≡ true → IsRight new tree next.machine.tree [] was x
    right x c one = elim (two-files (file_in x) one) [
      | inl of_file ↦ absurd (none-now x c of_file)
      | inr is_dir ↦ elim (kept.own x c is_dir.1) [
        | inl current ↦ inl current
        | inr same ↦ inr (its.each x same.0, refl, same.2)
      ]
    ]

    pub entries-kept : KeepsEntries new tree next.machine.tree files [] was now
    entries-kept =
        let fewer = λ (xs : List Item). filter-passed (none_of files) (none_of (dir ∷ [])) xs (λ x e.
        none-less (n == file_in x) ((dir == file_in x) || false) e) in
        record {
          others =
              SameItems-trans (filter (none_of files) was) (filter (none_of files) (filter (none_of (dir ∷ [])) items))
              (filter (none_of files) now)
              (SameItems-same (filter (none_of files) was) (filter (none_of files) (filter (none_of (dir ∷ [])) items))
              (sym (fewer items ∙ its.others)))
              (subst (SameItems (filter (none_of files) (filter (none_of (dir ∷ [])) items))) (fewer now)
              (SameItems-filter (none_of files) (filter (none_of (dir ∷ [])) items) (filter (none_of (dir ∷ [])) now) kept.others));
          own = right;
        }
      where
        none-less : (a b : Bool) → not (a || b) ≡ true → not b ≡ true
        none-less true b e = cc
        none-less false b e = e

    -- WHAT THE TREE DOES NOT SHOW
    same-child : (a b : Item) → is_same_entry a b ≡ true → file_in a ≡ file_in b
    same-child a b e = ap (λ (l : Link). l.child) (is_link-exact (link_in a) (link_in b) e)

    abbrev gone : List Link
    gone = links_with tree (link_for n name)

    not-there : (x : Item) → file_in x ≡ dir → stays_in gone was x ≡ false → stays_in [] items x ≡ false
    not-there x is_dir none =
        let stays : list_any (is_link (link_in x)) gone ≡ false =
        not-dropped tree (link_for n name) (link_in x) (λ e. other (sym is_dir ∙ e)) in
        let was_none = strip (list_any (is_same_entry x) was) (list_any (is_link (link_in x)) gone) stays none in
        and_left (list_any (is_same_entry x) items) true (false_from_ne_true (list_any (is_same_entry x) items) (λ e.
        let met = passing (is_same_entry x) items (some-counted (is_same_entry x) items e) in
        never (any-found (is_same_entry x) was met.0 (its.each met.0 met.1) met.2) was_none))

    pub keys-kept : KeepsRests new files gone was now
    keys-kept = record {
      stayed = λ a b was_in now_in one same gone. elim (two-files (file_in b) one) [
        | inl of_file ↦ absurd (none-now b now_in of_file)
        | inr is_dir ↦
            rests.stayed a b (its.stays a was_in (λ e. other (sym is_dir.0 ∙ same-child b a same ∙ e))) now_in is_dir.1 same refl
      ];
      came = λ b now_in one fresh name there same. elim (two-files (file_in b) one) [
        | inl of_file ↦ absurd (none-now b now_in of_file)
        | inr is_dir ↦ rests.came b now_in is_dir.1 (not-there b is_dir.0 fresh) name there same
      ];
    }
