-- THE ITEMS OF DIRECTORIES where the entries of a file's names were told anew, one after another: each is the same, or is one of the file
-- that tells this; and in the end each entry of the file does.
use Rattle.std.proofs.Common.{◌≡◌, ◌++◌, ℕ, Bool, true, false, List, [], ◌∷◌, Option, Some, None, refl, sym, ap, subst, inl, inr, ◌∙◌}
use Rattle.std.specs.Prelude.{◌⊎◌, Contains, IsSomeAnd, IsTrue, bit_and, bit_or, cond}
use Rattle.std.specs.declared.cmp.Ordering.TheVariants.{Equal}
use Rattle.std.proofs.lemmas.Bool.{cases_eq}
use Rattle.std.proofs.lemmas.List.Elements.{All-contains}
use Rattle.vol_bytes.specs.Field.{u32_at}
use Rattle.ntfs_def.specs.FileName.{FileName, Link, key_units, link_of, name_in}
use Rattle.ntfs_def.specs.KeyOrder.{name_order}
use Rattle.ntfs_def.specs.Node.{Item}
use Rattle.ntfs_def.specs.StandardInformation.{standard_times}
use Rattle.ntfs_def.proofs.KeyOrderLaws.{name_ties}
use Rattle.list_laws.specs.Replaces.{Replaces}
use Rattle.list_laws.proofs.MemberLaws.{Contains-cases, Contains-head, Contains-later, Contains-nil, Contains-only}
use Rattle.list_laws.proofs.ReplacesLaws.{Replaces-came, Replaces-member}
use Rattle.volume_def.specs.CaseClause.{volume_fold}
use Rattle.volume_def.specs.FileNames.{names_of}
use Rattle.volume_def.specs.Files.{Record, is_base, is_directory, record_on, records_of}
use Rattle.volume_def.specs.Readable.{IsDirectory, IsFile}
use Rattle.volume_def.specs.Sound.{IsSound}
use Rattle.volume_def.specs.Sound.{References}
use Rattle.volume_def.specs.View.{VolumeView}
use Rattle.edit_def.specs.Items.{HasItems, IsCurrent, stream_sizes}
use Rattle.edit_def.specs.Names.{is_directory_in, numbers_by}
use Rattle.edit_def.proofs.NamesLaws.{in-directory, stand-of}
use Rattle.tree_model.specs.Reading.{standard_flags}
use Rattle.tree_model.specs.declared.tree.TheConstants.{SHOWN_FLAGS}
use Rattle.in_place.specs.Kept.{file_in}
use Rattle.in_place.specs.Unnamed.{LiesApart}
use Rattle.in_place.proofs.RoomSame as room
use Rattle.in_place.proofs.StillApart as still
use Rattle.entry_edits.specs.Below.{DuplicatedInformation, RefreshesEntry, RefreshesItem, hidden_flags}
use Rattle.entry_edits.specs.Refreshable.{IsRefreshable}
use Rattle.entry_edits.specs.Told.{IsToldOf}
use Rattle.entry_edits.proofs.RefreshedIndexes.{clause-kept, items-changed, other-items}
use Rattle.entry_edits.proofs.RefreshedKeys.{current-now, current-stays, first-same, others-kept, standard-same}
use Rattle.entry_edits.proofs.RefreshedVolume as volume
use Rattle.entry_edits.proofs.SwappedItems.{one-of-key}
use Rattle.entry_edits.specs.Attributes.{RefreshesNames}
use Rattle.attribute_edits.specs.Attributes.{AreRefreshed, IsAsTold, is_told_key}
use Rattle.attribute_edits.proofs.ChainLaws.{StandElsewhere, can-tell, step-rewrites}
use Rattle.attribute_edits.proofs.NamedItems.{index-of, unit-item}

-- LISTS
refreshed-same : (told : DuplicatedInformation) (f : ℕ) (items : List Item) → AreRefreshed told f items items
refreshed-same told f [] = tt
refreshed-same told f (x ∷ xs) = (inl refl, refreshed-same told f xs)

refreshed-around : (told : DuplicatedInformation) (f : ℕ) (before after : List Item) (was now : Item) → IsAsTold told f was now
    → AreRefreshed told f (before ++ ((was ∷ []) ++ after)) (before ++ ((now ∷ []) ++ after))
refreshed-around told f [] after was now h = (h, refreshed-same told f after)
refreshed-around told f (x ∷ xs) after was now h = (inl refl, refreshed-around told f xs after was now h)

refreshed-replaced : (told : DuplicatedInformation) (f : ℕ) (olds news : List Item) (was now : Item)
    → Replaces olds news (was ∷ []) (now ∷ [])
    → IsAsTold told f was now → AreRefreshed told f olds news
refreshed-replaced told f olds news was now r h =
    subst (λ xs. AreRefreshed told f xs news) (sym r.old_is)
    (subst (AreRefreshed told f (r.before ++ ((was ∷ []) ++ r.after))) (sym r.new_is) (refreshed-around told f r.before r.after was now h))

module _ (told : DuplicatedInformation) (f : ℕ) (shown : bit_and told.flags SHOWN_FLAGS ≡ told.flags) where
  -- told twice
  twice : (a b c : Item) → IsAsTold told f a b → IsAsTold told f b c → IsAsTold told f a c
  twice a b c (inl x) (inl y) = inl (y ∙ x)
  twice a b c (inl x) (inr y) = inr (subst (λ z. RefreshesItem told z c) x y.0, y.1)
  twice a b c (inr x) (inl y) = inr (subst (λ z. RefreshesItem told a z × (file_in z ≡ f)) (sym y) x)
  twice a b c (inr x) (inr y) = inr (
    record {
      link = y.0.link ∙ x.0.link;
      long = y.0.long ∙ x.0.long;
      key = record {
        long = y.0.key.long ∙ x.0.key.long;
        times_are = y.0.key.times_are;
        allocated_is = y.0.key.allocated_is;
        real_is = y.0.key.real_is;
        flags_are = y.0.key.flags_are ∙ ap (λ n. bit_or n told.flags)
            (ap (λ n. bit_and n hidden_flags) x.0.key.flags_are ∙ others-kept hidden_flags (u32_at a.key 0x38) told.flags refl refl shown);
        others = λ k w. y.0.key.others k w ∙ x.0.key.others k w;
      };
    },
    y.1,
  )

  refreshed-then : (xs bs cs : List Item) → AreRefreshed told f xs bs → AreRefreshed told f bs cs → AreRefreshed told f xs cs
  refreshed-then [] [] [] x y = tt
  refreshed-then [] [] (c ∷ cs) x y = absurd y
  refreshed-then [] (b ∷ bs) cs x y = absurd x
  refreshed-then (a ∷ xs) [] cs x y = absurd x
  refreshed-then (a ∷ xs) (b ∷ bs) [] x y = absurd y
  refreshed-then (a ∷ xs) (b ∷ bs) (c ∷ cs) x y = (twice a b c x.0 y.0, refreshed-then xs bs cs x.1 y.1)

-- A name stands in a directory.
pub parent-directory : (view : VolumeView) (f : ℕ) (name : FileName) → IsSound view → Contains (names_of (records_of view) f) name
    → IsDirectory view name.parent.number
parent-directory view f name sound c =
    let stands = All-contains (λ (n : FileName). IsTrue (is_directory_in (records_of view) n.parent)) (names_of (records_of view) f) name
    (stand-of (records_of view) (sound References) f) c in
    let both = in-directory (records_of view) name.parent stands in
    by (record_on view name.parent.number) both.0 both.1
  where
    by : (o : Option Record) → IsSomeAnd o (λ r. IsTrue (is_base r) × (r.header.sequence ≡ name.parent.sequence))
        → IsSomeAnd o (λ r. IsTrue (is_directory r))
        → IsSomeAnd o (λ r. IsTrue (is_base r) × IsTrue (is_directory r))
    by None a b = absurd a
    by (Some r) a b = (a.0, b)

-- a file whose numbers stay is one still
pub file-still : (a b : Option Record) → numbers_by b ≡ numbers_by a → IsSomeAnd a (λ r. IsTrue (is_base r))
    → IsSomeAnd b (λ r. IsTrue (is_base r))
file-still None b e is = absurd is
file-still (Some r) b e is = by b (is_base r) is refl e
  where
    by : (b : Option Record) (x : Bool) → x ≡ true → is_base r ≡ x → numbers_by b ≡ numbers_by (Some r)
        → IsSomeAnd b (λ r. IsTrue (is_base r))
    by None x t base e = let z : None ≡ Some _ = e
        ∙ ap (λ y. cond y (Some (record { sequence = r.header.sequence; links = r.header.links; directory = is_directory r })) None)
        (base ∙ t) in cc
    by (Some q) x t base e = inner (is_base q) refl (e
        ∙ ap (λ y. cond y (Some (record { sequence = r.header.sequence; links = r.header.links; directory = is_directory r })) None)
        (base ∙ t))
      where
        inner : (y : Bool) → is_base q ≡ y
            → numbers_by (Some q) ≡ Some (record { sequence = r.header.sequence; links = r.header.links; directory = is_directory r })
            → is_base q ≡ true
        inner true base' e' = base'
        inner false base' e' = let z = sym (ap (λ y. cond y (Some
            (record { sequence = q.header.sequence; links = q.header.links; directory = is_directory q })) None) base') ∙ e' in cc

-- WHERE A CHAIN STANDS: the volume is sound, this is a file of it, and the names that are left are names of it.
pub record StandsFor (view : VolumeView) (f : ℕ) (names : List FileName) : Type 0 where
  pub sound : IsSound view
  pub apart : LiesApart view
  pub file : IsFile view f
  pub own : (name : FileName) → Contains names name → Contains (names_of (records_of view) f) name
  pub elsewhere : StandElsewhere names

module _ (told : DuplicatedInformation) (f : ℕ) (name : FileName) (names : List FileName) (old new : VolumeView)
    (r : RefreshesEntry old new name.parent.number name.units told) (s : StandsFor old f (name ∷ names)) where
  abbrev dir : ℕ
  dir = name.parent.number

  can : IsRefreshable old dir
  can = can-tell old dir s.sound s.apart (s.elsewhere name (Contains-head name names))

  among : Contains (names_of (records_of old) f) name
  among = s.own name (Contains-head name names)

  pub stands-then : StandsFor new f names
  stands-then = record {
    sound = λ clause. clause-kept old new dir name.units told r can clause (s.sound clause);
    apart = still.apart-still (is_told_key (dir ∷ [])) old new (step-rewrites old new dir name.units told r) s.apart;
    file = file-still (record_on old f) (record_on new f)
        (room.numbers-same (is_told_key (dir ∷ [])) old new (step-rewrites old new dir name.units told r) f) s.file;
    own = λ other c. subst (λ (h : ℕ → List FileName). Contains (h f) other) (sym (volume.names-same old new dir name.units told r can))
        (s.own other (Contains-later name names other c));
    elsewhere = λ other c. s.elsewhere other (Contains-later name names other c);
  }

  record-is : (r : Record) × (record_on old f ≡ Some r) × IsTrue (is_base r)
  record-is = by (record_on old f) refl s.file
    where
      by : (o : Option Record) → record_on old f ≡ o → IsSomeAnd o (λ r. IsTrue (is_base r)) → (r : Record)
          × (record_on old f ≡ Some r) × IsTrue (is_base r)
      by None e is = absurd is
      by (Some r) e is = (r, e, is)

  -- the item that was told leads to the file
  own-item : file_in r.was ≡ f
  own-item =
      let has = index-of old dir s.sound (parent-directory old f name s.sound among) in
      unit-item old f record-is.0 record-is.1 record-is.2 name among has r.was (r.at has) r.units_are

  now-item : file_in r.now ≡ f
  now-item = ap (λ (l : Link). l.file.number) r.refreshes.link ∙ own-item

  pub step-items : (g : ℕ) (items : List Item) → HasItems old g items → (next : List Item) × HasItems new g next
      × AreRefreshed told f items next
  step-items g items h = elim (cases_eq g dir) [
    | inl same ↦
        let c = items-changed old new dir name.units told r can items (subst (λ d. HasItems old d items) same h) in (
          c.0,
          subst (λ d. HasItems new d c.0) (sym same) c.1,
          refreshed-replaced told f items c.0 r.was r.now c.2 (inr
              (r.refreshes, now-item)),
        )
    | inr ne ↦ (items, other-items old new dir name.units told r can g ne items h, refreshed-same told f items)
  ]

pub chain-items : (told : DuplicatedInformation) (f : ℕ) → bit_and told.flags SHOWN_FLAGS ≡ told.flags
    → (names : List FileName) (old new : VolumeView)
    → RefreshesNames told old new names → StandsFor old f names → (g : ℕ) (items : List Item) → HasItems old g items
    → (next : List Item) × HasItems new g next × AreRefreshed told f items next
chain-items told f shown [] old new r s g items h = (items, subst (λ v. HasItems v g items) (sym r) h, refreshed-same told f items)
chain-items told f shown (name ∷ names) old new r s g items h =
    let a = step-items told f name names old r.0 r.1 s g items h in
    let b = chain-items told f shown names r.0 new r.2 (stands-then told f name names old r.0 r.1 s) g a.0 a.1 in
    (b.0, b.1, refreshed-then told f shown items a.0 b.0 a.2 b.2)

-- EACH ENTRY OF THE FILE under one of these names tells what the file does.
pub record AreDone (view : VolumeView) (f g : ℕ) (items : List Item) (done : FileName → Type 0) : Type 0 where
  pub each : (item : Item) → Contains items item → (name : FileName) → done name → name.parent.number ≡ g
      → name.units ≡ (link_of item).name.units → IsCurrent view f item.key

abbrev Behind : FileName → (FileName → Type 0) → FileName → Type 0
Behind name done other = (name ≡ other) ⊎ done other

module _ (told : DuplicatedInformation) (f : ℕ) (name : FileName) (names : List FileName) (old new : VolumeView)
    (r : RefreshesEntry old new name.parent.number name.units told) (s : StandsFor old f (name ∷ names)) (is : IsToldOf old f told) where
  abbrev at : ℕ
  at = name.parent.number

  c : IsRefreshable old at
  c = can-tell old at s.sound s.apart (s.elsewhere name (Contains-head name names))

  pub told-then : IsToldOf new f told
  told-then = record {
    times = is.times ∙ sym (ap standard_times (standard-same old new at name.units told r c f));
    flags = is.flags ∙ sym (ap standard_flags (standard-same old new at name.units told r c f));
    sizes = is.sizes ∙ sym (ap stream_sizes (first-same old new at name.units told r c f));
  }

  now-current : IsCurrent new f r.now.key
  now-current = current-now old new at name.units told r c f is

  units-now : (link_of r.now).name.units ≡ name.units
  units-now = ap (λ (l : Link). l.name.units) r.refreshes.link ∙ r.units_are

  -- in the directory itself
  here : (items next : List Item) → HasItems new at next → Replaces items next (r.was ∷ []) (r.now ∷ []) → (done : FileName → Type 0)
      → AreDone old f at items done → AreDone new f at next (Behind name done)
  unfolding name_in
  here items next h replaces done before = record {
    each = λ item among other which stands units. elim which [
      | inl same ↦
          let came = Replaces-came items next (r.was ∷ []) (r.now ∷ []) r.now replaces (Contains-head r.now []) in
          let u : key_units item.key ≡ key_units r.now.key = sym units ∙ ap (λ (n : FileName). n.units) (sym same) ∙ sym units-now in
          let e : name_order (volume_fold new) item.key r.now.key ≡ Equal = (name_ties (volume_fold new) item.key r.now.key).1 u in
          let back : name_order (volume_fold new) r.now.key item.key ≡ Equal = (name_ties (volume_fold new) r.now.key item.key).1 (sym u) in
          subst (λ (x : Item). IsCurrent new f x.key)
          (one-of-key (name_order (volume_fold new)) next r.now item h.index.ascending came among back e) now-current
      | inr was_done ↦ elim (Replaces-member items next (r.was ∷ []) (r.now ∷ []) item replaces among) [
        | inl stood ↦ current-stays old new at name.units told r c f item.key (before.each item stood other was_done stands units)
        | inr came ↦ subst (λ (x : Item). IsCurrent new f x.key) (Contains-only r.now item came) now-current
      ]
    ];
  }

  pub done-then : (g : ℕ) (items : List Item) → HasItems old g items → (done : FileName → Type 0) → AreDone old f g items done
      → (next : List Item) × HasItems new g next × AreDone new f g next (Behind name done)
  done-then g items h done before = elim (cases_eq g at) [
    | inl same ↦
        let x = items-changed old new at name.units told r c items (subst (λ d. HasItems old d items) same h) in (
          x.0,
          subst (λ d. HasItems new d x.0) (sym same) x.1,
          subst (λ d. AreDone new f d x.0 (Behind name done)) (sym same)
              (here items x.0 x.1 x.2 done (subst (λ d. AreDone old f d items done) same before)),
        )
    | inr ne ↦ (
      items,
      other-items old new at name.units told r c g ne items h,
      record {
        each = λ item among other which stands units. elim which [
          | inl same ↦ absurd (ne (sym stands ∙ ap (λ (n : FileName). n.parent.number) (sym same)))
          | inr was_done ↦ current-stays old new at name.units told r c f item.key (before.each item among other was_done stands units)
        ];
      },
    )
  ]

-- all that were done before, and all of these
pub chain-done : (told : DuplicatedInformation) (f : ℕ) (names : List FileName) (old new : VolumeView) → RefreshesNames told old new names
    → StandsFor old f names → IsToldOf old f told → (g : ℕ) (items : List Item) → HasItems old g items → (done : FileName → Type 0)
    → AreDone old f g items done → (next : List Item) × HasItems new g next × AreDone new f g next (λ name. done name ⊎ Contains names name)
chain-done told f [] old new r s is g items h done before = (
  items,
  subst (λ v. HasItems v g items) (sym r) h,
  record {
    each = λ item among other which stands units. elim which [
      | inl was_done ↦ subst (λ v. IsCurrent v f item.key) (sym r) (before.each item among other was_done stands units)
      | inr none ↦ absurd (Contains-nil other none)
    ];
  },
)
chain-done told f (name ∷ names) old new r s is g items h done before =
    let a = done-then told f name names old r.0 r.1 s is g items h done before in
    let b = chain-done told f names r.0 new r.2 (stands-then told f name names old r.0 r.1 s)
    (told-then told f name names old r.0 r.1 s is) g a.0 a.1
    (Behind name done) a.2 in (
      b.0,
      b.1,
      record {
        each = λ item among other which stands units. b.2.each item among other (elim which [
          | inl was_done ↦ inl (inr was_done)
          | inr later ↦ elim (Contains-cases name names other later) [
            | inl same ↦ inl (inl same)
            | inr rest ↦ inr rest
          ]
        ]) stands units;
      },
    )
