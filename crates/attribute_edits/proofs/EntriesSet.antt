-- THE ENTRIES of all directories where the attributes of a file were set: those of other files are as they were, each of the file tells
-- what it does, and keeps what the tree does not show.
use Rattle.std.proofs.Common.{◌≡◌, ◌==◌, ◌&&◌, ◌||◌, ℕ, Bool, true, false, List, [], ◌∷◌, refl, sym, ap, subst, inl, inr, ◌∙◌, true≢false}
use Rattle.std.specs.Prelude.{Contains, bit_and, cond, filter, not}
use Rattle.std.proofs.lemmas.Bool.{and_parts, eq-eqb, eqb-true}
use Rattle.ntfs_def.specs.FileName.{Link, key_units, link_of, name_in}
use Rattle.ntfs_def.specs.KeyOrder.{name_order}
use Rattle.ntfs_def.specs.Node.{Item}
use Rattle.ntfs_def.proofs.KeyOrderLaws.{name_ties}
use Rattle.std.specs.Str.{bytes_eq}
use Rattle.std.proofs.lemmas.Slice.Eq.{bytes_eq-Decides}
use Rattle.list_laws.proofs.FindLaws.{any-found}
use Rattle.list_laws.proofs.MemberLaws.{Contains-cases, Contains-head, Contains-later, Contains-nil}
use Rattle.list_laws.proofs.SameItemsLaws.{SameItems-same}
use Rattle.volume_def.specs.CaseClause.{volume_fold}
use Rattle.volume_def.specs.View.{VolumeView}
use Rattle.edit_def.specs.Items.{HasItems, IsCurrent}
use Rattle.tree_model.specs.Drops.{is_link}
use Rattle.tree_model.specs.Reading.{link_for}
use Rattle.tree_model.specs.Tree.{Tree}
use Rattle.tree_model.specs.declared.tree.TheConstants.{SHOWN_FLAGS}
use Rattle.in_place.specs.Indexes.{KeepsRest, KeepsRests, is_same_entry, stays_in}
use Rattle.in_place.specs.Kept.{KeepsEntries, file_in, link_in}
use Rattle.in_place.specs.Named.{is_one_of}
use Rattle.entry_edits.specs.Below.{DuplicatedInformation}
use Rattle.entry_edits.proofs.RefreshedKeys.{rest-kept}
use Rattle.entry_edits.proofs.SwappedItems.{one-of-key}
use Rattle.attribute_edits.specs.Attributes.{AreRefreshed, IsAsTold}

-- OF OTHER FILES nothing changed.
abbrev of-others : ℕ → Item → Bool
of-others f item = not (is_one_of (f ∷ []) (file_in item))

same-file : (told : DuplicatedInformation) (f : ℕ) (was now : Item) → IsAsTold told f was now → file_in now ≡ file_in was
same-file told f was now (inl e) = ap file_in e
same-file told f was now (inr h) = ap (λ (l : Link). l.file.number) h.0.link

pub others-same : (told : DuplicatedInformation) (f : ℕ) (was now : List Item) → AreRefreshed told f was now
    → filter (of-others f) now ≡ filter (of-others f) was
others-same told f [] [] h = refl
others-same told f [] (b ∷ bs) h = absurd h
others-same told f (a ∷ xs) [] h = absurd h
others-same told f (a ∷ xs) (b ∷ bs) h = by h.0 (others-same told f xs bs h.1)
  where
    by : IsAsTold told f a b → filter (of-others f) bs ≡ filter (of-others f) xs
        → filter (of-others f) (b ∷ bs) ≡ filter (of-others f) (a ∷ xs)
    by (inl e) ih = ap (λ x. filter (of-others f) (x ∷ bs)) e ∙ ap (λ ys. cond (of-others f a) (a ∷ ys) ys) ih
    by (inr r) ih =
        let fb = dropped (file_in b) r.1 in
        let fa = dropped (file_in a) (sym (same-file told f a b (inr r)) ∙ r.1) in
        ap (λ t. cond t (b ∷ filter (of-others f) bs) (filter (of-others f) bs)) fb ∙ ih
        ∙ sym (ap (λ t. cond t (a ∷ filter (of-others f) xs) (filter (of-others f) xs)) fa)
      where
        dropped : (g : ℕ) → g ≡ f → not (is_one_of (f ∷ []) g) ≡ false
        dropped g e = ap (λ t. not (t || false)) (eq-eqb f g (sym e))

-- Each item of now stands for one of before.
pub stands-for : (told : DuplicatedInformation) (f : ℕ) (was now : List Item) → AreRefreshed told f was now → (item : Item)
    → Contains now item
    → (old : Item) × Contains was old × IsAsTold told f old item
stands-for told f [] [] h item c = absurd (Contains-nil item c)
stands-for told f [] (b ∷ bs) h item c = absurd h
stands-for told f (a ∷ xs) [] h item c = absurd h
stands-for told f (a ∷ xs) (b ∷ bs) h item c = elim (Contains-cases b bs item c) [
  | inl e ↦ (a, Contains-head a xs, subst (IsAsTold told f a) e h.0)
  | inr later ↦ let x = stands-for told f xs bs h.1 item later in (x.0, Contains-later a xs x.0 x.1, x.2)
]

-- one link is of the same units
units-of-link : (a b : Item) → is_same_entry a b ≡ true → key_units a.key ≡ key_units b.key
unfolding name_in
units-of-link a b e =
    let x = and_parts _ _ e in
    let y = and_parts _ _ x.0 in
    let z = and_parts _ _ y.0 in
    (bytes_eq-Decides (key_units a.key) (key_units b.key)).0 z.1

itself : (n m u : ℕ) (name : List ℕ) → ((n == n) && bytes_eq name name && (m == m) && (u == u)) ≡ true
itself n m u name = rw (eq-eqb n n refl, (bytes_eq-Decides name name).1 refl, eq-eqb m m refl, eq-eqb u u refl) refl

entry-itself : (x : Item) → is_same_entry x x ≡ true
entry-itself x = itself (link_in x).parent (link_in x).space (link_in x).child (link_in x).name

entry-same : (a b : Item) → link_of b ≡ link_of a → is_same_entry b a ≡ true
entry-same a b e = subst (λ (l : Link). is_link (link_for l.file.number l.name) (link_in a) ≡ true) (sym e) (entry-itself a)

module _ (view : VolumeView) (dir : ℕ) (was now : List Item) (told : DuplicatedInformation) (f : ℕ)
    (shown : bit_and told.flags SHOWN_FLAGS ≡ told.flags)
    (new : VolumeView) (h : HasItems view dir was) (all : AreRefreshed told f was now) where
  kept-rest : (old item : Item) → IsAsTold told f old item → KeepsRest new (file_in item) old.key item.key
  kept-rest old item (inl e) = subst (λ (x : Item). KeepsRest new (file_in item) old.key x.key) (sym e)
      (record { flags = refl; marks = inl refl; last = refl; name = refl })
  kept-rest old item (inr r) = rest-kept new (file_in item) told old.key item.key r.0.key shown

  -- a directory has one item of a link
  one-of-link : (a b : Item) → Contains was a → Contains was b → key_units a.key ≡ key_units b.key → a ≡ b
  one-of-link a b ca cb u =
      one-of-key (name_order (volume_fold view)) was a b h.index.ascending ca cb ((name_ties (volume_fold view) a.key b.key).1 u)
      ((name_ties (volume_fold view) b.key a.key).1 (sym u))

  told-units : (old item : Item) → IsAsTold told f old item → key_units item.key ≡ key_units old.key
  unfolding name_in
  told-units old item (inl e) = ap (λ (x : Item). key_units x.key) e
  told-units old item (inr r) = ap (λ (l : Link). l.name.units) r.0.link

  pub rests : KeepsRests new (f ∷ []) [] was now
  rests = record {
    stayed = λ old item there among own same gone.
        let x = stands-for told f was now all item among in
        let u : key_units x.0.key ≡ key_units old.key = sym (told-units x.0 item x.2) ∙ units-of-link item old same in
        let e : x.0 ≡ old = one-of-link x.0 old x.1 there u in
        subst (λ (y : Item). KeepsRest new (file_in item) y.key item.key) e (kept-rest x.0 item x.2);
    came = λ item among own none name there link.
        let x = stands-for told f was now all item among in
        absurd (true≢false (sym (stays x.0 item x.1 x.2) ∙ none));
  }
    where
      same-link : (old item : Item) → IsAsTold told f old item → is_same_entry item old ≡ true
      same-link old item (inl e) = subst (λ x. is_same_entry x old ≡ true) (sym e) (entry-itself old)
      same-link old item (inr r) = entry-same old item r.0.link

      stays : (old item : Item) → Contains was old → IsAsTold told f old item → stays_in [] was item ≡ true
      stays old item c t = ap (λ b. b && true) (any-found (is_same_entry item) was old c (same-link old item t))

  pub entries : (before next : Tree) → ((item : Item) → Contains now item → file_in item ≡ f → IsCurrent new f item.key)
      → KeepsEntries new before next (f ∷ []) [] was now
  entries before next current = record {
    others = SameItems-same _ _ (sym (others-same told f was now all));
    own = λ item among own. inl (let e = file-is item own in subst (λ g. IsCurrent new g item.key) (sym e) (current item among e));
  }
    where
      file-is : (item : Item) → is_one_of (f ∷ []) (file_in item) ≡ true → file_in item ≡ f
      file-is item own = by (f == file_in item) refl own
        where
          by : (b : Bool) → (f == file_in item) ≡ b → (b || false) ≡ true → file_in item ≡ f
          by true e t = sym (eqb-true f (file_in item) e)
          by false e t = cc
