-- A link that is dropped was there once: the items of a directory's index ascend by their names.
use Rattle.std.proofs.Common.{Bool, List, Some, [], ap, arith, eq-eqb, eqb-true, false, inl, inr, refl, subst, sym, true, ℕ, ◌&&◌, ◌==◌}
use Rattle.std.proofs.Common.{◌∙◌, ◌∷◌, ◌≡◌, ◌≤◌}
use Rattle.std.specs.List.{Contains}
use Rattle.std.specs.Prelude.{count_by}
use Rattle.std.specs.Str.{bytes_eq}
use Rattle.std.specs.declared.cmp.Ordering.TheVariants.{Equal, Less}
use Rattle.std.proofs.lemmas.Bool.{and_from, and_parts}
use Rattle.std.proofs.lemmas.Slice.Eq.{bytes_eq-Decides}
use Rattle.list_laws.specs.SameItems.{SameItems}
use Rattle.list_laws.proofs.FindLaws.{count-no, count-none, count-some, count-yes}
use Rattle.list_laws.proofs.MemberLaws.{Contains-cases, Contains-from_map, Contains-nil}
use Rattle.list_laws.proofs.SameItemsLaws.{count-filter, count-map}
use Rattle.ntfs_def.specs.FileName.{FileName, key_units, link_of, name_in}
use Rattle.ntfs_def.specs.IndexTree.{Ascends, Each}
use Rattle.ntfs_def.specs.KeyOrder.{name_order}
use Rattle.ntfs_def.specs.Node.{Item}
use Rattle.ntfs_def.proofs.KeyOrderLaws.{name_ties}
use Rattle.volume_def.specs.CaseClause.{volume_fold}
use Rattle.volume_def.specs.FileNames.{is_in_directory, links, names_of}
use Rattle.volume_def.specs.Files.{record_on, records_of}
use Rattle.volume_def.specs.IndexesClause.{IsDirectoryIndex}
use Rattle.volume_def.specs.View.{VolumeView}
use Rattle.tree_model.specs.Drops.{is_link}
use Rattle.tree_model.specs.Reading.{all_links, link_by, link_for}
use Rattle.tree_model.specs.declared.tree.Link.{Link}
use Rattle.tree_model.proofs.NamesLaws.{IsShown}
use Rattle.edit_def.specs.Names.{Numbers, numbers_at, numbers_in}
use Rattle.edit_def.proofs.LinkLaws.{by_file, file-links, links_by, referred}
use Rattle.edit_def.proofs.NamesLaws.{number-inside}
use Rattle.name_edits.proofs.ListTests.{count-implied, count-piece}
use Rattle.name_edits.proofs.RightNames.{numbers-base}
use Rattle.ntfs_def.specs.FileName as names

-- whether an item, or a link, has this name
abbrev pub named_item : List ℕ → Item → Bool
named_item units item = bytes_eq (key_units item.key) units

each-of : (P : Item → Type 0) (xs : List Item) (x : Item) → Each P xs → Contains xs x → P x
each-of P [] x each c = absurd (Contains-nil x c)
each-of P (y ∷ ys) x each c = elim (Contains-cases y ys x c) [
  | inl same ↦ subst P same each.0
  | inr later ↦ each-of P ys x each.1 later
]

pub once-item : (fold : ℕ → ℕ) (units : List ℕ) (items : List Item) → Ascends (name_order fold) items
    → count_by (named_item units) items ≤ 1
once-item fold units [] ascends = omega arith
once-item fold units (x ∷ xs) ascends = by (named_item units x) refl (once-item fold units xs ascends.1)
  where
    by : (b : Bool) → named_item units x ≡ b → count_by (named_item units) xs ≤ 1 → count_by (named_item units) (x ∷ xs) ≤ 1
    by false e rest = let c = count-no (named_item units) x xs e in omega (arith, c, rest)
    by true e rest =
        let c = count-yes (named_item units) x xs e in
        let none = count-none (named_item units) xs (λ y there. apart y there (named_item units y) refl) in
        omega (arith, c, none)
      where
        apart : (y : Item) → Contains xs y → (b : Bool) → named_item units y ≡ b → named_item units y ≡ false
        apart y there false e' = e'
        apart y there true e' =
            let less = each-of (λ (z : Item). name_order fold x.key z.key ≡ Less) xs y ascends.0 there in
            let same = (bytes_eq-Decides (key_units x.key) units).0 e ∙ sym ((bytes_eq-Decides (key_units y.key) units).0 e') in
            let equal = (name_ties fold x.key y.key).1 same in
            let never : Equal ≡ Less = sym equal ∙ less in
            cc

abbrev pub has_units : List ℕ → names.Link → Bool
has_units units link = bytes_eq link.name.units units

-- of a directory whose index is right
pub once-link : (v : VolumeView) (dir : ℕ) (units : List ℕ) → IsDirectoryIndex v dir
    → count_by (λ link. is_in_directory dir link && has_units units link) (links (records_of v)) ≤ 1
unfolding name_in
once-link v dir units d =
    let a = once-item (volume_fold v) units d.items d.index.ascending in
    let b = count-map link_of (has_units units) d.items in
    let c = d.names.counts (has_units units) in
    let e = count-filter (is_in_directory dir) (has_units units) (links (records_of v)) in
    omega (arith, a, b, c, e)

-- A link that went is not there any more.
pub gone-once : (old new : VolumeView) (f sequence : ℕ) (name : names.FileName) → IsDirectoryIndex old name.parent.number
    → SameItems (record { file = record { number = f; sequence = sequence }; name = name } ∷ links (records_of new))
    (links (records_of old))
    → (other : Link) → Contains (all_links new) other → is_link (link_for f name) other ≡ false
unfolding all_links
gone-once old new f sequence name d same other c = by (is_link (link_for f name) other) refl
  where
    by : (b : Bool) → is_link (link_for f name) other ≡ b → is_link (link_for f name) other ≡ false
    by false e = e
    by true e =
        let w = Contains-from_map link_by (links (records_of new)) other c in
        let p = and_parts _ (f == other.child) e in
        let q = and_parts _ (name.namespace == other.space) p.0 in
        let r = and_parts (name.parent.number == other.parent) (bytes_eq name.units other.name) q.0 in
        let dir : name.parent.number ≡ w.0.name.parent.number = eqb-true name.parent.number other.parent r.0
        ∙ ap (λ (l : Link). l.parent) (sym w.2) in
        let units : name.units ≡ w.0.name.units = (bytes_eq-Decides name.units other.name).0 r.1 ∙ ap (λ (l : Link). l.name) (sym w.2) in
        let test : names.Link → Bool = λ link. is_in_directory name.parent.number link && has_units name.units link in
        let link : names.Link = record { file = record { number = f; sequence = sequence }; name = name } in
        let one = once-link old name.parent.number name.units d in
        let here = count-some test (links (records_of new)) w.0 w.1
        (and_from (w.0.name.parent.number == name.parent.number) (bytes_eq w.0.name.units name.units)
        (eq-eqb w.0.name.parent.number name.parent.number (sym dir)) ((bytes_eq-Decides w.0.name.units name.units).1 (sym units))) in
        let more = count-yes test link (links (records_of new))
        (and_from (name.parent.number == name.parent.number) (bytes_eq name.units name.units)
        (eq-eqb name.parent.number name.parent.number refl) ((bytes_eq-Decides name.units name.units).1 refl)) in
        let counts = same.counts test in
        absurd (omega (arith, one, here, more, counts))

-- NO NAME TWICE in one directory, by the directory's index.
pub names-once : (v : VolumeView) (f : ℕ) (name : FileName) (numbers : Numbers) → numbers_at (records_of v) f ≡ Some numbers
    → IsDirectoryIndex v name.parent.number
    → count_by (λ (n : FileName). is_link (link_for f name) (link_for f n)) (names_of (records_of v) f) ≤ 1
unfolding links
names-once v f name numbers at d =
    let dir = name.parent.number in
    let test : names.Link → Bool = λ link. is_in_directory dir link && has_units name.units link in
    let all = names_of (records_of v) f in
    let one = once-link v dir name.units d in
    let inside = number-inside v f numbers at in
    let piece = count-piece test (by_file (records_of v)) 0 v.layout.count f (omega arith) (omega (arith, inside)) in
    let here = file-links (records_of v) f (record_on v f) ∙ ap (λ o. links_by f o all) at in
    let counted = ap (count_by test) here ∙ count-map (referred f numbers.sequence) test all in
    let less = count-implied (λ (n : FileName). is_link (link_for f name) (link_for f n))
    (λ (n : FileName). test (referred f numbers.sequence n)) all
    (λ n e. same n e) in
    omega (arith, one, piece, counted, less)
  where
    same : (n : FileName) → is_link (link_for f name) (link_for f n) ≡ true
        → ((n.parent.number == name.parent.number) && bytes_eq n.units name.units) ≡ true
    same n e =
        let p = and_parts _ (f == f) e in
        let q = and_parts _ (name.namespace == n.namespace) p.0 in
        let r = and_parts (name.parent.number == n.parent.number) (bytes_eq name.units n.units) q.0 in
        and_from (n.parent.number == name.parent.number) (bytes_eq n.units name.units)
        (eq-eqb n.parent.number name.parent.number (sym (eqb-true name.parent.number n.parent.number r.0)))
        ((bytes_eq-Decides n.units name.units).1 (sym ((bytes_eq-Decides name.units n.units).0 r.1)))

-- A file has its numbers.
pub numbers-shown : (v : VolumeView) (f : ℕ) → IsShown v f → (numbers : Numbers) × (numbers_at (records_of v) f ≡ Some numbers)
numbers-shown v f s = (numbers_in s.base, numbers-base (records_of v) f s.base s.at s.is)
