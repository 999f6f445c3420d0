-- What a volume tells beside its tree is one.
use Rattle.std.proofs.Common.{◌≡◌, ◌<◌, ◌+◌, ◌&&◌, ◌⊎◌, ℕ, zero, suc, Bool, true, false, List, [], ◌∷◌, Option, Some, None, length, arith}
use Rattle.std.proofs.Common.{refl, sym, ap, subst, inl, inr, ◌∙◌}
use Rattle.std.proofs.lemmas.Map.Views.{Contains-from_any}
use Rattle.std.proofs.lemmas.Slice.Eq.{bytes_eq-Decides}
use Rattle.std.specs.Cmp.{tied_itself}
use Rattle.std.specs.Cmp.Lexicographic.{nat_list_cmp_total}
use Rattle.std.specs.List.{Contains, list_any}
use Rattle.std.specs.Prelude.{codes, slice_range, slice_index_or}
use Rattle.std.specs.Str.{bytes_eq}
use Rattle.std.specs.declared.cmp.Ordering.TheVariants.{Less, Equal}
use Rattle.vol_bytes.specs.Field.{u32_at, u64_at}
use Rattle.ntfs_def.specs.IndexTree.{Ascends, Each}
use Rattle.ntfs_def.specs.KeyOrder.{by_numbers, id_order, id_parts}
use Rattle.ntfs_def.specs.Node.{Item}
use Rattle.ntfs_def.specs.Units.{wide}
use Rattle.ntfs_def.specs.declared.index.NodeForm.TheVariants.{View}
use Rattle.ntfs_def.specs.declared.records.TheConstants.{SECURE}
use Rattle.volume_def.specs.IndexesClause.{HasIndex, KeyRule, index_parts}
use Rattle.volume_def.specs.Values.{value_on}
use Rattle.volume_def.specs.View.{VolumeView}
use Rattle.tree_model.specs.Facts.{HasDescriptor, IsVolumeOf, TellsDescriptor, TellsFacts, sds_parts}
use Rattle.ntfs_def.specs.ViewData.{item_data}
use Rattle.tree_model.specs.IndexRoom.{Index}
use Rattle.tree_model.specs.Refusals.{Facts}
use Rattle.tree_model.proofs.IndexRoomLaws.{entry-walk}
use Rattle.tree_model.proofs.StepLaws.{one_volume}
use Rattle.std.proofs.lemmas.Bool.{and_parts}
use Rattle.list_laws.proofs.OrderLaws.{less_equal}

-- an item by all its bytes
abbrev is_item : Item → Item → Bool
is_item x y = bytes_eq x.head y.head && (bytes_eq x.key y.key && bytes_eq x.rest y.rest)

item-same : (x y : Item) → is_item x y ≡ true → x ≡ y
item-same x y e =
    let outer = and_parts (bytes_eq x.head y.head) _ e in
    let inner = and_parts (bytes_eq x.key y.key) _ outer.1 in
    let head = (bytes_eq-Decides x.head y.head).0 outer.0 in
    let key = (bytes_eq-Decides x.key y.key).0 inner.0 in
    let rest = (bytes_eq-Decides x.rest y.rest).0 inner.1 in
    λ i. record { head = head i; key = key i; rest = rest i }

item-itself : (x : Item) → is_item x x ≡ true
item-itself x =
    rw ((bytes_eq-Decides x.head x.head).1 refl, (bytes_eq-Decides x.key x.key).1 refl, (bytes_eq-Decides x.rest x.rest).1 refl) refl

-- a member is the first or stands behind it
member : {A : Type 0} (z : A) (zs : List A) (x : A) (k : ℕ) → k < length (z ∷ zs) → slice_index_or (z ∷ zs) k x ≡ x
    → (z ≡ x) ⊎ Contains zs x
member z zs x zero lt is = inl is
member z zs x (suc k) lt is = inr (k, omega (arith, lt), is)

no_member : {A B : Type 0} (x : A) → Contains [] x → B
no_member x c = absurd (omega (arith, c.1))

any-member : (test : Item → Bool) (xs : List Item) (x : Item) → Contains xs x → test x ≡ true → list_any test xs ≡ true
any-member test [] x c t = no_member x c
any-member test (z ∷ zs) x c t = by (λ d. any-member test zs x d t) (member z zs x c.0 c.1 c.2) (test z) refl
  where
    by : (Contains zs x → list_any test zs ≡ true) → (z ≡ x) ⊎ Contains zs x → (s : Bool) → test z ≡ s
        → list_any test (z ∷ zs) ≡ true
    by ih h true s = rw s refl
    by ih (inl e) false s = let f : true ≡ false = sym t ∙ ap test (sym e) ∙ s in cc
    by ih (inr d) false s = rw s (ih d)

-- two walks of one index have the same items
pub other-walk : (view : VolumeView) (index : Index) (rule : KeyRule) (items others : List Item)
    → HasIndex index.form rule view (index_parts view index.file index.name) items
    → HasIndex index.form rule view (index_parts view index.file index.name) others
    → (x : Item) → Contains items x → Contains others x
other-walk view index rule items others has other_has x c =
    Contains-from_any item-same x others
    (sym (entry-walk view index rule others (is_item x) other_has)
    ∙ entry-walk view index rule items (is_item x) has
    ∙ any-member (is_item x) items x c (item-itself x))

tied : (x y : Item) → u32_at x.key 0 ≡ u32_at y.key 0 → id_order x.key y.key ≡ Equal
unfolding id_order
tied x y e = ap (λ n. by_numbers (n ∷ []) (id_parts y.key)) e ∙ tied_itself nat_list_cmp_total (id_parts y.key)

behind : (x : Item) (zs : List Item) (y : Item) → Each (λ (z : Item). id_order x.key z.key ≡ Less) zs → Contains zs y
    → id_order x.key y.key ≡ Less
behind x [] y each c = no_member y c
behind x (z ∷ zs) y each c = by (behind x zs y each.1) (member z zs y c.0 c.1 c.2)
  where
    by : (Contains zs y → id_order x.key y.key ≡ Less) → (z ≡ y) ⊎ Contains zs y → id_order x.key y.key ≡ Less
    by ih (inl e) = ap (λ (w : Item). id_order x.key w.key) (sym e) ∙ each.0
    by ih (inr d) = ih d

-- an id stands once
pub one_item : (zs : List Item) (x y : Item) → Ascends id_order zs → Contains zs x → Contains zs y → u32_at x.key 0 ≡ u32_at y.key 0 → x ≡ y
one_item [] x y ascends cx cy same = no_member x cx
one_item (z ∷ zs) x y ascends cx cy same =
    by (λ dx dy. one_item zs x y ascends.1 dx dy same) (member z zs x cx.0 cx.1 cx.2) (member z zs y cy.0 cy.1 cy.2)
  where
    by : (Contains zs x → Contains zs y → x ≡ y) → (z ≡ x) ⊎ Contains zs x → (z ≡ y) ⊎ Contains zs y → x ≡ y
    by ih (inl e) (inl f) = sym e ∙ f
    by ih (inl e) (inr c) =
        let less = ap (λ (w : Item). id_order w.key y.key) (sym e) ∙ behind z zs y ascends.0 c in
        absurd (less_equal (sym less ∙ tied x y same))
    by ih (inr c) (inl f) =
        let less = ap (λ (w : Item). id_order w.key x.key) (sym f) ∙ behind z zs x ascends.0 c in
        absurd (less_equal (sym less ∙ tied y x (sym same)))
    by ih (inr c) (inr d) = ih c d

same_bytes : (view : VolumeView) (id : ℕ) (a b : List ℕ) → HasDescriptor view id a → HasDescriptor view id b → a ≡ b
same_bytes view id a b x y =
    let index : Index = record { file = SECURE; form = View; name = wide (codes "$SII") } in
    let moved : Contains y.index.items x.item =
    other-walk view index _ x.index.items y.index.items x.index.has y.index.has x.item x.among in
    let same : x.item ≡ y.item = one_item y.index.items x.item y.item y.index.has.ascending moved y.among (x.key ∙ sym y.key) in
    let offset : x.offset ≡ y.offset = x.offset_is ∙ ap (λ (item : Item). u64_at (item_data item) 8) same ∙ sym y.offset_is in
    let size : x.size ≡ y.size = x.size_is ∙ ap (λ (item : Item). u32_at (item_data item) 16) same ∙ sym y.size_is in
    let all = value_on view (sds_parts view) in
    x.is
    ∙ ap (λ from. slice_range all (from + 20) (from + x.size)) offset
    ∙ ap (λ len. slice_range all (y.offset + 20) (y.offset + len)) size
    ∙ sym y.is

-- of an id it tells one descriptor, or that it has none
pub one_told : (view : VolumeView) (id : ℕ) (a b : Option (List ℕ)) → TellsDescriptor view id a → TellsDescriptor view id b → a ≡ b
one_told view id None None x y = refl
one_told view id None (Some b) x y = absurd (x b y)
one_told view id (Some a) None x y = absurd (y a x)
one_told view id (Some a) (Some b) x y = ap Some (same_bytes view id a b x y)

pub one_facts : (view : VolumeView) (one other : Facts) → TellsFacts view one → TellsFacts view other → one ≡ other
one_facts view one other x y = λ i. record {
  clusters = (x.clusters ∙ sym y.clusters) i;
  free = (x.free ∙ sym y.free) i;
  records = (x.records ∙ sym y.records) i;
  free_records = (x.free_records ∙ sym y.free_records) i;
  whole_table = (x.whole_table ∙ sym y.whole_table) i;
  built_for = λ m command at. (x.built_for m command at ∙ sym (y.built_for m command at)) i;
  in_use = λ n. (x.in_use n ∙ sym (y.in_use n)) i;
  descriptor = λ id. one_told view id (one.descriptor id) (other.descriptor id) (x.descriptors id) (y.descriptors id) i;
  no_room = λ m command at. (x.no_room m command at ∙ sym (y.no_room m command at)) i;
}

-- .. so what an image tells is one
pub image_facts : (image : List ℕ) (view last : VolumeView) (one other : Facts) → IsVolumeOf image view → IsVolumeOf image last
    → TellsFacts view one → TellsFacts last other → one ≡ other
image_facts image view last one other v w x y =
    one_facts view one other x (subst (λ it. TellsFacts it other) (one_volume image last view w v) y)
