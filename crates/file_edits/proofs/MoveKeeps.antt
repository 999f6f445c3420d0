-- PARTS MOVE, records come and go: every attribute is kept.
use Rattle.std.proofs.Common.{◌≡◌, ◌≢◌, ◌+◌, ◌==◌, ◌&&◌, not, ℕ, Bool, true, false, cond, List, [], ◌∷◌, map, filter, Option, Some}
use Rattle.std.proofs.Common.{refl, sym, ap}
use Rattle.std.proofs.Common.{subst, inl, inr, ◌∙◌, arith}
use Rattle.std.specs.Prelude.{IfSome, Contains, count_by, is_some, nat_le, nat_lt}
use Rattle.std.proofs.lemmas.Bool.Decides.{nat_tests}
use Rattle.ntfs_def.specs.Runs.{total_clusters}
use Rattle.list_laws.proofs.FindLaws.{count-none, count-some, find-none}
use Rattle.std.specs.Option.{option_map}
use Rattle.std.specs.Str.{bytes_eq}
use Rattle.std.proofs.Common.{length, ◌⊎◌}
use Rattle.std.proofs.lemmas.Bool.{and_parts, cases_Bool, cases_eq, eqb-true}
use Rattle.std.proofs.lemmas.Slice.Eq.{bytes_eq-Decides}
use Rattle.std.proofs.lemmas.List.{length-map}
use Rattle.list_laws.proofs.ReplacesLaws.{Replaces-filter, Replaces-itself}
use Rattle.record_edits.specs.Whole.{IsWhole}
use Rattle.ntfs_def.specs.declared.kinds.TheConstants.{FILE_NAME}
use Rattle.ntfs_def.specs.declared.run_text.Spot.TheVariants.{Outside}
use Rattle.volume_def.specs.Edits.{MovesPart, Said, said_by}
use Rattle.volume_def.specs.Files.{Record, Records, record_on, Clusters, Content, Value, Part, content_extent, content_value, file_of}
use Rattle.volume_def.specs.Files.{is_of, parts, parts_at, records_of}
use Rattle.list_laws.specs.SameItems.{SameItems}
use Rattle.volume_def.specs.Table.{cluster_bytes}
use Rattle.volume_def.specs.Values.{KeepsClusters, first_vcn_of, holds_vcn, is_first, spot_at, spot_by}
use Rattle.volume_def.specs.View.{VolumeView}
use Rattle.volume_def.proofs.ExtentsClauseLaws.{parts_of-said}
use Rattle.list_laws.proofs.MemberLaws.{Contains-from_filter, Contains-from_map, Contains-map, filter-map}
use Rattle.volume_def.proofs.PartLaws.{HoldsPart-Contains}
use Rattle.volume_def.specs.AttributesClause.{IsRightPart, IsRightRecord, MeetsAttributes}
use Rattle.std.proofs.lemmas.List.Elements.{All-contains}
use Rattle.volume_def.proofs.RecordLaws.{parts-moved, parts-own_at, parts-unmoved}
use Rattle.volume_def.proofs.SaidLaws.{spot_at-said}
use Rattle.list_laws.proofs.SameItemsLaws.{SameItems-filter, SameItems-length, SameItems-map, SameItems-same, SameItems-trans}
use Rattle.edit_def.specs.Kept.{AreTellable, KeepsBut, KeepsFile, Key, Told, is_kept, key_of, sized, told_by, told_of}

-- what is told of a part is told by what it says
abbrev told_said : Said → Told
told_said said = record {
  kind = said.kind;
  name = said.name;
  flags = said.flags;
  value = content_value said.content;
  sizes = option_map sized (content_extent said.content);
}

abbrev first_said : Said → Bool
first_said said = first_vcn_of said.content == 0

map-map : {X Y Z : Type 0} (g : Y → Z) (h : X → Y) (xs : List X) → map g (map h xs) ≡ map (λ x. g (h x)) xs
map-map g h [] = refl
map-map g h (x ∷ xs) = ap (λ l. g (h x) ∷ l) (map-map g h xs)

told-is : (xs : List Part) → map told_by (filter is_first xs) ≡ map told_said (filter first_said (map said_by xs))
told-is xs = sym (map-map told_said said_by (filter is_first xs)) ∙ ap (map told_said) (sym (filter-map said_by first_said xs))

pub told-same : (old new : VolumeView) (f : ℕ) → SameItems (map said_by (parts (records_of old) f)) (map said_by (parts (records_of new) f))
    → SameItems (told_of old f) (told_of new f)
told-same old new f h =
    SameItems-trans _ _ _ (SameItems-same _ _ (told-is (parts (records_of old) f)))
    (SameItems-trans _ _ _ (SameItems-map told_said _ _ (SameItems-filter first_said _ _ h)) (SameItems-same _ _ (sym (told-is (parts
    (records_of new) f)))))

-- A FILE WHOSE PARTS SAY THE SAME, wherever they stand, keeps its attributes: in their order, or where names can be told apart in any.
pub KeepsFile-said : (changed : Key → Bool) (old new : VolumeView) (f : ℕ)
    → SameItems (map said_by (parts (records_of old) f)) (map said_by (parts (records_of new) f))
    → (map said_by (parts (records_of new) f) ≡ map said_by (parts (records_of old) f)) ⊎ AreTellable (told_of old f)
    → ((kind : ℕ) (name : List ℕ) (vcn : ℕ) → spot_at (parts_at new f kind name) vcn ≡ spot_at (parts_at old f kind name) vcn)
    → ((kind : ℕ) (name : List ℕ) → changed (key_of f kind name) ≡ false → KeepsClusters old new (parts_at old f kind name))
    → KeepsFile changed old new f
KeepsFile-said changed old new f h order spots clusters = record {
  told = SameItems-filter (is_kept changed f) _ _ (told-same old new f h);
  order = elim order [
    | inl e ↦ inl (ap (filter (is_kept changed f)) (told-is (parts (records_of new) f) ∙ ap (λ s. map told_said (filter first_said s)) e
        ∙ sym (told-is (parts (records_of old) f))))
    | inr apart ↦ inr (λ a b c d units. apart a b (Contains-from_filter (is_kept changed f) (told_of old f) a c).0
        (Contains-from_filter (is_kept changed f) (told_of old f) b d).0 units)
  ];
  spots = λ kind name free vcn. spots kind name vcn;
  clusters = clusters;
}

no-items : {A : Type 0} (ys : List A) → length ys ≡ 0 → ys ≡ []
no-items [] e = refl
no-items (y ∷ ys) e = absurd (omega (arith, e))

-- the clusters of an attribute that is whole lie where they lay
pub spots-said : (view : VolumeView) (key : Key) (new : List Part) (vcn : ℕ) → IsWhole view key → key.kind ≢ FILE_NAME
    → SameItems (map said_by (parts_at view key.file key.kind key.name)) (map said_by new)
    → spot_at new vcn ≡ spot_at (parts_at view key.file key.kind key.name) vcn
spots-said view key new vcn whole other said = elim (whole other) [
  | inl none ↦
      let count = SameItems-length _ _ said in
      let empty : new ≡ [] = no-items _ (omega (arith, count, length-map new said_by, ap (λ l. length (map said_by l)) none)) in
      ap (λ l. spot_at l vcn) (empty ∙ sym none)
  | inr are ↦ spot_at-said (cluster_bytes view.layout) key.file (parts_at view key.file key.kind key.name) new vcn said are
]

-- ALL OTHER ATTRIBUTES of the file have the parts that they had.
module _ (old new : Records) (from to : ℕ) (was now : Part) (m : MovesPart old new from to was now) where
  pub at-unmoved : (kind : ℕ) (name : List ℕ) → is_of kind name was ≡ false
      → filter (is_of kind name) (parts new (file_of from m.leaves.was_record))
      ≡ filter (is_of kind name) (parts old (file_of from m.leaves.was_record))
  at-unmoved kind name differs =
      let none_was : filter (is_of kind name) (was ∷ []) ≡ [] = ap (λ b. cond b (was ∷ []) []) differs in
      let none_now : filter (is_of kind name) (now ∷ []) ≡ [] =
      ap (λ b. cond b (now ∷ []) []) (ap (λ (s : Said). (s.kind == kind) && bytes_eq s.name name) m.same ∙ differs) in
      Replaces-itself _ _ _ _ (sym none_now) (Replaces-filter (is_of kind name) _ _ _ _
      (parts-own_at m.between new to (file_of from m.leaves.was_record) [] (now ∷ []) m.comes m.file))
      ∙ Replaces-itself _ _ _ _ none_was (Replaces-filter (is_of kind name) _ _ _ _
      (parts-own_at old m.between from (file_of from m.leaves.was_record) (was ∷ []) [] m.leaves refl))

-- names are values: they have no cluster
abbrev has_value : Said → Bool
has_value said = is_some (content_value said.content)

value-holds-none : (vcn : ℕ) (part : Part) (c : Content) → part.content ≡ c → is_some (content_value c) ≡ true → holds_vcn vcn part ≡ false
value-holds-none vcn part (Value value) e is = rw e (holds-nothing vcn)
  where
    holds-nothing : (vcn : ℕ) → (nat_le 0 vcn && nat_lt vcn (0 + total_clusters [])) ≡ false
    holds-nothing vcn = grind (arith, nat_tests)
value-holds-none vcn part (Clusters extent runs) e is = absurd (no-both (sym is))
  where
    no-both : true ≡ false → ⊥
    no-both e = cc

values-outside : (vcn : ℕ) (xs : List Part) → count_by (λ s. not (has_value s)) (map said_by xs) ≡ 0 → spot_at xs vcn ≡ Outside
values-outside vcn xs h = ap (λ o. spot_by o vcn) (find-none (holds_vcn vcn) xs (count-none (holds_vcn vcn) xs (λ x among.
    value-holds-none vcn x x.content refl (each x among))))
  where
    each : (x : Part) → Contains xs x → is_some (content_value x.content) ≡ true
    each x among = by (is_some (content_value x.content)) refl
      where
        by : (b : Bool) → is_some (content_value x.content) ≡ b → b ≡ true
        by true e = refl
        by false e = absurd (omega (
          arith,
          h,
          count-some (λ s. not (has_value s)) (map said_by xs) (said_by x)
              (Contains-map said_by xs x among) (ap not e),
        ))

of_record : (P : Record → Type 0) (found : Option Record) (r : Record) → found ≡ Some r → IfSome found P → P r
of_record P found r e claim = subst (λ o. IfSome o P) e claim

part-right : (view : VolumeView) (f : ℕ) (part : Part) → ((m : ℕ) → MeetsAttributes (records_of view) m)
    → Contains (parts (records_of view) f) part → IsRightPart part
part-right view f part right c =
    let h = HoldsPart-Contains (records_of view) f part c in
    let its = of_record (IsRightRecord h.0) (record_on view h.0) h.1.record_there h.1.held (right h.0) in
    All-contains IsRightPart h.1.record_there.parts part its.each h.1.among

names-outside : (view : VolumeView) (f : ℕ) (name : List ℕ) → ((m : ℕ) → MeetsAttributes (records_of view) m)
    → count_by (λ s. not (has_value s)) (map said_by (parts_at view f FILE_NAME name)) ≡ 0
names-outside view f name right =
    count-none (λ s. not (has_value s)) (map said_by (parts_at view f FILE_NAME name)) (λ s among.
    let w = Contains-from_map said_by (parts_at view f FILE_NAME name) s among in
    let u = Contains-from_filter (is_of FILE_NAME name) (parts (records_of view) f) w.0 w.1 in
    let kind : w.0.kind ≡ FILE_NAME = eqb-true w.0.kind FILE_NAME (and_parts (w.0.kind == FILE_NAME) (bytes_eq w.0.name name) u.1).0 in
    let resident = (part-right view f w.0 right u.0).resident (rw kind refl) in
    ap (λ s. not (has_value s)) (sym w.2) ∙ ap not resident)

-- A MOVE of an attribute that is whole keeps all.
module _ (changed : Key → Bool) (old new : VolumeView) (from to : ℕ) (was now : Part) (right : (m : ℕ)
    → MeetsAttributes (records_of old) m) (m : MovesPart (records_of old) (records_of new) from to was now)
    (whole : IsWhole old (key_of (file_of from m.leaves.was_record) was.kind was.name)) where
  abbrev own : ℕ
  own = file_of from m.leaves.was_record

  same-own : SameItems (map said_by (parts (records_of old) own)) (map said_by (parts (records_of new) own))
  same-own = parts-moved (records_of old) (records_of new) from to was now m

  -- the attribute that moves ..
  spots-own : (kind : ℕ) (name : List ℕ) (vcn : ℕ) → is_of kind name was ≡ true → kind ≢ FILE_NAME
      → spot_at (parts_at new own kind name) vcn ≡ spot_at (parts_at old own kind name) vcn
  spots-own kind name vcn it other =
      let p = and_parts (was.kind == kind) (bytes_eq was.name name) it in
      let said = parts_of-said kind name (parts (records_of old) own) (parts (records_of new) own) same-own in
      spots-said old (key_of own kind name) (parts_at new own kind name) vcn
      (subst (λ q. IsWhole old (key_of own kind q)) ((bytes_eq-Decides was.name name).0 p.1)
      (subst (λ q. IsWhole old (key_of own q was.name)) (eqb-true was.kind kind p.0) whole)) other said

  -- .. a name, which has no clusters, and any other
  spots-moved : (kind : ℕ) (name : List ℕ) (vcn : ℕ)
      → spot_at (parts_at new own kind name) vcn ≡ spot_at (parts_at old own kind name) vcn
  spots-moved kind name vcn = elim (cases_eq kind FILE_NAME) [
    | inl is ↦
        let none = names-outside old own name right in
        let said = parts_of-said FILE_NAME name (parts (records_of old) own) (parts (records_of new) own) same-own in
        let a = values-outside vcn (parts_at old own FILE_NAME name) none in
        let b = values-outside vcn (parts_at new own FILE_NAME name) (said.counts (λ s. not (has_value s)) ∙ none) in
        ap (λ k. spot_at (parts_at new own k name) vcn) is ∙ b ∙ sym a ∙ sym (ap (λ k. spot_at (parts_at old own k name) vcn) is)
    | inr other ↦ elim (cases_Bool (is_of kind name was)) [
      | inl it ↦ spots-own kind name vcn it other
      | inr differs ↦ ap (λ l. spot_at l vcn) (at-unmoved (records_of old) (records_of new) from to was now m kind name differs)
    ]
  ]

  pub KeepsBut-moved : AreTellable (told_of old own)
      → ((f kind : ℕ) (name : List ℕ) → changed (key_of f kind name) ≡ false → KeepsClusters old new (parts_at old f kind name))
      → KeepsBut changed old new
  KeepsBut-moved tellable clusters f = elim (cases_eq own f) [
    | inl is ↦ KeepsFile-said changed old new f
        (subst (λ g. SameItems (map said_by (parts (records_of old) g)) (map said_by (parts (records_of new) g))) is same-own)
        (inr (subst (λ g. AreTellable (told_of old g)) is tellable))
        (λ kind name vcn. subst (λ g. spot_at (parts_at new g kind name) vcn ≡ spot_at (parts_at old g kind name) vcn) is
        (spots-moved kind name vcn))
        (clusters f)
    | inr other ↦
        let same = parts-unmoved (records_of old) (records_of new) from to f was now m other in
        KeepsFile-said changed old new f (SameItems-same _ _ (ap (map said_by) (sym same))) (inl (ap (map said_by) same))
        (λ kind name vcn. ap (λ all. spot_at (filter (is_of kind name) all) vcn) same) (clusters f)
  ]

-- a step that leaves the parts of all files
pub KeepsBut-parts : (changed : Key → Bool) (old new : VolumeView) → ((f : ℕ) → parts (records_of new) f ≡ parts (records_of old) f)
    → ((f kind : ℕ) (name : List ℕ) → changed (key_of f kind name) ≡ false → KeepsClusters old new (parts_at old f kind name))
    → KeepsBut changed old new
KeepsBut-parts changed old new same clusters f =
    KeepsFile-said changed old new f (SameItems-same _ _ (ap (map said_by) (sym (same f)))) (inl (ap (map said_by) (same f)))
    (λ kind name vcn. ap (λ all. spot_at (filter (is_of kind name) all) vcn) (same f)) (clusters f)
