-- THE STREAMS OF A FILE by their names, in name order.
use Rattle.std.proofs.Common.{◌≡◌, ◌==◌, ℕ, Bool, true, false, cond, List, [], ◌∷◌, map, filter, refl, sym, ap, subst, ◌∙◌}
use Rattle.std.specs.List.{Contains}
use Rattle.std.proofs.lemmas.Bool.{and_parts, eqb-true}
use Rattle.std.proofs.lemmas.Simd.{map-map}
use Rattle.ntfs_def.specs.Units.{units_in}
use Rattle.ntfs_def.specs.declared.kinds.TheConstants.{DATA}
use Rattle.volume_def.specs.CaseClause.{volume_fold}
use Rattle.volume_def.specs.Files.{Part, parts, records_of}
use Rattle.volume_def.specs.Values.{is_first}
use Rattle.volume_def.specs.View.{VolumeView}
use Rattle.list_laws.specs.Ordered.{in_order, put_in_order}
use Rattle.list_laws.specs.SameItems.{SameItems}
use Rattle.list_laws.proofs.AlikeLaws.{alike-tied}
use Rattle.list_laws.proofs.MemberLaws.{Contains-from_filter, Contains-from_map, map_agree}
use Rattle.list_laws.proofs.SameItemsLaws.{SameItems-map, SameItems-passing, SameItems-sym}
use Rattle.std.specs.Str.{bytes_eq}
use Rattle.std.proofs.lemmas.Slice.Eq.{bytes_eq-Decides}
use Rattle.tree_model.specs.Reading.{begins_stream, stream_at, streams_of}
use Rattle.tree_model.specs.Streams.{stream_above}
use Rattle.tree_model.specs.declared.tree.Stream.{Stream}
use Rattle.edit_def.proofs.ShownLaws.{units_order}
use Rattle.stream_edits.specs.Names.{shown_as, stream_names}

-- a name of one list that is in the other
pub in-both : (xs ys : List (List ℕ)) → SameItems xs ys → (n : List ℕ) → Contains ys n → Contains xs n
in-both xs ys h n c =
    let u = SameItems-passing (λ x. bytes_eq x n) ys xs n (SameItems-sym xs ys h) c ((bytes_eq-Decides n n).1 refl) in
    subst (Contains xs) ((bytes_eq-Decides u.0 n).0 u.2) u.1

-- THE STREAMS BY NAME
pub by-name : (view : VolumeView) (f : ℕ)
    → streams_of view (parts (records_of view) f) ≡ in_order (stream_above (volume_fold view)) (map (shown_as view f) (stream_names view f))
unfolding streams_of
by-name view f =
    let all = filter begins_stream (parts (records_of view) f) in
    ap (in_order (stream_above (volume_fold view)))
    (sym (map_agree (stream_at view (parts (records_of view) f)) (λ (part : Part). shown_as view f part.name) all
    (λ part among.
    let w = Contains-from_filter begins_stream (parts (records_of view) f) part among in
    let p = and_parts (part.kind == DATA) (is_first part) w.1 in
    let k = eqb-true part.kind DATA p.0 in
    rw k refl))
    ∙ sym (map-map (shown_as view f) (λ (part : Part). part.name) all))

-- Streams of names that are told apart by their units, in whichever order the names stand.
module _ (fold : ℕ → ℕ) (show : List ℕ → Stream) (named : (n : List ℕ) → (show n).name ≡ units_in n) (xs ys : List (List ℕ))
    (apart : (a b : List ℕ) → Contains xs a → Contains xs b → units_in a ≡ units_in b → a ≡ b) (same : SameItems xs ys) where
  Is : Stream → Type 0
  Is x = (n : List ℕ) × Contains xs n × (show n ≡ x)

  is-first : (x : Stream) → Contains (map show xs) x → Is x
  unfolding Is
  is-first x c = Contains-from_map show xs x c

  is-second : (x : Stream) → Contains (map show ys) x → Is x
  unfolding Is
  is-second x c = let w = Contains-from_map show ys x c in (w.0, in-both xs ys same w.0 w.1, w.2)

  ties : (x y : Stream) → Is x → Is y → stream_above fold x y ≡ false → stream_above fold y x ≡ false → x ≡ y
  unfolding Is
  ties x y p q xy yx =
      let o = units_order fold in
      let e : units_in p.0 ≡ units_in q.0 =
      sym (named p.0) ∙ ap (λ s. s.name) p.2 ∙ o.same x.name y.name xy yx ∙ sym (ap (λ s. s.name) q.2) ∙ named q.0 in
      sym p.2 ∙ ap show (apart p.0 q.0 p.1 q.1 e) ∙ q.2

  pub streams-alike : in_order (stream_above fold) (map show ys) ≡ in_order (stream_above fold) (map show xs)
  streams-alike =
      let o = units_order fold in
      alike-tied (λ x y e. o.one_way x.name y.name e) (λ x y z a b. o.between x.name y.name z.name a b) Is ties
      (map show xs) (map show ys) is-first is-second (SameItems-map show xs ys same)

-- What was put in order is filtered out again.
pub filter-put : (above : Stream → Stream → Bool) (p : Stream → Bool) (x : Stream) (xs : List Stream) → p x ≡ false
    → filter p (put_in_order above x xs) ≡ filter p xs
filter-put above p x [] e = ap (λ b. cond b (x ∷ []) []) e
filter-put above p x (y ∷ ys) e = by (above x y) (p y) refl refl (filter-put above p x ys e)
  where
    by : (a b : Bool) → above x y ≡ a → p y ≡ b → filter p (put_in_order above x ys) ≡ filter p ys
        → filter p (put_in_order above x (y ∷ ys)) ≡ filter p (y ∷ ys)
    by true true ea eb ih = rw ea (rw eb (ap (λ l. y ∷ l) ih))
    by true false ea eb ih = rw ea (rw eb ih)
    by false b ea eb ih = rw ea (ap (λ t. cond t (x ∷ filter p (y ∷ ys)) (filter p (y ∷ ys))) e)
