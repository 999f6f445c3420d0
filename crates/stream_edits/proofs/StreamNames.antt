-- THE NAMES OF A FILE'S STREAMS, by what its attributes tell.
use Rattle.std.proofs.Common.{◌≡◌, ◌≤◌, ◌+◌, ◌==◌, ◌&&◌, not, ℕ, Bool, true, false, cond, List, [], ◌∷◌, map, filter, refl, sym, ap}
use Rattle.std.proofs.Common.{subst, ◌∙◌, arith}
use Rattle.std.specs.List.{Contains, count_by}
use Rattle.std.specs.Str.{bytes_eq}
use Rattle.std.proofs.lemmas.Bool.{and_from, and_parts, eqb-true}
use Rattle.std.proofs.lemmas.Slice.Eq.{bytes_eq-Decides}
use Rattle.ntfs_def.specs.Units.{units_in}
use Rattle.ntfs_def.specs.declared.kinds.TheConstants.{DATA}
use Rattle.volume_def.specs.Files.{Part, is_of, parts, parts_at, records_of}
use Rattle.volume_def.specs.Values.{is_first}
use Rattle.volume_def.specs.View.{VolumeView}
use Rattle.list_laws.specs.SameItems.{SameItems}
use Rattle.list_laws.proofs.FindLaws.{count-cons, count-some, passing}
use Rattle.list_laws.proofs.MemberLaws.{Contains-filter, Contains-from_filter, Contains-from_map, Contains-map}
use Rattle.tree_model.specs.Reading.{begins_stream}
use Rattle.edit_def.specs.Kept.{AreTellable, KeepsFile, Key, Told, is_kept, key_of, told_by, told_of}
use Rattle.stream_edits.specs.Names.{NamesStream, stream_names, times_begun}

-- one of them
abbrev if_one : Bool → ℕ
if_one b = cond b 1 0

zero-more : (n : ℕ) → n ≡ 0 + n
zero-more n = omega arith

nothing-in : (i k : Bool) → ◌≡◌ {A = ℕ} (cond i (cond k 0 0) 0) 0
nothing-in true true = refl
nothing-in true false = refl
nothing-in false k = refl

module _ (changed : Key → Bool) (f : ℕ) (name : List ℕ) (p : List ℕ → Bool) (here : NamesStream changed f name) where
  abbrev told_data : Told → Bool
  told_data told = (told.kind == DATA) && p told.name

  -- the names that pass, those that are told as kept, and the first parts of the name
  abbrev named : List Part → ℕ
  named all = count_by p (map (λ part. part.name) (filter begins_stream all))

  abbrev told : List Part → ℕ
  told all = count_by told_data (filter (is_kept changed f) (map told_by (filter is_first all)))

  abbrev firsts : List Part → ℕ
  firsts all = count_by is_first (filter (is_of DATA name) all)

  named-step : (x : Part) (all : List Part) (b : Bool) → begins_stream x ≡ b → named (x ∷ all) ≡ cond b (if_one (p x.name)) 0 + named all
  named-step x all true e =
      ap (λ b. count_by p (map (λ part. part.name) (cond b (x ∷ filter begins_stream all) (filter begins_stream all)))) e
      ∙ count-cons p x.name (map (λ part. part.name) (filter begins_stream all))
  named-step x all false e =
      ap (λ b. count_by p (map (λ part. part.name) (cond b (x ∷ filter begins_stream all) (filter begins_stream all)))) e
      ∙ zero-more (named all)

  told-step : (x : Part) (all : List Part) (i k : Bool) → is_first x ≡ i → is_kept changed f (told_by x) ≡ k
      → told (x ∷ all) ≡ cond i (cond k (if_one (told_data (told_by x))) 0) 0 + told all
  told-step x all false k e g =
      ap (λ b. count_by told_data (filter (is_kept changed f) (map told_by (cond b (x ∷ filter is_first all) (filter is_first all))))) e
      ∙ zero-more (told all)
  told-step x all true k e g =
      ap (λ b. count_by told_data (filter (is_kept changed f) (map told_by (cond b (x ∷ filter is_first all) (filter is_first all))))) e
      ∙ by k g
    where
      tail : List Told
      tail = filter (is_kept changed f) (map told_by (filter is_first all))

      by : (k : Bool) → is_kept changed f (told_by x) ≡ k
          → count_by told_data (cond (is_kept changed f (told_by x)) (told_by x ∷ tail) tail)
          ≡ cond k (if_one (told_data (told_by x))) 0 + told all
      by true g = ap (λ b. count_by told_data (cond b (told_by x ∷ tail) tail)) g ∙ count-cons told_data (told_by x) tail
      by false g = ap (λ b. count_by told_data (cond b (told_by x ∷ tail) tail)) g ∙ zero-more (told all)

  firsts-step : (x : Part) (all : List Part) (b : Bool) → is_of DATA name x ≡ b
      → firsts (x ∷ all) ≡ cond b (if_one (is_first x)) 0 + firsts all
  firsts-step x all true e =
      ap (λ b. count_by is_first (cond b (x ∷ filter (is_of DATA name) all) (filter (is_of DATA name) all))) e
      ∙ count-cons is_first x (filter (is_of DATA name) all)
  firsts-step x all false e =
      ap (λ b. count_by is_first (cond b (x ∷ filter (is_of DATA name) all) (filter (is_of DATA name) all))) e ∙ zero-more (firsts all)

  split : (b : Bool) (m n : ℕ) → cond b (m + n) 0 ≡ cond b m 0 + cond b n 0
  split true m n = refl
  split false m n = refl

  kept-data : (x : Part) → (x.kind == DATA) ≡ true → is_kept changed f (told_by x) ≡ not (bytes_eq x.name name)
  kept-data x d = ap (λ kind. not (changed (key_of f kind x.name))) (eqb-true x.kind DATA d) ∙ ap not (here x.name)

  -- The names that pass are those of the kept streams, and the one.
  pub names-counted : (all : List Part) → named all ≡ told all + cond (p name) (firsts all) 0
  names-counted [] = by (p name)
    where
      by : (b : Bool) → ◌≡◌ {A = ℕ} 0 (0 + cond b 0 0)
      by true = refl
      by false = refl
  names-counted (x ∷ all) = by (x.kind == DATA) refl (is_first x) refl (bytes_eq x.name name) refl (names-counted all)
    where
      by : (d : Bool) → (x.kind == DATA) ≡ d → (i : Bool) → is_first x ≡ i → (n : Bool) → bytes_eq x.name name ≡ n
          → named all ≡ told all + cond (p name) (firsts all) 0
          → named (x ∷ all) ≡ told (x ∷ all) + cond (p name) (firsts (x ∷ all)) 0
      by false ed i ei n en ih =
          let a = named-step x all false (ap (λ b. b && is_first x) ed) in
          let b = told-step x all i (is_kept changed f (told_by x)) ei refl in
          let z : cond i (cond (is_kept changed f (told_by x)) (if_one (told_data (told_by x))) 0) 0 ≡ 0 =
          ap (λ d. cond i (cond (is_kept changed f (told_by x)) (if_one (d && p x.name)) 0) 0) ed
          ∙ nothing-in i (is_kept changed f (told_by x)) in
          let c = ap (λ n. cond (p name) n 0) (firsts-step x all false (ap (λ b. b && bytes_eq x.name name) ed)) in
          let d = split (p name) 0 (firsts all) in
          let e = nothing-in (p name) true in
          a ∙ sym (zero-more (named all)) ∙ ih ∙ omega arith
      by true ed false ei n en ih =
          let a = named-step x all false (ap (λ b. (x.kind == DATA) && b) ei ∙ ap (λ b. b && false) ed) in
          let b = told-step x all false (is_kept changed f (told_by x)) ei refl in
          let c = ap (λ n. cond (p name) n 0) (firsts-step x all n (ap (λ b. b && bytes_eq x.name name) ed ∙ en)) in
          let g = ap (λ i. cond n (if_one i) 0) ei in
          let d = split (p name) (cond n (if_one (is_first x)) 0) (firsts all) in
          let e = ap (λ m. cond (p name) m 0) g in
          let h = nothing-in (p name) n in
          a ∙ sym (zero-more (named all)) ∙ ih ∙ omega arith
      by true ed true ei true en ih =
          let same : p x.name ≡ p name = ap p ((bytes_eq-Decides x.name name).0 en) in
          let a = named-step x all true (ap (λ b. (x.kind == DATA) && b) ei ∙ ap (λ b. b && true) ed) in
          let b = told-step x all true false ei (kept-data x ed ∙ ap not en) in
          let c = ap (λ n. cond (p name) n 0) (firsts-step x all true (ap (λ b. b && bytes_eq x.name name) ed ∙ en)) in
          let d = split (p name) (if_one (is_first x)) (firsts all) in
          let e = ap (λ i. cond (p name) (if_one i) 0) ei in
          let h = ap if_one same in
          a ∙ omega arith
      by true ed true ei false en ih =
          let a = named-step x all true (ap (λ b. (x.kind == DATA) && b) ei ∙ ap (λ b. b && true) ed) in
          let b = told-step x all true true ei (kept-data x ed ∙ ap not en) in
          let z : if_one (told_data (told_by x)) ≡ if_one (p x.name) = ap (λ d. if_one (d && p x.name)) ed in
          let c = ap (λ n. cond (p name) n 0) (firsts-step x all false (ap (λ b. b && bytes_eq x.name name) ed ∙ en)) in
          let d = split (p name) 0 (firsts all) in
          let e = nothing-in (p name) true in
          a ∙ omega arith

-- THE NAMES ARE AS THEY WERE where the one attribute is there as often ..
pub names-kept : (changed : Key → Bool) (old new : VolumeView) (f : ℕ) (name : List ℕ) → NamesStream changed f name
    → KeepsFile changed old new f → times_begun new f name ≡ times_begun old f name
    → SameItems (stream_names old f) (stream_names new f)
names-kept changed old new f name here kept same = record {
  counts = λ p.
      names-counted changed f name p here (parts (records_of new) f)
      ∙ ap (λ n. n + cond (p name) (times_begun new f name) 0)
      (kept.told.counts (λ told. (told.kind == DATA) && p told.name))
      ∙ ap (λ n. count_by (λ told. (told.kind == DATA) && p told.name) (filter (is_kept changed f) (told_of old f))
      + cond (p name) n 0) same
      ∙ sym (names-counted changed f name p here (parts (records_of old) f));
}

-- .. and there is one more where it comes.
pub names-made : (changed : Key → Bool) (old new : VolumeView) (f : ℕ) (name : List ℕ) → NamesStream changed f name
    → KeepsFile changed old new f → times_begun old f name ≡ 0 → times_begun new f name ≡ 1
    → SameItems (name ∷ stream_names old f) (stream_names new f)
names-made changed old new f name here kept none one = record {
  counts = λ p.
      names-counted changed f name p here (parts (records_of new) f)
      ∙ ap (λ n. n + cond (p name) (times_begun new f name) 0)
      (kept.told.counts (λ told. (told.kind == DATA) && p told.name))
      ∙ ap (λ n. count_by (λ told. (told.kind == DATA) && p told.name) (filter (is_kept changed f) (told_of old f)) + cond (p name) n 0) one
      ∙ (let z = nothing-in (p name) true in
      let a = names-counted changed f name p here (parts (records_of old) f) in
      let b = ap (λ n. cond (p name) n 0) none in
      let c = count-cons p name (stream_names old f) in
      omega arith);
}

-- .. and one less where it goes.
pub names-gone : (changed : Key → Bool) (old new : VolumeView) (f : ℕ) (name : List ℕ) → NamesStream changed f name
    → KeepsFile changed old new f → times_begun old f name ≡ 1 → times_begun new f name ≡ 0
    → SameItems (name ∷ stream_names new f) (stream_names old f)
names-gone changed old new f name here kept one none = record {
  counts = λ p.
      let was = names-counted changed f name p here (parts (records_of old) f) in
      let now = names-counted changed f name p here (parts (records_of new) f) in
      let same = kept.told.counts (λ told. (told.kind == DATA) && p told.name) in
      let b = ap (λ n. cond (p name) n 0) one in
      let z = ap (λ n. cond (p name) n 0) none ∙ nothing-in (p name) true in
      let c = count-cons p name (stream_names new f) in
      omega arith;
}

-- A name is told.
told-name : (view : VolumeView) (f : ℕ) (a : List ℕ) → Contains (stream_names view f) a
    → (t : Told) × Contains (told_of view f) t × (t.name ≡ a)
told-name view f a c =
    let w = Contains-from_map (λ (part : Part). part.name) (filter begins_stream (parts (records_of view) f)) a c in
    let u = Contains-from_filter begins_stream (parts (records_of view) f) w.0 w.1 in
    let v = and_parts (w.0.kind == DATA) (is_first w.0) u.1 in
    let told = Contains-map told_by (filter is_first (parts (records_of view) f)) w.0
    (Contains-filter is_first (parts (records_of view) f) w.0 u.0 v.1) in
    (told_by w.0, told, w.2)

-- Names are told apart by their units.
pub names-apart : (view : VolumeView) (f : ℕ) → AreTellable (told_of view f) → (a b : List ℕ) → Contains (stream_names view f) a
    → Contains (stream_names view f) b → units_in a ≡ units_in b → a ≡ b
names-apart view f apart a b ca cb e =
    let x = told-name view f a ca in
    let y = told-name view f b cb in
    sym x.2 ∙ apart x.0 y.0 x.1 y.1 (ap units_in x.2 ∙ e ∙ sym (ap units_in y.2)) ∙ y.2

-- A stream that is there has its name among them.
pub name-there : (view : VolumeView) (f : ℕ) (name : List ℕ) → 1 ≤ times_begun view f name
    → Contains (stream_names view f) name
name-there view f name h =
    let w = passing is_first (parts_at view f DATA name) h in
    let u = Contains-from_filter (is_of DATA name) (parts (records_of view) f) w.0 w.1 in
    let v = and_parts (w.0.kind == DATA) (bytes_eq w.0.name name) u.1 in
    let n : w.0.name ≡ name = (bytes_eq-Decides w.0.name name).0 v.1 in
    subst (Contains (stream_names view f)) n
    (Contains-map (λ (part : Part). part.name) (filter begins_stream (parts (records_of view) f)) w.0
    (Contains-filter begins_stream (parts (records_of view) f) w.0 u.0 (rw (v.0, w.2) refl)))

-- A name that is among them is that of a stream that is there.
pub name-begun : (view : VolumeView) (f : ℕ) (name : List ℕ) → Contains (stream_names view f) name → 1 ≤ times_begun view f name
name-begun view f name c =
    let w = Contains-from_map (λ (part : Part). part.name) (filter begins_stream (parts (records_of view) f)) name c in
    let u = Contains-from_filter begins_stream (parts (records_of view) f) w.0 w.1 in
    let v = and_parts (w.0.kind == DATA) (is_first w.0) u.1 in
    let is = and_from (w.0.kind == DATA) (bytes_eq w.0.name name) v.0 ((bytes_eq-Decides w.0.name name).1 w.2) in
    count-some is_first (parts_at view f DATA name) w.0 (Contains-filter (is_of DATA name) (parts (records_of view) f) w.0 u.0 is) v.1
