-- FEW CLUSTERS are on the bill: a command has few bytes, and those of a value, which a stream that leaves its record had, are few too.
use Rattle.std.proofs.Common.{◌≡◌, ◌<◌, ◌≤◌, ◌+◌, ◌-◌, ◌*◌, ◌/◌, ◌==◌, ◌&&◌, ◌||◌, not, ℕ, zero, suc, Bool, true, false, cond, List, []}
use Rattle.std.proofs.Common.{◌∷◌, length, max, Option, Some, None, inl, inr, refl, sym, ap, subst, ◌∙◌, arith, if◌then◌else◌}
use Rattle.std.proofs.Math.Nat.{div-lt_iff_lt-mul, div-mul-le_self, lt-div-mul-add, mul-le-mul_left, mul-le-mul_right}
use Rattle.std.proofs.lemmas.Bool.{and_parts, cases_Bool, cases_lt, ltb-true}
use Rattle.std.specs.List.{Contains, range_with_len}
use Rattle.std.specs.Option.{option_map_or}
use Rattle.std.specs.Prelude.{IfSome, count_by, nat_lt, option_and_then}
use Rattle.list_laws.proofs.FindLaws.{count-cons}
use Rattle.list_laws.proofs.MemberLaws.{Contains-cases, Contains-head, Contains-nil}
use Rattle.list_laws.proofs.OptionLaws.{some_same}
use Rattle.list_laws.proofs.PieceLaws.{slice_range-short}
use Rattle.list_laws.proofs.ReplacesLaws.{Replaces-stood}
use Rattle.ntfs_def.specs.Attribute.{Attribute, Body, ExtentHeader, NonResident, Resident, attribute_at, attribute_kind, attribute_len}
use Rattle.ntfs_def.specs.Attribute.{attributes, attributes_from, content_bytes, content_end, content_offset, extent_at, is_resident}
use Rattle.ntfs_def.specs.Attribute.{value_of}
use Rattle.ntfs_def.specs.Fixup.{opened_of}
use Rattle.ntfs_def.specs.Record.{first_place}
use Rattle.ntfs_def.specs.Rounded.{clusters_for}
use Rattle.ntfs_def.specs.Units.{units_in}
use Rattle.ntfs_def.specs.declared.kinds.TheConstants.{DATA, END}
use Rattle.ntfs_def.proofs.ShapeLaws.{header_failing-length}
use Rattle.volume_def.specs.Files.{Part, content_value, part_of, parts_at}
use Rattle.volume_def.specs.Sound as clauses
use Rattle.volume_def.specs.Sound.{IsSound}
use Rattle.volume_def.specs.Table.{cluster_bytes}
use Rattle.volume_def.specs.Values.{spot_at}
use Rattle.volume_def.specs.View.{VolumeView}
use Rattle.tree_model.specs.Bill.{grows}
use Rattle.tree_model.specs.StreamRoom.{is_cluster, is_in_place, new_clusters, parts_named, stream_parts, stream_value_len, touches}
use Rattle.tree_model.specs.Subjects.{Located}
use Rattle.tree_model.specs.Tree.{Tree, sought_stream}
use Rattle.tree_model.specs.declared.command.Command.{Command}
use Rattle.tree_model.specs.declared.command.Command.TheVariants as c
use Rattle.tree_model.specs.declared.tree.Stream.{Stream}
use Rattle.edit_def.specs.Kept.{Key, key_of}
use Rattle.record_edits.specs.RecordEdit.{parts_made}
use Rattle.session_def.specs.Cost.{bytes_in}
use Rattle.session_def.specs.Named.{spelt}
use Rattle.value_edits.specs.Unnamed.{LiesApart}
use Rattle.value_edits.specs.ValueEdits.{EditsAlone}
use Rattle.value_edits.proofs.ValueShown.{alone-first, value-content}
use Rattle.value_owed.specs.ValueOwed.{clusters_asked}
use Rattle.value_owed.proofs.ValueSame as same

-- A VALUE of a record has no more bytes than the record.
held-short : (block : List ℕ) (at : ℕ) (value : List ℕ) → value_of (attribute_at block at).body ≡ Some value
    → length value ≤ length block
unfolding attribute_at
held-short block at value = by (is_resident block at)
  where
    by : (b : Bool)
        → value_of (cond b (Resident (content_bytes block at)) (NonResident (extent_at block at) (content_bytes block at))) ≡ Some value
        → length value ≤ length block
    by true e =
        let short = slice_range-short block (at + content_offset block at) (at + content_end block at) in
        let same : length (content_bytes block at) ≡ length value = ap length (some_same e) in
        omega (arith, short, same)
    by false e = cc

value-within : (most : ℕ) (block : List ℕ) (at : ℕ) (a : Attribute) (value : List ℕ) → Contains (attributes_from most block at) a
    → value_of a.body ≡ Some value → length value ≤ length block
value-within zero block at a value there e = absurd (Contains-nil a there)
value-within (suc most) block at a value there e =
    let rest = attributes_from most block (at + attribute_len block at) in
    let each = λ (b : Bool). Contains (cond b [] (attribute_at block at ∷ rest)) a in
    elim (cases_Bool (attribute_kind block at == END)) [
      | inl ends ↦ absurd (Contains-nil a (subst each ends there))
      | inr more ↦ elim (Contains-cases (attribute_at block at) rest a (subst each more there)) [
        | inl its ↦ held-short block at value (ap (λ (x : Attribute). value_of x.body) its ∙ e)
        | inr later ↦ value-within most block (at + attribute_len block at) a value later e
      ]
    ]

-- a part that is one is as long
pub value-len : (f : ℕ) (a : Attribute) (value : List ℕ) → value_of a.body ≡ Some value
    → stream_value_len (parts_made f (a ∷ [])) ≡ length value
value-len f a value is =
    let content = value-content a.body value is in
    ap (λ (o : Option Part). option_map_or length (option_and_then (λ (part : Part). content_value part.content) o) 0)
    (alone-first (part_of f a) value content)
    ∙ ap (λ content. option_map_or length (content_value content) 0) content

-- .. and of an extent there is none
pub extent-len : (f : ℕ) (a : Attribute) → value_of a.body ≡ None → stream_value_len (parts_made f (a ∷ [])) ≡ 0
extent-len f a = by a.body
  where
    first : (b : Bool) (extent : ExtentHeader) (text : List ℕ) → ◌≡◌ {A = ℕ}
        (option_map_or length (option_and_then (λ (part : Part). content_value part.content)
        (cond b (Some (part_of f (record a { body = NonResident extent text }))) None)) 0) 0
    first true extent text = refl
    first false extent text = refl

    by : (body : Body) → value_of body ≡ None → stream_value_len (parts_made f (record a { body = body } ∷ [])) ≡ 0
    by (Resident bytes) e = cc
    by (NonResident extent text) e = first (extent.sizes.first == 0) extent text

-- THE ATTRIBUTE that was edited
module _ (key : Key) (old mid : VolumeView) (sound : IsSound old) (apart : LiesApart old) {gains : ℕ → Bool}
    (e : EditsAlone key gains old mid) where
  value-short : (value : List ℕ) → value_of e.was.body ≡ Some value → length value ≤ 1024
  unfolding attributes
  value-short value is =
      let block = opened_of (old.block key.file) in
      let there = Replaces-stood _ _ _ _ e.was e.block.attributes_are (Contains-head e.was []) in
      let stood = subst (λ bytes. Contains (attributes (opened_of bytes)) e.was) (same.block-cleared key old mid sound apart e key.file)
      there in
      let short = value-within (length block) block (first_place block) e.was value stood is in
      let shape =
      (sound clauses.Shape key.file (same.inside key old mid sound apart e) (same.used key old mid sound apart e)).shape in
      let long = header_failing-length block shape.header in
      omega (arith, short, long)

  stood-short : stream_value_len (parts_at old key.file key.kind key.name) ≤ 1024
  stood-short = by (value_of e.was.body) refl
    where
      by : (o : Option (List ℕ)) → value_of e.was.body ≡ o → stream_value_len (parts_at old key.file key.kind key.name) ≤ 1024
      by None none =
          let len = ap stream_value_len e.stood ∙ extent-len key.file e.was none in
          omega (arith, len)
      by (Some value) held =
          let len = ap stream_value_len e.stood ∙ value-len key.file e.was value held in
          let short = value-short value held in
          omega (arith, len, short)

-- .. as it is found
found-short : (view : VolumeView) (f : ℕ) (o : Option Stream) (other : List ℕ)
    → stream_value_len (option_map_or (λ (stream : Stream). parts_named view f stream.name) o [])
    ≤ stream_value_len (parts_named view f (option_map_or (λ (stream : Stream). stream.name) o other))
found-short view f None other = omega arith
found-short view f (Some stream) other = omega arith

pub stream-short : (tree : Tree) (at : Located) (name : List ℕ) (old mid : VolumeView) (gains : ℕ → Bool) → IsSound old → LiesApart old
    → EditsAlone (key_of at.file DATA name) gains old mid → units_in name ≡ spelt tree at
    → parts_named old at.file (units_in name) ≡ parts_at old at.file DATA name
    → stream_value_len (stream_parts old tree at) ≤ 1024
stream-short tree at name old mid gains sound apart e spelt_so alone =
    let found = found-short old at.file (option_and_then (λ node. sought_stream tree.fold node.streams at.stream) at.node) at.stream in
    let same : stream_value_len (parts_named old at.file (spelt tree at)) ≡ stream_value_len (parts_at old at.file DATA name) =
    ap (λ (units : List ℕ). stream_value_len (parts_named old at.file units)) (sym spelt_so) ∙ ap stream_value_len alone in
    let short = stood-short (key_of at.file DATA name) old mid sound apart e in
    omega (arith, found, same, short)

-- NUMBERS IN A ROW of which so many in a row pass
in-window : (p : ℕ → Bool) (low many : ℕ) → ((k : ℕ) → p k ≡ true → (low ≤ k) × (k < low + many)) → (a n : ℕ)
    → count_by p (range_with_len a n) ≤ low + many - max low a
in-window p low many each a zero = omega arith
in-window p low many each a (suc n) =
    let step : count_by p (range_with_len a (suc n)) ≡ cond (p a) 1 0 + count_by p (range_with_len (a + 1) n) =
    count-cons p a (range_with_len (a + 1) n) in
    let rest = in-window p low many each (a + 1) n in
    elim (cases_Bool (p a)) [
      | inl passes ↦
          let its = each a passes in
          let one : ◌≡◌ {A = ℕ} (cond (p a) 1 0) 1 = ap (λ b. cond b 1 0) passes in
          omega (arith, step, rest, one, its.0, its.1)
      | inr fails ↦
          let none : ◌≡◌ {A = ℕ} (cond (p a) 1 0) 0 = ap (λ b. cond b 1 0) fails in
          omega (arith, step, rest, none)
    ]

-- THE CLUSTERS THAT BYTES TOUCH are in a row.
touched-window : (size from len vcn : ℕ) → 0 < size → touches size from len vcn ≡ true
    → (from / size ≤ vcn) × (vcn < from / size + (len / size + 2))
touched-window size from len vcn some is =
    let both = and_parts (nat_lt 0 len && nat_lt (vcn * size) (from + len)) (nat_lt from (vcn * size + size)) is in
    let front = and_parts (nat_lt 0 len) (nat_lt (vcn * size) (from + len)) both.0 in
    let end = ltb-true (vcn * size) (from + len) front.1 in
    let begin = ltb-true from (vcn * size + size) both.1 in
    let next : (vcn + 1) * size ≡ vcn * size + size = omega arith in
    let low : from / size < vcn + 1 = (div-lt_iff_lt-mul some).1 (omega (arith, begin, next)) in
    let high : vcn < from / size + (len / size + 2) = elim (cases_lt vcn (from / size + (len / size + 2))) [
      | inl lt ↦ lt
      | inr past ↦
          let more : (from / size + (len / size + 2)) * size ≤ vcn * size = mul-le-mul_right size past in
          let parts : (from / size + (len / size + 2)) * size ≡ from / size * size + len / size * size + 2 * size = omega arith in
          let first : from < from / size * size + size = lt-div-mul-add some in
          let second : len < len / size * size + size = lt-div-mul-add some in
          absurd (omega (arith, more, parts, first, second, end))
    ] in
    (omega (arith, low), high)

touched-few : (size from len n : ℕ) → 512 ≤ size → len ≤ 32768 → count_by (touches size from len) (range_with_len 0 n) ≤ 66
touched-few size from len n large few =
    let some : 0 < size = omega (arith, large) in
    let all = in-window (touches size from len) (from / size) (len / size + 2) (λ vcn is. touched-window size from len vcn some is) 0 n in
    let whole : len / size * size ≤ len = div-mul-le_self len size in
    let times : len / size * 512 ≤ len / size * size = mul-le-mul_left (len / size) large in
    omega (arith, all, whole, times, few)

-- SO THE CLUSTERS on the bill are few.
either-few : (p q r : ℕ → Bool) (xs : List ℕ) → count_by (λ k. (p k || q k) && r k) xs ≤ count_by p xs + count_by q xs
either-few p q r [] = omega arith
either-few p q r (x ∷ xs) =
    let both = count-cons (λ k. (p k || q k) && r k) x xs in
    let first = count-cons p x xs in
    let second = count-cons q x xs in
    let rest = either-few p q r xs in
    let here = one-either (p x) (q x) (r x) in
    omega (arith, both, first, second, rest, here)
  where
    one-either : (a b c : Bool) → cond ((a || b) && c) 1 0 ≤ cond a 1 0 + cond b 1 0
    one-either true b true = omega arith
    one-either true b false = omega arith
    one-either false true true = omega arith
    one-either false true false = omega arith
    one-either false false c = omega arith

few-new : (size : ℕ) (extents : List Part) (from len : ℕ) → 512 ≤ size → len ≤ 32768 → stream_value_len extents ≤ 1024
    → new_clusters size extents from len ≤ 4088
few-new size extents from len large few short =
    let n = clusters_for (max (from + len) (stream_value_len extents)) size in
    let all = either-few (touches size from len) (touches size 0 (stream_value_len extents))
    (λ vcn. not (is_cluster (spot_at extents vcn))) (range_with_len 0 n) in
    let touched = touched-few size from len n large few in
    let value = touched-few size 0 (stream_value_len extents) n large (omega (arith, short)) in
    omega (arith, all, touched, value)

few-unless : (b : Bool) (count : ℕ) → count ≤ 4088 → IfSome (if b then None else Some count) (λ k. k ≤ 4088)
few-unless true count few = tt
few-unless false count few = few

few-growing : (b : Bool) (count : ℕ) → count ≤ 4088 → IfSome (if b then Some count else None) (λ k. k ≤ 4088)
few-growing true count few = few
few-growing false count few = tt

pub few-asked : (view : VolumeView) (tree : Tree) (command : Command) (at : Located) → bytes_in command ≤ 32768
    → 512 ≤ cluster_bytes view.layout → stream_value_len (stream_parts view tree at) ≤ 1024
    → IfSome (clusters_asked view tree command at) (λ k. k ≤ 4088)
few-asked view tree (c.Write path stream from bytes) at few large short =
    few-unless (is_in_place (cluster_bytes view.layout) (stream_parts view tree at) from (length bytes))
    (new_clusters (cluster_bytes view.layout) (stream_parts view tree at) from (length bytes))
    (few-new (cluster_bytes view.layout) (stream_parts view tree at) from (length bytes) large few short)
few-asked view tree (c.Hwrite handle from bytes) at few large short =
    few-unless (is_in_place (cluster_bytes view.layout) (stream_parts view tree at) from (length bytes))
    (new_clusters (cluster_bytes view.layout) (stream_parts view tree at) from (length bytes))
    (few-new (cluster_bytes view.layout) (stream_parts view tree at) from (length bytes) large few short)
few-asked view tree (c.Truncate path stream size) at few large short =
    few-growing (grows size at.content) (new_clusters (cluster_bytes view.layout) (stream_parts view tree at) 0 0)
    (few-new (cluster_bytes view.layout) (stream_parts view tree at) 0 0 large (omega arith) short)
few-asked view tree other at few large short = tt
