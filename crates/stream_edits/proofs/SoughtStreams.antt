-- A stream that is sought by its name and is not there.
use Rattle.std.proofs.Common.{◌≡◌, ◌≢◌, ℕ, Bool, List, map, Option, Some, None, refl, ap, inl, inr, ◌∙◌, arith}
use Rattle.std.specs.List.{Contains, count_by, find}
use Rattle.std.specs.Option.{option_or}
use Rattle.std.specs.Str.{bytes_eq}
use Rattle.std.proofs.lemmas.Bool.{cases_lt}
use Rattle.std.proofs.lemmas.Slice.Eq.{bytes_eq-Decides}
use Rattle.ntfs_def.specs.Units.{units_in}
use Rattle.volume_def.specs.CaseClause.{volume_fold}
use Rattle.volume_def.specs.Files.{parts, records_of}
use Rattle.volume_def.specs.View.{VolumeView}
use Rattle.list_laws.proofs.FindLaws.{count-some, find-fails}
use Rattle.list_laws.proofs.MemberLaws.{Contains-map}
use Rattle.list_laws.proofs.OrderedLaws.{count-in_order}
use Rattle.tree_model.specs.Reading.{streams_of}
use Rattle.tree_model.specs.Streams.{stream_above}
use Rattle.tree_model.specs.Tree.{are_same, sought_stream}
use Rattle.tree_model.specs.declared.tree.Stream.{Stream}
use Rattle.stream_edits.specs.Names.{shown_as, stream_names, times_begun}
use Rattle.stream_edits.proofs.StreamNames.{name-there}
use Rattle.stream_edits.proofs.StreamOrder.{by-name}

not-spelled : (fold : ℕ → ℕ) (streams : List Stream) (name : List ℕ) → sought_stream fold streams name ≡ None
    → find (λ (s : Stream). bytes_eq s.name name) streams ≡ None
not-spelled fold streams name e = by (find (λ (s : Stream). bytes_eq s.name name) streams) refl e
  where
    by : (o : Option Stream) → find (λ (s : Stream). bytes_eq s.name name) streams ≡ o
        → option_or o (find (λ (s : Stream). are_same fold s.name name) streams) ≡ None
        → find (λ (s : Stream). bytes_eq s.name name) streams ≡ None
    by None f e = f
    by (Some other) f e = cc

-- No stream of the file has this name.
pub none-named : (view : VolumeView) (f : ℕ) (fold : ℕ → ℕ) (name : List ℕ)
    → sought_stream fold (streams_of view (parts (records_of view) f)) (units_in name) ≡ None
    → (other : List ℕ) → Contains (stream_names view f) other → units_in other ≢ units_in name
none-named view f fold name none other c same =
    let is : Stream → Bool = λ s. bytes_eq s.name (units_in name) in
    let streams = streams_of view (parts (records_of view) f) in
    let nowhere = find-fails is streams (not-spelled fold streams (units_in name) none) in
    let shown = map (shown_as view f) (stream_names view f) in
    let all = ap (count_by is) (by-name view f) ∙ count-in_order (stream_above (volume_fold view)) is shown in
    let some = count-some is shown (shown_as view f other) (Contains-map (shown_as view f) (stream_names view f) other c)
    ((bytes_eq-Decides (units_in other) (units_in name)).1 same) in
    omega (arith, nowhere, all, some)

pub none-begun : (view : VolumeView) (f : ℕ) (fold : ℕ → ℕ) (name : List ℕ)
    → sought_stream fold (streams_of view (parts (records_of view) f)) (units_in name) ≡ None → times_begun view f name ≡ 0
none-begun view f fold name none = elim (cases_lt 0 (times_begun view f name)) as (λ _. times_begun view f name ≡ 0) [
  | inl some ↦ absurd (none-named view f fold name none name (name-there view f name (omega (arith, some))) refl)
  | inr few ↦ omega (arith, few)
]
