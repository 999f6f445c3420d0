-- A VALUE IS ALL of its attribute: no other part of the file has its type and name, unless it is a name of the file.
use Rattle.std.proofs.Common.{◌≡◌, ◌≢◌, ◌+◌, ℕ, List, [], ◌∷◌, length, refl, sym, ap, subst, inl, inr, ◌∙◌, arith}
use Rattle.std.specs.Prelude.{◌==◌, IsSome}
use Rattle.std.specs.Str.{bytes_eq}
use Rattle.std.specs.List.{Contains}
use Rattle.std.proofs.lemmas.Bool.{and_from, eq-eqb}
use Rattle.std.proofs.lemmas.Slice.Eq.{bytes_eq-Decides}
use Rattle.ntfs_def.specs.declared.kinds.TheConstants.{FILE_NAME}
use Rattle.list_laws.proofs.CodedLaws.{SameItems-Contains}
use Rattle.list_laws.proofs.MemberLaws.{Contains-cases, Contains-filter, Contains-nil, Contains-only}
use Rattle.list_laws.proofs.SameItemsLaws.{SameItems-length}
use Rattle.volume_def.specs.ExtentsClause.{AreAttribute, AreWhole, FollowFrom, MeetsExtents}
use Rattle.volume_def.specs.Files.{Clusters, Content, Part, Value, content_runs, content_value, is_of, part_clusters}
use Rattle.volume_def.specs.Files.{parts, parts_at, parts_like, records_of}
use Rattle.volume_def.specs.Readable.{IsFile}
use Rattle.volume_def.specs.Table.{cluster_bytes}
use Rattle.volume_def.specs.View.{VolumeView}
use Rattle.volume_def.proofs.Codes.{part_code}
use Rattle.volume_def.proofs.ReadableLaws.{file-stream}

-- a value has no runs, and each of several extents has
no-value : (content : Content) → IsSome (content_value content) → IsSome (content_runs content) → ⊥
no-value (Value value) is runs = cc
no-value (Clusters extent text) is runs = cc

follow-runs : (part : Part) (vcn : ℕ) (xs : List Part) → FollowFrom vcn xs → Contains xs part → IsSome (content_runs part.content)
follow-runs part vcn [] follow c = absurd (Contains-nil part c)
follow-runs part vcn (x ∷ xs) follow c = elim (Contains-cases x xs part c) [
  | inl same ↦ subst (λ (p : Part). IsSome (content_runs p.content)) same follow.0.runs
  | inr later ↦ follow-runs part (vcn + part_clusters x) xs follow.1 later
]

only-one : (part : Part) → IsSome (content_value part.content) → (xs : List Part) → AreWhole xs → Contains xs part → length xs ≡ 1
only-one part is [] whole c = absurd (Contains-nil part c)
only-one part is (x ∷ []) whole c = omega arith
only-one part is (x ∷ y ∷ xs) whole c = absurd (no-value part.content is (follow-runs part 0 (x ∷ y ∷ xs) whole c))

one-item : (x : Part) (xs : List Part) → length xs ≡ 1 → Contains xs x → xs ≡ x ∷ []
one-item x [] l c = absurd (Contains-nil x c)
one-item x (y ∷ []) l c = ap (λ (p : Part). p ∷ []) (Contains-only y x c)
one-item x (y ∷ z ∷ xs) l c = absurd (omega (arith, l))

pub value-alone : (view : VolumeView) (f : ℕ) (part : Part) → MeetsExtents (records_of view) (cluster_bytes view.layout) f → IsFile view f
    → Contains (parts (records_of view) f) part → IsSome (content_value part.content) → part.kind ≢ FILE_NAME
    → parts_at view f part.kind part.name ≡ part ∷ []
value-alone view f part meets is_file c is other =
    let all = parts (records_of view) f in
    let itself = and_from (part.kind == part.kind) (bytes_eq part.name part.name) (eq-eqb part.kind part.kind refl)
    ((bytes_eq-Decides part.name part.name).1 refl) in
    let there = Contains-filter (is_of part.kind part.name) all part c itself in
    let a : AreAttribute (cluster_bytes view.layout) f (parts_like part all) = file-stream view f part meets is_file c other in
    let long = only-one part is a.ordered a.whole (SameItems-Contains part_code (parts_like part all) a.ordered part a.order there) in
    one-item part (parts_like part all) (sym (SameItems-length (parts_like part all) a.ordered a.order) ∙ long) there
