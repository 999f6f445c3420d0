-- A STREAM THAT IS A VALUE, of which a range was made zero: it held that value, and lies in no cluster.
use Rattle.std.proofs.Common.{◌≡◌, ◌+◌, ◌-◌, min, ℕ, false, cond, List, [], ◌∷◌, ◌++◌, length, take, drop}
use Rattle.std.proofs.Common.{Some, None, sym, ap, subst, ◌∙◌, append-nil, arith, length-drop}
use Rattle.std.specs.Prelude.{nat_le, nat_lt, replicate}
use Rattle.std.proofs.lemmas.Bool.{and_right, le-ltb}
use Rattle.std.proofs.lemmas.List.{drop_min, length-replicate, length-take, take_min}
use Rattle.ntfs_def.specs.Units.{units_in}
use Rattle.list_laws.proofs.OptionLaws.{some_same}
use Rattle.volume_def.specs.Files.{Part, content_value}
use Rattle.volume_def.specs.Values.{spot_at, spot_by}
use Rattle.volume_def.specs.View.{VolumeView}
use Rattle.volume_def.proofs.SoundLaws.{readable-sound}
use Rattle.tree_model.specs.StreamRoom.{is_cluster, parts_named}
use Rattle.tree_model.specs.Streams.{punched, written}
use Rattle.tree_model.specs.declared.tree.Node.{Node}
use Rattle.in_place.specs.Unnamed.{CanSet}
use Rattle.edit_written.specs.Below.{FindsPlain, GoesOverValue, zeros_in}
use Rattle.edit_written.proofs.Below as below
use Rattle.edit_written.proofs.Below.{file, named-same, with_value}

-- ZEROS that are written over the bytes of a range, as far as it lies below the size, are a punch.
abbrev zeros : ℕ → List ℕ
zeros count = replicate count 0

pub punched-written : (from len : ℕ) (held : List ℕ)
    → punched from len held ≡ written (min from (length held)) (zeros_in from len held) held
punched-written from len held =
    let n : ℕ = length held in
    let count : ℕ = min (from + len) n - min from n in
    let rest : List ℕ = drop (from + len) held in
    let some : length (take len (drop from held)) ≡ count = omega (arith, length-take len (drop from held), length-drop from held) in
    let behind : min from n + length (zeros count) ≡ min (from + len) n = omega (arith, length-replicate {A = ℕ} count 0) in
    let none : 0 ≡ min from n - n = omega arith in
    let last : drop (min from n + length (zeros count)) held ≡ rest = ap (λ k. drop k held) behind ∙ drop_min (from + len) held in
    let front : take from held ≡ take (min from n) held ++ zeros (min from n - n) =
    sym (take_min from held) ∙ sym (append-nil (take (min from n) held)) ∙ ap (λ k. take (min from n) held ++ zeros k) none in
    ap (λ k. take from held ++ zeros k ++ rest) some
    ∙ ap (λ (xs : List ℕ). take from held ++ zeros count ++ xs) (sym last)
    ∙ ap (λ (xs : List ℕ). xs ++ zeros count ++ drop (min from n + length (zeros count)) held) front

-- ONE PART THAT IS A VALUE covers no cluster.
one-nowhere : (part : Part) (value : List ℕ) (vcn : ℕ) → is_cluster (spot_at (with_value part value ∷ []) vcn) ≡ false
one-nowhere part value vcn =
    ap (λ b. is_cluster (spot_by (cond b (Some (with_value part value)) None) vcn))
    (and_right (nat_le 0 vcn) (nat_lt vcn 0) (le-ltb vcn 0 (omega arith)))

module _ (old new : VolumeView) (f : ℕ) (node : Node) (asked name : List ℕ) (from : ℕ) (bytes held : List ℕ) (can : CanSet old f node)
    (finds : FindsPlain old f node asked name held) (over : GoesOverValue old new f name from bytes) where
  -- the value of the part is what the stream held
  pub value-held : (value : List ℕ) → content_value over.part.content ≡ Some value → value ≡ held
  value-held value is =
      some_same (sym is ∙ (below.held old new f name from bytes over).1)
      ∙ below.value-is old new f node asked name from bytes held can finds over

  -- and that lies in no cluster
  pub nowhere : (vcn : ℕ) → is_cluster (spot_at (parts_named old f (units_in name)) vcn) ≡ false
  nowhere vcn =
      subst (λ (xs : List Part). is_cluster (spot_at xs vcn) ≡ false)
      (sym (named-same old f name (readable-sound old can.sound) (file old f node can.there) finds.there finds.tellable
      ∙ below.was old new f node asked name from bytes held can finds over))
      (one-nowhere over.part (below.value old new f node asked name from bytes held can finds over) vcn)
