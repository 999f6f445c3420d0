-- What a write of a block or of a piece of a cluster changes of the records of a volume.
use Rattle.std.proofs.Common.{◌≡◌, ◌<◌, ℕ, List, None, cond, ltb, ap, ◌∙◌}
use Rattle.std.specs.Prelude.{IsTrue}
use Rattle.std.proofs.lemmas.Bool.{lt-ltb}
use Rattle.std.specs.List.{flat_map, range_with_len}
use Rattle.volume_def.specs.Edits.{ChangesAt}
use Rattle.volume_def.specs.Files.{Part, Records, parts, parts_in, record_on, record_in, records_of}
use Rattle.volume_def.specs.Table.{TableLayout}
use Rattle.volume_def.specs.View.{ReplacesBlock, ReplacesPiece, VolumeView}
use Rattle.list_laws.proofs.ReplacesLaws.{flat_map_agree}

-- a record is what its block says
record_at-same : (old new : VolumeView) (n : ℕ) → new.layout ≡ old.layout → new.block n ≡ old.block n → record_on new n ≡ record_on old n
record_at-same old new n layout block =
    ap (λ (l : TableLayout). cond (ltb n l.count) (record_in n (new.block n)) None) layout
    ∙ ap (λ bytes. cond (ltb n old.layout.count) (record_in n bytes) None) block

pub ChangesAt-block : (old new : VolumeView) (n : ℕ) (stored : List ℕ) → ReplacesBlock old new n stored
    → ChangesAt (records_of old) (records_of new) n
ChangesAt-block old new n stored r = record {
  count = ap (λ (l : TableLayout). l.count) r.layout;
  others = λ m other. record_at-same old new m r.layout (r.blocks m other);
}

pub record_at-written : (old new : VolumeView) (n : ℕ) (stored : List ℕ) → ReplacesBlock old new n stored → IsTrue old.told
    → n < old.layout.count → record_on new n ≡ record_in n stored
record_at-written old new n stored r told inside =
    ap (λ (l : TableLayout). cond (ltb n l.count) (record_in n (new.block n)) None) r.layout
    ∙ ap (λ b. cond b (record_in n (new.block n)) None) (lt-ltb n old.layout.count inside)
    ∙ ap (record_in n) (r.block told)

pub record_at-piece : (old new : VolumeView) (c piece : ℕ) (bytes : List ℕ) → ReplacesPiece old new c piece bytes → (n : ℕ)
    → record_on new n ≡ record_on old n
record_at-piece old new c piece bytes r n = record_at-same old new n r.layout (r.blocks n)

-- records that are the same have the same files
pub parts-same : (old new : Records) (f : ℕ) → new.count ≡ old.count → ((n : ℕ) → new.record_at n ≡ old.record_at n)
    → parts new f ≡ parts old f
unfolding parts
parts-same old new f count same =
    let was : ℕ → List Part = λ n. parts_in (old.record_at n) n f in
    let now : ℕ → List Part = λ n. parts_in (new.record_at n) n f in
    ap (λ k. flat_map now (range_with_len 0 k)) count
    ∙ flat_map_agree now was 0 old.count (λ n low high. ap (λ r. parts_in r n f) (same n))

pub parts-piece : (old new : VolumeView) (c piece f : ℕ) (bytes : List ℕ) → ReplacesPiece old new c piece bytes
    → parts (records_of new) f ≡ parts (records_of old) f
parts-piece old new c piece f bytes r =
    parts-same (records_of old) (records_of new) f (ap (λ (l : TableLayout). l.count) r.layout) (record_at-piece old new c piece bytes r)
