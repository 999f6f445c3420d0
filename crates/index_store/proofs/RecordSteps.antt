-- What the steps of the read of an index record tell, and the record.
use Rattle.std.proofs.Common.{◌≡◌, ℕ, ◌+◌, ◌*◌, ◌/◌, ◌%◌, ◌<◌, ◌≤◌, true, false, Bool, List, length, Some, None, sym, ap, ◌∙◌, arith}
use Rattle.std.specs.Prelude.{◌==◌}
use Rattle.std.proofs.lemmas.Bool.{eq-eqb, eqb-true}
use Rattle.std.proofs.lemmas.Nat.Bits.{bit_at-zero}
use Rattle.list_laws.specs.Bits.{bit_in}
use Rattle.volume_def.specs.Files.{Part}
use Rattle.volume_def.specs.IndexesClause.{IndexParts, stored_index_record}
use Rattle.volume_def.specs.Table.{cluster_bytes}
use Rattle.volume_def.specs.Values.{first_part, value_on}
use Rattle.volume_def.specs.View.{VolumeView}
use Rattle.attr_store.proofs.StoredLaws.{no-value}
use Rattle.index_store.specs.IndexRecords.{Fetches, LiesWhole, TellsOpened, are_placed, index_record_on, record_clusters}
use Rattle.index_store.proofs.IndexRecordLaws.{are_placed-Decides, record-absent, record-there}

-- What was told of the steps tells the record.
module _ (view : VolumeView) (index : IndexParts) (vcn : ℕ) (some : 0 < cluster_bytes view.layout) where
  pub record-none : first_part index.records ≡ None → index_record_on view index vcn ≡ None
  record-none none =
      record-absent view index vcn some (λ is.
      let long = ap length (no-value view index.records none) in absurd (omega (arith, is.whole, long)))

  pub record-unplaced : (len : ℕ) → length (value_on view index.records) ≡ len
      → (LiesWhole index.records (cluster_bytes view.layout) len vcn → ⊥) → index_record_on view index vcn ≡ None
  record-unplaced len long absent =
      record-absent view index vcn some (λ is. absent (record {
        aligned = is.aligned;
        whole = omega (arith, is.whole, long);
        placed = is.placed;
      }))

  pub record-unmarked : (at : ℕ) → at ≡ vcn * cluster_bytes view.layout → false ≡ (bit_in (value_on view index.bits) (at / 4096) == 1)
      → index_record_on view index vcn ≡ None
  record-unmarked at is clear =
      record-absent view index vcn some (λ there.
      let set : (bit_in (value_on view index.bits) (at / 4096) == 1) ≡ true =
      eq-eqb _ _ (ap (λ n. bit_in (value_on view index.bits) (n / 4096)) is ∙ there.bit) in
      let f : false ≡ true = clear ∙ set in cc)

  pub record-told : (len at : ℕ) (opened : Bool) (new : List ℕ) → length (value_on view index.records) ≡ len
      → LiesWhole index.records (cluster_bytes view.layout) len vcn → at ≡ vcn * cluster_bytes view.layout
      → true ≡ (bit_in (value_on view index.bits) (at / 4096) == 1)
      → TellsOpened (stored_index_record view index vcn) vcn opened new → Fetches (index_record_on view index vcn) opened new
  record-told len at true new long lies is set (opens, told) =
      record-there view index vcn some (record {
        aligned = lies.aligned;
        whole = omega (arith, lies.whole, long);
        placed = lies.placed;
        sealed = opens.sealed;
        own = opens.own;
        bit = ap (λ n. bit_in (value_on view index.bits) (n / 4096)) (sym is) ∙ eqb-true _ _ (sym set);
      }) ∙ ap Some (sym told)
  record-told len at false new long lies is set other =
      record-absent view index vcn some (λ there. other (record { sealed = there.sealed; own = there.own }))

-- where an index record lies
pub lies-whole : (extents : List Part) (size len vcn : ℕ) → 0 < size → vcn * size % 4096 ≡ 0 → vcn * size + 4096 ≤ len
    → true ≡ are_placed extents vcn (record_clusters size) → LiesWhole extents size len vcn
lies-whole extents size len vcn some aligned whole placed = record {
  aligned = aligned;
  whole = whole;
  placed = (are_placed-Decides extents size vcn some).0 (sym placed);
}

pub lies-not : (extents : List Part) (size len vcn : ℕ) → 0 < size → false ≡ are_placed extents vcn (record_clusters size)
    → LiesWhole extents size len vcn → ⊥
lies-not extents size len vcn some placed lies =
    let f : false ≡ true = placed ∙ (are_placed-Decides extents size vcn some).1 lies.placed in cc

-- a bit of a bitmap that is not there, and one behind its end
pub no-bit : (view : VolumeView) (extents : List Part) (number : ℕ) → first_part extents ≡ None
    → false ≡ (bit_in (value_on view extents) number == 1)
no-bit view extents number none =
    sym (ap (λ bytes. bit_in bytes number == 1) (no-value view extents none) ∙ ap (λ b. b == 1) (bit_at-zero (number % 8)))
