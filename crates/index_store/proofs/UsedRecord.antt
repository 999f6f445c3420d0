-- An index record that is there: where it lies, and what it opens to.
use Rattle.std.proofs.Common.{◌≡◌, ℕ, ◌+◌, ◌*◌, ◌%◌, ◌<◌, ◌≤◌, true, false, Bool, List, length, Some, None, refl, sym, ap, ◌∙◌, arith}
use Rattle.std.specs.Prelude.{IsSome}
use Rattle.volume_def.specs.IndexesClause.{IndexParts, IsIndexRecordAt, stored_index_record}
use Rattle.volume_def.specs.Table.{cluster_bytes}
use Rattle.volume_def.specs.Values.{first_part, value_on}
use Rattle.volume_def.specs.View.{VolumeView}
use Rattle.attr_store.proofs.StoredLaws.{no-value}
use Rattle.index_store.specs.IndexRecords.{TellsOpened, index_record_on}
use Rattle.index_store.proofs.IndexRecordLaws.{record-there, records-of}

module _ (view : VolumeView) (index : IndexParts) (vcn : ℕ) (some : 0 < cluster_bytes view.layout)
    (used : IsSome (index_record_on view index vcn)) where
  pub used-there : IsIndexRecordAt view index vcn
  used-there = (records-of view index some).only vcn used

  pub used-stored : first_part index.records ≡ None → ⊥
  used-stored none =
      let long = ap length (no-value view index.records none) in
      absurd (omega (arith, used-there.whole, long))

  pub used-placed : (len : ℕ) → length (value_on view index.records) ≡ len
      → (vcn * cluster_bytes view.layout % 4096 ≡ 0 → vcn * cluster_bytes view.layout + 4096 ≤ len → ⊥) → ⊥
  used-placed len long none = none used-there.aligned (omega (arith, used-there.whole, long))

  pub used-opened : (opened : Bool) (new : List ℕ) → TellsOpened (stored_index_record view index vcn) vcn opened new → opened ≡ true
  used-opened true new told = refl
  used-opened false new told = absurd (told (record { sealed = used-there.sealed; own = used-there.own }))

  pub used-opens : (opened : Bool) (new : List ℕ) → TellsOpened (stored_index_record view index vcn) vcn opened new
      → opened ≡ true → index_record_on view index vcn ≡ Some new
  used-opens true new (opens, told) e = record-there view index vcn some used-there ∙ ap Some (sym told)
  used-opens false new told e = let f : false ≡ true = e in cc

  -- what was read opens as the record
  pub used-read : (opened : Bool) (new : List ℕ) → TellsOpened (stored_index_record view index vcn) vcn opened new
      → index_record_on view index vcn ≡ Some new
  used-read opened new told = used-opens opened new told (used-opened opened new told)
