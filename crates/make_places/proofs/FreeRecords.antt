-- A RECORD FOR A NEW FILE: the flags in memory tell which are free, and the least of these decides.
use Rattle.std.proofs.Common.{◌≡◌, ◌↔◌, ◌<◌, ◌≤◌, ◌+◌, ◌*◌, ◌/◌, ◌-◌, ◌==◌, ℕ, Bool, true, false, List, length}
use Rattle.std.proofs.Common.{Option, Some, None, refl, sym, ap, subst, inl, inr, ◌∙◌, arith}
use Rattle.std.proofs.lemmas.Bool.{and_from, and_parts, cases_Bool, cases_eq, cases_lt, eq-eqb, le-leb, leb-true, lt-ltb, ltb-true, ne_eqb}
use Rattle.std.proofs.lemmas.List.FromFn.{get_or-map-range_with_len}
use Rattle.std.proofs.lemmas.Option.{slice_get_within, slice_get-get_or}
use Rattle.std.specs.List.{Contains, range_with_len}
use Rattle.std.specs.Prelude.{IsSome, is_none, is_some, nat_le, slice_get}
use Rattle.list_laws.specs.Bits.{bit_in, flags_in}
use Rattle.list_laws.proofs.BitLaws.{length-flags}
use Rattle.list_laws.proofs.FindLaws.{any-found, passing, some-counted}
use Rattle.list_laws.proofs.MemberLaws.{Contains-from_range, Contains-range}
use Rattle.list_laws.proofs.OptionLaws.{some_same}
use Rattle.ntfs_def.specs.declared.records.TheConstants.{FIRST_ORDINARY}
use Rattle.volume_def.specs.BitmapClauses.{record_bits}
use Rattle.volume_def.specs.Files.{Record, record_on}
use Rattle.volume_def.specs.Sound.{RecordBits}
use Rattle.volume_def.specs.Values.{value_on}
use Rattle.volume_def.specs.View.{VolumeView}
use Rattle.mft_table.specs.declared.mounted.Mounted.{Mounted}
use Rattle.mft_table.specs.FreeRecords.{IsLeastFree, IsOrdinaryFree}
use Rattle.mft_table.specs.InUse.{IsSoundVolume}
use Rattle.tree_model.specs.Ways.{can_have_file, has_record, has_record_bit}
use Rattle.file_makes.specs.Under.{HasRecordRoom}

flag-at : (bytes : List ℕ) (count n : ℕ) → n < count → slice_get (flags_in bytes count) n ≡ Some (bit_in bytes n == 1)
unfolding flags_in
flag-at bytes count n inside =
    slice_get-get_or (flags_in bytes count) n false (omega (arith, length-flags bytes count, inside))
    ∙ ap (λ (b : Bool). Some b) (get_or-map-range_with_len (λ k. bit_in bytes k == 1) 0 count n n false inside (omega arith))

set-is : (bit : ℕ) (o : Option Record) → (bit ≡ 1) ↔ IsSome o → (bit == 1) ≡ is_some o
set-is bit None says = elim (cases_eq bit 1) [
  | inl set ↦ let some = says.0 set in cc
  | inr clear ↦ ne_eqb bit 1 clear
]
set-is bit (Some r) says = eq-eqb bit 1 (says.1 refl)

none-by : {A : Type 0} (o : Option A) → is_some o ≡ false → o ≡ None
none-by None e = refl
none-by (Some x) e = cc

module _ (view : VolumeView) (mounted : Mounted) (is : IsSoundVolume view mounted) where
  abbrev all : List ℕ
  all = range_with_len FIRST_ORDINARY (view.layout.count - FIRST_ORDINARY)

  count-is : length mounted.records ≡ view.layout.count
  count-is = ap length is.stored.records_are ∙ length-flags (value_on view (record_bits view)) view.layout.count

  flag-is : (n : ℕ) → FIRST_ORDINARY ≤ n → n < view.layout.count → slice_get mounted.records n ≡ Some (is_some (record_on view n))
  flag-is n low inside =
      let bits = value_on view (record_bits view) in
      ap (λ flags. slice_get flags n) is.stored.records_are ∙ flag-at bits view.layout.count n inside
      ∙ ap (λ (b : Bool). Some b) (set-is (bit_in bits n) (record_on view n) ((is.sound RecordBits n).bit low inside))

  free-inside : (n : ℕ) → IsOrdinaryFree mounted.records n → n < view.layout.count
  free-inside n free =
      let within = slice_get_within mounted.records n false (free.1 n (omega arith) (omega arith)) in
      omega (arith, within, count-is)

  free-unused : (n : ℕ) → IsOrdinaryFree mounted.records n → record_on view n ≡ None
  free-unused n free =
      none-by (record_on view n)
      (some_same (sym (flag-is n free.0 (free-inside n free)) ∙ free.1 n (omega arith) (omega arith)))

  unused-free : (n : ℕ) → FIRST_ORDINARY ≤ n → n < view.layout.count → is_none (record_on view n) ≡ true → IsOrdinaryFree mounted.records n
  unused-free n low inside none = (
    low,
    λ k from to.
        let same : n ≡ k = omega (arith, from, to) in
        subst (λ m. slice_get mounted.records m ≡ Some false) same
        (flag-is n low inside ∙ ap (λ (b : Bool). Some b) (by (record_on view n) none)),
  )
    where
      by : (o : Option Record) → is_none o ≡ true → is_some o ≡ false
      by None e = refl
      by (Some r) e = cc

  in-all : (n : ℕ) → IsOrdinaryFree mounted.records n → Contains all n
  in-all n free =
      let inside = free-inside n free in
      let low = free.0 in
      Contains-range FIRST_ORDINARY (view.layout.count - FIRST_ORDINARY) n low (omega (arith, low, inside))

  -- one that can have a file is free, and has room
  can-free : (k : ℕ) → Contains all k → can_have_file view k ≡ true → IsOrdinaryFree mounted.records k × HasRecordRoom view k
  can-free k among can =
      let first = and_parts (is_none (record_on view k)) _ can in
      let rest = and_parts (nat_le (1024 * k + 1024) view.layout.initialized) (has_record_bit view k) first.1 in
      let inside = Contains-from_range FIRST_ORDINARY (view.layout.count - FIRST_ORDINARY) k among in
      let low = inside.0 in
      let high = inside.1 in (
        unused-free k low (omega (arith, low, high)) first.0,
        record { flag = rest.1; block = leb-true (1024 * k + 1024) view.layout.initialized rest.0 },
      )

  one-free : has_record view ≡ true → (k : ℕ) × IsOrdinaryFree mounted.records k × HasRecordRoom view k
  one-free has =
      let one = passing (can_have_file view) all (some-counted (can_have_file view) all has) in
      let both = can-free one.0 one.1 one.2 in
      (one.0, both.0, both.1)

  -- so the least that is free has room
  pub record-room : (n : ℕ) → IsLeastFree mounted.records n → has_record view ≡ true → HasRecordRoom view n
  record-room n free has =
      let one = one-free has in
      let k = one.0 in
      let below : n ≤ k = elim (cases_lt k n) [
        | inl lt ↦ absurd (free.least k lt one.1)
        | inr ge ↦ ge
      ] in
      let flag = ltb-true k _ one.2.flag in
      let block = one.2.block in
      record {
        flag = lt-ltb n _ (omega (arith, below, flag));
        block = omega (arith, below, block);
      }

  -- none is free
  pub none-free : ((n : ℕ) → IsOrdinaryFree mounted.records n → ⊥) → has_record view ≡ false
  none-free none = elim (cases_Bool (has_record view)) [
    | inl has ↦ let one = one-free has in absurd (none one.0 one.1)
    | inr no_record ↦ no_record
  ]

  -- the least lies behind what was written
  pub behind-written : (n : ℕ) → IsLeastFree mounted.records n → view.layout.initialized / 1024 ≤ n → has_record view ≡ false
  behind-written n free far = elim (cases_Bool (has_record view)) [
    | inl has ↦ let block = (record-room n free has).block in absurd (omega (arith, block, far))
    | inr none ↦ none
  ]

  -- .. or before it
  pub in-written : (n : ℕ) → IsLeastFree mounted.records n → n < view.layout.initialized / 1024 → has_record view ≡ has_record_bit view n
  in-written n free near = elim (cases_Bool (has_record_bit view n)) [
    | inl bit ↦
        let so = and_from (is_none (record_on view n)) _ (ap is_none (free-unused n free.free))
        (and_from (nat_le (1024 * n + 1024) view.layout.initialized) (has_record_bit view n)
        (le-leb (1024 * n + 1024) view.layout.initialized (omega (arith, near))) bit) in
        any-found (can_have_file view) all n (in-all n free.free) so ∙ sym bit
    | inr none ↦ elim (cases_Bool (has_record view)) [
      | inl has ↦ let flag = sym (record-room n free has).flag ∙ none in cc
      | inr no_record ↦ no_record ∙ sym none
    ]
  ]
