-- A RECORD WHOSE FLAG IS FREE is not in use on a sound volume, and no file has a part of it.
use Rattle.std.proofs.Common.{◌≡◌, ◌<◌, ◌==◌, ℕ, true, false, List, [], Option, Some, None, refl, sym, ap, ◌∙◌, arith}
use Rattle.std.specs.Prelude.{IsSomeAnd, IsTrue, is_some, slice_get}
use Rattle.std.proofs.lemmas.Bool.{false≢true}
use Rattle.std.proofs.lemmas.List.FromFn.{get_or-map-range_with_len}
use Rattle.std.proofs.lemmas.Option.{get_or_from_slice_get, slice_get_within}
use Rattle.list_laws.specs.Bits.{bit_in, flags_in}
use Rattle.list_laws.proofs.BitLaws.{length-flags}
use Rattle.list_laws.proofs.MemberLaws.{nil-from_Contains}
use Rattle.list_laws.proofs.OptionLaws.{none_other}
use Rattle.volume_def.specs.BitmapClauses.{record_bits}
use Rattle.volume_def.specs.Files.{Record, is_base, parts, record_on, records_of}
use Rattle.volume_def.specs.Sound.{RecordBits, References}
use Rattle.volume_def.specs.Values.{value_on}
use Rattle.volume_def.specs.View.{VolumeView}
use Rattle.mft_table.specs.declared.mounted.Mounted.{Mounted}
use Rattle.mft_table.specs.FreeRecords.{IsOrdinaryFree}
use Rattle.mft_table.specs.InUse.{IsSoundVolume}
use Rattle.edit_def.proofs.NamesLaws.{bases-of}
use Rattle.edit_def.proofs.ToldLaws.{part-file}

module _ (view : VolumeView) (mounted : Mounted) (is : IsSoundVolume view mounted) (n : ℕ) (free : IsOrdinaryFree mounted.records n) where
  abbrev bits : List ℕ
  bits = value_on view (record_bits view)

  stored : slice_get (flags_in bits view.layout.count) n ≡ Some false
  stored = ap (λ flags. slice_get flags n) (sym is.stored.records_are) ∙ free.1 n (omega arith) (omega arith)

  inside : n < view.layout.count
  inside = omega (arith, slice_get_within (flags_in bits view.layout.count) n false stored, length-flags bits view.layout.count)

  clear : (bit_in bits n == 1) ≡ false
  unfolding flags_in
  clear =
      sym (get_or-map-range_with_len (λ at. bit_in bits at == 1) 0 view.layout.count n n false inside (omega arith))
      ∙ get_or_from_slice_get (flags_in bits view.layout.count) n false false stored

  unused : record_on view n ≡ None
  unused = by (record_on view n) refl
    where
      by : (o : Option Record) → record_on view n ≡ o → o ≡ None
      by None e = refl
      by (Some r) e =
          let set : bit_in bits n ≡ 1 = ((is.sound RecordBits n).bit free.0 inside).1 (there (record_on view n) r e) in
          absurd (false≢true (sym clear ∙ ap (λ b. b == 1) set))
        where
          there : (o : Option Record) (r : Record) → o ≡ Some r → is_some o ≡ true
          there o r e = ap is_some e

  pub parts-free : parts (records_of view) n ≡ []
  parts-free = nil-from_Contains (parts (records_of view) n) (λ part c.
      never (record_on view n) unused (part-file view n part (bases-of (records_of view) (is.sound References)) c))
    where
      never : (o : Option Record) → o ≡ None → IsSomeAnd o (λ r. IsTrue (is_base r)) → ⊥
      never None e is = is
      never (Some r) e is = none_other (sym e)
