-- WHERE A FILE'S STANDARD INFORMATION WAS SET: the front of its value was written, which tells the times and the flags.
use Rattle.std.proofs.Common.{◌≡◌, ◌+◌, ◌<◌, ◌≤◌, ℕ, List, [], ◌∷◌, length, Some, ap, ◌∙◌, arith, get_or}
use Rattle.std.specs.Prelude.{bit_and, bit_or, cond, nat_lt}
use Rattle.vol_bytes.specs.Field.{u32_at, u64_at}
use Rattle.vol_bytes.proofs.FieldLaws.{u32_at-same, u64_at-same}
use Rattle.attr_view.specs.Values.{overwritten}
use Rattle.ntfs_def.specs.StandardInformation.{dos_flags, standard_security, standard_times}
use Rattle.list_laws.proofs.OptionLaws.{some-value}
use Rattle.volume_def.specs.Files.{content_value}
use Rattle.volume_def.specs.View.{VolumeView}
use Rattle.volume_edits.proofs.WithBytes.{length-with_bytes}
use Rattle.entry_edits.specs.Below.{SetsStandard, TellsNode, hidden_flags}
use Rattle.attribute_edits.proofs.OverwrittenValue.{byte-behind, byte-in}
use Rattle.attribute_edits.proofs.StandardWritten.{WritesStandard}

-- The value that is set, and what it tells.
pub record FrontSet (value : List ℕ) (times : List ℕ) (flags : ℕ) (front : List ℕ) : Type 0 where
  pub some : 0x24 ≤ length value
  pub tells : TellsNode value times flags front

module _ (value times front : List ℕ) (flags : ℕ) (s : FrontSet value times flags front) where
  abbrev next : List ℕ
  next = overwritten value 0 front

  pub fits : 0 + length front ≤ length value
  fits = let l = s.tells.len in let m = s.some in omega (arith, l, m)

  next-long : length next ≡ length value
  next-long = length-with_bytes value 0 front fits

  front-at : (k : ℕ) → k < 0x24 → get_or next k 0 ≡ get_or front k 0
  front-at k l = let n = s.tells.len in byte-in value 0 front fits k k (omega arith) (omega (arith, l, n))

  pub behind-at : (k : ℕ) → 0x24 ≤ k → get_or next k 0 ≡ get_or value k 0
  behind-at k l = let n = s.tells.len in byte-behind value 0 front fits k (omega (arith, l, n))

  word : (at : ℕ) → at + 8 ≤ 0x24 → u64_at next at ≡ u64_at front at
  word at l = u64_at-same front next at (λ k f t. front-at k (omega (arith, t, l)))

  pub times-set : standard_times next ≡ times
  times-set =
      (λ i. word 0 (omega arith) i ∷ word 8 (omega arith) i ∷ word 0x10 (omega arith) i ∷ word 0x18 (omega arith) i ∷ [])
      ∙ s.tells.times_are

  pub flags-set : dos_flags next ≡ bit_or (bit_and (dos_flags value) hidden_flags) flags
  flags-set = u32_at-same front next 0x20 (λ k f t. front-at k (omega (arith, t))) ∙ s.tells.flags_are

  pub security-same : standard_security next ≡ standard_security value
  security-same =
      ap (λ n. cond (nat_lt n 72) 0 (u32_at next 0x34)) next-long
      ∙ ap (λ x. cond (nat_lt (length value) 72) 0 x) (u32_at-same value next 0x34 (λ k f t. behind-at k (omega (arith, f))))

module _ (old new : VolumeView) (f : ℕ) (times : List ℕ) (flags : ℕ) (s : SetsStandard old new f times flags) where
  pub its : (value : List ℕ) × (content_value s.part.content ≡ Some value) × ((0x24 ≤ length value) × TellsNode value times flags s.front)
  its = some-value (content_value s.part.content) _ s.tells

  pub front-set : FrontSet its.0 times flags s.front
  front-set = record { some = its.2.0; tells = its.2.1 }

  -- the bytes that were written
  abbrev pub front-written : WritesStandard old new f 0 s.front
  front-written = record {
    part = s.part;
    among = s.among;
    standard = s.standard;
    value = its.0;
    value_is = its.1;
    fits = fits its.0 times s.front flags front-set;
    writes = s.writes;
  }
