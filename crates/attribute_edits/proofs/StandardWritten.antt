-- BYTES WRITTEN INTO A FILE'S STANDARD INFORMATION: the volume is sound still, and the file's node has the times, the flags and the
-- security id of the value then.
use Rattle.std.proofs.Common.{◌≡◌, ◌≢◌, ◌+◌, ◌≤◌, ℕ, Bool, true, false, List, [], ◌∷◌, length, Option, Some, None, refl, sym, ap, subst}
use Rattle.std.proofs.Common.{inl, ◌∙◌}
use Rattle.std.specs.Prelude.{◌==◌, ◌&&◌, Contains, IsSomeAnd, cond, filter, not, option_map, unwrap_or}
use Rattle.std.specs.Option.{option_and_then}
use Rattle.std.specs.FinMap as finmap
use Rattle.attr_view.specs.Values.{overwritten}
use Rattle.ntfs_def.specs.Attribute.{value_of}
use Rattle.ntfs_def.specs.Fixup.{opened_of}
use Rattle.ntfs_def.specs.declared.kinds.TheConstants.{STANDARD_INFORMATION}
use Rattle.ntfs_def.specs.declared.records.TheConstants.{VOLUME}
use Rattle.volume_def.specs.Files.{Part, Record, Value, content_value, file_of, is_base, is_of, part_of, parts, parts_at, record_of}
use Rattle.volume_def.specs.Files.{record_on, records_of}
use Rattle.volume_def.specs.Sound.{IsSound}
use Rattle.volume_def.specs.Values.{first_part, first_vcn_of}
use Rattle.volume_def.specs.VersionClause.{HasVersion}
use Rattle.volume_def.specs.View.{VolumeView}
use Rattle.volume_def.proofs.PartLaws.{IsPart-Contains, NameHolders-view, named}
use Rattle.volume_def.proofs.SoundLaws.{readable-sound}
use Rattle.volume_edits.specs.Quiet.{EditsQuietly, RewritesValue, with_blocks}
use Rattle.volume_edits.proofs.RecordEdits as written
use Rattle.volume_edits.proofs.WithBytes.{length-with_bytes}
use Rattle.tree_model.specs.Hidden.{is_hidden}
use Rattle.tree_model.specs.Reading.{node_at, node_by, node_on, read, standard_of, tree_nodes}
use Rattle.tree_model.specs.declared.tree.Node.{Node}
use Rattle.edit_def.specs.Kept.{Key, key_of, same_key}
use Rattle.in_place.specs.Kept.{KeepsStandard, KeepsUnshown}
use Rattle.entry_edits.specs.Standard.{with_standard}
use Rattle.entry_edits.specs.Written.{LooksOutside, WritesValue}
use Rattle.entry_edits.proofs.ReadingKept as reading
use Rattle.entry_edits.proofs.WrittenLaws as volumes
use Rattle.in_place.specs.Written.{WritesBytes}
use Rattle.in_place.specs.InPlace.{Rewrites}
use Rattle.in_place.proofs.CallLaws as calls
use Rattle.entry_edits.proofs.RewrittenRoot.{body-value, held-apart, value-content}

-- The bytes lie in the value of that attribute, from its byte `at` on, and nothing else of the volume changed.
pub record WritesStandard (old new : VolumeView) (f at : ℕ) (from : List ℕ) : Type 0 where
  pub part : Part
  pub among : Contains (parts (records_of old) f) part
  pub standard : is_of STANDARD_INFORMATION [] part ≡ true
  pub value : List ℕ
  pub value_is : content_value part.content ≡ Some value
  pub fits : at + length from ≤ length value
  pub writes : WritesBytes old new part at from

abbrev pub standard_key : ℕ → Key → Bool
standard_key f = same_key (key_of f STANDARD_INFORMATION [])

module _ (old new : VolumeView) (f at : ℕ) (from : List ℕ) (s : WritesStandard old new f at from) where
  abbrev w : WritesBytes old new s.part at from
  w = s.writes

  abbrev n : ℕ
  n = s.part.holder

  abbrev was : Part
  was = part_of s.part.holder w.was

  abbrev now : Part
  now = part_of s.part.holder w.now

  abbrev pub next : List ℕ
  next = overwritten s.value at from

  pub next-long : length next ≡ length s.value
  next-long = length-with_bytes s.value at from s.fits

  was-key : (was.kind ≡ STANDARD_INFORMATION) × (was.name ≡ [])
  was-key = named STANDARD_INFORMATION [] was (ap (is_of STANDARD_INFORMATION []) w.is ∙ s.standard)

  now-key : (now.kind ≡ STANDARD_INFORMATION) × (now.name ≡ [])
  now-key = (w.overwrites.kind ∙ was-key.0, w.overwrites.name ∙ was-key.1)

  was-value : value_of w.was.body ≡ Some s.value
  was-value = sym (body-value w.was.body) ∙ ap (λ (p : Part). content_value p.content) w.is ∙ s.value_is

  now-value : content_value now.content ≡ Some next
  now-value = body-value w.now.body ∙ w.overwrites.value ∙ ap (option_map (λ bytes. overwritten bytes at from)) was-value

  abbrev rewrites : RewritesValue was now
  rewrites = record {
    holder = refl;
    kind = w.overwrites.kind;
    name = w.overwrites.name;
    id = w.overwrites.id;
    flags = w.overwrites.flags;
    value = s.value;
    is = value-content was.content s.value (body-value w.was.body ∙ was-value);
    next = next;
    next_is = value-content now.content next now-value;
    long = next-long;
    quiet = inl was-key.0;
  }

  -- THE ATTRIBUTE was rewritten.
  pub one-rewritten : Rewrites (standard_key f) old new
  one-rewritten =
      let k = named STANDARD_INFORMATION [] s.part s.standard in
      subst (λ kind. Rewrites (same_key (key_of f kind [])) old new) k.0
      (subst (λ name. Rewrites (same_key (key_of f s.part.kind name)) old new) k.1
      (calls.written old new s.part at from f w s.among
      (subst (λ o. IsSomeAnd o (λ value. at + length from ≤ length value)) (sym s.value_is) s.fits)))

  -- The record of the part is one of the file.
  own : file_of n (record_of n (opened_of (old.block n))) ≡ f
  own =
      let h = IsPart-Contains (records_of old) f s.part (NameHolders-view old) s.among in
      let same : Some (record_of n (opened_of (old.block n))) ≡ Some h.record_there =
      sym (written.was_at old new n w.stored w.was w.now w.record_is) ∙ h.held in
      files (record_of n (opened_of (old.block n))) h.record_there same ∙ h.file
    where
      files : (a b : Record) → Some a ≡ Some b → file_of n a ≡ file_of n b
      files a b e = let q : a ≡ b = cc in ap (file_of n) q

  module _ (sound : IsSound old) (outside : LooksOutside old) (apart : f ≢ VOLUME) where
    version-same : n ≡ VOLUME → HasVersion w.stored
    version-same here = absurd (held-apart old f s.part (readable-sound old sound) apart s.among here)

    abbrev written-value : WritesValue old new n w.stored w.was w.now
    written-value = record { record_is = w.record_is; rewrites = rewrites; version = version-same }

    -- SOUND
    pub sound-written : IsSound new
    sound-written = volumes.sound-written old new n w.stored w.was w.now written-value outside sound

    module _ (node : Node) (there : node_at old f ≡ Some node) where
      there' : node_at old (file_of n (record_of n (opened_of (old.block n)))) ≡ Some node
      there' = ap (node_at old) own ∙ there

      abbrev e : EditsQuietly old new.block new.copy n was now
      e = written.edits old new n w.stored w.was w.now w.record_is rewrites version-same

      -- the records are those of the edit of one block
      news : (g : ℕ) → parts (records_of new) g ≡ parts (records_of (with_blocks old new.block new.copy)) g
      news g = ap (λ v. parts (records_of v) g) (written.is old new n w.stored w.was w.now w.record_is)

      standards : (parts_at old f STANDARD_INFORMATION [] ≡ was ∷ []) × (parts_at new f STANDARD_INFORMATION [] ≡ now ∷ [])
      standards =
          let k = was-key in
          let both = reading.standards-alone old new.block new.copy n was now e sound k.0 k.1 node there' in (
            (λ i. filter (is_of (sym k.0 i) (sym k.1 i)) (parts (records_of old) (sym own i))) ∙ both.0,
            ap (filter (is_of STANDARD_INFORMATION [])) (news f)
                ∙ (λ i. filter (is_of (sym k.0 i) (sym k.1 i)) (parts (records_of (with_blocks old new.block new.copy)) (sym own i)))
                ∙ both.1,
          )

      pub standard-was : standard_of (parts (records_of old) f) ≡ s.value
      standard-was =
          ap (λ g. standard_of (parts (records_of old) g)) (sym own)
          ∙ reading.standard-was old new.block new.copy n was now e sound was-key.0 was-key.1 node there'

      pub standard-now : standard_of (parts (records_of new) f) ≡ next
      standard-now =
          ap standard_of (news f) ∙ ap (λ g. standard_of (parts (records_of (with_blocks old new.block new.copy)) g)) (sym own)
          ∙ reading.standard-now old new.block new.copy n was now e sound was-key.0 was-key.1 node there'

      -- THE NODE shows what the value tells
      told-by : (o : Option Record) → option_and_then (node_on old f) o ≡ Some node
          → node ≡ with_standard (standard_of (parts (records_of old) f)) node
      unfolding node_by
      told-by None t = cc
      told-by (Some r) t = by (is_base r && not (is_hidden (records_of old) f)) t
        where
          by : (b : Bool) → cond b (Some (node_by old r (parts (records_of old) f))) None ≡ Some node
              → node ≡ with_standard (standard_of (parts (records_of old) f)) node
          by true t =
              let same : node_by old r (parts (records_of old) f) ≡ node = cc in
              subst (λ (x : Node). x ≡ with_standard (standard_of (parts (records_of old) f)) x) same refl
          by false t = cc

      pub node-told : node ≡ with_standard s.value node
      unfolding node_at
      node-told = told-by (record_on old f) there ∙ ap (λ v. with_standard v node) standard-was

      -- THE READING
      pub reads-written : read new ≡ record (read old) { nodes = finmap.insert (tree_nodes old) f (with_standard next node) }
      reads-written =
          volumes.reads-written old new n w.stored w.was w.now written-value outside sound was-key.0 was-key.1 node there'
          ∙ ap (λ g. record (read old) { nodes = finmap.insert (tree_nodes old) g (with_standard next node) }) own

      -- WHAT THE TREE DOES NOT SHOW stays, where it stays of the value.
      pub standard-kept : KeepsUnshown false s.value next
          → KeepsStandard false (parts_at old f STANDARD_INFORMATION []) (parts_at new f STANDARD_INFORMATION [])
      standard-kept unshown = record {
        flags = ap (λ ps. option_map (λ (part : Part). part.flags) (first_part ps)) standards.1 ∙ first-now
            ∙ sym (ap (λ ps. option_map (λ (part : Part). part.flags) (first_part ps)) standards.0);
        value = subst (KeepsUnshown false (standard_of (parts_at old f STANDARD_INFORMATION []))) (sym now-is)
            (subst (λ v. KeepsUnshown false v next) (sym was-is) unshown);
      }
        where
          of-standard : (p : Part) → (p.kind ≡ STANDARD_INFORMATION) × (p.name ≡ []) → is_of STANDARD_INFORMATION [] p ≡ true
          of-standard p k = (λ i. is_of STANDARD_INFORMATION [] (record p { kind = k.0 i; name = k.1 i }))

          first-now : option_map (λ (part : Part). part.flags) (first_part (now ∷ []))
              ≡ option_map (λ (part : Part). part.flags) (first_part (was ∷ []))
          first-now =
              ap (λ c. option_map (λ (part : Part). part.flags) (cond (first_vcn_of c == 0) (Some now) None)) rewrites.next_is
              ∙ ap (λ (x : ℕ). Some x) rewrites.flags
              ∙ sym (ap (λ c. option_map (λ (part : Part). part.flags) (cond (first_vcn_of c == 0) (Some was) None)) rewrites.is)

          only : (p : Part) (v : List ℕ) (ps : List Part) → ps ≡ p ∷ [] → is_of STANDARD_INFORMATION [] p ≡ true → p.content ≡ Value v
              → standard_of ps ≡ v
          only p v ps one is c =
              ap standard_of one ∙ ap (λ b. unwrap_or (option_and_then (λ (part : Part). content_value part.content) (cond b
              (Some p) None)) []) is
              ∙ ap (λ x. unwrap_or (content_value x) []) c

          was-is : standard_of (parts_at old f STANDARD_INFORMATION []) ≡ s.value
          was-is = only was s.value (parts_at old f STANDARD_INFORMATION []) standards.0 (of-standard was was-key) rewrites.is

          now-is : standard_of (parts_at new f STANDARD_INFORMATION []) ≡ next
          now-is = only now next (parts_at new f STANDARD_INFORMATION []) standards.1 (of-standard now now-key) rewrites.next_is
