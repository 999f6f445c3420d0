-- WHAT IS FOUND OF A FILE whose security id is to be set, and the refusals in their order.
use Rattle.std.proofs.Common.{◌≡◌, ◌&&◌, ◌<◌, ◌+◌, le_refl, ℕ, Bool, true, false, not, List, [], Result, Ok}
use Rattle.std.proofs.Common.{Err}
use Rattle.std.proofs.Common.{refl, sym, ap, subst, inl, inr, ◌∙◌, arith}
use Rattle.std.proofs.lemmas.Bool.{and_from, cases_Bool, le-leb, leb-true}
use Rattle.std.specs.Prelude.{IsTrue, if◌then◌else◌, length, nat_le, option_and_then, slice_get, unwrap_or}
use Rattle.vol_disk.specs.declared.Disk.{Ghosts}
use Rattle.ntfs_def.specs.StandardInformation.{standard_times}
use Rattle.ntfs_def.specs.declared.kinds.TheConstants.{STANDARD_INFORMATION}
use Rattle.volume_def.specs.Files.{Part, content_value, is_of, parts, records_of}
use Rattle.list_laws.proofs.FindLaws.{find-found}
use Rattle.volume_def.specs.Sound.{IsSound}
use Rattle.volume_def.specs.Table.{cluster_bytes}
use Rattle.volume_def.specs.View.{VolumeView}
use Rattle.mft_table.specs.declared.mft.Mft.{Mft}
use Rattle.mft_table.specs.declared.mounted.Mounted.{Mounted}
use Rattle.mft_table.specs.InUse.{IsInUse}
use Rattle.mft_table.specs.Mft.{MftReads, mounted_of, view}
use Rattle.mft_table.proofs.StreamReads.{MftReads-then}
use Rattle.file_record.specs.declared.base.BaseFile.{BaseFile}
use Rattle.tree_model.specs.Facts.{IsVolumeOf}
use Rattle.tree_model.specs.Paths.{found_file, resolve}
use Rattle.tree_model.specs.Reading.{node_by, read, standard_flags, standard_of}
use Rattle.tree_model.specs.Ways.{has_place_for_id}
use Rattle.tree_model.proofs.ReadingLaws.{node_of-read}
use Rattle.tree_model.specs.declared.reply.No.{No}
use Rattle.tree_model.specs.declared.reply.No.TheVariants as no
use Rattle.tree_model.specs.declared.tree.Node.{Node}
use Rattle.file_room.specs.Answered.{Answered, Finds}
use Rattle.file_room.specs.Nodes.{IsNodeHeld, number_of, parts_in}
use Rattle.file_room.specs.Stop.{Stop}
use Rattle.file_room.specs.Stop.TheVariants as stop
use Rattle.file_room.specs.Reached.{Reached}
use Rattle.file_room.proofs.AnsweredLaws.{follows, says-failed}
use Rattle.file_room.proofs.GivesLaws.{in-use-kept, tells, told-kept}
use Rattle.view_index.specs.Security.{TellsWhether}
use Rattle.tree_edit.specs.Securable.{DecidesSecure, HasPlaceAt, IsSecurable, can_secure, secure_in, secure_wanted}
use Rattle.tree_edit.specs.Settable.{IsSettable, is_editable}
use Rattle.tree_edit.specs.Writable.{IsMountedAs}
use Rattle.tree_edit.specs.declared.securable.Securable.{Securable}
use Rattle.tree_edit.proofs.FoundOver.{mounted-own}
use Rattle.tree_edit.proofs.SettableLaws.{can-settable, cannot-is}

-- OF A FILE THAT IS HELD
module _ (view : VolumeView) (mounted : Mounted) (held : BaseFile) (mounts : IsMountedAs view mounted (cluster_bytes view.layout))
    (sound : IsSound view) (n : IsNodeHeld view held) where
  abbrev f : ℕ
  f = number_of held

  same-parts : parts_in held ≡ parts (records_of view) f
  same-parts = n.parts.parts

  can-is : can_secure view f ≡ (is_editable mounted held.parts && has_place_for_id view f)
  can-is =
      ap (λ b. not b && has_place_for_id view f) (cannot-is view mounted held n sound mounts.whole mounts.count)
      ∙ ap (λ b. b && has_place_for_id view f) (turned (is_editable mounted held.parts))
    where
      turned : (b : Bool) → not (not b) ≡ b
      turned true = refl
      turned false = refl

  pub not-editable : is_editable mounted held.parts ≡ false → can_secure view f ≡ false
  not-editable e = can-is ∙ ap (λ b. b && has_place_for_id view f) e

  pub too-short : is_editable mounted held.parts ≡ true → length (standard_of (parts_in held)) < 72 → can_secure view f ≡ false
  too-short e less = can-is ∙ ap (λ b. b && has_place_for_id view f) e ∙ short
    where
      short : has_place_for_id view f ≡ false
      short = ap (λ (ps : List Part). nat_le 72 (length (standard_of ps))) (sym same-parts) ∙ elim (cases_Bool (nat_le 72 (length
          (standard_of (parts_in held))))) [
            | inl so ↦ let le = leb-true 72 (length (standard_of (parts_in held))) so in absurd (omega (arith, le, less))
            | inr no_so ↦ no_so
          ]

  module _ (i : ℕ) (place : HasPlaceAt held.parts i) where
    standard-is : standard_of (parts_in held) ≡ place.value
    standard-is =
        ap (λ o. unwrap_or (option_and_then (λ (part : Part). content_value part.content) o) []) place.first
        ∙ ap (λ o. unwrap_or o []) place.value_is

    has-place : has_place_for_id view f ≡ true
    has-place =
        ap (λ (ps : List Part). nat_le 72 (length (standard_of ps))) (sym same-parts) ∙ ap (λ value. nat_le 72 (length value)) standard-is
        ∙ le-leb 72 (length place.value) place.long

    pub place-secured : is_editable mounted held.parts ≡ true → can_secure view f ≡ true
    place-secured e = can-is ∙ and_from (is_editable mounted held.parts) (has_place_for_id view f) e has-place

    -- THE FILE was found so
    pub found-securable : (bytes : List ℕ) → IsVolumeOf bytes view → is_editable mounted held.parts ≡ true → (found : Securable)
        → found.number ≡ f → found.part ≡ i → found.times ≡ standard_times (standard_of (parts_in held))
        → found.flags ≡ standard_flags (standard_of (parts_in held)) → IsSecurable view found
    unfolding node_by
    found-securable bytes volume e found number part times flags =
        let set : IsSettable view (record { number = f; times = found.times }) =
        can-settable view mounted held n sound mounts.whole mounts.count bytes found.times volume e times in
        let node : set.can.node ≡ node_by view n.base (parts_in held) =
        let a = set.can.can.there in let b = sym (node_of-read view f) ∙ n.node in cc in
        subst (λ (s : Securable). IsSecurable view s)
        (ap (λ k. record { number = k; part = i; times = found.times; flags = found.flags }) (sym number)
        ∙ ap (λ k. record { number = found.number; part = k; times = found.times; flags = found.flags }) (sym part))
        (record {
          settable = set;
          secure = record {
            can = set.can;
            part = place.part;
            at = ap (λ (ps : List Part). slice_get ps i) (sym same-parts) ∙ place.at;
            standard = (find-found (is_of STANDARD_INFORMATION []) (parts_in held) place.part place.first).1;
            value = place.value;
            value_is = place.value_is;
            long = place.long;
          };
          flags = flags ∙ ap (λ (it : Node). it.flags) (sym node);
        })

-- what a volume tells of an id is one
one-whether : (v : VolumeView) (id : ℕ) (a b : Bool) → TellsWhether v id a → TellsWhether v id b → a ≡ b
one-whether v id true true x y = refl
one-whether v id false false x y = refl
one-whether v id true false x y = absurd (y x.0 x.1)
one-whether v id false true x y = absurd (x y.0 y.1)

-- OVER WHAT THE CALLS READ: a path was walked, and the id sought.
module _ {D : Type 0} (g : Ghosts D) (old mid new : Mft D g) (path : List (List ℕ)) (id : ℕ) (reached : Reached)
    (walked : Answered g old mid (λ v. resolve (read v) path) (Ok reached.found))
    (number : number_of reached.held ≡ found_file reached.found)
    (described : Bool) (tells_so : IsTrue (view g old).told → TellsWhether (view g old) id described) where
  abbrev wanted : VolumeView → Result ℕ No
  wanted v = secure_wanted v described path

  mid-tells : IsTrue (view g mid).told → TellsWhether (view g mid) id described
  mid-tells = told-kept (λ v. TellsWhether v id described) walked.only tells_so

  pub described-failed : (why : Stop) → Finds g mid new (λ v there. TellsWhether v id there) (Err why)
      → Answered {A = ℕ} g old new wanted (Err why)
  described-failed why call =
      follows g (λ v. resolve (read v) path) (λ v found. secure_in v described (found_file found)) reached.found (Err why) walked
      (tells call refl (λ told failed. says-failed (secure_in (view g mid) described (found_file reached.found)) why failed))

  pub not-described : Finds g mid new (λ v there. TellsWhether v id there) (Ok false)
      → Answered {A = ℕ} g old new wanted (Err (stop.No no.NoSecurity))
  not-described call =
      follows g (λ v. resolve (read v) path) (λ v found. secure_in v described (found_file found)) reached.found (Err
      (stop.No no.NoSecurity))
      walked
      (tells call refl (λ told is.
      let none = one-whether (view g mid) id described false (mid-tells told) is in
      inl (ap (λ b. if not b then Err no.NoSecurity else if can_secure (view g mid) (found_file reached.found) then Ok
      (found_file reached.found) else Err no.Unbuilt) none)))

  module _ (call : Finds g mid new (λ v there. TellsWhether v id there) (Ok true)) where
    abbrev file : ℕ
    file = found_file reached.found

    as-can : IsTrue (view g mid).told → TellsWhether (view g mid) id true → (b : Bool) → can_secure (view g mid)
        (number_of reached.held) ≡ b
        → secure_in (view g mid) described file ≡ (if b then Ok file else Err no.Unbuilt)
    as-can told is b e =
        let some = one-whether (view g mid) id described true (mid-tells told) is in
        ap (λ d. if not d then Err no.NoSecurity else if can_secure (view g mid) file then Ok file else Err no.Unbuilt) some
        ∙ ap (λ k. if can_secure (view g mid) k then Ok file else Err no.Unbuilt) (sym number)
        ∙ ap (λ c. if c then Ok file else Err no.Unbuilt) e

    pub secure-refused : (refused : No) → (IsTrue (view g mid).told → DecidesSecure (view g mid) reached.held (Err refused))
        → Answered {A = ℕ} g old new wanted (Err (stop.No refused))
    secure-refused refused decides =
        follows g (λ v. resolve (read v) path) (λ v found. secure_in v described (found_file found)) reached.found (Err
        (stop.No refused)) walked
        (tells call refl (λ told is. elim (decides told) [
          | inl (none, same) ↦ inl (as-can told is false none ∙ ap Err (sym same))
          | inr memory ↦ inr memory
        ]))

    pub secure-found : (found : Securable) → (IsTrue (view g mid).told → DecidesSecure (view g mid) reached.held (Ok found))
        → Answered g old new wanted (Ok found.number)
    secure-found found decides =
        follows g (λ v. resolve (read v) path) (λ v found. secure_in v described (found_file found)) reached.found (Ok found.number) walked
        (tells call refl (λ told is. let d = decides told in as-can told is true d.0 ∙ ap Ok (sym (d.1 ∙ number))))

-- what two calls read
pub reads-then : {D : Type 0} (g : Ghosts D) (old mid new : Mft D g) (m n : ℕ) → MftReads g old mid m → MftReads g mid new n
    → (reads : ℕ) × MftReads g old new reads
reads-then g old mid new m n first next = (m + n, MftReads-then g _ _ _ _ _ _ first next (le_refl _))

-- WHAT IS DECIDED of a file that is held, on each volume of these tables, is so of the volume between them.
pub decides-mid : {D : Type 0} (g : Ghosts D) (old mid new : Mft D g) (m n : ℕ) (volume : IsInUse g old) (first : MftReads g old mid m)
    (next : MftReads g mid new n) (mounted : Mounted) (mounts : mounted ≡ mounted_of g new) (held : BaseFile)
    (held_is : IsTrue (view g old).told → IsNodeHeld (view g old) held) (P : VolumeView → Type 0)
    → ((v : VolumeView) → IsMountedAs v mounted (cluster_bytes v.layout) → IsSound v → IsNodeHeld v held → P v)
    → IsTrue (view g mid).told → P (view g mid)
decides-mid g old mid new m n volume first next mounted mounts held held_is P decides told =
    let in_use = in-use-kept first volume in
    decides (view g mid) (mounted-own g mid new in_use mounted mounts n next told) (in_use told).sound
    (told-kept (λ v. IsNodeHeld v held) first held_is told)
