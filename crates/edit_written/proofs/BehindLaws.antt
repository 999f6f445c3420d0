-- WHAT COMES BEHIND THE EDIT: the first mark, or nothing where the volume was marked already.
use Rattle.std.proofs.Common.{◌≡◌, ◌<◌, ◌%◌, ◌/◌, ℕ, Bool, true, false, List, [], Some, inl, inr, refl, sym, ap, subst, ◌∙◌}
use Rattle.std.specs.Option.{option_map}
use Rattle.std.specs.Prelude.{Option, slice_index}
use Rattle.std.proofs.lemmas.Bool.{cases_Bool}
use Rattle.vol_disk.specs.Contents.{sector_in}
use Rattle.ntfs_def.specs.Attribute.{attributes, first_value}
use Rattle.ntfs_def.specs.Fixup.{opened_of}
use Rattle.ntfs_def.specs.VolumeInformation.{dirty_bit}
use Rattle.ntfs_def.specs.declared.kinds.TheConstants.{VOLUME_INFORMATION}
use Rattle.ntfs_def.specs.declared.run_text.Spot.TheVariants.{At}
use Rattle.volume_def.specs.Sound.{IsSound, told_view}
use Rattle.volume_def.specs.Table.{TableLayout, cluster_bytes}
use Rattle.volume_def.specs.Values.{spot_at}
use Rattle.volume_def.specs.View.{VolumeView}
use Rattle.tree_model.specs.Facts.{IsVolumeOf}
use Rattle.tree_model.specs.Reading.{read}
use Rattle.session_def.specs.Cost.{log_parts}
use Rattle.session_def.specs.Done.{HasEmptyLog}
use Rattle.session_def.specs.FirstMark.{is_no_key}
use Rattle.session_def.specs.State.{IsDirty, State}
use Rattle.mark_write.specs.Flags.{IsSet}
use Rattle.mark_write.specs.declared.flag.Flag.{Flag}
use Rattle.mark_write.specs.declared.log.Span.{Span}
use Rattle.volume_mark.specs.Mark.{IsFlagOf}
use Rattle.volume_mark.proofs.LiesLaws.{flag-copied}
use Rattle.volume_mark.proofs.MarkLaws.{flag-tells}
use Rattle.value_owed.specs.Behind.{MarksBehind}
use Rattle.value_owed.proofs.RewriteLaws.{Rewrites-same}
use Rattle.first_mark.proofs.FinishedLaws.{finished}
use Rattle.value_owed.proofs.CallsOwed.{apart-of}
use Rattle.value_owed.proofs.LaterLaws.{later}
use Rattle.edit_written.specs.Finished.{IsFinished, IsPlaceOf}
use Rattle.edit_written.specs.LeavesAlone.{LeavesAlone}
use Rattle.edit_written.proofs.AgreesLaws.{none-within}
use Rattle.edit_written.proofs.FlagStays.{staged-flag}
use Rattle.edit_written.proofs.LogSpansStay.{spans-stay}
use Rattle.edit_written.proofs.OnDisk.{clusters-inside}
use Rattle.edit_written.proofs.SameBytes.{same-bytes}

-- the view of an image, told again with its layout, is itself
told-again : (image : List ℕ) (view : VolumeView) → IsVolumeOf image view → told_view (sector_in (Some image)) view.layout ≡ view
told-again image view volume =
    ap (λ (l : TableLayout). told_view (sector_in (Some image)) l) (ap (λ (v : VolumeView). v.layout) volume.is) ∙ sym volume.is

-- THE MARK AND THE EMPTY LOG of the volume before are left alone too.
dirty-still : (old new : VolumeView) → LeavesAlone old new → IsDirty old → IsDirty new
dirty-still old new alone dirty =
    ap (λ block. option_map dirty_bit (first_value VOLUME_INFORMATION (attributes (opened_of block)))) alone.volume ∙ dirty

empty-still : (old new : VolumeView) → LeavesAlone old new → HasEmptyLog old → HasEmptyLog new
empty-still old new alone empty i cluster inside there =
    let size : cluster_bytes new.layout ≡ cluster_bytes old.layout = ap cluster_bytes alone.layout in
    let was : spot_at (log_parts old) (i / cluster_bytes old.layout) ≡ At cluster =
    sym (ap (λ xs. spot_at xs (i / cluster_bytes old.layout)) alone.log)
    ∙ subst (λ s. spot_at (log_parts new) (i / s) ≡ At cluster) size there in
    subst (λ s. slice_index (new.cluster cluster) (i % s) ≡ 0xFF) (sym size)
    (ap (λ bytes. slice_index bytes (i % cluster_bytes old.layout)) (alone.log_clusters _ cluster was)
    ∙ empty i cluster (subst (λ bytes. i < bytes) alone.emptied inside) was)

-- a volume whose mark is set is dirty, and the other way round
dirty-set : (view : VolumeView) (flag : Flag) (image : List ℕ) → IsVolumeOf image view → IsSound view → IsFlagOf view flag
    → IsSet flag (sector_in (Some image)) → IsDirty view
dirty-set view flag image volume sound f set = flag-tells view flag image volume sound f ∙ ap (λ (n : ℕ). Some n) set

set-dirty : (view : VolumeView) (flag : Flag) (image : List ℕ) → IsVolumeOf image view → IsSound view → IsFlagOf view flag
    → IsDirty view → IsSet flag (sector_in (Some image))
set-dirty view flag image volume sound f dirty =
    some-same (slice_index (sector_in (Some image) flag.home) flag.at % 2) 1
    (sym (flag-tells view flag image volume sound f) ∙ dirty)
  where
    some-same : (a b : ℕ) → ◌≡◌ {A = Option ℕ} (Some a) (Some b) → a ≡ b
    some-same a b e = cc

module _ (old new : VolumeView) (before staged written : List ℕ) (flag : Flag) (marked : Bool) (spans : List Span)
    (volume : IsVolumeOf before old) (sound : IsSound old) (alone : LeavesAlone old new) (after : IsVolumeOf staged new)
    (settled : IsSound new) (place : IsPlaceOf old before flag marked spans) (f : IsFinished flag marked spans staged written) where
  flag-new : IsFlagOf new flag
  flag-new = staged-flag old new flag alone place.flag_is

  first-behind : marked ≡ false → MarksBehind new (told_view (sector_in (Some written)) new.layout)
  first-behind fresh =
      finished new flag spans staged written after settled flag-new (apart-of staged new after settled) (clusters-inside staged new after)
      (spans-stay old new alone spans (place.spans_are fresh)) f.long f.same f.set f.copied (f.emptied fresh)

  -- the volume that was staged, as a state
  abbrev state : State
  state = record { image = staged; view = new; machine = record { tree = read new; opens = []; now = 0 }; written = 0 }

  none-behind : marked ≡ true → MarksBehind new new
  none-behind was =
      later state is_no_key new (record { volume = after; sound = settled; reading = refl }) (Rewrites-same is_no_key new) refl
      (λ kind name. refl) (dirty-still old new alone (dirty-set old flag before volume sound place.flag_is (place.set was)))
      (empty-still old new alone (place.log was))

  written-same : marked ≡ true → written ≡ staged
  written-same was =
      let set = set-dirty new flag staged after settled flag-new (none-behind was).marked.dirty in
      same-bytes flag staged written f.long (λ n. f.same n (none-within spans (place.none was) n)) set
      (flag-copied new flag staged after settled flag-new set) f.set f.copied

  later-behind : marked ≡ true → MarksBehind new (told_view (sector_in (Some written)) new.layout)
  later-behind was =
      subst (MarksBehind new)
      (sym (ap (λ bytes. told_view (sector_in (Some bytes)) new.layout) (written-same was) ∙ told-again staged new after)) (none-behind was)

  pub behind : MarksBehind new (told_view (sector_in (Some written)) new.layout)
  behind = elim (cases_Bool marked) [
    | inl was ↦ later-behind was
    | inr fresh ↦ first-behind fresh
  ]
