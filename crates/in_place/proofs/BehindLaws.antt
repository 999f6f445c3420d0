-- WHAT COMES BEHIND A REWRITE, as the first mark does: what it keeps of the volume as the rewrite left it, both keep.
use Rattle.std.proofs.Common.{◌≡◌, ◌+◌, ◌*◌, ◌/◌, ◌%◌, ◌<◌, ◌≤◌, ◌&&◌, ℕ, Bool, false, cond, ltb, List, [], Some, None, sym, ap, subst, ◌∙◌}
use Rattle.std.proofs.Common.{if◌then◌else◌, not}
use mathlib.Core.Path.{fun_ext}
use Rattle.std.specs.Option.{option_map_or}
use Rattle.std.specs.Prelude.{is_some, slice_index}
use Rattle.ntfs_def.specs.Flags.{is_packed}
use Rattle.ntfs_def.specs.declared.kinds.TheConstants.{DATA}
use Rattle.ntfs_def.specs.declared.records.TheConstants.{LOG_FILE}
use Rattle.volume_def.specs.Files.{Part, Record, content_extent, file_of, record_in, record_on}
use Rattle.volume_def.specs.Table.{TableLayout, cluster_bytes}
use Rattle.volume_def.specs.Values.{first_part, spot_at}
use Rattle.volume_def.specs.View.{VolumeView}
use Rattle.volume_edits.specs.Owners.{HasOwners}
use Rattle.session_def.specs.EditDefKept.{Key, key_of}
use Rattle.session_def.specs.Cost.{log_bytes, log_parts, log_size}
use Rattle.session_def.specs.Room.{KeepsBlocks, KeepsCopies, KeepsLogEnd, is_written_file}
use Rattle.in_place.specs.InPlace.{KeepsBlock, Rewrites}
use Rattle.in_place.proofs.OtherParts.{at-other}
use Rattle.in_place.proofs.OwedInPlace.{log_end-kept}
use Rattle.in_place.proofs.RoomSame.{used-same}
use Rattle.in_place.proofs.SameRecords.{spots-same}
use Rattle.in_place.proofs.UnusedSame.{block-kept, firsts-kept}

module _ (changed : Key → Bool) (old mid new : VolumeView) (w : Rewrites changed old mid) where
  record-kept : (n : ℕ) → KeepsBlock old mid n → record_on mid n ≡ record_on old n
  record-kept n kept =
      ap (λ (l : TableLayout). cond (ltb n l.count) (record_in n (mid.block n)) None) w.layout
      ∙ ap (λ block. cond (ltb n old.layout.count) (record_in n block) None) kept.block

  -- RECORDS of files that are not changed
  pub blocks-behind : (files : ℕ → Bool)
      → ((f : ℕ) → is_written_file files f ≡ false → (kind : ℕ) (name : List ℕ) → changed (key_of f kind name) ≡ false)
      → KeepsBlocks files mid new → KeepsBlocks files old new
  blocks-behind files free rest n r at other =
      let kept = block-kept changed old mid w n r at (free (file_of n r) other) in
      rest n r (record-kept n kept ∙ at) other ∙ kept.block

  -- copies
  pub copies-behind : 4 ≤ old.layout.count → ((n : ℕ) (r : Record) → n < 4 → record_on old n ≡ Some r → (kind : ℕ) (name : List ℕ)
      → changed (key_of (file_of n r) kind name) ≡ false) → KeepsCopies mid new → KeepsCopies old new
  copies-behind many free rest n few same =
      let kept = firsts-kept changed old mid w many free n few in
      rest n few (same ∙ sym kept.block) ∙ kept.copy few

  -- THE LOG as far as it is not emptied
  pub log-bytes : changed (key_of LOG_FILE DATA []) ≡ false → log_bytes mid ≡ log_bytes old
  unfolding log_bytes
  log-bytes free =
      ap (λ xs. option_map_or (log_size mid) (first_part xs) 0) (at-other changed old mid w LOG_FILE DATA [] free)
      ∙ ap (λ g. option_map_or g (first_part (log_parts old)) 0) (fun_ext (λ (part : Part).
      ap (λ b. if b && (is_some (content_extent part.content) && not (is_packed part.kind part.flags))
      then option_map_or (λ extent. extent.sizes.initialized) (content_extent part.content) 0 else 0)
      (used-same changed old mid w LOG_FILE)))

  pub log_end-behind : HasOwners old → 0 < old.layout.cluster_sectors → changed (key_of LOG_FILE DATA []) ≡ false → KeepsLogEnd mid new
      → KeepsLogEnd old new
  log_end-behind o some free rest i cluster behind at =
      let size : cluster_bytes mid.layout ≡ cluster_bytes old.layout = ap cluster_bytes w.layout in
      let past = subst (λ bytes. (bytes + 511) / 512 * 512 ≤ i) (sym (log-bytes free)) behind in
      let there = ap (λ s. spot_at (log_parts mid) (i / s)) size
      ∙ spots-same changed old mid w LOG_FILE DATA [] (i / cluster_bytes old.layout) ∙ at in
      subst (λ s. slice_index (new.cluster cluster) (i % s) ≡ slice_index (mid.cluster cluster) (i % s)) size (rest i cluster past there)
      ∙ log_end-kept changed old mid w o some free i cluster behind at
