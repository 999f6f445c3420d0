-- WHAT TELLS WHERE A VOLUME LIES is left alone where a file went with its name; and the first mark costs as much where that was left alone.
use Rattle.std.proofs.Common.{◌≡◌, ◌≢◌, ◌<◌, ◌≤◌, ◌+◌, ◌/◌, ◌==◌, ◌&&◌, not, ℕ, [], Option}
use Rattle.std.proofs.Common.{false, inl, inr, refl, ap, ◌∙◌, arith, filter, if◌then◌else◌}
use mathlib.Core.Path.{fun_ext}
use Rattle.std.specs.Option.{option_map, option_map_or}
use Rattle.std.specs.Prelude.{is_some}
use Rattle.ntfs_def.specs.Attribute.{attributes, first_value}
use Rattle.ntfs_def.specs.Fixup.{opened_of}
use Rattle.ntfs_def.specs.Flags.{is_packed}
use Rattle.ntfs_def.specs.VolumeInformation.{dirty_bit}
use Rattle.ntfs_def.specs.declared.kinds.TheConstants.{DATA, VOLUME_INFORMATION}
use Rattle.ntfs_def.specs.declared.records.TheConstants.{BOOT, LOG_FILE, MFT, ROOT, VOLUME}
use Rattle.volume_def.specs.Files.{Part, Record, content_extent, is_of}
use Rattle.volume_def.specs.Values.{first_part}
use Rattle.volume_def.specs.View.{VolumeView}
use Rattle.volume_edits.proofs.OwnerLaws.{lies-outside}
use Rattle.edit_def.specs.Kept.{key_of}
use Rattle.record_edits.proofs.PlaceEdits.{part-unnamed}
use Rattle.session_def.specs.Cost.{log_bytes, log_parts, log_size}
use Rattle.session_def.specs.Done.{first_cost}
use Rattle.session_def.specs.State.{dirty_flag}
use Rattle.in_place_done.specs.Unnamed.{LiesApart}
use Rattle.in_place_done.specs.LeavesAlone.{LeavesAlone}
use Rattle.in_place_done.proofs.LeftAlone.{boot-other, has-boot}
use Rattle.made_edits.specs.Left.{is_entry_key}
use Rattle.gone_owed.specs.Left.{LeavesRest}

-- the directory is the root directory or no file of the system
pub low-apart : (old new : VolumeView) (n dir : ℕ) → LeavesRest old new n dir → (m : ℕ) → m < 24 → m ≢ ROOT → m ≢ dir
low-apart old new n dir left m low other is =
    elim left.ordinary [ inl root ↦ other (is ∙ root) | inr high ↦ omega (arith, low, is, high) ]

module _ (old new : VolumeView) (n dir : ℕ) (ordinary : 24 ≤ n) (left : LeavesRest old new n dir) (apart : LiesApart old) where
  low-other : (m : ℕ) → m < 24 → m ≢ n
  low-other m low is = omega (arith, low, is, ordinary)

  not-directory : (m : ℕ) → m < ROOT → m ≢ dir
  not-directory m low = low-apart old new n dir left m (omega (arith, low)) (λ is. omega (arith, is, low))

  log-same : log_parts new ≡ log_parts old
  log-same = ap (filter (is_of DATA []))
      (left.leaves.others LOG_FILE (low-other LOG_FILE (omega arith)) (not-directory LOG_FILE (omega arith)))

  log_bytes-same : log_bytes new ≡ log_bytes old
  unfolding log_bytes
  log_bytes-same =
      ap (λ xs. option_map_or (log_size new) (first_part xs) 0) log-same
      ∙ ap (λ g. option_map_or g (first_part (log_parts old)) 0) (fun_ext (λ (x : Part).
      ap (λ (o : Option Record). if is_some o && (is_some (content_extent x.content) && not (is_packed x.kind x.flags))
      then option_map_or (λ extent. extent.sizes.initialized) (content_extent x.content) 0 else 0)
      (left.leaves.records LOG_FILE (low-other LOG_FILE (omega arith)) (not-directory LOG_FILE (omega arith)))))

  pub gone-alone : LeavesAlone old new
  gone-alone =
      let b = has-boot old apart in
      record {
        layout = left.leaves.layout;
        table = left.leaves.blocks MFT (low-other MFT (omega arith)) (not-directory MFT (omega arith));
        volume = left.leaves.blocks VOLUME (low-other VOLUME (omega arith)) (not-directory VOLUME (omega arith));
        boot = left.leaves.clusters 0
            (lies-outside old apart.owners apart.some BOOT b.part 0 b.among b.covered (inr boot-other))
            (part-unnamed (is_entry_key dir) old apart.owners BOOT b.part 0 b.among
            (ap (λ k. is_entry_key dir (key_of BOOT k b.part.name)) b.kind ∙ ap (λ m. is_entry_key dir (key_of BOOT DATA m)) b.name ∙ refl)
            b.covered);
        log = log-same;
        emptied = log_bytes-same;
        log_clusters = left.clusters LOG_FILE DATA [] refl (inr ((λ q. omega (arith, q)), (λ q. omega (arith, q))));
      }

-- the first mark
pub alone-cost : (old new : VolumeView) → LeavesAlone old new → first_cost new ≡ first_cost old
alone-cost old new alone =
    ap (λ block. if option_map_or (λ bit. bit == 1) (option_map dirty_bit (first_value VOLUME_INFORMATION (attributes
    (opened_of block)))) false then 0 else 2 + (log_bytes new + 511) / 512) alone.volume
    ∙ ap (λ (m : ℕ). if option_map_or (λ bit. bit == 1) (dirty_flag old) false then 0 else 2 + (m + 511) / 512) alone.emptied
