-- WHAT IS LEFT ALONE where one stream was edited, in the base record of a file that is not the table of case: first clusters are given back
-- and taken, then bytes are put into its clusters, and then its record is edited.
use Rattle.std.proofs.Common.{◌≡◌, ◌≢◌, ◌<◌, ◌&&◌, not, is_some, if◌then◌else◌, ℕ, Bool, false, [], ◌∷◌}
use Rattle.std.proofs.Common.{inr, filter, refl, sym, ap, ◌∙◌, arith}
use Rattle.std.specs.Option.{option_map_or, option_to_list}
use Rattle.ntfs_def.specs.Flags.{is_packed}
use Rattle.ntfs_def.specs.declared.kinds.TheConstants.{DATA}
use Rattle.ntfs_def.specs.declared.records.TheConstants.{BOOT, LOG_FILE, MFT, ROOT, SECURE, VOLUME}
use Rattle.volume_def.specs.Edits.{EditsAt}
use Rattle.volume_def.specs.Files.{Part, Records, content_extent, is_of, parts, record_on, records_of}
use Rattle.volume_def.specs.Sound.{IsSound}
use Rattle.volume_def.specs.Values.{first_part}
use Rattle.volume_def.specs.View.{VolumeView}
use Rattle.volume_def.proofs.RecordLaws.{parts-other}
use Rattle.volume_edits.proofs.OwnerLaws.{lies-outside, owned-once}
use Rattle.edit_def.specs.Kept.{Key, key_of, same_key}
use Rattle.record_edits.specs.InPlace.{WritesInPlace, is_bits_key}
use Rattle.record_edits.specs.RecordEdit.{parts_made}
use Rattle.record_edits.proofs.BlockEdits.{apart-from, attribute-stays, base-file, edit-of}
use Rattle.record_edits.proofs.PlaceEdits.{clusters-kept, part-unnamed, same}
use Rattle.session_def.specs.Cost.{log_bytes, log_parts, log_size}
use Rattle.value_owed.specs.Unnamed.{LiesApart}
use Rattle.value_owed.specs.Below.{EditsAlone}
use Rattle.value_owed.proofs.Below as below
use Rattle.value_owed.proofs.ValueSame.{other-file}
use Rattle.edit_written.specs.LeavesAlone.{LeavesAlone}
use Rattle.edit_written.proofs.LeftAlone.{boot-other, both, has-boot}

-- as many bytes of the log are emptied where its record and its parts are the same
log-same : (old new : VolumeView) → record_on new LOG_FILE ≡ record_on old LOG_FILE → log_parts new ≡ log_parts old
    → log_bytes new ≡ log_bytes old
unfolding log_bytes
log-same old new there same =
    ap (λ xs. option_map_or (log_size new) (first_part xs) 0) same
    ∙ ap (λ r. option_map_or (λ (part : Part).
    if is_some r && (is_some (content_extent part.content) && not (is_packed part.kind part.flags))
    then option_map_or (λ extent. extent.sizes.initialized) (content_extent part.content) 0 else 0) (first_part (log_parts old)) 0) there

-- BYTES IN CLUSTERS change no record, and no cluster but those of the attributes that are named.
in-place-alone : (changed : Key → Bool) (old new : VolumeView) → LiesApart old → WritesInPlace changed old new
    → changed (key_of BOOT DATA []) ≡ false → changed (key_of LOG_FILE DATA []) ≡ false → LeavesAlone old new
in-place-alone changed old new apart w no_boot no_log =
    let b = has-boot old apart in
    let records = same changed old new w in
    let log : log_parts new ≡ log_parts old = ap (λ (r : Records). filter (is_of DATA []) (parts r LOG_FILE)) records in
    record {
      layout = w.layout;
      table = w.blocks MFT;
      volume = w.blocks VOLUME;
      boot = w.clusters 0
          (let owned = owned-once old BOOT b.part 0 b.among in let covered = b.covered in omega (arith, owned, covered))
          (part-unnamed changed old apart.owners BOOT b.part 0 b.among
          (ap (λ k. changed (key_of BOOT k b.part.name)) b.kind ∙ ap (λ n. changed (key_of BOOT DATA n)) b.name ∙ no_boot) b.covered);
      log = log;
      emptied = log-same old new (ap (λ (r : Records). r.record_at LOG_FILE) records) log;
      log_clusters = clusters-kept changed old new w apart.owners LOG_FILE DATA [] no_log;
    }

-- THE RECORD THEN
module _ (key : Key) (old new : VolumeView) (sound : IsSound old) (apart : LiesApart old) {gains : ℕ → Bool}
    (e : EditsAlone key gains old new) where
  abbrev mid : VolumeView
  mid = e.mid

  apart-mid : LiesApart mid
  apart-mid = below.apart-mid key old new sound apart e

  abbrev edit : EditsAt (records_of mid) (records_of new) key.file (parts_made key.file (e.was ∷ []))
      (parts_made key.file (option_to_list e.now))
  edit = edit-of mid new key.file e.stored (e.was ∷ []) (option_to_list e.now) e.block

  -- a file of the system other than the root is not edited
  system : (m : ℕ) → m < SECURE → m ≢ ROOT → m ≢ key.file
  system m low other same = apart-from key.file m e.one.may low other (sym same)

  log-file : LOG_FILE ≢ key.file
  log-file = system LOG_FILE (omega arith) (λ z. omega (arith, z))

  log : log_parts new ≡ log_parts mid
  log =
      ap (filter (is_of DATA []))
      (parts-other (records_of mid) (records_of new) key.file LOG_FILE (parts_made key.file (e.was ∷ []))
      (parts_made key.file (option_to_list e.now)) edit
      (λ same. log-file (sym same ∙ base-file key.file edit.was_record (below.one-mid key old new sound apart e).base)))

  record-alone : LeavesAlone mid new
  record-alone =
      let b = has-boot mid apart-mid in
      record {
        layout = e.block.replaces.layout;
        table = e.block.replaces.blocks MFT (system MFT (omega arith) (λ z. omega (arith, z)));
        volume = e.block.replaces.blocks VOLUME (system VOLUME (omega arith) (λ z. omega (arith, z)));
        boot = e.block.replaces.clusters 0
            (lies-outside mid apart-mid.owners apart-mid.some BOOT b.part 0 b.among b.covered (inr boot-other));
        log = log;
        emptied = log-same mid new (edit.changes.others LOG_FILE log-file) log;
        log_clusters = attribute-stays mid new e.block.replaces.clusters apart-mid.owners apart-mid.some apart-mid.unnamed LOG_FILE DATA []
            refl;
      }

  -- BEFORE IT
  free : (m : ℕ) → m < SECURE → m ≢ ROOT → same_key key (key_of m DATA []) ≡ false
  free m low other = other-file key old new sound apart e m DATA [] (λ same. system m low other (sym same))

  prepared-alone : LeavesAlone old mid
  prepared-alone =
      let p = e.prepares in
      both old p.flagged mid
      (both old p.freed p.flagged (in-place-alone is_bits_key old p.freed apart p.gives.writes refl refl)
      (in-place-alone is_bits_key p.freed p.flagged (below.apart-freed key old new sound apart e) p.takes.writes refl refl))
      (in-place-alone (same_key key) p.flagged mid (below.apart-flagged key old new sound apart e) p.fills
      (free BOOT (omega arith) (λ z. omega (arith, z))) (free LOG_FILE (omega arith) (λ z. omega (arith, z))))

  -- BOTH
  pub value-edited : LeavesAlone old new
  value-edited = both old mid new prepared-alone record-alone
