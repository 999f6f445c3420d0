-- A LATER EDIT: the volume is marked already and its log empty, so nothing is written behind the edit.
use Rattle.std.proofs.Common.{◌≡◌, ◌<◌, ◌%◌, ◌/◌, Bool, true, false, cond, [], Some, None, inl, inr, refl, sym, ap, subst, ◌∙◌, arith}
use Rattle.std.proofs.lemmas.Bool.{lt-ltb}
use Rattle.std.specs.Prelude.{slice_index}
use Rattle.ntfs_def.specs.Attribute.{attributes, first_value}
use Rattle.ntfs_def.specs.Fixup.{opened_of}
use Rattle.ntfs_def.specs.VolumeInformation.{dirty_bit}
use Rattle.ntfs_def.specs.declared.kinds.TheConstants.{DATA, VOLUME_INFORMATION}
use Rattle.ntfs_def.specs.declared.records.TheConstants.{LOG_FILE, VOLUME}
use Rattle.ntfs_def.specs.declared.run_text.Spot.TheVariants.{At}
use Rattle.std.specs.Option.{option_map}
use Rattle.volume_def.specs.Files.{record_in, record_of, record_on}
use Rattle.volume_def.specs.Table.{cluster_bytes}
use Rattle.volume_def.specs.Values.{spot_at}
use Rattle.volume_def.specs.View.{VolumeView}
use Rattle.list_laws.proofs.SameItemsLaws.{SameItems-same}
use Rattle.edit_def.specs.Kept.{Key, key_of}
use Rattle.session_def.specs.Cost.{log_parts}
use Rattle.session_def.specs.Done.{HasEmptyLog}
use Rattle.session_def.specs.FirstMark.{IsMarkedFrom, is_first_key, is_no_key}
use Rattle.session_def.specs.State.{IsDirty, Stands, State}
use Rattle.in_place.specs.InPlace.{Rewrites, RewritesBlock}
use Rattle.in_place.specs.Unnamed.{LiesApart, NamesNoneOf}
use Rattle.in_place.proofs.BehindLaws.{log-bytes}
use Rattle.in_place.proofs.FormSame.{forms-kept}
use Rattle.in_place.proofs.KeptInPlace as keeps
use Rattle.in_place.proofs.OtherClusters.{clusters-kept}
use Rattle.in_place.proofs.PlacesSame.{in_place}
use Rattle.in_place.proofs.RewriteLaws.{Rewrites-same}
use Rattle.in_place.proofs.SameRecords.{in-use, spots-same}
use Rattle.in_place.proofs.StillApart.{apart-still}
use Rattle.in_place.specs.Behind.{MarksBehind}
use Rattle.in_place_owed.proofs.CallsOwed.{apart-of, tabled-of}
use Rattle.in_place_owed.proofs.RecordsOwed.{first-own}

-- A MARKED VOLUME with an empty log is as the first mark would leave it.
marked-itself : (view : VolumeView) → LiesApart view → IsDirty view → HasEmptyLog view → IsMarkedFrom view view
marked-itself view apart dirty empty =
    let none = Rewrites-same is_no_key view in
    let first = Rewrites-same is_first_key view in
    record {
      layout = refl;
      rest = λ k. refl;
      kept = keeps.kept is_first_key view view first apart.owners apart.some apart.unnamed;
      forms = λ f. forms-kept is_first_key view view first is_no_key f;
      places = in_place is_no_key view view none apart.owners apart.some (λ key room. refl);
      log = record { told = SameItems-same _ _ refl; spots = λ vcn. refl };
      mark = SameItems-same _ _ refl;
      numbers = λ f. refl;
      used = λ n. refl;
      bare = λ n. refl;
      owners = refl;
      in_use_is = refl;
      dirty = dirty;
      emptied = empty;
    }

module _ (before : State) (changed : Key → Bool) (staged : VolumeView) (stands : Stands before) (w : Rewrites changed before.view staged)
    (no_log : changed (key_of LOG_FILE DATA []) ≡ false) (no_volume : NamesNoneOf changed VOLUME) where
  abbrev old : VolumeView
  old = before.view

  apart : LiesApart old
  apart = apart-of before.image old stands.volume stands.sound

  -- the record of the flag was not written
  flag-kept : staged.block VOLUME ≡ old.block VOLUME
  flag-kept = elim (w.blocks VOLUME) [
    | inl kept ↦ kept.block
    | inr written ↦ absurd (none written)
  ]
    where
      none : RewritesBlock changed VOLUME (old.block VOLUME) (staged.block VOLUME) → ⊥
      none x =
          let many = (tabled-of before.image old stands.volume stands.sound).least in
          let r = record_of VOLUME (opened_of (old.block VOLUME)) in
          let there : record_on old VOLUME ≡ Some r =
          ap (λ b. cond b (record_in VOLUME (old.block VOLUME)) None) (lt-ltb VOLUME old.layout.count (omega (arith, many)))
          ∙ in-use VOLUME (old.block VOLUME) x.used in
          let its = first-own old stands.sound VOLUME r (omega arith) there in
          let named : changed (key_of VOLUME x.kind x.name) ≡ true = subst (λ f. changed (key_of f x.kind x.name) ≡ true) its x.named in
          let free = no_volume x.kind x.name in
          cc

  dirty-still : IsDirty old → IsDirty staged
  dirty-still dirty =
      ap (λ block. option_map dirty_bit (first_value VOLUME_INFORMATION (attributes (opened_of block)))) flag-kept ∙ dirty

  -- nor the log
  empty-still : HasEmptyLog old → HasEmptyLog staged
  empty-still empty i cluster inside there =
      let size : cluster_bytes staged.layout ≡ cluster_bytes old.layout = ap cluster_bytes w.layout in
      let was : spot_at (log_parts old) (i / cluster_bytes old.layout) ≡ At cluster =
      sym (spots-same changed old staged w LOG_FILE DATA [] (i / cluster_bytes old.layout))
      ∙ subst (λ s. spot_at (log_parts staged) (i / s) ≡ At cluster) size there in
      subst (λ s. slice_index (staged.cluster cluster) (i % s) ≡ 0xFF) (sym size)
      (ap (λ bytes. slice_index bytes (i % cluster_bytes old.layout))
      (clusters-kept changed old staged w apart.owners apart.some LOG_FILE DATA [] no_log
      (inr ((λ q. omega (arith, q)), (λ q. omega (arith, q)))) _ cluster was)
      ∙ empty i cluster (subst (λ bytes. i < bytes) (log-bytes changed old staged staged w no_log) inside) was)

  pub later : IsDirty old → HasEmptyLog old → MarksBehind staged staged
  later dirty empty = record {
    rewrites = Rewrites-same is_first_key staged;
    marked = marked-itself staged (apart-still changed old staged w apart) (dirty-still dirty) (empty-still empty);
    others = λ n other. record { block = refl; copy = λ few. refl };
    copy = λ same. refl;
    log_end = λ i cluster behind there. refl;
  }
