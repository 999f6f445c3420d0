-- WHAT A COMMAND OWES whose edit is a rewrite: lists, the log, gains, names, and the keys of $R and $O.
use Rattle.std.proofs.Common.{◌≡◌, ◌%◌, ◌<◌, ◌==◌, ◌&&◌, ◌||◌, not, ℕ, Bool, true, false, List, []}
use Rattle.std.proofs.Common.{length, Option, Some, None, filter, map, refl, sym, ap, subst, inl, inr, ◌∙◌, arith, if◌then◌else◌}
use mathlib.Core.Path.{fun_ext}
use Rattle.std.proofs.lemmas.Bool.{eqb-true}
use Rattle.std.specs.List.{Contains, find, list_any, range_with_len}
use Rattle.std.specs.Option.{option_and_then}
use Rattle.std.specs.Prelude.{is_some, nat_le, slice_index}
use Rattle.std.specs.Str.{bytes_eq}
use Rattle.ntfs_def.specs.AttributeList.{list_entries}
use Rattle.ntfs_def.specs.Node.{short_node}
use Rattle.ntfs_def.specs.Units.{units_in, wide}
use Rattle.ntfs_def.specs.declared.index.NodeForm.TheVariants.{View}
use Rattle.ntfs_def.specs.declared.kinds.TheConstants.{ATTRIBUTE_LIST, BITMAP, DATA, FILE_NAME, INDEX_ALLOCATION, INDEX_ROOT}
use Rattle.ntfs_def.specs.declared.records.TheConstants.{FIRST_ORDINARY, LOG_FILE, MFT}
use Rattle.ntfs_def.specs.declared.run_text.Spot.TheVariants.{At}
use Rattle.volume_def.specs.Files.{Part, content_value, parts, parts_at, records_of}
use Rattle.volume_def.specs.FileNames.{names_of}
use Rattle.volume_def.specs.IndexesClause.{HasIndex, index_parts, is_in_extend, word_rule}
use Rattle.volume_def.specs.ListsClause.{is_list}
use Rattle.volume_def.specs.Readable.{IsReadableVolume}
use Rattle.volume_def.specs.Table.{TableLayout, cluster_bytes}
use Rattle.volume_def.specs.Values.{first_part, spot_at, value_of_parts}
use Rattle.volume_def.specs.View.{VolumeView}
use Rattle.volume_def.proofs.ValueLaws.{spot_at-owned, value-frame}
use Rattle.list_laws.proofs.FilterLaws.{filter-all}
use Rattle.list_laws.proofs.MemberLaws.{Contains-from_filter, filter-map}
use Rattle.list_laws.proofs.SameItemsLaws.{SameItems-same}
use Rattle.volume_edits.specs.Owners.{HasOwners}
use Rattle.session_def.specs.IndexRoom.{Index, extend_file, extend_index, if_there, root_of}
use Rattle.session_def.specs.StreamRoom.{is_cluster, parts_named}
use Rattle.session_def.specs.Link.{Link}
use Rattle.session_def.specs.Edited.{is_room_key}
use Rattle.session_def.specs.EditDefKept.{KeepsBut, Key, either, is_name_told, key_of}
use Rattle.session_def.specs.ListOrder.{KeepsListOrder, entries_of}
use Rattle.ntfs_def.specs.ListOrder.{AreInOrder}
use Rattle.volume_def.specs.CaseClause.{volume_fold}
use Rattle.session_def.specs.Names.{HasRightBases, Numbers, numbers_at}
use Rattle.session_def.proofs.IndexLaws.{index-same}
use Rattle.session_def.specs.Done.{IsGained}
use Rattle.session_def.specs.Kept.{KeepsKeys, KeepsNamesBut, is_any, with_data}
use Rattle.session_def.specs.Room.{KeepsLogEnd}
use Rattle.in_place.specs.Blank.{blank_part}
use Rattle.in_place.specs.InPlace.{Rewrites}
use Rattle.in_place.specs.Unnamed.{NamesNoIndex}
use Rattle.in_place.proofs.BlankLaws.{blank-spot}
use Rattle.in_place.proofs.OtherClusters.{clusters-kept, part-kept}
use Rattle.in_place.proofs.OtherParts.{at-other, passed-same}
use Rattle.in_place.proofs.PlacesSame.{names-same, told-passed}
use Rattle.in_place.proofs.RoomSame.{numbers-same}
use Rattle.in_place.proofs.SameRecords.{parts-same, spots-same}

module _ (changed : Key → Bool) (old new : VolumeView) (w : Rewrites changed old new) where
  size-same : cluster_bytes new.layout ≡ cluster_bytes old.layout
  size-same = ap cluster_bytes w.layout

  -- NO CLUSTER is gained, of a stream that is told by its type and the units of its name either.
  pub none-gained : (f kind : ℕ) (name : List ℕ) (vcn : ℕ) → IsGained (parts_at old f kind name) (parts_at new f kind name) vcn → ⊥
  none-gained f kind name vcn gained =
      let never : true ≡ false = sym gained.0 ∙ ap is_cluster (spots-same changed old new w f kind name vcn) ∙ gained.1 in
      cc

  named-spots : (f : ℕ) (name : List ℕ) (vcn : ℕ) → spot_at (parts_named new f name) vcn ≡ spot_at (parts_named old f name) vcn
  named-spots f name vcn =
      let p : Part → Bool = λ part. (part.kind == DATA) && bytes_eq (units_in part.name) name in
      sym (blank-spot (parts_named new f name) vcn)
      ∙ ap (λ xs. spot_at xs vcn) (sym (filter-map blank_part p (parts (records_of new) f)) ∙ ap (filter p) (parts-same changed old new w f)
      ∙ filter-map blank_part p (parts (records_of old) f))
      ∙ blank-spot (parts_named old f name) vcn

  pub none-gained_named : (f : ℕ) (name : List ℕ) (vcn : ℕ) → IsGained (parts_named old f name) (parts_named new f name) vcn → ⊥
  none-gained_named f name vcn gained =
      let never : true ≡ false = sym gained.0 ∙ ap is_cluster (named-spots f name vcn) ∙ gained.1 in
      cc

  -- NUMBERS of sequence, and names
  pub sequence-same : (f : ℕ) (was now : Numbers) → numbers_at (records_of old) f ≡ Some was → numbers_at (records_of new) f ≡ Some now
      → now.sequence ≡ was.sequence
  sequence-same f was now at bt = ap (λ (n : Numbers). n.sequence) (some-numbers now was (sym bt ∙ numbers-same changed old new w f ∙ at))
    where
      some-numbers : (a b : Numbers) → ◌≡◌ {A = Option Numbers} (Some a) (Some b) → a ≡ b
      some-numbers a b e = cc

  pub names-but : (gone : List Link) (f : ℕ) → ((name : List ℕ) → changed (key_of f FILE_NAME name) ≡ false) → KeepsNamesBut gone old new f
  names-but gone f free told there stays =
      let same = told-passed changed old new w f is_name_told (λ t is.
      ap (λ kind. changed (key_of f kind t.name)) (eqb-true t.kind FILE_NAME is) ∙ free t.name) in
      subst (λ xs. Contains xs told) (sym same) there

  module _ (o : HasOwners old) (some : 0 < old.layout.cluster_sectors) where
    -- LISTS stay in order, where none is named.
    list-clusters : (f : ℕ) → ((name : List ℕ) → changed (key_of f ATTRIBUTE_LIST name) ≡ false) → (vcn c : ℕ)
        → spot_at (filter is_list (parts (records_of old) f)) vcn ≡ At c → new.cluster c ≡ old.cluster c
    list-clusters f free vcn c at =
        let owned = spot_at-owned (filter is_list (parts (records_of old) f)) vcn c at in
        let its = Contains-from_filter is_list (parts (records_of old) f) owned.0 owned.1 in
        let k = eqb-true owned.0.kind ATTRIBUTE_LIST its.1 in
        part-kept changed old new w o some f owned.0 c its.0 (ap (λ kind. changed (key_of f kind owned.0.name)) k
        ∙ free owned.0.name) owned.2
        (inl (λ e. let q = sym k ∙ e in omega (arith, q)))

    pub entries-same : (f : ℕ) → ((name : List ℕ) → changed (key_of f ATTRIBUTE_LIST name) ≡ false) → entries_of new f ≡ entries_of old f
    entries-same f free =
        ap list_entries (ap (λ (l : TableLayout). value_of_parts new.cluster (cluster_bytes l) (filter is_list (parts
        (records_of new) f))) w.layout
        ∙ ap (value_of_parts new.cluster (cluster_bytes old.layout)) (passed-same changed old new w f is_list (λ part is.
        ap (λ kind. changed (key_of f kind part.name)) (eqb-true part.kind ATTRIBUTE_LIST is) ∙ free part.name))
        ∙ value-frame old.cluster new.cluster (cluster_bytes old.layout) (filter is_list (parts (records_of old) f)) (list-clusters f free))

    pub order-kept : (f : ℕ) → ((name : List ℕ) → changed (key_of f ATTRIBUTE_LIST name) ≡ false) → KeepsListOrder old new f
    order-kept f free right = subst (AreInOrder (volume_fold old)) (sym (entries-same f free)) right

    -- THE LOG, where it is not named
    pub log_end-kept : changed (key_of LOG_FILE DATA []) ≡ false → KeepsLogEnd old new
    log_end-kept free i cluster behind at =
        ap (λ bytes. slice_index bytes (i % cluster_bytes old.layout))
        (clusters-kept changed old new w o some LOG_FILE DATA [] free (inr ((λ q. omega (arith, q)), (λ q. omega (arith, q)))) _ cluster at)

  -- THE INDEX of a name in $Extend, where neither names nor its root are named
  module _ (units name : List ℕ) (names : (f : ℕ) (n : List ℕ) → changed (key_of f FILE_NAME n) ≡ false)
      (roots : (f : ℕ) → changed (key_of f INDEX_ROOT (wide name)) ≡ false) where
    file-found : extend_file new units ≡ extend_file old units
    file-found =
        ap (λ (l : TableLayout). find (λ f. nat_le FIRST_ORDINARY f && list_any (is_in_extend units) (names_of (records_of new) f))
        (range_with_len 0 l.count)) w.layout
        ∙ ap (λ p. find p (range_with_len 0 old.layout.count)) (fun_ext (λ f.
        ap (λ all. nat_le FIRST_ORDINARY f && list_any (is_in_extend units) all) (names-same changed old new w f (names f))))

    there-same : (f : ℕ) → if_there new (record { file = f; form = View; name = wide name })
        ≡ if_there old (record { file = f; form = View; name = wide name })
    there-same f =
        ap (λ xs. if is_some (option_and_then (λ (part : Part). option_and_then (short_node View) (content_value part.content))
        (first_part xs))
        then Some (record { file = f; form = View; name = wide name }) else None) (at-other changed old new w f INDEX_ROOT (wide name)
        (roots f))

    pub index-found : extend_index new units name ≡ extend_index old units name
    index-found =
        ap (option_and_then (λ f. if_there new (record { file = f; form = View; name = wide name }))) file-found
        ∙ ap (λ g. option_and_then g (extend_file old units)) (fun_ext there-same)

    named-so : (at : Index) → extend_index old units name ≡ Some at → at.name ≡ wide name
    named-so at e = by (extend_file old units) e
      where
        last : (b : Bool) (f : ℕ) → (if b then Some (record { file = f; form = View; name = wide name }) else None) ≡ Some at
            → at.name ≡ wide name
        last true f e = let same : record { file = f; form = View; name = wide name } ≡ at = cc in sym (ap (λ (i : Index). i.name) same)
        last false f e = cc

        by : (found : Option ℕ) → option_and_then (λ f. if_there old (record { file = f; form = View; name = wide name })) found ≡ Some at
            → at.name ≡ wide name
        by None e = cc
        by (Some f) e = last (is_some (root_of old (record { file = f; form = View; name = wide name }))) f e

    -- ITS KEYS are those that were there, with their data.
    pub keys-kept : (rest : KeepsBut (either is_room_key changed) old new) → HasRightBases (records_of old) → IsReadableVolume old
        → IsReadableVolume new
        → NamesNoIndex changed (wide name) → (length (wide name) == 0) ≡ false
        → KeepsKeys old (extend_index old units name) new (extend_index new units name) [] None
    keys-kept rest bases readable readable_new free long was has =
        let called = named-so has.at has.there in (
          was,
          record {
            at = has.at;
            there = index-found ∙ has.there;
            has = subst (λ name. HasIndex View word_rule new (index_parts new has.at.file name) was) (sym called)
                (index-same (either is_room_key changed) old new rest size-same bases readable readable_new has.at.file (wide name)
                (free has.at.file INDEX_ROOT refl) (free has.at.file INDEX_ALLOCATION refl)
                (bits-free has.at.file) View word_rule was
                (subst (λ name. HasIndex View word_rule old (index_parts old has.at.file name) was) called has.has));
          },
          record {
            come = [];
            comes = refl;
            items = SameItems-same _ _ (ap (map with_data) (filter-all (λ item. not (is_any [] item)) was (λ item c. refl)));
          },
        )
      where
        bits-free : (f : ℕ) → either is_room_key changed (key_of f BITMAP (wide name)) ≡ false
        bits-free f =
            let room : is_room_key (key_of f BITMAP (wide name)) ≡ false = ap (λ b. (b && (f == MFT)) || false) long in
            ap (λ r. r || changed (key_of f BITMAP (wide name))) room ∙ free f BITMAP refl
