-- A sound volume tells facts. All but the descriptors are said by the view; the descriptor of an id is sought among the items of $SII.
use Rattle.std.proofs.Common.{◌≡◌, ◌⊎◌, ◌<◌, ◌≤◌, ◌+◌, ◌&&◌, ℕ, Bool, true, false, eqb, leb, eqb-true, eq-eqb, leb-true, le-leb}
use Rattle.std.proofs.Common.{List, Option, Some, None, length, take, refl, sym, ap, inl, inr, ◌∙◌, arith}
use Rattle.std.proofs.lemmas.List.{length-map}
use Rattle.std.proofs.lemmas.Bool.{and_from, and_parts, both_ways, cases_lt}
use Rattle.std.proofs.lemmas.List.Folds.{Any-from_list_any, list_any-from_Any}
use Rattle.std.proofs.lemmas.Slice.Eq.{bytes_eq-Decides}
use Rattle.std.specs.List.{Contains, list_any}
use Rattle.std.specs.Prelude.{IsSomeAnd, codes, is_some, slice_range}
use Rattle.std.specs.Str.{bytes_eq}
use Rattle.vol_bytes.specs.Field.{u32_at, u64_at}
use Rattle.ntfs_def.specs.Flags.{is_packed}
use Rattle.ntfs_def.specs.Node.{Item}
use Rattle.ntfs_def.specs.Units.{wide}
use Rattle.ntfs_def.specs.declared.index.NodeForm.TheVariants.{View}
use Rattle.ntfs_def.specs.declared.records.TheConstants.{SECURE}
use Rattle.volume_def.specs.Files.{Part, content_value, record_on}
use Rattle.volume_def.specs.IndexesClause.{IndexParts, IsViewIndex, MeetsIndexes, id_rule, index_parts}
use Rattle.volume_def.specs.Sound.{Indexes, IsSound}
use Rattle.volume_def.specs.Values.{IsPlain, first_part, value_on}
use Rattle.volume_def.specs.View.{VolumeView}
use Rattle.tree_model.specs.Bill.{bill_of}
use Rattle.tree_model.specs.Facts.{HasDescriptor, TellsDescriptor, TellsFacts, is_whole_table, sds_parts}
use Rattle.ntfs_def.specs.ViewData.{item_data}
use Rattle.tree_model.specs.IndexRoom.{Index}
use Rattle.tree_model.specs.NoRoom.{no_room_for}
use Rattle.tree_model.specs.Refusals.{Facts}
use Rattle.tree_model.specs.Staging.{is_built_for}
use Rattle.volume_def.specs.Room.{unowned_clusters, unused_records}
use Rattle.tree_model.proofs.IndexRoomLaws.{entry-walk}

-- the index of the ids, and the stream $SDS
abbrev ids : Index
ids = record { file = SECURE; form = View; name = wide (codes "$SII") }

abbrev ids_on : VolumeView → IndexParts
ids_on view = index_parts view ids.file ids.name

abbrev sds : VolumeView → List ℕ
sds view = value_on view (sds_parts view)

-- what the data of an item says: where in $SDS the header of its descriptor stands, and the bytes with the header
abbrev offset_of : Item → ℕ
offset_of item = u64_at (item_data item) 8

abbrev size_of : Item → ℕ
size_of item = u32_at (item_data item) 16

abbrev descriptor_by : VolumeView → Item → List ℕ
descriptor_by view item = slice_range (sds view) (offset_of item + 20) (offset_of item + size_of item)

-- the item has this id, and what its data says is right
tells_id : VolumeView → ℕ → Item → Bool
tells_id view id item =
    eqb (u32_at item.key 0) id
    && (leb 20 (length (item_data item))
    && (leb 20 (size_of item)
    && (leb (size_of item) 65556
    && (leb (offset_of item + size_of item) (length (sds view))
    && bytes_eq (slice_range (sds view) (offset_of item) (offset_of item + 20)) (take 20 (item_data item))))))

-- such an item tells the descriptor of the id ..
told-by : (view : VolumeView) (id : ℕ) → IsPlain (sds_parts view) → (index : IsViewIndex view id_rule (ids_on view)) (item : Item)
    → Contains index.items item → tells_id view id item ≡ true
    → HasDescriptor view id (descriptor_by view item)
unfolding tells_id
told-by view id plain index item among tells =
    let key = and_parts (eqb (u32_at item.key 0) id) _ tells in
    let long = and_parts (leb 20 (length (item_data item))) _ key.1 in
    let least = and_parts (leb 20 (size_of item)) _ long.1 in
    let most = and_parts (leb (size_of item) 65556) _ least.1 in
    let inside = and_parts (leb (offset_of item + size_of item) (length (sds view))) _ most.1 in
    record {
      plain = plain;
      index = index;
      item = item;
      among = among;
      key = eqb-true (u32_at item.key 0) id key.0;
      long = leb-true 20 (length (item_data item)) long.0;
      offset = offset_of item;
      offset_is = refl;
      size = size_of item;
      size_is = refl;
      least = leb-true 20 (size_of item) least.0;
      most = leb-true (size_of item) 65556 most.0;
      inside = leb-true (offset_of item + size_of item) (length (sds view)) inside.0;
      header = (bytes_eq-Decides (slice_range (sds view) (offset_of item) (offset_of item + 20)) (take 20 (item_data item))).0 inside.1;
      is = refl;
    }

-- .. and only such an item does
tells-right : (view : VolumeView) (id : ℕ) (bytes : List ℕ) → (x : HasDescriptor view id bytes) → tells_id view id x.item ≡ true
unfolding tells_id
tells-right view id bytes x =
    let item = x.item in
    let header = ap (λ at. slice_range (sds view) at (at + 20)) (sym x.offset_is) ∙ x.header in
    and_from _ _ (eq-eqb (u32_at item.key 0) id x.key)
    (and_from _ _ (le-leb 20 (length (item_data item)) x.long)
    (and_from _ _ (le-leb 20 (size_of item) (omega (arith, x.least, x.size_is)))
    (and_from _ _ (le-leb (size_of item) 65556 (omega (arith, x.most, x.size_is)))
    (and_from _ _ (le-leb (offset_of item + size_of item) (length (sds view)) (omega (arith, x.inside, x.offset_is, x.size_is)))
    ((bytes_eq-Decides (slice_range (sds view) (offset_of item) (offset_of item + 20)) (take 20 (item_data item))).1 header)))))

-- what is told of an id: its descriptor, or that it has none
abbrev Told : VolumeView → ℕ → Type 0
Told view id = (descriptor : Option (List ℕ)) × TellsDescriptor view id descriptor

-- Where the index is there it decides. Any other walk of it passes the test where this one does.
told-index : (view : VolumeView) (id : ℕ) → IsPlain (sds_parts view) → IsViewIndex view id_rule (ids_on view) → Told view id
told-index view id plain index = by (list_any (tells_id view id) index.items) refl
  where
    by : (b : Bool) → list_any (tells_id view id) index.items ≡ b → Told view id
    by true tells =
        let any = Any-from_list_any (tells_id view id) index.items tells in (
          Some (descriptor_by view any.1),
          told-by view id plain index any.1 (any.0, any.2, any.3) any.4,
        )
    by false none = (
      None,
      λ bytes x.
          let c = x.among in
          both_ways (list_any (tells_id view id) index.items) none
          (sym (entry-walk view ids id_rule index.items (tells_id view id) index.has)
          ∙ entry-walk view ids id_rule x.index.items (tells_id view id) x.index.has
          ∙ list_any-from_Any (tells_id view id) x.index.items (c.0, x.item, c.1, c.2, tells-right view id bytes x)),
    )

-- whether the first part is there and not packed
plain_or : (o : Option Part) → IsSomeAnd o (λ part. is_packed part.kind part.flags ≡ false)
    ⊎ ¬ (IsSomeAnd o (λ part. is_packed part.kind part.flags ≡ false))
plain_or None = inr (λ e. absurd e)
plain_or (Some part) = by (is_packed part.kind part.flags) refl
  where
    by : (b : Bool) → is_packed part.kind part.flags ≡ b
        → (is_packed part.kind part.flags ≡ false) ⊎ ¬ (is_packed part.kind part.flags ≡ false)
    by false e = inl e
    by true e = inr (λ f. both_ways (is_packed part.kind part.flags) f e)

-- An index that is there is one, by the clause on indexes. Without a root there is none.
told : (view : VolumeView) → MeetsIndexes view SECURE → (id : ℕ) → Told view id
told view meets id = by (plain_or (first_part (sds_parts view))) (cases_lt 0 (length (ids_on view).root))
  where
    by : IsPlain (sds_parts view) ⊎ ¬ (IsPlain (sds_parts view))
        → (0 < length (ids_on view).root) ⊎ (length (ids_on view).root ≤ 0) → Told view id
    by (inr packed) root = (None, λ bytes x. packed x.plain)
    by (inl plain) (inl root) = told-index view id plain (meets.security_ids refl (omega (arith, root)))
    by (inl plain) (inr none) = (
      None,
      λ bytes x.
          let one = sym (length-map (ids_on view).root (λ part. content_value part.content)) ∙ ap length x.index.has.is_root in
          absurd (omega (arith, none, one)),
    )

pub has_facts : (view : VolumeView) → IsSound view → (facts : Facts) × TellsFacts view facts
has_facts view sound =
    let descriptors = told view (sound Indexes SECURE) in
    let facts : Facts = record {
      clusters = view.layout.clusters;
      free = unowned_clusters view;
      records = view.layout.count;
      free_records = unused_records view;
      whole_table = is_whole_table view;
      built_for = λ m command at. is_built_for view m.tree command at;
      in_use = λ n. is_some (record_on view n);
      descriptor = λ id. (descriptors id).0;
      no_room = λ m command at. no_room_for view (bill_of view m.tree command at);
    } in (
      facts,
      record {
        clusters = refl;
        free = refl;
        records = refl;
        free_records = refl;
        whole_table = refl;
        built_for = λ m command at. refl;
        in_use = λ n. refl;
        descriptors = λ id. (descriptors id).1;
        no_room = λ m command at. refl;
      },
    )
