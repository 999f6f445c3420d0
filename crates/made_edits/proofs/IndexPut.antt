-- THE ENTRY PUT into the index of the directory, which has no name that is the same, in whichever case.
use Rattle.std.proofs.Common.{◌≡◌, ◌⊎◌, ◌==◌, ℕ, Bool, true, false, cond, List, [], ◌∷◌, codes, filter, map}
use Rattle.std.proofs.Common.{Some, refl, sym, ap, subst, inl, ◌∙◌, arith}
use mathlib.Core.Path.{fun_ext}
use Rattle.std.specs.Prelude.{All, count_by}
use Rattle.std.specs.List.{Contains, flat_map, range_with_len}
use Rattle.std.specs.Option.{option_map_or}
use Rattle.std.specs.declared.cmp.Ordering.TheVariants.{Equal}
use Rattle.std.proofs.lemmas.Bool.{and_from, eq-eqb}
use Rattle.std.proofs.lemmas.List.Elements.{All-contains}
use Rattle.std.proofs.lemmas.Slice.Eq.{bytes_eq-Decides}
use Rattle.list_laws.proofs.FindLaws.{count-none, count-some}
use Rattle.list_laws.proofs.MemberLaws.{All-from_Contains, Contains-head, Contains-later, filter-map}
use Rattle.list_laws.proofs.OptionLaws.{some_same}
use Rattle.list_laws.proofs.OrderedLaws.{count-in_order}
use Rattle.list_laws.proofs.SameItemsLaws.{count-map}
use Rattle.ntfs_def.specs.Attribute.{attributes}
use Rattle.ntfs_def.specs.FileName.{key_units, link_of, name_in}
use Rattle.ntfs_def.specs.Fixup.{opened_of}
use Rattle.ntfs_def.specs.IndexTree.{Each, Walks}
use Rattle.ntfs_def.specs.KeyOrder.{name_order}
use Rattle.ntfs_def.specs.Node.{Item, short_node}
use Rattle.ntfs_def.specs.Units.{wide}
use Rattle.ntfs_def.specs.declared.index.NodeForm.TheVariants.{Names}
use Rattle.ntfs_def.specs.declared.kinds.TheConstants.{BITMAP, INDEX_ALLOCATION, INDEX_ROOT}
use Rattle.ntfs_def.proofs.KeyOrderLaws.{name_ties}
use Rattle.volume_def.specs.CaseClause.{volume_fold}
use Rattle.volume_def.specs.FileNames.{is_in_directory, links}
use Rattle.volume_def.specs.Files.{Part, Record, Records, file_of, is_of, parts, parts_at, record_on, records_of}
use Rattle.volume_def.specs.Freed.{stored_sequence}
use Rattle.volume_def.specs.IndexesClause.{IsDirectoryIndex, index_nodes, index_parts}
use Rattle.volume_def.specs.Table.{TableLayout}
use Rattle.volume_def.specs.Values.{first_part, spot_at}
use Rattle.volume_def.specs.View.{VolumeView}
use Rattle.root_puts.specs.Edit.{IsAbsent}
use Rattle.root_puts.proofs.IndexTreeLaws.{one_list}
use Rattle.tree_model.specs.Reading.{all_links, directory_links, link_by}
use Rattle.tree_model.specs.Tree.{are_same, is_in, link_above}
use Rattle.tree_model.specs.declared.tree.Link.{Link}
use Rattle.edit_def.specs.Account.{nothing}
use Rattle.edit_def.specs.Forms.{IsNewForm, attributes_on, begins, form_of, forms_of}
use Rattle.edit_def.specs.Items.{ChangesItems, HasItems}
use Rattle.edit_def.specs.Kept.{same_key}
use Rattle.edit_def.specs.Marks.{Marks}
use Rattle.edit_def.specs.Names.{KeepsNames}
use Rattle.record_edits.specs.Between.{IsReady}
use Rattle.record_edits.specs.InPlace.{WritesInPlace}
use Rattle.record_edits.proofs.PlaceCalls.{edited-place, ready-place}
use Rattle.root_puts.proofs.NamesInTurn.{KeepsNames-same}
use Rattle.root_puts.specs.Keys.{is_index_key_of}
use Rattle.root_puts.proofs.CallsMade.{Edited-more, within-same}
use Rattle.root_puts.specs.PutsItem.{PutsItem}
use Rattle.made_edits.specs.Left.{KeepsOwnIndex}
use Rattle.made_edits.proofs.Entered.{Entered}
use Rattle.made_edits.proofs.KeyLaws.{entry-index, entry-room, entry_key, index-entry}
use Rattle.made_edits.proofs.LeftLaws.{records-stream, same-value}
use Rattle.made_edits.proofs.OwnIndex.{head-same}
use Rattle.made_edits.proofs.ReadyLaws.{owners-of}

-- A DIRECTORY HAS ONE LIST of items.
some-root : {X : Type 0} {a b : X} → Some a ∷ [] ≡ Some b ∷ [] → a ≡ b
some-root e = cc

some-node : {X : Type 0} {a b : X} → Some a ≡ Some b → a ≡ b
some-node e = cc

pub one-items : (view : VolumeView) (dir : ℕ) (a b : List Item) → HasItems view dir a → HasItems view dir b → a ≡ b
one-items view dir a b x y =
    let root : x.index.root ≡ y.index.root = some-root (sym x.index.is_root ∙ y.index.is_root) in
    let node : x.index.root_node ≡ y.index.root_node = some-node (sym x.index.says ∙ ap (short_node Names) root ∙ y.index.says) in
    let nodes = index_nodes Names view (index_parts view dir (wide (codes "$I30"))) in
    one_list nodes x.index.root_node a b x.index.walks (subst (λ n. Walks nodes n b) (sym node) y.index.walks)

-- NO ITEM has an equal key where no link of the directory has the same name.
count-links : (view : VolumeView) (dir : ℕ) (p : Link → Bool)
    → count_by p (directory_links view dir) ≡ count_by (λ link. p (link_by link)) (filter (is_in_directory dir) (links (records_of view)))
unfolding directory_links all_links
count-links view dir p =
    count-in_order (link_above (volume_fold view)) p (filter (is_in dir) (map link_by (links (records_of view))))
    ∙ ap (count_by p) (filter-map link_by (is_in dir) (links (records_of view)))
    ∙ count-map link_by p (filter (is_in_directory dir) (links (records_of view)))

each-from : {X : Type 0} (P : X → Type 0) (xs : List X) → ((x : X) → Contains xs x → P x) → Each P xs
each-from P [] h = tt
each-from P (x ∷ xs) h = (h x (Contains-head x xs), each-from P xs (λ y c. h y (Contains-later x xs y c)))

key-units : (key units : List ℕ) → (name_in key).units ≡ units → key_units key ≡ units
unfolding name_in
key-units key units e = e

units-key : (key : List ℕ) → (name_in key).units ≡ key_units key
unfolding name_in
units-key key = refl

module _ (view : VolumeView) (dir : ℕ) (units key : List ℕ) (d : IsDirectoryIndex view dir) (key_is : (name_in key).units ≡ units)
    (absent : All (λ other. are_same (volume_fold view) other.name units ≡ false) (directory_links view dir)) where
  abbrev alike : Link → Bool
  alike link = are_same (volume_fold view) link.name units

  none-alike : count_by (λ (item : Item). alike (link_by (link_of item))) d.items ≡ 0
  none-alike =
      sym (count-map link_of (λ link. alike (link_by link)) d.items)
      ∙ sym (d.names.counts (λ link. alike (link_by link)))
      ∙ sym (count-links view dir alike)
      ∙ count-none alike (directory_links view dir) (λ link c.
      All-contains (λ (other : Link). are_same (volume_fold view) other.name units ≡ false) (directory_links view dir) link absent c)

  not-equal : (fold : ℕ → ℕ) (item : Item) → Contains d.items item → name_order fold item.key key ≡ Equal → ⊥
  not-equal fold item c tied =
      let same : key_units item.key ≡ key_units key = (name_ties fold item.key key).0 tied in
      let is : (name_in item.key).units ≡ units = units-key item.key ∙ same ∙ key-units key units key_is in
      let yes : alike (link_by (link_of item)) ≡ true =
      (bytes_eq-Decides (map (volume_fold view) (name_in item.key).units) (map (volume_fold view) units)).1
      (ap (map (volume_fold view)) is) in
      let some = count-some (λ (item : Item). alike (link_by (link_of item))) d.items item c yes in
      absurd (omega (arith, some, none-alike))

  pub no-equal : (fold : ℕ → ℕ) → IsAbsent (name_order fold) key d.items
  no-equal fold = each-from (λ (y : Item). name_order fold y.key key ≡ Equal → ⊥) d.items (λ item c. not-equal fold item c)

-- INTO A RECORD of the index: no record of the table was written.
module _ (old new : VolumeView) (dir : ℕ) (item : Item) (marks : Marks) (ready : IsReady old marks) (puts : PutsItem old new dir item) where
  itself : same_key (entry_key dir) (entry_key dir) ≡ true
  itself = and_from (INDEX_ALLOCATION == INDEX_ALLOCATION) _ refl
      (and_from (dir == dir) _ (eq-eqb dir dir refl) ((bytes_eq-Decides (wide (codes "$I30")) (wide (codes "$I30"))).1 refl))

  writes : WritesInPlace (same_key (entry_key dir)) old new
  writes = record {
    told = puts.changes.told;
    layout = puts.changes.layout;
    blocks = puts.changes.blocks;
    copies = puts.changes.copies;
    rest = puts.changes.rest;
    clusters = λ c owned free. puts.changes.clusters c (free dir INDEX_ALLOCATION (wide (codes "$I30")) itself);
  }

  records-put : records_of new ≡ records_of old
  records-put = records-stream dir INDEX_ALLOCATION (wide (codes "$I30")) old new puts.changes

  record-put : (m : ℕ) → record_on new m ≡ record_on old m
  record-put m = ap (λ (r : Records). r.record_at m) records-put

  parts-put : (f : ℕ) → parts (records_of new) f ≡ parts (records_of old) f
  parts-put f = ap (λ (r : Records). parts r f) records-put

  at-put : (f kind : ℕ) (name : List ℕ) → parts_at new f kind name ≡ parts_at old f kind name
  at-put f kind name = ap (filter (is_of kind name)) (parts-put f)

  -- headers of attributes
  attributes-put : (f m : ℕ) → attributes_on new f m ≡ attributes_on old f m
  attributes-put f m =
      ap (λ o. option_map_or (λ (r : Record). cond (file_of m r == f) (attributes (opened_of (new.block m))) []) o []) (record-put m)
      ∙ ap (λ block. option_map_or (λ (r : Record). cond (file_of m r == f) (attributes (opened_of block)) []) (record_on old m) [])
      (puts.changes.blocks m)

  forms-put : (f : ℕ) → forms_of new f ≡ forms_of old f
  forms-put f =
      ap (λ g. map form_of (filter begins (flat_map g (range_with_len 0 new.layout.count)))) (fun_ext (attributes-put f))
      ∙ ap (λ (l : TableLayout). map form_of (filter begins (flat_map (attributes_on old f) (range_with_len 0 l.count))))
      puts.changes.layout

  -- the index
  own-put : KeepsOwnIndex old new dir
  own-put = record {
    head = λ was now at bt. head-same was now (some_same (sym bt ∙ ap first_part (at-put dir INDEX_ROOT (wide (codes "$I30"))) ∙ at));
    records = at-put dir INDEX_ALLOCATION (wide (codes "$I30"));
    bits = at-put dir BITMAP (wide (codes "$I30"));
    flags = same-value (same_key (entry_key dir)) old new
        (λ c outside free. puts.changes.clusters c (free dir INDEX_ALLOCATION (wide (codes "$I30")) itself))
        (owners-of old marks ready) ready.table.some dir BITMAP (wide (codes "$I30")) puts.changes.layout
        (at-put dir BITMAP (wide (codes "$I30"))) refl (inl (λ is. absurd (omega (arith, is))));
    depth = let same = puts.depth in omega (arith, same);
    spots = λ kind vcn is at. ap (λ (xs : List Part). spot_at xs vcn) (at-put dir kind (wide (codes "$I30")));
  }

  entry : ((was : List Item) → HasItems old dir was → IsAbsent (name_order (volume_fold old)) item.key was)
      → ChangesItems old new dir [] (item ∷ [])
  entry absent items h =
      let then = puts.items items h (absent items h) in
      (then.0, then.1, record { before = then.2.front; after = then.2.back; old_is = then.2.was; new_is = then.2.now })

  names-put : (f : ℕ) → KeepsNames (records_of old) (records_of new) f
  names-put f = subst (λ (r : Records). KeepsNames (records_of old) r f) (sym records-put) (KeepsNames-same (records_of old) f)

  pub entered-record : Entered old new marks dir item
  entered-record = record {
    ready = ready-place (same_key (entry_key dir)) old new writes marks ready (entry-room dir);
    told = puts.changes.told;
    layout = puts.changes.layout;
    rest = puts.changes.rest;
    blocks = λ m ne. puts.changes.blocks m;
    copies = puts.changes.copies;
    clusters = λ c outside free.
        puts.changes.clusters c (free dir INDEX_ALLOCATION (wide (codes "$I30")) (index-entry dir (entry_key dir) itself));
    records = λ m ne. record-put m;
    others = λ g ne. parts-put g;
    same = λ f kind name free. at-put f kind name;
    kinds = λ f test out. ap (filter (λ (p : Part). test p.kind)) (parts-put f);
    names_kept = names-put;
    holder = λ was at. record {
      was = was;
      now = was;
      was_at = at;
      now_at = record-put dir ∙ at;
      header = refl;
      sequence = ap stored_sequence (puts.changes.blocks dir);
    };
    forms = λ f. All-from_Contains (λ form. Contains (forms_of old f) form ⊎ IsNewForm form) (forms_of new f) (λ form c.
        inl (subst (λ xs. Contains xs form) (forms-put f) c));
    own = own-put;
    changes = λ absent. record {
      edited = Edited-more (same_key (entry_key dir)) (is_index_key_of dir) nothing nothing old new marks marks (entry-index dir)
          (within-same nothing) (edited-place (same_key (entry_key dir)) old new writes marks ready (entry-room dir));
      names_kept = names-put;
      entry = entry absent;
    };
  }
