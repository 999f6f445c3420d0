-- STREAMS AND INDEXES where a file went.
use Rattle.std.proofs.Common.{◌≡◌, ◌≢◌, ◌≤◌, ◌/◌, ◌==◌, ◌&&◌, ◌||◌, not, ℕ, Bool, true, false, List, [], ◌∷◌, codes, filter, map, length}
use Rattle.std.proofs.Common.{None, Option, Some, refl, sym, ap, subst, inl, inr, ◌∙◌, arith, if◌then◌else◌}
use mathlib.Core.Path.{fun_ext}
use Rattle.std.specs.Prelude.{IfSome, is_some, nat_le}
use Rattle.std.specs.List.{find, list_any, range_with_len}
use Rattle.std.specs.Option.{option_and_then}
use Rattle.std.specs.Str.{bytes_eq}
use Rattle.std.proofs.lemmas.Bool.{and_left, and_parts, and_right, cases_Bool, cases_eq, eqb-true, ne_eqb, or_from}
use Rattle.std.proofs.lemmas.Slice.Eq.{bytes_eq-Decides}
use Rattle.list_laws.proofs.FilterLaws.{filter-all}
use Rattle.list_laws.proofs.FindLaws.{find-found}
use Rattle.list_laws.proofs.OptionLaws.{none_other, some_same}
use Rattle.list_laws.proofs.SameItemsLaws.{SameItems-same}
use Rattle.ntfs_def.specs.FileName.{FileName}
use Rattle.ntfs_def.specs.Node.{short_node}
use Rattle.ntfs_def.specs.Units.{wide}
use Rattle.ntfs_def.specs.declared.index.NodeForm.TheVariants.{View}
use Rattle.ntfs_def.specs.declared.kinds.TheConstants.{BITMAP, INDEX_ALLOCATION, INDEX_ROOT}
use Rattle.ntfs_def.specs.declared.lengths.TheConstants.{INDEX_RECORD}
use Rattle.ntfs_def.specs.declared.records.TheConstants.{EXTEND, FIRST_ORDINARY, MFT}
use Rattle.volume_def.specs.FileNames.{names_of}
use Rattle.volume_def.specs.Files.{Part, content_value, is_of, parts, parts_at, records_of}
use Rattle.volume_def.specs.IndexesClause.{HasIndex, index_parts, is_in_extend, word_rule}
use Rattle.volume_def.specs.Readable.{IsReadableVolume}
use Rattle.volume_def.specs.StreamSize.{told_size}
use Rattle.volume_def.specs.Table.{TableLayout, cluster_bytes}
use Rattle.volume_def.specs.Values.{first_part, spot_at}
use Rattle.volume_def.specs.View.{VolumeView}
use Rattle.tree_model.specs.Bill.{Change}
use Rattle.tree_model.specs.IndexRoom.{Index, directory_index, extend_file, extend_index, if_there, index_depth, root_of}
use Rattle.tree_model.specs.StreamRoom.{is_cluster}
use Rattle.edit_def.specs.Edited.{is_room_key}
use Rattle.edit_def.specs.Kept.{Key, KeepsBut, either, key_of}
use Rattle.edit_def.specs.Names.{HasRightBases}
use Rattle.edit_def.specs.Places.{flags_of}
use Rattle.edit_def.proofs.IndexLaws.{index-same}
use Rattle.command_edits.specs.Keys.{is_index_key_of}
use Rattle.session_def.specs.Indexes.{KeepsFlagsOf, KeepsIndexIfThere, bits_set, index_bits, index_records}
use Rattle.session_def.specs.Kept.{KeepsKeys, is_any, with_data}
use Rattle.session_def.specs.Named.{is_index_kind}
use Rattle.root_puts.specs.PutsInRoot.{KeepsRootHead}
use Rattle.made_edits.specs.Left.{KeepsOwnIndex, is_entry_key, is_row_key}
use Rattle.made_edits.proofs.AloneLaws.{names-of-parts}
use Rattle.made_edits.proofs.LeftMade.{depth-kept}
use Rattle.made_edits.proofs.OwnIndex.{head-same}
use Rattle.gone_edits.specs.Gone.{is_gone_key}
use Rattle.gone_edits.specs.Left.{LeavesRest}

-- the flags of a part are its own
own-flags : (o : Option Part) → IfSome o (λ part. part.flags ≡ flags_of o)
own-flags None = tt
own-flags (Some part) = refl

module _ (old new : VolumeView) (n dir : ℕ) (rest : LeavesRest old new n dir) (none : parts (records_of new) n ≡ []) where
  index : KeepsOwnIndex old new dir
  index = rest.index

  -- THE FILE has no part.
  none-own : (kind : ℕ) (name : List ℕ) → parts_at new n kind name ≡ []
  none-own kind name = ap (filter (is_of kind name)) none

  no-cluster-own : (kind : ℕ) (name : List ℕ) (vcn : ℕ) → is_cluster (spot_at (parts_at new n kind name) vcn) ≡ true → ⊥
  no-cluster-own kind name vcn is =
      let never : false ≡ true = sym (ap (λ (xs : List Part). is_cluster (spot_at xs vcn)) (none-own kind name)) ∙ is in
      cc

  -- THE INDEX of the directory gained no cluster.
  own-spots : (f kind : ℕ) (name : List ℕ) (vcn : ℕ) → is_index_key_of dir (key_of f kind name) ≡ true
      → is_cluster (spot_at (parts_at new f kind name) vcn) ≡ true
      → spot_at (parts_at new f kind name) vcn ≡ spot_at (parts_at old f kind name) vcn
  own-spots f kind name vcn named is =
      let p = and_parts (is_index_kind kind) (bytes_eq name (wide (codes "$I30")) && (f == dir)) named in
      let q = and_parts (bytes_eq name (wide (codes "$I30"))) (f == dir) p.1 in
      let file = eqb-true f dir q.1 in
      let called = (bytes_eq-Decides name (wide (codes "$I30"))).0 q.0 in
      subst (λ f. is_cluster (spot_at (parts_at new f kind name) vcn) ≡ true
      → spot_at (parts_at new f kind name) vcn ≡ spot_at (parts_at old f kind name) vcn) (sym file)
      (subst (λ name. is_cluster (spot_at (parts_at new dir kind name) vcn) ≡ true
      → spot_at (parts_at new dir kind name) vcn ≡ spot_at (parts_at old dir kind name) vcn) (sym called) (index.spots kind vcn p.0)) is

  pub spots : (f kind : ℕ) (name : List ℕ) (vcn : ℕ) → is_cluster (spot_at (parts_at new f kind name) vcn) ≡ true
      → spot_at (parts_at new f kind name) vcn ≡ spot_at (parts_at old f kind name) vcn
  spots f kind name vcn is = elim (cases_eq f n) [
    | inl same ↦ absurd (no-cluster-own kind name vcn (subst (λ f. is_cluster (spot_at (parts_at new f kind name) vcn) ≡ true) same is))
    | inr ne ↦ elim (cases_Bool (is_index_key_of dir (key_of f kind name))) [
      | inl named ↦ own-spots f kind name vcn named is
      | inr free ↦ ap (λ (xs : List Part). spot_at xs vcn) (rest.leaves.same f kind name ne free)
    ]
  ]

  -- FLAGS of parts that are the same
  flags : (kind : ℕ) (index : Index) → parts_at new index.file kind index.name ≡ parts_at old index.file kind index.name
      → KeepsFlagsOf kind old new index
  flags kind index same =
      let was = first_part (parts_at old index.file kind index.name) in
      subst (λ (xs : List Part). IfSome (first_part xs) (λ part. part.flags ≡ flags_of was)) (sym same) (own-flags was)

  -- AN INDEX keeps its headers, its records and its bits, where the parts of these are the same.
  keeps : (changes : List Change) (index : Index)
      → ((was now : Part) → first_part (parts_at old index.file INDEX_ROOT index.name) ≡ Some was
      → first_part (parts_at new index.file INDEX_ROOT index.name) ≡ Some now → KeepsRootHead was now)
      → parts_at new index.file INDEX_ALLOCATION index.name ≡ parts_at old index.file INDEX_ALLOCATION index.name
      → parts_at new index.file BITMAP index.name ≡ parts_at old index.file BITMAP index.name
      → index_bits new index ≡ index_bits old index → index_depth new index ≤ index_depth old index
      → KeepsIndexIfThere old new changes index
  keeps changes index head records_at bits_at bits depth was now at bt =
      let root = head was now at bt in
      let records : index_records new index ≡ index_records old index =
      ap (λ (xs : List Part). told_size (first_part xs) / INDEX_RECORD) records_at in
      let set = ap bits_set bits in
      record {
        head = root.head;
        root_flags = root.flags;
        record_flags = flags INDEX_ALLOCATION index records_at;
        bit_flags = flags BITMAP index bits_at;
        depth = omega (arith, depth);
        records = omega (arith, records);
        same = λ moved. bits;
        set = omega (arith, set);
      }

  -- one that is not named
  module _ (changes : List Change) (other : Index) (named : bytes_eq [] other.name ≡ false)
      (free : is_index_key_of dir (key_of other.file INDEX_ALLOCATION other.name) ≡ false) (ne : other.file ≢ n) where
    abbrev key_at : ℕ → Key
    key_at kind = key_of other.file kind other.name

    unnamed : (kind : ℕ) → is_index_key_of dir (key_at kind) ≡ false
    unnamed kind = and_right (is_index_kind kind) _ free

    unwritten : (kind : ℕ) → is_entry_key dir (key_at kind) ≡ false
    unwritten kind = or_from (is_row_key (key_at kind)) (is_index_key_of dir (key_at kind))
        (and_right (BITMAP == kind) _ (and_right (MFT == other.file) (bytes_eq [] other.name) named)) (unnamed kind)

    same : (kind : ℕ) → parts_at new other.file kind other.name ≡ parts_at old other.file kind other.name
    same kind = rest.leaves.same other.file kind other.name ne (unnamed kind)

    other-kept : KeepsIndexIfThere old new changes other
    other-kept =
        let deep = depth-kept old new other rest.leaves.layout (same INDEX_ROOT)
        (rest.values other.file INDEX_ALLOCATION other.name ne (unwritten INDEX_ALLOCATION) (inl (λ is. absurd (omega (arith, is))))) in
        keeps changes other (λ was now at bt. head-same was now (some_same (sym bt ∙ ap first_part (same INDEX_ROOT) ∙ at)))
        (same INDEX_ALLOCATION) (same BITMAP)
        (rest.values other.file BITMAP other.name ne (unwritten BITMAP) (inl (λ is. absurd (omega (arith, is))))) (omega (arith, deep))

  pub indexes : (changes : List Change) (other : Index) → bytes_eq [] other.name ≡ false
      → is_entry_key dir (key_of other.file INDEX_ALLOCATION other.name) ≡ false → KeepsIndexIfThere old new changes other
  indexes changes other named free = elim (cases_eq other.file n) [
    | inr ne ↦ other-kept changes other named free ne
    | inl is ↦ λ was now at bt. absurd (gone (ap (parts (records_of new)) is ∙ none) now bt)
  ]
    where
      gone : parts (records_of new) other.file ≡ [] → (p : Part) → first_part (parts_at new other.file INDEX_ROOT other.name) ≡ Some p → ⊥
      gone empty p at =
          none_other (sym (ap (λ (xs : List Part). first_part (filter (is_of INDEX_ROOT other.name) xs)) empty) ∙ at)

  pub directories : (changes : List Change) (g : ℕ) → KeepsIndexIfThere old new changes (directory_index g)
  directories changes g = elim (cases_eq g dir) [
    | inl is ↦ subst (λ g. KeepsIndexIfThere old new changes (directory_index g)) (sym is)
        (keeps changes (directory_index dir) index.head index.records index.bits index.flags index.depth)
    | inr away ↦ indexes changes (directory_index g) refl
        (and_right (bytes_eq (wide (codes "$I30")) (wide (codes "$I30"))) (g == dir) (ne_eqb g dir away))
  ]

  -- THE INDEX of a name in $Extend, in which the name did not stand
  module _ (name_was : FileName) (named : names_of (records_of old) n ≡ name_was ∷ []) (away : name_was.parent.number ≢ EXTEND)
      (units name : List ℕ) (apart : bytes_eq (wide name) (wide (codes "$I30")) ≡ false) where
    not-there : list_any (is_in_extend units) (names_of (records_of old) n) ≡ false
    not-there =
        ap (list_any (is_in_extend units)) named
        ∙ or_from (is_in_extend units name_was) false
        (and_left (name_was.parent.number == EXTEND) (bytes_eq name_was.units units) (ne_eqb name_was.parent.number EXTEND away)) refl

    in-extend : (f : ℕ)
        → list_any (is_in_extend units) (names_of (records_of new) f) ≡ list_any (is_in_extend units) (names_of (records_of old) f)
    in-extend f = elim (cases_eq f n) [
      | inr ne ↦ ap (list_any (is_in_extend units)) (rest.names f ne)
      | inl is ↦ ap (λ f. list_any (is_in_extend units) (names_of (records_of new) f)) is
          ∙ ap (list_any (is_in_extend units)) (names-of-parts new n [] none)
          ∙ sym (ap (λ f. list_any (is_in_extend units) (names_of (records_of old) f)) is ∙ not-there)
    ]

    abbrev sought : ℕ → Bool
    sought f = nat_le FIRST_ORDINARY f && list_any (is_in_extend units) (names_of (records_of old) f)

    file-found : extend_file new units ≡ extend_file old units
    file-found =
        ap (λ (l : TableLayout). find (λ f. nat_le FIRST_ORDINARY f && list_any (is_in_extend units) (names_of (records_of new) f))
        (range_with_len 0 l.count)) rest.leaves.layout
        ∙ ap (λ p. find p (range_with_len 0 old.layout.count)) (fun_ext (λ f. ap (λ b. nat_le FIRST_ORDINARY f && b) (in-extend f)))

    -- it is another file
    found-apart : (f : ℕ) → extend_file old units ≡ Some f → f ≢ n
    found-apart f found is =
        let met = (find-found sought (range_with_len 0 old.layout.count) f found).1 in
        let its = (and_parts (nat_le FIRST_ORDINARY f) (list_any (is_in_extend units) (names_of (records_of old) f)) met).1 in
        let never : false ≡ true = sym (ap (λ f. list_any (is_in_extend units) (names_of (records_of old) f)) is ∙ not-there) ∙ its in
        cc

    abbrev index_at : ℕ → Index
    index_at f = record { file = f; form = View; name = wide name }

    there-same : (f : ℕ) → f ≢ n → if_there new (index_at f) ≡ if_there old (index_at f)
    there-same f ne =
        ap (λ xs. if is_some (option_and_then (λ (part : Part). option_and_then (short_node View) (content_value part.content))
        (first_part xs))
        then Some (index_at f) else None)
        (rest.leaves.same f INDEX_ROOT (wide name) ne (and_left (bytes_eq (wide name) (wide (codes "$I30"))) (f == dir) apart))

    index-found : extend_index new units name ≡ extend_index old units name
    index-found = ap (option_and_then (λ f. if_there new (index_at f))) file-found ∙ by (extend_file old units) refl
      where
        by : (o : Option ℕ) → extend_file old units ≡ o
            → option_and_then (λ f. if_there new (index_at f)) o ≡ option_and_then (λ f. if_there old (index_at f)) o
        by None e = refl
        by (Some f) e = there-same f (found-apart f e)

    index-named : (at : Index) → extend_index old units name ≡ Some at → (at.file ≢ n) × (at.name ≡ wide name)
    index-named at e = by (extend_file old units) refl e
      where
        last : (b : Bool) (f : ℕ) → f ≢ n → (if b then Some (index_at f) else None) ≡ Some at → (at.file ≢ n) × (at.name ≡ wide name)
        last true f ne e =
            let same : index_at f ≡ at = some_same e in
            ((λ is. ne (ap (λ (i : Index). i.file) same ∙ is)), sym (ap (λ (i : Index). i.name) same))
        last false f ne e = absurd (none_other e)

        by : (found : Option ℕ) → extend_file old units ≡ found → option_and_then (λ f. if_there old (index_at f)) found ≡ Some at
            → (at.file ≢ n) × (at.name ≡ wide name)
        by None found e = absurd (none_other e)
        by (Some f) found e = last (is_some (root_of old (index_at f))) f (found-apart f found) e

    -- ITS KEYS are those that were there, with their data.
    pub keys : KeepsBut (either is_room_key (is_gone_key n dir)) old new → HasRightBases (records_of old) → IsReadableVolume old
        → IsReadableVolume new → (length (wide name) == 0) ≡ false
        → KeepsKeys old (extend_index old units name) new (extend_index new units name) [] None
    keys kept bases readable readable_new long was has =
        let its = index-named has.at has.there in
        let ne = its.0 in
        let called = its.1 in
        let held = subst (λ name. HasIndex View word_rule old (index_parts old has.at.file name) was) called has.has in
        let free : (kind : ℕ) → is_gone_key n dir (key_of has.at.file kind (wide name)) ≡ false = λ kind.
        or_from (has.at.file == n) _ (ne_eqb has.at.file n ne) (and_right (is_index_kind kind) _
        (and_left (bytes_eq (wide name) (wide (codes "$I30"))) (has.at.file == dir) apart)) in
        let bits : either is_room_key (is_gone_key n dir) (key_of has.at.file BITMAP (wide name)) ≡ false =
        or_from (is_room_key (key_of has.at.file BITMAP (wide name))) _ (ap (λ b. (b && (has.at.file == MFT)) || false) long)
        (free BITMAP) in (
          was,
          record {
            at = has.at;
            there = index-found ∙ has.there;
            has = subst (λ name. HasIndex View word_rule new (index_parts new has.at.file name) was) (sym called)
                (index-same (either is_room_key (is_gone_key n dir)) old new kept
                (ap (λ (l : TableLayout). cluster_bytes l) rest.leaves.layout)
                bases readable readable_new has.at.file (wide name) (free INDEX_ROOT) (free INDEX_ALLOCATION) bits View word_rule was held);
          },
          record {
            come = [];
            comes = refl;
            items = SameItems-same _ _ (ap (map with_data) (filter-all (λ item. not (is_any [] item)) was (λ item c. refl)));
          },
        )
