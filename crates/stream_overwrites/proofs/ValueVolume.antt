-- THE VOLUME in which bytes went over bytes of a stream that is a value in its record: this one attribute was rewritten, and it is sound.
use Rattle.std.proofs.Common.{◌≡◌, ◌≢◌, ◌+◌, ◌≤◌, ◌==◌, ◌&&◌, not, ℕ, Bool, true, false, cond, List, [], ◌∷◌, length, map, Some, refl}
use Rattle.std.proofs.Common.{sym, ap, subst, inl, inr, ◌∙◌, arith}
use Rattle.std.specs.List.{Contains}
use Rattle.std.specs.Prelude.{IfSome, is_some}
use Rattle.std.specs.Option.{option_map}
use Rattle.std.specs.Str.{bytes_eq}
use Rattle.std.proofs.lemmas.Bool.{and_left, and_right, ne_eqb}
use Rattle.attr_view.specs.Values.{overwritten}
use Rattle.ntfs_def.specs.Attribute.{Attribute}
use Rattle.ntfs_def.specs.declared.kinds.TheConstants.{ATTRIBUTE_LIST, BITMAP, DATA, FILE_NAME}
use Rattle.ntfs_def.specs.declared.records.TheConstants.{CLUSTER_BITMAP, MFT, UPCASE}
use Rattle.list_laws.proofs.MemberLaws.{Contains-filter, Contains-head, Contains-nil}
use Rattle.list_laws.proofs.OptionLaws.{some-value}
use Rattle.list_laws.proofs.PieceLaws.{All-one}
use Rattle.list_laws.proofs.ReplacesLaws.{Replaces-came}
use Rattle.volume_def.specs.AttributesClause.{IsRightRecord}
use Rattle.volume_def.specs.ExtentsClause.{AreAttribute}
use Rattle.volume_def.specs.Files.{Content, Part, Records, Value, content_value, file_of, is_of, part_of, parts, parts_at, records_of}
use Rattle.volume_def.specs.ListsClause.{entries_in, entry_in, is_list}
use Rattle.volume_def.specs.Sound.{Extents, IsSound, Limits, References}
use Rattle.volume_def.specs.Table.{cluster_bytes}
use Rattle.volume_def.specs.View.{VolumeView}
use Rattle.volume_def.proofs.PartLaws.{IsPart-Contains, NameHolders-view, record_at-block}
use Rattle.volume_def.proofs.SoundLaws.{readable-sound}
use Rattle.tree_model.specs.Reading.{node_at}
use Rattle.tree_model.specs.declared.tree.Node.{Node}
use Rattle.record_calls.specs.Written.{WritesBytes}
use Rattle.edit_def.specs.Account.{nothing}
use Rattle.edit_def.specs.Edited.{Edited}
use Rattle.edit_def.specs.Kept.{Key, key_of, same_key}
use Rattle.edit_def.specs.Marks.{AreRight, Marks}
use Rattle.edit_def.proofs.NamesLaws.{bases-of}
use Rattle.record_calls.specs.Between.{IsReady}
use Rattle.record_calls.specs.RecordEdit.{AllHave, EditsPart, EditsRecord, HasKey, parts_made}
use Rattle.record_calls.proofs.BlockEdits.{part-at, was-at}
use Rattle.record_calls.proofs.FileEdits.{list-same}
use Rattle.record_calls.proofs.RecordEdits as call
use Rattle.record_calls.proofs.WholeEdits as whole
use Rattle.record_calls.specs.Calls.{MayEditIn, MayReplace}
use Rattle.record_calls.specs.Edits.{record_there}
use Rattle.record_calls.proofs.EditCalls.{edit-values}
use Rattle.record_calls.proofs.ValueAlone.{value-alone}
use Rattle.record_calls.proofs.ValueBytes.{bytes-replace}
use Rattle.record_calls.proofs.ValueEdits.{edit-right, put-costs, replace-right, value-content}
use Rattle.record_calls.proofs.Values.{body-value, one-value}
use Rattle.entry_edits.proofs.RewrittenRoot as root
use Rattle.in_place.specs.InPlace.{Rewrites}
use Rattle.in_place.specs.Unnamed.{LiesApart}
use Rattle.in_place.proofs.CallLaws as calls
use Rattle.in_place.proofs.EditedInPlace.{editable-sound}
use Rattle.in_place.proofs.OtherClusters.{clusters-kept}
use Rattle.in_place.proofs.PlacesSame.{names-kept, value-other}
use Rattle.stream_overwrites.specs.Overwritten.{GoesOverValue}
use Rattle.stream_overwrites.proofs.QuietSound.{sound-behind, stored-right, stored-still, stored_marks}
use Rattle.stream_overwrites.proofs.ShownFile.{file, may-edit, not-bitmap, not-case}

-- the part with another value
abbrev pub with_value : Part → List ℕ → Part
with_value part value = record part { content = Value value }

-- a list tells the same of it
entries-same : (records : Records) (part : Part) (was now : List ℕ)
    → entries_in records (with_value part now ∷ []) ≡ entries_in records (with_value part was ∷ [])
entries-same records part was now = by (not (is_list part))
  where
    by : (b : Bool) → map (entry_in records) (cond b (with_value part now ∷ []) [])
        ≡ map (entry_in records) (cond b (with_value part was ∷ []) [])
    by true = refl
    by false = refl

module _ (old new : VolumeView) (f : ℕ) (name : List ℕ) (at : ℕ) (bytes : List ℕ) (g : GoesOverValue old new f name at bytes) where
  abbrev pub named : Key → Bool
  named = same_key (key_of f DATA name)

  abbrev n : ℕ
  n = g.part.holder

  abbrev w : WritesBytes old new g.part at bytes
  w = g.writes

  its : Contains (parts (records_of old) f) g.part × (g.part.kind ≡ DATA) × (g.part.name ≡ name)
  its = part-at old f DATA name g.part (Contains-filter (is_of DATA name) (parts (records_of old) f) g.part g.among g.stream)

  -- THE ATTRIBUTE was rewritten.
  pub rewrites : Rewrites named old new
  rewrites =
      subst (λ kind. Rewrites (same_key (key_of f kind name)) old new) its.1
      (subst (λ m. Rewrites (same_key (key_of f g.part.kind m)) old new) its.2
      (calls.written old new g.part at bytes f w g.among g.holds))

  -- ITS VALUE, before and after
  pub held : (value : List ℕ) × (content_value g.part.content ≡ Some value) × (at + length bytes ≤ length value)
  held = some-value (content_value g.part.content) (λ value. at + length bytes ≤ length value) g.holds

  abbrev pub value : List ℕ
  value = held.0

  pub fits : at + length bytes ≤ length value
  fits = held.2

  abbrev pub next : List ℕ
  next = overwritten value at bytes

  was-is : part_of n w.was ≡ with_value g.part value
  was-is = w.is ∙ (λ i. with_content g.part (root.value-content g.part.content value held.1 i))
    where
      with_content : Part → Content → Part
      with_content part content = record part { content = content }

  now-value : content_value (part_of n w.now).content ≡ Some next
  now-value =
      body-value w.now.body ∙ w.overwrites.value
      ∙ ap (option_map (λ v. overwritten v at bytes))
      (sym (body-value w.was.body) ∙ ap (λ (p : Part). content_value p.content) w.is ∙ held.1)

  now-is : part_of n w.now ≡ with_value g.part next
  now-is = (λ i. record {
    holder = n;
    kind = w.overwrites.kind i;
    name = w.overwrites.name i;
    id = w.overwrites.id i;
    flags = w.overwrites.flags i;
    content = root.value-content (part_of n w.now).content next now-value i;
  })
      ∙ (λ i. record (w.is i) { content = Value next })

  module _ (node : Node) (sound : IsSound old) (apart : LiesApart old) (there : node_at old f ≡ Some node) where
    abbrev key : Key
    key = key_of f DATA name

    no-list : g.part.kind ≢ ATTRIBUTE_LIST
    no-list e = let kind = its.1 in omega (arith, e, kind)

    no-name : g.part.kind ≢ FILE_NAME
    no-name e = let kind = its.1 in omega (arith, e, kind)

    was-right : IsRightRecord n (record_there old n)
    was-right = subst (λ o. IfSome o (IsRightRecord n)) (was-at old new n w.stored (w.was ∷ []) (w.now ∷ []) w.record_is)
        ((readable-sound old sound).attributes n)

    replaces : MayReplace old n w.was w.now
    replaces = bytes-replace old new g.part at bytes w was-right g.holds no-list no-name

    own : file_of n (record_there old n) ≡ f
    own =
        let h = IsPart-Contains (records_of old) f g.part (NameHolders-view old) g.among in
        ap (file_of n) (record_at-block old n h.record_there h.held) ∙ h.file

    may-in : MayEditIn old f n
    may-in = record { file = own; is_file = file old f node there; may = may-edit old f node there }

    was-has : AllHave key (w.was ∷ [])
    was-has = All-one (HasKey key) w.was (record {
      kind = ap (λ (p : Part). p.kind) w.is ∙ its.1;
      name = ap (λ (p : Part). p.name) w.is ∙ its.2;
    })

    now-has : AllHave key (w.now ∷ [])
    now-has = All-one (HasKey key) w.now (record {
      kind = w.overwrites.kind ∙ ap (λ (p : Part). p.kind) w.is ∙ its.1;
      name = w.overwrites.name ∙ ap (λ (p : Part). p.name) w.is ∙ its.2;
    })

    -- it has the one part
    alone : parts_at old f DATA name ≡ g.part ∷ []
    alone =
        subst (λ kind. parts_at old f kind name ≡ g.part ∷ []) its.1
        (subst (λ m. parts_at old f g.part.kind m ≡ g.part ∷ []) its.2
        (value-alone old f g.part (sound Extents f) (file old f node there) g.among (ap is_some held.1) no-name))

    pub parts-was : parts_at old f DATA name ≡ with_value g.part value ∷ []
    parts-was = alone ∙ ap (λ (p : Part). p ∷ []) (sym w.is ∙ was-is)

    parts-made : parts_at new f DATA name ≡ parts_made n (w.now ∷ [])
    parts-made = whole.whole old new n w.stored (w.was ∷ []) (w.now ∷ []) w.record_is key own was-has now-has
        (alone ∙ ap (λ (p : Part). p ∷ []) (sym w.is))

    pub parts-now : parts_at new f DATA name ≡ with_value g.part next ∷ []
    parts-now = parts-made ∙ ap (λ (p : Part). p ∷ []) now-is

    -- AN EDIT of one record
    abbrev marks : Marks
    marks = stored_marks old

    right : AreRight old marks
    right = stored-right old sound

    ready : IsReady old marks
    ready = record {
      editable = editable-sound old marks sound right;
      limits = sound Limits;
      bases = bases-of (records_of old) (sound References);
      table = record { table = apart.owners.table; unnamed = apart.unnamed; some = apart.some };
    }

    abbrev part-edit : EditsPart key old new marks marks
    part-edit = (edit-values key old new marks n w.stored (w.was ∷ []) (w.now ∷ []) w.record_is (one-value w.was replaces.was_value)
        (one-value w.now replaces.value)
        (edit-right f n old may-in w.stored (w.was ∷ []) (w.now ∷ []) DATA name (one-value w.now replaces.value) was-has now-has
        (replace-right n old new w.stored w.was w.now w.record_is was-right replaces))).part

    edits : EditsRecord key nothing old new marks marks
    edits = record {
      part = part-edit;
      held = λ none. Contains-nil w.now (subst (λ (xs : List Attribute). Contains xs w.now) none
          (Replaces-came _ _ _ _ w.now w.record_is.attributes_are (Contains-head w.now [])));
      stream = λ other. inr (subst (AreAttribute (cluster_bytes new.layout) f) (sym parts-made)
          (whole.one-value (cluster_bytes new.layout) f (part_of n w.now) (value-content n w.now replaces.value)));
      list = list-same key old new marks marks part-edit ready (λ e. omega (arith, e))
          (ap (λ (p : Part). entries_in (records_of old) (p ∷ [])) now-is
          ∙ entries-same (records_of old) g.part value next
          ∙ sym (ap (λ (p : Part). entries_in (records_of old) (p ∷ [])) was-is));
      costs = put-costs f n old new may-in w.stored w.was w.now w.record_is replaces.no_list replaces.kind replaces.name replaces.was_value
          replaces.value;
    }

    edited : Edited named nothing old new marks marks
    edited = call.edited key nothing old new marks marks edits ready

    -- SO IT IS SOUND: the attribute is none that a clause looks into.
    other-file : (h kind : ℕ) (m : List ℕ) → f ≢ h → named (key_of h kind m) ≡ false
    other-file h kind m ne = and_right (DATA == kind) ((f == h) && bytes_eq name m) (and_left (f == h) (bytes_eq name m) (ne_eqb f h ne))

    bitmap-free : named (key_of CLUSTER_BITMAP DATA []) ≡ false
    bitmap-free = other-file CLUSTER_BITMAP DATA [] (not-bitmap old f node there)

    pub sound-now : IsSound new
    sound-now = sound-behind named nothing old new marks marks edited (λ h. names-kept named old new rewrites h (λ m. refl))
        (other-file UPCASE DATA [] (not-case old f node there))
        (record { root = λ h m. refl; records = λ h m. refl; bits = λ h m. refl })
        (stored-still old new rewrites.layout
        (value-other named old new rewrites CLUSTER_BITMAP DATA [] bitmap-free
        (clusters-kept named old new rewrites apart.owners apart.some CLUSTER_BITMAP DATA [] bitmap-free
        (inr (λ e. omega (arith, e), λ e. omega (arith, e)))))
        (value-other named old new rewrites MFT BITMAP [] refl
        (clusters-kept named old new rewrites apart.owners apart.some MFT BITMAP [] refl (inl (λ e. omega (arith, e))))))
        sound
