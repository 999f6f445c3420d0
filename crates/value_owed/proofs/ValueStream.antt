-- THE STREAM before and behind its edit: one part, then one or none, which lies in no cluster that it did not have but those that it may
-- gain, and keeps its flags and sizes as it is to; and so behind the rewrite that came then.
use Rattle.std.proofs.Common.{◌≡◌, ◌⊎◌, ◌==◌, ◌&&◌, ℕ, Bool, true, false, List, [], ◌∷◌, filter, map, Option, Some, None, inl, inr}
use Rattle.std.proofs.Common.{sym, ap, subst, ◌∙◌}
use Rattle.std.specs.List.{Contains}
use Rattle.std.specs.Option.{option_to_list}
use Rattle.std.specs.Prelude.{IfSome, is_some, sum_by}
use Rattle.std.specs.Str.{bytes_eq}
use Rattle.std.proofs.lemmas.Bool.{and_from, and_parts, cases_Bool, eqb-true}
use Rattle.std.proofs.lemmas.Slice.Eq.{bytes_eq-Decides}
use Rattle.list_laws.proofs.FilterLaws.{filter-all, filter-passed}
use Rattle.list_laws.proofs.MemberLaws.{Contains-filter, Contains-from_filter, filter-map}
use Rattle.list_laws.proofs.ReplacesLaws.{Replaces-member}
use Rattle.ntfs_def.specs.Attribute.{Attribute}
use Rattle.ntfs_def.specs.Units.{units_in}
use Rattle.ntfs_def.specs.declared.kinds.TheConstants.{DATA}
use Rattle.volume_def.specs.Files.{Part, is_of, parts, parts_at, records_of}
use Rattle.volume_def.specs.Sound.{IsSound}
use Rattle.volume_def.specs.StreamSize.{told_size}
use Rattle.volume_def.specs.Table.{cluster_bytes}
use Rattle.volume_def.specs.Values.{first_part, spot_at}
use Rattle.volume_def.specs.View.{VolumeView}
use Rattle.volume_def.proofs.RecordLaws.{parts-own_at}
use Rattle.tree_model.specs.StreamRoom.{is_cluster, parts_named}
use Rattle.tree_model.specs.declared.command.Command.{Command}
use Rattle.edit_def.specs.Kept.{Key, key_of, same_key}
use Rattle.edit_def.specs.Purses.{run_size}
use Rattle.record_edits.specs.RecordEdit.{parts_made}
use Rattle.session_def.specs.Done.{may_own}
use Rattle.session_def.specs.Nodes.{KeepsStream, has_hole}
use Rattle.value_edits.specs.Blank.{blank_part}
use Rattle.value_edits.specs.InPlace.{Rewrites}
use Rattle.value_edits.specs.Unnamed.{LiesApart}
use Rattle.value_edits.proofs.SameRecords as records
use Rattle.value_edits.proofs.StreamSame.{holes-same}
use Rattle.value_edits.specs.ValueEdits.{ComesInPlace, EditsAlone}
use Rattle.value_owed.proofs.SaysSame.{SaysSame, keeps-same, says-same}
use Rattle.value_owed.proofs.ValueSame as same
use Rattle.value_owed.proofs.ValueSame.{never}

module _ (f : ℕ) (name : List ℕ) (old mid : VolumeView) (sound : IsSound old) (apart : LiesApart old)
    {gains : ℕ → Bool} (e : EditsAlone (key_of f DATA name) gains old mid)
    (alone : parts_named old f (units_in name) ≡ parts_at old f DATA name) where
  abbrev pub key : Key
  key = key_of f DATA name

  stands : parts_at mid f DATA name ≡ parts_made f (option_to_list e.now)
  stands = same.stands key old mid sound apart e

  -- IT GAINS no cluster but those that it may, and no hole that it had not
  spots-more : (now : Option Attribute) → IfSome now (ComesInPlace old f gains (sum_by run_size e.taken) e.was) → (vcn : ℕ)
      → is_cluster (spot_at (parts_made f (option_to_list now)) vcn) ≡ true
      → (is_cluster (spot_at (parts_made f (e.was ∷ [])) vcn) ≡ true) ⊎ (gains vcn ≡ true)
  spots-more None comes vcn is = cc
  spots-more (Some now) comes vcn is = comes.spots vcn is

  holes-less : (now : Option Attribute) → IfSome now (ComesInPlace old f gains (sum_by run_size e.taken) e.was)
      → has_hole (parts_made f (option_to_list now)) ≡ true → has_hole (parts_made f (e.was ∷ [])) ≡ true
  holes-less None comes is = cc
  holes-less (Some now) comes is = comes.holes is

  pub spots-stood : (vcn : ℕ) → is_cluster (spot_at (parts_at mid f DATA name) vcn) ≡ true
      → (is_cluster (spot_at (parts_at old f DATA name) vcn) ≡ true) ⊎ (gains vcn ≡ true)
  spots-stood vcn is =
      elim (spots-more e.now e.comes vcn (sym (ap (λ xs. is_cluster (spot_at xs vcn)) stands) ∙ is)) [
        | inl had ↦ inl (ap (λ xs. is_cluster (spot_at xs vcn)) e.stood ∙ had)
        | inr got ↦ inr got
      ]

  holes-stood : has_hole (parts_at mid f DATA name) ≡ true → has_hole (parts_at old f DATA name) ≡ true
  holes-stood is = ap has_hole e.stood ∙ holes-less e.now e.comes (sym (ap has_hole stands) ∙ is)

  -- by its type and name, however they are given
  its-at : (view : VolumeView) (g kind : ℕ) (other : List ℕ) → same_key key (key_of g kind other) ≡ true
      → parts_at view g kind other ≡ parts_at view f DATA name
  its-at view g kind other its =
      let one = and_parts (DATA == kind) _ its in
      let two = and_parts (f == g) (bytes_eq name other) one.1 in
      λ i. parts_at view (sym (eqb-true f g two.0) i) (sym (eqb-true DATA kind one.0) i) (sym ((bytes_eq-Decides name other).0 two.1) i)

  -- BY THE UNITS OF ITS NAME it is found alone still.
  abbrev by_units : Part → Bool
  by_units x = (x.kind == DATA) && bytes_eq (units_in x.name) (units_in name)

  own-units : (x : Part) → is_of DATA name x ≡ true → by_units x ≡ true
  own-units x is =
      let both = and_parts (x.kind == DATA) (bytes_eq x.name name) is in
      and_from (x.kind == DATA) (bytes_eq (units_in x.name) (units_in name)) both.0
      ((bytes_eq-Decides (units_in x.name) (units_in name)).1 (ap units_in ((bytes_eq-Decides x.name name).0 both.1)))

  came-own : (x : Part) → Contains (parts (records_of mid) f) x → by_units x ≡ true → is_of DATA name x ≡ true
  came-own x c is =
      let p = same.part key old mid sound apart e in
      elim (Replaces-member _ _ _ _ x
      (parts-own_at (records_of old) (records_of mid) p.n f _ _ (same.edit key old mid sound apart e) p.file) c) [
        | inl there ↦
            (Contains-from_filter (is_of DATA name) (parts (records_of old) f) x
            (subst (λ xs. Contains xs x) alone (Contains-filter by_units (parts (records_of old) f) x there is))).1
        | inr came ↦
            let named = same.now-named key old mid sound apart e x came in
            let kind = and_parts (DATA == x.kind) _ named in
            let file = and_parts _ (bytes_eq name x.name) kind.1 in
            and_from (x.kind == DATA) (bytes_eq x.name name) (and_parts (x.kind == DATA) _ is).0
            ((bytes_eq-Decides x.name name).1 (sym ((bytes_eq-Decides name x.name).0 file.1)))
      ]

  alone-still : parts_named mid f (units_in name) ≡ parts_at mid f DATA name
  alone-still =
      let all = parts (records_of mid) f in
      sym (filter-all (is_of DATA name) (filter by_units all) (λ x c.
      let its = Contains-from_filter by_units all x c in came-own x its.0 its.1))
      ∙ filter-passed (is_of DATA name) by_units all own-units

  -- BEHIND what came then, which is a rewrite
  module _ (changed : Key → Bool) (next : VolumeView) (w : Rewrites changed mid next) where
    abbrev was : List Part
    was = parts_named old f (units_in name)

    abbrev now : List Part
    now = parts_named next f (units_in name)

    named-blank : map blank_part now ≡ map blank_part (parts_named mid f (units_in name))
    named-blank =
        sym (filter-map blank_part by_units (parts (records_of next) f))
        ∙ ap (filter by_units) (records.parts-same changed mid next w f)
        ∙ filter-map blank_part by_units (parts (records_of mid) f)

    says : SaysSame (parts_at mid f DATA name) now
    says = says-same (parts_at mid f DATA name) now (named-blank ∙ ap (map blank_part) alone-still)

    pub size-next : cluster_bytes next.layout ≡ cluster_bytes old.layout
    size-next = ap cluster_bytes w.layout ∙ same.size key old mid sound apart e

    -- the stream has gained no other cluster ..
    pub spots-behind : (vcn : ℕ) → is_cluster (spot_at now vcn) ≡ true → (is_cluster (spot_at was vcn) ≡ true) ⊎ (gains vcn ≡ true)
    spots-behind vcn is = elim (spots-stood vcn (sym (ap is_cluster (says.spots vcn)) ∙ is)) [
      | inl had ↦ inl (ap (λ xs. is_cluster (spot_at xs vcn)) alone ∙ had)
      | inr got ↦ inr got
    ]

    -- .. and owns those that it owned
    pub owned-behind : (command : Command)
        → ((vcn : ℕ) → is_cluster (spot_at (parts_at mid f DATA name) vcn) ≡ true
        → may_own (cluster_bytes old.layout) command (told_size (first_part (parts_at mid f DATA name))) vcn ≡ true)
        → (vcn : ℕ) → is_cluster (spot_at now vcn) ≡ true
        → may_own (cluster_bytes next.layout) command (told_size (first_part now)) vcn ≡ true
    owned-behind command owned vcn is =
        ap (λ n. may_own n command (told_size (first_part now)) vcn) size-next
        ∙ ap (λ n. may_own (cluster_bytes old.layout) command n vcn) says.size
        ∙ owned vcn (sym (ap is_cluster (says.spots vcn)) ∙ is)

    -- none but this stream has gained one, and it has the size that it had between
    pub gained-behind : (g kind : ℕ) (other : List ℕ) (vcn : ℕ) → is_cluster (spot_at (parts_at next g kind other) vcn) ≡ true
        → is_cluster (spot_at (parts_at old g kind other) vcn) ≡ false
        → (gains vcn ≡ true)
        × (told_size (first_part (parts_at next g kind other)) ≡ told_size (first_part (parts_at mid f DATA name)))
    gained-behind g kind other vcn is none = elim (cases_Bool (same_key key (key_of g kind other))) [
      | inr free ↦ absurd (never (sym (ap (λ xs. is_cluster (spot_at xs vcn)) (same.at-same key old mid sound apart e g kind other free))
          ∙ sym (ap is_cluster (records.spots-same changed mid next w g kind other vcn)) ∙ is) none)
      | inl its ↦
          let lies = sym (ap (λ xs. is_cluster (spot_at xs vcn)) (its-at mid g kind other its))
          ∙ sym (ap is_cluster (records.spots-same changed mid next w g kind other vcn)) ∙ is in
          let told = (says-same (parts_at mid g kind other) (parts_at next g kind other)
          (records.at-same changed mid next w g kind other)).size
          ∙ ap (λ xs. told_size (first_part xs)) (its-at mid g kind other its) in
          elim (spots-stood vcn lies) [
            | inl had ↦ absurd (never (ap (λ xs. is_cluster (spot_at xs vcn)) (its-at old g kind other its) ∙ had) none)
            | inr got ↦ (got, told)
          ]
    ]

    -- none has a hole that had none
    pub holes-none : (g kind : ℕ) (other : List ℕ) → has_hole (parts_at next g kind other) ≡ true
        → has_hole (parts_at old g kind other) ≡ false → ⊥
    holes-none g kind other is none = elim (cases_Bool (same_key key (key_of g kind other))) [
      | inr free ↦
          never (sym (ap has_hole (same.at-same key old mid sound apart e g kind other free))
          ∙ sym (holes-same changed mid next w g kind other) ∙ is) none
      | inl its ↦
          never (ap has_hole (its-at old g kind other its)
          ∙ holes-stood (sym (ap has_hole (its-at mid g kind other its)) ∙ sym (holes-same changed mid next w g kind other) ∙ is)) none
    ]

    -- it is kept, where it is there still
    keeps-made : (after : Option Attribute) → IfSome after (ComesInPlace old f gains (sum_by run_size e.taken) e.was)
        → is_some (first_part (parts_made f (option_to_list after))) ≡ true
        → KeepsStream old (parts_made f (e.was ∷ [])) (parts_made f (option_to_list after))
    keeps-made None comes there = cc
    keeps-made (Some after) comes there = comes.keeps

    pub stream-keeps : is_some (first_part now) ≡ true → KeepsStream next was now
    stream-keeps there =
        keeps-same old next was (parts_at mid f DATA name) now size-next says
        (subst (λ xs. KeepsStream old xs (parts_at mid f DATA name)) (sym (alone ∙ e.stood))
        (subst (KeepsStream old (parts_made f (e.was ∷ []))) (sym stands)
        (keeps-made e.now e.comes (sym (ap (λ xs. is_some (first_part xs)) stands) ∙ sym says.there ∙ there))))
