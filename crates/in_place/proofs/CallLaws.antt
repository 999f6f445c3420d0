-- THE CALLS THAT WRITE IN PLACE are rewrites: of a value in its record, and of clusters of an attribute.
use Rattle.std.proofs.Common.{◌≡◌, ◌+◌, ◌≤◌, ◌==◌, not, ℕ, Bool, true, cond, List, [], ◌∷◌, length, replicate}
use Rattle.std.proofs.Common.{filter, map, refl, sym, ap, subst, inl, inr, ◌∙◌, arith, length-append, length-drop}
use Rattle.std.proofs.lemmas.Bool.{and_from, cases_eq, eq-eqb}
use Rattle.std.proofs.lemmas.List.{length-take}
use Rattle.std.proofs.lemmas.Slice.Eq.{bytes_eq-Decides}
use Rattle.std.specs.List.{Contains}
use Rattle.std.specs.Option.{option_map}
use Rattle.std.specs.Prelude.{IsSomeAnd, slice_index}
use Rattle.ntfs_def.specs.Attribute.{Attribute, Body, NonResident, Resident, attributes, value_of}
use Rattle.ntfs_def.specs.Fixup.{opened_of}
use Rattle.volume_def.specs.Files.{Part, content_of, content_value, file_of, parts, parts_at, records_of}
use Rattle.volume_def.specs.Values.{spot_at}
use Rattle.volume_def.specs.View.{VolumeView}
use Rattle.volume_def.proofs.PartLaws.{IsPart-Contains, NameHolders-view, record_at-block}
use Rattle.list_laws.specs.Replaces.{Replaces}
use Rattle.list_laws.proofs.ReplacesLaws.{Replaces-filter, Replaces-itself, Replaces-map}
use Rattle.volume_edits.specs.Clusters.{ChangesStream}
use Rattle.file_record.specs.Values.{overwritten}
use Rattle.file_record.specs.Written.{HoldsBytes, OverwritesValue, WritesBytes}
use Rattle.session_def.specs.Forms.{indexed_in, unit_in}
use Rattle.session_def.specs.EditDefKept.{Key, key_of, same_key}
use Rattle.in_place.specs.Blank.{blank_body, outline_of}
use Rattle.in_place.specs.InPlace.{Rewrites, RewritesAttributes, RewritesBlock, file_in, is_other}

pub same-key : (f kind : ℕ) (name : List ℕ) → same_key (key_of f kind name) (key_of f kind name) ≡ true
same-key f kind name =
    and_from (kind == kind) _ (eq-eqb kind kind refl)
    (and_from (f == f) _ (eq-eqb f f refl) ((bytes_eq-Decides name name).1 refl))

-- A VALUE with bytes in place of others is as long.
overwritten-length : (value : List ℕ) (at : ℕ) (from : List ℕ) → at + length from ≤ length value
    → length (overwritten value at from) ≡ length value
overwritten-length value at from fits = simp (length-append, length-take, length-drop) (omega arith)

outline-same : (was now : Attribute) (v u : List ℕ) → was.body ≡ Resident v → now.body ≡ Resident u → length u ≡ length v
    → now.kind ≡ was.kind
    → now.name ≡ was.name → now.id ≡ was.id → now.flags ≡ was.flags → slice_index now.bytes 0x16 ≡ slice_index was.bytes 0x16
    → outline_of now ≡ outline_of was
outline-same was now v u b c long kind name id flags indexed =
    let body : blank_body now.body ≡ blank_body was.body = ap blank_body c ∙ ap (λ n. Resident (replicate n 0)) long
    ∙ sym (ap blank_body b) in
    let flag : indexed_in now.bytes now.body ≡ indexed_in was.bytes was.body = ap (indexed_in now.bytes) c ∙ indexed
    ∙ sym (ap (indexed_in was.bytes) b) in
    let unit : unit_in now.bytes now.body ≡ unit_in was.bytes was.body = ap (unit_in now.bytes) c ∙ sym (ap (unit_in was.bytes) b) in
    λ i. record {
      id = id i;
      flags = flags i;
      form = record { kind = kind i; name = name i; indexed = flag i; unit = unit i };
      body = body i;
    }

outline-overwritten : (was now : Attribute) (at : ℕ) (from : List ℕ) → OverwritesValue was now at from
    → IsSomeAnd (content_value (content_of was.body)) (λ value. at + length from ≤ length value) → outline_of now ≡ outline_of was
outline-overwritten was now at from o holds = by was.body now.body refl refl holds o.value
  where
    by : (b c : Body) → was.body ≡ b → now.body ≡ c → IsSomeAnd (content_value (content_of b)) (λ value. at + length from ≤ length value)
        → value_of c ≡ option_map (λ value. overwritten value at from) (value_of b) → outline_of now ≡ outline_of was
    by (NonResident extent text) c p q holds e = absurd holds
    by (Resident v) (NonResident extent text) p q holds e = cc
    by (Resident v) (Resident u) p q holds e =
        let same : u ≡ overwritten v at from = cc in
        outline-same was now v u p q (ap length same ∙ overwritten-length v at from holds) o.kind o.name o.id o.flags o.indexed

-- the attributes of its record
pub attributes-written : (changed : Key → Bool) (f : ℕ) (olds news : List Attribute) (was now : Attribute)
    → Replaces olds news (was ∷ []) (now ∷ [])
    → outline_of now ≡ outline_of was → changed (key_of f was.kind was.name) ≡ true → changed (key_of f now.kind now.name) ≡ true
    → RewritesAttributes changed f olds news
attributes-written changed f olds news was now r outline before after = record {
  outlines = Replaces-itself (map outline_of olds) (map outline_of news) (outline_of was ∷ []) (outline_of now ∷ [])
      (ap (λ o. o ∷ []) (sym outline)) (Replaces-map outline_of olds news (was ∷ []) (now ∷ []) r);
  others = Replaces-itself (filter (is_other changed f) olds) (filter (is_other changed f) news) (filter (is_other changed f) (was ∷ []))
      (filter (is_other changed f) (now ∷ [])) (none was before ∙ sym (none now after))
      (Replaces-filter (is_other changed f) olds news (was ∷ []) (now ∷ []) r);
}
  where
    none : (x : Attribute) → changed (key_of f x.kind x.name) ≡ true → filter (is_other changed f) (x ∷ []) ≡ []
    none x named = ap (λ b. cond (not b) (x ∷ []) []) named

module _ (old new : VolumeView) (part : Part) (at : ℕ) (from : List ℕ) (f : ℕ) (w : WritesBytes old new part at from)
    (among : Contains (parts (records_of old) f) part) (holds : HoldsBytes at (length from) part) where
  abbrev changed : Key → Bool
  changed = same_key (key_of f part.kind part.name)

  abbrev n : ℕ
  n = part.holder

  file-held : file_in n (old.block n) ≡ f
  file-held =
      let held = IsPart-Contains (records_of old) f part (NameHolders-view old) among in
      ap (file_of n) (record_at-block old n held.record_there held.held) ∙ held.file

  named-at : (kind : ℕ) (name : List ℕ) → kind ≡ part.kind → name ≡ part.name → changed (key_of (file_in n (old.block n)) kind name) ≡ true
  named-at kind name k m =
      ap (λ f. changed (key_of f kind name)) file-held ∙ ap (λ kind. changed (key_of f kind name)) k
      ∙ ap (λ name. changed (key_of f part.kind name)) m
      ∙ same-key f part.kind part.name

  block-written : RewritesBlock changed n (old.block n) w.stored
  block-written =
      let kind : w.was.kind ≡ part.kind = ap (λ (p : Part). p.kind) w.is in
      let name : w.was.name ≡ part.name = ap (λ (p : Part). p.name) w.is in
      let inside : IsSomeAnd (content_value (content_of w.was.body)) (λ value. at + length from ≤ length value) =
      subst (λ (p : Part). IsSomeAnd (content_value p.content) (λ value. at + length from ≤ length value)) (sym w.is) holds in
      record {
        used = w.record_is.used;
        used_still = w.record_is.used_still;
        header = w.header_is;
        attributes_are = attributes-written changed (file_in n (old.block n)) (attributes (opened_of (old.block n))) (attributes
            (opened_of w.stored))
            w.was w.now w.record_is.attributes_are (outline-overwritten w.was w.now at from w.overwrites inside)
            (named-at w.was.kind w.was.name kind name) (named-at w.now.kind w.now.name (w.overwrites.kind ∙ kind) (w.overwrites.name
            ∙ name));
        kind = part.kind;
        name = part.name;
        named = named-at part.kind part.name refl refl;
      }

  -- BYTES WERE WRITTEN INTO A VALUE.
  pub written : Rewrites changed old new
  written = record {
    told = w.record_is.replaces.told;
    layout = w.record_is.replaces.layout;
    rest = w.record_is.replaces.rest;
    blocks = λ m. elim (cases_eq m n) [
      | inl e ↦ inr (here m e)
      | inr other ↦ inl (record { block = w.record_is.replaces.blocks m other; copy = λ few. w.record_is.replaces.copies m few other })
    ];
    clusters = λ c out free. w.record_is.replaces.clusters c out;
  }
    where
      here : (m : ℕ) → m ≡ n → RewritesBlock changed m (old.block m) (new.block m)
      here m e =
          subst (λ m. RewritesBlock changed m (old.block m) (new.block m)) (sym e)
          (subst (RewritesBlock changed n (old.block n)) (sym (w.record_is.replaces.block w.record_is.told)) block-written)

-- BYTES WERE WRITTEN INTO CLUSTERS of an attribute.
pub streamed : (old new : VolumeView) (f kind : ℕ) (name : List ℕ) → ChangesStream old new (spot_at (parts_at old f kind name))
    → Rewrites (same_key (key_of f kind name)) old new
streamed old new f kind name s = record {
  told = s.told;
  layout = s.layout;
  rest = s.rest;
  blocks = λ n. inl (record { block = s.blocks n; copy = s.copies n });
  clusters = λ c out free. s.clusters c (free f kind name (same-key f kind name));
}
