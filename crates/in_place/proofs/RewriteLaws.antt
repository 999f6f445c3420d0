-- REWRITES ONE AFTER ANOTHER are one, and one that names less names more.
use Rattle.std.proofs.Common.{◌≡◌, ◌⊎◌, ◌||◌, ℕ, Bool, true, false, not, List, filter, inl, inr, refl, sym, ap, subst, ◌∙◌}
use Rattle.std.specs.Prelude.{unwrap_or}
use Rattle.std.specs.Option.{option_map}
use Rattle.ntfs_def.specs.Attribute.{Attribute, attributes}
use Rattle.ntfs_def.specs.Fixup.{opened_of}
use Rattle.ntfs_def.specs.Record.{Header, header_of}
use Rattle.volume_def.specs.Coverage.{IsOutsideTable}
use Rattle.volume_def.specs.View.{VolumeView}
use Rattle.list_laws.proofs.FilterLaws.{filter-passed, filter-swap}
use Rattle.session_def.specs.EditDefKept.{Key, either, key_of}
use Rattle.session_def.proofs.KeptLaws.{filter-twice}
use Rattle.in_place.specs.InPlace.{KeepsBlock, Rewrites, RewritesAttributes, RewritesBlock, file_in, is_other}
use Rattle.record_edits.specs.InPlace.{IsUnnamed}
use Rattle.in_place.proofs.SameRecords.{spots-same}

pub Rewrites-same : (changed : Key → Bool) (view : VolumeView) → Rewrites changed view view
Rewrites-same changed view = record {
  told = refl;
  layout = refl;
  rest = λ k. refl;
  blocks = λ n. inl (record { block = refl; copy = λ few. refl });
  clusters = λ c out free. refl;
}

-- WHERE b names all that a does.
pub named-more : (a b : Key → Bool) → ((key : Key) → b key ≡ false → a key ≡ false) → (key : Key) → a key ≡ true → b key ≡ true
named-more a b less key named = by (b key) refl
  where
    by : (v : Bool) → b key ≡ v → b key ≡ true
    by true e = e
    by false e = let never : true ≡ false = sym named ∙ less key e in cc

attributes-more : (a b : Key → Bool) (f : ℕ) (was now : List Attribute) → ((key : Key) → b key ≡ false → a key ≡ false)
    → RewritesAttributes a f was now → RewritesAttributes b f was now
attributes-more a b f was now less r = record {
  outlines = r.outlines;
  others = sym (again now) ∙ ap (filter (is_other b f)) r.others ∙ again was;
}
  where
    not-true : (v : Bool) → not v ≡ true → v ≡ false
    not-true true e = cc
    not-true false e = refl

    again : (xs : List Attribute) → filter (is_other b f) (filter (is_other a f) xs) ≡ filter (is_other b f) xs
    again xs =
        filter-passed (is_other b f) (is_other a f) xs (λ x e. ap not (less (key_of f x.kind x.name) (not-true (b
        (key_of f x.kind x.name)) e)))

block-more : (a b : Key → Bool) (n : ℕ) (was now : List ℕ) → ((key : Key) → b key ≡ false → a key ≡ false)
    → RewritesBlock a n was now → RewritesBlock b n was now
block-more a b n was now less r = record {
  used = r.used;
  used_still = r.used_still;
  header = r.header;
  attributes_are = attributes-more a b (file_in n was) (attributes (opened_of was)) (attributes (opened_of now)) less r.attributes_are;
  kind = r.kind;
  name = r.name;
  named = named-more a b less (key_of (file_in n was) r.kind r.name) r.named;
}

pub Rewrites-more : (a b : Key → Bool) (old new : VolumeView) → ((key : Key) → b key ≡ false → a key ≡ false) → Rewrites a old new
    → Rewrites b old new
Rewrites-more a b old new less w = record {
  told = w.told;
  layout = w.layout;
  rest = w.rest;
  blocks = λ n. elim (w.blocks n) [
    | inl kept ↦ inl kept
    | inr r ↦ inr (block-more a b n (old.block n) (new.block n) less r)
  ];
  clusters = λ c out free. w.clusters c out (λ f kind name named. free f kind name (named-more a b less (key_of f kind name) named));
}

-- ONE AFTER ANOTHER.
pub file-same : (n : ℕ) (was now : List ℕ) → header_of (opened_of now) ≡ header_of (opened_of was) → file_in n now ≡ file_in n was
file-same n was now e = ap (λ (h : Header). unwrap_or (option_map (λ base. base.number) h.base) n) e

attributes-then : (a b : Key → Bool) (f : ℕ) (was between now : List Attribute) → RewritesAttributes a f was between
    → RewritesAttributes b f between now → RewritesAttributes (either a b) f was now
attributes-then a b f was between now x y = record {
  outlines = y.outlines ∙ x.outlines;
  others = sym (both now) ∙ filter-swap (is_other b f) (is_other a f) now ∙ ap (filter (is_other a f)) y.others
      ∙ filter-swap (is_other a f) (is_other b f) between ∙ ap (filter (is_other b f)) x.others ∙ both was;
}
  where
    both : (xs : List Attribute) → filter (is_other b f) (filter (is_other a f) xs) ≡ filter (is_other (either a b) f) xs
    both xs = filter-twice (λ (x : Attribute). a (key_of f x.kind x.name)) (λ (x : Attribute). b (key_of f x.kind x.name)) xs

or-false : (x y : Bool) → (x || y) ≡ false → (x ≡ false) × (y ≡ false)
or-false true y e = cc
or-false false y e = (refl, e)

pub first-less : (a b : Key → Bool) (key : Key) → either a b key ≡ false → a key ≡ false
first-less a b key e = (or-false (a key) (b key) e).0

pub second-less : (a b : Key → Bool) (key : Key) → either a b key ≡ false → b key ≡ false
second-less a b key e = (or-false (a key) (b key) e).1

block-then : (a b : Key → Bool) (n : ℕ) (was between now : List ℕ) → RewritesBlock a n was between → RewritesBlock b n between now
    → RewritesBlock (either a b) n was now
block-then a b n was between now x y = record {
  used = x.used;
  used_still = y.used_still;
  header = y.header ∙ x.header;
  attributes_are =
      attributes-then a b (file_in n was) (attributes (opened_of was)) (attributes (opened_of between)) (attributes
      (opened_of now)) x.attributes_are
      (subst (λ f. RewritesAttributes b f (attributes (opened_of between)) (attributes (opened_of now))) (file-same n was between x.header)
      y.attributes_are);
  kind = x.kind;
  name = x.name;
  named = named-more a (either a b) (first-less a b) (key_of (file_in n was) x.kind x.name) x.named;
}

pub Rewrites-then : (a b : Key → Bool) (old mid new : VolumeView) → Rewrites a old mid → Rewrites b mid new → Rewrites (either a b) old new
Rewrites-then a b old mid new x y = record {
  told = y.told ∙ x.told;
  layout = y.layout ∙ x.layout;
  rest = λ k. y.rest k ∙ x.rest k;
  blocks = λ n. by n (x.blocks n) (y.blocks n);
  clusters = λ c out free.
      y.clusters c (subst (λ layout. IsOutsideTable layout c) (sym x.layout) out) (second c free)
      ∙ x.clusters c out (λ f kind name named. free f kind name (named-more a (either a b) (first-less a b) (key_of f kind name) named));
}
  where
    second : (c : ℕ) → IsUnnamed (either a b) old c → IsUnnamed b mid c
    second c free f kind name named vcn at =
        free f kind name (named-more b (either a b) (second-less a b) (key_of f kind name) named) vcn
        (sym (spots-same a old mid x f kind name vcn) ∙ at)

    by : (n : ℕ) → KeepsBlock old mid n ⊎ RewritesBlock a n (old.block n) (mid.block n)
        → KeepsBlock mid new n ⊎ RewritesBlock b n (mid.block n) (new.block n)
        → KeepsBlock old new n ⊎ RewritesBlock (either a b) n (old.block n) (new.block n)
    by n (inl p) (inl q) = inl (record { block = q.block ∙ p.block; copy = λ few. q.copy few ∙ p.copy few })
    by n (inl p) (inr q) =
        inr (block-more b (either a b) n (old.block n) (new.block n) (second-less a b)
        (subst (λ block. RewritesBlock b n block (new.block n)) p.block q))
    by n (inr p) (inl q) =
        inr (block-more a (either a b) n (old.block n) (new.block n) (first-less a b)
        (subst (λ block. RewritesBlock a n (old.block n) block) (sym q.block) p))
    by n (inr p) (inr q) = inr (block-then a b n (old.block n) (mid.block n) (new.block n) p q)
