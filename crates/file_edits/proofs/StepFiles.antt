-- WHAT STEPS LEAVE OF FILES: their numbers, and their names in whatever order.
use Rattle.std.proofs.Common.{◌≡◌, ◌+◌, ◌==◌, ◌&&◌, ℕ, Bool, false, cond, List, [], ◌∷◌, map, Option, Some, None}
use Rattle.std.proofs.Common.{refl, sym, ap, subst, ◌∙◌, inl, inr, arith}
use Rattle.std.specs.List.{cons_option, filter_map}
use Rattle.std.specs.Option.{option_map, option_map_or}
use Rattle.std.specs.Prelude.{count_by, filter}
use Rattle.std.proofs.lemmas.Bool.{cases_eq}
use Rattle.ntfs_def.specs.FileName.{FileName, name_in}
use Rattle.ntfs_def.specs.declared.kinds.TheConstants.{FILE_NAME}
use Rattle.list_laws.specs.SameItems.{SameItems}
use Rattle.list_laws.proofs.FindLaws.{count-cons, count-no}
use Rattle.list_laws.proofs.SameItemsLaws.{SameItems-same, count-filter, count-map}
use Rattle.volume_def.specs.Edits.{Said, said_by}
use Rattle.volume_def.specs.FileNames.{is_file_name, names_among, names_of}
use Rattle.volume_def.specs.Files.{Part, Records, content_value, parts, records_of}
use Rattle.volume_def.specs.View.{VolumeView}
use Rattle.volume_def.proofs.RecordLaws.{parts-freed, parts-moved, parts-taken}
use Rattle.edit_def.specs.Kept.{Key}
use Rattle.edit_def.specs.Marks.{Marks}
use Rattle.edit_def.specs.Names.{KeepsNames, numbers_at, numbers_by, numbers_in}
use Rattle.record_edits.specs.InPlace.{WritesInPlace}
use Rattle.record_edits.proofs.FileEdits.{numbers-edit}
use Rattle.record_edits.proofs.PlaceEdits.{same}
use Rattle.file_edits.specs.Steps.{FreesExtension, MovesAttribute, TakesExtension}
use Rattle.file_edits.proofs.MoveSteps as moved
use Rattle.file_edits.proofs.RecordGone as freed
use Rattle.file_edits.proofs.RecordSteps as taken

-- NAMES are told by what parts say.
count-given : {X Y : Type 0} (h : X → Option Y) (p : Y → Bool) (xs : List X)
    → count_by p (filter_map h xs) ≡ count_by (λ x. option_map_or p (h x) false) xs
count-given h p [] = refl
count-given {X = X} {Y = Y} h p (x ∷ xs) = by (count-given h p xs) (h x) refl
  where
    by : count_by p (filter_map h xs) ≡ count_by (λ x. option_map_or p (h x) false) xs → (o : Option Y) → h x ≡ o
        → count_by p (cons_option o (filter_map h xs)) ≡ count_by (λ x. option_map_or p (h x) false) (x ∷ xs)
    by rest None e =
        let no = count-no (λ x. option_map_or p (h x) false) x xs (ap (λ o. option_map_or p o false) e) in
        omega (arith, rest, no)
    by rest (Some y) e =
        count-cons p y (filter_map h xs) ∙ ap (λ n. cond (p y) 1 0 + n) rest
        ∙ sym (count-cons (λ x. option_map_or p (h x) false) x xs
        ∙ ap (λ o. cond (option_map_or p o false) 1 0 + count_by (λ x. option_map_or p (h x) false) xs) e)

abbrev is_name_said : (FileName → Bool) → Said → Bool
is_name_said p said = (said.kind == FILE_NAME) && option_map_or p (option_map name_in (content_value said.content)) false

names-count : (p : FileName → Bool) (all : List Part) → count_by p (names_among all) ≡ count_by (is_name_said p) (map said_by all)
names-count p all =
    count-given (λ (part : Part). option_map name_in (content_value part.content)) p (filter is_file_name all)
    ∙ count-filter is_file_name (λ (part : Part). option_map_or p (option_map name_in (content_value part.content)) false) all
    ∙ sym (count-map said_by (is_name_said p) all)

names-said : (old new : Records) (f : ℕ) → SameItems (map said_by (parts old f)) (map said_by (parts new f))
    → SameItems (names_of old f) (names_of new f)
unfolding names_of
names-said old new f h = record {
  counts = λ p. names-count p (parts new f) ∙ h.counts (is_name_said p) ∙ sym (names-count p (parts old f));
}

names-parts : (old new : Records) (f : ℕ) → parts new f ≡ parts old f → SameItems (names_of old f) (names_of new f)
names-parts old new f e = names-said old new f (SameItems-same _ _ (ap (map said_by) (sym e)))

-- THE STEPS
pub names-moved : (f : ℕ) (old new : VolumeView) → MovesAttribute f old new → (g : ℕ) → KeepsNames (records_of old) (records_of new) g
names-moved f old new t g = record {
  numbers = numbers-edit (records_of t.mid) (records_of new) t.to [] (moved.now f old new t ∷ []) (moved.comes f old new t) g
      ∙ numbers-edit (records_of old) (records_of t.mid) t.from (moved.was f old new t ∷ []) [] (moved.leaves f old new t) g;
  names = elim (cases_eq f g) [
    | inr other ↦ names-parts (records_of old) (records_of new) g (moved.unmoved f old new t g other)
    | inl own ↦ subst (λ k. SameItems (names_of (records_of old) k) (names_of (records_of new) k)) (t.file_from ∙ own)
        (names-said (records_of old) (records_of new) _ (parts-moved (records_of old) (records_of new) t.from t.to
        (moved.was f old new t) (moved.now f old new t) (moved.moves f old new t)))
  ];
}

pub names-taken : (f : ℕ) (old new : VolumeView) (before after : Marks) → TakesExtension f old new before after → (g : ℕ)
    → KeepsNames (records_of old) (records_of new) g
names-taken f old new before after t g = record {
  numbers = elim (cases_eq g t.n) [
    | inr ne ↦ ap numbers_by (taken.other-at f old new before after t g ne)
    | inl same ↦ ap (numbers_at (records_of new)) same ∙ ap numbers_by (taken.now-at f old new before after t)
        ∙ ap (λ b. cond b (Some (numbers_in (taken.now_record f old new before after t))) None) (taken.extension f old new before after t)
        ∙ sym (ap numbers_by t.free) ∙ sym (ap (numbers_at (records_of old)) same)
  ];
  names = names-parts (records_of old) (records_of new) g (parts-taken (records_of old) (records_of new) t.n g
      (taken.takes f old new before after t));
}

pub names-freed : (f : ℕ) (old new : VolumeView) (before after : Marks) → FreesExtension f old new before after → (g : ℕ)
    → KeepsNames (records_of old) (records_of new) g
names-freed f old new before after t g = record {
  numbers = elim (cases_eq g t.n) [
    | inr ne ↦ ap numbers_by (freed.other-at f old new before after t g ne)
    | inl same ↦ ap (numbers_at (records_of new)) same ∙ ap numbers_by (freed.now-at f old new before after t)
        ∙ sym (ap (λ b. cond b (Some (numbers_in (freed.was_record f old new before after t))) None) t.extension)
        ∙ sym (ap numbers_by (freed.was-at f old new before after t)) ∙ sym (ap (numbers_at (records_of old)) same)
  ];
  names = names-parts (records_of old) (records_of new) g (parts-freed (records_of old) (records_of new) t.n g
      (freed.frees f old new before after t));
}

pub names-written : (changed : Key → Bool) (old new : VolumeView) → WritesInPlace changed old new → (g : ℕ)
    → KeepsNames (records_of old) (records_of new) g
names-written changed old new w g = record {
  numbers = ap (λ records. numbers_at records g) (same changed old new w);
  names = SameItems-same _ _ (ap (λ records. names_of records g) (sym (same changed old new w)));
}
