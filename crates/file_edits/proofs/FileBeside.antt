-- TWO VOLUMES OF WHICH ONE HAS A FILE MORE: what they have alike.
use Rattle.std.proofs.Common.{◌≡◌, ◌≢◌, ◌≤◌, ◌<◌, ◌+◌, ◌-◌, ◌==◌, ℕ, Bool, cond, List, [], ◌∷◌, map}
use Rattle.std.proofs.Common.{filter, Some, None}
use Rattle.std.proofs.Common.{refl, sym, ap, subst, ◌∙◌, inl, inr, arith}
use mathlib.Core.Path.{fun_ext}
use Rattle.std.specs.List.{Contains, flat_map, range_with_len}
use Rattle.std.specs.Option.{option_map_or}
use Rattle.std.specs.Prelude.{IsSome, count_by, is_some, sum_by, unwrap_or}
use Rattle.std.proofs.lemmas.Bool.{cases_eq, cond-false, ne_eqb}
use Rattle.std.proofs.lemmas.List.Elements.{All-contains}
use Rattle.std.proofs.lemmas.List.Sums.{sum_by-cons}
use Rattle.ntfs_def.specs.Attribute.{attributes}
use Rattle.ntfs_def.specs.Fixup.{opened_of}
use Rattle.list_laws.specs.Replaces.{Replaces}
use Rattle.list_laws.proofs.MemberLaws.{Contains-from_flat_map, Contains-from_filter, Contains-head, Contains-later, Contains-nil}
use Rattle.list_laws.proofs.MemberLaws.{nil-from_Contains}
use Rattle.list_laws.proofs.OptionLaws.{none_other}
use Rattle.list_laws.proofs.ReplacesLaws.{Replaces-count, Replaces-filled, Replaces-itself}
use Rattle.volume_def.specs.Coverage.{has_cluster}
use Rattle.volume_def.specs.Edits.{ChangesAt}
use Rattle.volume_def.specs.Files.{Clusters, Content, Part, Record, Value, content_runs, content_value, file_of, joined_runs}
use Rattle.volume_def.specs.Files.{part_runs, parts, parts_in, record_on, records_of}
use Rattle.volume_def.specs.ListsClause.{entries_in, sequence_in}
use Rattle.volume_def.specs.OwnersClause.{all_runs, record_runs, times_owned}
use Rattle.volume_def.specs.Table.{TableLayout}
use Rattle.volume_def.specs.View.{VolumeView}
use Rattle.volume_def.proofs.EntryLaws.{entries_in-same}
use Rattle.volume_def.proofs.PartLaws.{IsPart-Contains, NameHolders-view}
use Rattle.volume_def.proofs.RecordLaws.{parts-Replaces, parts_in-other, parts_in-own, parts_in-unused}
use Rattle.edit_def.specs.Forms.{attributes_on, begins, form_of, forms_of}
use Rattle.edit_def.specs.Purses.{all_chosen, chosen, in_use, one_if, part_size, run_size}
use Rattle.edit_def.proofs.SumLaws.{Replaces-sum, all_chosen-Replaces}
use Rattle.record_edits.proofs.BlockEdits.{base-file}
use Rattle.record_edits.proofs.OwnerEdits.{all_runs-Replaces}
use Rattle.file_edits.specs.Files.{IsPlainFile, IsPlainValue}
use Rattle.file_edits.proofs.RoomSteps.{sum-point}

-- A value owns no cluster.
value-runs : (content : Content) → IsSome (content_value content) → unwrap_or (content_runs content) [] ≡ []
value-runs (Value value) is = refl
value-runs (Clusters extent runs) is = cc

-- `hi` has file f in one record, and `lo` has no record of it. All else of the records is the same.
pub record HasMore (f : ℕ) (lo hi : VolumeView) : Type 0 where
  pub layout : hi.layout ≡ lo.layout
  pub inside : f < lo.layout.count
  pub blocks : (m : ℕ) → m ≢ f → hi.block m ≡ lo.block m
  pub others : (m : ℕ) → m ≢ f → record_on hi m ≡ record_on lo m
  pub none : record_on lo f ≡ None
  pub there : Record
  pub some : record_on hi f ≡ Some there
  pub plain : IsPlainFile f there
  pub alone : parts (records_of lo) f ≡ []

module _ (f : ℕ) (lo hi : VolumeView) (h : HasMore f lo hi) where
  changes : ChangesAt (records_of lo) (records_of hi) f
  changes = record { count = ap (λ (l : TableLayout). l.count) h.layout; others = h.others }

  pub own-file : file_of f h.there ≡ f
  own-file = base-file f h.there h.plain.base

  -- PARTS
  pub parts-own : parts (records_of hi) f ≡ h.there.parts
  parts-own =
      let was = ap (λ o. parts_in o f f) h.none ∙ parts_in-unused f f in
      let now = ap (λ o. parts_in o f f) h.some ∙ parts_in-own f f h.there own-file in
      let r = parts-Replaces (records_of lo) (records_of hi) f f changes h.inside in
      Replaces-filled (parts (records_of lo) f) (parts (records_of hi) f) h.there.parts h.alone
      (subst (λ xs. Replaces (parts (records_of lo) f) (parts (records_of hi) f) xs h.there.parts) was
      (subst (Replaces (parts (records_of lo) f) (parts (records_of hi) f) (parts_in (record_on lo f) f f)) now r))

  pub parts-other : (g : ℕ) → g ≢ f → parts (records_of hi) g ≡ parts (records_of lo) g
  parts-other g ne =
      let was = ap (λ o. parts_in o f g) h.none ∙ parts_in-unused f g in
      let now = ap (λ o. parts_in o f g) h.some ∙ parts_in-other f g h.there (λ same. ne (sym same ∙ own-file)) in
      Replaces-itself _ _ _ _ (was ∙ sym now) (parts-Replaces (records_of lo) (records_of hi) f g changes h.inside)

  -- WHAT IT OWNS: nothing
  pub no-runs : (part : Part) → Contains h.there.parts part → part_runs part ≡ []
  no-runs part c = value-runs part.content (All-contains IsPlainValue h.there.parts part h.plain.values c).value

  joined-none : joined_runs h.there.parts ≡ []
  joined-none = nil-from_Contains (joined_runs h.there.parts) (λ run c.
      let from = Contains-from_flat_map part_runs h.there.parts run c in
      Contains-nil run (subst (λ xs. Contains xs run) (no-runs from.0 from.1) from.2))

  pub times-same : (c : ℕ) → times_owned (records_of hi) c ≡ times_owned (records_of lo) c
  unfolding times_owned
  times-same c =
      let r = Replaces-count (has_cluster c) (all_runs (records_of lo)) (all_runs (records_of hi)) (record_runs (record_on lo f))
      (record_runs (record_on hi f)) (all_runs-Replaces (records_of lo) (records_of hi) f changes h.inside) in
      let a = ap (λ o. count_by (has_cluster c) (record_runs o)) h.none in
      let b = ap (λ o. count_by (has_cluster c) (record_runs o)) h.some ∙ ap (count_by (has_cluster c)) joined-none in
      omega (arith, r, a, b)

  size-none : (xs : List Part) → ((part : Part) → Contains xs part → Contains h.there.parts part) → sum_by part_size xs ≡ 0
  size-none [] inside = refl
  size-none (x ∷ xs) inside =
      let here = ap (sum_by run_size) (no-runs x (inside x (Contains-head x xs))) in
      omega (arith, sum_by-cons part_size x xs, here, size-none xs (λ part c. inside part (Contains-later x xs part c)))

  pub sums-same : (test : ℕ → Part → Bool) → sum_by part_size (all_chosen test (records_of hi)) ≡ sum_by part_size (all_chosen test
      (records_of lo))
  sums-same test =
      let r = Replaces-sum part_size _ _ _ _ (all_chosen-Replaces test (records_of lo) (records_of hi) f changes h.inside) in
      let a = ap (λ o. sum_by part_size (chosen test f o)) h.none in
      let b = ap (λ o. sum_by part_size (chosen test f o)) h.some in
      let zero = size-none (filter (test (file_of f h.there)) h.there.parts)
      (λ part c. (Contains-from_filter (test (file_of f h.there)) h.there.parts part c).0) in
      omega (arith, r, a, b, zero)

  -- RECORDS IN USE
  pub used-most : in_use (records_of hi) ≤ in_use (records_of lo) + 1
  used-most =
      let count = ap (λ (l : TableLayout). sum_by (λ m. one_if (is_some (record_on hi m))) (range_with_len 24 (l.count - 24))) h.layout in
      let here : one_if (is_some (record_on hi f)) ≡ 1 = ap (λ o. one_if (is_some o)) h.some in
      let point = sum-point (λ m. one_if (is_some (record_on lo m))) (λ m. one_if (is_some (record_on hi m))) f 1 24 (lo.layout.count - 24)
      (λ m ne. ap (λ o. one_if (is_some o)) (h.others m ne)) (omega (arith, here)) in
      omega (arith, count, point)

  pub used-least : in_use (records_of lo) ≤ in_use (records_of hi)
  used-least =
      let count = ap (λ (l : TableLayout). sum_by (λ m. one_if (is_some (record_on hi m))) (range_with_len 24 (l.count - 24))) h.layout in
      let here : one_if (is_some (record_on lo f)) ≡ 0 = ap (λ o. one_if (is_some o)) h.none in
      let point = sum-point (λ m. one_if (is_some (record_on hi m))) (λ m. one_if (is_some (record_on lo m))) f 0 24 (lo.layout.count - 24)
      (λ m ne. ap (λ o. one_if (is_some o)) (sym (h.others m ne))) (omega (arith, here)) in
      omega (arith, count, point)

  -- ENTRIES of lists of other files
  pub entries-other : (g : ℕ) → entries_in (records_of hi) (parts (records_of lo) g) ≡ entries_in (records_of lo) (parts (records_of lo) g)
  entries-other g = entries_in-same (records_of lo) (records_of hi) (parts (records_of lo) g) (λ part c.
      let is = IsPart-Contains (records_of lo) g part (NameHolders-view lo) c in
      ap sequence_in (h.others part.holder (λ same. none_other (sym h.none ∙ sym (ap (record_on lo) same) ∙ is.held))))

  -- HEADERS of other files
  pub forms-other : (g : ℕ) → g ≢ f → forms_of hi g ≡ forms_of lo g
  forms-other g ne =
      ap (λ k. map form_of (filter begins (flat_map k (range_with_len 0 hi.layout.count)))) (fun_ext (λ m. elim (cases_eq m f) [
        | inr other ↦ ap (λ o. option_map_or (λ r. cond (file_of m r == g) (attributes (opened_of (hi.block m))) []) o [])
            (h.others m other)
            ∙ ap (λ b. option_map_or (λ r. cond (file_of m r == g) (attributes (opened_of b)) []) (record_on lo m) []) (h.blocks m other)
        | inl same ↦ ap (attributes_on hi g) same
            ∙ ap (λ o. option_map_or (λ r. cond (file_of f r == g) (attributes (opened_of (hi.block f))) []) o []) h.some
            ∙ cond-false (file_of f h.there == g) _ _ (ne_eqb (file_of f h.there) g (λ e. ne (sym e ∙ own-file)))
            ∙ sym (ap (λ o. option_map_or (λ r. cond (file_of f r == g) (attributes (opened_of (lo.block f))) []) o []) h.none)
            ∙ sym (ap (attributes_on lo g) same)
      ]))
      ∙ ap (λ (l : TableLayout). map form_of (filter begins (flat_map (attributes_on lo g) (range_with_len 0 l.count)))) h.layout
