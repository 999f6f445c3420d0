-- WHAT STEPS COST: a part that goes to another record, and records that come and go.
use Rattle.std.proofs.Common.{◌≡◌, ◌≢◌, ◌<◌, ◌≤◌, ◌+◌, ◌-◌, ◌/◌, ◌&&◌, not, ℕ, zero, suc, Bool, true, false, List, [], ◌∷◌, length}
use Rattle.std.proofs.Common.{filter, Option, Some, None, refl, sym, ap, subst, inl, inr, ◌∙◌, arith, nat_le, nat_lt}
use Rattle.std.specs.Prelude.{is_some, sum_by, unwrap_or}
use Rattle.std.specs.List.{range_with_len}
use Rattle.std.proofs.lemmas.Bool.{cases_eq}
use Rattle.std.proofs.lemmas.List.Sums.{sum_by-cons}
use Rattle.volume_def.specs.Edits.{ChangesAt, MovesPart}
use Rattle.volume_def.specs.Files.{Content, content_runs, Part, Record, Records, file_of, parts, records_of}
use Rattle.volume_def.specs.ListsClause.{is_list, listed_parts}
use Rattle.volume_def.specs.Members.{FreesEmpty, TakesEmpty}
use Rattle.volume_def.specs.Table.{cluster_bytes}
use Rattle.volume_def.specs.View.{VolumeView}
use Rattle.volume_def.proofs.RecordLaws.{parts-freed, parts-other, parts-own_at, parts-taken}
use Rattle.list_laws.proofs.ReplacesLaws.{Replaces-filter, Replaces-itself}
use Rattle.ntfs_def.specs.Rounded.{up_to_8}
use Rattle.volume_def.specs.Room.{list_entry_len, longest_name}
use Rattle.edit_def.specs.Account.{IsPlanned, Keeps, nothing}
use Rattle.edit_def.specs.Purses.{all_chosen, can_leave, chosen, in_use, is_emptied, is_list_of, is_table_bits, is_table_data, is_value}
use Rattle.edit_def.specs.Purses.{one_if, part_size, room_of, run_size}
use Rattle.edit_def.proofs.SumLaws.{Replaces-sum, all_chosen-Replaces, sum-edit, sum-rule}
use Rattle.record_edits.proofs.CostLaws.{longest-has}
use Rattle.record_edits.proofs.RoomEdits.{emptied-most, in_use-kept, longest-edit, rows-self}
use Rattle.file_edits.specs.Steps.{one_record}

-- one part in place of one that says the same
one-same : (test : Part → Bool) (w : Part → ℕ) (a b : Part) (t : Bool) → test b ≡ t → test a ≡ t → w b ≡ w a
    → sum_by w (filter test (b ∷ [])) ≡ sum_by w (filter test (a ∷ []))
one-same test w a b true tb ta e = rw (tb, ta) (omega (arith, e))
one-same test w a b false tb ta e = rw (tb, ta) refl

moved-sum : (test : ℕ → Part → Bool) (w : Part → ℕ) (old new : Records) (from to : ℕ) (was now : Part) → MovesPart old new from to was now
    → ((g : ℕ) → test g now ≡ test g was) → w now ≡ w was → sum_by w (all_chosen test new) ≡ sum_by w (all_chosen test old)
moved-sum test w old new from to was now m same e =
    let f = file_of from m.leaves.was_record in
    let left = sum-edit test w old m.between from (was ∷ []) [] m.leaves in
    let came = sum-edit test w m.between new to [] (now ∷ []) m.comes in
    let here = ap (λ g. sum_by w (filter (test g) (now ∷ []))) m.file in
    let one = one-same (test (file_of from m.leaves.was_record)) w was now (test (file_of from m.leaves.was_record) was) (same
    (file_of from m.leaves.was_record)) refl e in
    omega (arith, left, came, here, one)

-- the sum over the parts of one file
moved-file : (q : Part → Bool) (w : Part → ℕ) (old new : Records) (from to : ℕ) (was now : Part) → MovesPart old new from to was now
    → q now ≡ q was → w now ≡ w was → (f : ℕ) → sum_by w (filter q (parts new f)) ≡ sum_by w (filter q (parts old f))
moved-file q w old new from to was now m same e f = elim (cases_eq (file_of from m.leaves.was_record) f) [
  | inl own ↦
      let left = Replaces-sum w _ _ _ _ (Replaces-filter q _ _ _ _ (parts-own_at old m.between from f (was ∷ []) [] m.leaves own)) in
      let came = Replaces-sum w _ _ _ _ (Replaces-filter q _ _ _ _ (parts-own_at m.between new to f [] (now ∷ []) m.comes (m.file
      ∙ own))) in
      let one = one-same q w was now (q was) same refl e in
      omega (arith, left, came, one)
  | inr other ↦ ap (λ all. sum_by w (filter q all)) (parts-other m.between new to f [] (now ∷ []) m.comes (λ z. other (sym m.file ∙ z))
      ∙ parts-other old m.between from f (was ∷ []) [] m.leaves other)
]

moved-name : (old new : Records) (from to : ℕ) (was now : Part) → MovesPart old new from to was now → (f : ℕ)
    → longest_name (parts new f) ≤ longest_name (parts old f)
moved-name old new from to was now m f = elim (cases_eq (file_of from m.leaves.was_record) f) [
  | inl own ↦
      let r = parts-own_at old m.between from f (was ∷ []) [] m.leaves own in
      let s = parts-own_at m.between new to f [] (now ∷ []) m.comes (m.file ∙ own) in
      let name = ap (λ said. length said.name / 2) m.same in
      omega (arith, longest-edit _ _ _ _ r, longest-edit _ _ _ _ s, longest-has _ _ _ _ r, name)
  | inr other ↦
      let same = ap longest_name (parts-other m.between new to f [] (now ∷ []) m.comes (λ z. other (sym m.file ∙ z))
      ∙ parts-other old m.between from f (was ∷ []) [] m.leaves other) in
      omega (arith, same)
]

abbrev content-size : Content → ℕ
content-size c = sum_by run_size (unwrap_or (content_runs c) [])

abbrev name-entry : List ℕ → ℕ
name-entry name = up_to_8 (26 + length name)

-- A MOVE COSTS NOTHING. It leaves an emptied base record emptied.
pub Keeps-moved : (old new : VolumeView) (from to : ℕ) (was now : Part) → new.layout.clusters ≡ old.layout.clusters
    → cluster_bytes new.layout ≡ cluster_bytes old.layout
    → (m : MovesPart (records_of old) (records_of new) from to was now)
    → (is_emptied ((records_of old).record_at from) ≡ true → is_emptied (m.between.record_at from) ≡ true)
    → (is_emptied (m.between.record_at to) ≡ true → is_emptied ((records_of new).record_at to) ≡ true)
    → Keeps (room_of old) (room_of new) nothing
unfolding IsPlanned
Keeps-moved old new from to was now volume bytes m emptied_from emptied_to = λ plan pos planned.
    let kind = ap (λ said. said.kind) m.same in
    let name = ap (λ said. said.name) m.same in
    let content = ap (λ said. said.content) m.same in
    let size : part_size now ≡ part_size was = ap (λ c. content-size c) content in
    let entry : list_entry_len now ≡ list_entry_len was = ap (λ n. name-entry n) name in
    let values = moved-sum (is_value plan.files) part_size (records_of old) (records_of new) from to was now m (λ g. rw (
      kind,
      name,
    ) refl) size in
    let table_sum = moved-sum is_table_data part_size (records_of old) (records_of new) from to was now m (λ g. rw (
      kind,
      name,
    ) refl) size in
    let bits = moved-sum is_table_bits part_size (records_of old) (records_of new) from to was now m (λ g. rw (kind, name) refl) size in
    let used_left = in_use-kept (records_of old) m.between from (was ∷ []) [] m.leaves in
    let used_came = in_use-kept m.between (records_of new) to [] (now ∷ []) m.comes in
    let emptied_left = emptied-most (records_of old) m.between from (was ∷ []) [] m.leaves emptied_from plan.files in
    let emptied_came = emptied-most m.between (records_of new) to [] (now ∷ []) m.comes emptied_to plan.files in
    record {
      names = λ f. omega (arith, moved-name (records_of old) (records_of new) from to was now m f);
      volume = volume;
      size = bytes;
      values = omega (arith, values);
      lengths = λ f. omega (
        arith,
        moved-file (λ part. not (is_list part)) list_entry_len (records_of old)
            (records_of new) from to was now m (rw kind refl) entry f,
      );
      lists = λ f. omega (
        arith,
        moved-sum (is_list_of f) part_size (records_of old) (records_of new) from to was now m
            (λ g. rw kind refl) size,
      );
      claimed = omega (arith, used_left, used_came, emptied_left, emptied_came);
      records = omega (
        arith,
        m.leaves.changes.count,
        m.comes.changes.count,
        rows-self (room_of old plan).claimed 0
            (room_of old plan).records,
      );
      grows = omega (arith, m.leaves.changes.count, m.comes.changes.count);
      table = omega (arith, table_sum);
      bitmap = omega (arith, bits);
    }

-- A RECORD COMES INTO USE without parts, or goes: its parts are none before and after
none-before : (test : ℕ → Part → Bool) (n : ℕ) (o : Option Record) (r : Record) → o ≡ Some r → r.parts ≡ [] → chosen test n o ≡ []
none-before test n o r is empty = ap (chosen test n) is ∙ ap (λ list. filter (test (file_of n r)) list) empty

all-taken : (test : ℕ → Part → Bool) (old new : Records) (n : ℕ) → TakesEmpty old new n → all_chosen test new ≡ all_chosen test old
all-taken test old new n t = Replaces-itself _ _ _ _ (ap (chosen test n) t.was_at ∙ sym (none-before test n
    (new.record_at n) t.now_record t.now_at t.empty))
    (all_chosen-Replaces test old new n t.changes t.inside)

all-freed : (test : ℕ → Part → Bool) (old new : Records) (n : ℕ) → FreesEmpty old new n → all_chosen test new ≡ all_chosen test old
all-freed test old new n t = Replaces-itself _ _ _ _ (none-before test n (old.record_at n) t.was_record t.was_at t.empty ∙ sym (ap
    (chosen test n) t.now_at))
    (all_chosen-Replaces test old new n t.changes t.inside)

-- a sum of which one term differs
sum-later : (f g : ℕ → ℕ) (n from k : ℕ) → n < from → ((m : ℕ) → m ≢ n → g m ≡ f m)
    → sum_by g (range_with_len from k) ≡ sum_by f (range_with_len from k)
sum-later f g n from zero h same = refl
sum-later f g n from (suc k) h same =
    omega (
      arith,
      sum_by-cons g from (range_with_len (from + 1) k),
      sum_by-cons f from (range_with_len (from + 1) k),
      same from
          (λ e. absurd (omega (arith, e))),
      sum-later f g n (from + 1) k (omega arith) same,
    )

pub sum-point : (f g : ℕ → ℕ) (n d from k : ℕ) → ((m : ℕ) → m ≢ n → g m ≡ f m) → g n ≤ f n + d
    → sum_by g (range_with_len from k) ≤ sum_by f (range_with_len from k) + d
sum-point f g n d from zero same h = omega arith
sum-point f g n d from (suc k) same h = elim (cases_eq from n) [
  | inl e ↦
      let here : g from ≤ f from + d = subst (λ m. g m ≤ f m + d) (sym e) h in
      omega (
        arith,
        sum_by-cons g from (range_with_len (from + 1) k),
        sum_by-cons f from (range_with_len (from + 1) k),
        here,
        sum-later f g n (from + 1) k (omega (arith, e)) same,
      )
  | inr ne ↦ omega (
    arith,
    sum_by-cons g from (range_with_len (from + 1) k),
    sum_by-cons f from (range_with_len (from + 1) k),
    same from ne,
    sum-point f g n d (from + 1) k same h,
  )
]

used-most : (o : Option Record) → one_if (is_some o) ≤ 1
used-most None = omega arith
used-most (Some r) = omega arith

not-emptied : (o : Option Record) (r : Record) → o ≡ Some r → r.parts ≡ [] → is_emptied o ≡ false
not-emptied o r is empty = ap is_emptied is ∙ ap (λ list. nat_lt 0 (length (filter is_list list)) && nat_le (length
    (filter can_leave list)) 0) empty

emptied-same : (old new : Records) (n : ℕ) → ChangesAt old new n → is_emptied (new.record_at n) ≡ is_emptied (old.record_at n)
    → (files : List ℕ)
    → sum_by (λ f. one_if (not (is_emptied (new.record_at f)))) files ≡ sum_by (λ f. one_if (not (is_emptied (old.record_at f)))) files
emptied-same old new n c e files = sum-rule _ _ (λ f. elim (cases_eq f n) [
  | inl same ↦ ap (λ b. one_if (not b)) (ap (λ m. is_emptied (new.record_at m)) same ∙ e ∙ sym (ap (λ m. is_emptied
      (old.record_at m)) same))
  | inr ne ↦ ap (λ o. one_if (not (is_emptied o))) (c.others f ne)
]) files

-- IT COSTS A RECORD
pub Keeps-taken : (old new : VolumeView) (n : ℕ) → new.layout.clusters ≡ old.layout.clusters
    → cluster_bytes new.layout ≡ cluster_bytes old.layout
    → TakesEmpty (records_of old) (records_of new) n → Keeps (room_of old) (room_of new) one_record
unfolding IsPlanned
Keeps-taken old new n volume bytes t = λ plan pos planned.
    let sums = λ (test : ℕ → Part → Bool). ap (sum_by part_size) (all-taken test (records_of old) (records_of new) n t) in
    let used : in_use (records_of new) ≤ in_use (records_of old) + 1 =
    let count = ap (λ c. sum_by (λ m. one_if (is_some ((records_of new).record_at m))) (range_with_len 24 (c - 24))) t.changes.count in
    let point = sum-point (λ m. one_if (is_some ((records_of old).record_at m))) (λ m. one_if (is_some
    ((records_of new).record_at m))) n 1 24 ((records_of old).count - 24)
    (λ m ne. ap (λ o. one_if (is_some o)) (t.changes.others m ne)) (omega (arith, used-most ((records_of new).record_at n))) in
    omega (arith, count, point) in
    let emptied = emptied-same (records_of old) (records_of new) n t.changes
    (not-emptied ((records_of new).record_at n) t.now_record t.now_at t.empty ∙ sym (ap is_emptied t.was_at)) plan.files in
    record {
      size = bytes;
      names = λ f. omega (arith, ap longest_name (parts-taken (records_of old) (records_of new) n f t));
      volume = volume;
      values = omega (arith, sums (is_value plan.files));
      lengths = λ f. omega (
        arith,
        ap (λ all. sum_by list_entry_len (listed_parts all)) (parts-taken (records_of old)
            (records_of new) n f t),
      );
      lists = λ f. omega (arith, sums (is_list_of f));
      claimed = omega (arith, used, emptied);
      records = omega (arith, t.changes.count, rows-self (room_of old plan).claimed 1 (room_of old plan).records);
      grows = omega (arith, t.changes.count);
      table = omega (arith, sums is_table_data);
      bitmap = omega (arith, sums is_table_bits);
    }

-- IT COSTS NOTHING that a record goes
pub Keeps-freed : (old new : VolumeView) (n : ℕ) → new.layout.clusters ≡ old.layout.clusters
    → cluster_bytes new.layout ≡ cluster_bytes old.layout
    → FreesEmpty (records_of old) (records_of new) n → Keeps (room_of old) (room_of new) nothing
unfolding IsPlanned
Keeps-freed old new n volume bytes t = λ plan pos planned.
    let sums = λ (test : ℕ → Part → Bool). ap (sum_by part_size) (all-freed test (records_of old) (records_of new) n t) in
    let used : in_use (records_of new) ≤ in_use (records_of old) + 0 =
    let count = ap (λ c. sum_by (λ m. one_if (is_some ((records_of new).record_at m))) (range_with_len 24 (c - 24))) t.changes.count in
    let gone : one_if (is_some ((records_of new).record_at n)) ≡ 0 = ap (λ o. one_if (is_some o)) t.now_at in
    let point = sum-point (λ m. one_if (is_some ((records_of old).record_at m))) (λ m. one_if (is_some
    ((records_of new).record_at m))) n 0 24 ((records_of old).count - 24)
    (λ m ne. ap (λ o. one_if (is_some o)) (t.changes.others m ne)) (omega (arith, gone)) in
    omega (arith, count, point) in
    let emptied = emptied-same (records_of old) (records_of new) n t.changes
    (ap is_emptied t.now_at ∙ sym (not-emptied ((records_of old).record_at n) t.was_record t.was_at t.empty)) plan.files in
    record {
      size = bytes;
      names = λ f. omega (arith, ap longest_name (parts-freed (records_of old) (records_of new) n f t));
      volume = volume;
      values = omega (arith, sums (is_value plan.files));
      lengths = λ f. omega (
        arith,
        ap (λ all. sum_by list_entry_len (listed_parts all)) (parts-freed (records_of old)
            (records_of new) n f t),
      );
      lists = λ f. omega (arith, sums (is_list_of f));
      claimed = omega (arith, used, emptied);
      records = omega (arith, t.changes.count, rows-self (room_of old plan).claimed 0 (room_of old plan).records);
      grows = omega (arith, t.changes.count);
      table = omega (arith, sums is_table_data);
      bitmap = omega (arith, sums is_table_bits);
    }
