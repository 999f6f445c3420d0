-- ROOM IS THE SAME: purses, owners, records in use, and what base records tell; so any bill is kept.
use Rattle.std.proofs.Common.{◌≡◌, ◌+◌, ◌-◌, ◌*◌, ◌/◌, ◌≤◌, ◌==◌, ◌&&◌, not, ℕ, Bool, List, length, Option, Some, None}
use Rattle.std.proofs.Common.{filter, map, refl, sym, ap, subst, inl, inr, ◌∙◌, arith}
use mathlib.Core.Path.{fun_ext}
use Rattle.std.proofs.lemmas.List.{length-map}
use Rattle.std.proofs.lemmas.List.Folds.{fold-map}
use Rattle.std.specs.List.{count_by, flat_map, range_with_len}
use Rattle.std.specs.Option.{option_map}
use Rattle.std.specs.Prelude.{is_some, max, nat_le, nat_lt, sum_by}
use Rattle.ntfs_def.specs.declared.records.TheConstants.{FIRST_ORDINARY}
use Rattle.volume_def.specs.Files.{Part, Record, Records, file_of, parts, record_on, records_of}
use Rattle.volume_def.specs.ListsClause.{is_list, listed_parts}
use Rattle.volume_def.specs.OwnersClause.{times_owned}
use Rattle.volume_def.specs.Room.{list_entry_len, longest_name, unowned_clusters}
use Rattle.volume_def.specs.Table.{TableLayout, cluster_bytes}
use Rattle.volume_def.specs.View.{VolumeView}
use Rattle.list_laws.proofs.MemberLaws.{filter-map}
use Rattle.session_def.specs.Account.{Keeps, Plan, Room, Spends, Wants, Within, nothing, rows}
use Rattle.session_def.specs.Edited.{is_bare}
use Rattle.session_def.specs.EditDefKept.{Key}
use Rattle.session_def.specs.Names.{numbers_at, numbers_by}
use Rattle.session_def.specs.Purses.{all_chosen, can_leave, chosen, in_use, is_emptied, is_list_of, is_table_bits, is_table_data, is_value}
use Rattle.session_def.specs.Purses.{list_len_in, one_if}
use Rattle.session_def.specs.Purses.{part_size, room_in, room_of, run_size}
use Rattle.session_def.proofs.AccountLaws.{Spends-less}
use Rattle.session_def.proofs.Sums.{rows-cases}
use Rattle.in_place.specs.Blank.{blank_part, blank_record, blanked}
use Rattle.in_place.specs.InPlace.{Rewrites}
use Rattle.in_place.proofs.BlankLaws.{blank-parts, blank-runs, blank-times, map-flat_map, sum-map}
use Rattle.in_place.proofs.SameRecords.{on-same, records-same}

-- PARTS that are chosen by what their bytes do not tell
all_chosen-blank : (test : ℕ → Part → Bool) → ((g : ℕ) (part : Part) → test g (blank_part part) ≡ test g part) → (records : Records)
    → all_chosen test (blanked records) ≡ map blank_part (all_chosen test records)
unfolding all_chosen
all_chosen-blank test same records =
    ap (λ g. flat_map g (range_with_len 0 records.count)) (fun_ext (λ n. by n (records.record_at n)))
    ∙ sym (map-flat_map blank_part (λ n. chosen test n (records.record_at n)) (range_with_len 0 records.count))
  where
    by : (n : ℕ) (o : Option Record) → chosen test n (option_map blank_record o) ≡ map blank_part (chosen test n o)
    by n None = refl
    by n (Some r) =
        filter-map blank_part (test (file_of n r)) r.parts ∙ ap (λ p. map blank_part (filter p r.parts)) (fun_ext (same (file_of n r)))

size-blank : (part : Part) → part_size (blank_part part) ≡ part_size part
size-blank part = ap (sum_by run_size) (blank-runs part)

sum-blank : (test : ℕ → Part → Bool) → ((g : ℕ) (part : Part) → test g (blank_part part) ≡ test g part) → (records : Records)
    → sum_by part_size (all_chosen test (blanked records)) ≡ sum_by part_size (all_chosen test records)
sum-blank test same records =
    ap (sum_by part_size) (all_chosen-blank test same records) ∙ sum-map blank_part part_size size-blank (all_chosen test records)

list_len-blank : (records : Records) (f : ℕ) → list_len_in (blanked records) f ≡ list_len_in records f
list_len-blank records f =
    ap (λ xs. sum_by list_entry_len (listed_parts xs)) (blank-parts records f)
    ∙ ap (sum_by list_entry_len) (filter-map blank_part (λ part. not (is_list part)) (parts records f))
    ∙ sum-map blank_part list_entry_len (λ part. refl) (listed_parts (parts records f))

longest-blank : (records : Records) (f : ℕ) → longest_name (parts (blanked records) f) ≡ longest_name (parts records f)
longest-blank records f =
    ap longest_name (blank-parts records f)
    ∙ fold-map (λ (longest : ℕ) (part : Part). max longest (length part.name / 2)) blank_part 0 (parts records f)

emptied-blank : (o : Option Record) → is_emptied (option_map blank_record o) ≡ is_emptied o
emptied-blank None = refl
emptied-blank (Some r) =
    ap (λ n. nat_lt 0 n && nat_le (length (filter can_leave (map blank_part r.parts))) 0) (count is_list)
    ∙ ap (λ n. nat_lt 0 (length (filter is_list r.parts)) && nat_le n 0) (count can_leave)
  where
    count : (p : Part → Bool) → length (filter p (map blank_part r.parts)) ≡ length (filter (λ x. p (blank_part x)) r.parts)
    count p = ap length (filter-map blank_part p r.parts) ∙ length-map (filter (λ x. p (blank_part x)) r.parts) blank_part

some-blank : (o : Option Record) → is_some (option_map blank_record o) ≡ is_some o
some-blank None = refl
some-blank (Some r) = refl

in_use-blank : (records : Records) → in_use (blanked records) ≡ in_use records
in_use-blank records =
    ap (λ g. sum_by g (range_with_len FIRST_ORDINARY (records.count - FIRST_ORDINARY))) (fun_ext (λ n. ap one_if (some-blank
    (records.record_at n))))

claimed-blank : (records : Records) (files : List ℕ) → sum_by (λ f. one_if (not (is_emptied ((blanked records).record_at f)))) files
    ≡ sum_by (λ f. one_if (not (is_emptied (records.record_at f)))) files
claimed-blank records files = ap (λ g. sum_by g files) (fun_ext (λ f. ap (λ b. one_if (not b)) (emptied-blank (records.record_at f))))

room-blank : (records : Records) (clusters size : ℕ) (plan : Plan)
    → room_in (blanked records) clusters size plan ≡ room_in records clusters size plan
room-blank records clusters size plan =
    let values = sum-blank (is_value plan.files) (λ g part. refl) records in
    let list : (f : ℕ) → sum_by part_size (all_chosen (is_list_of f) (blanked records))
    ≡ sum_by part_size (all_chosen (is_list_of f) records)
    = λ f. sum-blank (is_list_of f) (λ g part. refl) records in
    let table = sum-blank is_table_data (λ g part. refl) records in
    let bits = sum-blank is_table_bits (λ g part. refl) records in
    let long = list_len-blank records in
    let name = longest-blank records in
    let used = in_use-blank records in
    let claimed = claimed-blank records plan.files in
    λ i. record {
      size = size;
      clusters = clusters;
      values = values i;
      list = λ f. list f i;
      table = table i;
      bitmap = bits i;
      length = λ f. long f i;
      name = λ f. name f i;
      records = records.count;
      claimed = FIRST_ORDINARY + used i + 4 * claimed i;
    }

-- a bill of nothing is within any
nothing-within : (wants : Wants) → Within nothing wants
nothing-within wants = record {
  clusters = omega arith;
  parts = λ f. omega arith;
  units = λ f. omega arith;
  goes = λ f e. cc;
  records = omega arith;
}

-- NOTHING is taken where room is the same.
pub Spends-nothing : (plan : Plan) (room : Room) → Spends plan room room nothing
Spends-nothing plan room = record {
  size = refl;
  names = λ f. omega arith;
  volume = refl;
  values = omega arith;
  lengths = λ f. omega arith;
  lists = λ f. omega arith;
  claimed = omega arith;
  records =
      let more : room.claimed + 0 ≡ room.claimed = omega arith in
      elim (rows-cases room.claimed 0 room.records) as (λ _. room.records ≤ rows room.claimed 0 room.records) [
        | inl kept ↦ let e = kept.1 in omega (arith, e)
        | inr grown ↦ let e = grown.1 in let l = grown.0 in omega (arith, e, l, more)
      ];
  grows = omega arith;
  table = omega arith;
  bitmap = omega arith;
}

module _ (changed : Key → Bool) (old new : VolumeView) (w : Rewrites changed old new) where
  size-same : cluster_bytes new.layout ≡ cluster_bytes old.layout
  size-same = ap cluster_bytes w.layout

  pub room-same : room_of new ≡ room_of old
  room-same = fun_ext (λ plan.
      sym (room-blank (records_of new) new.layout.clusters (cluster_bytes new.layout) plan)
      ∙ ap (λ (l : TableLayout). room_in (blanked (records_of new)) l.clusters (cluster_bytes l) plan) w.layout
      ∙ ap (λ records. room_in records old.layout.clusters (cluster_bytes old.layout) plan) (records-same changed old new w)
      ∙ room-blank (records_of old) old.layout.clusters (cluster_bytes old.layout) plan)

  -- whatever the bill has
  pub spent : (wants : Wants) → Keeps (room_of old) (room_of new) wants
  spent wants plan some planned =
      subst (λ room. Spends plan (room_of old plan) (room plan) wants) (sym room-same)
      (Spends-less plan (room_of old plan) (room_of old plan) nothing wants some (nothing-within wants) (Spends-nothing plan
      (room_of old plan)))

  pub times-same : (c : ℕ) → times_owned (records_of new) c ≡ times_owned (records_of old) c
  times-same c =
      sym (blank-times (records_of new) c) ∙ ap (λ records. times_owned records c) (records-same changed old new w)
      ∙ blank-times (records_of old) c

  pub unowned-same : unowned_clusters new ≡ unowned_clusters old
  unfolding unowned_clusters
  unowned-same =
      ap (λ (l : TableLayout). count_by (λ c. times_owned (records_of new) c == 0) (range_with_len 0 l.clusters)) w.layout
      ∙ ap (λ p. count_by p (range_with_len 0 old.layout.clusters)) (fun_ext (λ c. ap (λ n. n == 0) (times-same c)))

  pub in_use-same : in_use (records_of new) ≡ in_use (records_of old)
  in_use-same = sym (in_use-blank (records_of new)) ∙ ap in_use (records-same changed old new w) ∙ in_use-blank (records_of old)

  -- RECORDS in use, and without an attribute
  pub used-same : (n : ℕ) → is_some (record_on new n) ≡ is_some (record_on old n)
  used-same n = sym (some-blank (record_on new n)) ∙ ap is_some (on-same changed old new w n) ∙ some-blank (record_on old n)

  pub bare-same : (n : ℕ) → is_bare (record_on new n) ≡ is_bare (record_on old n)
  bare-same n = sym (by (record_on new n)) ∙ ap is_bare (on-same changed old new w n) ∙ by (record_on old n)
    where
      by : (o : Option Record) → is_bare (option_map blank_record o) ≡ is_bare o
      by None = refl
      by (Some r) = ap (λ n. nat_le n 0) (length-map r.parts blank_part)

  -- WHAT BASE RECORDS TELL
  pub numbers-same : (f : ℕ) → numbers_at (records_of new) f ≡ numbers_at (records_of old) f
  numbers-same f = sym (by (record_on new f)) ∙ ap numbers_by (on-same changed old new w f) ∙ by (record_on old f)
    where
      by : (o : Option Record) → numbers_by (option_map blank_record o) ≡ numbers_by o
      by None = refl
      by (Some r) = refl
