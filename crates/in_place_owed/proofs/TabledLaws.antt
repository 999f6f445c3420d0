-- THE TABLE'S CLUSTERS HOLD ITS RECORDS, in the words of the room: what the table clause says.
use Rattle.std.proofs.Common.{◌≡◌, ◌≤◌, ◌+◌, ◌*◌, ◌/◌, ℕ, List, [], ◌∷◌, filter, true, inl, inr, refl, ap, ◌∙◌, arith}
use Rattle.std.proofs.Math.Nat.{mul-le-mul_right}
use Rattle.std.proofs.lemmas.List.Elements.{All-contains}
use Rattle.std.proofs.lemmas.List.Sums.{sum_by-cons}
use Rattle.std.specs.List.{Contains, sum_by}
use Rattle.std.specs.Prelude.{Option, Some, None, IsSomeAnd}
use Rattle.ntfs_def.specs.Runs.{total_clusters}
use Rattle.ntfs_def.specs.declared.kinds.TheConstants.{DATA}
use Rattle.ntfs_def.specs.declared.records.TheConstants.{MFT}
use Rattle.ntfs_def.specs.declared.run_text.Run.{Run}
use Rattle.volume_def.specs.Files.{is_of, parts, records_of}
use Rattle.volume_def.specs.Sound.{told_view}
use Rattle.volume_def.specs.Table.{IsOnVolume, MeetsTable, TableLayout, cluster_bytes}
use Rattle.list_laws.proofs.MemberLaws.{Contains-cases, Contains-filter, Contains-head, Contains-later, Contains-nil}
use Rattle.edit_def.specs.OneFile.{IsTabled}
use Rattle.edit_def.specs.Purses.{part_size, run_size}
use Rattle.in_place.specs.Unnamed.{LiesApart}

-- one of a list counts no more than all
one-of : {X : Type 0} (f : X → ℕ) (xs : List X) (x : X) → Contains xs x → f x ≤ sum_by f xs
one-of f [] x c = absurd (Contains-nil x c)
one-of f (y ∷ ys) x c = elim (Contains-cases y ys x c) [
  | inl e ↦
      let same = ap f e in
      let all = sum_by-cons f y ys in
      omega (arith, same, all)
  | inr r ↦
      let rest = one-of f ys x r in
      let all = sum_by-cons f y ys in
      omega (arith, rest, all)
]

-- runs that have a place count whole
run-whole : (clusters : ℕ) (run : Run) → IsOnVolume clusters run → run_size run ≡ run.len
run-whole clusters run on = by run.lcn on
  where
    by : (o : Option ℕ) → IsSomeAnd o (λ lcn. lcn + run.len ≤ clusters) → run_size (record run { lcn = o }) ≡ run.len
    by None is = absurd is
    by (Some lcn) is = refl

runs-whole : (clusters : ℕ) (runs : List Run) → ((run : Run) → Contains runs run → IsOnVolume clusters run)
    → sum_by run_size runs ≡ total_clusters runs
runs-whole clusters [] on = refl
runs-whole clusters (run ∷ runs) on =
    let here = run-whole clusters run (on run (Contains-head run runs)) in
    let rest = runs-whole clusters runs (λ other c. on other (Contains-later run runs other c)) in
    let all = sum_by-cons run_size run runs in
    let long = sum_by-cons (λ (r : Run). r.len) run runs in
    omega (arith, here, rest, all, long)

pub tabled : (disk : ℕ → List ℕ) (boot : List ℕ) (layout : TableLayout) → MeetsTable disk boot layout → LiesApart (told_view disk layout)
    → IsTabled (told_view disk layout)
tabled disk boot layout meets apart =
    let view = told_view disk layout in
    let part = apart.owners.table.part in
    let least = meets.table.fits.least in
    let count = meets.table.count in
    let some = apart.some in
    let is : is_of DATA [] part ≡ true = rw (apart.owners.table.data_is, apart.unnamed) refl in
    let among = Contains-filter (is_of DATA []) (parts (records_of view) MFT) part apart.owners.table.among is in
    let counted = one-of part_size (filter (is_of DATA []) (parts (records_of view) MFT)) part among in
    let size : part_size part ≡ total_clusters layout.runs =
    ap (sum_by run_size) apart.owners.table.runs ∙ runs-whole layout.clusters layout.runs
    (λ run c. All-contains (IsOnVolume layout.clusters) layout.runs run meets.table.placed.on_volume c) in
    record {
      size = omega (arith, some);
      least = omega (arith, least, count);
      covered = holds (total_clusters layout.runs) (sum_by part_size (filter (is_of DATA []) (parts (records_of view) MFT)))
          (cluster_bytes layout) meets.table.extent.sizes.real layout.count count meets.table.fits.covered (omega (arith, counted, size));
    }
  where
    holds : (total sum bytes real count : ℕ) → count ≡ real / 1024 → real ≤ total * bytes → total ≤ sum → 1024 * count ≤ sum * bytes
    holds total sum bytes real count e covered more =
        let m : total * bytes ≤ sum * bytes = mul-le-mul_right bytes more in
        omega (arith, e, covered, m)
