-- BITS IN MEMORY that are right of any volume: each list shows what the volume has at each number.
use Rattle.std.proofs.Common.{◌≡◌, ◌<◌, ℕ, Bool, false, map, Some, ap, arith, ◌∙◌}
use Rattle.std.proofs.lemmas.List.FromFn.{get_or-map-range_with_len, length-map-range_with_len}
use Rattle.std.proofs.lemmas.Option.{slice_get-get_or}
use Rattle.std.specs.List.{range_with_len}
use Rattle.std.specs.Prelude.{is_some, nat_le, slice_get}
use Rattle.volume_def.specs.Files.{record_on, records_of}
use Rattle.volume_def.specs.OwnersClause.{times_owned}
use Rattle.volume_def.specs.View.{VolumeView}
use Rattle.edit_def.specs.Marks.{AreRight, Marks}

bit-at : (f : ℕ → Bool) (n k : ℕ) → k < n → slice_get (map f (range_with_len 0 n)) k ≡ Some (f k)
bit-at f n k inside =
    slice_get-get_or (map f (range_with_len 0 n)) k false (rw (length-map-range_with_len f 0 n) inside)
    ∙ ap (λ (b : Bool). Some b) (get_or-map-range_with_len f 0 n k k false inside (omega arith))

abbrev is_taken : VolumeView → ℕ → Bool
is_taken view c = nat_le 1 (times_owned (records_of view) c)

abbrev is_used : VolumeView → ℕ → Bool
is_used view n = is_some (record_on view n)

abbrev pub right_marks : VolumeView → Marks
right_marks view = record {
  clusters = map (is_taken view) (range_with_len 0 view.layout.clusters);
  records = map (is_used view) (range_with_len 0 view.layout.count);
}

pub marks-right : (view : VolumeView) → AreRight view (right_marks view)
marks-right view = record {
  count = length-map-range_with_len (is_taken view) 0 view.layout.clusters;
  taken = λ c inside. bit-at (is_taken view) view.layout.clusters c inside;
  rows = length-map-range_with_len (is_used view) 0 view.layout.count;
  used = λ n ordinary inside. bit-at (is_used view) view.layout.count n inside;
}
