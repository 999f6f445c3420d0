-- ONE FILE ON THE BILL: of a command that changes no index, makes no file, and touches the file that it is about.
use Rattle.std.proofs.Common.{◌≡◌, ◌<◌, ◌≤◌, ◌+◌, ◌==◌, ◌&&◌, ◌||◌, ◌++◌, not, ℕ, zero, suc, Bool, true, false, cond, List, [], ◌∷◌, filter}
use Rattle.std.proofs.Common.{length, map, max, Some, inl, inr, refl, ap, ◌∙◌, arith, if◌then◌else◌}
use Rattle.std.proofs.lemmas.Bool.{and_right, cases_eq, eq-eqb, ne_eqb}
use Rattle.std.specs.List.{range_with_len}
use Rattle.std.specs.Prelude.{is_some}
use Rattle.volume_def.specs.Files.{parts, records_of}
use Rattle.volume_def.specs.Room.{list_len_of, longest_name}
use Rattle.volume_def.specs.Table.{cluster_bytes}
use Rattle.volume_def.specs.View.{VolumeView}
use Rattle.tree_model.specs.Bill.{bill_of, bill_with, clusters_of, is_touched, new_files, new_name_units, touched_file, touched_files}
use Rattle.tree_model.specs.Bill.{touches_file}
use Rattle.tree_model.specs.Cases.{makes_stream}
use Rattle.tree_model.specs.Need.{Touched, empty_bill}
use Rattle.tree_model.specs.Subjects.{Located}
use Rattle.tree_model.specs.Tree.{Tree}
use Rattle.tree_model.specs.declared.command.Command.{Command}
use Rattle.tree_model.proofs.BillLaws as bills
use Rattle.edit_def.specs.OneFile.{one_file, touched_alone}

-- THE NUMBER of the file comes once among all.
abbrev touched_from : ℕ → ℕ → ℕ → List ℕ
touched_from file from n = filter (is_touched true file []) (range_with_len from n)

touched-step : (file from n : ℕ) (b : Bool) → (from == file) ≡ b
    → touched_from file from (suc n) ≡ cond b (from ∷ touched_from file (from + 1) n) (touched_from file (from + 1) n)
touched-step file from n true e =
    ap (λ b. cond (b || false) (from ∷ touched_from file (from + 1) n) (touched_from file (from + 1) n)) e
touched-step file from n false e =
    ap (λ b. cond (b || false) (from ∷ touched_from file (from + 1) n) (touched_from file (from + 1) n)) e

none-past : (file from n : ℕ) → file < from → touched_from file from n ≡ []
none-past file from zero past = refl
none-past file from (suc n) past =
    touched-step file from n false (ne_eqb from file (λ e. omega (arith, e, past))) ∙ none-past file (from + 1) n (omega (arith, past))

touched-one : (file from n : ℕ) → from ≤ file → file < from + n → touched_from file from n ≡ file ∷ []
touched-one file from zero low high = absurd (omega (arith, low, high))
touched-one file from (suc n) low high = elim (cases_eq from file) [
  | inl same ↦
      touched-step file from n true (eq-eqb from file same)
      ∙ ap (λ (rest : List ℕ). from ∷ rest) (none-past file (from + 1) n (omega (arith, same)))
      ∙ ap (λ (f : ℕ). f ∷ []) same
  | inr other ↦
      touched-step file from n false (ne_eqb from file other)
      ∙ touched-one file (from + 1) n (omega (arith, low, other)) (omega (arith, high))
]

-- a stream that is there gets no name
pub no-name : (command : Command) (at : Located) → is_some at.content ≡ true → new_name_units command at ≡ 0
no-name command at there =
    ap (λ b. if makes_stream command && not b then length at.stream else 0) there
    ∙ ap (λ b. if b then length at.stream else 0) (and_right (makes_stream command) false refl)

no-longer : (longest units : ℕ) → units ≡ 0 → max longest units ≡ longest
no-longer longest units none = omega (arith, none)

-- SO THE BILL has that file alone, with the clusters of the stream.
pub bill-one : (view : VolumeView) (tree : Tree) (command : Command) (at : Located) → bills.IsQuiet tree command at
    → new_files command ≡ [] → (k : ℕ) → clusters_of (cluster_bytes view.layout) view tree command at ≡ k
    → touches_file (cluster_bytes view.layout) view tree command at ≡ true → is_some at.content ≡ true → at.file < view.layout.count
    → bill_of view tree command at ≡ one_file k (touched_alone view at.file)
unfolding bill_of
bill-one view tree command at quiet makes k clusters touches there inside =
    let size = cluster_bytes view.layout in
    let touched : List ℕ → List Touched = λ files. map (touched_file view command at) files in
    ap (bill_with size view tree command at) (bills.counted-none view tree command at quiet)
    ∙ ap (λ (files : List Touched). record empty_bill {
      new_files = length files;
      clusters = clusters_of size view tree command at;
      touched = touched (touched_files size view tree command at []) ++ files;
    }) makes
    ∙ ap (λ (n : ℕ). record empty_bill {
      clusters = n;
      touched = touched (touched_files size view tree command at []) ++ [];
    }) clusters
    ∙ ap (λ (b : Bool). record empty_bill {
      clusters = k;
      touched = touched (filter (is_touched b at.file []) (range_with_len 0 view.layout.count)) ++ [];
    }) touches
    ∙ ap (λ (files : List ℕ). record empty_bill { clusters = k; touched = touched files ++ [] })
    (touched-one at.file 0 view.layout.count (omega arith) (omega (arith, inside)))
    ∙ ap (λ (n : ℕ). one_file k (record { file = Some at.file; list_len = list_len_of view at.file; name_units = n }))
    (no-longer (longest_name (parts (records_of view) at.file)) (new_name_units command at) (no-name command at there))
