use Rattle.std.proofs.Common.{ℕ, List, [], ◌∷◌, ◌++◌, ap, ◌∙◌}
use Rattle.std.specs.Prelude.{codes}
use Rattle.record_bytes.specs.Entries.{last_entry}
use Rattle.volume_format.specs.RootIndex.{root_entry, system_name}
use Rattle.volume_format.proofs.root.root_entries.Goals as goal

-- an entry behind the others
abbrev after : List ℕ → List (List ℕ) → List (List ℕ)
after entry entries = entries ++ entry ∷ []

pub returns : goal.returns
returns c =
    c.in_ok-push_last.ensures ∙ ap (after last_entry) (
    c.in_ok-push_entry-12.ensures ∙ ap (after (root_entry (system_name 5 5 16 (codes ".")))) (
    c.in_ok-push_entry-11.ensures ∙ ap (after (root_entry (system_name 3 3 0 (codes "$Volume")))) (
    c.in_ok-push_entry-10.ensures ∙ ap (after (root_entry (system_name 10 10 0 (codes "$UpCase")))) (
    c.in_ok-push_entry-9.ensures ∙ ap (after (root_entry (system_name 9 9 0 (codes "$Secure")))) (
    c.in_ok-push_entry-8.ensures ∙ ap (after (root_entry (system_name 1 1 0 (codes "$MFTMirr")))) (
    c.in_ok-push_entry-7.ensures ∙ ap (after (root_entry (system_name 0 1 0 (codes "$MFT")))) (
    c.in_ok-push_entry-6.ensures ∙ ap (after (root_entry (system_name 2 2 0 (codes "$LogFile")))) (
    c.in_ok-push_entry-5.ensures ∙ ap (after (root_entry (system_name 11 11 16 (codes "$Extend")))) (
    c.in_ok-push_entry-4.ensures ∙ ap (after (root_entry (system_name 7 7 0 (codes "$Boot")))) (
    c.in_ok-push_entry-3.ensures ∙ ap (after (root_entry (system_name 6 6 0 (codes "$Bitmap")))) (
    c.in_ok-push_entry-2.ensures ∙ ap (after (root_entry (system_name 8 8 0 (codes "$BadClus")))) (
    c.in_ok-push_entry.ensures ∙ ap (after (root_entry (system_name 4 4 0 (codes "$AttrDef")))) (
    c.new-entries.ensures.items)))))))))))))
