-- What keeps a command that reads apart from a file.
use Rattle.std.proofs.Common.{◌≡◌, ◌==◌, ◌&&◌, not, ℕ, List, Option, Some, None, find, option_map, refl, sym, ap, ◌∙◌}
use Rattle.tree_model.specs.Cases.{AsksFor, conflicts}
use Rattle.tree_model.specs.Opens.{all_access, to_read}
use Rattle.tree_model.specs.Shown.{kept_apart}
use Rattle.tree_model.specs.declared.opens.OpenEntry.{OpenEntry}
use Rattle.tree_model.specs.declared.reply.No.TheVariants as no
use Rattle.tree_model.proofs.LookLaws.{find-apart}
use Rattle.share_table.specs.Kept.{by_handle}

told : (o : Option OpenEntry) → option_map (λ (entry : OpenEntry). no.Shared entry.session entry.handle) o
    ≡ option_map (λ (at : ℕ × ℕ). no.Shared at.0 at.1) (option_map by_handle o)
told None = refl
told (Some entry) = refl

pub apart-is : (opens : List OpenEntry) (file : ℕ) → kept_apart opens file
    ≡ option_map (λ (at : ℕ × ℕ). no.Shared at.0 at.1) (option_map by_handle (find (conflicts (AsksFor to_read all_access) file) opens))
apart-is opens file =
    told (find (λ (entry : OpenEntry). (entry.file == file) && not entry.share.r) opens)
    ∙ sym (ap (λ o. option_map (λ (at : ℕ × ℕ). no.Shared at.0 at.1) (option_map by_handle o)) (find-apart opens file))
