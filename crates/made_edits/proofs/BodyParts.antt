-- THE BODY OF A NEW FILE, and the parts of a file that has one: what they tell, whether it is the empty stream of a file or the root of the
-- index of a directory.
use Rattle.std.proofs.Common.{◌≡◌, ◌<◌, ◌/◌, ◌%◌, ◌==◌, ℕ, Bool, true, false, List, [], ◌∷◌, codes, filter, length, map, refl, sym}
use Rattle.std.proofs.Common.{subst, inl, ◌∙◌}
use Rattle.std.proofs.Common.{inr, arith, if◌then◌else◌}
use Rattle.std.specs.Prelude.{bit_and, count_by}
use Rattle.std.specs.List.{Contains}
use Rattle.std.specs.Str.{bytes_eq}
use Rattle.std.proofs.lemmas.Bool.{false_from_ne_true}
use Rattle.std.proofs.lemmas.Slice.Eq.{bytes_eq-Decides}
use Rattle.list_laws.proofs.MemberLaws.{Contains-cases, Contains-only}
use Rattle.ntfs_def.specs.Attribute.{attribute_at}
use Rattle.ntfs_def.specs.FileName.{name_in}
use Rattle.ntfs_def.specs.Units.{wide}
use Rattle.ntfs_def.specs.declared.kinds.TheConstants.{DATA, FILE_NAME, INDEX_ROOT}
use Rattle.record_bytes.proofs.ResidentLaws.{IsResident, IsResident-bytes}
use Rattle.volume_def.specs.FileNames.{names_among}
use Rattle.volume_def.specs.Files.{Part, is_of, part_of}
use Rattle.volume_def.specs.ListsClause.{is_list}
use Rattle.volume_def.specs.Values.{first_part, is_first}
use Rattle.tree_model.specs.Effects.{new_node}
use Rattle.tree_model.specs.Reading.{standard_of}
use Rattle.tree_model.specs.declared.tree.TheConstants.{SHOWN_FLAGS}
use Rattle.edit_def.specs.Items.{stream_sizes}
use Rattle.edit_def.specs.Kept.{is_name_told, told_by}
use Rattle.root_puts.specs.NewFiles.{standard_part}
use Rattle.made_edits.specs.Between.{body_part, new_parts}
use Rattle.made_edits.specs.Comes.{body_bytes, body_kind, body_name, body_value, empty_root, name_flags}
use Rattle.made_edits.specs.Wants.{body_units}
use Rattle.made_edits.proofs.NewParts.{name_part}

-- AS AN ATTRIBUTE: its type is above that of a name
pub body-above : (directory : Bool) → FILE_NAME < body_kind directory
body-above true = omega arith
body-above false = omega arith

pub body-even : (directory : Bool) → length (body_name directory) % 2 ≡ 0
body-even true = refl
body-even false = refl

pub body-half : (directory : Bool) → length (body_name directory) / 2 ≡ body_units directory
body-half true = refl
body-half false = refl

pub body-resident : (directory : Bool) (size : ℕ)
    → IsResident (body_bytes directory size) (body_kind directory) (body_name directory) 1 (body_value directory size)
body-resident true size =
    let name : length (wide (codes "$I30")) ≡ 8 = refl in
    let value : length (empty_root size) ≡ 48 = refl in
    IsResident-bytes INDEX_ROOT (wide (codes "$I30")) 1 (empty_root size) (body_bytes true size) (omega arith) (omega arith)
    (omega (arith, name)) refl (omega (arith, value)) (λ e. absurd (omega (arith, e))) refl
body-resident false size =
    IsResident-bytes DATA [] 1 [] (body_bytes false size) (omega arith) (omega arith) (omega arith) refl (omega arith)
    (λ e. absurd (omega (arith, e))) refl

pub body-is : (directory : Bool) (size n : ℕ) → part_of n (attribute_at (body_bytes directory size) 0) ≡ body_part directory size n
body-is directory size n = (body-resident directory size).part n

-- THE PARTS of the file without its name, and with it
abbrev pub bodied_parts : Bool → ℕ → ℕ → List ℕ → List Part
bodied_parts directory size n standard = standard_part n 0 standard ∷ body_part directory size n ∷ []

-- no part has the type and the name of the body
pub body-new : (directory : Bool) (n : ℕ) (standard : List ℕ)
    → filter (is_of (body_kind directory) (body_name directory)) (standard_part n 0 standard ∷ []) ≡ []
body-new true n standard = refl
body-new false n standard = refl

pub no-list-bodied : (directory : Bool) (size n : ℕ) (standard : List ℕ) → count_by is_list (bodied_parts directory size n standard) ≡ 0
no-list-bodied true size n standard = refl
no-list-bodied false size n standard = refl

pub no-list-new : (directory : Bool) (size n : ℕ) (standard key : List ℕ)
    → filter is_list (new_parts directory size n standard key) ≡ []
no-list-new true size n standard key = refl
no-list-new false size n standard key = refl

-- a root under another name than that of a directory's index
pub no-root-new : (directory : Bool) (size n : ℕ) (standard key name : List ℕ) → bytes_eq name (wide (codes "$I30")) ≡ false
    → filter (is_of INDEX_ROOT name) (new_parts directory size n standard key) ≡ []
no-root-new true size n standard key name apart =
    let away : bytes_eq (wide (codes "$I30")) name ≡ false =
    false_from_ne_true (bytes_eq (wide (codes "$I30")) name) (λ is.
    let same = (bytes_eq-Decides (wide (codes "$I30")) name).0 is in
    let never : true ≡ false = sym ((bytes_eq-Decides name (wide (codes "$I30"))).1 (sym same)) ∙ apart in cc) in
    rw away refl
no-root-new false size n standard key name apart = refl

-- names, and what they tell
pub unnamed-bodied : (directory : Bool) (size n : ℕ) (standard : List ℕ) → names_among (bodied_parts directory size n standard) ≡ []
unnamed-bodied true size n standard = refl
unnamed-bodied false size n standard = refl

pub named-new : (directory : Bool) (size n : ℕ) (standard key : List ℕ)
    → names_among (new_parts directory size n standard key) ≡ name_in key ∷ []
named-new true size n standard key = refl
named-new false size n standard key = refl

pub untold-bodied : (directory : Bool) (size n : ℕ) (standard : List ℕ)
    → filter is_name_told (map told_by (filter is_first (bodied_parts directory size n standard))) ≡ []
untold-bodied true size n standard = refl
untold-bodied false size n standard = refl

pub told-new : (directory : Bool) (size n : ℕ) (standard key : List ℕ)
    → filter is_name_told (map told_by (filter is_first (new_parts directory size n standard key))) ≡ told_by (name_part n key) ∷ []
told-new true size n standard key = refl
told-new false size n standard key = refl

-- its $STANDARD_INFORMATION
pub standard-new : (directory : Bool) (size n : ℕ) (standard key : List ℕ)
    → standard_of (new_parts directory size n standard key) ≡ standard
standard-new true size n standard key = refl
standard-new false size n standard key = refl

-- the unnamed stream, empty where there is one
pub sizes-new : (directory : Bool) (size n : ℕ) (standard key : List ℕ)
    → ◌≡◌ {A = ℕ × ℕ} (0, 0) (stream_sizes (first_part (filter (is_of DATA []) (new_parts directory size n standard key))))
sizes-new true size n standard key = refl
sizes-new false size n standard key = refl

-- each is one of three
pub new-cases : (P : Part → Type 0) (directory : Bool) (size n : ℕ) (standard key : List ℕ) → P (standard_part n 0 standard)
    → P (name_part n key) → P (body_part directory size n) → (p : Part) → Contains (new_parts directory size n standard key) p → P p
new-cases P directory size n standard key first second third p among =
    elim (Contains-cases (standard_part n 0 standard) (name_part n key ∷ body_part directory size n ∷ []) p among) [
      | inl is ↦ subst P is first
      | inr later ↦ elim (Contains-cases (name_part n key) (body_part directory size n ∷ []) p later) [
        | inl is ↦ subst P is second
        | inr last ↦ subst P (Contains-only (body_part directory size n) p last) third
      ]
    ]

-- FLAGS of the record, of the name and of the node
pub directory-told : (directory : Bool) → ((if directory then 3 else 1) / 2 % 2 == 1) ≡ directory
directory-told true = refl
directory-told false = refl

pub shown-flags : (directory : Bool) (moment security : ℕ)
    → bit_and (name_flags directory) SHOWN_FLAGS ≡ (new_node directory moment security).flags
shown-flags true moment security = refl
shown-flags false moment security = refl
