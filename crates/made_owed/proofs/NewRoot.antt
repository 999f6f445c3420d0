-- THE NEW FILE'S INDEX, where it is a directory: no name stands in it, so its root is left alone where the directory is set.
use Rattle.std.proofs.Common.{◌≡◌, ◌&&◌, ℕ, Bool, true, false, List, [], ◌∷◌, codes, Option, Some, None, ap, refl, subst, ◌∙◌}
use Rattle.std.proofs.lemmas.Bool.{and_parts, eqb-true, false_from_ne_true}
use Rattle.std.proofs.lemmas.List.Elements.{All-contains}
use Rattle.std.specs.List.{Contains}
use Rattle.std.specs.Prelude.{IsSomeAnd, IsTrue}
use Rattle.list_laws.proofs.FindLaws.{passing, some-counted}
use Rattle.ntfs_def.specs.FileName.{FileName}
use Rattle.ntfs_def.specs.Units.{wide}
use Rattle.ntfs_def.specs.declared.kinds.TheConstants.{INDEX_ROOT}
use Rattle.volume_def.specs.FileNames.{names_of}
use Rattle.volume_def.specs.Files.{Record, record_on, records_of}
use Rattle.volume_def.specs.Sound as clauses
use Rattle.volume_def.specs.Sound.{IsSound}
use Rattle.volume_def.specs.View.{VolumeView}
use Rattle.tree_model.specs.Reading.{read}
use Rattle.tree_model.specs.Tree.{is_in}
use Rattle.tree_model.specs.declared.tree.Link.{Link}
use Rattle.tree_model.proofs.ShownLaws.{link-named}
use Rattle.edit_def.specs.Kept.{key_of}
use Rattle.edit_def.specs.Names.{is_directory_in}
use Rattle.edit_def.proofs.NamesLaws.{in-directory, stand-of}
use Rattle.session_def.specs.Named.{every_link, has_entry_of, leads_among}
use Rattle.session_def.specs.State.{State}
use Rattle.in_place_owed.proofs.CostLaws.{link-among}
use Rattle.made_owed.specs.MadeOwed.{SetsBehindMade}
use Rattle.made_owed.proofs.MadeBase as base
use Rattle.made_owed.proofs.MadeTree as trees

never : {b : Bool} → b ≡ true → b ≡ false → ⊥
never x y = cc

none-held : (P : Record → Type 0) (o : Option Record) → o ≡ None → IsSomeAnd o P → ⊥
none-held P None e is = is
none-held P (Some r) e is = cc

-- NO LINK stands in a record that is not in use.
link-elsewhere : (view : VolumeView) → IsSound view → (f : ℕ) → record_on view f ≡ None → (link : Link) → Contains (every_link (read view))
    link
    → link.parent ≡ f → ⊥
link-elsewhere view sound f free link there is =
    let named = link-named view link (link-among view link there) in
    let records = records_of view in
    let stands = All-contains (λ (name : FileName). IsTrue (is_directory_in records name.parent)) (names_of records link.child) named.name
    (stand-of records (sound clauses.References) link.child) named.there in
    let directory = in-directory records named.name.parent stands in
    let parent : named.name.parent.number ≡ f = ap (λ (l : Link). l.parent) named.same ∙ is in
    none-held _ (record_on view named.name.parent.number) (ap (record_on view) parent ∙ free) directory.0

pub no-entries : (view : VolumeView) → IsSound view → (files : List ℕ) (f : ℕ) → record_on view f ≡ None
    → has_entry_of (read view) files f ≡ false
no-entries view sound files f free = false_from_ne_true (has_entry_of (read view) files f) (λ is.
    let p = λ (l : Link). is_in f l && leads_among files l in
    let met = passing p (every_link (read view)) (some-counted p (every_link (read view)) is) in
    let both = and_parts (is_in f met.0) (leads_among files met.0) met.2 in
    link-elsewhere view sound f free met.0 met.1 (eqb-true met.0.parent f both.0))

module _ (directory : Bool) (before next : State) (dir : ℕ) (units : List ℕ) (made : ℕ) (mid staged : VolumeView)
    (s : SetsBehindMade directory before next dir units made mid staged) where
  none-in : has_entry_of (read mid) (dir ∷ []) made ≡ false
  none-in =
      trees.entry-less before.machine.tree dir made units (base.other directory before next dir units made mid staged s) (read mid) _
      (base.reads directory before next dir units made mid staged s) made
      (subst (λ t. has_entry_of t (made ∷ dir ∷ []) made ≡ false) s.stands.reading
      (no-entries before.view s.stands.sound (made ∷ dir ∷ []) made (base.free directory before next dir units made mid staged s)))

  pub root-free : base.named directory before next dir units made mid staged s (key_of made INDEX_ROOT (wide (codes "$I30"))) ≡ false
  root-free = rw none-in refl
