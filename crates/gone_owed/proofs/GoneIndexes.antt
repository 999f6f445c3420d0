-- INDEXES behind the command: what the file that went left of them, and what was kept behind it, both keep.
use Rattle.std.proofs.Common.{◌≡◌, ◌+◌, ◌≤◌, ◌==◌, ℕ, Bool, true, false, List, [], codes, length, Option, Some, None}
use Rattle.std.proofs.Common.{refl, sym, ap, subst, ◌∙◌, arith}
use Rattle.std.proofs.lemmas.Bool.{and_left}
use Rattle.std.specs.Option.{option_map}
use Rattle.std.specs.Prelude.{IfSome, is_some}
use Rattle.std.specs.Str.{bytes_eq}
use Rattle.ntfs_def.specs.FileName.{FileName}
use Rattle.ntfs_def.specs.Units.{wide}
use Rattle.ntfs_def.specs.declared.kinds.TheConstants.{BITMAP, INDEX_ALLOCATION, INDEX_ROOT}
use Rattle.volume_def.specs.Files.{Part, parts_at}
use Rattle.volume_def.specs.Values.{first_part}
use Rattle.volume_def.specs.View.{VolumeView}
use Rattle.tree_model.specs.Bill.{Change, changes_of}
use Rattle.tree_model.specs.IndexRoom.{Index, directory_index, extend_index, index_depth}
use Rattle.tree_model.specs.Reading.{read}
use Rattle.tree_model.specs.Subjects.{Located, at_file}
use Rattle.tree_model.specs.declared.command.Command.{Command}
use Rattle.tree_model.specs.declared.command.Command.TheVariants as c
use Rattle.tree_model.specs.declared.tree.Node.{Node}
use Rattle.edit_def.specs.Kept.{Key, key_of}
use Rattle.session_def.specs.Indexes.{KeepsFlagsOf, KeepsIndex, KeepsIndexIfThere, KeepsIndexes, bits_set, index_bits, index_records}
use Rattle.session_def.specs.Indexes.{keys_changed, most_split}
use Rattle.session_def.specs.State.{State}
use Rattle.made_edits.specs.Blank.{blank_part}
use Rattle.made_edits.specs.InPlace.{Rewrites}
use Rattle.made_edits.proofs.BlankLaws.{first-blank}
use Rattle.made_edits.proofs.SameRecords.{at-same}
use Rattle.in_place_owed.proofs.IndexesSet.{directory-owed, extend-owed, index-named}
use Rattle.gone_edits.specs.Beside.{KeepsRest}
use Rattle.made_edits.specs.Left.{is_entry_key}
use Rattle.gone_owed.specs.GoneOwed.{SetsBehindGone, at_gone, between}
use Rattle.gone_owed.proofs.GoneBase as base
use Rattle.gone_owed.proofs.GoneItems as items

never : {b : Bool} → b ≡ true → b ≡ false → ⊥
never x y = cc

-- PARTS that say the same but for the bytes of values
some-blank : (o : Option Part) → is_some (option_map blank_part o) ≡ is_some o
some-blank None = refl
some-blank (Some part) = refl

some-part : (a b : Part) → ◌≡◌ {A = Option Part} (Some a) (Some b) → a ≡ b
some-part a b e = cc

flags-then : (k : ℕ) (o u : Option Part) → option_map blank_part o ≡ option_map blank_part u → IfSome u (λ part. part.flags ≡ k)
    → IfSome o (λ part. part.flags ≡ k)
flags-then k None u e is = tt
flags-then k (Some x) None e is = cc
flags-then k (Some x) (Some y) e is = ap (λ (p : Part). p.flags) (some-part (blank_part x) (blank_part y) e) ∙ is

module _ (before next : State) (n : ℕ) (file parent : Node) (name : FileName) (mid staged : VolumeView)
    (s : SetsBehindGone before next n name.parent.number file parent name mid staged) where
  abbrev dir : ℕ
  dir = name.parent.number

  abbrev old : VolumeView
  old = before.view

  abbrev new : VolumeView
  new = next.view

  abbrev half : State
  half = between before mid

  abbrev setter : Command
  setter = c.Setattr [] 0

  abbrev folder : Located
  folder = at_file (read mid) None dir

  abbrev named : Key → Bool
  named = base.named before next n file parent name mid staged s

  rewrote : Rewrites named mid new
  rewrote = base.behind before next n file parent name mid staged s

  rest : KeepsRest old mid n dir name
  rest = base.rest before next n file parent name mid staged s

  -- the first part of an attribute behind the command
  first-same : (f kind : ℕ) (name : List ℕ)
      → option_map blank_part (first_part (parts_at new f kind name)) ≡ option_map blank_part (first_part (parts_at mid f kind name))
  first-same f kind name =
      sym (first-blank (parts_at new f kind name))
      ∙ ap first_part (at-same named mid new
      rewrote f kind name)
      ∙ first-blank (parts_at mid f kind name)

  flags-kept : (kind : ℕ) (index : Index) → KeepsFlagsOf kind old mid index → KeepsFlagsOf kind old new index
  flags-kept kind index = flags-then _ (first_part (parts_at new index.file kind index.name))
      (first_part (parts_at mid index.file kind index.name)) (first-same index.file kind index.name)

  -- AN INDEX: one kept with these changes, and then without any
  index-then : (changes : List Change) (index : Index) → KeepsIndexIfThere old mid changes index → KeepsIndexIfThere mid new [] index
      → KeepsIndexIfThere old new changes index
  index-then changes index first then was now was_at now_at = by (first_part (parts_at mid index.file INDEX_ROOT index.name)) refl
    where
      by : (o : Option Part) → first_part (parts_at mid index.file INDEX_ROOT index.name) ≡ o → KeepsIndex old new changes index was now
      by None none =
          absurd (never (sym (some-blank (first_part (parts_at mid index.file INDEX_ROOT index.name)))
          ∙ ap is_some (sym (first-same index.file INDEX_ROOT index.name))
          ∙ some-blank (first_part (parts_at new index.file INDEX_ROOT index.name)) ∙ ap is_some now_at) (ap is_some none))
      by (Some root) there =
          let a = first was root was_at there in
          let b = then root now there now_at in
          let keys = keys_changed old changes index in
          let deep : index_depth new index ≤ index_depth mid index + 0 = b.depth in
          let many : index_records new index ≤ index_records mid index + 0 = b.records in
          let count : bits_set (index_bits new index) ≤ bits_set (index_bits mid index) + 0 = b.set in
          let deep_mid : index_depth mid index ≤ index_depth old index + keys = a.depth in
          let many_mid : index_records mid index ≤ index_records old index + most_split (index_depth old index) keys = a.records in
          let split = most_split (index_depth old index) keys in
          let count_mid : bits_set (index_bits mid index) ≤ bits_set (index_bits old index) + split = a.set in
          record {
            head = b.head ∙ a.head;
            root_flags = b.root_flags ∙ a.root_flags;
            record_flags = flags-kept INDEX_ALLOCATION index a.record_flags;
            bit_flags = flags-kept BITMAP index a.bit_flags;
            depth = omega (arith, deep, deep_mid);
            records = omega (arith, many, many_mid);
            same = λ none. b.same refl ∙ a.same none;
            set = omega (arith, count, count_mid);
          }

  -- one in $Extend
  extend-kept : (changes : List Change) (file name : List ℕ) → bytes_eq [] (wide name) ≡ false → (length (wide name) == 0) ≡ false
      → bytes_eq (wide name) (wide (codes "$I30")) ≡ false → (index : Index) → extend_index new file name ≡ Some index
      → KeepsIndexIfThere old new changes index
  extend-kept changes file name some long away index found =
      let called = index-named new file name index found in
      let free : is_entry_key dir (key_of index.file INDEX_ALLOCATION index.name) ≡ false =
      subst (λ m. is_entry_key dir (key_of index.file INDEX_ALLOCATION m) ≡ false) (sym called)
      (and_left (bytes_eq (wide name) (wide (codes "$I30"))) (index.file == dir) away) in
      index-then changes index
      (rest.indexes changes index
      (subst (λ m. bytes_eq [] m ≡ false) (sym called) some) free)
      (extend-owed half next setter folder staged s.behind [] file name long away index found)

  pub indexes : (path : List (List ℕ)) (made : ℕ)
      → KeepsIndexes old new before.machine.tree next.machine.tree (c.Rm path) (at_gone before.machine.tree n name) made
  indexes path made =
      let changes = changes_of old before.machine.tree (c.Rm path) (at_gone before.machine.tree n name) in
      record {
        keys = items.keys-kept before next n file parent name mid staged s;
        directories = λ g.
            index-then changes (directory_index g) (rest.directories changes g)
            (directory-owed half next setter folder staged s.behind [] g);
        points = extend-kept changes (codes "$Reparse") (codes "$R") refl refl refl;
        object_ids = extend-kept changes (codes "$ObjId") (codes "$O") refl refl refl;
      }
