-- ONE ATTRIBUTE OF A FILE THAT WAS EDITED, and the times and flags of the file that were set then, staged: what is asked of the volume.
use Rattle.std.proofs.Common.{◌≡◌, ◌⊎◌, ℕ, Bool, true, false, List, [], ◌∷◌, Option, Some, None, codes, length, refl, sym, ap}
use Rattle.std.proofs.Common.{subst, inl, inr, ◌∙◌, arith}
use Rattle.std.proofs.lemmas.Bool.{false_from_ne_true, or_cases, or_right}
use Rattle.std.specs.FinMap as finmap
use Rattle.std.specs.Option.{option_map}
use Rattle.std.specs.Prelude.{IsSomeAnd, IsTrue, bit_and}
use Rattle.ntfs_def.specs.Node.{Item}
use Rattle.ntfs_def.specs.Units.{wide}
use Rattle.ntfs_def.specs.declared.kinds.TheConstants.{INDEX_ROOT, STANDARD_INFORMATION}
use Rattle.volume_def.specs.FileNames.{names_of}
use Rattle.volume_def.specs.Files.{Part, Record, is_base, is_directory, parts_at, record_on, records_of}
use Rattle.volume_def.specs.Readable.{IsDirectory}
use Rattle.volume_def.specs.Sound.{IsSound}
use Rattle.volume_def.specs.Values.{first_part, spot_at}
use Rattle.volume_def.specs.View.{VolumeView}
use Rattle.tree_model.specs.Effects.{tree_after}
use Rattle.tree_model.specs.IndexRoom.{Index, directory_index, index_depth}
use Rattle.tree_model.specs.Reading.{read, standard_of, tree_nodes}
use Rattle.tree_model.specs.StreamRoom.{is_cluster}
use Rattle.tree_model.specs.Subjects.{Located}
use Rattle.tree_model.specs.Tree.{Tree}
use Rattle.tree_model.specs.declared.command.Command.{Command}
use Rattle.tree_model.specs.declared.tree.Node.{Node}
use Rattle.tree_model.specs.declared.tree.TheConstants.{SHOWN_FLAGS}
use Rattle.edit_def.specs.Items.{HasItems, KeepsItems}
use Rattle.edit_def.specs.Kept.{Key, either, key_of, same_key}
use Rattle.session_def.specs.Done.{stream_in}
use Rattle.session_def.specs.Indexes.{KeepsRests}
use Rattle.session_def.specs.Kept.{KeepsEntries, KeepsStandard, is_shown_byte}
use Rattle.session_def.specs.Named.{is_own_key}
use Rattle.session_def.specs.State.{Stands, State}
use Rattle.in_place.specs.Blank.{blank_record}
use Rattle.in_place.specs.InPlace.{Rewrites}
use Rattle.in_place.specs.Unnamed.{CanSet, KeepsMarks}
use Rattle.in_place.proofs.RewriteLaws.{Rewrites-more, Rewrites-then}
use Rattle.in_place.proofs.SameRecords.{on-same}
use Rattle.edit_written.specs.Steps.{with_node}
use Rattle.attribute_edits.specs.Below.{SetsAttributes}
use Rattle.attribute_edits.specs.Attributes as attributes
use Rattle.attribute_edits.proofs.AttributesSet as edits
use Rattle.in_place_owed.specs.SetsInPlace.{KeepsRoot, is_set_key, punches_stream}
use Rattle.in_place_done.proofs.NamedKeys.{told-named}
use Rattle.in_place_done.proofs.StagedVolume.{IsStaged}
use Rattle.in_place_done.proofs.TreeBehind.{node-shown, reads-twice}

-- THE FIRST STEP: the attribute of this key was rewritten, which is no name, and no root of an index. The file is this node then,
-- directories keep their items, indexes their depth, and $STANDARD_INFORMATION all that the tree does not show.
pub record StepsFirst (old mid : VolumeView) (f : ℕ) (key : Key) (node : Node) : Type 0 where
  pub can : CanSet mid f node
  pub rewrites : Rewrites (same_key key) old mid
  pub reads : read mid ≡ with_node f node (read old)
  pub items : (dir : ℕ) → KeepsItems old mid dir
  pub depths : (index : Index) → index_depth mid index ≡ index_depth old index
  pub names : names_of (records_of mid) f ≡ names_of (records_of old) f
  pub roots : (dir : ℕ) → parts_at mid dir INDEX_ROOT (wide (codes "$I30")) ≡ parts_at old dir INDEX_ROOT (wide (codes "$I30"))
  pub standard : KeepsStandard false (parts_at old f STANDARD_INFORMATION []) (parts_at mid f STANDARD_INFORMATION [])
  pub marks : KeepsMarks old mid f

-- A DIRECTORY is one without the bytes of its values, and so after a rewrite.
abbrev IsBoth : Option Record → Type 0
IsBoth o = IsSomeAnd o (λ r. IsTrue (is_base r) × IsTrue (is_directory r))

both-blank : (o : Option Record) → IsBoth o → IsBoth (option_map blank_record o)
both-blank None is = absurd is
both-blank (Some r) is = is

blank-both : (o : Option Record) → IsBoth (option_map blank_record o) → IsBoth o
blank-both None is = absurd is
blank-both (Some r) is = is

directory-still : (changed : Key → Bool) (old new : VolumeView) → Rewrites changed old new → (dir : ℕ) → IsDirectory old dir
    → IsDirectory new dir
directory-still changed old new w dir is =
    blank-both (record_on new dir) (subst IsBoth (sym (on-same changed old new w dir)) (both-blank (record_on old dir) is))

-- WHAT IS NOT SHOWN of $STANDARD_INFORMATION stays from step to step.
same-long : (now was : List ℕ) → (length now ≡ length was) ⊎ ((false ≡ true) × (length now ≡ 72)) → length now ≡ length was
same-long now was (inl same) = same
same-long now was (inr other) = cc

standard-then : (old mid new : List Part) → KeepsStandard false old mid → KeepsStandard false mid new → KeepsStandard false old new
standard-then old mid new a b =
    let long = same-long (standard_of new) (standard_of mid) b.value.long in
    record {
      flags = b.flags ∙ a.flags;
      value = record {
        long = inl (long ∙ same-long (standard_of mid) (standard_of old) a.value.long);
        others = λ k shown. b.value.others k shown ∙ a.value.others k (ap (λ n. is_shown_byte n k) (sym long) ∙ shown);
        flags = b.value.flags ∙ a.value.flags;
      };
    }

-- `old` is the volume before, `mid` with the attribute, and `new` with the times too.
module _ (before : State) (stands : Stands before) (at : Located) (node : Node) (can : CanSet before.view at.file node) (over : Node)
    (flags_same : over.flags ≡ node.flags) (mid new : VolumeView) (first_key : Key)
    (o : StepsFirst before.view mid at.file first_key over)
    (times : List ℕ) (sets : SetsAttributes mid new at.file times node.flags) where
  abbrev old : VolumeView
  old = before.view

  abbrev f : ℕ
  f = at.file

  abbrev first : Key → Bool
  first = same_key first_key

  shown : bit_and node.flags SHOWN_FLAGS ≡ node.flags
  shown = node-shown old f node can.there

  second : Rewrites (attributes.is_set_key mid f) mid new
  second = edits.rewrites mid new f times node.flags sets o.can.sound o.can.apart o.can.other o.can.elsewhere shown over o.can.there

  abbrev times_key : Key → Bool
  times_key = same_key (key_of f STANDARD_INFORMATION [])

  abbrev both_key : Key → Bool
  both_key = either first (attributes.is_set_key mid f)

  both : Rewrites both_key old new
  both = Rewrites-then first (attributes.is_set_key mid f) old mid new o.rewrites second

  -- so the attributes of the command alone were rewritten
  module _ (command : Command) (own : (key : Key) → first key ≡ true → is_set_key before.machine.tree command at key ≡ true) where
    some : (key : Key) → both_key key ≡ true → is_set_key before.machine.tree command at key ≡ true
    some key named = elim (or_cases (first key) (attributes.is_set_key mid f key) named) [
      | inl its ↦ own key its
      | inr told ↦
          or_right (is_own_key before.machine.tree command at 0 key) _
          (told-named before stands f (edits.node-file old f node can.there) key
          (subst (λ (all : List _). either times_key (attributes.is_told_key (attributes.dirs_of all)) key ≡ true) o.names told))
    ]

    rewrites : Rewrites (is_set_key before.machine.tree command at) old new
    rewrites = Rewrites-more both_key (is_set_key before.machine.tree command at) old new (λ key free.
        false_from_ne_true (both_key key) (λ named. never (some key named) free)) both
      where
        never : {b : Bool} → b ≡ true → b ≡ false → ⊥
        never x y = cc

  sound : IsSound new
  sound = edits.sound-last mid new f times node.flags sets o.can.sound o.can.apart o.can.other o.can.elsewhere shown over o.can.there

  -- THE TREE: first with the attribute, then with the times
  abbrev pub last : Node
  last = record over { times = times; flags = node.flags }

  reads-new : read new ≡ record (read old) { nodes = finmap.insert (tree_nodes old) f last }
  reads-new =
      reads-twice old mid new f over last o.reads
      (edits.reads mid new f times node.flags sets o.can.sound o.can.apart o.can.other o.can.elsewhere shown over o.can.there)

  -- WHAT THE TREE DOES NOT SHOW stays by both steps.
  standard : KeepsStandard false (parts_at old f STANDARD_INFORMATION []) (parts_at new f STANDARD_INFORMATION [])
  standard =
      standard-then (parts_at old f STANDARD_INFORMATION []) (parts_at mid f STANDARD_INFORMATION [])
      (parts_at new f STANDARD_INFORMATION []) o.standard
      (edits.standard-kept mid new f times node.flags sets o.can.sound o.can.apart o.can.other o.can.elsewhere shown over o.can.there)

  marks : KeepsMarks old new f
  marks =
      let kept = edits.marks-kept mid new f times node.flags sets o.can.sound o.can.apart o.can.other o.can.elsewhere shown over o.can.there
      in
      record { sparse = kept 0x200 refl refl ∙ o.marks.sparse; point = kept 0x400 refl refl ∙ o.marks.point }

  roots : (dir : ℕ) → KeepsRoot old new dir
  roots dir was now there still = record {
    head =
        edits.heads mid new f times node.flags sets o.can.sound o.can.apart o.can.other o.can.elsewhere shown over o.can.there dir was now
        (ap first_part (o.roots dir) ∙ there) still;
    depth =
        let same = edits.depths mid new f times node.flags sets o.can.sound o.can.apart o.can.other o.can.elsewhere shown over o.can.there
        dir in
        let first = o.depths (directory_index dir) in
        omega (arith, same, first);
  }

  module _ (dir : ℕ) (was now : List Item) (is : IsDirectory old dir) (has : HasItems old dir was) (becomes : HasItems new dir now) where
    entries : (tree next : Tree) → KeepsEntries new tree next (f ∷ []) [] was now
    entries =
        edits.entries mid new f times node.flags sets o.can.sound o.can.apart o.can.other o.can.elsewhere shown over o.can.there dir was now
        (directory-still first old mid o.rewrites dir is) (o.items dir was has) becomes

    rests : KeepsRests new (f ∷ []) [] was now
    rests =
        edits.rests mid new f times node.flags sets o.can.sound o.can.apart o.can.other o.can.elsewhere shown over o.can.there dir was now
        (directory-still first old mid o.rewrites dir is) (o.items dir was has) becomes

  -- ALL OF IT, of a command that names the attribute and makes this of the file
  pub steps-staged : (command : Command)
      → ((key : Key) → first key ≡ true → is_set_key before.machine.tree command at key ≡ true)
      → (read new ≡ record (read old) { nodes = finmap.insert (tree_nodes old) f last } → read new ≡ tree_after before.machine command at 0)
      → (punches_stream command ≡ true → (vcn : ℕ) → is_cluster (spot_at (stream_in old before.machine.tree at) vcn) ≡ false)
      → IsStaged before command at new
  steps-staged command own effect nowhere = record {
    set = record {
      rewrites = rewrites command own;
      sound = sound;
      standard = standard;
      marks = marks;
      roots = roots;
      entries = entries;
      rests = rests;
      nowhere = nowhere;
    };
    reads = effect reads-new;
  }
