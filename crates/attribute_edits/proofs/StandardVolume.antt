-- THE VOLUME in which the standard information of a file was set: it is sound, and the file's node has the times and the flags.
use Rattle.std.proofs.Common.{◌≡◌, ◌≢◌, ◌<◌, ℕ, true, false, List, [], Some, refl, sym, ap, inl, inr, ◌∙◌, true≢false}
use Rattle.std.specs.Prelude.{◌&&◌, ◌||◌, bit_and, length, nat_le, nat_lt, slice_index}
use Rattle.std.specs.FinMap as finmap
use Rattle.std.proofs.lemmas.Bool.{cases_lt, lt-ltb}
use Rattle.ntfs_def.specs.StandardInformation.{dos_flags}
use Rattle.ntfs_def.specs.declared.kinds.TheConstants.{STANDARD_INFORMATION}
use Rattle.ntfs_def.specs.declared.records.TheConstants.{VOLUME}
use Rattle.volume_def.specs.Files.{parts_at}
use Rattle.volume_def.specs.Sound.{IsSound}
use Rattle.volume_def.specs.View.{VolumeView}
use Rattle.tree_model.specs.Reading.{node_at, read, standard_flags, tree_nodes}
use Rattle.tree_model.specs.declared.tree.Node.{Node}
use Rattle.tree_model.specs.declared.tree.TheConstants.{SHOWN_FLAGS}
use Rattle.in_place.specs.Kept.{KeepsStandard, is_shown_byte, other_flags}
use Rattle.in_place.specs.Nodes.{flag_of}
use Rattle.entry_edits.specs.Standard.{with_standard}
use Rattle.entry_edits.specs.Written.{LooksOutside}
use Rattle.entry_edits.specs.Below.{SetsStandard, hidden_flags}
use Rattle.entry_edits.proofs.RefreshedKeys.{others-kept, shown-told}
use Rattle.attribute_edits.proofs.StandardSet as set
use Rattle.attribute_edits.proofs.StandardWritten as standard
use Rattle.attribute_edits.proofs.StandardWritten.{WritesStandard}

module _ (old new : VolumeView) (f : ℕ) (times : List ℕ) (flags : ℕ) (s : SetsStandard old new f times flags) (sound : IsSound old)
    (outside : LooksOutside old) (apart : f ≢ VOLUME) where
  abbrev w : WritesStandard old new f 0 s.front
  w = set.front-written old new f times flags s

  abbrev value : List ℕ
  value = w.value

  abbrev next : List ℕ
  next = standard.next old new f 0 s.front w

  abbrev fronts : set.FrontSet value times flags s.front
  fronts = set.front-set old new f times flags s

  pub sound-set : IsSound new
  sound-set = standard.sound-written old new f 0 s.front w sound outside apart

  module _ (shown : bit_and flags SHOWN_FLAGS ≡ flags) (node : Node) (there : node_at old f ≡ Some node) where
    flags-are : standard_flags next ≡ flags
    flags-are = ap (λ x. bit_and x SHOWN_FLAGS) (set.flags-set value times s.front flags fronts) ∙ shown-told (dos_flags value) flags
        ∙ shown

    -- THE READING: the node has these times and flags
    node-set : with_standard next node ≡ record node { times = times; flags = flags }
    node-set = λ i. record node {
      times = set.times-set value times s.front flags fronts i;
      flags = flags-are i;
      security = (set.security-same value times s.front flags fronts
          ∙ sym (ap (λ (x : Node). x.security) (standard.node-told old new f 0 s.front w sound outside apart node there))) i;
    }

    pub reads-set : read new ≡ record (read old) { nodes = finmap.insert (tree_nodes old) f (record node { times = times; flags = flags }) }
    reads-set =
        standard.reads-written old new f 0 s.front w sound outside apart node there
        ∙ ap (λ x. record (read old) { nodes = finmap.insert (tree_nodes old) f x }) node-set

    -- WHAT THE TREE DOES NOT SHOW stays
    low-shown : (long k : ℕ) → k < 0x24 → is_shown_byte long k ≡ true
    low-shown long k below = ap (λ b. b || (nat_le 72 long && (nat_le 0x34 k && nat_lt k 0x38))) (lt-ltb k 0x24 below)

    unshown : (k : ℕ) → is_shown_byte (length next) k ≡ false → slice_index next k ≡ slice_index value k
    unshown k e = elim (cases_lt k 0x24) [
      | inl below ↦ absurd (true≢false (sym (low-shown (length next) k below) ∙ e))
      | inr behind ↦ set.behind-at value times s.front flags fronts k behind
    ]

    pub standard-kept : KeepsStandard false (parts_at old f STANDARD_INFORMATION []) (parts_at new f STANDARD_INFORMATION [])
    standard-kept = standard.standard-kept old new f 0 s.front w sound outside apart node there (record {
      long = inl (standard.next-long old new f 0 s.front w);
      others = unshown;
      flags = ap other_flags (set.flags-set value times s.front flags fronts)
          ∙ others-kept 0xFFFFC8D8 (dos_flags value) flags refl refl shown;
    })

    -- the flags of sparse files and of reparse points too
    pub marks-kept : (mask : ℕ) → bit_and hidden_flags mask ≡ mask → bit_and SHOWN_FLAGS mask ≡ 0 → flag_of mask new f ≡ flag_of mask old f
    marks-kept mask inside out =
        ap (λ v. bit_and (dos_flags v) mask) (standard.standard-now old new f 0 s.front w sound outside apart node there)
        ∙ ap (λ x. bit_and x mask) (set.flags-set value times s.front flags fronts)
        ∙ others-kept mask (dos_flags value) flags inside out shown
        ∙ sym (ap (λ v. bit_and (dos_flags v) mask) (standard.standard-was old new f 0 s.front w sound outside apart node there))
