-- Names that are met one behind the other.
use Rattle.std.proofs.Common.{◌≡◌, ◌+◌, ◌<◌, ℕ, Bool, true, false, List, [], ◌∷◌, ◌++◌, length, map, get_or, take, drop, subst, sym}
use Rattle.std.proofs.lemmas.List.{append_assoc, map_more}
use Rattle.ntfs_def.specs.FileName.{Link}
use Rattle.list_laws.specs.SameItems.{SameItems}
use Rattle.volume_def.specs.View.{VolumeView}
use Rattle.check_dirs.specs.declared.notes.NameNote.{NameNote}
use Rattle.check_dirs.specs.declared.seen.Seen.{Seen}
use Rattle.check_dirs.specs.Directory.{MeetsLink, MeetsLinks}
use Rattle.check_dirs.specs.Notes.{link_noted}
use Rattle.check_dirs.specs.Seen.{IsMet, links_of_entries}
use Rattle.list_laws.proofs.PieceLaws.{map-split}

-- one more
pub meets-more : (old mid new : Seen) (met : List Link) (link : Link) → MeetsLinks true old mid met → MeetsLink true mid new link
    → MeetsLinks true old new (met ++ link ∷ [])
meets-more old mid new met link before this links first =
    subst (IsMet new) (append_assoc links met (link ∷ [])) (this (links ++ met) (before links first))

-- one that is not met, and whatever others
pub meets-not : (old mid new other : Seen) (met rest : List Link) (link : Link) → mid.entries ≡ old.entries → MeetsLinks true old mid met
    → MeetsLink false mid new link → MeetsLinks false old other (met ++ link ∷ rest)
meets-not old mid new other met rest link entries before this links first same =
    this (links ++ met) rest (before links first)
    (subst (λ e. SameItems (links_of_entries e.items) ((links ++ met) ++ link ∷ rest)) (sym entries)
    (subst (SameItems (links_of_entries old.entries.items)) (sym (append_assoc links met (link ∷ rest))) same))

-- The notes up to one, that one, and those behind it.
module _ (view : VolumeView) (notes : List NameNote) (k : ℕ) (d : NameNote) (inside : k < length notes) where
  pub notes-more : (old mid new : Seen) (met : Bool) → met ≡ true → MeetsLinks true old mid (map (link_noted view) (take k notes))
      → MeetsLink met mid new (link_noted view (get_or notes k d)) → MeetsLinks true old new (map (link_noted view) (take (k + 1) notes))
  notes-more old mid new met is before this =
      subst (MeetsLinks true old new) (sym (map_more (link_noted view) notes k d inside))
      (meets-more old mid new (map (link_noted view) (take k notes)) (link_noted view (get_or notes k d)) before
      (subst (λ b. MeetsLink b mid new (link_noted view (get_or notes k d))) is this))

  pub notes-not : (old mid new other : Seen) (met : Bool) → met ≡ false → mid.entries ≡ old.entries
      → MeetsLinks true old mid (map (link_noted view) (take k notes)) → MeetsLink met mid new (link_noted view (get_or notes k d))
      → MeetsLinks false old other (map (link_noted view) notes)
  notes-not old mid new other met is entries before this =
      subst (MeetsLinks false old other) (sym (map-split (link_noted view) notes k d inside))
      (meets-not old mid new other (map (link_noted view) (take k notes)) (map (link_noted view) (drop (k + 1) notes))
      (link_noted view (get_or notes k d)) entries before (subst (λ b. MeetsLink b mid new (link_noted view (get_or notes k d))) is this))
