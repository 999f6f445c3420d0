-- THE COMMANDS that are done in place: what they do not do, and what they name of their own.
use Rattle.std.proofs.Common.{◌≡◌, ◌==◌, ◌&&◌, ℕ, true, false, [], ◌∷◌, length, None, inl, inr, refl, sym, ap, subst}
use Rattle.std.proofs.lemmas.Bool.{and_right, cases_Bool, eqb-true, le-ltb, leb-true}
use Rattle.std.specs.Str.{bytes_eq}
use Rattle.ntfs_def.specs.Units.{units_in}
use Rattle.ntfs_def.specs.declared.kinds.TheConstants.{DATA}
use Rattle.volume_def.specs.Files.{parts, records_of}
use Rattle.volume_def.specs.View.{VolumeView}
use Rattle.tree_model.specs.Bill.{dropped_links, has_short_standard, ids_dropped, removes_file, tags_added, tags_dropped}
use Rattle.tree_model.specs.Effects.{makes_file}
use Rattle.tree_model.specs.Reading.{standard_of}
use Rattle.tree_model.specs.Ways.{has_place_for_id, is_done_in_place}
use Rattle.tree_model.specs.Subjects.{Located, NewName, NoName}
use Rattle.tree_model.specs.Tree.{Tree}
use Rattle.tree_model.specs.declared.command.Command.{Command}
use Rattle.tree_model.specs.declared.command.Command.TheVariants as c
use Rattle.edit_def.specs.Kept.{Key}
use Rattle.session_def.specs.Done.{lengthens, may_own, point_added}
use Rattle.session_def.specs.Named.{is_own_key, new_directory, spelt, timed}
use Rattle.session_def.specs.Nodes.{HasPoint, edits_stream, point_flag}
use Rattle.in_place_owed.specs.SetsInPlace.{edits_in_place, punches_stream}

-- It makes no file, drops no name and takes no file away, moves no key of $R or of $O, and sets no point.
pub record DoesLittle (tree : Tree) (command : Command) (at : Located) : Type 0 where
  pub makes : makes_file command ≡ false
  pub drops : dropped_links tree command at ≡ []
  pub stays : removes_file tree command at ≡ false
  pub added : tags_added command ≡ []
  pub dropped : tags_dropped tree command at ≡ []
  pub ids : ids_dropped tree command at ≡ []
  pub points : (flag : ℕ) → point_flag command flag ≡ flag
  pub point : (view : VolumeView) (f : ℕ) → HasPoint view command f
  pub no_point : (view : VolumeView) → point_added view command at ≡ None

-- each of those that name a stream
stream-little : (tree : Tree) (command : Command) (at : Located) → edits_in_place command ≡ true → edits_stream command ≡ true
    → DoesLittle tree command at
stream-little tree (c.Write path stream from bytes) at is edits = record {
  makes = refl;
  drops = refl;
  stays = refl;
  added = refl;
  dropped = refl;
  ids = refl;
  points = λ flag. refl;
  point = λ view f. tt;
  no_point = λ view. refl;
}
stream-little tree (c.Hwrite handle from bytes) at is edits = record {
  makes = refl;
  drops = refl;
  stays = refl;
  added = refl;
  dropped = refl;
  ids = refl;
  points = λ flag. refl;
  point = λ view f. tt;
  no_point = λ view. refl;
}
stream-little tree (c.Punch path stream from len) at is edits = record {
  makes = refl;
  drops = refl;
  stays = refl;
  added = refl;
  dropped = refl;
  ids = refl;
  points = λ flag. refl;
  point = λ view f. tt;
  no_point = λ view. refl;
}
stream-little tree other at is edits = cc

pub does-little : (tree : Tree) (command : Command) (at : Located) → edits_in_place command ≡ true → DoesLittle tree command at
does-little tree (c.Setattr path flags) at is = record {
  makes = refl;
  drops = refl;
  stays = refl;
  added = refl;
  dropped = refl;
  ids = refl;
  points = λ flag. refl;
  point = λ view f. tt;
  no_point = λ view. refl;
}
does-little tree (c.Setsec path id) at is = record {
  makes = refl;
  drops = refl;
  stays = refl;
  added = refl;
  dropped = refl;
  ids = refl;
  points = λ flag. refl;
  point = λ view f. tt;
  no_point = λ view. refl;
}
does-little tree (c.Write path stream from bytes) at is = stream-little tree (c.Write path stream from bytes) at refl refl
does-little tree (c.Hwrite handle from bytes) at is = stream-little tree (c.Hwrite handle from bytes) at refl refl
does-little tree (c.Punch path stream from len) at is = stream-little tree (c.Punch path stream from len) at refl refl
does-little tree other at is = cc

-- THE NODES of which a time is set are one
pub timed-one : (command : Command) (at : Located) (made : ℕ) → edits_in_place command ≡ true → at.new ≡ NoName
    → timed command at made ≡ at.file ∷ []
timed-one (c.Setattr path flags) at made is new = ap (λ (n : NewName). at.file ∷ new_directory n) new
timed-one (c.Write path stream from bytes) at made is new = ap (λ (n : NewName). at.file ∷ new_directory n) new
timed-one (c.Hwrite handle from bytes) at made is new = ap (λ (n : NewName). at.file ∷ new_directory n) new
timed-one (c.Punch path stream from len) at made is new = ap (λ (n : NewName). at.file ∷ new_directory n) new
timed-one (c.Setsec path id) at made is new = ap (λ (n : NewName). at.file ∷ new_directory n) new
timed-one other at made is new = cc

-- THE ATTRIBUTES OF ITS OWN are streams of its file, whatever file it would make.
pub own-same : (tree : Tree) (command : Command) (at : Located) (made : ℕ) (key : Key) → edits_in_place command ≡ true
    → is_own_key tree command at made key ≡ is_own_key tree command at 0 key
own-same tree (c.Setattr path flags) at made key is = refl
own-same tree (c.Write path stream from bytes) at made key is = refl
own-same tree (c.Hwrite handle from bytes) at made key is = refl
own-same tree (c.Punch path stream from len) at made key is = refl
own-same tree (c.Setsec path id) at made key is = refl
own-same tree other at made key is = cc

pub own-kind : (tree : Tree) (command : Command) (at : Located) (key : Key) → edits_in_place command ≡ true → (key.kind == DATA) ≡ false
    → is_own_key tree command at 0 key ≡ false
own-kind tree (c.Setattr path flags) at key is other = refl
own-kind tree (c.Write path stream from bytes) at key is other =
    ap (λ b. b && ((key.file == at.file) && bytes_eq (units_in key.name) (spelt tree at))) other
own-kind tree (c.Hwrite handle from bytes) at key is other =
    ap (λ b. b && ((key.file == at.file) && bytes_eq (units_in key.name) (spelt tree at))) other
own-kind tree (c.Punch path stream from len) at key is other =
    ap (λ b. b && ((key.file == at.file) && bytes_eq (units_in key.name) (spelt tree at))) other
own-kind tree (c.Setsec path id) at key is other = refl
own-kind tree other at key is kind = cc

pub own-elsewhere : (tree : Tree) (command : Command) (at : Located) (key : Key) → edits_in_place command ≡ true
    → (key.file == at.file) ≡ false → is_own_key tree command at 0 key ≡ false
own-elsewhere tree (c.Setattr path flags) at key is other = refl
own-elsewhere tree (c.Write path stream from bytes) at key is other =
    and_right (key.kind == DATA) _ (ap (λ b. b && bytes_eq (units_in key.name) (spelt tree at)) other)
own-elsewhere tree (c.Hwrite handle from bytes) at key is other =
    and_right (key.kind == DATA) _ (ap (λ b. b && bytes_eq (units_in key.name) (spelt tree at)) other)
own-elsewhere tree (c.Punch path stream from len) at key is other =
    and_right (key.kind == DATA) _ (ap (λ b. b && bytes_eq (units_in key.name) (spelt tree at)) other)
own-elsewhere tree (c.Setsec path id) at key is other = refl
own-elsewhere tree other at key is file = cc

-- where it writes no stream there are none
pub own-none : (tree : Tree) (command : Command) (at : Located) (key : Key) → edits_in_place command ≡ true → edits_stream command ≡ false
    → is_own_key tree command at 0 key ≡ false
own-none tree (c.Setattr path flags) at key is none = refl
own-none tree (c.Write path stream from bytes) at key is none = cc
own-none tree (c.Hwrite handle from bytes) at key is none = cc
own-none tree (c.Punch path stream from len) at key is none = cc
own-none tree (c.Setsec path id) at key is none = refl
own-none tree other at key is none = cc

-- WHERE IT IS BUILT FOR THE VOLUME it lengthens no value: a security id has its place.
pub long-standard : (view : VolumeView) (f : ℕ) → has_place_for_id view f ≡ true → has_short_standard view f ≡ false
long-standard view f place =
    let long = length (standard_of (parts (records_of view) f)) in
    le-ltb long 72 (leb-true 72 long place)

pub lengthens-none : (view : VolumeView) (tree : Tree) (command : Command) (at : Located) → edits_in_place command ≡ true
    → is_done_in_place view tree command at ≡ true → (f : ℕ) → lengthens view command at f ≡ false
lengthens-none view tree (c.Setattr path flags) at is done f = refl
lengthens-none view tree (c.Write path stream from bytes) at is done f = refl
lengthens-none view tree (c.Hwrite handle from bytes) at is done f = refl
lengthens-none view tree (c.Punch path stream from len) at is done f = refl
lengthens-none view tree (c.Setsec path id) at is done f = elim (cases_Bool (f == at.file)) [
  | inl same ↦
      and_right (f == at.file) (has_short_standard view f)
      (subst (λ g. has_short_standard view g ≡ false) (sym (eqb-true f at.file same)) (long-standard view at.file done))
  | inr other ↦ ap (λ b. b && has_short_standard view f) other
]
lengthens-none view tree other at is done f = cc

-- IT MAY OWN all clusters of its stream, but where it makes zeros of a range.
pub owns-all : (command : Command) → edits_in_place command ≡ true → (size real vcn : ℕ) → (punches_stream command ≡ true → ⊥)
    → may_own size command real vcn ≡ true
owns-all (c.Setattr path flags) is size real vcn none = refl
owns-all (c.Write path stream from bytes) is size real vcn none = refl
owns-all (c.Hwrite handle from bytes) is size real vcn none = refl
owns-all (c.Punch path stream from len) is size real vcn none = absurd (none refl)
owns-all (c.Setsec path id) is size real vcn none = refl
owns-all other is size real vcn none = cc
