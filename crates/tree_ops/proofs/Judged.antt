-- THE REFUSALS OF AN EDIT OF A STREAM in their order, and what is wanted, by what each case asks.
use Rattle.std.proofs.Common.{◌≡◌, ◌&&◌, ◌||◌, ℕ, Bool, true, false, List, [], ◌∷◌, not, Option, Some, None, Result, Ok, Err, refl, ap, ◌∙◌}
use Rattle.std.specs.Prelude.{if◌then◌else◌, is_some}
use Rattle.std.specs.Option.{option_map_or}
use Rattle.list_laws.proofs.BoolLaws.{or-false}
use Rattle.volume_def.specs.View.{VolumeView}
use Rattle.tree_model.specs.Cases.{is_packed}
use Rattle.tree_model.specs.Paths.{and_then}
use Rattle.tree_model.specs.Refusals.{first_some, unless, when}
use Rattle.tree_model.specs.Staging.{is_built_for}
use Rattle.tree_model.specs.Subjects.{Located}
use Rattle.tree_model.specs.Tree.{Tree}
use Rattle.tree_model.specs.Ways.{is_done_in_clusters, is_done_in_directory, is_done_in_place, is_done_in_record}
use Rattle.tree_model.specs.declared.command.Command.{Command}
use Rattle.tree_model.specs.declared.reply.No.{No}
use Rattle.tree_model.specs.declared.reply.No.TheVariants as no
use Rattle.tree_model.specs.declared.tree.Content.{Content}
use Rattle.tree_model.specs.declared.tree.Content.TheVariants.{Packed, Plain}
use Rattle.stream_changes.specs.Below.{content_to_write, if_room}

-- what the words lead to, where a file is wanted
abbrev pub with_at : Located → Result ℕ No → Result Located No
with_at at (Ok file) = Ok at
with_at at (Err why) = Err why

-- it can be done unless one of both is against it
pub not-both : (cannot can : Bool) → (cannot || not can) ≡ not (not cannot && can)
not-both true can = refl
not-both false true = refl
not-both false false = refl

pub can-of : (cannot can : Bool) → (not cannot && can) ≡ true → can ≡ true
can-of true can e = cc
can-of false can e = e

-- a stream is edited in one of three ways
pub three-ways : (view : VolumeView) (tree : Tree) (command : Command) (at : Located) → is_done_in_directory view tree command at ≡ false
    → is_built_for view tree command at
    ≡ (is_done_in_place view tree command at || (is_done_in_record view tree command at || is_done_in_clusters view tree command at))
three-ways view tree command at none =
    let in_place = is_done_in_place view tree command at in
    let in_record = is_done_in_record view tree command at in
    let in_clusters = is_done_in_clusters view tree command at in
    ap (λ b. in_place || (in_record || (in_clusters || b))) none ∙ ap (λ b. in_place || (in_record || b)) (or-false in_clusters)

-- THE LAST TWO: the command is not built for it, or there is no room.
abbrev pub last_two : Bool → Option No → Option No
last_two unbuilt room = first_some (when unbuilt no.Unbuilt ∷ room ∷ [])

abbrev pub if_can : Bool → ℕ → Result ℕ No
if_can can file = if can then Ok file else Err no.Unbuilt

abbrev pub if_asked : Bool → Option No → ℕ → Result ℕ No
if_asked can asked file = if can then if_room asked file else Err no.Unbuilt

room-left : (at : Located) (file : ℕ) (room asked : Option No) → room ≡ asked
    → unless (last_two false room) at ≡ with_at at (if_room asked file)
room-left at file room asked same = ap (λ o. unless (last_two false o) at) same ∙ by asked
  where
    by : (o : Option No) → unless (last_two false o) at ≡ with_at at (if_room o file)
    by None = refl
    by (Some why) = refl

-- where no room is asked for, where it is, and of a write, where it is for a value alone
pub last-can : (at : Located) (file : ℕ) (can : Bool) (room : Option No) → (can ≡ true → room ≡ None)
    → unless (last_two (not can) room) at ≡ with_at at (if_can can file)
last-can at file false room none = refl
last-can at file true room none = ap (λ o. unless (last_two false o) at) (none refl)

pub last-asked : (at : Located) (file : ℕ) (can : Bool) (room asked : Option No) → (can ≡ true → room ≡ asked)
    → unless (last_two (not can) room) at ≡ with_at at (if_asked can asked file)
last-asked at file false room asked same = refl
last-asked at file true room asked same = room-left at file room asked (same refl)

-- a write, over bytes in place, or into a value, or over and behind those of a stream in clusters
abbrev pub if_written_by : Bool → Bool → Bool → Option No → Option No → ℕ → Result ℕ No
if_written_by over can reach asked behind file =
    if over then Ok file else if can then if_room asked file else if_asked reach behind file

pub last-written : (at : Located) (file : ℕ) (over can reach : Bool) (room asked behind : Option No) → (over ≡ true → room ≡ None)
    → (over ≡ false → can ≡ true → room ≡ asked) → (over ≡ false → reach ≡ true → room ≡ behind)
    → unless (last_two (not (over || (can || reach))) room) at ≡ with_at at (if_written_by over can reach asked behind file)
last-written at file true can reach room asked behind none same far = ap (λ o. unless (last_two false o) at) (none refl)
last-written at file false true reach room asked behind none same far = room-left at file room asked (same refl refl)
last-written at file false false false room asked behind none same far = refl
last-written at file false false true room asked behind none same far = room-left at file room behind (far refl refl)

-- ONE OF BOTH is so.
pub or-either : {P : Type 0} (a b : Bool) → (a ≡ true → P) → (b ≡ true → P) → (a || b) ≡ true → P
or-either true b one other is = one refl
or-either false b one other is = other is

-- An extent alone whose bits lie in clusters, in whichever order that is asked
pub turned : (extent one alone placed last : Bool)
    → ((extent && (one && (alone && placed))) && last) ≡ (((extent && (one && alone)) && last) && placed)
turned false one alone placed last = refl
turned true false alone placed last = refl
turned true true false placed last = refl
turned true true true true true = refl
turned true true true true false = refl
turned true true true false true = refl
turned true true true false false = refl

-- what moves does so where the bits of clusters lie in clusters
pub moved : (value other leaves placed : Bool) → (value && (other && (leaves && placed))) ≡ ((value && (other && leaves)) && placed)
moved false other leaves placed = refl
moved true false leaves placed = refl
moved true true leaves placed = refl

pub either-placed : (lies moves placed : Bool) → ((lies && placed) || (moves && placed)) ≡ ((lies || moves) && placed)
either-placed true moves true = refl
either-placed true true false = refl
either-placed true false false = refl
either-placed false moves placed = refl

-- it is this file that is wanted then, or none
room-file : (asked : Option No) (file other : ℕ) → if_room asked file ≡ Ok other → file ≡ other
room-file None file other e = cc
room-file (Some why) file other e = cc

pub can-file : (can : Bool) (file other : ℕ) → if_can can file ≡ Ok other → file ≡ other
can-file true file other e = cc
can-file false file other e = cc

pub asked-file : (can : Bool) (asked : Option No) (file other : ℕ) → if_asked can asked file ≡ Ok other → file ≡ other
asked-file true asked file other e = room-file asked file other e
asked-file false asked file other e = cc

pub written-file : (over can reach : Bool) (asked behind : Option No) (file other : ℕ)
    → if_written_by over can reach asked behind file ≡ Ok other → file ≡ other
written-file true can reach asked behind file other e = cc
written-file false true reach asked behind file other e = room-file asked file other e
written-file false false reach asked behind file other e = asked-file reach behind file other e

-- A STREAM THAT IS WRITTEN, or gets another length: it may be missing.
abbrev pub judge : Option Content → Bool → Bool → Bool → Option No → Bool → Option No → Option No
judge content bad dir wide apart unbuilt room = first_some (
    when (not (is_some content) && bad) no.BadName ∷
    when dir no.IsDir ∷
    when (option_map_or is_packed content false) no.Packed ∷
    when wide no.TooBig ∷
    apart ∷
    when unbuilt no.Unbuilt ∷
    room ∷ [])

abbrev found_content : Option Content → Bool → Bool → Result (Option (List ℕ)) No
found_content content bad dir =
    if not (is_some content) && bad then Err no.BadName else if dir then Err no.IsDir else content_to_write content

abbrev ranged : Bool → Option No → Result ℕ No → Result ℕ No
ranged wide apart decided = if wide then Err no.TooBig else option_map_or Err apart decided

abbrev pub wanted_by : Option Content → Bool → Bool → Bool → Option No → Result ℕ No → Result ℕ No
wanted_by content bad dir wide apart decided = and_then (found_content content bad dir) (λ bytes. ranged wide apart decided)

pub judged : (at : Located) (content : Option Content) (bad dir wide : Bool) (apart : Option No) (unbuilt : Bool) (room : Option No)
    (decided : Result ℕ No) → unless (last_two unbuilt room) at ≡ with_at at decided
    → unless (judge content bad dir wide apart unbuilt room) at ≡ with_at at (wanted_by content bad dir wide apart decided)
judged at None true dir wide apart unbuilt room decided last = refl
judged at None false true wide apart unbuilt room decided last = refl
judged at None false false true apart unbuilt room decided last = refl
judged at None false false false (Some w) unbuilt room decided last = refl
judged at None false false false None unbuilt room decided last = last
judged at (Some (Packed size)) bad true wide apart unbuilt room decided last = refl
judged at (Some (Packed size)) bad false wide apart unbuilt room decided last = refl
judged at (Some (Plain bytes)) bad true wide apart unbuilt room decided last = refl
judged at (Some (Plain bytes)) bad false true apart unbuilt room decided last = refl
judged at (Some (Plain bytes)) bad false false (Some w) unbuilt room decided last = refl
judged at (Some (Plain bytes)) bad false false None unbuilt room decided last = last

pub same-file : (content : Option Content) (bad dir wide : Bool) (apart : Option No) (decided : Result ℕ No) (file other : ℕ)
    → (decided ≡ Ok other → file ≡ other) → wanted_by content bad dir wide apart decided ≡ Ok other → file ≡ other
same-file None true dir wide apart decided file other same e = cc
same-file None false true wide apart decided file other same e = cc
same-file None false false true apart decided file other same e = cc
same-file None false false false (Some w) decided file other same e = cc
same-file None false false false None decided file other same e = same e
same-file (Some (Packed size)) bad true wide apart decided file other same e = cc
same-file (Some (Packed size)) bad false wide apart decided file other same e = cc
same-file (Some (Plain bytes)) bad true wide apart decided file other same e = cc
same-file (Some (Plain bytes)) bad false true apart decided file other same e = cc
same-file (Some (Plain bytes)) bad false false (Some w) decided file other same e = cc
same-file (Some (Plain bytes)) bad false false None decided file other same e = same e
