-- CLUSTERS THAT ARE GIVEN BACK, or taken: a rewrite in place gives and takes none, and none more behind another edit.
use Rattle.std.proofs.Common.{◌≡◌, ◌&&◌, not, ℕ, Bool, true, false, ap, ◌∙◌, refl}
use mathlib.Core.Path.{fun_ext}
use Rattle.std.specs.List.{count_by, range_with_len}
use Rattle.list_laws.proofs.FindLaws.{count-none}
use Rattle.std.specs.Prelude.{nat_le}
use Rattle.volume_def.specs.Table.{TableLayout}
use Rattle.volume_def.specs.View.{VolumeView}
use Rattle.edit_def.specs.Kept.{Key}
use Rattle.session_def.specs.Cost.{given_back, is_owned}
use Rattle.in_place.specs.InPlace.{Rewrites}
use Rattle.in_place.proofs.RoomSame.{times-same}

both-ways : (b : Bool) → (b && not b) ≡ false
both-ways true = refl
both-ways false = refl

none-itself : (view : VolumeView) → given_back view view ≡ 0
unfolding given_back
none-itself view =
    count-none (λ c. is_owned view c && not (is_owned view c)) (range_with_len 0 view.layout.clusters)
    (λ c among. both-ways (is_owned view c))

pub given-then : (changed : Key → Bool) (old mid new : VolumeView) → Rewrites changed mid new → given_back old new ≡ given_back old mid
unfolding given_back
given-then changed old mid new w =
    ap (λ p. count_by p (range_with_len 0 old.layout.clusters))
    (fun_ext (λ (c : ℕ). ap (λ n. is_owned old c && not (nat_le 1 n)) (times-same changed mid new w c)))

pub taken-then : (changed : Key → Bool) (old mid new : VolumeView) → Rewrites changed mid new → given_back new old ≡ given_back mid old
unfolding given_back
taken-then changed old mid new w =
    ap (λ p. count_by p (range_with_len 0 new.layout.clusters))
    (fun_ext (λ (c : ℕ). ap (λ n. nat_le 1 n && not (is_owned old c)) (times-same changed mid new w c)))
    ∙ ap (λ (l : TableLayout). count_by (λ c. is_owned mid c && not (is_owned old c)) (range_with_len 0 l.clusters)) w.layout

pub none-given : (changed : Key → Bool) (old new : VolumeView) → Rewrites changed old new → given_back old new ≡ 0
none-given changed old new w = given-then changed old old new w ∙ none-itself old

pub none-taken : (changed : Key → Bool) (old new : VolumeView) → Rewrites changed old new → given_back new old ≡ 0
none-taken changed old new w = taken-then changed old old new w ∙ none-itself old
