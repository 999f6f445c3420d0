-- WHERE NO CLUSTER IS LEFT for what a call wants, it may refuse.
use Rattle.std.proofs.Common.{◌<◌, ◌≤◌, ◌+◌, ℕ, arith}
use Rattle.std.proofs.lemmas.List.Sums.{sum_by-le-sum_by}
use Rattle.volume_def.specs.Files.{records_of}
use Rattle.volume_def.specs.OwnersClause.{MeetsOwners}
use Rattle.volume_def.specs.View.{VolumeView}
use Rattle.volume_def.specs.Room.{unowned_clusters}
use Rattle.edit_def.specs.Account.{HasRoom, LacksRoom, Plan, Room, Wants, list_with, most, owned}
use Rattle.edit_def.specs.Purses.{room_of}
use Rattle.edit_def.proofs.FreeLaws.{unowned-is}
use Rattle.edit_def.proofs.PurseLaws.{owned-purses}

-- what is owned afterwards is what was, and what the values get, at the least
most-owned : (plan : Plan) (room : Room) (wants : Wants) → owned plan room + wants.clusters ≤ most plan room wants
unfolding most
most-owned plan room wants = omega (arith, sum_by-le-sum_by room.list (list_with plan room wants) plan.files (λ f. omega arith))

pub LacksRoom-full : (view : VolumeView) (wants : Wants) → ((n : ℕ) → MeetsOwners (records_of view) view.layout.clusters n)
    → unowned_clusters view < wants.clusters → LacksRoom (room_of view) wants
unfolding HasRoom
LacksRoom-full view wants owners full = λ plan pos has.
    let least = most-owned plan (room_of view plan) wants in
    let purses = owned-purses view plan has.1 in
    let free = unowned-is view owners in
    omega (arith, least, purses, free, full, has.2)
