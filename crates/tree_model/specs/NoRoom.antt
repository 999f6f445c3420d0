-- THE REFUSALS FOR ROOM, in their order. Each asks for no more than its case, so that an edit that none of them refuses is done.
-- How much is asked for is this project's choice.
use Rattle.std.specs.Prelude.{ℕ, ◌+◌, ◌*◌, ◌^◌, ◌&&◌, nat_lt, nat_le, Bool, [], ◌∷◌, find, Option, is_some, option_map, if◌then◌else◌}
use Rattle.std.specs.List.{list_any}
use Rattle.ntfs_def.specs.declared.lengths.TheConstants.{RECORD}
use Rattle.ntfs_def.specs.declared.records.TheConstants.{MFT}
use Rattle.volume_def.specs.Table.{cluster_bytes}
use Rattle.volume_def.specs.View.{VolumeView}
use Rattle.tree_model.specs.Need.{Bill, Touched, list_growth, need_of, records_wanted, table_growth}
use Rattle.ntfs_def.specs.Rounded.{clusters_for}
use Rattle.tree_model.specs.Refusals.{first_some, when}
use Rattle.volume_def.specs.Room.{free_bytes, unowned_clusters, unused_records}
use Rattle.tree_model.specs.declared.reply.No.{No}
use Rattle.tree_model.specs.declared.reply.No.TheVariants as no

-- TooManyParts: the attribute list of a file that is there might grow past 40,960 bytes. The first of them by number is told.
abbrev pub is_long_list : Bill → Touched → Bool
is_long_list bill touched = is_some touched.file && nat_lt 40960 (touched.list_len + list_growth bill touched)

abbrev pub too_many_parts : Bill → Option No
too_many_parts bill =
    option_map (λ touched. no.TooManyParts touched.list_len (list_growth bill touched)) (find (is_long_list bill) bill.touched)

-- TooDeep: an index with counted entries has a depth of 10 or more.
abbrev pub too_deep : Bill → Bool
too_deep bill = list_any (λ counted. nat_le 10 counted.depth) bill.counted

-- the clusters by which the table may grow, and the need, of this volume
abbrev pub growth_on : VolumeView → Bill → ℕ
growth_on view bill = table_growth (cluster_bytes view.layout) (unused_records view) bill

abbrev pub need_on : VolumeView → Bill → ℕ
need_on view bill = need_of (cluster_bytes view.layout) (unused_records view) bill

-- MftFull: too few records are free, and the base record of the table lacks room for the runs of its growth, 9 bytes each; it has
-- none where the table may pass 2 ^ 22 records.
abbrev pub mft_need : VolumeView → Bill → ℕ
mft_need view bill = 16 + 9 * growth_on view bill

abbrev pub mft_free : VolumeView → Bill → ℕ
mft_free view bill =
    if nat_lt (2 ^ 22) (view.layout.count + clusters_for (growth_on view bill * cluster_bytes view.layout) RECORD) then 0
    else free_bytes view MFT

abbrev pub mft_full : VolumeView → Bill → Bool
mft_full view bill = nat_lt (unused_records view) (records_wanted bill) && nat_lt (mft_free view bill) (mft_need view bill)

-- NoRoom: the need is above the free clusters.
abbrev pub lacks_clusters : VolumeView → Bill → Bool
lacks_clusters view bill = nat_lt (unowned_clusters view) (need_on view bill)

-- The first of the four whose case holds. Of the empty bill none does.
unfoldable pub no_room_for : VolumeView → Bill → Option No
no_room_for view bill = first_some (
    too_many_parts bill ∷
    when (too_deep bill) no.TooDeep ∷
    when (mft_full view bill) (no.MftFull (mft_need view bill) (mft_free view bill)) ∷
    when (lacks_clusters view bill) (no.NoRoom (need_on view bill) (unowned_clusters view)) ∷ [])
