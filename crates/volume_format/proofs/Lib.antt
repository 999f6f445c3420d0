pub mod Listed
pub mod EachRecord
pub mod PartsOf
pub mod Bases
pub mod Records
pub mod Attributes
pub mod Needed
pub mod Extents
pub mod Owners
pub mod Values
pub mod Contents
pub mod ClusterBits
pub mod RecordBits
pub mod Names
pub mod References
pub mod Links
pub mod Shape
pub mod CaseTable
pub mod MirrorPlace
pub mod Lists
pub mod Limits
pub mod Fits
pub mod VolumeRecord
pub mod AttributeParts
pub mod Version
pub mod NewVolumes
pub mod Images
pub mod ItemSectors
pub mod Kept
pub mod NewBlocks
pub mod TableTold
pub mod OnDisk
pub mod TableBlocks
pub mod NewImages
pub mod KeptItems
pub mod WholeClusters
pub mod BootLaws
mod Tested
mod Leaves
mod IndexNodes
mod IndexOrder
mod RootRecord
mod IndexLinks
mod IndexTrees
mod ViewIndexes
mod Directories
mod IndexesClause
mod Soundness
mod LinksAlike
mod Readings
pub mod StreamParts
pub mod PlaceLaws
pub mod StoredLaws
pub mod NodeBlockLaws
