pub mod Sought
pub mod First
pub mod Written
-- Words of the crates below, passed on to those above.
pub use Rattle.file_record.specs.Held
pub use Rattle.file_record.specs.declared.error.FileNo
pub use Rattle.file_record.specs.FileNos
pub use Rattle.file_record.specs.declared.parts.FileParts
pub use Rattle.file_record.specs.Left
pub use Rattle.file_record.specs.Records
pub use Rattle.file_record.specs.Written as FileRecordWritten
pub use Rattle.file_record.specs.declared.held.Held as HeldType
pub use Rattle.file_record.specs.Mft
pub use Rattle.file_record.specs.Mounted
pub use Rattle.file_record.specs.Streams
pub use Rattle.file_record.specs.MirrorClusters
pub use Rattle.file_record.specs.MftType as MftType
pub use Rattle.file_record.specs.Staging
pub use Rattle.file_record.specs.MountedType as MountedType
pub use Rattle.file_record.specs.InUse
pub use Rattle.file_record.specs.Owners
pub use Rattle.file_record.specs.Clusters
