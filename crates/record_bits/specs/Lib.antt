pub mod StoredRecordBit
pub mod HeldRecordBits
