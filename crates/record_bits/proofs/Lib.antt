mod RowsStream
mod RowStored
mod RowsFound
mod PutBit
