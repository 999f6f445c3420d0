-- The data of the entries of a view index, and of those of $SII and $SDH in file 9, $Secure, the header that stands before each
-- security descriptor in its stream $SDS too.
-- Layout: Linux-NTFS documentation, "Index Entry" of a view index, and file $Secure; Carrier, File System Forensic Analysis,
-- chapter 13.
use Rattle.std.specs.Prelude.{ℕ, ◌-◌, List, drop, length, take}
use Rattle.vol_bytes.specs.Field.{u16_at, u32_at, u64_at}
use Rattle.ntfs_def.specs.Node.{Item}

-- Of an entry: 0x00 where its data stand, from the entry on, 0x02 how many bytes they are. The key stands at 0x10.
abbrev pub item_data : Item → List ℕ
item_data item = take (u16_at item.head 0x02) (drop (u16_at item.head 0x00 - 0x10 - length item.key) item.rest)

-- The data of $SII and $SDH, and the header of a descriptor: 20 bytes.

-- 0x00: the hash of the descriptor
abbrev pub security_hash : List ℕ → ℕ
security_hash bytes = u32_at bytes 0x00

-- 0x04: its id
abbrev pub security_id : List ℕ → ℕ
security_id bytes = u32_at bytes 0x04

-- 0x08: where its header stands in $SDS
abbrev pub security_offset : List ℕ → ℕ
security_offset bytes = u64_at bytes 0x08

-- 0x10: the bytes of the descriptor and its header
abbrev pub security_size : List ℕ → ℕ
security_size bytes = u32_at bytes 0x10
