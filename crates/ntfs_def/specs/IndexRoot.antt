-- The header of the value of an $INDEX_ROOT. `root` is the value; behind 0x10 bytes of header stands the root's node, as `Node`
-- says.
-- Layout: Linux-NTFS documentation, attribute $INDEX_ROOT; Carrier, File System Forensic Analysis, chapter 13.
use Rattle.std.specs.Prelude.{ℕ, List, slice_index}
use Rattle.vol_bytes.specs.Field.{u32_at}

-- 0x00: the type of the attribute whose values are the keys, 0 in a view index
abbrev pub indexed_kind : List ℕ → ℕ
indexed_kind root = u32_at root 0x00

-- 0x04: the order of the keys: 1 file names, 0x10 one number, 0x12 a hash of a security descriptor and its id, 0x13 numbers one by one
abbrev pub key_collation : List ℕ → ℕ
key_collation root = u32_at root 0x04

-- 0x08: the bytes of an index record
abbrev pub index_record_len : List ℕ → ℕ
index_record_len root = u32_at root 0x08

-- 0x0C: an index record in clusters, or in sectors where a cluster is longer; three bytes that say nothing follow
abbrev pub index_record_clusters : List ℕ → ℕ
index_record_clusters root = slice_index root 0x0C
