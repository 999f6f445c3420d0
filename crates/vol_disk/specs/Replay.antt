-- The contents of a disk in memory, from its first contents and the writes since.
use Rattle.std.specs.Prelude.{ℕ, List, [], ◌∷◌, map, take}
use Rattle.vol_disk.specs.declared.mem_disk.Write.{Write}
use Rattle.vol_disk.specs.Contents.{with_sector}

-- the contents after these writes, the first of them first
abbrev pub replay : List Write → List ℕ → List ℕ
replay [] first = first
replay (write ∷ writes) first = replay writes (with_sector first write.sector write.bytes)

-- the contents after so many of the writes, for each of these numbers
abbrev pub contents_at : List ℕ → List Write → List ℕ → List (List ℕ)
contents_at places writes first = map (λ count. replay (take count writes) first) places
