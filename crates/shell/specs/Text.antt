-- The printed lines, as bytes.
use Rattle.std.specs.Prelude.{ℕ, List, [], ◌∷◌, ◌++◌, codes, decimal}
use Rattle.byteorder.specs.Endian.{big_bytes}
use Rattle.hex.specs.Hex.{encode_lower}
use Rattle.vol_bytes.specs.NameText.{name_text}
use Rattle.ntfs_boot.specs.declared.Geometry.{Geometry}
use Rattle.volume_def.specs.declared.version.Version.{Version}
use Rattle.shell.specs.declared.refusal.Refusal.{Refusal}

-- a line: a name, a space and a value
abbrev pub line_of : List ℕ → List ℕ → List ℕ
line_of name value = name ++ codes " " ++ value ++ codes "\n"

-- a number of 64 bits in sixteen lower-case hexadecimal digits, the highest first
abbrev pub hexadecimal : ℕ → List ℕ
hexadecimal number = encode_lower (big_bytes 8 number)

-- the nine lines of a geometry; sectors, file records and index records have the one size that is read here
unfoldable pub geometry_text : Geometry → List ℕ
geometry_text geometry =
    line_of (codes "sector") (decimal 512)
    ++ line_of (codes "cluster") (decimal geometry.cluster)
    ++ line_of (codes "sectors") (decimal geometry.sectors)
    ++ line_of (codes "clusters") (decimal geometry.clusters)
    ++ line_of (codes "mft") (decimal geometry.mft)
    ++ line_of (codes "mirror") (decimal geometry.mirror)
    ++ line_of (codes "record") (decimal 1024)
    ++ line_of (codes "index") (decimal 4096)
    ++ line_of (codes "serial") (hexadecimal geometry.serial)

-- the line of the name: `label` alone where the volume has none
abbrev pub name_line : List ℕ → List ℕ
name_line [] = codes "label\n"
name_line (unit ∷ units) = line_of (codes "label") (name_text (unit ∷ units))

-- both numbers, with a point between them
abbrev pub version_line : Version → List ℕ
version_line version = line_of (codes "version") (decimal version.major ++ codes "." ++ decimal version.minor)

-- both lines that label prints
unfoldable pub label_text : List ℕ → Version → List ℕ
label_text units version = name_line units ++ version_line version

-- the line that refuses a volume, as in `refused S1 6`
unfoldable pub refusal_text : Refusal → List ℕ
refusal_text refusal = codes "refused S" ++ line_of (decimal refusal.clause) (decimal refusal.number)

-- the line on a volume that is sound and was closed
abbrev pub sound_text : List ℕ
sound_text = codes "sound\n"

-- the line on one that is sound, but was not closed
abbrev pub dirty_text : List ℕ
dirty_text = codes "refused dirty\n"

-- the line that tells how many clusters a new volume has
unfoldable pub formatted_text : ℕ → List ℕ
formatted_text clusters = line_of (codes "formatted") (decimal clusters)

-- the line that refuses the options of a new volume
abbrev pub options_text : List ℕ
options_text = codes "refused options\n"
