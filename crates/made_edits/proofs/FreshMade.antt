-- THE NEW FILE is as it is to be where its $STANDARD_INFORMATION is plain.
use Rattle.std.proofs.Common.{◌≡◌, ◌+◌, ◌*◌, ◌/◌, ℕ, Bool, true, false, List, [], codes, None, Option, Some, filter, length, map}
use Rattle.std.proofs.Common.{refl, sym, ap, ◌∙◌}
use Rattle.std.proofs.Common.{arith, if◌then◌else◌}
use Rattle.std.specs.Prelude.{IsSomeAnd, bit_and, option_and_then, slice_index, unwrap_or}
use Rattle.std.proofs.lemmas.List.FromFn.{length-map-range_with_len}
use Rattle.list_laws.proofs.SameItemsLaws.{SameItems-same}
use Rattle.vol_bytes.specs.Field.{u16_at, u32_at}
use Rattle.ntfs_def.specs.FileName.{name_in}
use Rattle.ntfs_def.specs.StandardInformation.{dos_flags}
use Rattle.ntfs_def.specs.Units.{units_at, wide}
use Rattle.ntfs_def.specs.declared.kinds.TheConstants.{INDEX_ROOT}
use Rattle.ntfs_def.specs.declared.lengths.TheConstants.{INDEX_RECORD}
use Rattle.volume_def.specs.Files.{Part, Record, content_value, is_of, parts, parts_at, record_on, records_of}
use Rattle.volume_def.specs.Table.{TableLayout, cluster_bytes}
use Rattle.volume_def.specs.Values.{first_part, is_first}
use Rattle.volume_def.specs.View.{VolumeView}
use Rattle.tree_model.specs.Reading.{standard_of}
use Rattle.edit_def.specs.Kept.{is_name_told, told_by}
use Rattle.in_place.specs.Kept.{other_flags}
use Rattle.in_place.specs.Nodes.{directory_flag, root_of, shape_of, shapes_due}
use Rattle.made_edits.specs.Beside.{IsFreshFile, IsPlainStandard, KeepsRest}
use Rattle.made_edits.specs.Between.{new_parts}
use Rattle.made_edits.specs.Comes.{IsNewKey, first_flags, name_flags}
use Rattle.made_edits.proofs.BodyParts.{standard-new, told-new}

-- the units of a name are as many as it says
units-count : (key : List ℕ) → length (name_in key).units ≡ slice_index key 0x40
unfolding name_in units_at
units-count key = length-map-range_with_len (λ k. u16_at key (0x42 + 2 * k)) 0 (slice_index key 0x40)

-- FLAGS of either, none of which hides
other-none : (directory : Bool) → other_flags (first_flags directory) ≡ 0
other-none true = refl
other-none false = refl

not-sparse : (directory : Bool) → bit_and (first_flags directory) 0x200 ≡ 0
not-sparse true = refl
not-sparse false = refl

not-point : (directory : Bool) → bit_and (first_flags directory) 0x400 ≡ 0
not-point true = refl
not-point false = refl

name-told : (directory : Bool) → other_flags (name_flags directory) ≡ directory_flag directory
name-told true = refl
name-told false = refl

-- the shapes of the attributes, and what the root tells
shapes-new : (directory : Bool) (size n : ℕ) (standard key : List ℕ)
    → map shape_of (new_parts directory size n standard key) ≡ shapes_due directory
shapes-new true size n standard key = refl
shapes-new false size n standard key = refl

abbrev root_in : List Part → List ℕ
root_in all = unwrap_or (option_and_then (λ (part : Part). content_value part.content)
    (first_part (filter (is_of INDEX_ROOT (wide (codes "$I30"))) all))) []

root-new : (directory : Bool) (size n : ℕ) (standard key : List ℕ) → directory ≡ true
    → u32_at (root_in (new_parts directory size n standard key)) 0x0C ≡ INDEX_RECORD / size
root-new true size n standard key is = omega arith
root-new false size n standard key is = cc

-- it tells so still where the attribute stays
pub root-still : (old new : VolumeView) (f : ℕ)
    → parts_at new f INDEX_ROOT (wide (codes "$I30")) ≡ parts_at old f INDEX_ROOT (wide (codes "$I30")) → new.layout ≡ old.layout
    → u32_at (root_of old f) 0x0C ≡ INDEX_RECORD / cluster_bytes old.layout
    → u32_at (root_of new f) 0x0C ≡ INDEX_RECORD / cluster_bytes new.layout
root-still old new f same layout told =
    ap (λ (xs : List Part). u32_at (unwrap_or (option_and_then (λ (part : Part). content_value part.content) (first_part xs)) []) 0x0C) same
    ∙ told ∙ ap (λ (l : TableLayout). INDEX_RECORD / cluster_bytes l) (sym layout)

pub fresh-file : (old new : VolumeView) (n dir : ℕ) (units standard key : List ℕ) (moment : ℕ) (directory : Bool)
    → IsNewKey old directory dir units moment key → IsPlainStandard directory standard
    → KeepsRest directory old new n dir standard key → IsFreshFile directory new n key
fresh-file old new n dir units standard key moment directory is_key plain rest =
    let size = cluster_bytes old.layout in
    let now : standard_of (parts (records_of new) n) ≡ standard =
    ap standard_of rest.own ∙ standard-new directory size n standard key in
    let flags : dos_flags (standard_of (parts (records_of new) n)) ≡ first_flags directory = ap dos_flags now ∙ plain.flags in
    let count : length units ≡ slice_index key 0x40 = sym (ap (λ name. length name.units) is_key.name) ∙ units-count key in
    record {
      file = record {
        record_flags = flags-of (record_on new n) rest.base;
        long = ap length now ∙ plain.long;
        zeros = λ k unseen. ap (λ (value : List ℕ). slice_index value k) now ∙ plain.zeros k unseen;
        others = ap other_flags flags ∙ other-none directory;
        sparse = ap (λ f. bit_and f 0x200) flags ∙ not-sparse directory;
        reparse = ap (λ f. bit_and f 0x400) flags ∙ not-point directory;
        shapes = SameItems-same _ _ (sym (ap (map shape_of) rest.own ∙ shapes-new directory size n standard key));
        root = λ is. ap (λ (xs : List Part). u32_at (root_in xs) 0x0C) rest.own ∙ root-new directory size n standard key is
            ∙ ap (λ (l : TableLayout). INDEX_RECORD / cluster_bytes l) (sym rest.layout);
      };
      name = record {
        long = is_key.long ∙ ap (λ k. 0x42 + 2 * k) count;
        flags = ap other_flags is_key.flags ∙ name-told directory;
        last = is_key.last;
      };
      told = ap (λ (ps : List Part). filter is_name_told (map told_by (filter is_first ps))) rest.own
          ∙ told-new directory size n standard key;
    }
  where
    flags-of : (o : Option Record) → IsSomeAnd o (λ r. (r.header.flags ≡ (if directory then 3 else 1)) × (r.header.links ≡ 1))
        → IsSomeAnd o (λ r. r.header.flags ≡ (if directory then 3 else 1))
    flags-of None is = is
    flags-of (Some r) is = is.0
