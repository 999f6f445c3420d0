-- THE SECTORS that are staged where a file goes: those of what holds the entry, and then those of its record and of its flag.
use Rattle.std.proofs.Common.{◌≡◌, ◌+◌, ◌≤◌, ℕ, List, [], length, inl, inr, subst, arith}
use Rattle.std.specs.Prelude.{◌⊎◌, Contains, IsTrue}
use Rattle.std.specs.List.{flat_map}
use Rattle.vol_disk.specs.declared.Disk.{Ghosts}
use Rattle.vol_stage.specs.Staged.{places}
use Rattle.volume_def.specs.BitmapClauses.{record_bits}
use Rattle.volume_def.specs.Table.{TableLayout}
use Rattle.volume_def.specs.Values.{spot_at}
use Rattle.volume_edits.specs.Clusters.{record_sectors}
use Rattle.mft_table.specs.declared.mft.Mft.{Mft}
use Rattle.mft_table.specs.Mft.{MftReads, stage_of, view}
use Rattle.mft_table.specs.Staging.{record_places}
use Rattle.mft_table.proofs.StreamReads.{MftReads-none}
use Rattle.tree_model.specs.LeafRoom.{names_of_directory}
use Rattle.dir_index.proofs.FewStaged.{each-few, few-index, few-record, few-staged}
use Rattle.file_makes.specs.Enters.{StagesEntry}
use Rattle.file_makes.specs.Steps.{StagesFile}
use Rattle.file_makes.specs.Under.{StagesMade}
use Rattle.file_makes.proofs.MakeLaws.{staged-twice}
use Rattle.file_drops.proofs.FreeLaws.{rows-same}

-- Sectors came of one record of the index of the directory, or of the directory's own, eight at most.
record StagesHolder {D : Type 0} (g : Ghosts D) (dir : ℕ) (a b : Mft D g) : Type 0 where
  vcns : List ℕ
  few : length vcns ≤ 1
  count : length (places g (stage_of g b)) ≤ length (places g (stage_of g a)) + 8
  all : (sector : ℕ) → Contains (places g (stage_of g b)) sector → Contains (places g (stage_of g a)) sector
      ⊎ (Contains (flat_map (record_sectors (view g a).layout (spot_at (names_of_directory (view g a) dir).records)) vcns) sector
      ⊎ Contains (record_places (view g a).layout dir) sector)

holder : {D : Type 0} (g : Ghosts D) (dir : ℕ) (a b : Mft D g) → IsTrue (view g a).told → StagesEntry g dir a b → StagesHolder g dir a b
holder g dir a b told (inl index) = record {
  vcns = index.vcns;
  few = index.few;
  count =
      let of = record_sectors (view g a).layout (spot_at (names_of_directory (view g a) dir).records) in
      let more = few-staged g (flat_map of index.vcns) (stage_of g a) (stage_of g b) (index.places told) in
      let eight = each-few of 8 index.vcns (few-index (view g a).layout (spot_at (names_of_directory (view g a) dir).records)) in
      omega (arith, more, eight, index.few);
  all = λ s there. elim ((index.places told).only s there) [ inl was ↦ inl was | inr new ↦ inr (inl new) ];
}
holder g dir a b told (inr own) = record {
  vcns = [];
  few = omega arith;
  count =
      let more = few-staged g (record_places (view g a).layout dir) (stage_of g a) (stage_of g b) own in
      let four = few-record (view g a).layout dir in
      omega (arith, more, four);
  all = λ s there. elim (own.only s there) [ inl was ↦ inl was | inr new ↦ inr (inr new) ];
}

module _ {D : Type 0} (g : Ghosts D) (n dir : ℕ) where
  -- behind a call that only reads: none,
  none-staged : (a : Mft D g) → StagesMade g (view g a) n dir a a
  none-staged a = record { vcns = []; few = omega arith; count = omega arith; places = λ s there. inl there }

  module _ (start a : Mft D g) (reads : ℕ) (read : MftReads g start a reads) where
    behind : (c : Mft D g) → StagesMade g (view g a) n dir a c → StagesMade g (view g start) n dir start c
    behind c = staged-twice g start start a 0 reads (MftReads-none g start) read c n dir

    pub read-alone : StagesMade g (view g start) n dir start a
    read-alone = behind a (none-staged a)

    -- those of the entry,
    pub entry-alone : (b : Mft D g) → IsTrue (view g a).told → StagesEntry g dir a b → StagesMade g (view g start) n dir start b
    entry-alone b told stages =
        let e = holder g dir a b told stages in
        behind b (record {
          vcns = e.vcns;
          few = e.few;
          count = let more = e.count in omega (arith, more);
          places = λ s there. elim (e.all s there) [ inl was ↦ inl was | inr new ↦ inr (inr (inr new)) ];
        })

    -- and those of the record and its flag
    pub all-staged : (b c : Mft D g) → IsTrue (view g a).told → StagesEntry g dir a b → (view g b).layout ≡ (view g a).layout
        → record_bits (view g b) ≡ record_bits (view g a) → StagesFile g (view g b) n b c
        → length (places g (stage_of g c)) ≤ length (places g (stage_of g b)) + 3 → StagesMade g (view g start) n dir start c
    all-staged b c told stages layout rows second few =
        let e = holder g dir a b told stages in
        behind c (record {
          vcns = e.vcns;
          few = e.few;
          count = let more = e.count in omega (arith, more, few);
          places = λ s there. elim (second s there) [
            | inl before ↦ elim (e.all s before) [ inl was ↦ inl was | inr new ↦ inr (inr (inr new)) ]
            | inr new ↦ elim new [
              | inl row ↦ inr (inl (rows-same (view g a) (view g b) s layout rows row))
              | inr place ↦ inr (inr (inl (subst (λ (l : TableLayout). Contains (record_places l n) s) layout place)))
            ]
          ];
        })
