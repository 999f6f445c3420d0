-- WHERE SECTORS ARE STAGED by an edit that gives nothing back and takes nothing.
use Rattle.std.proofs.Common.{◌+◌, ◌*◌, ◌/◌, ◌≤◌, ℕ, List, inl, inr, length, arith}
use Rattle.vol_disk.specs.declared.Disk.{Ghosts}
use Rattle.volume_def.specs.FileNames.{names_of}
use Rattle.volume_def.specs.Files.{records_of}
use Rattle.volume_def.specs.Values.{pieces_touched}
use Rattle.volume_def.specs.View.{VolumeView}
use Rattle.mft_table.specs.declared.mft.Mft.{Mft}
use Rattle.mft_table.specs.Mft.{view}
use Rattle.tree_edit.specs.Over.{StagesOver}
use Rattle.tree_edit.specs.Staged.{IsOfEdit, StagesFew}
use Rattle.tree_edit.specs.Values.{StagesValue}
use Rattle.stream_changes.specs.Staged.{StagesGiving}

pub gives-none : {D : Type 0} (g : Ghosts D) (most f : ℕ) (before : VolumeView) (old new : Mft D g)
    → StagesFew g (most + 12 * length (names_of (records_of before) f)) (IsOfEdit before f (names_of (records_of before) f)) old new
    → StagesGiving g most f before old new
gives-none g most f before old new x = record {
  given = 0;
  freed = omega arith;
  taken = 0;
  owned = omega arith;
  stages = record {
    few = let few = x.few in omega (arith, few);
    only = λ sector has. elim (x.only sector has) [ inl was ↦ inl was | inr is ↦ inr (inr (inr is)) ];
  };
}

-- .. of which more may be staged
pub gives-more : {D : Type 0} (g : Ghosts D) (few most f : ℕ) (before : VolumeView) (old new : Mft D g) → few ≤ most
    → StagesGiving g few f before old new → StagesGiving g most f before old new
gives-more g few most f before old new room x = record {
  given = x.given;
  freed = x.freed;
  taken = x.taken;
  owned = x.owned;
  stages = record { few = let few = x.stages.few in omega (arith, few, room); only = x.stages.only };
}

-- as one of a value
pub gives-value : {D : Type 0} (g : Ghosts D) (most f : ℕ) (old new : Mft D g) → 8 ≤ most
    → StagesValue g f (names_of (records_of (view g old)) f) old new → StagesGiving g most f (view g old) old new
gives-value g most f old new room x =
    gives-none g most f (view g old) old new (record {
      few = let few = x.few in omega (arith, few, room);
      only = λ sector has. elim (x.only sector has) [ inl was ↦ inl was | inr is ↦ inr (inr is) ];
    })

-- .. or of bytes that go over bytes
pub gives-over : {D : Type 0} (g : Ghosts D) (f : ℕ) (old new : Mft D g) (name : List ℕ) (at len : ℕ)
    → StagesOver g f name at len (names_of (records_of (view g old)) f) old new → StagesGiving g (10 + len / 512) f (view g old) old new
gives-over g f old new name at len x =
    gives-none g (10 + len / 512) f (view g old) old new (record {
      few = let few = x.few in omega (arith, few);
      only = λ sector has. elim (x.only sector has) [
        | inl was ↦ inl was
        | inr (inl stream) ↦ inr (inl (name, at, 512 * pieces_touched at len, stream))
        | inr (inr is) ↦ inr (inr is)
      ];
    })
