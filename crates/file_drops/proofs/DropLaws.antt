-- A FILE THAT GOES: what stands before each step, and what the steps are together.
use Rattle.std.proofs.Common.{◌≡◌, ◌+◌, ◌*◌, ◌≤◌, ℕ, List, [], Option, filter, refl, sym, ap, subst, ◌∙◌}
use Rattle.std.specs.Prelude.{IsSomeAnd, IsTrue, nat_lt}
use Rattle.ntfs_def.specs.FileName.{key_units}
use Rattle.ntfs_def.specs.declared.kinds.TheConstants.{BITMAP}
use Rattle.ntfs_def.specs.declared.records.TheConstants.{MFT}
use Rattle.volume_def.specs.BitmapClauses.{record_bits, written_by}
use Rattle.volume_def.specs.Coverage.{IsApart}
use Rattle.volume_def.specs.Files.{Part, Record, is_base, is_of}
use Rattle.volume_def.specs.IndexesClause.{IsDirectoryIndex}
use Rattle.volume_def.specs.Readable.{IsFile}
use Rattle.volume_def.specs.Table.{LiesOn, TableLayout}
use Rattle.volume_def.specs.Values.{first_part}
use Rattle.volume_def.specs.View.{VolumeView}
use Rattle.volume_edits.proofs.OwnerLaws.{layout-lies_apart}
use Rattle.mft_table.specs.declared.mounted.Mounted.{Mounted}
use Rattle.mft_table.specs.Changes.{with_record_given}
use Rattle.mft_table.specs.InUse.{IsSoundVolume}
use Rattle.edit_def.specs.Marks.{AreRight}
use Rattle.edit_def.proofs.IndexLaws.{items-of-directory}
use Rattle.record_edits.specs.Between.{IsReady}
use Rattle.record_calls.specs.Marks.{marks_of}
use Rattle.stream_overwrites.proofs.ShownFile.{file, may-edit, not-table}
use Rattle.made_edits.proofs.ReadyLaws.{owners-of, ready-sound}
use Rattle.file_makes.proofs.MadeUnder.{right-marks}
use Rattle.gone_edits.specs.Between.{HasExited}
use Rattle.gone_edits.specs.Exits.{ExitsIndex}
use Rattle.gone_edits.specs.Goes.{CanGo, GoesUnder}
use Rattle.gone_edits.proofs.Before as before
use Rattle.gone_edits.proofs.Exited.{Exited}
use Rattle.gone_edits.proofs.Steps as steps
use Rattle.file_drops.specs.Drops.{MayDrop}
use Rattle.file_drops.specs.Exits.{HasExit, MayExit}
use Rattle.file_drops.specs.Freed.{GoesWhole, MayFree}
use Rattle.file_drops.specs.Named.{HasOneName}
use Rattle.file_drops.proofs.ExitLaws.{alone-unlisted}

module _ (old : VolumeView) (was : Mounted) (n dir : ℕ) (is : IsSoundVolume old was) (may : MayDrop old n dir) where
  right : AreRight old (marks_of was)
  right = right-marks old was is

  pub ready : IsReady old (marks_of was)
  ready = ready-sound old (marks_of was) is.sound may.can.directory.apart right

  -- the directory is that of the name
  can : CanGo old n may.name.parent.number may.file may.parent may.name
  can = subst (λ d. CanGo old n d may.file may.parent may.name) (sym may.can.inside) may.can

  index : IsDirectoryIndex old dir
  index = subst (IsDirectoryIndex old) may.can.inside (before.index old was n may.file may.parent may.name can right)

  -- ITS ENTRY may go out.
  pub may-exit : (key : List ℕ) → key_units key ≡ may.name.units → MayExit old (marks_of was) dir was.upcase key
  may-exit key same = record {
    ready_for = record {
      ready = ready;
      is_file = file old dir may.parent may.can.directory.there;
      may = may-edit old dir may.parent may.can.directory.there;
      written = may.written;
    };
    items = index.items;
    has = items-of-directory old dir index;
    case = is.stored.upcase_is;
    entry = subst (HasExit old dir) (sym same) may.entry;
  }

  -- IT HAS ONE NAME,
  pub is-file : IsFile old n
  is-file = file old n may.file may.can.there

  abbrev pub one-name : (sectors : ℕ) → LiesOn sectors old.layout → HasOneName old (marks_of was) n
  one-name sectors lies = record {
    ready = ready;
    apart = layout-lies_apart old (owners-of old (marks_of was) ready) lies.some lies.on_volume;
    is_file = is-file;
    alone = alone-unlisted old (marks_of was) n ready is-file may.can.one.no_list;
    name = may.name;
    only = may.can.only;
    written = may.record_bit.block;
  }

  -- also where the entry has gone out
  module _ (left : VolumeView) (key : List ℕ) (exits : ExitsIndex old left dir key) where
    exits-there : ExitsIndex old left may.name.parent.number key
    exits-there = subst (λ d. ExitsIndex old left d key) (sym may.can.inside) exits

    gone : Exited old left (marks_of was) may.name.parent.number key
    gone = steps.gone old left was n may.file may.parent may.name key can right exits-there

    -- the bitmap of records lies where it lay
    pub rows-left : record_bits left ≡ record_bits old
    rows-left = ap (filter (is_of BITMAP []))
        (gone.entered.others MFT (λ same. not-table old dir may.parent may.can.directory.there (sym (same ∙ may.can.inside))))

    exited : HasExited old left (marks_of was) n may.name.parent.number
    exited = steps.has-exited old left was n may.file may.parent may.name key can right exits-there

    is-file-left : IsFile left n
    is-file-left =
        subst (λ (o : Option Record). IsSomeAnd o (λ r. IsTrue (is_base r)))
        (sym (gone.entered.records n (λ same. exited.other (sym same)))) is-file

    name-left : (sectors : ℕ) → LiesOn sectors old.layout → HasOneName left (marks_of was) n
    name-left sectors lies = record {
      ready = gone.entered.ready;
      apart = subst IsApart (sym gone.entered.layout) (one-name sectors lies).apart;
      is_file = is-file-left;
      alone = alone-unlisted left (marks_of was) n gone.entered.ready is-file-left exited.one.no_list;
      name = may.name;
      only = steps.only-left old left was n may.file may.parent may.name key can right exits-there;
      written = subst (λ (l : TableLayout). 1024 * n + 1024 ≤ l.initialized) (sym gone.entered.layout) may.record_bit.block;
    }

    -- ITS RECORD may go, and its flag is found then.
    pub may-free : (sectors : ℕ) → LiesOn sectors old.layout → MayFree left was n
    may-free sectors lies = record {
      one = name-left sectors lies;
      ordinary = may.can.ordinary;
      after = λ freed leaves.
          let rows = steps.keeps-rows old left was n may.file may.parent may.name key can right exits-there leaves.counted leaves.quits
          freed (with_record_given was n) leaves.frees refl in
          record {
            rows = rows.rows;
            same = rows.same ∙ rows.was ∙ sym rows-left;
            flag = ap (λ (ps : List Part). nat_lt n (8 * written_by (first_part ps))) (rows.same ∙ rows.was) ∙ may.record_bit.flag;
          };
    }

    -- TOGETHER
    pub goes-under : (new : VolumeView) (now : Mounted) → key_units key ≡ may.name.units → GoesWhole left new was now n
        → GoesUnder old new was now n dir may.name
    goes-under new now same whole = record {
      key = key;
      key_is = same;
      left = left;
      exits = exits;
      counted = whole.counted;
      quits = whole.quits;
      frees = whole.frees;
    }
