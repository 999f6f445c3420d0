-- WHAT STANDS between the calls of `rm`: behind the entry, behind the name, and behind the record.
use Rattle.std.proofs.Common.{◌≡◌, ◌≢◌, ◌<◌, ◌≤◌, ◌*◌, ℕ, List, [], ◌∷◌, Some, filter, length, inl, inr, refl, sym, ap, subst, ◌∙◌, arith}
use Rattle.std.specs.List.{All, Contains, count_by}
use Rattle.std.specs.Prelude.{IsSome, IsTrue}
use Rattle.std.proofs.lemmas.Bool.{cases_eq, false_from_ne_true}
use Rattle.std.proofs.lemmas.List.Elements.{All-contains}
use Rattle.list_laws.proofs.FindLaws.{count-none, count-some}
use Rattle.ntfs_def.specs.FileName.{FileName}
use Rattle.ntfs_def.specs.Fixup.{opened_of}
use Rattle.ntfs_def.specs.Record.{is_in_use}
use Rattle.ntfs_def.specs.declared.kinds.TheConstants.{BITMAP}
use Rattle.ntfs_def.specs.declared.records.TheConstants.{FIRST_ORDINARY, MFT, ROOT}
use Rattle.volume_def.specs.BitmapClauses.{HasNoHole, HasRecordBits, record_bits}
use Rattle.volume_def.specs.FileNames.{names_among, names_of}
use Rattle.volume_def.specs.Files.{Part, all_covered, content_extent, content_value, is_base, is_of, parts, record_of, records_of}
use Rattle.volume_def.specs.ListsClause.{IsAlone, is_list}
use Rattle.volume_def.specs.Sound as clauses
use Rattle.volume_def.specs.Table.{IsWellFormed, TableLayout, cluster_bytes}
use Rattle.volume_def.specs.Values.{IsPlain}
use Rattle.volume_def.specs.View.{VolumeView}
use Rattle.mft_table.specs.declared.mounted.Mounted.{Mounted}
use Rattle.mft_table.specs.Changes.{with_record_given}
use Rattle.mft_table.specs.FreeRecords.{FreesBlock}
use Rattle.tree_model.specs.declared.tree.Node.{Node}
use Rattle.tree_model.proofs.NamesLaws.{is_shown}
use Rattle.edit_def.specs.Marks.{AreRight, Marks}
use Rattle.edit_def.proofs.ToldLaws.{part-file}
use Rattle.file_edits.specs.Files.{IsPlainFile}
use Rattle.record_calls.specs.Calls.{IsInOneRecord}
use Rattle.record_calls.specs.Edits.{record_there}
use Rattle.record_calls.specs.Marks.{marks_of}
use Rattle.command_edits.proofs.StageLaws.{is-ordinary}
use Rattle.made_edits.proofs.AloneLaws.{StandsAlone}
use Rattle.made_edits.proofs.ReadyLaws.{apart-ready, owners-of}
use Rattle.gone_edits.specs.Between.{HasExited, HasNoName, IsFreed, KeepsRows}
use Rattle.gone_edits.specs.Exits.{ExitsIndex}
use Rattle.gone_edits.specs.Goes.{CanGo, QuitsName}
use Rattle.gone_edits.proofs.Before as before
use Rattle.gone_edits.proofs.Exited.{Exited, exited}
use Rattle.gone_edits.proofs.FileFreed.{Freed, file-freed}
use Rattle.gone_edits.proofs.FileFreed as file
use Rattle.gone_edits.proofs.NameGone.{Unnamed, name-quit}

-- THE ENTRY HAS GONE.
module _ (old left : VolumeView) (was : Mounted) (n : ℕ) (node parent : Node) (name : FileName) (key : List ℕ)
    (can : CanGo old n name.parent.number node parent name) (right : AreRight old (marks_of was))
    (exits : ExitsIndex old left name.parent.number key) where
  abbrev dir : ℕ
  dir = name.parent.number

  abbrev marks : Marks
  marks = marks_of was

  other : dir ≢ n
  other = before.other old was n node parent name can right

  pub gone : Exited old left marks dir key
  gone = exited old left dir key marks (before.ready old was n node parent name can right)
      (before.index old was n node parent name can right) exits

  block-left : left.block n ≡ old.block n
  block-left = gone.entered.blocks n (λ is. other (sym is))

  pub own-left : parts (records_of left) n ≡ parts (records_of old) n
  own-left = gone.entered.others n (λ is. other (sym is))

  pub alone-left : StandsAlone left n (record_there left n)
  alone-left =
      let was_alone = before.alone old was n node parent name can right in
      record {
        at = gone.entered.records n (λ is. other (sym is)) ∙ was_alone.at
            ∙ ap (λ block. Some (record_of n (opened_of block))) (sym block-left);
        base = subst (λ block. IsTrue (is_base (record_of n (opened_of block)))) (sym block-left) was_alone.base;
        whole = own-left ∙ was_alone.whole ∙ ap (λ block. (record_of n (opened_of block)).parts) (sym block-left);
      }

  pub one-left : IsInOneRecord left n
  one-left = record { base = alone-left.base; may = can.one.may; no_list = ap (count_by is_list) own-left ∙ can.one.no_list }

  pub only-left : names_of (records_of left) n ≡ name ∷ []
  unfolding names_of
  only-left = ap names_among own-left ∙ can.only

  pub values-left : All (λ (part : Part). IsSome (content_value part.content)) (parts (records_of left) n)
  values-left = subst (All (λ (part : Part). IsSome (content_value part.content))) (sym own-left) can.values

  pub has-exited : HasExited old left marks n dir
  has-exited = record {
    ready = gone.entered.ready;
    layout = gone.entered.layout;
    apart = apart-ready left marks gone.entered.ready;
    other = other;
    block = block-left;
    one = one-left;
    own = own-left;
  }

  -- THE NAME HAS GONE.
  module _ (counted : VolumeView) (q : QuitsName left counted n) where
    pub quit : Unnamed left q.unnamed counted marks n name
    quit = name-quit left counted n name marks gone.entered.ready alone-left one-left values-left only-left q

    pub values-counted : (part : Part) → Contains (parts (records_of counted) n) part → IsSome (content_value part.content)
    values-counted part c =
        All-contains (λ (part : Part). IsSome (content_value part.content)) (parts (records_of left) n) part values-left (quit.still part c)

    no-list : count_by is_list (parts (records_of counted) n) ≡ 0
    no-list = count-none is_list (parts (records_of counted) n) (λ part c.
        false_from_ne_true (is_list part) (λ is.
        let some = count-some is_list (parts (records_of left) n) part (quit.still part c) is in
        let none = one-left.no_list in
        absurd (omega (arith, some, none))))

    block-counted : counted.block n ≡ q.stored
    block-counted = q.counts.replaces.block q.counts.told

    pub used-counted : IsTrue (is_in_use (counted.block n))
    used-counted = subst (λ block. IsTrue (is_in_use block)) (sym block-counted) q.counts.used_still

    well-counted : IsWellFormed (counted.block n)
    well-counted = subst IsWellFormed (sym block-counted) q.counts.well

    pub inside-counted : n < counted.layout.count
    inside-counted = subst (λ (l : TableLayout). n < l.count) (sym q.counts.replaces.layout) q.counts.inside

    pub told-counted : IsTrue counted.told
    told-counted = subst IsTrue (sym q.counts.replaces.told) q.counts.told

    pub plain-counted : IsPlainFile n (record_there counted n)
    plain-counted = file.plain-file counted n marks quit.ready quit.alone well-counted values-counted no-list

    pub alone-file : IsAlone counted n
    alone-file = file.alone-file counted n marks quit.ready quit.alone well-counted values-counted no-list

    pub has-no-name : HasNoName counted marks n
    has-no-name = record {
      ready = quit.ready;
      apart = apart-ready counted marks quit.ready;
      one = record { base = quit.alone.base; may = can.one.may; no_list = no-list };
      plain = plain-counted;
      alone = alone-file;
      unnamed = quit.nameless;
    }

    -- THE RECORD IS FREE.
    module _ (freed : VolumeView) (now : Mounted) (frees : FreesBlock counted freed n) (given : now ≡ with_record_given was n) where
      pub free : Freed counted freed marks (marks_of now) n
      free = file-freed counted freed was now n told-counted quit.ready can.ordinary inside-counted used-counted well-counted plain-counted
          alone-file frees given

      pub is-freed : IsFreed freed (marks_of now) n
      is-freed = record { ready = free.ready; apart = apart-ready freed (marks_of now) free.ready; unused = free.none }

      -- THE BITMAP OF RECORDS lies where it lay.
      away : MFT ≢ n
      away is = let high = can.ordinary in omega (arith, is, high)

      -- the directory is the root directory, or no file of the system
      no-directory : MFT ≢ dir
      no-directory is =
          let shown = is_shown old dir parent can.directory.there in
          elim (cases_eq dir ROOT) [
            | inl root ↦ omega (arith, is, root)
            | inr past ↦ let high = is-ordinary old dir shown.shown past in omega (arith, is, high)
          ]

      same-rows : record_bits freed ≡ record_bits counted
      same-rows = ap (filter (is_of BITMAP [])) (free.parts_others MFT away)

      rows-were : record_bits counted ≡ record_bits old
      rows-were = ap (filter (is_of BITMAP [])) (quit.parts_others MFT away ∙ gone.entered.others MFT no-directory)

      layout-was : freed.layout ≡ old.layout
      layout-was = frees.replaces.layout ∙ q.counts.replaces.layout ∙ q.name.edits.replaces.layout ∙ gone.entered.layout

      bits-found : HasRecordBits freed
      bits-found =
          let was = (can.directory.sound clauses.RecordBits FIRST_ORDINARY).bits refl in
          let same = same-rows ∙ rows-were in
          record {
            plain = subst IsPlain (sym same) was.plain;
            placed = subst HasNoHole (sym same) was.placed;
            extents = subst (All (λ (part : Part). IsSome (content_extent part.content))) (sym same) was.extents;
            room = subst (λ (l : TableLayout). l.count ≤ 8 * (all_covered (record_bits freed) * cluster_bytes l)) (sym layout-was)
                (subst (λ xs. old.layout.count ≤ 8 * (all_covered xs * cluster_bytes old.layout)) (sym same) was.room);
          }

      table-counted : 0 < length now.records
      table-counted =
          let rows = free.ready.editable.right.rows in
          let count = ap (λ (l : TableLayout). l.count) frees.replaces.layout in
          omega (arith, rows, count, inside-counted)

      pub keeps-rows : KeepsRows old counted freed now n
      keeps-rows = record {
        rows = record {
          readable = free.ready.editable.readable;
          owners = owners-of freed (marks_of now) free.ready;
          is_file = part-file freed MFT free.ready.table.table.part free.ready.bases free.ready.table.table.among;
          bits = bits-found;
          inside = table-counted;
        };
        same = same-rows;
        was = rows-were;
        layout = layout-was;
        others = free.parts_others;
        clusters = frees.replaces.clusters;
      }
