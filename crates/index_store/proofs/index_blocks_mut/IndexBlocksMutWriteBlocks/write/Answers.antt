use Rattle.std.proofs.Common.{◌≡◌, ℕ, ◌+◌, ◌-◌, ◌^◌, ◌≤◌, inl, inr, refl, sym, ◌∙◌, arith}
use Rattle.std.specs.Prelude.{◌⊎◌, IsTrue, min}
use Rattle.std.proofs.lemmas.Bool.{cases_lt}
use Rattle.attr_store.specs.Owners.{HasOwners}
use Rattle.attr_store.specs.Clusters.{ChangesStream}
use Rattle.attr_store.specs.Mft.{view}
use Rattle.attr_store.specs.Held.{IsHeldFile}
use Rattle.index_store.specs.Index.{index_held}
use Rattle.index_store.specs.IndexRecords.{index_record_on}
use Rattle.index_store.proofs.EditedBlocks.{EditsRecords-writes}
use Rattle.index_store.proofs.RecordWriteLaws.{record-left, records-edited}
use Rattle.index_store.proofs.ToldLaws.{records-told}
use Rattle.index_store.proofs.index_blocks_mut.IndexBlocksMutWriteBlocks.write.Goals as goal

-- a count, one higher as long as it can be
counted : (was now : ℕ) → now ≡ min (was + 1) (2 ^ 64 - 1) → (was + 1 ≤ now) ⊎ (2 ^ 64 - 1 ≤ now)
counted was now is = elim (cases_lt was (2 ^ 64 - 1)) [
  | inl lt ↦ inl (omega (arith, is, lt))
  | inr ge ↦ inr (omega (arith, is, ge))
]

pub returns-in-Ok-clause-done : goal.returns-in-Ok-clause-done
returns-in-Ok-clause-done g c =
    let old = view g.D.Disk c.args.self.now.mft.now in
    let new = view g.D.Disk c.write_used_record.new.mft in
    let index = index_held c.args.self.now.file.now c.args.self.now.index.name.now in
    records-edited old new index c.args.vcn c.args.from.now c.in-Ok.ensures.stages.stages.goes_on.told_image (λ told.
    let held = c.requires.ready.held told in
    let r = records-told old index told in
    c.in-Ok.ensures.written told held.readable held.parts held.is_file (c.requires.ready.owners told)
    (c.requires.there (index_record_on old index) r) (c.requires.opened (index_record_on old index) r) c.requires.apart)

pub returns-in-Ok-clause-ready : goal.returns-in-Ok-clause-ready
returns-in-Ok-clause-ready g c =
    let old = view g.D.Disk c.args.self.now.mft.now in
    let new = view g.D.Disk c.write_used_record.new.mft in
    let file = c.args.self.now.file.now in
    let name = c.args.self.now.index.name.now in
    let index = index_held file name in
    let left : IsTrue old.told → IsHeldFile new file × HasOwners new × ChangesStream old new _ = λ told.
    let held = c.requires.ready.held told in
    let r = records-told old index told in
    record-left old new file name c.args.from.now c.args.vcn held (c.requires.ready.owners told)
    (c.in-Ok.ensures.written told held.readable held.parts held.is_file (c.requires.ready.owners told)
    (c.requires.there (index_record_on old index) r) (c.requires.opened (index_record_on old index) r) c.requires.apart) in
    let before : IsTrue new.told → IsTrue old.told = λ told. sym c.in-Ok.ensures.stages.stages.goes_on.told_image ∙ told in
    record {
      found = c.requires.ready.found;
      held = λ told. (left (before told)).0;
      sound = c.in-Ok.ensures.stages.stages.sound;
      whole = c.requires.ready.whole;
      owners = λ told. (left (before told)).1;
    }

pub returns-in-Ok-clause-edits : goal.returns-in-Ok-clause-edits
returns-in-Ok-clause-edits g c =
    let old = view g.D.Disk c.args.self.now.mft.now in
    let new = view g.D.Disk c.write_used_record.new.mft in
    let file = c.args.self.now.file.now in
    let name = c.args.self.now.index.name.now in
    let index = index_held file name in
    EditsRecords-writes g.D.Disk c.args.self.now _ c.args.vcn c.requires.ready.sound refl refl refl c.in-Ok.ensures.stages
    (λ told. let held = c.requires.ready.held told in c.in-Ok.ensures.places told held.readable held.parts held.is_file)
    (omega (arith, c.saturating_add-self.ensures))
    (counted c.args.self.now.written c.saturating_add-self.result c.saturating_add-self.ensures)
    (λ whole. whole)
    (λ whole told.
    let held = c.requires.ready.held told in
    let r = records-told old index told in
    (record-left old new file name c.args.from.now c.args.vcn held (c.requires.ready.owners told)
    (c.in-Ok.ensures.written told held.readable held.parts held.is_file (c.requires.ready.owners told)
    (c.requires.there (index_record_on old index) r) (c.requires.opened (index_record_on old index) r) c.requires.apart)).2)

pub returns-in-Err-clause-edits : goal.returns-in-Err-clause-edits
returns-in-Err-clause-edits g c =
    EditsRecords-writes g.D.Disk c.args.self.now _ c.args.vcn c.requires.ready.sound refl refl refl c.in-Err.ensures.stages
    (λ told. let held = c.requires.ready.held told in c.in-Err.ensures.places told held.readable held.parts held.is_file)
    (omega (arith, c.saturating_add-self.ensures))
    (counted c.args.self.now.written c.saturating_add-self.result c.saturating_add-self.ensures)
    (λ whole. cc) (λ whole told. cc)
