use Rattle.std.proofs.Common.{◌≡◌, ◌+◌, ◌≤◌, length, refl}
use Rattle.list_laws.proofs.OptionLaws.{ok-always}
use Rattle.ntfs_def.specs.Attribute.{attributes}
use Rattle.ntfs_def.specs.Record.{used_size}
use Rattle.mft_table.specs.Mft.{MftStages, view}
use Rattle.mft_table.specs.Staging.{record_places}
use Rattle.file_record.specs.Attributes.{InsertsAttribute}
use Rattle.file_record.proofs.AttributeLaws.{EditsHeld-inserted, attribute-inserted}
use Rattle.file_record.proofs.EditLaws.{same-held}
use Rattle.file_record.proofs.RecordEdits.{file-edited, record-edited, record-gives_both, held-inside, record-staged}
use Rattle.file_record.proofs.parts.FileParts.insert_attribute.Goals as goal

-- What was staged is the record, edited; told of any such record.
pub returns-clause-inserted : goal.returns-clause-inserted
returns-clause-inserted g c =
    let old = view g.D.Disk c.args.mft.now in
    let new = view g.D.Disk c.stage.new.mft in
    let file = c.args.self.now in
    let one = c.index_mut-held.result.now in
    let now = c.insert_attribute.new.self in
    let is = c.index_mut-held.ensures.value in
    let inside = held-inside file c.args.place (λ held. c.args.i ≤ length (attributes held.block)) c.requires.place in
    record-edited old new file c.args.place one now is inside c.insert_attribute.ensures.number _
    (λ n. InsertsAttribute old new n c.args.i c.args.attr.now) c.stage.ensures.staged
    (λ told whole stored seals replaces. attribute-inserted old new file c.args.place c.args.i one now told whole is inside
    c.insert_attribute.ensures.number stored seals replaces c.args.attr.now c.insert_attribute.ensures.edited)

pub returns-clause-held : goal.returns-clause-held
returns-clause-held g c =
    let old = view g.D.Disk c.args.mft.now in
    let new = view g.D.Disk c.stage.new.mft in
    let file = c.args.self.now in
    let one = c.index_mut-held.result.now in
    let now = c.insert_attribute.new.self in
    let is = c.index_mut-held.ensures.value in
    let inside = held-inside file c.args.place (λ held. c.args.i ≤ length (attributes held.block)) c.requires.place in
    file-edited old new file c.args.place one now is inside c.insert_attribute.ensures.number _
    (EditsHeld-inserted one.block now.block c.args.attr.now c.args.i c.insert_attribute.ensures.edited) _ refl refl c.stage.ensures.staged

pub returns-clause-same : goal.returns-clause-same
returns-clause-same g c =
    same-held c.args.self.now _ c.args.place c.index_mut-held.result.now c.insert_attribute.new.self
    c.index_mut-held.ensures.value c.insert_attribute.ensures.number refl refl

pub returns-clause-room : goal.returns-clause-room
returns-clause-room g c =
    let file = c.args.self.now in
    let one = c.index_mut-held.result.now in
    let is = c.index_mut-held.ensures.value in
    let inside = held-inside file c.args.place (λ held. c.args.i ≤ length (attributes held.block)) c.requires.place in
    ok-always _ (record-gives_both file c.args.place one is inside c.insert_attribute.new.self _ refl
    (λ was held. used_size held.block ≡ used_size was.block + length c.args.attr.now)
    c.insert_attribute.ensures.edited.bytes.used)

pub returns-clause-count : goal.returns-clause-count
returns-clause-count g c =
    let file = c.args.self.now in
    let inside = held-inside file c.args.place (λ held. c.args.i ≤ length (attributes held.block)) c.requires.place in
    ok-always _ (record-gives_both file c.args.place c.index_mut-held.result.now c.index_mut-held.ensures.value inside
    c.insert_attribute.new.self _ refl (λ was held. length (attributes held.block) ≡ length (attributes was.block) + 1)
    c.insert_attribute.ensures.edited.one_more)

pub returns-clause-stages : goal.returns-clause-stages
returns-clause-stages g c =
    let old = view g.D.Disk c.args.mft.now in
    let new = view g.D.Disk c.stage.new.mft in
    let file = c.args.self.now in
    let one = c.index_mut-held.result.now in
    let now = c.insert_attribute.new.self in
    let is = c.index_mut-held.ensures.value in
    let inside = held-inside file c.args.place (λ held. c.args.i ≤ length (attributes held.block)) c.requires.place in
    record-staged old new file c.args.place one now is inside c.insert_attribute.ensures.number _
    (λ n. MftStages g.D.Disk (record_places old.layout n) 4 c.args.mft.now c.stage.new.mft) c.stage.ensures.stages
