use Rattle.std.proofs.Common.{◌≡◌, ◌+◌, ◌<◌, length, refl}
use Rattle.list_laws.proofs.OptionLaws.{ok-always}
use Rattle.ntfs_def.specs.Attribute.{attribute_len, attribute_place, attributes}
use Rattle.ntfs_def.specs.Record.{used_size}
use Rattle.attr_view.specs.Values.{len_with}
use Rattle.mft_table.specs.Mft.{MftStages, view}
use Rattle.mft_table.specs.Staging.{record_places}
use Rattle.file_record.specs.Attributes.{ResizesAttribute}
use Rattle.file_record.proofs.AttributeLaws.{attribute-resized}
use Rattle.file_record.proofs.EditLaws.{same-held}
use Rattle.file_record.proofs.RecordEdits.{file-edited, record-edited, record-gives_both, record-has, held-inside, record-staged}
use Rattle.file_record.proofs.WriteLaws.{EditsHeld-changed}
use Rattle.file_record.proofs.parts.FileParts.resize_attribute.Goals as goal

-- What was staged is the record, edited; told of any such record.
pub returns-clause-resized : goal.returns-clause-resized
returns-clause-resized g c =
    let old = view g.D.Disk c.args.mft.now in
    let new = view g.D.Disk c.stage.new.mft in
    let file = c.args.self.now in
    let one = c.index_mut-held.result.now in
    let now = c.resize_attribute.new.self in
    let is = c.index_mut-held.ensures.value in
    let inside = held-inside file c.args.place (λ held. c.args.i < length (attributes held.block)) c.requires.place in
    let lt = record-has file c.args.place one is inside (λ held. c.args.i < length (attributes held.block)) c.requires.place in
    record-edited old new file c.args.place one now is inside c.resize_attribute.ensures.number _
    (λ n. ResizesAttribute old new n c.args.i c.args.len) c.stage.ensures.staged
    (λ told whole stored seals replaces. attribute-resized old new file c.args.place c.args.i one now told whole is inside
    c.resize_attribute.ensures.number stored seals replaces c.args.len lt c.resize_attribute.ensures.edited)

pub returns-clause-held : goal.returns-clause-held
returns-clause-held g c =
    let old = view g.D.Disk c.args.mft.now in
    let new = view g.D.Disk c.stage.new.mft in
    let file = c.args.self.now in
    let one = c.index_mut-held.result.now in
    let now = c.resize_attribute.new.self in
    let is = c.index_mut-held.ensures.value in
    let inside = held-inside file c.args.place (λ held. c.args.i < length (attributes held.block)) c.requires.place in
    file-edited old new file c.args.place one now is inside c.resize_attribute.ensures.number _
    (EditsHeld-changed one.block now.block c.args.i c.resize_attribute.ensures.edited.changes) _ refl refl c.stage.ensures.staged

pub returns-clause-same : goal.returns-clause-same
returns-clause-same g c =
    same-held c.args.self.now _ c.args.place c.index_mut-held.result.now c.resize_attribute.new.self
    c.index_mut-held.ensures.value c.resize_attribute.ensures.number refl refl

pub returns-clause-room : goal.returns-clause-room
returns-clause-room g c =
    let file = c.args.self.now in
    let one = c.index_mut-held.result.now in
    let is = c.index_mut-held.ensures.value in
    let inside = held-inside file c.args.place (λ held. c.args.i < length (attributes held.block)) c.requires.place in
    ok-always _ (record-gives_both file c.args.place one is inside c.resize_attribute.new.self _ refl
    (λ was held. used_size held.block + attribute_len was.block (attribute_place was.block c.args.i)
    ≡ used_size was.block + len_with was.block c.args.i c.args.len)
    c.resize_attribute.ensures.edited.bytes.used)

pub returns-clause-stages : goal.returns-clause-stages
returns-clause-stages g c =
    let old = view g.D.Disk c.args.mft.now in
    let new = view g.D.Disk c.stage.new.mft in
    let file = c.args.self.now in
    let one = c.index_mut-held.result.now in
    let now = c.resize_attribute.new.self in
    let is = c.index_mut-held.ensures.value in
    let inside = held-inside file c.args.place (λ held. c.args.i < length (attributes held.block)) c.requires.place in
    record-staged old new file c.args.place one now is inside c.resize_attribute.ensures.number _
    (λ n. MftStages g.D.Disk (record_places old.layout n) 4 c.args.mft.now c.stage.new.mft) c.stage.ensures.stages
