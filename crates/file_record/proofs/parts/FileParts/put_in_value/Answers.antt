use Rattle.std.proofs.Common.{◌≡◌, ◌+◌, ◌<◌, length, refl}
use Rattle.list_laws.proofs.OptionLaws.{ok-always}
use Rattle.ntfs_def.specs.Attribute.{attributes}
use Rattle.mft_table.specs.Mft.{MftStages, view}
use Rattle.mft_table.specs.Staging.{record_places}
use Rattle.file_record.specs.Attributes.{IsRoomAfterPut, PutsInValue}
use Rattle.file_record.proofs.AttributeLaws.{attribute-put}
use Rattle.file_record.proofs.EditLaws.{same-held}
use Rattle.file_record.proofs.RecordEdits.{file-edited, record-edited, record-gives_both, record-has, held-inside, record-staged}
use Rattle.file_record.proofs.WriteLaws.{EditsHeld-changed}
use Rattle.file_record.proofs.parts.FileParts.put_in_value.Goals as goal

-- What was staged is the record, edited; told of any such record.
pub returns-clause-put : goal.returns-clause-put
returns-clause-put g c =
    let old = view g.D.Disk c.args.mft.now in
    let new = view g.D.Disk c.stage.new.mft in
    let file = c.args.self.now in
    let one = c.index_mut-held.result.now in
    let now = c.put_in_value.new.self in
    let is = c.index_mut-held.ensures.value in
    let inside = held-inside file c.args.place (λ held. c.args.i < length (attributes held.block)) c.requires.place in
    let lt = record-has file c.args.place one is inside (λ held. c.args.i < length (attributes held.block)) c.requires.place in
    record-edited old new file c.args.place one now is inside c.put_in_value.ensures.number _
    (λ n. PutsInValue old new n c.args.i c.args.at c.args.from.now) c.stage.ensures.staged
    (λ told whole stored seals replaces. attribute-put old new file c.args.place c.args.i one now told whole is inside
    c.put_in_value.ensures.number stored seals replaces c.args.at c.args.from.now lt c.put_in_value.ensures.edited)

pub returns-clause-held : goal.returns-clause-held
returns-clause-held g c =
    let old = view g.D.Disk c.args.mft.now in
    let new = view g.D.Disk c.stage.new.mft in
    let file = c.args.self.now in
    let one = c.index_mut-held.result.now in
    let now = c.put_in_value.new.self in
    let is = c.index_mut-held.ensures.value in
    let inside = held-inside file c.args.place (λ held. c.args.i < length (attributes held.block)) c.requires.place in
    file-edited old new file c.args.place one now is inside c.put_in_value.ensures.number _
    (EditsHeld-changed one.block now.block c.args.i c.put_in_value.ensures.edited.changes) _ refl refl c.stage.ensures.staged

pub returns-clause-same : goal.returns-clause-same
returns-clause-same g c =
    same-held c.args.self.now _ c.args.place c.index_mut-held.result.now c.put_in_value.new.self
    c.index_mut-held.ensures.value c.put_in_value.ensures.number refl refl

pub returns-clause-room : goal.returns-clause-room
returns-clause-room g c =
    let file = c.args.self.now in
    let one = c.index_mut-held.result.now in
    let is = c.index_mut-held.ensures.value in
    let inside = held-inside file c.args.place (λ held. c.args.i < length (attributes held.block)) c.requires.place in
    ok-always _ (record-gives_both file c.args.place one is inside c.put_in_value.new.self _ refl
    (λ was held. IsRoomAfterPut was.block held.block c.args.i c.args.at (length c.args.from.now))
    c.put_in_value.ensures.edited.used)

pub returns-clause-stages : goal.returns-clause-stages
returns-clause-stages g c =
    let old = view g.D.Disk c.args.mft.now in
    let new = view g.D.Disk c.stage.new.mft in
    let file = c.args.self.now in
    let one = c.index_mut-held.result.now in
    let now = c.put_in_value.new.self in
    let is = c.index_mut-held.ensures.value in
    let inside = held-inside file c.args.place (λ held. c.args.i < length (attributes held.block)) c.requires.place in
    record-staged old new file c.args.place one now is inside c.put_in_value.ensures.number _
    (λ n. MftStages g.D.Disk (record_places old.layout n) 4 c.args.mft.now c.stage.new.mft) c.stage.ensures.stages
