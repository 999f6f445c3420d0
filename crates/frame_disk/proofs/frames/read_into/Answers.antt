use Rattle.std.proofs.Common.{◌≡◌, ◌+◌, ◌*◌, ◌∙◌, ap, sym}
use Rattle.std.proofs.lemmas.List.{with_items_is}
use Rattle.vol_disk.specs.Contents.{sector_of}
use Rattle.frame_disk.specs.Frames.{slot_of}
use Rattle.frame_disk.proofs.frames.read_into.Goals as goal

pub returns-clause-read : goal.returns-clause-read
returns-clause-read g c done told j small =
    ap (λ room. sector_of room (8 * slot_of c.args.frame + j))
    (with_items_is c.args.room.now c.read_frames.new.room (c.read_frames.auto.room ∙ c.deref_mut.ensures.len))
    ∙ c.read_frames.ensures.read done told j small

pub returns-clause-beside : goal.returns-clause-beside
returns-clause-beside g c j beside =
    ap (λ room. sector_of room j)
    (with_items_is c.args.room.now c.read_frames.new.room (c.read_frames.auto.room ∙ c.deref_mut.ensures.len))
    ∙ c.read_frames.ensures.beside j beside
    ∙ ap (λ room. sector_of room j) c.deref_mut.ensures.value
