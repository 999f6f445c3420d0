use Rattle.std.proofs.Common.{ℕ, List, Option, length, sym, subst}
use Rattle.std.specs.Prelude.{IfNone, IfSome}
use Rattle.std.proofs.lemmas.Option.{slice_get_within}
use Rattle.std.proofs.lemmas.Result.{on_ok_weaker}
use Rattle.ntfs_def.specs.FileName.{is_name_key}
use Rattle.ntfs_def.specs.KeyOrder.{fold_of, name_order}
use Rattle.mft_table.specs.declared.mounted.Mounted.{Mounted}
use Rattle.mft_table.specs.Mft.{MftStages, mounted_of, view}
use Rattle.mft_table.specs.Staging.{record_places}
use Rattle.file_record.specs.Attributes.{PutsInValue}
use Rattle.file_record.specs.Held.{RecordHeld, file_number, parts_held}
use Rattle.record_edits.specs.Between.{IsReady}
use Rattle.record_calls.specs.Marks.{marks_of}
use Rattle.dir_index.proofs.RootLaws.{bytes-staged}
use Rattle.index_puts.proofs.PutWhole.{ok-both}
use Rattle.index_puts.proofs.RootLaws.{root-part}
use Rattle.root_puts.specs.GrownRoot.{CanGrowIn, GrowsIn}
use Rattle.root_puts.proofs.HeldRoot.{disk-kept, in-record, most, of-held, one-is, record-own, room-to-put}
use Rattle.root_puts.proofs.HeldRoot as held
use Rattle.root_puts.proofs.PutWhole.{cannot-fail, held-now, grows-root, inside-written, ready-now, written-of}
use Rattle.root_puts.proofs.put.put_in_root.Goals as goal

pub returns-in_default-clause-put : goal.returns-in_default-clause-put
returns-in_default-clause-put g c = λ told.
    let lacks = c.requires.held told in
    absurd (root-part (view g.D.Disk c.args.mft.now) c.args.dir.now lacks.items lacks.held.held lacks.held.has c.in_default.ensures)

pub place_of-place-requires : goal.place_of-place-requires
place_of-place-requires g c = slice_get_within (parts_held c.args.dir.now) c.in-Some.first.index c.in-Some.ensures.part c.in-Some.ensures.at

pub grown_at-requires-clause-place : goal.grown_at-requires-clause-place
grown_at-requires-clause-place g c =
    let file = c.args.dir.now in
    let i = c.in-Some.first.index in
    let p = c.place_of-place in
    let k = p.result.record in
    let left = p.result.attribute in
    let e = p.ensures in
    in-record file k left i e.record e.place e.attribute

pub returns-in_default-2-clause-put : goal.returns-in_default-2-clause-put
returns-in_default-2-clause-put g c = λ told.
    let file = c.args.dir.now in
    let i = c.in-Some.first.index in
    let p = c.place_of-place in
    let k = p.result.record in
    let left = p.result.attribute in
    let e = p.ensures in
    let entry = c.args.entry.now in
    let old = view g.D.Disk c.args.mft.now in
    let marks = marks_of (mounted_of g.D.Disk c.args.mft.now) in
    let table = c.args.upcase in
    let not = subst (λ (o : Option (List ℕ)). IfNone o (RecordHeld file k (λ held. CanGrowIn is_name_key held.block left (length entry) →
    ⊥)))
    c.in_default-2.is c.in_ok-root.ensures.none in
    absurd (cannot-fail old file table entry marks (c.requires.held told) (c.requires.can told)
    c.in-Some.first c.in-Some.ensures k left e.record e.place e.attribute
    (c.requires.room told) not)

pub put_in_value-requires-clause-place : goal.put_in_value-requires-clause-place
put_in_value-requires-clause-place g c =
    let file = c.args.dir.now in
    let i = c.in-Some.first.index in
    let p = c.place_of-place in
    let k = p.result.record in
    let left = p.result.attribute in
    let e = p.ensures in
    in-record file k left i e.record e.place e.attribute

pub put_in_value-requires-clause-most : goal.put_in_value-requires-clause-most
put_in_value-requires-clause-most g c =
    let file = c.args.dir.now in
    let i = c.in-Some.first.index in
    let p = c.place_of-place in
    let k = p.result.record in
    let left = p.result.attribute in
    let e = p.ensures in
    let entry = c.args.entry.now in
    let order = name_order (fold_of c.args.upcase) in
    let after = c.as_slice.result.now in
    let grown : RecordHeld file k (λ held. GrowsIn order held.block left entry after) =
    subst (λ (bytes : List ℕ). RecordHeld file k (λ held. GrowsIn order held.block left entry bytes)) (sym c.as_slice.ensures)
    (subst (λ (o : Option (List ℕ)). IfSome o (λ bytes. RecordHeld file k (λ held. GrowsIn order held.block left entry bytes)))
    c.in-Some-2.is c.in_ok-root.ensures.grown) in
    most file k left i e.record e.place e.attribute order entry after c.requires.entry.one grown

pub put_in_value-requires-clause-fits : goal.put_in_value-requires-clause-fits
put_in_value-requires-clause-fits g c =
    let file = c.args.dir.now in
    let i = c.in-Some.first.index in
    let p = c.place_of-place in
    let k = p.result.record in
    let left = p.result.attribute in
    let e = p.ensures in
    let entry = c.args.entry.now in
    let order = name_order (fold_of c.args.upcase) in
    let after = c.as_slice.result.now in
    let grown : RecordHeld file k (λ held. GrowsIn order held.block left entry after) =
    subst (λ (bytes : List ℕ). RecordHeld file k (λ held. GrowsIn order held.block left entry bytes)) (sym c.as_slice.ensures)
    (subst (λ (o : Option (List ℕ)). IfSome o (λ bytes. RecordHeld file k (λ held. GrowsIn order held.block left entry bytes)))
    c.in-Some-2.is c.in_ok-root.ensures.grown) in
    room-to-put file k left i e.record e.place e.attribute order entry after c.requires.entry.one grown

pub returns-clause-put : goal.returns-clause-put
returns-clause-put g c =
    let file = c.args.dir.now in
    let i = c.in-Some.first.index in
    let p = c.place_of-place in
    let k = p.result.record in
    let left = p.result.attribute in
    let e = p.ensures in
    let entry = c.args.entry.now in
    let order = name_order (fold_of c.args.upcase) in
    let after = c.as_slice.result.now in
    let grown : RecordHeld file k (λ held. GrowsIn order held.block left entry after) =
    subst (λ (bytes : List ℕ). RecordHeld file k (λ held. GrowsIn order held.block left entry bytes)) (sym c.as_slice.ensures)
    (subst (λ (o : Option (List ℕ)). IfSome o (λ bytes. RecordHeld file k (λ held. GrowsIn order held.block left entry bytes)))
    c.in-Some-2.is c.in_ok-root.ensures.grown) in
    let a = c.args.mft.now in
    let b = c.put_in_value.new.mft in
    let old = view g.D.Disk a in
    let new = view g.D.Disk b in
    let marks = marks_of (mounted_of g.D.Disk a) in
    let table = c.args.upcase in
    on_ok_weaker c.put_in_value.result (λ w told.
    let puts = written-of old file table entry marks (c.requires.held told) (c.requires.can told)
    c.in-Some.first c.in-Some.ensures k left e.record e.place e.attribute
    (λ n. PutsInValue old new n left 0 after) (w told (c.requires.can told).apart (c.requires.can told).whole) in
    grows-root old file table entry marks (c.requires.held told) (c.requires.can told)
    c.in-Some.first c.in-Some.ensures k left e.record e.place e.attribute
    (c.requires.room told) c.requires.entry.one c.requires.key after grown new puts) c.put_in_value.ensures.put

pub returns-clause-ready : goal.returns-clause-ready
returns-clause-ready g c =
    let file = c.args.dir.now in
    let i = c.in-Some.first.index in
    let p = c.place_of-place in
    let k = p.result.record in
    let left = p.result.attribute in
    let e = p.ensures in
    let entry = c.args.entry.now in
    let order = name_order (fold_of c.args.upcase) in
    let after = c.as_slice.result.now in
    let grown : RecordHeld file k (λ held. GrowsIn order held.block left entry after) =
    subst (λ (bytes : List ℕ). RecordHeld file k (λ held. GrowsIn order held.block left entry bytes)) (sym c.as_slice.ensures)
    (subst (λ (o : Option (List ℕ)). IfSome o (λ bytes. RecordHeld file k (λ held. GrowsIn order held.block left entry bytes)))
    c.in-Some-2.is c.in_ok-root.ensures.grown) in
    let a = c.args.mft.now in
    let b = c.put_in_value.new.mft in
    let old = view g.D.Disk a in
    let new = view g.D.Disk b in
    let marks = marks_of (mounted_of g.D.Disk a) in
    let table = c.args.upcase in
    let disk = disk-kept g.D.Disk a b file k (held.one file k left i e.record e.place e.attribute)
    (one-is file k left i e.record e.place e.attribute) c.put_in_value.result c.requires.sound c.put_in_value.ensures.stages
    c.put_in_value.ensures.kept in
    on_ok_weaker c.put_in_value.result (λ w told.
    let puts = written-of old file table entry marks (c.requires.held told) (c.requires.can told)
    c.in-Some.first c.in-Some.ensures k left e.record e.place e.attribute
    (λ n. PutsInValue old new n left 0 after) (w told (c.requires.can told).apart (c.requires.can told).whole) in
    subst (λ (m : Mounted). IsReady new (marks_of m)) (sym disk.mounted)
    (ready-now old file table entry marks (c.requires.held told) (c.requires.can told)
    c.in-Some.first c.in-Some.ensures k left e.record e.place e.attribute
    (c.requires.room told) c.requires.entry.one c.requires.key after grown new puts)) c.put_in_value.ensures.put

pub returns-clause-held : goal.returns-clause-held
returns-clause-held g c =
    let file = c.args.dir.now in
    let i = c.in-Some.first.index in
    let p = c.place_of-place in
    let k = p.result.record in
    let left = p.result.attribute in
    let e = p.ensures in
    let entry = c.args.entry.now in
    let order = name_order (fold_of c.args.upcase) in
    let after = c.as_slice.result.now in
    let grown : RecordHeld file k (λ held. GrowsIn order held.block left entry after) =
    subst (λ (bytes : List ℕ). RecordHeld file k (λ held. GrowsIn order held.block left entry bytes)) (sym c.as_slice.ensures)
    (subst (λ (o : Option (List ℕ)). IfSome o (λ bytes. RecordHeld file k (λ held. GrowsIn order held.block left entry bytes)))
    c.in-Some-2.is c.in_ok-root.ensures.grown) in
    let a = c.args.mft.now in
    let b = c.put_in_value.new.mft in
    let old = view g.D.Disk a in
    let new = view g.D.Disk b in
    let marks = marks_of (mounted_of g.D.Disk a) in
    let table = c.args.upcase in
    ok-both c.put_in_value.result (λ w whole told.
    let puts = written-of old file table entry marks (c.requires.held told) (c.requires.can told)
    c.in-Some.first c.in-Some.ensures k left e.record e.place e.attribute
    (λ n. PutsInValue old new n left 0 after) (w told (c.requires.can told).apart (c.requires.can told).whole) in
    let can = c.requires.can told in
    held-now old file table entry marks (c.requires.held told) (c.requires.can told)
    c.in-Some.first c.in-Some.ensures k left e.record e.place e.attribute
    (c.requires.room told) c.requires.entry.one c.requires.key after grown new puts c.put_in_value.new.self c.put_in_value.ensures.same
    (whole told can.apart can.whole (inside-written old file table entry marks (c.requires.held told) (c.requires.can told)
    c.in-Some.first c.in-Some.ensures k left e.record e.place e.attribute)))
    c.put_in_value.ensures.put c.put_in_value.ensures.held

pub returns-clause-whole : goal.returns-clause-whole
returns-clause-whole g c =
    let file = c.args.dir.now in
    let i = c.in-Some.first.index in
    let p = c.place_of-place in
    let k = p.result.record in
    let left = p.result.attribute in
    let e = p.ensures in
    let entry = c.args.entry.now in
    let old = view g.D.Disk c.args.mft.now in
    let marks = marks_of (mounted_of g.D.Disk c.args.mft.now) in
    let table = c.args.upcase in
    on_ok_weaker c.put_in_value.result (λ whole told.
    let can = c.requires.can told in
    whole told can.apart can.whole (inside-written old file table entry marks (c.requires.held told) (c.requires.can told)
    c.in-Some.first c.in-Some.ensures k left e.record e.place e.attribute)) c.put_in_value.ensures.held

pub returns-clause-places : goal.returns-clause-places
returns-clause-places g c =
    let file = c.args.dir.now in
    let i = c.in-Some.first.index in
    let p = c.place_of-place in
    let k = p.result.record in
    let left = p.result.attribute in
    let e = p.ensures in
    let a = c.args.mft.now in
    let b = c.put_in_value.new.mft in
    let one = held.one file k left i e.record e.place e.attribute in
    let at = one-is file k left i e.record e.place e.attribute in
    bytes-staged g.D.Disk (file_number file) one.number a b c.put_in_value.result
    (λ told. record-own file k left i e.record e.place e.attribute (view g.D.Disk a) (c.requires.can told).whole)
    (on_ok_weaker c.put_in_value.result (λ staged.
    of-held file k one at (λ held. MftStages g.D.Disk (record_places (view g.D.Disk a).layout held.number) 4 a b) staged)
    c.put_in_value.ensures.stages) c.put_in_value.ensures.kept

pub returns-clause-disk : goal.returns-clause-disk
returns-clause-disk g c =
    let file = c.args.dir.now in
    let i = c.in-Some.first.index in
    let p = c.place_of-place in
    let k = p.result.record in
    let left = p.result.attribute in
    let e = p.ensures in
    disk-kept g.D.Disk c.args.mft.now c.put_in_value.new.mft file k (held.one file k left i e.record e.place e.attribute)
    (one-is file k left i e.record e.place e.attribute) c.put_in_value.result c.requires.sound c.put_in_value.ensures.stages
    c.put_in_value.ensures.kept
