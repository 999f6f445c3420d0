use Rattle.std.proofs.Common.{◌<◌, ℕ, List, Option, length, sym, subst}
use Rattle.std.specs.Prelude.{IfNone, IfSome}
use Rattle.std.proofs.lemmas.Option.{slice_get_within}
use Rattle.std.proofs.lemmas.Result.{on_ok_weaker}
use Rattle.ntfs_def.specs.Attribute.{attributes}
use Rattle.ntfs_def.specs.FileName.{is_name_key}
use Rattle.ntfs_def.specs.KeyOrder.{fold_of, name_order}
use Rattle.vol_stage.specs.Staged.{StagesOnly}
use Rattle.mft_table.specs.declared.mounted.Mounted.{Mounted}
use Rattle.mft_table.specs.Mft.{mounted_of, stage_of, view}
use Rattle.mft_table.specs.Staging.{record_places}
use Rattle.file_record.specs.Attributes.{ChangesValue}
use Rattle.file_record.specs.Held.{RecordHeld, file_number, parts_held}
use Rattle.record_edits.specs.Between.{IsReady}
use Rattle.record_calls.specs.Marks.{marks_of}
use Rattle.index_puts.proofs.PutWhole.{ok-both}
use Rattle.index_puts.proofs.RootLaws.{root-part}
use Rattle.root_puts.proofs.HeldRoot.{in-record, of-held, one-is, record-own, to-held}
use Rattle.root_puts.proofs.HeldRoot as held
use Rattle.root_takes.specs.ShrunkRoot.{CanShrinkIn, HoldsValue, ShrinksIn}
use Rattle.root_takes.proofs.SetLaws.{staged-own}
use Rattle.root_takes.proofs.TakeWhole.{cannot-fail, exits-root, held-now, holds-shrunk, inside-written, ready-now, written-of}
use Rattle.root_takes.proofs.take.take_in_root.Goals as goal

pub returns-in_default-clause-taken : goal.returns-in_default-clause-taken
returns-in_default-clause-taken g c = λ told.
    let holds = c.requires.held told in
    absurd (root-part (view g.D.Disk c.args.mft.now) c.args.dir.now holds.items holds.held.held holds.held.has c.in_default.ensures)

pub place_of-place-requires : goal.place_of-place-requires
place_of-place-requires g c = slice_get_within (parts_held c.args.dir.now) c.in-Some.first.index c.in-Some.ensures.part c.in-Some.ensures.at

pub shrunk_at-requires-clause-place : goal.shrunk_at-requires-clause-place
shrunk_at-requires-clause-place g c =
    let file = c.args.dir.now in
    let i = c.in-Some.first.index in
    let p = c.place_of-place in
    let k = p.result.record in
    let left = p.result.attribute in
    let e = p.ensures in
    in-record file k left i e.record e.place e.attribute

pub returns-in_default-2-clause-taken : goal.returns-in_default-2-clause-taken
returns-in_default-2-clause-taken g c = λ told.
    let file = c.args.dir.now in
    let i = c.in-Some.first.index in
    let p = c.place_of-place in
    let k = p.result.record in
    let left = p.result.attribute in
    let e = p.ensures in
    let key = c.args.key.now in
    let old = view g.D.Disk c.args.mft.now in
    let marks = marks_of (mounted_of g.D.Disk c.args.mft.now) in
    let table = c.args.upcase in
    let order = name_order (fold_of table) in
    let not = subst (λ (o : Option (List ℕ)). IfNone o (RecordHeld file k (λ held. CanShrinkIn order is_name_key held.block left key → ⊥)))
    c.in_default-2.is c.in_ok-root.ensures.none in
    absurd (cannot-fail old file table key marks (c.requires.held told) (c.requires.can told)
    c.in-Some.first c.in-Some.ensures k left e.record e.place e.attribute
    (c.requires.entry told) not)

pub set_value-requires-clause-place : goal.set_value-requires-clause-place
set_value-requires-clause-place g c =
    let file = c.args.dir.now in
    let i = c.in-Some.first.index in
    let p = c.place_of-place in
    let k = p.result.record in
    let left = p.result.attribute in
    let e = p.ensures in
    let key = c.args.key.now in
    let order = name_order (fold_of c.args.upcase) in
    let after = c.as_slice.result.now in
    let shrunk : RecordHeld file k (λ held. ShrinksIn order held.block left key after) =
    subst (λ (bytes : List ℕ). RecordHeld file k (λ held. ShrinksIn order held.block left key bytes)) (sym c.as_slice.ensures)
    (subst (λ (o : Option (List ℕ)). IfSome o (λ bytes. RecordHeld file k (λ held. ShrinksIn order held.block left key bytes)))
    c.in-Some-2.is c.in_ok-root.ensures.shrunk) in
    let one = held.one file k left i e.record e.place e.attribute in
    let at = one-is file k left i e.record e.place e.attribute in
    to-held file k one at (HoldsValue left (length after)) (holds-shrunk order one left key after
    (of-held file k one at (λ held. left < length (attributes held.block)) (in-record file k left i e.record e.place e.attribute))
    (of-held file k one at (λ held. ShrinksIn order held.block left key after) shrunk))

pub returns-clause-taken : goal.returns-clause-taken
returns-clause-taken g c =
    let file = c.args.dir.now in
    let i = c.in-Some.first.index in
    let p = c.place_of-place in
    let k = p.result.record in
    let left = p.result.attribute in
    let e = p.ensures in
    let key = c.args.key.now in
    let order = name_order (fold_of c.args.upcase) in
    let after = c.as_slice.result.now in
    let shrunk : RecordHeld file k (λ held. ShrinksIn order held.block left key after) =
    subst (λ (bytes : List ℕ). RecordHeld file k (λ held. ShrinksIn order held.block left key bytes)) (sym c.as_slice.ensures)
    (subst (λ (o : Option (List ℕ)). IfSome o (λ bytes. RecordHeld file k (λ held. ShrinksIn order held.block left key bytes)))
    c.in-Some-2.is c.in_ok-root.ensures.shrunk) in
    let a = c.args.mft.now in
    let b = c.set_value.new.mft in
    let old = view g.D.Disk a in
    let new = view g.D.Disk b in
    let marks = marks_of (mounted_of g.D.Disk a) in
    let table = c.args.upcase in
    on_ok_weaker c.set_value.result (λ w told.
    let sets = written-of old file table key marks (c.requires.held told) (c.requires.can told)
    c.in-Some.first c.in-Some.ensures k left e.record e.place e.attribute
    (λ n. ChangesValue old new n left (λ value. after)) (w told (c.requires.can told).apart (c.requires.can told).whole) in
    exits-root old file table key marks (c.requires.held told) (c.requires.can told)
    c.in-Some.first c.in-Some.ensures k left e.record e.place e.attribute
    (c.requires.entry told) after shrunk new sets) c.set_value.ensures.set

pub returns-clause-ready : goal.returns-clause-ready
returns-clause-ready g c =
    let file = c.args.dir.now in
    let i = c.in-Some.first.index in
    let p = c.place_of-place in
    let k = p.result.record in
    let left = p.result.attribute in
    let e = p.ensures in
    let key = c.args.key.now in
    let order = name_order (fold_of c.args.upcase) in
    let after = c.as_slice.result.now in
    let shrunk : RecordHeld file k (λ held. ShrinksIn order held.block left key after) =
    subst (λ (bytes : List ℕ). RecordHeld file k (λ held. ShrinksIn order held.block left key bytes)) (sym c.as_slice.ensures)
    (subst (λ (o : Option (List ℕ)). IfSome o (λ bytes. RecordHeld file k (λ held. ShrinksIn order held.block left key bytes)))
    c.in-Some-2.is c.in_ok-root.ensures.shrunk) in
    let a = c.args.mft.now in
    let b = c.set_value.new.mft in
    let old = view g.D.Disk a in
    let new = view g.D.Disk b in
    let marks = marks_of (mounted_of g.D.Disk a) in
    let table = c.args.upcase in
    on_ok_weaker c.set_value.result (λ w told.
    let sets = written-of old file table key marks (c.requires.held told) (c.requires.can told)
    c.in-Some.first c.in-Some.ensures k left e.record e.place e.attribute
    (λ n. ChangesValue old new n left (λ value. after)) (w told (c.requires.can told).apart (c.requires.can told).whole) in
    subst (λ (m : Mounted). IsReady new (marks_of m)) (sym c.set_value.ensures.disk.mounted)
    (ready-now old file table key marks (c.requires.held told) (c.requires.can told)
    c.in-Some.first c.in-Some.ensures k left e.record e.place e.attribute
    (c.requires.entry told) after shrunk new sets)) c.set_value.ensures.set

pub returns-clause-held : goal.returns-clause-held
returns-clause-held g c =
    let file = c.args.dir.now in
    let i = c.in-Some.first.index in
    let p = c.place_of-place in
    let k = p.result.record in
    let left = p.result.attribute in
    let e = p.ensures in
    let key = c.args.key.now in
    let order = name_order (fold_of c.args.upcase) in
    let after = c.as_slice.result.now in
    let shrunk : RecordHeld file k (λ held. ShrinksIn order held.block left key after) =
    subst (λ (bytes : List ℕ). RecordHeld file k (λ held. ShrinksIn order held.block left key bytes)) (sym c.as_slice.ensures)
    (subst (λ (o : Option (List ℕ)). IfSome o (λ bytes. RecordHeld file k (λ held. ShrinksIn order held.block left key bytes)))
    c.in-Some-2.is c.in_ok-root.ensures.shrunk) in
    let a = c.args.mft.now in
    let b = c.set_value.new.mft in
    let old = view g.D.Disk a in
    let new = view g.D.Disk b in
    let marks = marks_of (mounted_of g.D.Disk a) in
    let table = c.args.upcase in
    ok-both c.set_value.result (λ w whole told.
    let sets = written-of old file table key marks (c.requires.held told) (c.requires.can told)
    c.in-Some.first c.in-Some.ensures k left e.record e.place e.attribute
    (λ n. ChangesValue old new n left (λ value. after)) (w told (c.requires.can told).apart (c.requires.can told).whole) in
    let can = c.requires.can told in
    held-now old file table key marks (c.requires.held told) (c.requires.can told)
    c.in-Some.first c.in-Some.ensures k left e.record e.place e.attribute
    (c.requires.entry told) after shrunk new sets c.set_value.new.file c.set_value.ensures.same
    (whole told can.apart can.whole (inside-written old file table key marks (c.requires.held told) (c.requires.can told)
    c.in-Some.first c.in-Some.ensures k left e.record e.place e.attribute)))
    c.set_value.ensures.set c.set_value.ensures.held

pub returns-clause-whole : goal.returns-clause-whole
returns-clause-whole g c =
    let file = c.args.dir.now in
    let i = c.in-Some.first.index in
    let p = c.place_of-place in
    let k = p.result.record in
    let left = p.result.attribute in
    let e = p.ensures in
    let key = c.args.key.now in
    let old = view g.D.Disk c.args.mft.now in
    let marks = marks_of (mounted_of g.D.Disk c.args.mft.now) in
    let table = c.args.upcase in
    on_ok_weaker c.set_value.result (λ whole told.
    let can = c.requires.can told in
    whole told can.apart can.whole (inside-written old file table key marks (c.requires.held told) (c.requires.can told)
    c.in-Some.first c.in-Some.ensures k left e.record e.place e.attribute)) c.set_value.ensures.held

pub returns-clause-places : goal.returns-clause-places
returns-clause-places g c =
    let file = c.args.dir.now in
    let i = c.in-Some.first.index in
    let p = c.place_of-place in
    let k = p.result.record in
    let left = p.result.attribute in
    let e = p.ensures in
    let a = c.args.mft.now in
    let b = c.set_value.new.mft in
    let one = held.one file k left i e.record e.place e.attribute in
    let at = one-is file k left i e.record e.place e.attribute in
    staged-own g.D.Disk (file_number file) one.number a b
    (λ told. record-own file k left i e.record e.place e.attribute (view g.D.Disk a) (c.requires.can told).whole)
    (subst (λ o. IfSome o (λ held. StagesOnly g.D.Disk (record_places (view g.D.Disk a).layout held.number) (stage_of g.D.Disk a)
    (stage_of g.D.Disk b))) at c.set_value.ensures.places)
