use Rattle.std.proofs.Common.{◌≡◌, ◌-◌, [], None, length, take, sym, ap, subst, ◌∙◌, arith}
use Rattle.vol_bytes.specs.Field.{u32_at}
use Rattle.ntfs_def.specs.Node.{Entry, entries_end}
use Rattle.index_takes.specs.ShrinksRoot.{ShrinksRoot}
use Rattle.index_takes.proofs.ShrinkLaws.{end-inside, end-is, end-low, its-len, len, shrinks}
use Rattle.index_takes.proofs.shrink.take_from_root.Goals as goal

abbrev nothing : Entry
nothing = record { item = record { head = []; key = []; rest = [] }; child = None }

pub u32_at-requires : goal.u32_at-requires
u32_at-requires c =
    let old = c.args.root.now in
    let r = c.requires in
    let low = end-low old c.args.place r.entry r.leaf r.short in
    let inside = end-inside old c.args.place r.entry r.leaf r.short in
    omega (arith, low, inside)

pub overflow_sub-used : goal.overflow_sub-used
overflow_sub-used c =
    let old = c.args.root.now in
    let r = c.requires in
    let low = end-low old c.args.place r.entry r.leaf r.short in
    let is = end-is old c.args.place r.entry r.leaf r.short in
    let one = c.entry_len-len.ensures r.entry.said r.entry.is nothing in
    let its = its-len old c.args.place r.entry r.leaf r.short r.entry.said r.entry.is nothing in
    let used = c.u32_at.ensures in
    omega (arith, low, is, one, its, used)

pub overflow_sub-short : goal.overflow_sub-short
overflow_sub-short c =
    let old = c.args.root.now in
    let r = c.requires in
    let low = end-low old c.args.place r.entry r.leaf r.short in
    let inside = end-inside old c.args.place r.entry r.leaf r.short in
    let one = c.entry_len-len.ensures r.entry.said r.entry.is nothing in
    let its = its-len old c.args.place r.entry r.leaf r.short r.entry.said r.entry.is nothing in
    omega (arith, low, inside, one, its)

pub overflow_sub-short-2 : goal.overflow_sub-short-2
overflow_sub-short-2 c =
    let old = c.args.root.now in
    let r = c.requires in
    let low = end-low old c.args.place r.entry r.leaf r.short in
    let inside = end-inside old c.args.place r.entry r.leaf r.short in
    let one = c.entry_len-len.ensures r.entry.said r.entry.is nothing in
    let its = its-len old c.args.place r.entry r.leaf r.short r.entry.said r.entry.is nothing in
    omega (arith, low, inside, one, its)

pub tighten-requires-clause-long : goal.tighten-requires-clause-long
tighten-requires-clause-long c =
    let old = c.args.root.now in
    let r = c.requires in
    let low = end-low old c.args.place r.entry r.leaf r.short in
    let inside = end-inside old c.args.place r.entry r.leaf r.short in
    let same = c.remove_at.ensures.ok.header.len in
    omega (arith, low, inside, same)

pub tighten-requires-clause-used : goal.tighten-requires-clause-used
tighten-requires-clause-used c =
    let old = c.args.root.now in
    let r = c.requires in
    let inside = end-inside old c.args.place r.entry r.leaf r.short in
    let is = end-is old c.args.place r.entry r.leaf r.short in
    let used = c.u32_at.ensures in
    omega (arith, inside, is, used, r.short)

pub returns-clause-shrinks : goal.returns-clause-shrinks
returns-clause-shrinks c =
    let old = c.args.root.now in
    let r = c.requires in
    let after = c.tighten.new.root in
    let size = len old c.args.place r.entry r.leaf r.short in
    let low = end-low old c.args.place r.entry r.leaf r.short in
    let is = end-is old c.args.place r.entry r.leaf r.short in
    let one : c.entry_len-len.result ≡ size =
    c.entry_len-len.ensures r.entry.said r.entry.is nothing
    ∙ its-len old c.args.place r.entry r.leaf r.short r.entry.said r.entry.is nothing in
    let read = c.u32_at.ensures in
    let used : u32_at after 0x14 ≡ entries_end old - size - 0x10 = c.tighten.ensures.used ∙ omega (arith, low, is, one, read) in
    let room : u32_at after 0x18 ≡ length old - size - 0x10 = c.tighten.ensures.room ∙ ap (λ n. length old - n - 0x10) one in
    subst (λ n. ShrinksRoot old (take (length old - n) after) c.args.place) (sym one)
    (shrinks old c.args.place r.entry r.leaf r.short c.remove_at.new.node c.remove_at.ensures.ok c.remove_at.ensures.pieces after
    c.tighten.ensures.rest used room)
