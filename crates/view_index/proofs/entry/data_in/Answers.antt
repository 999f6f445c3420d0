use Rattle.std.proofs.Common.{◌-◌, take, drop, ◌≡◌, ◌+◌, length, sym, ap, ◌∙◌, arith}
use Rattle.std.specs.Prelude.{slice_range}
use Rattle.vol_bytes.specs.Field.{u16_at}
use Rattle.index_node.proofs.NodeLaws.{u16_within}
use Rattle.list_laws.proofs.PieceLaws.{length_within}
use Rattle.ntfs_def.specs.Node.{has_child, item_at, key_len}
use Rattle.ntfs_def.specs.declared.index.NodeForm.TheVariants.{View}
use Rattle.index_tree.proofs.OwnEntries.{own_whole}
use Rattle.view_index.proofs.entry.data_in.Goals as goal

pub u16_at-offset-requires : goal.u16_at-offset-requires
u16_at-offset-requires c =
    let whole = own_whole View (has_child c.args.entry.now 0) c.args.entry.now c.requires in
    omega (arith, whole.header)

pub u16_at-len-requires : goal.u16_at-len-requires
u16_at-len-requires c =
    let whole = own_whole View (has_child c.args.entry.now 0) c.args.entry.now c.requires in
    omega (arith, whole.header)

pub u16_at-key-requires : goal.u16_at-key-requires
u16_at-key-requires c =
    let whole = own_whole View (has_child c.args.entry.now 0) c.args.entry.now c.requires in
    omega (arith, whole.header)

pub returns : goal.returns
unfolding item_at
returns c =
    let entry = c.args.entry.now in
    let whole = own_whole View (has_child entry 0) entry c.requires in
    let long : length (slice_range entry 16 (16 + key_len entry 0)) ≡ key_len entry 0 =
    length_within entry 16 (key_len entry 0) (omega (arith, whole.holds, whole.inside)) in
    let len : u16_at entry 2 ≡ u16_at (slice_range entry 0 8) 2 = sym (u16_within entry 0 8 2 (omega arith)) in
    let offset : u16_at entry 0 ≡ u16_at (slice_range entry 0 8) 0 = sym (u16_within entry 0 8 0 (omega arith)) in
    let count : c.from-2.result ≡ u16_at (slice_range entry 0 8) 2 = omega (arith, c.from-2.ensures, c.u16_at-len.ensures, len) in
    let skip : c.from.result ≡ u16_at (slice_range entry 0 8) 0 - 16 - length (slice_range entry 16 (16 + key_len entry 0)) =
    omega (
      arith,
      c.from.ensures,
      c.saturating_sub-from.ensures,
      c.saturating_sub.ensures,
      c.u16_at-offset.ensures,
      c.u16_at-key.ensures,
      offset,
      long,
    ) in
    c.range.ensures ∙ ap (λ n. take n (drop c.from.result c.rest_in-rest.result.now)) count
    ∙ ap (λ n. take (u16_at (slice_range entry 0 8) 2) (drop n c.rest_in-rest.result.now)) skip
    ∙ ap (λ rest. take (u16_at (slice_range entry 0 8) 2)
    (drop (u16_at (slice_range entry 0 8) 0 - 16 - length (slice_range entry 16 (16 + key_len entry 0))) rest)) c.rest_in-rest.ensures
