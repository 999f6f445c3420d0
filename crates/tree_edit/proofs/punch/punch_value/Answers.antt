use Rattle.std.proofs.Common.{◌∙◌}
use Rattle.std.proofs.lemmas.Result.{on_ok_weaker}
use Rattle.mft_table.specs.Mft.{view}
use Rattle.tree_edit.proofs.PunchLaws.{punched-of, put-of}
use Rattle.tree_edit.proofs.punch.punch_value.Goals as goal

pub put_bytes-requires-clause-can : goal.put_bytes-requires-clause-can
put_bytes-requires-clause-can g c told =
    put-of (view g.D.Disk c.args.mft.now) c.args.found.now c.args.number c.args.from c.args.len (c.requires.can told) c.min-at.result
    c.min-end.result c.deref.result.now c.min-at.ensures c.min-end.ensures
    (c.deref.ensures.value ∙ c.in_ok-zeros.ensures.items_if_clones_equal (λ y h. h))

pub returns-clause-punched : goal.returns-clause-punched
returns-clause-punched g c =
    on_ok_weaker c.put_bytes.result (λ put told can.
    punched-of (view g.D.Disk c.args.mft.now) c.args.found.now c.args.number c.args.from c.args.len can c.min-at.result c.min-end.result
    c.deref.result.now c.min-at.ensures c.min-end.ensures
    (c.deref.ensures.value ∙ c.in_ok-zeros.ensures.items_if_clones_equal (λ y h. h)) (view g.D.Disk c.put_bytes.new.mft) c.args.times.now
    c.args.flags (put told)) c.put_bytes.ensures.put
