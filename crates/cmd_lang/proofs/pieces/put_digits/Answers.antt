use Rattle.std.proofs.Common.{◌≡◌, ◌++◌, sym, ◌∙◌}
use Rattle.hex.specs.Hex.{encode_lower}
use Rattle.cmd_lang.proofs.OutputLaws.{rest_end, rest_more, rest_stop}
use Rattle.cmd_lang.proofs.TextLaws.{encode_none, encode_parts}
use Rattle.cmd_lang.proofs.pieces.put_digits.Goals as goal

pub returns-in_err-put_chunk : goal.returns-in_err-put_chunk
returns-in_err-put_chunk g c =
    let parts : encode_lower c.chunks.rest.now ≡ encode_lower c.split_at.result.0.now ++ encode_lower c.split_at.result.1.now =
    rw (c.split_at.ensures.front, c.split_at.ensures.back) (encode_parts c.min.result c.chunks.rest.now) in
    rest_stop encode_lower c.args.bytes.now c.chunks.rest.now c.split_at.result.1.now
    (encode_lower c.split_at.result.0.now) _ _ _ c.in_err-put_chunk.field-0.0
    c.from_residual.result parts c.chunks.invariant c.from_residual.ensures.0 c.in_err-put_chunk.ensures

pub chunks-preserved : goal.chunks-preserved
chunks-preserved g c =
    let parts : encode_lower c.chunks.rest.now ≡ encode_lower c.split_at.result.0.now ++ encode_lower c.split_at.result.1.now =
    rw (c.split_at.ensures.front, c.split_at.ensures.back) (encode_parts c.min.result c.chunks.rest.now) in
    rest_more encode_lower c.args.bytes.now c.chunks.rest.now c.split_at.result.1.now
    (encode_lower c.split_at.result.0.now) _ _ _ _ parts c.chunks.invariant c.in_ok-put_chunk.ensures

pub returns : goal.returns
returns g c = rest_end encode_lower c.args.bytes.now c.chunks.rest.now _ _ (encode_none c.chunks.rest.now (sym c.is_empty.ensures
    ∙ c.chunks-test.false)) c.chunks.invariant
