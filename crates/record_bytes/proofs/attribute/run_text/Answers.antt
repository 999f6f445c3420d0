use Rattle.std.proofs.Common.{◌≡◌, ◌++◌, take, arith, ◌≤◌, ◌∙◌, ap, length}
use Rattle.std.proofs.lemmas.List.{length-take-le}
use Rattle.ntfs_def.specs.Rounded.{up_to_8}
use Rattle.record_bytes.proofs.ExtentLaws.{IsRunTextOf-put, run_text-short}
use Rattle.record_bytes.proofs.attribute.run_text.Goals as goal

pub encode_into-len-requires : goal.encode_into-len-requires
encode_into-len-requires c text is =
    let short = run_text-short c.args.run _ c.requires.few c.requires.reach c.in_ok-list.ensures text is in omega arith

pub up_to_8-requires : goal.up_to_8-requires
up_to_8-requires c =
    let short = run_text-short c.args.run _ c.requires.few c.requires.reach c.in_ok-list.ensures _ c.encode_into-len.ensures.written.is in
    omega (arith, c.encode_into-len.ensures.written.ends, short)

pub returns : goal.returns
returns c =
    let short = run_text-short c.args.run _ c.requires.few c.requires.reach c.in_ok-list.ensures _ c.encode_into-len.ensures.written.is in
    let len : c.encode_into-len.result ≤ 18 = omega (arith, c.encode_into-len.ensures.written.ends, short) in
    let all : c.extend_from_slice.new.self.items ≡ take (up_to_8 c.encode_into-len.result) c.encode_into-len.new.out =
    c.in_ok-extend_from_slice.ensures.items ∙ ap (λ t. t ++ take c.up_to_8.result c.encode_into-len.new.out) c.new-text.ensures.items
    ∙ ap (λ k. take k c.encode_into-len.new.out) c.up_to_8.ensures in
    let long : length c.encode_into-len.new.out ≡ 24 = c.encode_into-len.auto.out in
    let count : length c.extend_from_slice.new.self.items ≡ up_to_8 c.encode_into-len.result =
    ap length all ∙ length-take-le _ c.encode_into-len.new.out (omega (arith, long)) in
    record {
      text = IsRunTextOf-put c.args.run _ c.encode_into-len.new.out _ c.encode_into-len.result c.in_ok-list.ensures
          c.encode_into-len.ensures.written (omega arith) all;
      multiple = omega (arith, count);
      short = omega (arith, count);
    }
