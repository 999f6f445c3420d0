use Rattle.std.proofs.Common.{ap, ◌∙◌, ◌++◌, List, ℕ, length, ◌≡◌, ◌∷◌, [], ◌/◌, ◌+◌, append_assoc}
use Rattle.byteorder.specs.Endian.{little_bytes}
use Rattle.ntfs_def.specs.declared.sizes.Sizes.{Sizes}
use Rattle.record_bytes.specs.AttributeBytes.{extent_header, runs_at}
use Rattle.record_bytes.proofs.attribute.push_extent_header.Goals as goal

abbrev after : List ℕ → List ℕ → List ℕ
after more x = x ++ more

-- what the pushes leave
abbrev built : List ℕ → ℕ → List ℕ → ℕ → Sizes → ℕ → ℕ → List ℕ
built old kind name id sizes len place =
    ((((((((((old ++ little_bytes 4 kind) ++ little_bytes 4 len) ++ (1 ∷ length name / 2 ∷ 64 ∷ 0 ∷ 0 ∷ 0 ∷ [])) ++ little_bytes 2 id)
    ++ little_bytes 8 sizes.first) ++ little_bytes 8 sizes.last) ++ little_bytes 2 place) ++ (0 ∷ 0 ∷ 0 ∷ 0 ∷ 0 ∷ 0 ∷ []))
    ++ little_bytes 8 sizes.allocated) ++ little_bytes 8 sizes.real) ++ little_bytes 8 sizes.initialized

-- .. is the header behind what was there
built-header : (old : List ℕ) (kind : ℕ) (name : List ℕ) (id : ℕ) (sizes : Sizes) (len : ℕ)
    → built old kind name id sizes (runs_at name + len) (runs_at name) ≡ old ++ extent_header kind name id sizes len
built-header old kind name id sizes len = simp append_assoc

pub returns : goal.returns
returns c = record {
  bytes =
      let place : 64 + c.up_to_8-place.result ≡ runs_at c.args.name.now = ap (λ k. 64 + k) c.up_to_8-place.ensures in
      c.in_ok-push_u64-5.ensures.bytes ∙ ap (after (little_bytes 8 c.args.sizes.initialized)) (
      c.in_ok-push_u64-4.ensures.bytes ∙ ap (after (little_bytes 8 c.args.sizes.real)) (
      c.in_ok-push_u64-3.ensures.bytes ∙ ap (after (little_bytes 8 c.args.sizes.allocated)) (
      c.in_ok-extend_from_slice-2.ensures.items ∙ ap (after (0 ∷ 0 ∷ 0 ∷ 0 ∷ 0 ∷ 0 ∷ [])) (
      c.in_ok-push_u16-2.ensures ∙ ap (after (little_bytes 2 (64 + c.up_to_8-place.result))) (
      c.in_ok-push_u64-2.ensures.bytes ∙ ap (after (little_bytes 8 c.args.sizes.last)) (
      c.in_ok-push_u64.ensures.bytes ∙ ap (after (little_bytes 8 c.args.sizes.first)) (
      c.in_ok-push_u16.ensures ∙ ap (after (little_bytes 2 c.args.id)) (
      c.in_ok-extend_from_slice.ensures.items ∙ ap (after (1 ∷ length c.args.name.now / 2 ∷ 64 ∷ 0 ∷ 0 ∷ 0 ∷ [])) (
      c.in_ok-push_u32-2.ensures ∙ ap (after (little_bytes 4 (64 + c.up_to_8-place.result + c.args.text_len))) (
      c.in_ok-push_u32.ensures))))))))))
      ∙ ap (λ k. built c.args.text.now.items c.args.kind c.args.name.now c.args.id c.args.sizes (k + c.args.text_len) k) place
      ∙ built-header c.args.text.now.items c.args.kind c.args.name.now c.args.id c.args.sizes c.args.text_len;
  fits = record {
    allocated = c.push_u64-3.ensures.fits;
    real = c.push_u64-4.ensures.fits;
    initialized = c.push_u64-5.ensures.fits;
    first = c.push_u64.ensures.fits;
    last = c.push_u64-2.ensures.fits;
  };
}
