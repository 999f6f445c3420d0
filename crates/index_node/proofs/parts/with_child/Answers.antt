use Rattle.std.proofs.Common.{◌≡◌, ℕ, ◌<◌, List, [], ◌∷◌, ◌++◌, length, take, drop, get_or, refl, ap, sym, subst, ◌∙◌, arith}
use Rattle.std.proofs.lemmas.List.{get_or_append_left, get_or-take, length-take-le}
use Rattle.ntfs_def.specs.Node.{has_child}
use Rattle.index_node.specs.Edit.{LeadsTo}
use Rattle.index_node.proofs.LayOutLaws.{entry_facts}
use Rattle.index_node.proofs.LeadLaws.{leads_to}
use Rattle.index_node.proofs.parts.with_child.Goals as goal

pub base_len-base-requires : goal.base_len-base-requires
base_len-base-requires c = (entry_facts c.args.form (has_child c.args.entry.now 0) c.args.entry.now c.requires).1

pub lead_to-requires-clause-low : goal.lead_to-requires-clause-low
lead_to-requires-clause-low c =
    let f = (entry_facts c.args.form (has_child c.args.entry.now 0) c.args.entry.now c.requires).1 in
    omega (arith, c.base_len-base.ensures)

take-append : (xs ys : List ℕ) → take (length xs) (xs ++ ys) ≡ xs
take-append [] ys = refl
take-append (x ∷ xs) ys = ap (λ zs. x ∷ zs) (take-append xs ys)

byte_of : (entry : List ℕ) (base k : ℕ) → k < base → length (take base entry) ≡ base → (zeros : List ℕ) {now items bytes : List ℕ} →
    now ≡ items → items ≡ bytes ++ zeros
    → bytes ≡ take base entry → get_or now k 0 ≡ get_or entry k 0
byte_of entry base k lt n zeros {now} {items} {bytes} e f g =
    ap (λ xs. get_or xs k 0) (e ∙ f ∙ ap (λ xs. xs ++ zeros) g)
    ∙ get_or_append_left (take base entry) zeros 0 k (omega (arith, n, lt))
    ∙ get_or-take base entry k 0 (omega (arith, n, lt))

pub returns-clause-leads : goal.returns-clause-leads
returns-clause-leads c =
    let entry = c.args.entry.now in
    let base = c.base_len-base.result in
    let old = c.deref_mut.result.now in
    let new = c.lead_to.new.bytes in
    let a = c.in_ok-bytes.ensures.len in
    let b = c.in_ok-extend_from_slice.ensures.len in
    let at_base = c.base_len-base.ensures in
    let n : length (take base entry) ≡ base = length-take-le base entry (omega (arith, at_base)) in
    let s : c.extend_from_slice.new.self.len ≡ length new = omega (arith, a, b, n, c.lead_to.ensures.len) in
    let is : c.from_vec.result ≡ new = c.from_vec.ensures ∙ ap (λ n. take n (new ++ drop (length new)
    c.extend_from_slice.new.self.items)) s ∙ take-append new (drop (length new) c.extend_from_slice.new.self.items) in
    subst (LeadsTo c.args.form entry c.args.vcn) (sym is)
    (leads_to c.args.form entry (has_child entry 0) (record {
      one = c.requires;
      short = omega (arith, c.if-base-gt632.false, at_base);
    }) base c.args.vcn c.base_len-base.ensures old new
    (λ k lt.
    byte_of entry base k lt n (0 ∷ 0 ∷ 0 ∷ 0 ∷ 0 ∷ 0 ∷ 0 ∷ 0 ∷ []) c.deref_mut.ensures.value c.in_ok-extend_from_slice.ensures.items
    c.in_ok-bytes.ensures.items)
    c.lead_to.ensures)

pub returns-clause-some : goal.returns-clause-some
returns-clause-some c = (λ e. omega (arith, c.base_len-base.ensures, c.if-base-gt632.false), λ le. refl)

pub returns-then-base-gt632-clause-some : goal.returns-then-base-gt632-clause-some
returns-then-base-gt632-clause-some c =
    let long = c.if-base-gt632.true in
    let sum = c.base_len-base.ensures in
    (λ e. absurd (cc), λ le. absurd (omega arith))
