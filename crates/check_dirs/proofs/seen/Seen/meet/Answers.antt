use Rattle.std.proofs.Common.{◌≡◌, ◌<◌, ℕ, List, [], Some, None, true, false, length, get_or, ap, sym, ◌∙◌, subst, arith}
use Rattle.std.specs.Prelude.{IsTrue}
use Rattle.std.specs.declared.cmp.Ordering.{Ordering}
use Rattle.ntfs_def.specs.FileName.{is_name_key, key_units, link_of}
use Rattle.ntfs_def.specs.KeyOrder.{fold_of, name_order}
use Rattle.ntfs_def.specs.Node.{item_in}
use Rattle.check_dirs.specs.Entries.{IsPlace}
use Rattle.std.proofs.lemmas.List.{get_or_default}
use Rattle.check_dirs.proofs.OrderLaws.{valid_from_keys}
use Rattle.check_dirs.proofs.SeenLaws.{lacks_link, lacks_other, lacks_place, meets_link, place_units}
use Rattle.check_dirs.proofs.seen.Seen.meet.Goals as goal

pub returns-in_default-clause-unmet : goal.returns-in_default-clause-unmet
returns-in_default-clause-unmet c told links rest met same =
    let fold = fold_of c.args.order.now.upcase in
    let key = c.args.key.now in
    let side : List ℕ → Ordering = λ other. name_order fold other key in
    lacks_place fold c.args.self.now.entries.items c.requires.names c.args.file key
    (subst (λ entries. IsPlace side entries None) c.deref.ensures.value c.in_default.ensures) links rest same

pub returns-then-index-clause-unmet : goal.returns-then-index-clause-unmet
returns-then-index-clause-unmet c told links rest met same =
    let fold = fold_of c.args.order.now.upcase in
    let key = c.args.key.now in
    let side : List ℕ → Ordering = λ other. name_order fold other key in
    let place = c.in-Some.place in
    let entries = c.args.self.now.entries.items in
    let marks = c.args.self.now.met.items in
    let here : IsPlace side entries (Some place) = subst (λ all. IsPlace side all (Some place)) c.deref.ensures.value c.in-Some.ensures in
    let within : place < length marks = omega (arith, here.0, c.requires.marks) in
    let is : get_or marks place false ≡ true =
    get_or_default marks place false c.index.result.now within ∙ sym c.index.ensures ∙ c.if-index.true in
    lacks_other fold entries c.requires.names c.args.file key place here marks c.requires.marks is links rest met same

pub is_link-requires-clause-name : goal.is_link-requires-clause-name
is_link-requires-clause-name c =
    let fold = fold_of c.args.order.now.upcase in
    let side : List ℕ → Ordering = λ other. name_order fold other c.args.key.now in
    let place = c.in-Some.place in
    let entries = c.args.self.now.entries.items in
    let here : IsPlace side entries (Some place) = subst (λ all. IsPlace side all (Some place)) c.deref.ensures.value c.in-Some.ensures in
    let entry : c.as_slice.result.now ≡ get_or entries place [] =
    c.as_slice.ensures ∙ c.index-2.ensures ∙ get_or_default entries place c.index-2.result.now [] here.0 in
    subst (λ x. IsTrue (is_name_key (item_in x).key)) (sym entry)
    (valid_from_keys is_name_key entries c.requires.names.ordered.keys place here.0)

pub is_link-requires-clause-units : goal.is_link-requires-clause-units
is_link-requires-clause-units c =
    let fold = fold_of c.args.order.now.upcase in
    let key = c.args.key.now in
    let side : List ℕ → Ordering = λ other. name_order fold other key in
    let place = c.in-Some.place in
    let entries = c.args.self.now.entries.items in
    let here : IsPlace side entries (Some place) = subst (λ all. IsPlace side all (Some place)) c.deref.ensures.value c.in-Some.ensures in
    let entry : c.as_slice.result.now ≡ get_or entries place [] =
    c.as_slice.ensures ∙ c.index-2.ensures ∙ get_or_default entries place c.index-2.result.now [] here.0 in
    ap (λ x. key_units (item_in x).key) entry ∙ place_units fold entries c.requires.names c.args.file key place here

pub returns-then-not-is_link-clause-unmet : goal.returns-then-not-is_link-clause-unmet
returns-then-not-is_link-clause-unmet c told links rest met same =
    let fold = fold_of c.args.order.now.upcase in
    let key = c.args.key.now in
    let side : List ℕ → Ordering = λ other. name_order fold other key in
    let place = c.in-Some.place in
    let entries = c.args.self.now.entries.items in
    let here : IsPlace side entries (Some place) = subst (λ all. IsPlace side all (Some place)) c.deref.ensures.value c.in-Some.ensures in
    let entry : c.as_slice.result.now ≡ get_or entries place [] =
    c.as_slice.ensures ∙ c.index-2.ensures ∙ get_or_default entries place c.index-2.result.now [] here.0 in
    lacks_link fold entries c.requires.names c.args.file key place here
    (λ said.
    let f : false ≡ true = sym c.if-not-is_link.true ∙ c.is_link.ensures.1 (ap (λ x. link_of (item_in x)) entry ∙ said) in
    cc) links rest same

pub returns-clause-met : goal.returns-clause-met
returns-clause-met c told links met =
    let fold = fold_of c.args.order.now.upcase in
    let key = c.args.key.now in
    let side : List ℕ → Ordering = λ other. name_order fold other key in
    let place = c.in-Some.place in
    let entries = c.args.self.now.entries.items in
    let marks = c.args.self.now.met.items in
    let here : IsPlace side entries (Some place) = subst (λ all. IsPlace side all (Some place)) c.deref.ensures.value c.in-Some.ensures in
    let within : place < length marks = omega (arith, here.0, c.requires.marks) in
    let is : get_or marks place false ≡ false =
    get_or_default marks place false c.index.result.now within ∙ sym c.index.ensures ∙ c.if-index.false in
    let entry : c.as_slice.result.now ≡ get_or entries place [] =
    c.as_slice.ensures ∙ c.index-2.ensures ∙ get_or_default entries place c.index-2.result.now [] here.0 in
    meets_link fold entries c.requires.names c.args.file key place here marks c.requires.marks is
    (ap (λ x. link_of (item_in x)) (sym entry) ∙ c.is_link.ensures.0 c.if-not-is_link.false) links met
