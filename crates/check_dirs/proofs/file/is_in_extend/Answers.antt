use Rattle.std.proofs.Common.{◌≡◌, ◌≢◌, ◌%◌, ◌^◌, ◌&&◌, Some, ap, subst, sym, ◌∙◌}
use Rattle.std.specs.Prelude.{IsSomeAnd, IsTrue}
use Rattle.std.specs.Option.{option_copied}
use Rattle.std.specs.Str.{bytes_eq}
use Rattle.std.proofs.lemmas.Bool.{eq-eqb, ne_eqb, true≢false}
use Rattle.vol_bytes.specs.Field.{u64_at}
use Rattle.ntfs_def.specs.declared.kinds.TheConstants.{FILE_NAME}
use Rattle.ntfs_def.specs.declared.records.TheConstants.{EXTEND}
use Rattle.ntfs_def.specs.Attribute.{value_of}
use Rattle.ntfs_def.specs.FileName.{is_name_key, key_units}
use Rattle.attr_view.specs.View.{attribute_of}
use Rattle.check_dirs.proofs.FileLaws.{letters-tested, right-value, standing-value}
use Rattle.check_dirs.proofs.file.is_in_extend.Goals as goal

pub returns-then-not-is_name_key : goal.returns-then-not-is_name_key
returns-then-not-is_name_key c = λ right.
    let a = attribute_of c.args.attribute.now in
    let kind : a.kind ≡ FILE_NAME = sym c.kind.ensures ∙ c.if-kind-ne-FILE_NAME.false in
    let value : value_of a.body ≡ Some c.in-Some.key.now = sym c.value.ensures ∙ ap option_copied c.in-Some.is in
    let held : IsTrue (is_name_key c.in-Some.key.now) =
    subst (λ o. IsSomeAnd o (λ v. IsTrue (is_name_key v))) value (right-value a right kind) in
    absurd (true≢false (sym held ∙ (sym c.is_name_key.ensures ∙ c.if-not-is_name_key.true)))

pub returns-then-number_in-ne-EXTEND : goal.returns-then-number_in-ne-EXTEND
returns-then-number_in-ne-EXTEND c = λ right.
    let a = attribute_of c.args.attribute.now in
    let key = c.in-Some.key.now in
    let kind : a.kind ≡ FILE_NAME = sym c.kind.ensures ∙ c.if-kind-ne-FILE_NAME.false in
    let value : value_of a.body ≡ Some key = sym c.value.ensures ∙ ap option_copied c.in-Some.is in
    let number : c.number_in.result ≡ u64_at key 0 % 2 ^ 48 = c.number_in.ensures ∙ ap (λ n. n % 2 ^ 48) c.u64_at.ensures in
    let other = subst (λ n. n ≢ EXTEND) number c.if-number_in-ne-EXTEND.true in
    sym (standing-value c.args.letters.now a key kind value
    ∙ ap (λ b. b && bytes_eq (key_units key) c.args.letters.now) (ne_eqb (u64_at key 0 % 2 ^ 48) EXTEND other))

pub returns : goal.returns
returns c = λ right.
    let a = attribute_of c.args.attribute.now in
    let key = c.in-Some.key.now in
    let kind : a.kind ≡ FILE_NAME = sym c.kind.ensures ∙ c.if-kind-ne-FILE_NAME.false in
    let value : value_of a.body ≡ Some key = sym c.value.ensures ∙ ap option_copied c.in-Some.is in
    let number : c.number_in.result ≡ u64_at key 0 % 2 ^ 48 = c.number_in.ensures ∙ ap (λ n. n % 2 ^ 48) c.u64_at.ensures in
    let there : u64_at key 0 % 2 ^ 48 ≡ EXTEND = sym number ∙ c.if-number_in-ne-EXTEND.false in
    letters-tested key c.args.letters.now c.has_letters.result c.has_letters.ensures
    ∙ sym (standing-value c.args.letters.now a key kind value
    ∙ ap (λ b. b && bytes_eq (key_units key) c.args.letters.now) (eq-eqb (u64_at key 0 % 2 ^ 48) EXTEND there))
