use Rattle.std.proofs.Common.{◌≡◌, ◌∷◌, [], Some, ℕ, slice_index, sym, ap, ◌∙◌}
use Rattle.std.specs.Option.{option_copied}
use Rattle.ntfs_def.specs.declared.kinds.TheConstants.{FILE_NAME}
use Rattle.ntfs_def.specs.Attribute.{value_of}
use Rattle.ntfs_def.specs.FileName.{name_in}
use Rattle.ntfs_def.specs.Record.{reference_in}
use Rattle.attr_view.specs.View.{attribute_of}
use Rattle.record_notes.specs.Names.{HeldName}
use Rattle.record_notes.proofs.NameLaws.{names_told-one}
use Rattle.record_notes.proofs.names.fact_in.Goals as goal

-- the name that is told by its parent reference and its namespace
abbrev held_at : ℕ → ℕ → ℕ → ℕ → HeldName
held_at holder file parent namespace = record {
  holder = holder;
  file = file;
  place = record { parent = reference_in parent; namespace = namespace };
}

pub returns : goal.returns
unfolding name_in
returns c right =
    let kind : (attribute_of c.args.attribute.now).kind ≡ FILE_NAME = sym c.kind.ensures ∙ c.if-kind-ne-FILE_NAME.false in
    let value : value_of (attribute_of c.args.attribute.now).body ≡ Some c.in_ok-value.value.now =
    sym c.value.ensures ∙ ap option_copied c.in_ok-value.was in
    let one = names_told-one c.args.holder c.args.file (attribute_of c.args.attribute.now) c.in_ok-value.value.now kind value in
    ap (λ value. held_at c.args.holder c.args.file value (slice_index c.in_ok-value.value.now 65) ∷ []) c.u64_at.ensures ∙ sym one
