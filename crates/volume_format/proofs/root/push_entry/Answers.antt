use Rattle.std.proofs.Common.{◌++◌, ◌∷◌, [], ap, ◌∙◌}
use Rattle.record_bytes.specs.Entries.{name_entry, reference_bytes}
use Rattle.volume_format.proofs.root.push_entry.Goals as goal

pub returns : goal.returns
returns c =
    let entry = name_entry (reference_bytes c.args.number c.args.sequence) in
    c.in_ok-push.ensures.items ∙ ap (λ e. c.args.entries.now.items ++ e ∷ []) (
    c.from_vec.ensures ∙ c.in_ok-push_name_entry.ensures.entry ∙ ap (λ b. b ++ entry c.deref.result.now) c.new-entry.ensures.items
    ∙ ap entry (c.deref.ensures.value ∙ c.in_ok-name.ensures.value))
