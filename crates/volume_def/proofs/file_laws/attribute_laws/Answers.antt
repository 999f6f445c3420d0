use Rattle.volume_def.proofs.AttributeValues.{attribute_value-frame, attribute_value-said}
use Rattle.volume_def.proofs.file_laws.attribute_laws.Goals as goal

pub returns : goal.returns
returns c = record { said = attribute_value-said; frame = attribute_value-frame }
