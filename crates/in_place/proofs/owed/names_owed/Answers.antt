use Rattle.ntfs_def.specs.declared.kinds.TheConstants.{INDEX_ROOT}
use Rattle.std.proofs.Common.{codes, refl}
use Rattle.in_place.proofs.KeptInPlace as keeps
use Rattle.in_place.proofs.OwedInPlace as laws
use Rattle.in_place.proofs.owed.names_owed.Goals as goal

pub returns : goal.returns
returns c = record {
  sequence = laws.sequence-same;
  names = laws.names-but;
  points = λ changed old new w apart bases readable readable_new names free.
      laws.keys-kept changed old new w (codes "$Reparse") (codes "$R") names (λ f. free f INDEX_ROOT refl)
      (keeps.kept-room changed old new w apart.owners apart.some apart.unnamed) bases readable readable_new free refl;
  object_ids = λ changed old new w apart bases readable readable_new names free.
      laws.keys-kept changed old new w (codes "$ObjId") (codes "$O") names (λ f. free f INDEX_ROOT refl)
      (keeps.kept-room changed old new w apart.owners apart.some apart.unnamed) bases readable readable_new free refl;
}
