use Rattle.volume_def.proofs.ListClauseLaws.{HasList-edit, HasList-move, HasList-read, HasList-rewrite, HasList-write}
use Rattle.volume_def.proofs.clause_laws.list_clause_laws.Goals as goal

pub returns : goal.returns
returns c = record {
  read = HasList-read;
  edit = HasList-edit;
  moved = HasList-move;
  rewrite = HasList-rewrite;
  write = HasList-write;
}
