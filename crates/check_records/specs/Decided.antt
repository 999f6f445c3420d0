-- What is known of the files of a volume before the clauses on them are named.
use Rattle.volume_def.specs.Sound.Clause.{Extents, Lists}
use Rattle.volume_def.specs.View.{VolumeView}
use Rattle.record_notes.specs.declared.facts.Facts.{Facts}
use Rattle.check_records.specs.declared.wrong_files.WrongFiles.{WrongFiles}
use Rattle.clause_order.specs.Refusals.{DecidesFirst}
use Rattle.check_records.specs.Views.{HasComeWith}

-- the check has come to the clause on lists, and these are the least base records that break it and the clause on extents
pub record AreDecided (view : VolumeView) (facts : Facts) (wrong : WrongFiles) : Type 0 where
  pub come : HasComeWith view 2 facts
  pub lists : DecidesFirst Lists view wrong.lists
  pub extents : DecidesFirst Extents view wrong.extents
