-- What one record more adds to what is noted.
use Rattle.std.proofs.Common.{◌≡◌, ◌+◌, ℕ, Some, None, IfSome, sym, subst, arith}
use Rattle.std.specs.Prelude.{unwrap_or}
use Rattle.volume_def.specs.AttributesClause.{IsRightRecord, MeetsAttributes}
use Rattle.volume_def.specs.Files.{Records}
use Rattle.record_notes.specs.declared.facts.Facts.{Facts}
use Rattle.record_notes.specs.declared.heads.Heads.{Heads}
use Rattle.record_notes.specs.Facts.{FactsNote, RightNote}
use Rattle.record_notes.specs.Heads.{HeadsNote}
use Rattle.list_laws.specs.Least.{IsLeastBelow}
use Rattle.list_laws.proofs.LeastLaws.{below-fails, below-next}
use Rattle.record_notes.proofs.LimitLaws.{LongNote-unused}
use Rattle.record_notes.proofs.NameLaws.{NamesNote-unused}
use Rattle.record_notes.proofs.RecordsLaws.{OwnersNote-unused}
use Rattle.record_notes.proofs.SpreadLaws.{SpreadNote-unused}
use Rattle.record_notes.proofs.StreamLaws.{StreamsNote-unused}
use Rattle.record_notes.proofs.UnlistedLaws.{UnlistedNote-unused}
use Rattle.record_notes.proofs.UsedLaws.{UsedNote-unused}

-- of a number that is none of a record in use nothing is asked
pub MeetsAttributes-none : (records : Records) (n : ℕ) → records.record_at n ≡ None → MeetsAttributes records n
MeetsAttributes-none records n is = subst (λ o. IfSome o (IsRightRecord n)) (sym is) tt

-- a record more whose attributes are right
pub FactsNote-right : (records : Records) (n : ℕ) (old new : Facts) → new.first_wrong ≡ old.first_wrong → MeetsAttributes records n
    → (RightNote records n old → RightNote records (n + 1) new) → FactsNote records n old → FactsNote records (n + 1) new
FactsNote-right records n old new kept meets more note = record {
  attributes = subst (IsLeastBelow (MeetsAttributes records) (n + 1)) (sym kept)
      (below-next (MeetsAttributes records) n old.first_wrong meets note.attributes);
  right = λ all. more (note.right (λ k h. all k (omega arith)));
}

-- a record more whose attributes are wrong
pub FactsNote-wrong : (records : Records) (n : ℕ) (old new : Facts) → new.first_wrong ≡ Some (unwrap_or old.first_wrong n)
    → ¬ (MeetsAttributes records n) → FactsNote records n old → FactsNote records (n + 1) new
FactsNote-wrong records n old new now breaks note = record {
  attributes = subst (IsLeastBelow (MeetsAttributes records) (n + 1)) (sym now)
      (below-fails (MeetsAttributes records) n old.first_wrong breaks note.attributes);
  right = λ all. absurd (breaks (all n (omega arith)));
}

-- A record that is not in use adds nothing.

pub RightNote-unused : (records : Records) (n : ℕ) (facts : Facts) (heads : Heads) → records.record_at n ≡ None
    → (HeadsNote records n facts.heads → HeadsNote records (n + 1) heads) → RightNote records n facts
    → RightNote records (n + 1) (record facts { heads = heads })
RightNote-unused records n facts heads is more note = record {
  unlisted = UnlistedNote-unused records n facts.unlisted is note.unlisted;
  owners = OwnersNote-unused records n facts.owners is note.owners;
  used = UsedNote-unused records n facts.used is note.used;
  heads = more note.heads;
  names = NamesNote-unused records n facts.names is note.names;
  spread = SpreadNote-unused records n facts.spread is note.spread;
  streams = StreamsNote-unused records n facts.streams is note.streams;
  long = LongNote-unused records n facts.long is note.long;
}
