-- Texts that go to a sink by way of a buffer.
use Rattle.std.specs.Prelude.{◌≡◌, ℕ, List, ◌++◌, Option, Result, OnOk}
use Rattle.vol_disk.specs.Count.{CountsFault}
use Rattle.vol_disk.specs.Stream.{IsAppended}
use Rattle.vol_disk.specs.declared.Sink as sink

-- What a sink took and how often it failed, and what is held back for it.
pub record Output : Type 0 where
  pub got : Option (List ℕ)
  pub faults : ℕ
  pub held : List ℕ

abbrev pub output : {K : Type 0} → sink.Ghosts K → K → List ℕ → Output
output g out held = record { got = g.got out; faults = g.faults out; held = held }

-- The text came behind what was held back; the sink took a part of both from the front, and what it did not take is held back.
-- After a failure it is not told what is.
pub record Prints {T E : Type 0} (before after : Output) (text : List ℕ) (result : Result T E) : Type 0 where
  pub taken : List ℕ
  pub left : List ℕ
  pub parted : before.held ++ text ≡ taken ++ left
  pub got : IsAppended before.got taken after.got
  pub held : OnOk result (after.held ≡ left)
  pub faults : CountsFault result before.faults after.faults
