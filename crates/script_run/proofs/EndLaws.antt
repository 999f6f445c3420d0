-- How drawn lines end, by the counts of faults.
use Rattle.std.proofs.Common.{◌≡◌, ◌≢◌, ℕ, false, Result, Ok, Err, refl, ap, subst}
use Rattle.std.specs.Prelude.{IsErrAnd}
use Rattle.vol_disk.specs.Count.{Rose}
use Rattle.script_run.specs.declared.end.ScriptEnd.{ScriptEnd}
use Rattle.script_run.specs.declared.end.ScriptEnd.TheVariants as end
use Rattle.script_run.specs.Ran.{is_broken}
use Rattle.script_run.specs.SoFar.{BlamesLines}
use Rattle.script_run.specs.World.{World}
use Rattle.script_run.specs.Draws.{CountsDraw}
use Rattle.script_run.specs.Told.{CountsMade}

-- lines that ended early printed nothing
pub made_early : (T : Type 0) (given : ScriptEnd) (disk disk' sink : ℕ) → CountsDraw {T = T} (Err given) disk disk'
    → CountsMade given disk disk' sink sink
made_early T end.Device disk disk' sink h = (h, refl)
made_early T end.Memory disk disk' sink h = (h, refl)
made_early T end.Done disk disk' sink h = absurd h
made_early T end.Source disk disk' sink h = absurd h
made_early T end.Sink disk disk' sink h = absurd h
made_early T end.TooMuch disk disk' sink h = absurd h

pub made_behind : (given : ScriptEnd) (first disk disk' sink sink' : ℕ) → disk ≡ first → CountsMade given disk disk' sink sink'
    → CountsMade given first disk' sink sink'
made_behind given first disk disk' sink sink' e h = subst (λ n. CountsMade given n disk' sink sink') e h

pub blames_made : (given : ScriptEnd) (old new : World) → new.source_faults ≡ old.source_faults
    → CountsMade given old.disk_faults new.disk_faults old.sink_faults new.sink_faults → BlamesLines given old new
blames_made end.Done old new s h = record { disk = h.0; source = s; sink = h.1 }
blames_made end.Sink old new s h = (h.0, s, h.1)
blames_made end.Memory old new s h = record { disk = h.0; source = s; sink = h.1 }
blames_made end.Device old new s h = (h.0, s, h.1)
blames_made end.Source old new s h = absurd h
blames_made end.TooMuch old new s h = absurd h

pub not_source : (given : ScriptEnd) (disk disk' sink sink' : ℕ) → CountsMade given disk disk' sink sink' → given ≢ end.Source
not_source given disk disk' sink sink' h e = subst (λ x. CountsMade x disk disk' sink sink') e h

pub not_much : (given : ScriptEnd) (disk disk' sink sink' : ℕ) → CountsMade given disk disk' sink sink' → given ≢ end.TooMuch
not_much given disk disk' sink sink' h e = subst (λ x. CountsMade x disk disk' sink sink') e h

pub quiet_made : (given : ScriptEnd) (disk disk' sink sink' : ℕ) → is_broken given ≡ false → CountsMade given disk disk' sink sink'
    → disk' ≡ disk
quiet_made end.Done disk disk' sink sink' e h = h.0
quiet_made end.Sink disk disk' sink sink' e h = h.0
quiet_made end.Memory disk disk' sink sink' e h = h.0
quiet_made end.Device disk disk' sink sink' e h = cc
quiet_made end.Source disk disk' sink sink' e h = absurd h
quiet_made end.TooMuch disk disk' sink sink' e h = absurd h

-- an error that is handed on
pub handed-on : {A : Type 0} (result : Result A ScriptEnd) (why : ScriptEnd) → IsErrAnd result (λ e. e ≡ why) → result ≡ Err why
handed-on (Ok x) why is = absurd is
handed-on (Err e) why is = ap Err is
