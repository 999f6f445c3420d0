-- A step of a command that reads, and of one that is not built.
use Rattle.std.proofs.Common.{◌≡◌, inl, inr, ℕ, true, false, Result, Ok, Err, refl, sym, ap, ◌∙◌}
use Rattle.tree_model.specs.Effects.{after, makes_file, opens_after, tree_after}
use Rattle.tree_model.specs.Shown.{Tells}
use Rattle.tree_model.specs.Refusals.{Facts, is_reading, outcome}
use Rattle.tree_model.specs.Staging.{is_built}
use Rattle.tree_model.specs.Step.{Step, answered, due, reply_of}
use Rattle.tree_model.specs.Subjects.{Located, Machine}
use Rattle.tree_model.specs.declared.command.Command.{Command}
use Rattle.tree_model.specs.declared.command.Command.TheVariants as c
use Rattle.tree_model.specs.declared.reply.Answer.{Answer}
use Rattle.tree_model.specs.declared.reply.No.{No}
use Rattle.tree_model.specs.declared.reply.No.TheVariants as no
use Rattle.tree_model.specs.declared.reply.Reply.TheVariants as reply

-- commands that are not built are refused
pub unbuilt-step : (facts : Facts) (m : Machine) (session : ℕ) (command : Command) → is_built command ≡ false
    → Step facts m session command (reply.No no.Unbuilt) m
unfolding due outcome
unbuilt-step facts m session command unbuilt = record { replied = inl (rw unbuilt refl); moved = refl }

-- those that read leave the state as it was, and make no file
stays : (m : Machine) (session : ℕ) (command : Command) (at : Located) → is_reading command ≡ true
    → (makes_file command ≡ false) × (m ≡ after m session command at 0)
unfolding tree_after opens_after
stays m session (c.Ls path) at e = (refl, refl)
stays m session (c.Stat path) at e = (refl, refl)
stays m session (c.Links path) at e = (refl, refl)
stays m session (c.Cat path stream) at e = (refl, refl)
stays m session (c.Read path stream from len) at e = (refl, refl)
stays m session (c.Streams path) at e = (refl, refl)
stays m session (c.Attr path) at e = (refl, refl)
stays m session (c.Sec path) at e = (refl, refl)
stays m session (c.Sd id) at e = (refl, refl)
stays m session (c.Reparse path) at e = (refl, refl)
stays m session (c.Objid path) at e = (refl, refl)
stays m session c.Df at e = (refl, refl)
stays m session (c.Hread handle from len) at e = (refl, refl)
stays m session (c.Time now) at e = cc
stays m session (c.Create path) at e = cc
stays m session (c.Mkdir path) at e = cc
stays m session (c.Rm path) at e = cc
stays m session (c.Rmdir path) at e = cc
stays m session (c.Ln old new) at e = cc
stays m session (c.Mv old new) at e = cc
stays m session (c.Write path stream from bytes) at e = cc
stays m session (c.Truncate path stream size) at e = cc
stays m session (c.Punch path stream from len) at e = cc
stays m session (c.Rmstream path name) at e = cc
stays m session (c.Setattr path flags) at e = cc
stays m session (c.Setsec path id) at e = cc
stays m session (c.Mkreparse path tag bytes) at e = cc
stays m session (c.Rmreparse path) at e = cc
stays m session (c.Open path stream access share) at e = cc
stays m session (c.Hwrite handle from bytes) at e = cc
stays m session (c.Close handle) at e = cc

-- what was answered was found
found : (facts : Facts) (m : Machine) (session : ℕ) (command : Command) (r : Result Located No) (answer : Answer)
    → answered facts m session command r ≡ Ok answer → (at : Located) × (r ≡ Ok at)
found facts m session command (Ok at) answer e = (at, refl)
found facts m session command (Err refused) answer e = cc

pub shown-step : (facts : Facts) (m : Machine) (session : ℕ) (command : Command) (result : Result Answer No)
    → is_reading command ≡ true → Tells (due facts m session command) result → Step facts m session command (reply_of result) m
unfolding due
shown-step facts m session command (Ok answer) reads tells =
    let at = found facts m session command (outcome facts m session command) answer tells in
    let same = stays m session command at.0 reads in
    record {
      replied = inl (sym (ap reply_of tells));
      moved = record {
        at = at.0;
        found = at.1;
        file = 0;
        fresh = λ makes. let e = sym same.0 ∙ makes in cc;
        moved = same.1;
      };
    }
shown-step facts m session command (Err refused) reads (inl tells) = record { replied = inl (sym (ap reply_of tells)); moved = refl }
shown-step facts m session command (Err refused) reads (inr memory) =
    record { replied = inr (ap reply.No memory); moved = refl }
