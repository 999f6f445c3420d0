-- What `df` shows behind the last line, and what is printed of it.
use Rattle.std.proofs.Common.{◌≡◌, ◌+◌, ◌≤◌, ℕ, false, List, [], ◌++◌, Option, Ok, refl, sym, ap, ◌∙◌, subst, inl, inr, arith}
use Rattle.std.specs.Prelude.{is_some}
use Rattle.vol_disk.specs.declared.Disk as disk
use Rattle.vol_disk.specs.Stream.{IsAppended, IsAppendedPart}
use Rattle.volume_def.specs.View.{VolumeView}
use Rattle.cmd_lang.specs.Printed.{answer_text, made_text}
use Rattle.tree_model.specs.Answers.{answer_of}
use Rattle.tree_model.specs.Effects.{opens_after, tree_after}
use Rattle.tree_model.specs.Refusals.{Facts}
use Rattle.tree_model.specs.Step.{Step, answered, due, reply_of}
use Rattle.tree_model.specs.Subjects.{Machine}
use Rattle.tree_model.specs.declared.command.Command.TheVariants as c
use Rattle.tree_model.specs.declared.reply.Answer.{Answer}
use Rattle.tree_model.specs.declared.reply.Answer.TheVariants as a
use Rattle.tree_model.specs.declared.reply.Reply.{Reply}
use Rattle.tree_model.specs.declared.reply.Reply.TheVariants as reply
use Rattle.session_def.specs.Session.{Turn, last_of}
use Rattle.session_def.specs.State.{State}
use Rattle.mark_write.specs.declared.flag.Flag.{Flag}
use Rattle.volume_mark.specs.Closing.{MarkStands}
use Rattle.tree_ops.specs.declared.volume.Volume.{Volume}
use Rattle.tree_ops.specs.Runs.{Applied, Ready, machine_under}
use Rattle.tree_ops.specs.Volumes.{VolumeStill, disk_under, mark_of}
use Rattle.script_run.specs.declared.end.ScriptEnd.{ScriptEnd}
use Rattle.script_run.specs.declared.end.ScriptEnd.TheVariants as end
use Rattle.script_run.specs.Drawn.{IsSummary, drawn_lines, nos_of, oks_of}
use Rattle.script_run.specs.Says.{lines_of, of_seed}
use Rattle.script_run.specs.SoFar.{RanLines}
use Rattle.script_run.specs.declared.tally.Tally.{Tally}
use Rattle.script_run.specs.Draws.{Drew}
use Rattle.script_run.specs.Told.{Printed, StillReady, Tells}

-- it changes nothing of the machine
df-moves : (facts : Facts) (m : Machine) (given : Reply) (next : Machine) → Step facts m 0 c.Df given next → next ≡ m
unfolding tree_after opens_after
df-moves facts m (reply.Ok answer) next s = s.moved.moved
df-moves facts m (reply.No refused) next s = s.moved
df-moves facts m reply.Device next s = absurd s.moved

-- it shows what is free
df-shows : (facts : Facts) (m : Machine) (answer : Answer) (next : Machine) → Step facts m 0 c.Df (reply.Ok answer) next
    → answer ≡ a.Df facts.clusters facts.free facts.records facts.free_records
unfolding due answer_of
df-shows facts m answer next s = elim s.replied [
  | inl e ↦
      let shown : reply.Ok answer ≡ reply.Ok (a.Df facts.clusters facts.free facts.records facts.free_records) =
      e ∙ ap (λ o. reply_of (answered facts m 0 c.Df o)) s.moved.found in cc
  | inr e ↦ absurd (cc)
]

pub still_ready : {D : Type 0} (g : disk.Ghosts D) (first : VolumeView) (last : State) (old new : Volume D g) (given : Reply)
    → Ready g first old last → Applied g first last 0 c.Df given new → VolumeStill g old new → StillReady g first last old new
still_ready g first last old new given r applied still = record {
  ready = record {
    now = still.now ∙ r.now;
    view = still.view ∙ r.view;
    stands = r.stands;
    machine = sym (df-moves applied.takes.facts last.machine given applied.next.machine applied.takes.step) ∙ applied.ready.machine;
    written = still.written ∙ r.written;
    mark = subst (MarkStands first last) (sym still.mark) r.mark;
  };
  mark = ap (λ (m : Option Flag). is_some m) still.mark;
}

-- the text is that of the last image
pub printed : {D : Type 0} (g : disk.Ghosts D) (Prints : Option (List ℕ) → List ℕ → Option (List ℕ) → Type 0) (first : VolumeView)
    (last : State) (new : Volume D g) (answer : Answer) (oks nos : ℕ) (before after : Option (List ℕ))
    → Applied g first last 0 c.Df (reply.Ok answer) new → Prints before (made_text (oks + nos) oks nos ++ answer_text answer) after
    → Printed Prints oks nos last before after
printed g Prints first last new answer oks nos before after applied prints =
    let t = applied.takes in
    record {
      text = made_text (oks + nos) oks nos ++ answer_text answer;
      summary = record {
        facts = t.facts;
        told = t.told;
        is = ap (λ (shown : Answer). made_text (oks + nos) oks nos ++ answer_text shown)
            (df-shows t.facts last.machine answer applied.next.machine t.step);
      };
      printed = prints;
    }

summary-of : (oks nos oks' nos' : ℕ) (last : State) (text : List ℕ) → oks ≡ oks' → nos ≡ nos' → IsSummary oks nos last text
    → IsSummary oks' nos' last text
summary-of oks nos oks' nos' last text e f s =
    subst (λ n. IsSummary oks' n last text) f (subst (λ n. IsSummary n nos last text) e s)

-- all lines were done, and told
pub ran_told : {D : Type 0} (g : disk.Ghosts D) (first : State) (seed count : ℕ) (past : Option (List (List ℕ))) (tally : Tally)
    (given : ScriptEnd) (old new : Volume D g) (left before after : Option (List ℕ)) → (d : Drew g first seed count past tally old)
    → tally.oks + tally.nos ≡ count → g.settled (disk_under g new) ≡ g.settled (disk_under g old)
    → Tells g given first.view (last_of first d.turns) tally.oks tally.nos old new before after
    → RanLines g first (of_seed seed count) before past given new left after
ran_told g first seed count past tally end.Done old new left before after d sum same t = record {
  turns = d.turns;
  session = d.session;
  marked = λ _. t.0.mark ∙ d.marked;
  lines = d.lines;
  first_lines = record { k = count; within = omega arith; are = d.lines };
  settled = same ∙ d.settled;
  printed = record {
    sum = omega (arith, sum, d.oks, d.nos);
    text = t.1.text;
    summary = summary-of tally.oks tally.nos _ _ (last_of first d.turns) t.1.text d.oks d.nos t.1.summary;
    printed = t.1.printed;
  };
  stands = t.0.ready;
}
ran_told g first seed count past tally end.Sink old new left before after d sum same t = record {
  turns = d.turns;
  session = d.session;
  marked = λ _. t.0.mark ∙ d.marked;
  lines = d.lines;
  first_lines = record { k = count; within = omega arith; are = d.lines };
  settled = same ∙ d.settled;
  printed = record {
    sum = omega (arith, sum, d.oks, d.nos);
    text = t.1.text;
    summary = summary-of tally.oks tally.nos _ _ (last_of first d.turns) t.1.text d.oks d.nos t.1.summary;
    printed = t.1.printed;
  };
  stands = t.0.ready;
}
ran_told g first seed count past tally end.Memory old new left before after d sum same t = record {
  turns = d.turns;
  session = d.session;
  marked = λ _. t.0.mark ∙ d.marked;
  lines = record { k = count; within = omega arith; are = d.lines };
  first_lines = record { k = count; within = omega arith; are = d.lines };
  settled = same ∙ d.settled;
  printed = t.1;
  stands = t.0.ready;
}
ran_told g first seed count past tally end.Device old new left before after d sum same t = record {
  turns = d.turns;
  session = d.session;
  marked = λ none. cc;
  lines = record { k = count; within = omega arith; are = d.lines };
  first_lines = record { k = count; within = omega arith; are = d.lines };
  settled = same ∙ d.settled;
  printed = t.1;
  stands = (t.0.harmed, record { line = []; taken = inr (d.lines, refl); cut = t.0.cut });
}
ran_told g first seed count past tally end.Source old new left before after d sum same t = absurd t
ran_told g first seed count past tally end.TooMuch old new left before after d sum same t = absurd t
