-- What the calls lend, the path to a directory, and a step of the machine that is kept.
use Rattle.std.proofs.Common.{◌≡◌, ◌≢◌, ◌==◌, ◌&&◌, ◌<◌, ◌-◌, ◌++◌, arith, ℕ, zero, suc, Bool, true, false, not, List, [], ◌∷◌, Result, Ok}
use Rattle.std.proofs.Common.{Err, ap, subst, IsErrAnd, Option, Some, refl}
use Rattle.std.proofs.lemmas.Bool.{ne_eqb}
use denote.Ref.{Bor}
use Rattle.ntfs_def.specs.declared.records.TheConstants.{ROOT}
use Rattle.tree_model.specs.Answers.{answer_of, path_to}
use Rattle.tree_model.specs.Refusals.{Facts, is_reading, outcome}
use Rattle.tree_model.specs.Shown.{Tells}
use Rattle.tree_model.specs.Step.{Step, due, reply_of}
use Rattle.tree_model.specs.Subjects.{locate}
use Rattle.tree_model.specs.Tree.{Tree, first_name}
use Rattle.tree_model.specs.declared.command.Command.{Command}
use Rattle.tree_model.specs.declared.command.Command.TheVariants as c
use Rattle.tree_model.specs.declared.opens.OpenEntry.{OpenEntry}
use Rattle.tree_model.specs.declared.reply.Answer.{Answer}
use Rattle.tree_model.specs.declared.reply.Answer.TheVariants as a
use Rattle.tree_model.specs.declared.reply.No.{No}
use Rattle.tree_model.specs.declared.tree.Link.{Link}
use Rattle.tree_model.proofs.LookLaws.{find-never}
use Rattle.tree_model.proofs.MachineLaws.{shown-step}
use Rattle.plain_tree.specs.Plain.{TellsDue, AreTold, df_of, is_plain, lent_found, machine_of, tree_of}
use Rattle.plain_tree.specs.declared.facts.PlainFacts.{PlainFacts}
use Rattle.plain_tree.specs.declared.machine.PlainMachine.{PlainMachine}

pub lent-error : (result : Result (Option (Bor Link)) No) (refused : No) → IsErrAnd result (λ e. e ≡ refused)
    → lent_found result ≡ Err refused
lent-error (Ok link) refused h = absurd h
lent-error (Err other) refused h = ap Err h

-- the path to a directory, by its name and the directory above it
pub path-up : (tree : Tree) (left dir : ℕ) (up : Link) → 0 < left → dir ≢ ROOT → first_name tree.links dir ≡ Some up
    → path_to tree left dir ≡ path_to tree (left - 1) up.parent ++ up.name ∷ []
path-up tree zero dir up some ne first = absurd (omega (arith, some))
path-up tree (suc left) dir up some ne first =
    let other : (dir == ROOT) ≡ false = ne_eqb dir ROOT ne in
    let step : suc left - 1 ≡ left = omega arith in
    rw (other, first, step) refl

-- what is due for `df`
pub df-due : (told : PlainFacts) (facts : Facts) (tree : Tree) (opens : List OpenEntry) (now session : ℕ) → AreTold told facts
    → due facts (record { tree = tree; opens = opens; now = now }) session c.Df ≡ Ok (df_of told)
unfolding due outcome locate answer_of
df-due told facts tree opens now session is =
    let n = find-never opens 0 in rw n (λ i. Ok (a.Df (is.clusters i) (is.free i) (is.records i) (is.free_records i)))

-- it reads
plain-reads : (command : Command) → is_plain command ≡ true → is_reading command ≡ true
plain-reads (c.Ls path) e = refl
plain-reads (c.Stat path) e = refl
plain-reads (c.Links path) e = refl
plain-reads (c.Cat path stream) e = refl
plain-reads (c.Read path stream from len) e = refl
plain-reads (c.Streams path) e = refl
plain-reads (c.Attr path) e = refl
plain-reads (c.Sec path) e = refl
plain-reads (c.Reparse path) e = refl
plain-reads (c.Objid path) e = refl
plain-reads c.Df e = refl
plain-reads (c.Time now) e = cc
plain-reads (c.Create path) e = cc
plain-reads (c.Mkdir path) e = cc
plain-reads (c.Rm path) e = cc
plain-reads (c.Rmdir path) e = cc
plain-reads (c.Ln old new) e = cc
plain-reads (c.Mv old new) e = cc
plain-reads (c.Write path stream from bytes) e = cc
plain-reads (c.Truncate path stream size) e = cc
plain-reads (c.Punch path stream from len) e = cc
plain-reads (c.Rmstream path name) e = cc
plain-reads (c.Setattr path flags) e = cc
plain-reads (c.Setsec path id) e = cc
plain-reads (c.Sd id) e = cc
plain-reads (c.Mkreparse path tag bytes) e = cc
plain-reads (c.Rmreparse path) e = cc
plain-reads (c.Open path stream access share) e = cc
plain-reads (c.Hread handle from len) e = cc
plain-reads (c.Hwrite handle from bytes) e = cc
plain-reads (c.Close handle) e = cc

-- what is neither done nor of opens is not built
pub not-built : (built does : Bool) → does ≡ false → (built && not does) ≡ false → built ≡ false
not-built false does none other = refl
not-built true false none other = cc
not-built true true none other = cc

-- a step of the machine that is kept
pub answered-step : (plain : PlainMachine) (opens : List OpenEntry) (told : PlainFacts) (facts : Facts) (session : ℕ) (command : Command)
    (result : Result Answer No) → opens ≡ plain.opens.items → is_plain command ≡ true → TellsDue plain.tree opens told command result
    → AreTold told facts → Step facts (machine_of plain) session command (reply_of result) (machine_of plain)
unfolding machine_of
answered-step plain opens told facts session command result same does answers is =
    shown-step facts (machine_of plain) session command result (plain-reads command does)
    (subst (λ it. Tells (due facts (record { tree = tree_of plain.tree; opens = it; now = plain.now }) session command) result) same
    (answers facts plain.now session is))
