-- What comes of a command, taken apart: each refusal's case is false of one that is done.
use Rattle.std.proofs.Common.{Bool, Err, List, None, Ok, Option, Result, Some, [], false, if◌then◌else◌, length, refl, subst, true, ℕ}
use Rattle.std.proofs.Common.{◌∷◌, ◌≡◌}
use Rattle.tree_model.specs.Cases.{has_links, lies_in, loops}
use Rattle.tree_model.specs.Paths.{and_then}
use Rattle.tree_model.specs.Refusals.{Facts, first_some, outcome, refusal, refusal_cases, unless, when}
use Rattle.tree_model.specs.Staging.{is_built}
use Rattle.tree_model.specs.Subjects.{Located, Machine, NameIn, locate, subject_of}
use Rattle.tree_model.specs.declared.command.Command.{Command}
use Rattle.tree_model.specs.declared.command.Command.TheVariants as c
use Rattle.tree_model.specs.declared.reply.No.{No}
use Rattle.tree_model.specs.declared.reply.No.TheVariants as no
use Rattle.session_def.proofs.ApartLaws.{found-at}
use Rattle.command_edits.specs.Allowed.{IsAllowed}

-- none of several
abbrev AreNone : List (Option No) → Type 0
AreNone [] = Unit {0}
AreNone (test ∷ tests) = (test ≡ None) × AreNone tests

none-of : (tests : List (Option No)) → first_some tests ≡ None → AreNone tests
none-of [] e = tt
none-of (None ∷ tests) e = (refl, none-of tests e)
none-of (Some refused ∷ tests) e = cc

when-none : (test : Bool) (refused : No) → when test refused ≡ None → test ≡ false
when-none true refused e = cc
when-none false refused e = refl

-- commands that are not built come before all
is-built : (built : Bool) (found : Result Located No) (judge : Located → Option No) (to : Located)
    → (if built then and_then found (λ at. unless (judge at) at) else Err no.Unbuilt) ≡ Ok to → built ≡ true
is-built false found judge to e = cc
is-built true found judge to e = refl

pub allowed : (facts : Facts) (m : Machine) (session : ℕ) (command : Command) (at : Located) → outcome facts m session command ≡ Ok at
    → IsAllowed facts m session command at
unfolding outcome
allowed facts m session command at e =
    let f = found-at facts m session command at e in
    let a = none-of (refusal_cases facts m session command (subject_of command) at) f.1 in
    record {
      built = is-built (is_built command) (locate m session (subject_of command))
          (λ at. refusal facts m session command (subject_of command) at) at e;
      located = f.0;
      dos = when-none _ no.DosName a.0;
      badly = when-none _ no.BadName a.1.0;
      directory = when-none _ no.IsDir a.1.1.0;
      stream = when-none _ no.NoStream a.1.1.1.0;
      reparse = when-none _ no.NoReparse a.1.1.1.1.0;
      there = when-none _ no.Exists a.1.1.1.1.1.0;
      empty = when-none _ no.NotEmpty a.1.1.1.1.1.1.0;
      loop = when-none _ no.Loop a.1.1.1.1.1.1.1.0;
      plain = when-none _ no.Packed a.1.1.1.1.1.1.1.1.0;
      tag = when-none _ no.BadTag a.1.1.1.1.1.1.1.1.1.0;
      security = when-none _ no.NoSecurity a.1.1.1.1.1.1.1.1.1.1.0;
      size = when-none _ no.TooBig a.1.1.1.1.1.1.1.1.1.1.1.0;
      links = when-none _ no.TooManyLinks a.1.1.1.1.1.1.1.1.1.1.1.1.0;
      handles = when-none _ no.TooManyHandles a.1.1.1.1.1.1.1.1.1.1.1.1.1.0;
      opens = a.1.1.1.1.1.1.1.1.1.1.1.1.1.1.0;
      keys = when-none _ no.Linked a.1.1.1.1.1.1.1.1.1.1.1.1.1.1.1.0;
      whole = when-none _ no.Unbuilt a.1.1.1.1.1.1.1.1.1.1.1.1.1.1.1.1.0;
      room = a.1.1.1.1.1.1.1.1.1.1.1.1.1.1.1.1.1.0;
    }

-- WHAT CALLS NEED of it: no link stands in what `rmdir` takes away, and a file does not move below itself.
pub rmdir-empty : (facts : Facts) (m : Machine) (session : ℕ) (path : List (List ℕ)) (at : Located)
    → IsAllowed facts m session (c.Rmdir path) at → has_links m.tree at.file ≡ false
rmdir-empty facts m session path at is = is.empty

pub mv-no_loop : (facts : Facts) (m : Machine) (session : ℕ) (path target : List (List ℕ)) (at : Located) (dir : ℕ) (name : List ℕ)
    → IsAllowed facts m session (c.Mv path target) at → at.new ≡ NameIn dir name
    → lies_in m.tree (length m.tree.links) at.file dir ≡ false
mv-no_loop facts m session path target at dir name is new =
    subst (λ n. loops m.tree (subject_of (c.Mv path target)) at.file n ≡ false) new is.loop
