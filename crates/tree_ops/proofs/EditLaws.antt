-- What is no edit that is built is no edit that is done.
use Rattle.std.proofs.Common.{◌≡◌, ◌≢◌, ◌&&◌, ℕ, Bool, true, false, List, Option, not, Ok, Err, refl}
use Rattle.tree_model.specs.Refusals.{Facts, is_edit, outcome}
use Rattle.session_def.specs.Session.{is_done_edit}
use Rattle.tree_model.specs.Staging.{is_built}
use Rattle.tree_model.specs.Step.{Moves, Step}
use Rattle.tree_model.specs.Subjects.{Machine}
use Rattle.tree_model.specs.declared.command.Command.{Command}
use Rattle.tree_model.specs.declared.command.Command.TheVariants as c
use Rattle.tree_model.specs.declared.reply.No.TheVariants as no
use Rattle.tree_model.specs.declared.reply.Reply.{Reply}
use Rattle.tree_model.specs.declared.reply.Reply.TheVariants as reply

-- a command that is done is built
moved-built : (facts : Facts) (m : Machine) (session : ℕ) (command : Command) (next : Machine)
    → Moves facts m session command next → is_built command ≡ true
unfolding outcome
moved-built facts m session command next x = by (is_built command) refl
  where
    by : (built : Bool) → is_built command ≡ built → is_built command ≡ true
    by true e = e
    by false e =
        let refused : outcome facts m session command ≡ Err no.Unbuilt = rw e refl in
        let found = x.found in
        cc

-- so one that is none of the edits that are built is no edit
not-both : (edit built : Bool) → (edit && built) ≡ false → built ≡ true → edit ≡ false
not-both false built none e = refl
not-both true true none e = cc
not-both true false none e = cc

-- a step is no edit that was done
pub no_edit : (facts : Facts) (m : Machine) (session : ℕ) (command : Command) (given : Reply) (next : Machine)
    → (is_edit command && is_built command) ≡ false
    → Step facts m session command given next → is_done_edit (Ok (session, command)) given ≡ false
no_edit facts m session command (reply.Ok answer) next plain x =
    not-both (is_edit command) (is_built command) plain (moved-built facts m session command next x.moved)
no_edit facts m session command (reply.No refused) next plain x = refl
no_edit facts m session command reply.Device next plain x = refl

-- what is built, but edits, and is no edit that is built, is not built
pub neither : (edit built : Bool) → (built && not edit) ≡ false → (edit && built) ≡ false → built ≡ false
neither false true reads edits = cc
neither true true reads edits = cc
neither edit false reads edits = refl

-- no other edit is built
pub other-edit : (command : Command) → ((path : List (List ℕ)) (flags : ℕ) → command ≢ c.Setattr path flags)
    → ((path : List (List ℕ)) (stream : Option (List ℕ)) (at : ℕ) (bytes : List ℕ) → command ≢ c.Write path stream at bytes)
    → ((handle at : ℕ) (bytes : List ℕ) → command ≢ c.Hwrite handle at bytes)
    → ((path : List (List ℕ)) (stream : Option (List ℕ)) (size : ℕ) → command ≢ c.Truncate path stream size)
    → ((path : List (List ℕ)) (stream : Option (List ℕ)) (at len : ℕ) → command ≢ c.Punch path stream at len)
    → ((path : List (List ℕ)) (name : List ℕ) → command ≢ c.Rmstream path name)
    → ((path : List (List ℕ)) → command ≢ c.Create path)
    → ((path : List (List ℕ)) → command ≢ c.Mkdir path)
    → ((path : List (List ℕ)) (id : ℕ) → command ≢ c.Setsec path id)
    → (is_edit command && is_built command) ≡ false
other-edit (c.Ls path) apart write hwrite cut punch remove create mkdir setsec = refl
other-edit (c.Stat path) apart write hwrite cut punch remove create mkdir setsec = refl
other-edit (c.Links path) apart write hwrite cut punch remove create mkdir setsec = refl
other-edit (c.Cat path stream) apart write hwrite cut punch remove create mkdir setsec = refl
other-edit (c.Read path stream from len) apart write hwrite cut punch remove create mkdir setsec = refl
other-edit (c.Create path) apart write hwrite cut punch remove create mkdir setsec = absurd (create path refl)
other-edit (c.Mkdir path) apart write hwrite cut punch remove create mkdir setsec = absurd (mkdir path refl)
other-edit (c.Rm path) apart write hwrite cut punch remove create mkdir setsec = refl
other-edit (c.Rmdir path) apart write hwrite cut punch remove create mkdir setsec = refl
other-edit (c.Ln path new) apart write hwrite cut punch remove create mkdir setsec = refl
other-edit (c.Mv path new) apart write hwrite cut punch remove create mkdir setsec = refl
other-edit (c.Truncate path stream from) apart write hwrite cut punch remove create mkdir setsec = absurd (cut path stream from refl)
other-edit (c.Punch path stream from len) apart write hwrite cut punch remove create mkdir setsec = absurd (punch path stream from len refl)
other-edit (c.Streams path) apart write hwrite cut punch remove create mkdir setsec = refl
other-edit (c.Rmstream path from) apart write hwrite cut punch remove create mkdir setsec = absurd (remove path from refl)
other-edit (c.Attr path) apart write hwrite cut punch remove create mkdir setsec = refl
other-edit (c.Sec path) apart write hwrite cut punch remove create mkdir setsec = refl
other-edit (c.Setsec path id) apart write hwrite cut punch remove create mkdir setsec = absurd (setsec path id refl)
other-edit (c.Sd id) apart write hwrite cut punch remove create mkdir setsec = refl
other-edit (c.Reparse path) apart write hwrite cut punch remove create mkdir setsec = refl
other-edit (c.Mkreparse path tag bytes) apart write hwrite cut punch remove create mkdir setsec = refl
other-edit (c.Rmreparse path) apart write hwrite cut punch remove create mkdir setsec = refl
other-edit (c.Objid path) apart write hwrite cut punch remove create mkdir setsec = refl
other-edit c.Df apart write hwrite cut punch remove create mkdir setsec = refl
other-edit (c.Open path stream access other) apart write hwrite cut punch remove create mkdir setsec = refl
other-edit (c.Hread other from len) apart write hwrite cut punch remove create mkdir setsec = refl
other-edit (c.Close other) apart write hwrite cut punch remove create mkdir setsec = refl
other-edit (c.Time from) apart write hwrite cut punch remove create mkdir setsec = refl
other-edit (c.Setattr path flags) apart write hwrite cut punch remove create mkdir setsec = absurd (apart path flags refl)
other-edit (c.Write path stream from bytes) apart write hwrite cut punch remove create mkdir setsec =
    absurd (write path stream from bytes refl)
other-edit (c.Hwrite handle from bytes) apart write hwrite cut punch remove create mkdir setsec = absurd (hwrite handle from bytes refl)
