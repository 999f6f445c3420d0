-- A command of none of the variants that are built and edit nothing is not built, or edits.
use Rattle.std.proofs.Common.{◌≡◌, ◌≢◌, ◌&&◌, ℕ, List, false, Option, not, refl}
use Rattle.tree_model.specs.Refusals.{is_edit}
use Rattle.tree_model.specs.Staging.{is_built}
use Rattle.tree_model.specs.declared.command.Command.{Command}
use Rattle.tree_model.specs.declared.opens.Access.{Access}
use Rattle.tree_model.specs.declared.command.Command.TheVariants as c

pub unbuilt : (command : Command) → command ≢ c.Df → ((path : List (List ℕ)) → command ≢ c.Ls path)
    → ((path : List (List ℕ)) → command ≢ c.Stat path) → ((path : List (List ℕ)) → command ≢ c.Links path)
    → ((path : List (List ℕ)) (stream : Option (List ℕ)) → command ≢ c.Cat path stream)
    → ((path : List (List ℕ)) (stream : Option (List ℕ)) (from len : ℕ) → command ≢ c.Read path stream from len)
    → ((path : List (List ℕ)) → command ≢ c.Streams path) → ((path : List (List ℕ)) → command ≢ c.Attr path)
    → ((path : List (List ℕ)) → command ≢ c.Sec path) → ((path : List (List ℕ)) → command ≢ c.Reparse path)
    → ((path : List (List ℕ)) → command ≢ c.Objid path) → ((now : ℕ) → command ≢ c.Time now)
    → ((path : List (List ℕ)) (stream : Option (List ℕ)) (access share : Access) → command ≢ c.Open path stream access share)
    → ((handle from len : ℕ) → command ≢ c.Hread handle from len) → ((handle : ℕ) → command ≢ c.Close handle)
    → ((id : ℕ) → command ≢ c.Sd id)
    → (is_built command && not (is_edit command)) ≡ false
unbuilt c.Df df ls stat links cat read_ streams attr sec reparse objid time open_ hread close sd = absurd (df refl)
unbuilt (c.Ls one) df ls stat links cat read_ streams attr sec reparse objid time open_ hread close sd = absurd (ls one refl)
unbuilt (c.Stat one) df ls stat links cat read_ streams attr sec reparse objid time open_ hread close sd = absurd (stat one refl)
unbuilt (c.Links one) df ls stat links cat read_ streams attr sec reparse objid time open_ hread close sd = absurd (links one refl)
unbuilt (c.Cat one stream) df ls stat links cat read_ streams attr sec reparse objid time open_ hread close sd =
    absurd (cat one stream refl)
unbuilt (c.Read one stream from len) df ls stat links cat read_ streams attr sec reparse objid time open_ hread close sd =
    absurd (read_ one stream from len refl)
unbuilt (c.Streams one) df ls stat links cat read_ streams attr sec reparse objid time open_ hread close sd = absurd (streams one refl)
unbuilt (c.Attr one) df ls stat links cat read_ streams attr sec reparse objid time open_ hread close sd = absurd (attr one refl)
unbuilt (c.Sec one) df ls stat links cat read_ streams attr sec reparse objid time open_ hread close sd = absurd (sec one refl)
unbuilt (c.Reparse one) df ls stat links cat read_ streams attr sec reparse objid time open_ hread close sd = absurd (reparse one refl)
unbuilt (c.Objid one) df ls stat links cat read_ streams attr sec reparse objid time open_ hread close sd = absurd (objid one refl)
unbuilt (c.Time now) df ls stat links cat read_ streams attr sec reparse objid time open_ hread close sd = absurd (time now refl)
unbuilt (c.Create one) df ls stat links cat read_ streams attr sec reparse objid time open_ hread close sd = refl
unbuilt (c.Mkdir one) df ls stat links cat read_ streams attr sec reparse objid time open_ hread close sd = refl
unbuilt (c.Rm one) df ls stat links cat read_ streams attr sec reparse objid time open_ hread close sd = refl
unbuilt (c.Rmdir one) df ls stat links cat read_ streams attr sec reparse objid time open_ hread close sd = refl
unbuilt (c.Ln old new) df ls stat links cat read_ streams attr sec reparse objid time open_ hread close sd = refl
unbuilt (c.Mv old new) df ls stat links cat read_ streams attr sec reparse objid time open_ hread close sd = refl
unbuilt (c.Write one stream from bytes) df ls stat links cat read_ streams attr sec reparse objid time open_ hread close sd = refl
unbuilt (c.Truncate one stream size) df ls stat links cat read_ streams attr sec reparse objid time open_ hread close sd = refl
unbuilt (c.Punch one stream from len) df ls stat links cat read_ streams attr sec reparse objid time open_ hread close sd = refl
unbuilt (c.Rmstream one name) df ls stat links cat read_ streams attr sec reparse objid time open_ hread close sd = refl
unbuilt (c.Setattr one flags) df ls stat links cat read_ streams attr sec reparse objid time open_ hread close sd = refl
unbuilt (c.Setsec one id) df ls stat links cat read_ streams attr sec reparse objid time open_ hread close sd = refl
unbuilt (c.Sd id) df ls stat links cat read_ streams attr sec reparse objid time open_ hread close sd = absurd (sd id refl)
unbuilt (c.Mkreparse one tag bytes) df ls stat links cat read_ streams attr sec reparse objid time open_ hread close sd = refl
unbuilt (c.Rmreparse one) df ls stat links cat read_ streams attr sec reparse objid time open_ hread close sd = refl
unbuilt (c.Open one stream access share) df ls stat links cat read_ streams attr sec reparse objid time open_ hread close sd =
    absurd (open_ one stream access share refl)
unbuilt (c.Hread handle from len) df ls stat links cat read_ streams attr sec reparse objid time open_ hread close sd =
    absurd (hread handle from len refl)
unbuilt (c.Hwrite handle from bytes) df ls stat links cat read_ streams attr sec reparse objid time open_ hread close sd = refl
unbuilt (c.Close handle) df ls stat links cat read_ streams attr sec reparse objid time open_ hread close sd = absurd (close handle refl)
