-- The steps of commands on opens and on the moment, and of those that show something.
use Rattle.std.proofs.Common.{◌≡◌, ◌⊎◌, ◌==◌, ◌&&◌, ℕ, Bool, true, false, List, Option, Some, None, Result, Ok, Err, count_by, filter, find}
use Rattle.std.proofs.Common.{length, nat_le, not, inl, inr, refl, sym, ap, subst, ◌∙◌, arith}
use Rattle.std.specs.Prelude.{[], IsTrue, OnErr, OnOk, is_some, if◌then◌else◌, unwrap_or}
use Rattle.std.proofs.lemmas.Bool.Decides.{leb_tells}
use Rattle.list_laws.specs.Ordered.{put_in_order}
use Rattle.share_table.specs.Adding.{MayAdd, opened}
use Rattle.share_table.specs.Held.{HoldsOpens}
use Rattle.share_table.proofs.OpensLaws.{held-step}
use Rattle.volume_def.specs.View.{VolumeView}
use Rattle.tree_model.specs.Answers.{answer_of}
use Rattle.tree_model.specs.Cases.{AsksFor, conflicts, is_wide}
use Rattle.tree_model.specs.Effects.{opens_after, tree_after}
use Rattle.tree_model.specs.Opens.{contains, is_handle, open_above, to_read}
use Rattle.tree_model.specs.Paths.{and_then, found_file, resolve}
use Rattle.tree_model.specs.Reading.{read}
use Rattle.tree_model.specs.Refusals.{Facts, is_reading, outcome}
use Rattle.tree_model.specs.Shown.{plain_bytes, stream_of}
use Rattle.tree_model.specs.Step.{Step, due, reply_of}
use Rattle.tree_model.specs.Subjects.{Located, Machine, at_found, content_named, is_directory, locate, nothing, stream_name, with_stream}
use Rattle.tree_model.specs.Tree.{node_of}
use Rattle.tree_model.specs.declared.command.Command.{Command}
use Rattle.tree_model.specs.declared.command.Command.TheVariants as c
use Rattle.tree_model.specs.declared.opens.Access.{Access}
use Rattle.tree_model.specs.declared.opens.OpenEntry.{OpenEntry}
use Rattle.tree_model.specs.declared.reply.Answer.{Answer}
use Rattle.tree_model.specs.declared.reply.Answer.TheVariants as a
use Rattle.tree_model.specs.declared.reply.No.{No}
use Rattle.tree_model.specs.declared.reply.No.TheVariants as no
use Rattle.tree_model.specs.declared.reply.Reply.TheVariants as reply
use Rattle.tree_model.specs.declared.tree.Content.{Content}
use Rattle.tree_model.specs.declared.tree.Content.TheVariants.{Packed, Plain}
use Rattle.tree_model.specs.declared.tree.Found.{Found}
use Rattle.tree_model.proofs.LookLaws.{find-never}
use Rattle.tree_model.proofs.MachineLaws.{shown-step}
use Rattle.tree_read.specs.Answered.{Says}
use Rattle.tree_read.specs.Shown.{df_shown, of_path, plain_file, shown_by}
use Rattle.tree_read.specs.declared.shown.Shown.{Shown}
use Rattle.tree_read.specs.declared.stop.Stop.{Stop}
use Rattle.tree_read.specs.declared.stop.Stop.TheVariants as stop
use Rattle.tree_ops.specs.Wanted.{Does, IsOpened, as_stop, close_wanted, hread_wanted, machine_on, open_wanted, sd_wanted, shown_command}
use Rattle.tree_ops.specs.declared.built.Opening.{Opening}
use Rattle.tree_ops.proofs.WantedLaws.{df-wanted, shown-reads, shown-wanted}

-- A command that reads leaves the machine as it was.
pub reads-does : (facts : Facts) (m : Machine) (session : ℕ) (command : Command) (result : Result Answer Stop) → is_reading command ≡ true
    → Says (due facts m session command) result → Does facts m session command result m
reads-does facts m session command (Ok answer) reads says = shown-step facts m session command (Ok answer) reads says
reads-does facts m session command (Err (stop.No refused)) reads says = shown-step facts m session command (Err refused) reads says
reads-does facts m session command (Err stop.Device) reads says = tt

-- So does one that is refused.
pub refused-step : (facts : Facts) (m : Machine) (session : ℕ) (command : Command) (refused : No)
    → (due facts m session command ≡ Err refused) ⊎ (refused ≡ no.Memory) → Step facts m session command (reply.No refused) m
refused-step facts m session command refused (inl is) = record { replied = inl (sym (ap reply_of is)); moved = refl }
refused-step facts m session command refused (inr memory) = record { replied = inr (ap reply.No memory); moved = refl }

-- What is done keeps that opens go together and have their files.
pub does-holds : (facts : Facts) (m : Machine) (session : ℕ) (command : Command) (answer : Answer) (next : Machine) → HoldsOpens m
    → Does facts m session command (Ok answer) next → HoldsOpens next
does-holds facts m session command answer next held does = held-step facts m session command (reply.Ok answer) next held does

module _ (facts : Facts) (view : VolumeView) (opens : List OpenEntry) (now session : ℕ) where
  abbrev m : Machine
  m = machine_on view opens now

  -- time
  time-found : (moment : ℕ) → outcome facts m session (c.Time moment) ≡ Ok nothing
  unfolding outcome locate
  time-found moment = let n = find-never opens 0 in rw n refl

  time-due : (moment : ℕ) → due facts m session (c.Time moment) ≡ Ok a.Done
  unfolding due outcome locate answer_of
  time-due moment = let n = find-never opens 0 in rw n refl

  pub time-step : (moment : ℕ) → Step facts m session (c.Time moment) (reply.Ok a.Done) (machine_on view opens moment)
  unfolding tree_after opens_after
  time-step moment = record {
    replied = inl (sym (ap reply_of (time-due moment)));
    moved = record { at = nothing; found = time-found moment; file = 0; fresh = λ e. cc; moved = refl };
  }

  -- close
  close-found : (handle : ℕ) (entry : OpenEntry) → find (is_handle session handle) opens ≡ Some entry
      → outcome facts m session (c.Close handle) ≡ Ok nothing
  unfolding outcome locate
  close-found handle entry e = let n = find-never opens 0 in rw (e, n) refl

  close-due : (handle : ℕ) → due facts m session (c.Close handle) ≡ close_wanted opens session handle
  unfolding due outcome locate answer_of
  close-due handle = by (find (is_handle session handle) opens) refl
    where
      by : (o : Option OpenEntry) → find (is_handle session handle) opens ≡ o
          → due facts m session (c.Close handle) ≡ close_wanted opens session handle
      by None e = rw e refl
      by (Some entry) e = let n = find-never opens 0 in rw (e, n) refl

  abbrev without : ℕ → List OpenEntry
  without handle = filter (λ entry. not (is_handle session handle entry)) opens

  close-step : (handle : ℕ) (entry : OpenEntry) → find (is_handle session handle) opens ≡ Some entry
      → Step facts m session (c.Close handle) (reply.Ok a.Done) (machine_on view (without handle) now)
  unfolding tree_after opens_after
  close-step handle entry e = record {
    replied =
        inl (sym (ap reply_of (close-due handle ∙ ap (λ (o : Option OpenEntry). if is_some o then Ok a.Done else Err no.NoHandle) e)));
    moved = record { at = nothing; found = close-found handle entry e; file = 0; fresh = λ e. cc; moved = refl };
  }

  pub close-does : (handle : ℕ) (result : Result Answer Stop) (next : List OpenEntry)
      → result ≡ as_stop (close_wanted opens session handle) → OnOk result (next ≡ without handle) → OnErr result (next ≡ opens)
      → Does facts m session (c.Close handle) result (machine_on view next now)
  close-does handle result next is closed kept = by (find (is_handle session handle) opens) refl result is closed kept
    where
      by : (o : Option OpenEntry) → find (is_handle session handle) opens ≡ o → (result : Result Answer Stop)
          → result ≡ as_stop (if is_some o then Ok a.Done else Err no.NoHandle) → OnOk result (next ≡ without handle)
          → OnErr result (next ≡ opens) → Does facts m session (c.Close handle) result (machine_on view next now)
      by None e (Ok answer) is closed kept = cc
      by None e (Err stop.Device) is closed kept = tt
      by None e (Err (stop.No refused)) is closed kept =
          let same : no.NoHandle ≡ refused = cc in
          subst (λ (o : List OpenEntry). Step facts m session (c.Close handle) (reply.No refused) (machine_on view o now)) (sym kept)
          (refused-step facts m session (c.Close handle) refused
          (inl (close-due handle ∙ ap (λ (o : Option OpenEntry). if is_some o then Ok a.Done else Err no.NoHandle) e ∙ ap Err same)))
      by (Some entry) e (Err why) is closed kept = cc
      by (Some entry) e (Ok answer) is closed kept =
          let same : a.Done ≡ answer = cc in
          subst (λ (o : List OpenEntry). Step facts m session (c.Close handle) (reply.Ok answer) (machine_on view o now)) (sym closed)
          (subst (λ x. Step facts m session (c.Close handle) (reply.Ok x) (machine_on view (without handle) now)) same
          (close-step handle entry e))

  -- hread
  abbrev HreadIs : ℕ → ℕ → ℕ → Type 0
  HreadIs handle from len = due facts m session (c.Hread handle from len) ≡ hread_wanted (read view) opens session handle from len

  pub hread-due : (handle from len : ℕ)
      → due facts m session (c.Hread handle from len) ≡ hread_wanted (read view) opens session handle from len
  unfolding due outcome locate answer_of
  hread-due handle from len = by _ refl
    where
      by_content : (entry : OpenEntry)
          → find (λ (entry : OpenEntry). is_handle session handle entry && contains entry.access to_read) opens ≡ Some entry
          → (o : Option Content) → content_named (read view) entry.stream (node_of (read view) entry.file) ≡ o
          → (t : Bool) → is_wide from len ≡ t → HreadIs handle from len
      by_content entry e None o t w = rw (e, o) refl
      by_content entry e (Some (Packed size)) o t w = rw (e, o) refl
      by_content entry e (Some (Plain bytes)) o true w = rw (e, o, w) refl
      by_content entry e (Some (Plain bytes)) o false w = let n = find-never opens entry.file in rw (e, o, w, n) refl

      by : (o : Option OpenEntry)
          → find (λ (entry : OpenEntry). is_handle session handle entry && contains entry.access to_read) opens ≡ o
          → HreadIs handle from len
      by None e = rw e refl
      by (Some entry) e = by_content entry e _ refl _ refl

  -- open
  module _ (path : List (List ℕ)) (stream : Option (List ℕ)) (access share : Access) where
    abbrev opening : Command
    opening = c.Open path stream access share

    abbrev name : List ℕ
    name = stream_name stream

    abbrev OpenIs : Type 0
    OpenIs = due facts m session opening ≡ open_wanted (read view) opens session path name access share

    open-due : OpenIs
    unfolding due outcome locate answer_of
    open-due = by (resolve (read view) path) refl
      where
        by_opens : (found : Found) → resolve (read view) path ≡ Ok found
            → ((length name == 0) && is_directory (node_of (read view) (found_file found))) ≡ false
            → (bytes : List ℕ) → content_named (read view) name (node_of (read view) (found_file found)) ≡ Some (Plain bytes)
            → (t : Bool) → nat_le 64 (count_by (λ (entry : OpenEntry). entry.session == session) opens) ≡ t
            → (f : Option OpenEntry) → find (conflicts (AsksFor access share) (found_file found)) opens ≡ f → OpenIs
        by_opens found e b bytes o true t f g = rw (e, b, o, t) refl
        by_opens found e b bytes o false t None g = rw (e, b, o, t, g) refl
        by_opens found e b bytes o false t (Some entry) g = rw (e, b, o, t, g) refl

        by_content : (found : Found) → resolve (read view) path ≡ Ok found
            → (b : Bool) → ((length name == 0) && is_directory (node_of (read view) (found_file found))) ≡ b
            → (o : Option Content) → content_named (read view) name (node_of (read view) (found_file found)) ≡ o → OpenIs
        by_content found e true b o p = rw (e, b) refl
        by_content found e false b None o = rw (e, b, o) refl
        by_content found e false b (Some (Packed size)) o = rw (e, b, o) refl
        by_content found e false b (Some (Plain bytes)) o = by_opens found e b bytes o _ refl _ refl

        by : (r : Result Found No) → resolve (read view) path ≡ r → OpenIs
        by (Err refused) e = rw e refl
        by (Ok found) e = by_content found e _ refl _ refl

    -- what the words lead to
    abbrev place : Found → Located
    place found = with_stream (read view) name (at_found (read view) found)

    record IsAt (file : ℕ) : Type 0 where
      at : Located
      is : outcome facts m session opening ≡ Ok at
      at_file : at.file ≡ file
      at_stream : at.stream ≡ name

    open-found : (file : ℕ) → plain_file (read view) path name ≡ Ok file → MayAdd opens session file access share → IsAt file
    unfolding outcome locate
    open-found file is may = by (resolve (read view) path) refl is
      where
        few : nat_le 64 (count_by (λ (entry : OpenEntry). entry.session == session) opens) ≡ false
        few = elim (leb_tells 64 (count_by (λ (entry : OpenEntry). entry.session == session) opens)) [
          | inl full ↦ absurd (omega (arith, full.1, may.few))
          | inr less ↦ less.0
        ]

        last : (found : Found) → resolve (read view) path ≡ Ok found → found_file found ≡ file
            → ((length name == 0) && is_directory (node_of (read view) (found_file found))) ≡ false
            → (bytes : List ℕ) → content_named (read view) name (node_of (read view) (found_file found)) ≡ Some (Plain bytes)
            → find (conflicts (AsksFor access share) (found_file found)) opens ≡ None → IsAt file
        last found e same b bytes o g =
            record { at = place found; is = rw (e, b, o, few, g) refl; at_file = same; at_stream = refl }

        by_content : (found : Found) → resolve (read view) path ≡ Ok found
            → (b : Bool) → ((length name == 0) && is_directory (node_of (read view) (found_file found))) ≡ b
            → (o : Option Content) → content_named (read view) name (node_of (read view) (found_file found)) ≡ o
            → and_then (if b then Err no.IsDir else plain_bytes o) (λ bytes. Ok (found_file found)) ≡ Ok file → IsAt file
        by_content found e true b o p is = cc
        by_content found e false b None o is = cc
        by_content found e false b (Some (Packed size)) o is = cc
        by_content found e false b (Some (Plain bytes)) o is =
            let same : found_file found ≡ file = cc in
            last found e same b bytes o
            (subst (λ f. find (conflicts (AsksFor access share) f) opens ≡ None) (sym same) may.fits)

        by : (r : Result Found No) → resolve (read view) path ≡ r
            → and_then r (λ found. and_then (stream_of (read view) name (node_of (read view) (found_file found)))
            (λ bytes. Ok (found_file found)))
            ≡ Ok file → IsAt file
        by (Err refused) e is = cc
        by (Ok found) e is = by_content found e _ refl _ refl is

    open-step : (file : ℕ) (answer : Answer) → plain_file (read view) path name ≡ Ok file → MayAdd opens session file access share
        → open_wanted (read view) opens session path name access share ≡ Ok answer
        → Step facts m session opening (reply.Ok answer)
        (machine_on view (put_in_order open_above (opened opens session file name access share) opens) now)
    unfolding tree_after opens_after
    open-step file answer is may wanted =
        let at = open-found file is may in
        record {
          replied = inl (sym (ap reply_of (open-due ∙ wanted)));
          moved = record {
            at = at.at;
            found = at.is;
            file = 0;
            fresh = λ e. cc;
            moved =
                sym (ap (λ (f : ℕ). machine_on view (put_in_order open_above (opened opens session f at.at.stream access share) opens) now)
                at.at_file
                ∙ ap (λ (s : List ℕ). machine_on view (put_in_order open_above (opened opens session file s access share) opens) now)
                at.at_stream);
          };
        }

  pub open-does : (opening : Opening) (result : Result Answer Stop) (next : List OpenEntry) → IsTrue view.told
      → Says (open_wanted (read view) opens session opening.path.now (stream_name opening.stream.now) opening.access opening.share) result
      → OnOk result (IsOpened view opens session opening next) → OnErr result (next ≡ opens)
      → Does facts m session (c.Open opening.path.now opening.stream.now opening.access opening.share) result (machine_on view next now)
  open-does opening (Ok answer) next told says is kept =
      subst (λ (o : List OpenEntry). Step facts m session
      (c.Open opening.path.now opening.stream.now opening.access opening.share) (reply.Ok answer)
      (machine_on view o now)) (sym is.added)
      (open-step opening.path.now opening.stream.now opening.access opening.share is.file answer (is.found told) is.may says)
  open-does opening (Err stop.Device) next told says is kept = tt
  open-does opening (Err (stop.No refused)) next told says is kept =
      subst (λ (o : List OpenEntry). Step facts m session
      (c.Open opening.path.now opening.stream.now opening.access opening.share) (reply.No refused)
      (machine_on view o now)) (sym kept)
      (refused-step facts m session (c.Open opening.path.now opening.stream.now opening.access opening.share) refused (elim says [
        | inl same ↦ inl (open-due opening.path.now opening.stream.now opening.access opening.share ∙ same)
        | inr memory ↦ inr memory
      ]))

  -- what is shown, by a path and through a handle, and what df tells
  pub shown-does : (path : List (List ℕ)) (what : Shown) (result : Result Answer Stop)
      → Says (of_path (read view) path (shown_by what (read view) opens)) result → Does facts m session (shown_command path what) result m
  shown-does path what result says =
      reads-does facts m session (shown_command path what) result (shown-reads path what)
      (subst (λ wanted. Says wanted result) (sym (shown-wanted facts opens now session view path what)) says)

  pub hread-does : (handle from len : ℕ) (result : Result Answer Stop)
      → Says (hread_wanted (read view) opens session handle from len) result
      → Does facts m session (c.Hread handle from len) result m
  hread-does handle from len result says =
      reads-does facts m session (c.Hread handle from len) result refl
      (subst (λ wanted. Says wanted result) (sym (hread-due handle from len)) says)

  -- sd
  sd-due : (id : ℕ) → due facts m session (c.Sd id) ≡ sd_wanted (facts.descriptor id)
  unfolding due outcome locate answer_of
  sd-due id = by (facts.descriptor id) refl
    where
      shown : Option (List ℕ) → Result Answer No
      shown o = Ok (a.Sd (unwrap_or o []))

      by : (o : Option (List ℕ)) → facts.descriptor id ≡ o → due facts m session (c.Sd id) ≡ sd_wanted (facts.descriptor id)
      by None e = rw e refl
      by (Some bytes) e = let n = find-never opens 0 in rw (e, n) (ap shown e)

  pub sd-does : (id : ℕ) (result : Result Answer Stop) → Says (sd_wanted (facts.descriptor id)) result
      → Does facts m session (c.Sd id) result m
  sd-does id result says =
      reads-does facts m session (c.Sd id) result refl (subst (λ wanted. Says wanted result) (sym (sd-due id)) says)

  pub df-does : (answer : Answer) → df_shown facts ≡ Ok answer → Step facts m session c.Df (reply.Ok answer) m
  df-does answer is = shown-step facts m session c.Df (Ok answer) refl (df-wanted facts opens now session view ∙ is)
