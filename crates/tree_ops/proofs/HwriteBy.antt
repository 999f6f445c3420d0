-- WHAT IS DUE FOR `hwrite`: where its bytes can be written into the stream of a handle that may write it it is done, unless there is no
-- room for what it asks, and else refused so.
use Rattle.std.proofs.Common.{◌≡◌, ◌==◌, ◌&&◌, ◌||◌, ◌+◌, ℕ, Bool, true, false, List, ◌∷◌, [], not, length, Option, Some, None, Result, Ok}
use Rattle.std.proofs.Common.{Err, inl, inr, refl, sym, ap, ◌∙◌, arith, if◌then◌else◌}
use Rattle.std.specs.Borrow.{Bor}
use Rattle.std.specs.Prelude.{find, is_some, nat_le}
use Rattle.std.specs.Option.{option_map_or}
use Rattle.std.proofs.lemmas.Bool.{and_parts, not-true}
use Rattle.volume_def.specs.Table.{cluster_bytes}
use Rattle.volume_def.specs.Values.{first_part}
use Rattle.volume_def.specs.View.{VolumeView}
use Rattle.tree_model.specs.Cases.{is_packed, is_wide}
use Rattle.tree_model.specs.Effects.{opens_after}
use Rattle.tree_model.specs.Facts.{TellsFacts, is_whole_table}
use Rattle.tree_model.specs.Opens.{contains, is_handle, to_write}
use Rattle.tree_model.specs.Paths.{and_then}
use Rattle.tree_model.specs.Reading.{read}
use Rattle.tree_model.specs.Refusals.{Facts, first_some, outcome, refusal, unless, when}
use Rattle.tree_model.specs.Shown.{plain_bytes}
use Rattle.tree_model.specs.Staging.{cannot_edit}
use Rattle.tree_model.specs.Ways.{can_leave, can_reach, fits_in_record, gets_no_longer, has_no_list, has_placed_bits, in_extent}
use Rattle.tree_model.specs.Step.{answered, due}
use Rattle.tree_model.specs.StreamRoom.{goes_over, is_in_place, new_clusters, stream_parts, stream_value, stream_value_len}
use Rattle.tree_model.specs.Subjects.{Located, Machine, at_file, at_open, content_named, locate, subject_of, with_stream}
use Rattle.tree_model.specs.Tree.{node_of}
use Rattle.tree_model.specs.declared.command.Command.{Command}
use Rattle.tree_model.specs.declared.command.Command.TheVariants as c
use Rattle.tree_model.specs.declared.opens.OpenEntry.{OpenEntry}
use Rattle.tree_model.specs.declared.reply.No.{No}
use Rattle.tree_model.specs.declared.reply.No.TheVariants as no
use Rattle.tree_model.specs.declared.tree.Content.{Content}
use Rattle.tree_model.specs.declared.tree.Content.TheVariants.{Packed, Plain}
use Rattle.tree_model.proofs.LookLaws.{find-never}
use Rattle.made_done.proofs.Below.{has-room, value-room}
use Rattle.stream_changes.specs.Below.{can_reach_there, can_resize, can_write_over, hwrite_in, hwrite_wanted, room_to_reach, room_to_write}
use Rattle.edit_def.specs.OneFile.{no_room_alone}
use Rattle.tree_ops.specs.Edits.{hwrite_edit}
use Rattle.tree_ops.specs.Wanted.{machine_on}
use Rattle.tree_ops.specs.declared.streams.StreamEdit.TheVariants as s
use Rattle.tree_ops.proofs.FileEditBy.{IsFileEditBy, LeadsToFile}
use Rattle.tree_ops.proofs.Judged.{can-of, if_written_by, last-written, last_two, three-ways, with_at, written-file}
use Rattle.tree_ops.proofs.RoomAsked.{asked-unless, extent-there, located-counted, not-within, value-there}
use Rattle.tree_ops.proofs.StreamBy.{edited-file}
use Rattle.tree_ops.proofs.WriteBy.{lies-or_moves, parted, puts-in, record-so}

-- THE REFUSALS in their order, and what is wanted, by what each case asks
abbrev judge : Option Content → Bool → Bool → Option No → Option No
judge content wide unbuilt room = first_some (
    when (not (is_some content)) no.NoStream ∷
    when (option_map_or is_packed content false) no.Packed ∷
    when wide no.TooBig ∷
    when unbuilt no.Unbuilt ∷
    room ∷ [])

abbrev wanted_by : Option Content → Bool → Result ℕ No → Result ℕ No
wanted_by content wide decided = and_then (plain_bytes content) (λ bytes. if wide then Err no.TooBig else decided)

judged : (at : Located) (content : Option Content) (wide unbuilt : Bool) (room : Option No) (decided : Result ℕ No)
    → unless (last_two unbuilt room) at ≡ with_at at decided
    → unless (judge content wide unbuilt room) at ≡ with_at at (wanted_by content wide decided)
judged at None wide unbuilt room decided last = refl
judged at (Some (Packed size)) wide unbuilt room decided last = refl
judged at (Some (Plain bytes)) true unbuilt room decided last = refl
judged at (Some (Plain bytes)) false unbuilt room decided last = last

-- it is this file that is wanted, or none
same-file : (content : Option Content) (wide : Bool) (decided : Result ℕ No) (file other : ℕ) → (decided ≡ Ok other → file ≡ other)
    → wanted_by content wide decided ≡ Ok other → file ≡ other
same-file None wide decided file other same e = cc
same-file (Some (Packed size)) wide decided file other same e = cc
same-file (Some (Plain bytes)) true decided file other same e = cc
same-file (Some (Plain bytes)) false decided file other same e = same e

module _ (facts : Facts) (view : VolumeView) (opens : List OpenEntry) (now session handle from : ℕ) (bytes : List ℕ)
    (tells : TellsFacts view facts) where
  abbrev m : Machine
  m = machine_on view opens now

  abbrev command : Command
  command = c.Hwrite handle from bytes

  abbrev len : ℕ
  len = length bytes

  abbrev found_open : Option OpenEntry
  found_open = find (λ (entry : OpenEntry). is_handle session handle entry && contains entry.access to_write) opens

  abbrev at : OpenEntry → Located
  at entry = with_stream (read view) entry.stream (at_file (read view) None entry.file)

  abbrev cannot : OpenEntry → Bool
  cannot entry = cannot_edit (is_whole_table view) (read view) entry.file

  -- whether the bytes go over bytes; or else it is a value, of a file without a list, and can be as long
  abbrev goes : OpenEntry → Bool
  goes entry = goes_over (cluster_bytes view.layout) (stream_parts view (read view) (at entry)) from len

  abbrev value : OpenEntry → Bool
  value entry = is_some (stream_value (stream_parts view (read view) (at entry)))

  abbrev alone : OpenEntry → Bool
  alone entry = has_no_list view entry.file

  abbrev fits : OpenEntry → Bool
  fits entry =
      gets_no_longer (from + len) (at entry).content
      || fits_in_record view entry.file (stream_parts view (read view) (at entry)) (from + len)

  -- .. or lies in clusters, in one part, and can take what they need
  abbrev extent : OpenEntry → Bool
  extent entry = in_extent (first_part (stream_parts view (read view) (at entry)))

  abbrev one : OpenEntry → Bool
  one entry = length (stream_parts view (read view) (at entry)) == 1

  abbrev reaches : OpenEntry → Bool
  reaches entry = can_reach view entry.file (stream_parts view (read view) (at entry)) from len

  -- .. or is a value that can leave its record for them
  abbrev begins : OpenEntry → Bool
  begins entry = nat_le from (stream_value_len (stream_parts view (read view) (at entry)))

  abbrev leaves : OpenEntry → Bool
  leaves entry = can_leave view entry.file (stream_parts view (read view) (at entry)) (from + len)
      (new_clusters (cluster_bytes view.layout) (stream_parts view (read view) (at entry)) from len)

  abbrev over : OpenEntry → Bool
  over entry = can_write_over view entry.stream from len entry.file

  abbrev can : OpenEntry → Bool
  can entry = can_resize view entry.stream (from + len) entry.file

  abbrev reach : OpenEntry → Bool
  reach entry = can_reach_there view entry.stream from len entry.file && has_placed_bits view

  abbrev asked : OpenEntry → Option No
  asked entry = room_to_write view entry.stream from len entry.file

  abbrev behind : OpenEntry → Option No
  behind entry = room_to_reach view entry.stream from len entry.file

  no-room : (entry : OpenEntry) → over entry ≡ true → facts.no_room m command (at entry) ≡ None
  no-room entry is =
      tells.no_room m command (at entry) ∙ has-room view (read view) command (at entry) refl refl (can-of (cannot entry) (goes entry) is)

  -- the room that is asked for, where the bytes do not end within the stream
  abbrev within : OpenEntry → Bool
  within entry = is_in_place (cluster_bytes view.layout) (stream_parts view (read view) (at entry)) from len

  abbrev unless_within : OpenEntry → Bool → Option No
  unless_within entry inside = if inside then None
      else no_room_alone view entry.file (new_clusters (cluster_bytes view.layout) (stream_parts view (read view) (at entry)) from len)

  asked-of : (entry : OpenEntry) → is_some (at entry).content ≡ true
      → facts.no_room m command (at entry) ≡ unless_within entry (within entry)
  asked-of entry there =
      tells.no_room m command (at entry)
      ∙ value-room view (read view) command (at entry) refl refl (located-counted view (read view) (at entry) refl there) there
      ∙ asked-unless (no_room_alone view entry.file) (within entry)
      (new_clusters (cluster_bytes view.layout) (stream_parts view (read view) (at entry)) from len)

  room : (entry : OpenEntry) → over entry ≡ false → can entry ≡ true → facts.no_room m command (at entry) ≡ asked entry
  room entry other is =
      let built = record-so (cannot entry) (goes entry) (value entry) (alone entry) (fits entry) other is in
      let parts = and_parts (not (goes entry)) ((value entry && alone entry) && fits entry) built in
      let both = (and_parts (value entry && alone entry) (fits entry) parts.1).0 in
      let its = (and_parts (value entry) (alone entry) both).0 in
      asked-of entry (value-there view (read view) (at entry) its)
      ∙ ap (unless_within entry) (not-within (cluster_bytes view.layout) (stream_parts view (read view) (at entry)) from len its
      (not-true (goes entry) parts.0))

  behind-room : (entry : OpenEntry) → over entry ≡ false → reach entry ≡ true → facts.no_room m command (at entry) ≡ behind entry
  behind-room entry other is =
      asked-of entry (elim (lies-or_moves (cannot entry) (value entry) (alone entry) (fits entry) (extent entry) (one entry)
      (has_placed_bits view) (reaches entry) (begins entry) (leaves entry) is) [
        | inl lies ↦ extent-there view (read view) (at entry) lies
        | inr moves ↦ value-there view (read view) (at entry) moves
      ])

  abbrev decided : OpenEntry → Result ℕ No
  decided entry = if_written_by (over entry) (can entry) (reach entry) (asked entry) (behind entry) entry.file

  -- the refusal that is due; opens are not asked
  refusal-is : (entry : OpenEntry) → refusal facts m session command (subject_of command) (at entry)
      ≡ judge (at entry).content (is_wide from len) (not (over entry || (can entry || reach entry))) (facts.no_room m command (at entry))
  refusal-is entry =
      let n = find-never opens entry.file in
      let w = tells.whole_table in
      let o = tells.built_for m command (at entry) in
      let both : (cannot_edit facts.whole_table (read view) entry.file || not (facts.built_for m command (at entry)))
      ≡ not (over entry || (can entry || reach entry)) =
      ap (λ b. cannot_edit b (read view) entry.file || not (facts.built_for m command (at entry))) w
      ∙ ap (λ b. cannot entry || not b) (o ∙ three-ways view (read view) command (at entry) refl)
      ∙ parted (cannot entry) (goes entry) (value entry) (alone entry) (fits entry)
      (extent entry) (one entry) (has_placed_bits view) (reaches entry) (begins entry) (leaves entry) in
      rw (n, both) refl

  outcome-is : (entry : OpenEntry) → found_open ≡ Some entry
      → outcome facts m session command ≡ with_at (at entry) (hwrite_in view entry.stream from len entry.file)
  unfolding outcome locate
  outcome-is entry e =
      ap (λ o. and_then (at_open (read view) o) (λ x. unless (refusal facts m session command (subject_of command) x) x)) e
      ∙ ap (λ o. unless o (at entry)) (refusal-is entry)
      ∙ judged (at entry) (at entry).content (is_wide from len) (not (over entry || (can entry || reach entry)))
      (facts.no_room m command (at entry))
      (decided entry)
      (last-written (at entry) entry.file (over entry) (can entry) (reach entry) (facts.no_room m command (at entry)) (asked entry)
      (behind entry) (no-room entry) (room entry) (behind-room entry))

  no-handle : found_open ≡ None → outcome facts m session command ≡ Err no.NoHandle
  unfolding outcome locate
  no-handle e = rw e refl

  -- THE FILE was found, by an open of which the stream is
  pub record FindsOpen (file : ℕ) : Type 0 where
    pub leads : LeadsToFile facts m session command file
    pub entry : OpenEntry
    pub open_is : found_open ≡ Some entry
    pub stream_is : leads.at.stream ≡ entry.stream
    pub node_is : leads.at.node ≡ node_of (read view) file
    pub content_is : leads.at.content ≡ content_named (read view) entry.stream (node_of (read view) file)

  ok-file : (entry : OpenEntry) (file : ℕ) → hwrite_in view entry.stream from len entry.file ≡ Ok file → entry.file ≡ file
  ok-file entry file is =
      same-file (at entry).content (is_wide from len) (decided entry) entry.file file
      (written-file (over entry) (can entry) (reach entry) (asked entry) (behind entry) entry.file file) is

  pub hwrite-found : (file : ℕ) → hwrite_wanted view opens session handle from len ≡ Ok file → FindsOpen file
  hwrite-found file is = by found_open refl is
    where
      by : (o : Option OpenEntry) → found_open ≡ o
          → option_map_or (λ (entry : OpenEntry). hwrite_in view entry.stream from len entry.file) o (Err no.NoHandle) ≡ Ok file
          → FindsOpen file
      by None e is = cc
      by (Some entry) e is = record {
        leads = record {
          at = at entry;
          is = outcome-is entry e ∙ ap (with_at (at entry)) is;
          file_is = ok-file entry file is;
        };
        entry = entry;
        open_is = e;
        stream_is = refl;
        node_is = ap (node_of (read view)) (ok-file entry file is);
        content_is = ap (λ f. content_named (read view) entry.stream (node_of (read view) f)) (ok-file entry file is);
      }

  pub hwrite-refused : (refused : No) → hwrite_wanted view opens session handle from len ≡ Err refused
      → due facts m session command ≡ Err refused
  unfolding due
  hwrite-refused refused is = ap (answered facts m session command) (by found_open refl is)
    where
      by : (o : Option OpenEntry) → found_open ≡ o
          → option_map_or (λ (entry : OpenEntry). hwrite_in view entry.stream from len entry.file) o (Err no.NoHandle) ≡ Err refused
          → outcome facts m session command ≡ Err refused
      by None e is = let same : no.NoHandle ≡ refused = cc in no-handle e ∙ ap Err same
      by (Some entry) e is = outcome-is entry e ∙ ap (with_at (at entry)) is

-- IT IS THAT OF THE COMMAND
pub hwrite-by : (opens : List OpenEntry) (now session handle from : ℕ) (bytes : Bor (List ℕ)) (view : VolumeView)
    → IsFileEditBy view opens now session (c.Hwrite handle from bytes.now) (hwrite_edit (s.Write from bytes) opens session handle now)
unfolding opens_after
hwrite-by opens now session handle from bytes view = record {
  edits = refl;
  is = refl;
  found = λ told facts tells file is. (hwrite-found facts view opens now session handle from bytes.now tells file is).leads;
  refused = λ told facts tells why is. hwrite-refused facts view opens now session handle from bytes.now tells why is;
  stages = λ told facts tells file is new p.
      let x = hwrite-found facts view opens now session handle from bytes.now tells file is in
      let same : p.entry ≡ x.entry = let e = sym p.opened ∙ x.open_is in cc in
      let stream = ap (λ (entry : OpenEntry). entry.stream) (sym same) in
      edited-file (s.Write from bytes) view new file p.entry.stream now p.edits opens (c.Hwrite handle from bytes.now) x.leads.at
      (puts-in view new file p.entry.stream from bytes now p.edits x.leads.at x.leads.file_is (x.stream_is ∙ stream) x.node_is
      (x.content_is ∙ ap (λ n. content_named (read view) n (node_of (read view) file)) stream) opens);
  opens_stay = λ at. refl;
  moment_stays = λ at. refl;
  few = λ new file. omega arith;
}
