-- ENTRIES behind the first mark: it names no index, no name, and nothing that an entry tells, so they are as the calls left them.
use Rattle.std.proofs.Common.{◌≡◌, ◌==◌, ℕ, true, false, List, [], ◌∷◌, inl, inr, refl, sym, ap, subst, ◌∙◌, arith}
use Rattle.std.proofs.lemmas.Bool.{eqb-true, or_cases, or_parts}
use Rattle.std.specs.List.{Contains}
use Rattle.ntfs_def.specs.Node.{Item}
use Rattle.ntfs_def.specs.StandardInformation.{standard_times}
use Rattle.ntfs_def.specs.declared.kinds.TheConstants.{DATA, FILE_NAME, STANDARD_INFORMATION}
use Rattle.ntfs_def.specs.declared.records.TheConstants.{LOG_FILE}
use Rattle.volume_def.specs.Files.{parts, parts_at, records_of}
use Rattle.volume_def.specs.Readable.{IsDirectory}
use Rattle.volume_def.specs.Sound as clauses
use Rattle.volume_def.specs.Table.{cluster_bytes}
use Rattle.volume_def.specs.Values.{first_part}
use Rattle.volume_def.specs.View.{VolumeView}
use Rattle.list_laws.proofs.SameItemsLaws.{SameItems-sym}
use Rattle.volume_def.proofs.SoundLaws.{readable-sound}
use Rattle.tree_model.specs.Reading.{standard_flags, standard_of}
use Rattle.tree_model.specs.Subjects.{Located}
use Rattle.tree_model.specs.Tree.{Tree}
use Rattle.tree_model.specs.declared.command.Command.{Command}
use Rattle.edit_def.specs.Edited.{is_room_key}
use Rattle.edit_def.specs.Items.{HasItems, IsCurrent, KeepsItems, stream_sizes}
use Rattle.edit_def.specs.Kept.{KeepsBut, either, is_name_told, kept_told, key_of, told_names}
use Rattle.edit_def.proofs.IndexLaws.{items-kept}
use Rattle.edit_def.proofs.NamesLaws.{bases-of}
use Rattle.session_def.specs.FirstMark.{is_first_key}
use Rattle.session_def.specs.Indexes.{KeepsRest, KeepsRests}
use Rattle.session_def.specs.Kept.{KeepsEntries, file_in}
use Rattle.session_def.specs.Named.{is_one_of, is_own_key, is_times_key}
use Rattle.session_def.specs.State.{State}
use Rattle.in_place.proofs.KeptInPlace as keeps
use Rattle.in_place.proofs.OtherParts.{at-other, told-other}
use Rattle.in_place.proofs.PlacesSame.{told-passed}
use Rattle.in_place.proofs.RewriteLaws.{Rewrites-more, second-less}
use Rattle.in_place_owed.specs.SetsInPlace.{SetsInPlace}
use Rattle.in_place_owed.proofs.BothRewrites.{apart-staged}
use Rattle.in_place_owed.proofs.StandardOwed.{flag-same, standard-among}

module _ (before next : State) (command : Command) (at : Located) (staged : VolumeView) (s : SetsInPlace before next command at staged)
  where
    abbrev new : VolumeView
    new = next.view

    -- THE WAY BACK: what the first mark keeps, the volume before it had.
    back : KeepsBut (either is_room_key is_first_key) new staged
    back f =
        let named = either is_room_key is_first_key in
        let lies = apart-staged before next command at staged s in
        let k = keeps.kept-room is_first_key staged new s.first.rewrites lies.owners lies.some lies.unnamed f in
        let w = Rewrites-more is_first_key named staged new (second-less is_room_key is_first_key) s.first.rewrites in
        record {
          told = SameItems-sym (kept_told named staged f) (kept_told named new f) k.told;
          order = inl (sym (told-other named staged new w f));
          spots = λ kind name free vcn. sym (k.spots kind name free vcn);
          clusters = λ kind name free vcn c there. sym (k.clusters kind name free vcn c (sym (k.spots kind name free vcn) ∙ there));
        }

    pub items-back : (dir : ℕ) → KeepsItems new staged dir
    items-back dir =
        items-kept (either is_room_key is_first_key) new staged back (ap cluster_bytes (sym s.first.rewrites.layout))
        (bases-of (records_of new) (s.settled clauses.References)) (readable-sound new s.settled)
        (readable-sound staged s.sound) refl dir refl refl refl

    -- WHAT A FILE SHOWS in an entry
    standard-first : (f : ℕ) → parts_at new f STANDARD_INFORMATION [] ≡ parts_at staged f STANDARD_INFORMATION []
    standard-first f = at-other is_first_key staged new s.first.rewrites f STANDARD_INFORMATION [] refl

    value-first : (f : ℕ) → standard_of (parts (records_of new) f) ≡ standard_of (parts (records_of staged) f)
    value-first f =
        sym (standard-among (parts (records_of new) f)) ∙ ap standard_of (standard-first f) ∙ standard-among (parts (records_of staged) f)

    current-first : (f : ℕ) (key : List ℕ) → (f == LOG_FILE) ≡ false → IsCurrent staged f key → IsCurrent new f key
    current-first f key other c = record {
      times = c.times ∙ ap standard_times (sym (value-first f));
      flags = c.flags ∙ ap standard_flags (sym (value-first f));
      sizes = c.sizes ∙ ap (λ xs. stream_sizes (first_part xs))
          (sym (at-other is_first_key staged new s.first.rewrites f DATA [] (rw other refl)));
    }

    -- the file of the command is not the log
    no-log : (f : ℕ) → is_one_of (at.file ∷ []) f ≡ true → (f == LOG_FILE) ≡ false
    no-log f is =
        let free = or_parts (is_own_key before.machine.tree command at 0 (key_of LOG_FILE STANDARD_INFORMATION [])) _
        (s.firsts LOG_FILE (omega arith) STANDARD_INFORMATION []) in
        let times = or_parts (is_times_key (at.file ∷ []) (key_of LOG_FILE STANDARD_INFORMATION [])) _ free.1 in
        let other = or_parts (at.file == LOG_FILE) false times.0 in
        subst (λ g. (g == LOG_FILE) ≡ false) (only is) other.0
      where
        only : is_one_of (at.file ∷ []) f ≡ true → at.file ≡ f
        only is = elim (or_cases (at.file == f) false is) [
          | inl e ↦ eqb-true at.file f e
          | inr e ↦ cc
        ]

    -- from any tree on
    pub entries-first : (tree : Tree) (was now : List Item) → KeepsEntries staged tree next.machine.tree (at.file ∷ []) [] was now
        → KeepsEntries new tree next.machine.tree (at.file ∷ []) [] was now
    entries-first tree was now kept = record {
      others = kept.others;
      own = λ item there its. elim (kept.own item there its) [
        | inl current ↦ inl (current-first (file_in item) item.key (no-log (file_in item) its) current)
        | inr same ↦ inr same
      ];
    }

    pub entries-owed : (dir : ℕ) (was now : List Item) → IsDirectory before.view dir → HasItems before.view dir was → HasItems new dir now
        → KeepsEntries new before.machine.tree next.machine.tree (at.file ∷ []) [] was now
    entries-owed dir was now is has becomes =
        entries-first before.machine.tree was now (s.entries dir was now is has (items-back dir now becomes))

    -- WHAT THE TREE DOES NOT SHOW
    rest-first : (f : ℕ) (was now : List ℕ) → KeepsRest staged f was now → KeepsRest new f was now
    rest-first f was now kept = record {
      flags = kept.flags;
      marks = elim kept.marks [
        | inl same ↦ inl same
        | inr has ↦ inr (has ∙ sym (flag-same 0x600 staged new f (standard-first f)))
      ];
      last = kept.last;
      name = kept.name;
    }

    names-first : (f : ℕ) → told_names new f ≡ told_names staged f
    names-first f = told-passed is_first_key staged new s.first.rewrites f is_name_told (λ t is.
        ap (λ kind. is_first_key (key_of f kind t.name)) (eqb-true t.kind FILE_NAME is))

    pub rests-owed : (dir : ℕ) (was now : List Item) → IsDirectory before.view dir → HasItems before.view dir was → HasItems new dir now
        → KeepsRests new (at.file ∷ []) [] was now
    rests-owed dir was now is has becomes =
        let kept = s.rests dir was now is has (items-back dir now becomes) in
        record {
          stayed = λ a b was_in now_in its same stays. rest-first (file_in b) a.key b.key (kept.stayed a b was_in now_in its same stays);
          came = λ b now_in its fresh name named same.
              rest-first (file_in b) _ b.key
              (kept.came b now_in its fresh name (subst (λ xs. Contains xs name) (names-first (file_in b)) named) same);
        }
