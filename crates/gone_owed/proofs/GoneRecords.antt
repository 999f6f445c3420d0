-- RECORDS, copies, headers, lists and the log: what the file that went left of them, and what was kept behind it, both keep.
use Rattle.std.proofs.Common.{◌≡◌, ◌≢◌, ◌⊎◌, ◌+◌, ◌*◌, ◌/◌, ◌%◌, ◌<◌, ◌≤◌, ◌==◌, ◌&&◌, ◌||◌, ℕ, Bool, true, false, cond, List, [], ◌∷◌}
use Rattle.std.proofs.Common.{Option, Some, None, arith, codes, filter, nat_eq, not, refl, sym, ap, subst, inl, inr, ◌∙◌, if◌then◌else◌}
use mathlib.Core.Path.{fun_ext}
use Rattle.std.specs.List.{Contains, starts_with}
use Rattle.std.specs.Option.{option_map, option_map_or}
use Rattle.std.specs.Prelude.{IsSomeAnd, IsTrue, is_none, is_some, slice_index, unwrap_or}
use Rattle.std.proofs.lemmas.Bool.{and_parts, cases_eq, eq-eqb, or_from, or_left, or_parts, or_right}
use Rattle.std.proofs.lemmas.List.Elements.{All-contains}
use Rattle.list_laws.proofs.MemberLaws.{All-from_Contains, Contains-from_map, Contains-map}
use Rattle.ntfs_def.specs.Attribute.{attributes, first_value}
use Rattle.ntfs_def.specs.Fixup.{opened_of}
use Rattle.ntfs_def.specs.FileName.{FileName}
use Rattle.ntfs_def.specs.Flags.{is_packed}
use Rattle.ntfs_def.specs.KeyOrder.{fold_of}
use Rattle.ntfs_def.specs.ListOrder.{AreInOrder}
use Rattle.ntfs_def.specs.Record.{Header, Reference, header_of, is_in_use, record_flags, sequence_of}
use Rattle.ntfs_def.specs.VolumeInformation.{dirty_bit}
use Rattle.ntfs_def.specs.declared.kinds.TheConstants.{DATA, VOLUME_INFORMATION}
use Rattle.ntfs_def.specs.declared.records.TheConstants.{CLUSTER_BITMAP, LOG_FILE, MFT, ROOT, UPCASE, VOLUME}
use Rattle.volume_def.specs.CaseClause.{volume_fold}
use Rattle.volume_def.specs.Files.{Part, Record, content_extent, file_of, is_base, is_directory, is_of, record_on}
use Rattle.volume_def.specs.Freed.{sequence_after, stored_sequence}
use Rattle.volume_def.specs.Readable.{IsDirectory}
use Rattle.volume_def.specs.Table.{TableLayout, cluster_bytes}
use Rattle.volume_def.specs.Values.{first_part, spot_at}
use Rattle.volume_def.specs.View.{VolumeView}
use Rattle.tree_model.specs.IndexRoom.{point_index}
use Rattle.tree_model.specs.Reading.{link_for, read}
use Rattle.tree_model.specs.Subjects.{Located, at_file}
use Rattle.tree_model.specs.Tree.{Tree}
use Rattle.tree_model.specs.declared.command.Command.{Command}
use Rattle.tree_model.specs.declared.command.Command.TheVariants as c
use Rattle.tree_model.specs.declared.tree.Node.{Node}
use Rattle.edit_def.specs.Forms.{ComeRightly, IsNewForm, forms_of}
use Rattle.edit_def.specs.Kept.{Key}
use Rattle.edit_def.specs.ListOrder.{KeepsListOrder, entries_of}
use Rattle.edit_def.specs.Unused.{IsPastIds, KeepsHeader, KeepsUnused}
use Rattle.session_def.specs.Cost.{is_changed_file, is_file_of, log_bytes, log_parts, log_size}
use Rattle.session_def.specs.Done.{first_cost}
use Rattle.session_def.specs.Named.{changes_points, has_entry_of, is_one_of}
use Rattle.session_def.specs.Owed.{Owes}
use Rattle.session_def.specs.Room.{KeepsBlocks, KeepsCopies, KeepsLogEnd, is_written_file}
use Rattle.session_def.specs.State.{State, dirty_flag}
use Rattle.made_edits.specs.Blank.{blank_part, blank_record}
use Rattle.made_edits.specs.InPlace.{Rewrites}
use Rattle.made_edits.proofs.RoomSame.{used-same}
use Rattle.made_edits.proofs.SameRecords.{on-same}
use Rattle.in_place_owed.proofs.Owes as setting
use Rattle.gone_edits.specs.Left.{LeavesRest}
use Rattle.gone_owed.specs.GoneOwed.{SetsBehindGone, at_gone, between}
use Rattle.gone_owed.proofs.GoneBase as base
use Rattle.gone_owed.proofs.GoneTree as trees
use Rattle.gone_owed.proofs.GoneTree.{entry-fewer}

never : {b : Bool} → b ≡ true → b ≡ false → ⊥
never x y = cc

some-same : (a b : Record) → ◌≡◌ {A = Option Record} (Some a) (Some b) → a ≡ b
some-same a b e = cc

-- the number of a block that is in use
sequence-used : (stored : List ℕ) → is_in_use stored ≡ true → stored_sequence stored ≡ (header_of (opened_of stored)).sequence
unfolding header_of
sequence-used stored used =
    ap (λ b. cond b (sequence_of (opened_of stored)) 0) (and_parts (starts_with nat_eq stored (codes "FILE"))
    (record_flags stored % 2 == 1) used).0

-- a file whose records are not written by one is not by the other, if less is changed
written-less : (more less : ℕ → Bool) (f : ℕ) → (more f ≡ false → less f ≡ false) → is_written_file more f ≡ false
    → is_written_file less f ≡ false
written-less more less f give free =
    let a = or_parts (f == MFT) _ free in
    let b = or_parts (f == VOLUME) _ a.1 in
    let d = or_parts (f == CLUSTER_BITMAP) (more f) b.1 in
    or_from (f == MFT) _ a.0 (or_from (f == VOLUME) _ b.0 (or_from (f == CLUSTER_BITMAP) (less f) d.0 (give d.1)))

-- ids are below the next one of parts that say the same
past-ids : (was now : Record) → blank_record now ≡ blank_record was → IsPastIds was → IsPastIds now
past-ids was now e (inl most) = inl (ap (λ (r : Record). r.header.next_id) e ∙ most)
past-ids was now e (inr all) = inr (All-from_Contains (λ (x : Part). x.id < now.header.next_id) now.parts (λ x there.
    let came = subst (λ xs. Contains xs (blank_part x)) (ap (λ (r : Record). r.parts) e) (Contains-map blank_part now.parts x there) in
    let from = Contains-from_map blank_part was.parts (blank_part x) came in
    let low = All-contains (λ (y : Part). y.id < was.header.next_id) was.parts from.0 all from.1 in
    let id : from.0.id ≡ x.id = ap (λ (y : Part). y.id) from.2 in
    let next : now.header.next_id ≡ was.header.next_id = ap (λ (r : Record). r.header.next_id) e in
    omega (arith, low, id, next)))

-- a header that is kept twice
headers-then : (was mid now : Header) → KeepsHeader was mid → KeepsHeader mid now → KeepsHeader was now
headers-then was mid now first second = record {
  flags = second.flags ∙ first.flags;
  number = second.number ∙ first.number;
  next_id = let a = first.next_id in let b = second.next_id in omega (arith, a, b);
}

module _ (before next : State) (n : ℕ) (file parent : Node) (name : FileName) (mid staged : VolumeView)
    (s : SetsBehindGone before next n name.parent.number file parent name mid staged) where
  abbrev dir : ℕ
  dir = name.parent.number

  abbrev old : VolumeView
  old = before.view

  abbrev new : VolumeView
  new = next.view

  abbrev tree : Tree
  tree = before.machine.tree

  abbrev setter : Command
  setter = c.Setattr [] 0

  abbrev leads : Located
  leads = at_gone tree n name

  abbrev folder : Located
  folder = at_file (read mid) None dir

  abbrev named : Key → Bool
  named = base.named before next n file parent name mid staged s

  rewrote : Rewrites named mid new
  rewrote = base.behind before next n file parent name mid staged s

  left : LeavesRest old mid n dir
  left = base.left before next n file parent name mid staged s

  -- what is owed of all that came behind it
  set : Owes (between before mid) next setter folder n
  set = setting.owes (between before mid) next setter folder n staged s.behind

  pub low-other : (m : ℕ) → m < 24 → m ≢ n
  low-other m low is = let high = base.ordinary before next n file parent name mid staged s in omega (arith, low, is, high)

  pub low-apart : (m : ℕ) → m < 24 → m ≢ ROOT → m ≢ dir
  low-apart m low other is = elim left.ordinary [ inl root ↦ other (is ∙ root) | inr high ↦ omega (arith, low, is, high) ]

  pub away-now : (m : ℕ) (r : Record) → record_on mid m ≡ Some r → m ≢ n
  away-now m r at is = never (ap is_some (sym (ap (record_on mid) is) ∙ at)) (ap is_some left.free)

  -- A RECORD THAT STAYS IN USE was so, of the same file
  held-still : (m : ℕ) (was : Record) → record_on old m ≡ Some was → m ≢ n
      → (r : Record) × (record_on mid m ≡ Some r) × (file_of m r ≡ file_of m was)
  held-still m was at away = elim (cases_eq m dir) [
    | inl same ↦
        let had : left.directory.was ≡ was =
        some-same left.directory.was was (sym left.directory.was_at ∙ sym (ap (record_on old) same) ∙ at) in (
          left.directory.now,
          ap (record_on mid) same ∙ left.directory.now_at,
          ap (λ (base : Option Reference). unwrap_or (option_map (λ (b : Reference). b.number) base) m)
              (ap (λ (h : Header). h.base) left.directory.header)
              ∙ ap (file_of m) had,
        )
    | inr ne ↦ (was, left.leaves.records m away ne ∙ at, refl)
  ]

  -- .. and so is a directory
  pub directory-still : (g : ℕ) → g ≢ n → IsDirectory old g → IsDirectory mid g
  directory-still g away is = elim (cases_eq g dir) [
    | inl same ↦
        let kept = left.directory.header in
        subst (λ (o : Option Record). IsSomeAnd o (λ r. IsTrue (is_base r) × IsTrue (is_directory r)))
        (sym (ap (record_on mid) same ∙ left.directory.now_at)) (
          ap (λ (h : Header). is_none h.base) kept ∙ left.directory.base,
          ap (λ (h : Header). h.flags / 2 % 2 == 1) kept ∙ left.directory.directory,
        )
    | inr ne ↦ subst (λ (o : Option Record). IsSomeAnd o (λ r. IsTrue (is_base r) × IsTrue (is_directory r)))
        (sym (left.leaves.records g away ne)) is
  ]

  -- RECORDS of files that are not changed
  set-less : (path : List (List ℕ)) (made : ℕ) (f : ℕ)
      → is_changed_file old tree next.machine.tree (c.Rm path) leads made f ≡ false
      → is_changed_file mid (read mid) next.machine.tree setter folder n f ≡ false
  set-less path made f free =
      let files : List ℕ = n ∷ dir ∷ [] in
      let front = is_one_of files f || has_entry_of tree files f in
      let points = changes_points tree (c.Rm path) leads && is_file_of (point_index old) f in
      let a = or_parts (front || has_entry_of next.machine.tree files f || points) _ free in
      let b = or_parts (front || has_entry_of next.machine.tree files f) points a.0 in
      let d = or_parts front (has_entry_of next.machine.tree files f) b.0 in
      let k = or_parts (is_one_of files f) (has_entry_of tree files f) d.0 in
      let own = or_parts (n == f) (is_one_of (dir ∷ []) f) k.0 in
      let was = trees.entry-less tree (link_for n name) dir (base.other before next n file parent name mid staged s) (read mid)
      (base.reads before next n file parent name mid staged s) f k.1 in
      let now = entry-fewer next.machine.tree n dir f d.1 in
      or_from _ false (or_from _ false (or_from _ _ (or_from (is_one_of (dir ∷ []) f) _ own.1 was) now) refl) refl

  changed-by : (path : List (List ℕ)) (made : ℕ) (f : ℕ) → is_one_of (n ∷ dir ∷ []) f ≡ true
      → is_changed_file old tree next.machine.tree (c.Rm path) leads made f ≡ true
  changed-by path made f own = or_left _ _ (or_left _ _ (or_left _ _ (or_left _ _ own)))

  changed-file : (path : List (List ℕ)) (made : ℕ) → is_changed_file old tree next.machine.tree (c.Rm path) leads made n ≡ true
  changed-file path made = changed-by path made n (or_left (n == n) ((dir == n) || false) (eq-eqb n n refl))

  changed-directory : (path : List (List ℕ)) (made : ℕ) → is_changed_file old tree next.machine.tree (c.Rm path) leads made dir ≡ true
  changed-directory path made =
      changed-by path made dir (or_right (n == dir) ((dir == dir) || false) (or_left (dir == dir) false (eq-eqb dir dir refl)))

  -- the file of a base record is that of its number
  based : (m : ℕ) (o : Option Reference) → is_none o ≡ true → unwrap_or (option_map (λ (b : Reference). b.number) o) m ≡ m
  based m None e = refl
  based m (Some b) e = cc

  own-file : (m : ℕ) (r : Record) → record_on old m ≡ Some r → (m ≡ n) ⊎ (m ≡ dir) → file_of m r ≡ m
  own-file m r at (inl same) =
      based m r.header.base
      (subst (λ (o : Option Record). IsSomeAnd o (λ r. IsTrue (is_base r))) (ap (record_on old) (sym same) ∙ at) left.used)
  own-file m r at (inr same) =
      let had : left.directory.was ≡ r = some-same left.directory.was r (sym left.directory.was_at ∙ sym (ap (record_on old) same) ∙ at) in
      based m r.header.base (subst (λ (it : Record). is_base it ≡ true) had left.directory.base)

  -- one of another file is of neither
  apart-from : (path : List (List ℕ)) (made : ℕ) (m : ℕ) (r : Record) → record_on old m ≡ Some r
      → is_written_file (is_changed_file old tree next.machine.tree (c.Rm path) leads made) (file_of m r) ≡ false
      → (m ≡ n) ⊎ (m ≡ dir) → ⊥
  apart-from path made m r at free same =
      let files = is_changed_file old tree next.machine.tree (c.Rm path) leads made in
      let f = file_of m r in
      let its : files m ≡ true = elim same [
        | inl is ↦ ap files is ∙ changed-file path made
        | inr is ↦ ap files is ∙ changed-directory path made
      ] in
      never (ap files (own-file m r at same) ∙ its)
      (or_parts (f == CLUSTER_BITMAP) (files f) (or_parts (f == VOLUME) _ (or_parts (f == MFT) _ free).1).1).1

  pub blocks : (path : List (List ℕ)) (made : ℕ)
      → KeepsBlocks (is_changed_file old tree next.machine.tree (c.Rm path) leads made) old new
  blocks path made m r at free =
      let files = is_changed_file old tree next.machine.tree (c.Rm path) leads made in
      set.blocks m r
      (left.leaves.records m (λ is. apart-from path made m r at free (inl is)) (λ is. apart-from path made m r at free (inr is)) ∙ at)
      (written-less files (is_changed_file mid (read mid) next.machine.tree setter folder n) (file_of m r)
      (set-less path made (file_of m r)) free)
      ∙ left.blocks files (changed-file path made) (changed-directory path made) m r at free

  pub copies : KeepsCopies old new
  copies m few same =
      set.copies m few (same ∙ sym (left.leaves.blocks m (low-other m (omega (arith, few)))
      (low-apart m (omega (arith, few)) (λ is. omega (arith, few, is))))) ∙ left.leaves.copies m few

  -- RECORDS NOT IN USE, and headers
  sequence-same : (m : ℕ) → stored_sequence (new.block m) ≡ stored_sequence (mid.block m)
  sequence-same m = elim (rewrote.blocks m) [
    | inl kept ↦ ap stored_sequence kept.block
    | inr r ↦ sequence-used (new.block m) r.used_still ∙ ap (λ (h : Header). h.sequence) r.header
        ∙ sym (sequence-used (mid.block m) r.used)
  ]

  used : (m : ℕ) → is_some (record_on new m) ≡ is_some (record_on mid m)
  used = used-same named mid new rewrote

  none-back : (m : ℕ) → record_on new m ≡ None → record_on mid m ≡ None
  none-back m none = by (record_on mid m) (sym (used m) ∙ ap is_some none)
    where
      by : (o : Option Record) → is_some o ≡ false → o ≡ None
      by None e = refl
      by (Some r) e = cc

  some-back : (m : ℕ) → is_some (record_on new m) ≡ true → is_some (record_on mid m) ≡ true
  some-back m some = sym (used m) ∙ some

  gone-now : (m : ℕ) (now : Record) → record_on new m ≡ Some now → m ≢ n
  gone-now m now bt is = never (some-back m (ap is_some bt)) (ap is_some (ap (record_on mid) is ∙ left.free))

  comes : (m : ℕ) (now : Record) → record_on old m ≡ None → record_on new m ≡ Some now → (now.header.number ≡ m) × IsPastIds now
  comes m now at bt = by (record_on mid m) refl
    where
      by : (o : Option Record) → record_on mid m ≡ o → (now.header.number ≡ m) × IsPastIds now
      by None none = absurd (never (some-back m (ap is_some bt)) (ap is_some none))
      by (Some r) there =
          let kept = left.unused.comes m r at there in
          let blank = sym (ap (option_map blank_record) bt)
          ∙ on-same named mid new rewrote m
          ∙ ap (option_map blank_record) there in
          let e = some-same (blank_record now) (blank_record r) blank in
          (ap (λ (x : Record). x.header.number) e ∙ kept.0, past-ids r now e kept.1)

  pub unused : KeepsUnused old new
  unused =
      let count : mid.layout.count ≡ old.layout.count =
      ap (λ (l : TableLayout). l.count) (base.layout before next n file parent name mid staged s) in
      let inside : (m : ℕ) → m < old.layout.count → m < mid.layout.count = λ m low. subst (λ k. m < k) (sym count) low in
      record {
        idle = λ m low was now.
            set.unused.idle m (inside m low) (none-back m now) now ∙ left.unused.idle m low was (none-back m now);
        freed = λ m low was now. sequence-same m ∙ left.unused.freed m low was (none-back m now);
        taken = λ m low was now. sequence-same m ∙ left.unused.taken m low was (some-back m now);
        stays = λ m low was now.
            subst (λ q. (q ≡ stored_sequence (old.block m)) ⊎ (q ≡ sequence_after (stored_sequence (old.block m)))) (sym (sequence-same m))
            (left.unused.stays m low was (some-back m now));
        headers = λ m was now at bt file number.
            let (r, there, same) = held-still m was at (λ is. gone-now m now bt is) in
            headers-then was.header r.header now.header
            (left.unused.headers m was r at there same (sym (sequence-same m) ∙ number))
            (set.unused.headers m r now there bt (file ∙ sym same) (sequence-same m));
        comes = comes;
      }

  -- HEADERS OF ATTRIBUTES
  pub forms : (f : ℕ) → ComeRightly old new f
  forms f = All-from_Contains (λ form. Contains (forms_of old f) form ⊎ IsNewForm form) (forms_of new f) (λ form c.
      elim (All-contains (λ form. Contains (forms_of mid f) form ⊎ IsNewForm form) (forms_of new f) form (set.made_forms f) c) [
        | inl there ↦ All-contains (λ form. Contains (forms_of old f) form ⊎ IsNewForm form) (forms_of mid f) form (left.forms f) there
        | inr fresh ↦ inr fresh
      ])

  -- LISTS stay in order, by the same table of case
  pub fold-same : volume_fold mid ≡ volume_fold old
  fold-same =
      ap fold_of (left.values UPCASE DATA [] (low-other UPCASE (omega arith)) refl
      (inr ((λ is. omega (arith, is)), (λ is. omega (arith, is)))))

  pub lists : (f : ℕ) → KeepsListOrder old new f
  lists f right =
      subst (λ order. AreInOrder order (entries_of new f)) fold-same
      (set.lists f (subst (λ order. AreInOrder order (entries_of mid f)) (sym fold-same) (left.lists f right)))

  -- THE LOG, and what the first mark costs
  log-same : log_parts mid ≡ log_parts old
  log-same = ap (filter (is_of DATA [])) (left.leaves.others LOG_FILE (low-other LOG_FILE (omega arith))
      (low-apart LOG_FILE (omega arith) (λ is. omega (arith, is))))

  log_bytes-same : log_bytes mid ≡ log_bytes old
  unfolding log_bytes
  log_bytes-same =
      ap (λ xs. option_map_or (log_size mid) (first_part xs) 0) log-same
      ∙ ap (λ g. option_map_or g (first_part (log_parts old)) 0) (fun_ext (λ (x : Part).
      ap (λ (o : Option Record). if is_some o && (is_some (content_extent x.content) && not (is_packed x.kind x.flags))
      then option_map_or (λ extent. extent.sizes.initialized) (content_extent x.content) 0 else 0)
      (left.leaves.records LOG_FILE (low-other LOG_FILE (omega arith)) (low-apart LOG_FILE (omega arith) (λ is. omega (arith, is))))))

  pub log_end : KeepsLogEnd old new
  log_end i cluster behind at =
      let size = base.size before next n file parent name mid staged s in
      let past = subst (λ bytes. (bytes + 511) / 512 * 512 ≤ i) (sym log_bytes-same) behind in
      let there = ap (λ m. spot_at (log_parts mid) (i / m)) size ∙ ap (λ xs. spot_at xs (i / cluster_bytes old.layout)) log-same ∙ at in
      subst (λ m. slice_index (new.cluster cluster) (i % m) ≡ slice_index (mid.cluster cluster) (i % m)) size
      (set.log_end i cluster past there)
      ∙ left.log_end i cluster behind at

  pub first_cost-same : first_cost mid ≡ first_cost old
  first_cost-same =
      ap (λ block. if option_map_or (λ bit. bit == 1) (option_map dirty_bit (first_value VOLUME_INFORMATION (attributes
      (opened_of block)))) false then 0 else 2 + (log_bytes mid + 511) / 512)
      (left.leaves.blocks VOLUME (low-other VOLUME (omega arith)) (low-apart VOLUME (omega arith) (λ is. omega (arith, is))))
      ∙ ap (λ (m : ℕ). if option_map_or (λ bit. bit == 1) (dirty_flag old) false then 0 else 2 + (m + 511) / 512) log_bytes-same
