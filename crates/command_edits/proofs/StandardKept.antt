-- Of $STANDARD_INFORMATION of each file that is there what the tree does not show stays.
use Rattle.std.proofs.Common.{Bool, List, None, Option, Some, [], ap, false, inl, inr, length, refl, subst, sym, true, ℕ, ◌&&◌, ◌==◌, ◌∙◌}
use Rattle.std.proofs.Common.{eq-eqb, ◌+◌, ◌≡◌, ◌≢◌, ◌⊎◌}
use Rattle.std.specs.Prelude.{is_some, nat_le, nat_lt}
use Rattle.std.proofs.lemmas.Bool.{and_right, cases_eq, ne_eqb, or_from, or_parts}
use Rattle.ntfs_def.specs.FileName.{FileName}
use Rattle.ntfs_def.specs.declared.kinds.TheConstants.{STANDARD_INFORMATION}
use Rattle.volume_def.specs.FileNames.{names_of}
use Rattle.volume_def.specs.Files.{parts_at, records_of}
use Rattle.volume_def.specs.Readable.{IsReadableVolume}
use Rattle.volume_def.specs.View.{VolumeView}
use Rattle.tree_model.specs.Bill.{has_short_standard}
use Rattle.tree_model.specs.Subjects.{Machine}
use Rattle.edit_def.specs.Account.{Wants}
use Rattle.edit_def.specs.Edited.{Edited, is_room_key}
use Rattle.edit_def.specs.Kept.{Key, either, key_of, same_key}
use Rattle.edit_def.specs.Marks.{Marks}
use Rattle.edit_def.specs.Names.{HasRightBases, KeepsNames, Numbers, gone_names, numbers_at}
use Rattle.edit_def.proofs.IndexLaws.{cluster-size}
use Rattle.edit_def.proofs.NodeLaws.{number-file}
use Rattle.session_def.specs.Kept.{KeepsStandard, KeepsUnshown, is_shown_byte}
use Rattle.session_def.proofs.UnnamedLaws.{standard-unnamed}
use Rattle.command_edits.specs.Between.{IsBetween}
use Rattle.command_edits.specs.Calls.{SetsNode}
use Rattle.command_edits.specs.Commands.{DoesLink, DoesMake, DoesMove, DoesRemove, DoesSet, DoesUnlink}
use Rattle.command_edits.specs.Keys.{is_index_key_of, is_key_of, standard_key}
use Rattle.command_edits.proofs.EachCall.{EachKeeps, link-keeps, make-keeps, move-keeps, remove-keeps, set-keeps, unlink-keeps}
use Rattle.command_edits.proofs.FreeKeys.{standard-elsewhere}
use Rattle.command_edits.proofs.LinksBetween.{link_keys}
use Rattle.command_edits.proofs.SoundBetween.{between-bases, between-readable}

-- ONE AFTER ANOTHER
-- a byte that a value of 72 bytes does not show no value does
never-shown : (short k : ℕ) → is_shown_byte 72 k ≡ false → is_shown_byte short k ≡ false
never-shown short k e =
    let place = nat_le 0x34 k && nat_lt k 0x38 in
    let p = or_parts (nat_lt k 0x24) (nat_le 72 72 && place) e in
    or_from (nat_lt k 0x24) (nat_le 72 short && place) p.0 (and_right (nat_le 72 short) place p.1)

unshown-then : (l : Bool) (a b c : List ℕ) → KeepsUnshown l a b → KeepsUnshown l b c → KeepsUnshown l a c
unshown-then l a b c x y = record {
  long = longs x.long y.long;
  others = λ k e. y.others k e ∙ x.others k (shown y.long k e);
  flags = y.flags ∙ x.flags;
}
  where
    longs : (length b ≡ length a) ⊎ ((l ≡ true) × (length b ≡ 72)) → (length c ≡ length b) ⊎ ((l ≡ true) × (length c ≡ 72))
        → (length c ≡ length a) ⊎ ((l ≡ true) × (length c ≡ 72))
    longs (inl p) (inl q) = inl (q ∙ p)
    longs (inr p) (inl q) = inr (p.0, q ∙ p.1)
    longs p (inr q) = inr q

    shown : (length c ≡ length b) ⊎ ((l ≡ true) × (length c ≡ 72)) → (k : ℕ) → is_shown_byte (length c) k ≡ false
        → is_shown_byte (length b) k ≡ false
    shown (inl q) k e = ap (λ n. is_shown_byte n k) (sym q) ∙ e
    shown (inr q) k e = never-shown (length b) k (ap (λ n. is_shown_byte n k) (sym q.1) ∙ e)

abbrev Standard : Bool → ℕ → VolumeView → VolumeView → Type 0
Standard l g old new = KeepsStandard l (parts_at old g STANDARD_INFORMATION []) (parts_at new g STANDARD_INFORMATION [])

standard-then : (l : Bool) (g : ℕ) (old mid new : VolumeView) → Standard l g old mid → Standard l g mid new → Standard l g old new
standard-then l g old mid new x y = record { flags = y.flags ∙ x.flags; value = unshown-then l _ _ _ x.value y.value }

standard-weaker : (l : Bool) (g : ℕ) (old new : VolumeView) → Standard false g old new → Standard l g old new
standard-weaker l g old new x = record {
  flags = x.flags;
  value = record {
    long = elim x.value.long [ inl same ↦ inl same | inr p ↦ inr (cc, p.1) ];
    others = x.value.others;
    flags = x.value.flags;
  };
}

-- A FILE that is there, of a volume whose files can be read
record HasFile (view : VolumeView) (g : ℕ) : Type 0 where
  readable : IsReadableVolume view
  bases : HasRightBases (records_of view)
  numbers : Numbers
  at : numbers_at (records_of view) g ≡ Some numbers

record KeepsFileStandard (l : Bool) (g : ℕ) (old new : VolumeView) : Type 0 where
  standard : Standard l g old new
  file : HasFile new g

abbrev Stays : Bool → ℕ → VolumeView → VolumeView → Type 0
Stays l g old new = HasFile old g → KeepsFileStandard l g old new

-- a call that does not name it
call-stays : (l : Bool) (g : ℕ) (changed : Key → Bool) (wants : Wants) (old new : VolumeView) (before after : Marks)
    → Edited changed wants old new before after → changed (key_of g STANDARD_INFORMATION []) ≡ false
    → ((numbers : Numbers) → numbers_at (records_of old) g ≡ Some numbers → (now : Numbers) × (numbers_at (records_of new) g ≡ Some now))
    → Stays l g old new
call-stays l g changed wants old new before after e free numbers h =
    let n = numbers h.numbers h.at in
    record {
      standard = standard-weaker l g old new (standard-unnamed (either is_room_key changed) old new g (e.kept g)
          (cluster-size old new e.volume) h.readable e.editable.readable h.bases free (number-file old g h.numbers h.at)
          (number-file new g n.0 n.1));
      file = record { readable = e.editable.readable; bases = e.bases; numbers = n.0; at = n.1 };
    }

kept-there : (old new : VolumeView) (g : ℕ) → KeepsNames (records_of old) (records_of new) g → (numbers : Numbers)
    → numbers_at (records_of old) g ≡ Some numbers → (now : Numbers) × (numbers_at (records_of new) g ≡ Some now)
kept-there old new g kept numbers at = (numbers, kept.numbers ∙ at)

sets-stays : (l : Bool) (g : ℕ) (wants : Wants) (old new : VolumeView) (before after : Marks) (h : ℕ) (times : List ℕ) (flags : ℕ)
    (security : Option ℕ) → SetsNode wants old new before after h times flags security → (g ≡ h → Standard l g old new) → Stays l g old new
sets-stays l g wants old new before after h times flags security call own file = elim (cases_eq g h) [
  | inl e ↦ record {
    standard = own e;
    file = record {
      readable = call.edited.editable.readable;
      bases = call.edited.bases;
      numbers = file.numbers;
      at = (call.names_kept g).numbers ∙ file.at;
    };
  }
  | inr ne ↦
      call-stays l g (same_key (standard_key h)) wants old new before after call.edited (standard-elsewhere h g STANDARD_INFORMATION [] ne)
      (kept-there old new g (call.names_kept g)) file
]

each-stays : (l : Bool) (f g : ℕ) (gone : List FileName) → EachKeeps (Stays l g) f gone (λ h. true)
each-stays l f g gone = record {
  same = λ view file. record {
    standard = record { flags = refl; value = record { long = inl refl; others = λ k e. refl; flags = refl } };
    file = file;
  };
  turn = λ old mid new a b file.
      let x = a file in
      let y = b x.file in
      record { standard = standard-then l g old mid new x.standard y.standard; file = y.file };
  adds = λ wants old new before after name call.
      call-stays l g (link_keys f name.parent.number) wants old new before after call.edited refl
      (λ numbers at. elim (cases_eq g f) [
        | inl e ↦ (record call.gets.was { links = call.gets.was.links + 1 }, ap (numbers_at (records_of new)) e ∙ call.gets.now_at)
        | inr ne ↦ kept-there old new g (call.gets.others g ne) numbers at
      ]);
  drops = λ wants old new before after name there call.
      call-stays l g (link_keys f name.parent.number) wants old new before after call.edited refl
      (λ numbers at. elim (cases_eq g f) [
        | inl e ↦ (call.loses.was, ap (numbers_at (records_of new)) e ∙ call.loses.was_at)
        | inr ne ↦ (numbers, sym (call.loses.others g ne).numbers ∙ at)
      ]);
  refreshes = λ wants old new before after h name of call.
      call-stays l g (is_index_key_of name.parent.number) wants old new before after call.edited refl
      (kept-there old new g (call.names_kept g));
  stamps = λ wants old new before after h times flags call.
      sets-stays l g wants old new before after h times flags None call
      (λ e. standard-weaker l g old new (subst (λ k. Standard false k old new) (sym e) call.standard));
}

abbrev lengthened : VolumeView → ℕ → Option ℕ → Bool
lengthened view f security = is_some security && has_short_standard view f

-- COMMANDS
module _ (m : Machine) (wants : Wants) (old new : VolumeView) (before after : Marks) (f g : ℕ) (between : IsBetween old)
    (numbers : Numbers) (there : numbers_at (records_of old) g ≡ Some numbers) where
  abbrev gone : FileName → List FileName
  gone name = gone_names (names_of (records_of old) f) name

  file : HasFile old g
  file = record { readable = between-readable old between; bases = between-bases old between; numbers = numbers; at = there }

  pub make-standard : (directory : Bool) (name : FileName) → DoesMake m wants old new before after f directory name → g ≢ f
      → Standard false g old new
  make-standard directory name x other =
      (make-keeps (Stays false g) f [] (λ h. true) (each-stays false f g []) m wants old new before after directory name x
      (λ bill view next m0 m1 node call. call-stays false g (is_key_of f) bill view next m0 m1 call.edited (ne_eqb g f other)
      (kept-there view next g (call.comes.others g other))) (λ entry there. refl) file).standard

  pub link-standard : (name : FileName) → DoesLink m wants old new before after f name → Standard false g old new
  link-standard name x =
      (link-keeps (Stays false g) f [] (λ h. true) (each-stays false f g []) m wants old new before after name x (λ entry there. refl)
      file).standard

  pub remove-standard : (name : FileName) → DoesRemove m wants old new before after f name → g ≢ f → Standard false g old new
  remove-standard name x other =
      (remove-keeps (Stays false g) f (gone name) (λ h. true) (each-stays false f g (gone name)) m wants old new before after name
      (λ one there. there) x
      (λ bill view next m0 m1 call. call-stays false g (is_key_of f) bill view next m0 m1 call.edited (ne_eqb g f other)
      (λ n at. (n, sym (call.goes.others g other).numbers ∙ at))) (λ entry there. refl) file).standard

  pub unlink-standard : (name : FileName) → DoesUnlink m wants old new before after f name → Standard false g old new
  unlink-standard name x =
      (unlink-keeps (Stays false g) f (gone name) (λ h. true) (each-stays false f g (gone name)) m wants old new before after name
      (λ one there. there) x (λ entry there. refl) file).standard

  pub move-standard : (name fresh : FileName) → DoesMove m wants old new before after f name fresh → Standard false g old new
  move-standard name fresh x =
      (move-keeps (Stays false g) f (gone name) (λ h. true) (each-stays false f g (gone name)) m wants old new before after name
      (λ one there. there) fresh x (λ entry there. refl) file).standard

  pub set-standard : (flags security : Option ℕ) → DoesSet m wants old new before after f flags security
      → Standard ((g == f) && (is_some security && has_short_standard old f)) g old new
  set-standard flags security x = elim (cases_eq g f) [
    | inl e ↦
        subst (λ b. Standard (b && lengthened old f security) g old new) (sym (eq-eqb g f e))
        (kept (lengthened old f security)
        (λ same. subst (λ k. Standard (lengthened old f security) k old x.set.view) (sym e) x.sets.standard))
    | inr ne ↦
        subst (λ b. Standard (b && lengthened old f security) g old new) (sym (ne_eqb g f ne)) (kept false (λ same. absurd (ne same)))
  ]
    where
      kept : (long : Bool) → (g ≡ f → Standard long g old x.set.view) → Standard long g old new
      kept long own =
          (set-keeps (Stays long g) f [] (λ h. true) (each-stays long f g []) m wants old new before after flags security x
          (sets-stays long g wants old x.set.view before x.set.marks f _ _ security x.sets own) (λ entry there. refl) file).standard
