-- The values of names stay, but of those that went.
use Rattle.std.proofs.Common.{Bool, List, None, Option, [], ap, false, inl, inr, refl, subst, sym, true, ℕ, ◌==◌, ◌∙◌, ◌∷◌}
use Rattle.std.proofs.Common.{◌≡◌, ◌≢◌, map}
use Rattle.std.specs.List.{Contains}
use Rattle.std.proofs.lemmas.Bool.{cases_eq, ne_eqb, or_from}
use Rattle.list_laws.proofs.FindLaws.{any-found}
use Rattle.list_laws.proofs.MemberLaws.{Contains-cases, Contains-later, Contains-map}
use Rattle.list_laws.proofs.SameItemsLaws.{SameItems-passing, SameItems-sym}
use Rattle.ntfs_def.specs.FileName.{FileName}
use Rattle.volume_def.specs.FileNames.{names_of}
use Rattle.volume_def.specs.Files.{records_of}
use Rattle.volume_def.specs.View.{VolumeView}
use Rattle.tree_model.specs.Drops.{is_link}
use Rattle.tree_model.specs.Reading.{link_for}
use Rattle.tree_model.specs.Subjects.{Machine}
use Rattle.tree_model.specs.declared.tree.Link.{Link}
use Rattle.tree_model.specs.declared.tree.Node.{Node}
use Rattle.edit_def.specs.Account.{Wants}
use Rattle.edit_def.specs.Edited.{is_room_key}
use Rattle.edit_def.specs.Kept.{either, same_key, told_names}
use Rattle.edit_def.specs.Marks.{Marks}
use Rattle.edit_def.specs.Names.{gone_names}
use Rattle.edit_def.proofs.ToldLaws.{same_told, same_told-exact, same_told-itself}
use Rattle.reading_edits.proofs.SameLink.{is_link-itself}
use Rattle.session_def.specs.Kept.{KeepsNamesBut, link_told}
use Rattle.session_def.proofs.UnnamedLaws.{names-unnamed}
use Rattle.command_edits.specs.Calls.{AddsLink, DropsLink, DropsNode, MakesNode, SetsNode}
use Rattle.command_edits.specs.Commands.{DoesLink, DoesMake, DoesMove, DoesRemove, DoesSet, DoesUnlink}
use Rattle.command_edits.specs.Keys.{is_index_key_of, is_key_of, standard_key}
use Rattle.command_edits.proofs.EachCall.{EachKeeps, link-keeps, make-keeps, move-keeps, remove-keeps, set-keeps, unlink-keeps}
use Rattle.command_edits.proofs.LinksBetween.{link_keys}

-- THE NAMES OF FILE g, in a command about file f
module _ (f g : ℕ) (gone : List FileName) where
  abbrev links : List Link
  links = map (link_for f) gone

  abbrev Values : VolumeView → VolumeView → Type 0
  Values old new = KeepsNamesBut links old new g

  came : (wants : Wants) (old new : VolumeView) (before after : Marks) (name : FileName) → AddsLink wants old new before after f name
      → Values old new
  came wants old new before after name call = elim (cases_eq g f) [
    | inl e ↦ subst (λ k. KeepsNamesBut links old new k) (sym e) own
    | inr ne ↦
        names-unnamed (either is_room_key (link_keys f name.parent.number)) old new g links (call.edited.kept g)
        (λ units. or_from (g == f) false (ne_eqb g f ne) refl)
  ]
    where
      own : KeepsNamesBut links old new f
      own told there stays =
          let w = SameItems-passing (same_told told) (call.value ∷ told_names old f) (told_names new f) told call.values
          (Contains-later call.value (told_names old f) told there) (same_told-itself told) in
          subst (Contains (told_names new f)) (sym (same_told-exact told w.0 w.2)) w.1

  went : (wants : Wants) (old new : VolumeView) (before after : Marks) (name : FileName) → Contains gone name
      → DropsLink wants old new before after f name → Values old new
  went wants old new before after name among call = elim (cases_eq g f) [
    | inl e ↦ subst (λ k. KeepsNamesBut links old new k) (sym e) own
    | inr ne ↦
        names-unnamed (either is_room_key (link_keys f name.parent.number)) old new g links (call.edited.kept g)
        (λ units. or_from (g == f) false (ne_eqb g f ne) refl)
  ]
    where
      own : KeepsNamesBut links old new f
      own told there stays =
          let w = SameItems-passing (same_told told) (told_names old f) (call.value ∷ told_names new f) told
          (SameItems-sym (call.value ∷ told_names new f) (told_names old f) call.values) there (same_told-itself told) in
          let same : told ≡ w.0 = same_told-exact told w.0 w.2 in
          elim (Contains-cases call.value (told_names new f) w.0 w.1) [
            | inl head ↦
                let link : link_told f told ≡ link_for f name = ap (link_told f) (same ∙ sym head) ∙ ap (link_for f) call.value_name in
                let found = any-found (is_link (link_told f told)) links (link_for f name) (Contains-map (link_for f) gone name among)
                (subst (λ l. is_link l (link_for f name) ≡ true) (sym link) (is_link-itself (link_for f name))) in
                let never : true ≡ false = sym found ∙ stays in
                absurd (cc)
            | inr later ↦ subst (Contains (told_names new f)) (sym same) later
          ]

  sets-values : (wants : Wants) (old new : VolumeView) (before after : Marks) (h : ℕ) (times : List ℕ) (flags : ℕ) (security : Option ℕ)
      → SetsNode wants old new before after h times flags security → Values old new
  sets-values wants old new before after h times flags security call =
      names-unnamed (either is_room_key (same_key (standard_key h))) old new g links (call.edited.kept g) (λ units. refl)

  pub each-values : (among : ℕ → Bool) → EachKeeps Values f gone among
  each-values among = record {
    same = λ view told there stays. there;
    turn = λ old mid new a b told there stays. b told (a told there stays) stays;
    adds = came;
    drops = went;
    refreshes = λ wants old new before after h name of call.
        names-unnamed (either is_room_key (is_index_key_of name.parent.number)) old new g links (call.edited.kept g) (λ units. refl);
    stamps = λ wants old new before after h times flags call. sets-values wants old new before after h times flags None call;
  }

  -- a file that comes or goes is another one
  module _ (other : g ≢ f) where
    makes-values : (wants : Wants) (old new : VolumeView) (before after : Marks) (directory : Bool) (node : Node)
        → MakesNode wants old new before after f directory node → Values old new
    makes-values wants old new before after directory node call =
        names-unnamed (either is_room_key (is_key_of f)) old new g links (call.edited.kept g) (λ units. ne_eqb g f other)

    goes-values : (wants : Wants) (old new : VolumeView) (before after : Marks) → DropsNode wants old new before after f → Values old new
    goes-values wants old new before after call =
        names-unnamed (either is_room_key (is_key_of f)) old new g links (call.edited.kept g) (λ units. ne_eqb g f other)

-- COMMANDS
module _ (m : Machine) (wants : Wants) (old new : VolumeView) (before after : Marks) (f g : ℕ) where
  abbrev gone_with : FileName → List FileName
  gone_with name = gone_names (names_of (records_of old) f) name

  pub make-values : (directory : Bool) (name : FileName) → DoesMake m wants old new before after f directory name → g ≢ f
      → KeepsNamesBut [] old new g
  make-values directory name x other =
      make-keeps (Values f g []) f [] (λ h. true) (each-values f g [] (λ h. true)) m wants old new before after directory name x
      (λ bill view next m0 m1 node call. makes-values f g [] other bill view next m0 m1 directory node call) (λ entry there. refl)

  pub link-values : (name : FileName) → DoesLink m wants old new before after f name → KeepsNamesBut [] old new g
  link-values name x =
      link-keeps (Values f g []) f [] (λ h. true) (each-values f g [] (λ h. true)) m wants old new before after name x (λ entry there. refl)

  pub remove-values : (name : FileName) → DoesRemove m wants old new before after f name → g ≢ f
      → KeepsNamesBut (map (link_for f) (gone_with name)) old new g
  remove-values name x other =
      remove-keeps (Values f g (gone_with name)) f (gone_with name) (λ h. true) (each-values f g (gone_with name) (λ h. true)) m wants
      old new before after name (λ one there. there) x
      (λ bill view next m0 m1 call. goes-values f g (gone_with name) other bill view next m0 m1 call) (λ entry there. refl)

  pub unlink-values : (name : FileName) → DoesUnlink m wants old new before after f name
      → KeepsNamesBut (map (link_for f) (gone_with name)) old new g
  unlink-values name x =
      unlink-keeps (Values f g (gone_with name)) f (gone_with name) (λ h. true) (each-values f g (gone_with name) (λ h. true)) m wants
      old new before after name (λ one there. there) x (λ entry there. refl)

  pub move-values : (name fresh : FileName) → DoesMove m wants old new before after f name fresh
      → KeepsNamesBut (map (link_for f) (gone_with name)) old new g
  move-values name fresh x =
      move-keeps (Values f g (gone_with name)) f (gone_with name) (λ h. true) (each-values f g (gone_with name) (λ h. true)) m wants
      old new before after name (λ one there. there) fresh x (λ entry there. refl)

  pub set-values : (flags security : Option ℕ) → DoesSet m wants old new before after f flags security → KeepsNamesBut [] old new g
  set-values flags security x =
      set-keeps (Values f g []) f [] (λ h. true) (each-values f g [] (λ h. true)) m wants old new before after flags security x
      (sets-values f g [] wants old x.set.view before x.set.marks f _ _ security x.sets) (λ entry there. refl)
