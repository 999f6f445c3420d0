-- NODES AND NAMES behind the command: the file is none, and what the tree does not show of all others stays.
use Rattle.std.proofs.Common.{◌≡◌, ◌≢◌, ◌==◌, ◌++◌, not, ℕ, Bool, true, false, List, [], map, filter, Option, Some, None}
use Rattle.std.proofs.Common.{inl, inr, refl, sym, ap, subst, ◌∙◌, if◌then◌else◌}
use Rattle.std.proofs.lemmas.Bool.{and_right, cases_eq, eq-eqb}
use Rattle.std.specs.List.{Contains}
use Rattle.std.specs.Prelude.{bit_and, is_some}
use Rattle.list_laws.specs.SameItems.{SameItems}
use Rattle.list_laws.proofs.FilterLaws.{filter-all}
use Rattle.list_laws.proofs.MemberLaws.{Contains-nil}
use Rattle.list_laws.proofs.SameItemsLaws.{SameItems-trans}
use Rattle.ntfs_def.specs.FileName.{FileName}
use Rattle.ntfs_def.specs.Node.{Item}
use Rattle.ntfs_def.specs.StandardInformation.{dos_flags}
use Rattle.ntfs_def.specs.declared.kinds.TheConstants.{STANDARD_INFORMATION}
use Rattle.volume_def.specs.Files.{Part, parts, parts_at, records_of}
use Rattle.volume_def.specs.Values.{is_first}
use Rattle.volume_def.specs.View.{VolumeView}
use Rattle.tree_model.specs.Bill.{links_with}
use Rattle.tree_model.specs.IndexRoom.{Index, is_object_id_item, is_point_item, object_id_index, point_index}
use Rattle.tree_model.specs.Reading.{link_for, read, standard_of}
use Rattle.tree_model.specs.Subjects.{Located, at_file}
use Rattle.tree_model.specs.Tree.{Tree, node_of}
use Rattle.tree_model.specs.declared.command.Command.{Command}
use Rattle.tree_model.specs.declared.command.Command.TheVariants as c
use Rattle.tree_model.specs.declared.tree.Node.{Node}
use Rattle.edit_def.specs.Kept.{Key, is_name_told, told_by}
use Rattle.edit_def.specs.Names.{Numbers, numbers_at, numbers_by}
use Rattle.session_def.specs.Done.{KeepsOfNamed}
use Rattle.session_def.specs.Kept.{ChangesKeys, KeepsKeys, KeepsStandard, is_any, with_data}
use Rattle.session_def.specs.Nodes.{KeepsDosFlags, KeepsNodes, flag_of}
use Rattle.session_def.specs.Owed.{Owes}
use Rattle.session_def.specs.State.{State}
use Rattle.made_edits.specs.InPlace.{Rewrites}
use Rattle.made_edits.proofs.RoomSame.{numbers-same}
use Rattle.in_place_owed.proofs.Owes as setting
use Rattle.in_place_owed.proofs.StandardOwed.{marks-owed, standard-among, standard-owed}
use Rattle.gone_edits.specs.Left.{LeavesRest}
use Rattle.gone_owed.specs.GoneOwed.{SetsBehindGone, at_gone, between}
use Rattle.gone_owed.proofs.GoneBase as base
use Rattle.gone_owed.proofs.GoneItems as items
use Rattle.gone_owed.proofs.GoneTree as trees
use Rattle.gone_owed.proofs.Unlinked.{ids-none, tags-none}

never : {b : Bool} → b ≡ true → b ≡ false → ⊥
never x y = cc

same-flag : (b : Bool) (x y : ℕ) → x ≡ y → x ≡ (if b then y else y)
same-flag true x y e = e
same-flag false x y e = e

some-numbers : (a b : Numbers) → ◌≡◌ {A = Option Numbers} (Some a) (Some b) → a ≡ b
some-numbers a b e = cc

-- KEYS that are the same and then the same
keys-then : (old mid new : VolumeView) (i j k : Option Index) → KeepsKeys old i mid j [] None → KeepsKeys mid j new k [] None
    → KeepsKeys old i new k [] None
keys-then old mid new i j k first rest was has =
    let a = first was has in
    let b = rest a.0 a.1 in (
      b.0,
      b.1,
      record {
        come = [];
        comes = refl;
        items = SameItems-trans _ _ _ (plain was a.0 a.2)
            (subst (λ xs. SameItems (map with_data xs) (map with_data b.0)) (all a.0) (plain a.0 b.0 b.2));
      },
    )
  where
    all : (xs : List Item) → filter (λ item. not (is_any [] item)) xs ≡ xs
    all xs = filter-all (λ item. not (is_any [] item)) xs (λ item c. refl)

    plain : (was now : List Item) → ChangesKeys [] None was now
        → SameItems (map with_data (filter (λ item. not (is_any [] item)) was)) (map with_data now)
    plain was now kept =
        subst (λ come. SameItems (come ++ map with_data (filter (λ item. not (is_any [] item)) was)) (map with_data now)) kept.comes
        kept.items

module _ (before next : State) (n : ℕ) (file parent : Node) (name : FileName) (mid staged : VolumeView)
    (s : SetsBehindGone before next n name.parent.number file parent name mid staged) where
  abbrev dir : ℕ
  dir = name.parent.number

  abbrev old : VolumeView
  old = before.view

  abbrev new : VolumeView
  new = next.view

  abbrev tree : Tree
  tree = before.machine.tree

  abbrev leads : Located
  leads = at_gone tree n name

  abbrev half : State
  half = between before mid

  abbrev setter : Command
  setter = c.Setattr [] 0

  abbrev folder : Located
  folder = at_file (read mid) None dir

  abbrev named : Key → Bool
  named = base.named before next n file parent name mid staged s

  rewrote : Rewrites named mid new
  rewrote = base.behind before next n file parent name mid staged s

  left : LeavesRest old mid n dir
  left = base.left before next n file parent name mid staged s

  set : Owes half next setter folder n
  set = setting.owes half next setter folder n staged s.behind

  -- THE FILE is none behind the command
  node-gone : node_of next.machine.tree n ≡ None
  node-gone =
      trees.node-gone tree (link_for n name) dir (base.other before next n file parent name mid staged s) next.machine.tree
      before.machine.now refl (base.last before next n file parent name mid staged s) s.moved

  away : (f : ℕ) → is_some (node_of next.machine.tree f) ≡ true → f ≢ n
  away f now is =
      never (subst (λ g. is_some (node_of next.machine.tree g) ≡ true) is now) (ap is_some node-gone)

  numbers-behind : (f : ℕ) → f ≢ n → numbers_at (records_of new) f ≡ numbers_at (records_of old) f
  numbers-behind f ne = numbers-same named mid new rewrote f ∙ (left.others f ne).numbers

  numbers-none : (now : Numbers) → numbers_at (records_of new) n ≡ Some now → ⊥
  numbers-none now is =
      never (ap is_some is) (ap is_some (numbers-same named mid new rewrote n ∙ ap numbers_by left.free))

  -- DOS FLAGS
  flag-kept : (flag f : ℕ) → f ≢ n → flag_of flag mid f ≡ flag_of flag old f
  flag-kept flag f ne =
      ap (λ value. bit_and (dos_flags value) flag)
      (sym (standard-among (parts (records_of mid) f)) ∙ ap standard_of (left.leaves.same f STANDARD_INFORMATION [] ne refl)
      ∙ standard-among (parts (records_of old) f))

  flags-kept : (path : List (List ℕ)) (made f : ℕ) → f ≢ n → KeepsDosFlags old new tree (c.Rm path) leads made f
  flags-kept path made f ne =
      let marks = marks-owed half next setter folder staged s.behind f in
      record {
        point = same-flag (n == f) (flag_of 0x400 new f) (flag_of 0x400 old f) (marks.point ∙ flag-kept 0x400 f ne);
        sparse = inl (marks.sparse ∙ flag-kept 0x200 f ne);
        holed = λ unnamed hole none. absurd (never unnamed (and_right (f == n) false refl));
      }

  pub nodes : (path : List (List ℕ)) (made : ℕ) → KeepsNodes old new tree next.machine.tree (c.Rm path) leads made
  nodes path made = record {
    dos_flags = λ f was now. flags-kept path made f (away f now);
    main = λ was now is becomes. absurd (numbers-none now becomes);
    fresh = λ makes. absurd (never makes refl);
    named = record {
      each = λ told there comes. absurd (Contains-nil told
          (subst (λ (xs : List Part). Contains (filter is_name_told (map told_by (filter is_first xs))) told)
          (items.none-behind before next n file parent name mid staged s) there));
    };
    sized = λ edits there. absurd (never edits refl);
    point = tt;
  }

  -- WHAT IS KEPT of the attributes that the command names
  pub of-named : (path : List (List ℕ)) (made : ℕ) → KeepsOfNamed before next (c.Rm path) leads made
  of-named path made =
      let rest = base.rest before next n file parent name mid staged s in
      record {
        standard = λ f stays.
            subst (λ xs. KeepsStandard false xs (parts_at new f STANDARD_INFORMATION []))
            (left.leaves.same f STANDARD_INFORMATION [] (away f stays.now) refl)
            (standard-owed half next setter folder staged s.behind f);
        names = λ f stays told there kept.
            subst (λ xs. Contains xs told) (sym (items.names-behind before next n file parent name mid staged s f))
            (rest.names (links_with tree (link_for n name)) f (away f stays.now) told there kept);
        numbers = λ f other. numbers-behind f (λ is. never (eq-eqb f n is) other);
        sequence = λ f was now is becomes. elim (cases_eq f n) [
          | inl same ↦ absurd (numbers-none now (sym (ap (numbers_at (records_of new)) same) ∙ becomes))
          | inr ne ↦ ap (λ (m : Numbers). m.sequence) (some-numbers now was (sym becomes ∙ numbers-behind f ne ∙ is))
        ];
        points =
            subst (λ tags. KeepsKeys old (point_index old) new (point_index new) (map (is_point_item old n) tags) None)
            (sym (tags-none tree path leads s.unlinked))
            (keys-then old mid new (point_index old) (point_index mid) (point_index new) rest.points set.named.points);
        object_ids =
            subst (λ ids. KeepsKeys old (object_id_index old) new (object_id_index new) (map is_object_id_item ids) None)
            (sym (ids-none tree path leads s.unlinked))
            (keys-then old mid new (object_id_index old) (object_id_index mid) (object_id_index new) rest.object_ids set.named.object_ids);
        entries = items.entries-kept before next n file parent name mid staged s;
      }
