-- What the calls of a command name is what the command names, and their bills are in its bill.
use Rattle.std.proofs.Common.{Bool, List, None, Option, [], ap, arith, false, refl, subst, sym, true, ℕ, ◌&&◌, ◌==◌, ◌||◌, ◌∙◌, ◌∷◌, ◌≡◌}
use Rattle.std.specs.List.{Contains}
use Rattle.std.specs.Prelude.{codes, length}
use Rattle.std.specs.Str.{bytes_eq}
use Rattle.std.proofs.lemmas.Bool.{and_from, and_parts, eq-eqb, eqb-true, or_from, or_parts}
use Rattle.std.proofs.lemmas.Slice.Eq.{bytes_eq-Decides}
use Rattle.list_laws.proofs.MemberLaws.{Contains-head, Contains-later}
use Rattle.ntfs_def.specs.FileName.{FileName}
use Rattle.ntfs_def.specs.Units.{wide}
use Rattle.ntfs_def.specs.declared.kinds.TheConstants.{STANDARD_INFORMATION}
use Rattle.volume_def.specs.View.{VolumeView}
use Rattle.tree_model.specs.declared.tree.Node.{Node}
use Rattle.edit_def.specs.Account.{Wants, Within, also, nothing}
use Rattle.edit_def.specs.Edited.{Edited}
use Rattle.edit_def.specs.Kept.{Key, either, same_key}
use Rattle.edit_def.specs.Marks.{Marks}
use Rattle.edit_def.specs.Names.{gone_names}
use Rattle.edit_def.proofs.EditedLaws.{Edited-then}
use Rattle.reading_edits.proofs.GoneNames.{gone-beside}
use Rattle.session_def.specs.Named.{is_index_kind}
use Rattle.command_edits.specs.Calls.{AddsLink, DropsLink, DropsLinks, RefreshesEntries, SetsNode}
use Rattle.command_edits.specs.Commands.{TouchesLast}
use Rattle.command_edits.specs.Keys.{AreToldIn, is_command_key, is_index_key_of, is_name_key_of, is_set_key, is_told_key, standard_key}
use Rattle.command_edits.proofs.CallsMade.{Edited-more, within-same}
use Rattle.command_edits.proofs.LinksBetween.{link_keys}

-- BILLS IN TURN
pub within-nothing : (a : Wants) → Within (also a nothing) a
within-nothing a = record {
  clusters = omega arith;
  parts = λ f. omega arith;
  units = λ f. omega arith;
  goes = λ f is. first (a.goes f) is;
  records = omega arith;
}
  where
    first : (x : Bool) → (x || false) ≡ true → x ≡ true
    first true e = refl
    first false e = e

or-first : (x y z : Bool) → ((x || y) ≡ true → z ≡ true) → x ≡ true → z ≡ true
or-first true y z h e = h refl
or-first false y z h e = cc

within-first : (a b c : Wants) → Within (also a b) c → Within a c
within-first a b c w = record {
  clusters = let x = w.clusters in omega (arith, x);
  parts = λ f. let x = w.parts f in omega (arith, x);
  units = λ f. let x = w.units f in omega (arith, x);
  goes = λ f is. or-first (a.goes f) (b.goes f) (c.goes f) (w.goes f) is;
  records = let x = w.records in omega (arith, x);
}

-- the second made of two
within-third : (v a b w c : Wants) → Within (also a b) w → Within (also v w) c → Within (also (also v a) b) c
within-third v a b w c inner outer = record {
  clusters = let x = inner.clusters in let y = outer.clusters in omega (arith, x, y);
  parts = λ f. let x = inner.parts f in let y = outer.parts f in omega (arith, x, y);
  units = λ f. let x = inner.units f in let y = outer.units f in omega (arith, x, y);
  goes = λ f is. third (v.goes f) (a.goes f) (b.goes f) (w.goes f) (c.goes f) (inner.goes f) (outer.goes f) is;
  records = let x = inner.records in let y = outer.records in omega (arith, x, y);
}
  where
    third : (v a b w c : Bool) → ((a || b) ≡ true → w ≡ true) → ((v || w) ≡ true → c ≡ true) → ((v || a) || b) ≡ true → c ≡ true
    third true a b w c i o e = o refl
    third false true b w c i o e = o (i refl)
    third false false b w c i o e = o (i e)

-- TESTS: what a true one implies is false where it is
implied : (a b : Bool) → (a ≡ true → b ≡ true) → b ≡ false → a ≡ false
implied true b h e = let t = h refl in cc
implied false b h e = refl

module _ (own : Key → Bool) (files dirs : ℕ → Bool) where
  abbrev named : Key → Bool
  named = is_command_key own files dirs

  own-free : (key : Key) → named key ≡ false → own key ≡ false
  own-free key e = (or_parts (own key) (is_set_key files key || is_told_key dirs key) e).0

  set-free : (f : ℕ) → files f ≡ true → (key : Key) → named key ≡ false → same_key (standard_key f) key ≡ false
  set-free f is key e =
      let rest = (or_parts (own key) (is_set_key files key || is_told_key dirs key) e).1 in
      implied (same_key (standard_key f) key) (is_set_key files key) claim (or_parts (is_set_key files key) (is_told_key dirs key) rest).0
    where
      claim : same_key (standard_key f) key ≡ true → is_set_key files key ≡ true
      claim t =
          let p = and_parts (STANDARD_INFORMATION == key.kind) ((f == key.file) && bytes_eq [] key.name) t in
          let q = and_parts (f == key.file) (bytes_eq [] key.name) p.1 in
          let none : [] ≡ key.name = (bytes_eq-Decides [] key.name).0 q.1 in
          and_from (key.kind == STANDARD_INFORMATION) ((length key.name == 0) && files key.file)
          (eq-eqb key.kind STANDARD_INFORMATION (sym (eqb-true STANDARD_INFORMATION key.kind p.0)))
          (and_from (length key.name == 0) (files key.file) (ap (λ (l : List ℕ). length l == 0) (sym none))
          (ap files (sym (eqb-true f key.file q.0)) ∙ is))

  told-free : (dir : ℕ) → dirs dir ≡ true → (key : Key) → named key ≡ false → is_index_key_of dir key ≡ false
  told-free dir is key e =
      let rest = (or_parts (own key) (is_set_key files key || is_told_key dirs key) e).1 in
      implied (is_index_key_of dir key) (is_told_key dirs key) claim (or_parts (is_set_key files key) (is_told_key dirs key) rest).1
    where
      claim : is_index_key_of dir key ≡ true → is_told_key dirs key ≡ true
      claim t =
          let p = and_parts (is_index_kind key.kind) (bytes_eq key.name (wide (codes "$I30")) && (key.file == dir)) t in
          let q = and_parts (bytes_eq key.name (wide (codes "$I30"))) (key.file == dir) p.1 in
          and_from (is_index_kind key.kind) (bytes_eq key.name (wide (codes "$I30")) && dirs key.file) p.0
          (and_from (bytes_eq key.name (wide (codes "$I30"))) (dirs key.file) q.0 (ap dirs (eqb-true key.file dir q.1) ∙ is))

  -- CALLS
  pub both : (v w c : Wants) (old mid new : VolumeView) (m0 m1 m2 : Marks) → Within (also v w) c → Edited named v old mid m0 m1
      → Edited named w mid new m1 m2 → Edited named c old new m0 m2
  both v w c old mid new m0 m1 m2 within x y =
      Edited-more (either named named) named c c old new m0 m2 (λ key e. or_from (named key) (named key) e e) (within-same c)
      (Edited-then named named v w c old mid new m0 m1 m2 within x y)

  pub free : (v w : Wants) (old mid new : VolumeView) (m0 m1 m2 : Marks) → Edited named v old mid m0 m1 → Edited named nothing mid new m1 m2
      → Edited named v old new m0 m2
  free v w old mid new m0 m1 m2 x y = both v nothing v old mid new m0 m1 m2 (within-nothing v) x y

  pub all-of : (call : Key → Bool) (v : Wants) (old new : VolumeView) (m0 m1 : Marks) → ((key : Key) → own key ≡ false → call key ≡ false)
      → Edited call v old new m0 m1 → Edited named v old new m0 m1
  all-of call v old new m0 m1 covers x =
      Edited-more call named v v old new m0 m1 (λ key e. covers key (own-free key e)) (within-same v) x

  module _ (f : ℕ) (names : (key : Key) → own key ≡ false → is_name_key_of f key ≡ false) where
    link-free : (dir : ℕ) → dirs dir ≡ true → (key : Key) → named key ≡ false → link_keys f dir key ≡ false
    link-free dir is key e =
        or_from (is_name_key_of f key) (is_index_key_of dir key) (names key (own-free key e)) (told-free dir is key e)

    pub adds : (v : Wants) (old new : VolumeView) (m0 m1 : Marks) (name : FileName) → dirs name.parent.number ≡ true
        → AddsLink v old new m0 m1 f name → Edited named v old new m0 m1
    adds v old new m0 m1 name is call =
        Edited-more (link_keys f name.parent.number) named v v old new m0 m1 (link-free name.parent.number is) (within-same v) call.edited

    drops : (v : Wants) (old new : VolumeView) (m0 m1 : Marks) (name : FileName) → dirs name.parent.number ≡ true
        → DropsLink v old new m0 m1 f name → Edited named v old new m0 m1
    drops v old new m0 m1 name is call =
        Edited-more (link_keys f name.parent.number) named v v old new m0 m1 (link-free name.parent.number is) (within-same v) call.edited

    drops-row : (gone : List FileName) (v w c : Wants) (old mid new : VolumeView) (m0 m1 m2 : Marks)
        → ((name : FileName) → Contains gone name → dirs name.parent.number ≡ true) → Within (also v w) c → Edited named v old mid m0 m1
        → DropsLinks f gone w mid new m1 m2 → Edited named c old new m0 m2
    drops-row [] v w c old mid new m0 m1 m2 is within x (same, marks) =
        subst (λ view. Edited named c old view m0 m2) (sym same)
        (subst (λ m. Edited named c old mid m0 m) (sym marks)
        (Edited-more named named v c old mid m0 m1 (λ key e. e) (within-first v w c within) x))
    drops-row (name ∷ gone) v w c old mid new m0 m1 m2 is within x (first, rest, inner, next, marks, call, others) =
        drops-row gone (also v first) rest c old next new m0 marks m2 (λ one there. is one (Contains-later name gone one there))
        (within-third v first rest w c inner within)
        (both v first (also v first) old mid next m0 m1 marks (within-same (also v first)) x
        (drops first mid next m1 marks name (is name (Contains-head name gone)) call)) others

    -- the names that go with one
    pub loses : (all : List FileName) (name : FileName) (w : Wants) (old left : VolumeView) (m0 m1 : Marks)
        → dirs name.parent.number ≡ true → DropsLinks f (gone_names all name) w old left m0 m1 → Edited named w old left m0 m1
    loses all name w old left m0 m1 is (first, rest, inner, mid, marks, call, others) =
        drops-row _ first rest w old mid left m0 marks m1
        (λ one there. ap dirs (gone-beside all name one (Contains-later name _ one there)) ∙ is) inner
        (drops first old mid m0 marks name is call)
        others

  pub sets : (v : Wants) (old new : VolumeView) (m0 m1 : Marks) (f : ℕ) (times : List ℕ) (flags : ℕ) (security : Option ℕ)
      → files f ≡ true → SetsNode v old new m0 m1 f times flags security → Edited named v old new m0 m1
  sets v old new m0 m1 f times flags security is call =
      Edited-more (same_key (standard_key f)) named v v old new m0 m1 (set-free f is) (within-same v) call.edited

  pub refreshes : (entries : List (ℕ × FileName)) (v : Wants) (old mid new : VolumeView) (m0 m1 m2 : Marks) → AreToldIn dirs entries
      → Edited named v old mid m0 m1 → RefreshesEntries entries mid new m1 m2 → Edited named v old new m0 m2
  refreshes [] v old mid new m0 m1 m2 is x (same, marks) =
      subst (λ view. Edited named v old view m0 m2) (sym same) (subst (λ m. Edited named v old mid m0 m) (sym marks) x)
  refreshes (entry ∷ entries) v old mid new m0 m1 m2 is x (next, marks, call, rest) =
      refreshes entries v old next new m0 marks m2 (λ other there. is other (Contains-later entry entries other there))
      (free v nothing old mid next m0 m1 marks x
      (Edited-more (is_index_key_of entry.1.parent.number) named nothing nothing mid next m1 marks
      (told-free entry.1.parent.number (is entry (Contains-head entry entries))) (within-same nothing) call.edited)) rest

  pub ends : (now : ℕ) (v : Wants) (old mid new : VolumeView) (m0 m1 m2 : Marks) (dir : ℕ) (node : Node) → files dir ≡ true
      → Edited named v old mid m0 m1 → (x : TouchesLast now mid new m1 m2 dir node) → AreToldIn dirs x.entries
      → Edited named v old new m0 m2
  ends now v old mid new m0 m1 m2 dir node is e x told =
      refreshes x.entries v old x.touched.view new m0 x.touched.marks m2 told
      (free v nothing old mid x.touched.view m0 m1 x.touched.marks e
      (sets nothing mid x.touched.view m1 x.touched.marks dir _ _ None is x.touches)) x.refreshes
