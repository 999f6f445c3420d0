-- A NAME THAT IS SOUGHT, and the place of a new one along a path.
use Rattle.std.proofs.Common.{◌≡◌, ◌∷◌, ◌++◌, ◌||◌, ℕ, List, [], Bool, true, false, Option, Some, None, Result, Ok, Err}
use Rattle.std.proofs.Common.{refl, sym, ap, ◌∙◌, is_some, length, inl, if◌then◌else◌}
use Rattle.std.specs.List.{list_any}
use Rattle.std.specs.Option.{option_map_or, option_or}
use Rattle.std.specs.Str.{bytes_eq}
use Rattle.std.proofs.lemmas.Slice.Eq.{bytes_eq-Decides}
use Rattle.std.proofs.Common.{find, map}
use Rattle.list_laws.specs.SameItems.{SameItems}
use Rattle.list_laws.proofs.FindLaws.{find-some}
use Rattle.name_edits.proofs.ListTests.{any-SameItems, in_order-items}
use Rattle.ntfs_def.specs.declared.records.TheConstants.{ROOT}
use Rattle.vol_disk.specs.declared.Disk.{Ghosts}
use Rattle.volume_def.specs.CaseClause.{volume_fold}
use Rattle.volume_def.specs.View.{VolumeView}
use Rattle.mft_table.specs.declared.mft.Mft.{Mft}
use Rattle.mft_table.specs.Mft.{view}
use Rattle.tree_model.specs.Cases.{is_bad_name}
use Rattle.tree_model.specs.Paths.{Place, and_then, last_place, links_in_order, lookup, passed, resolve_new}
use Rattle.tree_model.specs.Reading.{directory_links, read}
use Rattle.tree_model.proofs.ReadingLaws.{links_in_order-read}
use Rattle.tree_model.specs.Tree.{Tree, are_same, link_above, links_in, sought_link}
use Rattle.tree_model.specs.declared.reply.No.{No}
use Rattle.tree_model.specs.declared.reply.No.TheVariants as no
use Rattle.tree_model.specs.declared.tree.Link.{Link}
use Rattle.tree_read.specs.Answered.{Answered, Finds}
use Rattle.tree_read.specs.Standings.{led_to}
use Rattle.tree_read.specs.declared.stop.Stop.{Stop}
use Rattle.tree_read.specs.declared.stop.Stop.TheVariants as stop
use Rattle.tree_read.proofs.AnsweredLaws.{follows, same_wanted, says-failed, stops}
use Rattle.tree_read.proofs.GivesLaws.{tells}
use Rattle.tree_read.proofs.WalkSteps.{decided}
use Rattle.name_places.specs.Places.{has_same, place_wanted, unless_bad, unless_there}

-- SOUGHT: a link is found exactly where one has the same name.
module _ (fold : ℕ → ℕ) (name : List ℕ) where
  abbrev exact : Link → Bool
  exact link = bytes_eq link.name name

  abbrev same : Link → Bool
  same link = are_same fold link.name name

  no-both : (b : Bool) → b ≡ true → b ≡ false → ⊥
  no-both true _ b_no = cc
  no-both false b_yes _ = cc

  or-true : (b : Bool) → (b || true) ≡ true
  or-true true = refl
  or-true false = refl

  exact-same : (link : Link) → exact link ≡ true → same link ≡ true
  exact-same link e =
      let same_name = (bytes_eq-Decides link.name name).0 e in
      (bytes_eq-Decides (map fold link.name) (map fold name)).1 (ap (map fold) same_name)

  either-same : (links : List Link) → (list_any exact links || list_any same links) ≡ list_any same links
  either-same [] = refl
  either-same (x ∷ xs) = by (either-same xs) (exact x) (same x) refl refl
    where
      by : (list_any exact xs || list_any same xs) ≡ list_any same xs → (e s : Bool) → exact x ≡ e → same x ≡ s
          → ((e || list_any exact xs) || (s || list_any same xs)) ≡ (s || list_any same xs)
      by ih true true is_exact is_same = refl
      by ih true false is_exact is_same = absurd (no-both (same x) (exact-same x is_exact) is_same)
      by ih false true is_exact is_same = or-true (list_any exact xs)
      by ih false false is_exact is_same = ih

  some-or : {A : Type 0} (a b : Option A) → is_some (option_or a b) ≡ (is_some a || is_some b)
  some-or None b = refl
  some-or (Some x) b = refl

  pub sought-some : (links : List Link) → is_some (sought_link fold links name) ≡ list_any same links
  sought-some links =
      some-or (find exact links) (find same links)
      ∙ ap (λ b. b || is_some (find same links)) (find-some exact links)
      ∙ ap (λ b. list_any exact links || b) (find-some same links)
      ∙ either-same links

in_order-links : (view : VolumeView) (dir : ℕ) → SameItems (links_in (read view) dir) (links_in_order (read view) dir)
unfolding links_in_order
in_order-links view dir = in_order-items (link_above (read view).fold) (links_in (read view) dir)

pub sought-there : (view : VolumeView) (dir : ℕ) (name : List ℕ)
    → is_some (sought_link (volume_fold view) (directory_links view dir) name) ≡ has_same (read view) dir name
unfolding read
sought-there view dir name =
    sought-some (volume_fold view) name (directory_links view dir)
    ∙ ap (list_any (λ link. are_same (volume_fold view) link.name name)) (sym (links_in_order-read view dir))
    ∙ any-SameItems (λ link. are_same (volume_fold view) link.name name) (links_in (read view) dir) (links_in_order (read view) dir)
    (in_order-links view dir)

-- THE PLACE OF THE LAST NAME: in the directory that the names before it lead to.
abbrev placed_in : List ℕ → ℕ → Result (Option Place) No
placed_in name dir = Ok (Some (record { directory = dir; name = name }))

place-then : (tree : Tree) (at : Result ℕ No) (names : List (List ℕ)) (first name : List ℕ)
    → ((inner : ℕ) → and_then (last_place tree inner first (names ++ name ∷ [])) (λ place. Ok (Some place))
    ≡ and_then (led_to tree inner (first ∷ names)) (placed_in name))
    → and_then (and_then at (λ inner. last_place tree inner first (names ++ name ∷ []))) (λ place. Ok (Some place))
    ≡ and_then (and_then at (λ inner. led_to tree inner (first ∷ names))) (placed_in name)
place-then tree (Err why) names first name each = refl
place-then tree (Ok inner) names first name each = each inner

place-led : (tree : Tree) (dir : ℕ) (first : List ℕ) (names : List (List ℕ)) (name : List ℕ)
    → and_then (last_place tree dir first (names ++ name ∷ [])) (λ place. Ok (Some place))
    ≡ and_then (led_to tree dir (first ∷ names)) (placed_in name)
place-led tree dir first [] name = by (passed tree (lookup tree dir first))
  where
    by : (at : Result ℕ No) → and_then (and_then at (λ inner. last_place tree inner name [])) (λ place. Ok (Some place))
        ≡ and_then (and_then at (λ inner. led_to tree inner [])) (placed_in name)
    by (Err why) = refl
    by (Ok inner) = refl
place-led tree dir first (next ∷ names) name =
    place-then tree (passed tree (lookup tree dir first)) names next name (λ inner. place-led tree inner next names name)

new-led : (tree : Tree) (names : List (List ℕ)) (name : List ℕ)
    → resolve_new tree (names ++ name ∷ []) ≡ and_then (led_to tree ROOT names) (placed_in name)
unfolding resolve_new
new-led tree [] name = refl
new-led tree (first ∷ names) name = place-led tree ROOT first names name

abbrev pub in_place : Tree → List ℕ → ℕ → Result Place No
in_place tree name dir = unless_bad tree (record { directory = dir; name = name })

wanted-led : (tree : Tree) (path names : List (List ℕ)) (name : List ℕ) → path ≡ names ++ name ∷ []
    → place_wanted tree path ≡ and_then (led_to tree ROOT names) (in_place tree name)
wanted-led tree path names name is =
    ap (λ p. and_then (resolve_new tree p) (λ new. option_map_or (unless_bad tree) new (Err no.Exists))) is
    ∙ ap (λ r. and_then r (λ new. option_map_or (unless_bad tree) new (Err no.Exists))) (new-led tree names name)
    ∙ by (led_to tree ROOT names)
  where
    by : (at : Result ℕ No) → and_then (and_then at (placed_in name)) (λ new. option_map_or (unless_bad tree) new (Err no.Exists))
        ≡ and_then at (in_place tree name)
    by (Err why) = refl
    by (Ok dir) = refl

pub root-there : (tree : Tree) → place_wanted tree [] ≡ Err no.Exists
unfolding resolve_new
root-there tree = refl

-- A CALL TELLS whether a link is there: what is wanted of a name in the place.
module _ {D : Type 0} (g : Ghosts D) (name : List ℕ) (dir : ℕ) (good : is_bad_name name ≡ false) where
  abbrev here : VolumeView → Result Place No
  here volume = in_place (read volume) name dir

  decides : (tree : Tree) (b : Bool) → is_bad_name name ≡ b → in_place tree name dir
      ≡ (if b then Err no.BadName else unless_there tree (record { directory = dir; name = name }))
  decides tree b is = ap (λ b. if b then Err no.BadName else unless_there tree (record { directory = dir; name = name })) is

  told-there : (tree : Tree) (b : Bool) → b ≡ has_same tree dir name
      → in_place tree name dir ≡ (if b then Err no.Exists else Ok (record { directory = dir; name = name }))
  told-there tree b is =
      decides tree false good ∙ ap (λ b. if b then Err no.Exists else Ok (record { directory = dir; name = name })) (sym is)

  module _ (old new : Mft D g) where
    abbrev IsThere : VolumeView → Bool → Type 0
    IsThere volume there = there ≡ has_same (read volume) dir name

    pub there-refused : Finds g old new IsThere (Ok true) → Answered g old new here (Err (stop.No no.Exists))
    there-refused call = tells call refl (λ told is. inl (told-there (read (view g old)) true is))

    pub not-there : Finds g old new IsThere (Ok false) → Answered g old new here (Ok (record { directory = dir; name = name }))
    not-there call = tells call refl (λ told is. told-there (read (view g old)) false is)

    pub there-failed : (why : Stop) → Finds g old new IsThere (Err why) → Answered g old new here (Err why)
    there-failed why call = tells call refl (λ told failed. says-failed _ why failed)

-- a name that is bad
pub bad-refused : {D : Type 0} (g : Ghosts D) (old : Mft D g) (name : List ℕ) (dir : ℕ) → is_bad_name name ≡ true
    → Answered g old old (λ volume. in_place (read volume) name dir) (Err (stop.No no.BadName))
bad-refused g old name dir bad =
    same_wanted g (λ volume. Err no.BadName) (λ volume. in_place (read volume) name dir) (Err (stop.No no.BadName))
    (λ volume. sym (ap (λ b. if b then Err no.BadName else unless_there (read volume) (record { directory = dir; name = name })) bad))
    (decided g old (Err no.BadName))

-- THE WHOLE WALK: to the directory, and then in it.
module _ {D : Type 0} (g : Ghosts D) (old : Mft D g) (path names : List (List ℕ)) (name : List ℕ) (is : path ≡ names ++ name ∷ []) where
  abbrev led : VolumeView → Result ℕ No
  led volume = led_to (read volume) ROOT names

  abbrev wanted : VolumeView → Result Place No
  wanted volume = place_wanted (read volume) path

  as_wanted : (at : Mft D g) (result : Result Place Stop)
      → Answered g old at (λ volume. and_then (led volume) (in_place (read volume) name)) result → Answered g old at wanted result
  as_wanted at result =
      same_wanted g (λ volume. and_then (led volume) (in_place (read volume) name)) wanted result
      (λ volume. sym (wanted-led (read volume) path names name is))

  pub place-unentered : (at : Mft D g) (why : Stop) → Answered g old at led (Err why) → Answered g old at wanted (Err why)
  place-unentered at why call = as_wanted at (Err why) (stops g led (λ volume. in_place (read volume) name) why call)

  pub place-entered : (mft new : Mft D g) (dir : ℕ) (result : Result Place Stop) → Answered g old mft led (Ok dir)
      → Answered g mft new (λ volume. in_place (read volume) name dir) result → Answered g old new wanted result
  place-entered mft new dir result first second =
      as_wanted new result (follows g led (λ volume. in_place (read volume) name) dir result first second)

no-names : (path : List (List ℕ)) → length path ≡ 0 → path ≡ []
no-names [] none = refl
no-names (x ∷ xs) none = cc

pub root-refused : {D : Type 0} (g : Ghosts D) (old : Mft D g) (path : List (List ℕ)) → length path ≡ 0
    → Answered g old old (λ volume. place_wanted (read volume) path) (Err (stop.No no.Exists))
root-refused g old path is =
    same_wanted g (λ volume. Err no.Exists) (λ volume. place_wanted (read volume) path) (Err (stop.No no.Exists))
    (λ volume. sym (ap (place_wanted (read volume)) (no-names path is) ∙ root-there (read volume))) (decided g old (Err no.Exists))
