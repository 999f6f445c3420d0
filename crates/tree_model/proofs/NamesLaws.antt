-- Which links lead to a file of a volume, and which of them are hidden.
use Rattle.std.proofs.Common.{◌≡◌, ◌≢◌, ◌⊎◌, ◌↔◌, ◌<◌, ◌≤◌, ◌+◌, ◌==◌, ◌++◌, ◌||◌, ◌&&◌, not, nat_lt, ℕ, zero, suc, Bool, true, false}
use Rattle.std.proofs.Common.{cond, List, []}
use Rattle.std.proofs.Common.{Option, Some, None, filter, map, refl, sym, ap, subst, inl, inr, ◌∙◌, append-nil, arith, if◌then◌else◌}
use Rattle.std.proofs.lemmas.Bool.{cases_eq, cases_lt, eq-eqb, eqb-true, ne_eqb, le-ltb}
use Rattle.std.proofs.lemmas.List.Elements.{filter-append}
use Rattle.std.specs.List.{Contains, flat_map, range_with_len}
use Rattle.std.specs.Prelude.{option_and_then}
use Rattle.ntfs_def.specs.FileName as names
use Rattle.ntfs_def.specs.declared.records.TheConstants.{ROOT}
use Rattle.volume_def.specs.CaseClause.{volume_fold}
use Rattle.volume_def.specs.FileNames.{links, links_of_file, names_of}
use Rattle.volume_def.specs.Files.{Record, Records, is_base, record_on, records_of}
use Rattle.volume_def.specs.View.{VolumeView}
use Rattle.list_laws.proofs.MemberLaws.{Contains-from_flat_map, Contains-from_map, Contains-nil, filter-map}
use Rattle.tree_model.specs.Hidden.{is_hidden}
use Rattle.list_laws.specs.Ordered.{in_order}
use Rattle.tree_model.specs.Reading.{all_links, is_hidden_link, link_by, links_to, node_at, node_on, read}
use Rattle.tree_model.specs.Tree.{leads_to, link_above, node_of, shown_node}
use Rattle.tree_model.specs.declared.tree.Link.{Link}
use Rattle.tree_model.specs.declared.tree.Node.{Node}
use Rattle.tree_model.proofs.LeastLaws.{filter-in_order}
use Rattle.tree_model.proofs.LinkOrder.{link_order}
use Rattle.tree_model.proofs.ReadingLaws.{node_of-read, nodes-remove}
use Rattle.tree_model.specs.Taken.{IsTaken, without_file}
use Rattle.std.proofs.lemmas.Simd.{map-map}
use Rattle.list_laws.proofs.FilterLaws.{filter-agree, filter-alike, filter-passed, filter-swap}

-- a name of a file, with the reference of the file
abbrev named : ℕ → Record → names.FileName → names.Link
named k r name = record { file = record { number = k; sequence = r.header.sequence }; name = name }

-- a link of a volume leads to a base record in use
base_of : (records : Records) (k : ℕ) (o : Option Record) (link : names.Link) → records.record_at k ≡ o
    → Contains (links_of_file records k o) link
    → (r : Record) × (records.record_at link.file.number ≡ Some r) × (is_base r ≡ true)
base_of records k None link e c = absurd (Contains-nil link c)
base_of records k (Some r) link e c = by (is_base r) refl c
  where
    by : (b : Bool) → is_base r ≡ b → Contains (if b then map (named k r) (names_of records k) else []) link
        → (r : Record) × (records.record_at link.file.number ≡ Some r) × (is_base r ≡ true)
    by true b c =
        let w = Contains-from_map (named k r) (names_of records k) link c in
        let same : k ≡ link.file.number = ap (λ (l : names.Link). l.file.number) w.2 in
        (r, ap records.record_at (sym same) ∙ e, b)
    by false b c = absurd (Contains-nil link c)

pub link-base : (v : VolumeView) (link : Link) → Contains (all_links v) link
    → (r : Record) × (record_on v link.child ≡ Some r) × (is_base r ≡ true)
unfolding all_links links
link-base v link c =
    let records = records_of v in
    let w = Contains-from_map link_by (links records) link c in
    let at = Contains-from_flat_map (λ f. links_of_file records f (records.record_at f)) (range_with_len 0 records.count) w.0 w.1 in
    let b = base_of records at.0 (records.record_at at.0) w.0 refl at.2 in
    let same : w.0.file.number ≡ link.child = ap (λ (l : Link). l.child) w.2 in
    (b.0, ap (record_on v) (sym same) ∙ b.1, b.2)

-- a base record is a node where it is not hidden
shown_if : (b h : Bool) (n : Node) → b ≡ true → (if b && not h then Some n else None) ≡ (if h then None else Some n)
shown_if true true n e = refl
shown_if true false n e = refl
shown_if false h n e = cc

decided : (n : Node) (root hides : Bool) (o : Option Node) → o ≡ (if hides then None else Some n)
    → ((if root then None else o) ≡ None) ↔ ((root || hides) ≡ true)
decided n true hides o e = (λ _. refl, λ _. refl)
decided n false true o e = (λ _. refl, λ _. e)
decided n false false o e = (λ g. let h = sym e ∙ g in cc, λ g. cc)

pub hidden-links : (v : VolumeView) (link : Link) → Contains (all_links v) link
    → (shown_node (read v) link ≡ None) ↔ (is_hidden_link v link ≡ true)
unfolding node_at
hidden-links v link c = by (link-base v link c)
  where
    by : (r : Record) × (record_on v link.child ≡ Some r) × (is_base r ≡ true)
        → (shown_node (read v) link ≡ None) ↔ (is_hidden_link v link ≡ true)
    by w =
        let hides = is_hidden (records_of v) link.child in
        let at : node_of (read v) link.child ≡ node_on v link.child w.0 =
        node_of-read v link.child ∙ ap (option_and_then (node_on v link.child)) w.1 in
        decided _ (link.child == ROOT) hides (node_of (read v) link.child) (at ∙ shown_if (is_base w.0) hides _ w.2)

-- what a node says of its record
pub record IsShown (v : VolumeView) (f : ℕ) : Type 0 where
  pub base : Record
  pub at : record_on v f ≡ Some base
  pub is : is_base base ≡ true
  pub shown : is_hidden (records_of v) f ≡ false

pub is_shown : (v : VolumeView) (f : ℕ) (node : Node) → node_at v f ≡ Some node → IsShown v f
unfolding node_at
is_shown v f node e = by (record_on v f) refl e
  where
    last : (r : Record) → record_on v f ≡ Some r → (b h : Bool) → is_base r ≡ b → is_hidden (records_of v) f ≡ h
        → (n : Node) → (if b && not h then Some n else None) ≡ Some node → IsShown v f
    last r at true false b h n e = record { base = r; at = at; is = b; shown = h }
    last r at true true b h n e = cc
    last r at false hides b h n e = cc

    by : (o : Option Record) → record_on v f ≡ o → option_and_then (node_on v f) o ≡ Some node → IsShown v f
    by None at e = cc
    by (Some r) at e = last r at (is_base r) (is_hidden (records_of v) f) refl refl _ e

-- of the items of a range, those that belong to one number
module _ {A : Type 0} (g : ℕ → List A) (p : A → Bool) (q : ℕ) (same : (k : ℕ) → filter p (g k) ≡ cond (k == q) (g k) []) where
  pick-out : (from n : ℕ) → (q < from) ⊎ (from + n ≤ q) → filter p (flat_map g (range_with_len from n)) ≡ []
  pick-out from zero h = refl
  pick-out from (suc n) h =
      let other : (from == q) ≡ false = ne_eqb from q (λ e. elim h [ inl lt ↦ absurd (omega arith) | inr ge ↦ absurd (omega arith) ]) in
      filter-append p (g from) (flat_map g (range_with_len (from + 1) n))
      ∙ ap (λ l. l ++ filter p (flat_map g (range_with_len (from + 1) n))) (same from ∙ ap (λ b. cond b (g from) []) other)
      ∙ pick-out (from + 1) n (elim h [ inl lt ↦ inl (omega arith) | inr ge ↦ inr (omega arith) ])

  pub pick-in : (from n : ℕ) → from ≤ q → q < from + n → filter p (flat_map g (range_with_len from n)) ≡ g q
  pick-in from zero a b = absurd (omega arith)
  pick-in from (suc n) a b = filter-append p (g from) (flat_map g (range_with_len (from + 1) n)) ∙ elim (cases_eq from q) [
    | inl e ↦
        let here : (from == q) ≡ true = eq-eqb from q e in
        let later = pick-out (from + 1) n (inl (omega arith)) in
        ap (λ l. l ++ filter p (flat_map g (range_with_len (from + 1) n))) (same from ∙ ap (λ b. cond b (g from) []) here)
        ∙ ap (λ l. g from ++ l) later ∙ append-nil (g from) ∙ ap g e
    | inr ne ↦
        let other : (from == q) ≡ false = ne_eqb from q ne in
        ap (λ l. l ++ filter p (flat_map g (range_with_len (from + 1) n))) (same from ∙ ap (λ b. cond b (g from) []) other)
        ∙ pick-in (from + 1) n (omega arith) (omega arith)
  ]

abbrev no_links : List names.Link
no_links = []

nothing-either : (b : Bool) → no_links ≡ cond b no_links no_links
nothing-either true = refl
nothing-either false = refl

filter-file : (records : Records) (f k : ℕ) (o : Option Record)
    → filter (λ (link : names.Link). leads_to f (link_by link)) (links_of_file records k o) ≡ cond (k == f) (links_of_file records k o) []
filter-file records f k None = nothing-either (k == f)
filter-file records f k (Some r) = by (is_base r) refl
  where
    by : (b : Bool) → is_base r ≡ b
        → filter (λ (link : names.Link). leads_to f (link_by link)) (links_of_file records k (Some r))
        ≡ cond (k == f) (links_of_file records k (Some r)) []
    by true b = rw b (filter-alike (named k r) (λ (link : names.Link). leads_to f (link_by link)) (k == f) (names_of records k) (λ _. refl))
    by false b = rw b (nothing-either (k == f))

none-some : (r : Record) → None ≡ Some r → ⊥
none-some r e = cc

below : (n count : ℕ) (o : Option Record) (r : Record) → (if nat_lt n count then o else None) ≡ Some r → n < count
below n count o r e = elim (cases_lt n count) [
  | inl lt ↦ lt
  | inr ge ↦ absurd (none-some r (sym (ap (λ b. cond b o None) (le-ltb n count ge)) ∙ e))
]

-- the links that lead to a file are its names
pub links-of : (v : VolumeView) (f : ℕ) → IsShown v f → filter (leads_to f) (all_links v) ≡ links_to v f
unfolding all_links links
links-of v f s =
    let records = records_of v in
    let inside : f < records.count = below f records.count _ s.base s.at in
    filter-map link_by (leads_to f) (links records)
    ∙ ap (map link_by)
    (pick-in (λ k. links_of_file records k (records.record_at k)) (λ (link : names.Link). leads_to f (link_by link)) f
    (λ k. filter-file records f k (records.record_at k)) 0 records.count (omega arith) (omega arith)
    ∙ ap (links_of_file records f) s.at ∙ ap (λ b. if b then map (named f s.base) (names_of records f) else []) s.is)
    ∙ map-map link_by (named f s.base) (names_of records f)

pub links-read : (v : VolumeView) (f : ℕ) (node : Node) → node_at v f ≡ Some node → f ≢ ROOT
    → filter (leads_to f) (read v).links ≡ in_order (link_above (volume_fold v)) (links_to v f)
unfolding read
links-read v f node e ne =
    let s = is_shown v f node e in
    let shown : (link : Link) → leads_to f link ≡ true → not (is_hidden_link v link) ≡ true = λ link h.
    let same = eqb-true link.child f h in
    subst (λ k. not ((k == ROOT) || is_hidden (records_of v) k) ≡ true) (sym same)
    (let r = ne_eqb f ROOT ne in let hides = s.shown in rw (r, hides) refl) in
    filter-in_order (link_order (volume_fold v)) (leads_to f) (filter (λ link. not (is_hidden_link v link)) (all_links v))
    ∙ ap (in_order (link_above (volume_fold v)))
    (filter-passed (leads_to f) (λ link. not (is_hidden_link v link)) (all_links v) shown ∙ links-of v f s)

-- A file that is shown goes with all its names: the tree is as before without it.
pub read-taken : (old new : VolumeView) (f : ℕ) (node : Node) → node_at old f ≡ Some node → f ≢ ROOT → IsTaken old new f
    → read new ≡ without_file f (read old)
unfolding read
read-taken old new f node e ne taken =
    let s = is_shown old f node e in
    let fold = volume_fold old in
    let stays : Link → Bool = λ link. not (leads_to f link) in
    let apart : (link : Link) → stays link ≡ true → is_hidden_link new link ≡ is_hidden_link old link = λ link h.
    ap (λ b. (link.child == ROOT) || b) (taken.hidden link.child (λ same. no_both link.child f same h)) in
    let kept : (link : Link) → is_hidden_link old link ≡ true → stays link ≡ true = λ link h.
    stays_hidden (records_of old) f ne s.shown link h in
    let agree : (link : Link) → stays link ≡ true → not (is_hidden_link new link) ≡ not (is_hidden_link old link) = λ link h.
    ap not (apart link h) in
    let links =
    ap (λ by. in_order (link_above by) (filter (λ link. not (is_hidden_link new link)) (all_links new))) taken.fold
    ∙ ap (λ l. in_order (link_above fold) (filter (λ link. not (is_hidden_link new link)) l)) taken.links
    ∙ ap (in_order (link_above fold))
    (filter-agree (λ link. not (is_hidden_link new link)) (λ link. not (is_hidden_link old link)) stays (all_links old) agree
    ∙ filter-swap (λ link. not (is_hidden_link old link)) stays (all_links old))
    ∙ sym (filter-in_order (link_order fold) stays (filter (λ link. not (is_hidden_link old link)) (all_links old))) in
    let hidden =
    ap (λ by. in_order (link_above by) (filter (is_hidden_link new) (all_links new))) taken.fold
    ∙ ap (λ l. in_order (link_above fold) (filter (is_hidden_link new) l)) taken.links
    ∙ ap (in_order (link_above fold))
    (filter-agree (is_hidden_link new) (is_hidden_link old) stays (all_links old) apart
    ∙ filter-passed (is_hidden_link old) stays (all_links old) kept) in
    let nodes = nodes-remove old new f taken.gone taken.nodes in
    λ i. record { fold = taken.fold i; nodes = nodes i; links = links i; hidden = hidden i }
  where
    no_both : (child f : ℕ) → child ≡ f → not (child == f) ≡ true → ⊥
    no_both child f same h = let e = eq-eqb child f same in let g = sym (ap not e) ∙ h in cc

    stays_hidden : (records : Records) (f : ℕ) → f ≢ ROOT → is_hidden records f ≡ false → (link : Link)
        → ((link.child == ROOT) || is_hidden records link.child) ≡ true → not (leads_to f link) ≡ true
    stays_hidden records f ne shown link h = by (leads_to f link) refl
      where
        by : (b : Bool) → leads_to f link ≡ b → not (leads_to f link) ≡ true
        by false b = ap not b
        by true b =
            let r = ne_eqb f ROOT ne in
            let at : ((f == ROOT) || is_hidden records f) ≡ true =
            subst (λ k. ((k == ROOT) || is_hidden records k) ≡ true) (eqb-true link.child f b) h in
            let none : ((f == ROOT) || is_hidden records f) ≡ false = rw (r, shown) refl in
            let g = sym none ∙ at in cc
