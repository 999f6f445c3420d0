-- The effects of commands, as the steps of trees of which they are made.
use Rattle.std.proofs.Common.{Bool, List, Some, [], ap, cond, false, filter, if◌then◌else◌, not, refl, sym, true, ℕ, ◌∙◌, ◌∷◌, ◌≡◌}
use Rattle.std.specs.List.{Contains, list_any}
use Rattle.list_laws.proofs.FilterLaws.{filter-all}
use Rattle.list_laws.proofs.MemberLaws.{Contains-head, Contains-later}
use Rattle.tree_model.specs.Drops.{goes_with, is_last_name, is_link}
use Rattle.tree_model.specs.Effects.{add_link, add_name, changed, changed_node, drop_link, drop_name, leave_file, link_to, make}
use Rattle.tree_model.specs.Effects.{move_name, new_node, security_of, stamp, touch, tree_after}
use Rattle.tree_model.specs.Subjects.{Located, Machine, NameIn}
use Rattle.tree_model.specs.Tree.{Tree, node_of}
use Rattle.tree_model.specs.declared.tree.Link.{Link}
use Rattle.tree_model.specs.declared.tree.Node.{Node}
use Rattle.edit_def.proofs.KeptLaws.{filter-twice}
use Rattle.name_edits.specs.Dropped.{AreDropped}
use Rattle.reading_edits.specs.Steps.{with_node, without_link, without_links, without_node}
use Rattle.tree_model.specs.declared.command.Command.TheVariants as c

-- a node that is set is a change of it
pub node-changed : (tree : Tree) (f : ℕ) (node : Node) (change : Node → Node) → node_of tree f ≡ Some node
    → with_node f (change node) tree ≡ changed f change tree
node-changed tree f node change at = sym (ap (changed_node tree f change) at)

-- LINKS that go one after another. Tests that agree on the items of a list
filter-members : {A : Type 0} (p q : A → Bool) (xs : List A) → ((x : A) → Contains xs x → q x ≡ p x) → filter q xs ≡ filter p xs
filter-members p q [] same = refl
filter-members p q (x ∷ xs) same =
    ap (λ b. cond b (x ∷ filter q xs) (filter q xs)) (same x (Contains-head x xs))
    ∙ ap (λ l. cond (p x) (x ∷ l) l) (filter-members p q xs (λ y d. same y (Contains-later x xs y d)))

abbrev with_links : Tree → List Link → Tree
with_links tree links = record tree { links = links }

links-without : (gone : List Link) (tree : Tree)
    → without_links gone tree ≡ with_links tree (filter (λ other. not (list_any (λ one. is_link one other) gone)) tree.links)
links-without [] tree = ap (with_links tree) (sym (filter-all (λ _. true) tree.links (λ link there. refl)))
links-without (link ∷ gone) tree =
    links-without gone (without_link link tree)
    ∙ ap (with_links tree) (filter-twice (is_link link) (λ other. list_any (λ one. is_link one other) gone) tree.links)

pub links-dropped : (tree : Tree) (link : Link) (gone : List Link) → AreDropped tree link gone
    → without_links gone tree ≡ drop_link link tree
links-dropped tree link gone dropped =
    links-without gone tree
    ∙ ap (with_links tree) (filter-members (λ other. not (goes_with tree link other))
    (λ other. not (list_any (λ one. is_link one other) gone)) tree.links (λ other d. ap not (sym (dropped other d))))

module _ (m : Machine) (at : Located) where
  -- `create` and `mkdir`: the node, the link, the times of the directory
  pub tree-create : (path : List (List ℕ)) (f parent : ℕ) (name : List ℕ) → at.new ≡ NameIn parent name
      → touch m.now parent (add_link (link_to f parent name) (with_node f (new_node false m.now (security_of m.tree parent)) m.tree))
      ≡ tree_after m (c.Create path) at f
  unfolding tree_after
  tree-create path f parent name new = sym (ap (λ n. make false m.now f n m.tree) new)

  pub tree-mkdir : (path : List (List ℕ)) (f parent : ℕ) (name : List ℕ) → at.new ≡ NameIn parent name
      → touch m.now parent (add_link (link_to f parent name) (with_node f (new_node true m.now (security_of m.tree parent)) m.tree))
      ≡ tree_after m (c.Mkdir path) at f
  unfolding tree_after
  tree-mkdir path f parent name new = sym (ap (λ n. make true m.now f n m.tree) new)

  -- `ln`: the link, the times of the file, and of the directory
  pub tree-ln : (old new : List (List ℕ)) (file parent : ℕ) (name : List ℕ) → at.new ≡ NameIn parent name
      → touch m.now parent (stamp m.now at.file (add_link (link_to at.file parent name) m.tree)) ≡ tree_after m (c.Ln old new) at file
  unfolding tree_after
  tree-ln old new file parent name e = sym (ap (λ n. add_name m.now at.file n m.tree) e)

  leave-last : (link : Link) → is_last_name m.tree link ≡ true
      → leave_file m.now link m.tree ≡ without_node link.child (drop_link link m.tree)
  leave-last link last = ap (λ b. if b then without_node link.child (drop_link link m.tree) else stamp m.now link.child
      (drop_link link m.tree)) last

  leave-other : (link : Link) → is_last_name m.tree link ≡ false
      → leave_file m.now link m.tree ≡ stamp m.now link.child (drop_link link m.tree)
  leave-other link last = ap (λ b. if b then without_node link.child (drop_link link m.tree) else stamp m.now link.child
      (drop_link link m.tree)) last

  -- `rm` of the last name, and `rmdir`: each link that goes, the node, the times of the directory
  pub drop-last : (link : Link) (gone : List Link) → at.link ≡ Some link → AreDropped m.tree link gone → is_last_name m.tree link ≡ true
      → touch m.now link.parent (without_node link.child (without_links gone m.tree)) ≡ drop_name m.now at.link m.tree
  drop-last link gone at_link dropped last =
      ap (λ t. touch m.now link.parent (without_node link.child t)) (links-dropped m.tree link gone dropped)
      ∙ sym (ap (touch m.now link.parent) (leave-last link last)) ∙ sym (ap (λ l. drop_name m.now l m.tree) at_link)

  pub tree-rm-last : (path : List (List ℕ)) (file : ℕ) (link : Link) (gone : List Link) → at.link ≡ Some link → AreDropped m.tree link gone
      → is_last_name m.tree link ≡ true
      → touch m.now link.parent (without_node link.child (without_links gone m.tree)) ≡ tree_after m (c.Rm path) at file
  unfolding tree_after
  tree-rm-last path file link gone at_link dropped last = drop-last link gone at_link dropped last

  pub tree-rmdir : (path : List (List ℕ)) (file : ℕ) (link : Link) (gone : List Link) → at.link ≡ Some link → AreDropped m.tree link gone
      → is_last_name m.tree link ≡ true
      → touch m.now link.parent (without_node link.child (without_links gone m.tree)) ≡ tree_after m (c.Rmdir path) at file
  unfolding tree_after
  tree-rmdir path file link gone at_link dropped last = drop-last link gone at_link dropped last

  -- `rm` of another one: each link that goes, the times of the file, and of the directory
  pub tree-rm-other : (path : List (List ℕ)) (file : ℕ) (link : Link) (gone : List Link) → at.link ≡ Some link → AreDropped m.tree link gone
      → is_last_name m.tree link ≡ false
      → touch m.now link.parent (stamp m.now link.child (without_links gone m.tree)) ≡ tree_after m (c.Rm path) at file
  unfolding tree_after
  tree-rm-other path file link gone at_link dropped last =
      ap (λ t. touch m.now link.parent (stamp m.now link.child t)) (links-dropped m.tree link gone dropped)
      ∙ sym (ap (touch m.now link.parent) (leave-other link last)) ∙ sym (ap (λ l. drop_name m.now l m.tree) at_link)

  -- `mv`: each link that goes, the times of the old directory, the link, the times of the file, and of the new directory
  pub tree-mv : (old new : List (List ℕ)) (file : ℕ) (link : Link) (gone : List Link) (parent : ℕ) (name : List ℕ) → at.link ≡ Some link
      → at.new ≡ NameIn parent name → AreDropped m.tree link gone
      → touch m.now parent (stamp m.now at.file
      (add_link (link_to at.file parent name) (touch m.now link.parent (without_links gone m.tree))))
      ≡ tree_after m (c.Mv old new) at file
  unfolding tree_after
  tree-mv old new file link gone parent name at_link at_new dropped =
      ap (λ t. touch m.now parent (stamp m.now at.file (add_link (link_to at.file parent name) (touch m.now link.parent t))))
      (links-dropped m.tree link gone dropped)
      ∙ sym (ap (λ n. add_name m.now at.file n (touch m.now link.parent (drop_link link m.tree))) at_new)
      ∙ sym (ap (λ l. add_name m.now at.file at.new (move_name m.now l m.tree)) at_link)
