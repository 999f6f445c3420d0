-- What is due for commands that read, where no session has an open: it follows what their path leads to.
use Rattle.std.proofs.Common.{◌≡◌, ◌==◌, ◌&&◌, ◌∷◌, ap, find, not, inl, inr, ℕ, Bool, true, false, List, [], length, nat_lt, Option, Some}
use Rattle.std.proofs.Common.{None, Result, Ok, Err, refl, sym, ◌∙◌}
use Rattle.tree_model.specs.Answers.{answer_of}
use Rattle.tree_model.specs.Cases.{AsksFor, AsksNothing, conflicts, is_wide}
use Rattle.tree_model.specs.Opens.{all_access, to_read}
use Rattle.tree_model.specs.Paths.{and_then, found_file, resolve}
use Rattle.tree_model.specs.Shown.{Tells, cat_of, file_at, links_of, looked, ls_of, read_of, reparse_of}
use Rattle.tree_model.specs.Refusals.{Facts, outcome}
use Rattle.tree_model.specs.Step.{due}
use Rattle.tree_model.specs.Subjects.{content_named, is_directory, locate, stream_name}
use Rattle.tree_model.specs.Tree.{Tree, node_of}
use Rattle.tree_model.specs.declared.command.Command.{Command}
use Rattle.tree_model.specs.declared.command.Command.TheVariants as c
use Rattle.tree_model.specs.declared.opens.OpenEntry.{OpenEntry}
use Rattle.tree_model.specs.declared.reply.Answer.{Answer}
use Rattle.tree_model.specs.declared.reply.No.{No}
use Rattle.tree_model.specs.declared.tree.Content.{Content}
use Rattle.tree_model.specs.declared.tree.Content.TheVariants.{Packed, Plain}
use Rattle.tree_model.specs.declared.tree.Found.{Found}
use Rattle.tree_model.specs.declared.tree.Node.{Node}
use Rattle.tree_model.specs.declared.tree.Point.{Point}

-- no open conflicts with a command that asks for nothing
pub find-never : (opens : List OpenEntry) (file : ℕ) → find (conflicts AsksNothing file) opens ≡ None
find-never [] file = refl
find-never (entry ∷ opens) file = find-never opens file

-- one that reads conflicts with opens that do not share reading
conflict-is : (file : ℕ) (entry : OpenEntry)
    → conflicts (AsksFor to_read all_access) file entry ≡ ((entry.file == file) && not entry.share.r)
conflict-is file entry = by entry.share.r entry.share.w entry.share.d refl refl refl
  where
    by : (r w d : Bool) → entry.share.r ≡ r → entry.share.w ≡ w → entry.share.d ≡ d
        → conflicts (AsksFor to_read all_access) file entry ≡ ((entry.file == file) && not entry.share.r)
    by true true true r w d = rw (r, w, d) refl
    by true true false r w d = rw (r, w, d) refl
    by true false true r w d = rw (r, w, d) refl
    by true false false r w d = rw (r, w, d) refl
    by false w' d' r w d = rw r refl

pub find-apart : (opens : List OpenEntry) (file : ℕ)
    → find (conflicts (AsksFor to_read all_access) file) opens
    ≡ find (λ (entry : OpenEntry). (entry.file == file) && not entry.share.r) opens
find-apart opens file = ap (λ test. find test opens) (λ i entry. conflict-is file entry i)

module _ (facts : Facts) (tree : Tree) (opens : List OpenEntry) (now session : ℕ) (path : List (List ℕ)) where
  abbrev due_here : Command → Result Answer No
  due_here command = due facts (record { tree = tree; opens = opens; now = now }) session command

  abbrev Follows : Command → ((ℕ × Option Node) → Result Answer No) → Type 0
  Follows command of_file = due_here command ≡ and_then (file_at tree path) of_file

  pub ls-due : Follows (c.Ls path) (ls_of tree)
  unfolding due outcome locate answer_of
  ls-due = by (resolve tree path) refl
    where
      by_directory : (found : Found) → resolve tree path ≡ Ok found → (b : Bool) → is_directory (node_of tree (found_file found)) ≡ b
          → Follows (c.Ls path) (ls_of tree)
      by_directory found e true d = let n = find-never opens (found_file found) in rw (e, d, n) refl
      by_directory found e false d = rw (e, d) refl

      by : (r : Result Found No) → resolve tree path ≡ r → Follows (c.Ls path) (ls_of tree)
      by (Err refused) e = rw e refl
      by (Ok found) e = by_directory found e _ refl

  pub links-due : Follows (c.Links path) (links_of tree)
  unfolding due outcome locate answer_of
  links-due = by (resolve tree path) refl
    where
      by : (r : Result Found No) → resolve tree path ≡ r → Follows (c.Links path) (links_of tree)
      by (Err refused) e = rw e refl
      by (Ok found) e = let n = find-never opens (found_file found) in rw (e, n) refl

  pub stat-due : Follows (c.Stat path) (looked tree (c.Stat path))
  unfolding due outcome locate answer_of
  stat-due = by (resolve tree path) refl
    where
      by : (r : Result Found No) → resolve tree path ≡ r → Follows (c.Stat path) (looked tree (c.Stat path))
      by (Err refused) e = rw e refl
      by (Ok found) e = let n = find-never opens (found_file found) in rw (e, n) refl

  pub streams-due : Follows (c.Streams path) (looked tree (c.Streams path))
  unfolding due outcome locate answer_of
  streams-due = by (resolve tree path) refl
    where
      by : (r : Result Found No) → resolve tree path ≡ r → Follows (c.Streams path) (looked tree (c.Streams path))
      by (Err refused) e = rw e refl
      by (Ok found) e = let n = find-never opens (found_file found) in rw (e, n) refl

  pub attr-due : Follows (c.Attr path) (looked tree (c.Attr path))
  unfolding due outcome locate answer_of
  attr-due = by (resolve tree path) refl
    where
      by : (r : Result Found No) → resolve tree path ≡ r → Follows (c.Attr path) (looked tree (c.Attr path))
      by (Err refused) e = rw e refl
      by (Ok found) e = let n = find-never opens (found_file found) in rw (e, n) refl

  pub sec-due : Follows (c.Sec path) (looked tree (c.Sec path))
  unfolding due outcome locate answer_of
  sec-due = by (resolve tree path) refl
    where
      by : (r : Result Found No) → resolve tree path ≡ r → Follows (c.Sec path) (looked tree (c.Sec path))
      by (Err refused) e = rw e refl
      by (Ok found) e = let n = find-never opens (found_file found) in rw (e, n) refl

  pub objid-due : Follows (c.Objid path) (looked tree (c.Objid path))
  unfolding due outcome locate answer_of
  objid-due = by (resolve tree path) refl
    where
      by : (r : Result Found No) → resolve tree path ≡ r → Follows (c.Objid path) (looked tree (c.Objid path))
      by (Err refused) e = rw e refl
      by (Ok found) e = let n = find-never opens (found_file found) in rw (e, n) refl

  pub reparse-due : Follows (c.Reparse path) reparse_of
  unfolding due outcome locate answer_of
  reparse-due = by (resolve tree path) refl
    where
      by_point : (found : Found) → resolve tree path ≡ Ok found → (node : Node) → node_of tree (found_file found) ≡ Some node
          → (p : Option Point) → node.point ≡ p → Follows (c.Reparse path) reparse_of
      by_point found e node n None p = rw (e, n, p) refl
      by_point found e node n (Some point) p = let f = find-never opens (found_file found) in rw (e, n, p, f) refl

      by_node : (found : Found) → resolve tree path ≡ Ok found → (n : Option Node) → node_of tree (found_file found) ≡ n
          → Follows (c.Reparse path) reparse_of
      by_node found e None n = rw (e, n) refl
      by_node found e (Some node) n = by_point found e node n node.point refl

      by : (r : Result Found No) → resolve tree path ≡ r → Follows (c.Reparse path) reparse_of
      by (Err refused) e = rw e refl
      by (Ok found) e = by_node found e (node_of tree (found_file found)) refl

  pub cat-due : (stream : Option (List ℕ)) → Follows (c.Cat path stream) (cat_of tree opens (stream_name stream))
  unfolding due outcome locate answer_of
  cat-due stream = by (resolve tree path) refl
    where
      by_opens : (found : Found) → resolve tree path ≡ Ok found
          → ((length (stream_name stream) == 0) && is_directory (node_of tree (found_file found))) ≡ false
          → (bytes : List ℕ) → content_named tree (stream_name stream) (node_of tree (found_file found)) ≡ Some (Plain bytes)
          → nat_lt 65536 (length bytes) ≡ false
          → (f : Option OpenEntry) → find (λ (entry : OpenEntry). (entry.file == found_file found) && not entry.share.r) opens ≡ f
          → Follows (c.Cat path stream) (cat_of tree opens (stream_name stream))
      by_opens found e b bytes o t None f = let g = find-apart opens (found_file found) ∙ f in rw (e, b, o, t, g, f) refl
      by_opens found e b bytes o t (Some entry) f = let g = find-apart opens (found_file found) ∙ f in rw (e, b, o, t, g, f) refl

      by_size : (found : Found) → resolve tree path ≡ Ok found
          → ((length (stream_name stream) == 0) && is_directory (node_of tree (found_file found))) ≡ false
          → (bytes : List ℕ) → content_named tree (stream_name stream) (node_of tree (found_file found)) ≡ Some (Plain bytes)
          → (t : Bool) → nat_lt 65536 (length bytes) ≡ t
          → Follows (c.Cat path stream) (cat_of tree opens (stream_name stream))
      by_size found e b bytes o true t = rw (e, b, o, t) refl
      by_size found e b bytes o false t = by_opens found e b bytes o t _ refl

      by_content : (found : Found) → resolve tree path ≡ Ok found
          → (b : Bool) → ((length (stream_name stream) == 0) && is_directory (node_of tree (found_file found))) ≡ b
          → (o : Option Content) → content_named tree (stream_name stream) (node_of tree (found_file found)) ≡ o
          → Follows (c.Cat path stream) (cat_of tree opens (stream_name stream))
      by_content found e true b o p = rw (e, b) refl
      by_content found e false b None o = rw (e, b, o) refl
      by_content found e false b (Some (Packed size)) o = rw (e, b, o) refl
      by_content found e false b (Some (Plain bytes)) o = by_size found e b bytes o (nat_lt 65536 (length bytes)) refl

      by : (r : Result Found No) → resolve tree path ≡ r → Follows (c.Cat path stream) (cat_of tree opens (stream_name stream))
      by (Err refused) e = rw e refl
      by (Ok found) e = by_content found e _ refl _ refl

  pub read-due : (stream : Option (List ℕ)) (from len : ℕ)
      → Follows (c.Read path stream from len) (read_of tree opens (stream_name stream) from len)
  unfolding due outcome locate answer_of
  read-due stream from len = by (resolve tree path) refl
    where
      by_opens : (found : Found) → resolve tree path ≡ Ok found
          → ((length (stream_name stream) == 0) && is_directory (node_of tree (found_file found))) ≡ false
          → (bytes : List ℕ) → content_named tree (stream_name stream) (node_of tree (found_file found)) ≡ Some (Plain bytes)
          → is_wide from len ≡ false
          → (f : Option OpenEntry) → find (λ (entry : OpenEntry). (entry.file == found_file found) && not entry.share.r) opens ≡ f
          → Follows (c.Read path stream from len) (read_of tree opens (stream_name stream) from len)
      by_opens found e b bytes o w None f = let g = find-apart opens (found_file found) ∙ f in rw (e, b, o, w, g, f) refl
      by_opens found e b bytes o w (Some entry) f = let g = find-apart opens (found_file found) ∙ f in rw (e, b, o, w, g, f) refl

      by_content : (found : Found) → resolve tree path ≡ Ok found
          → (b : Bool) → ((length (stream_name stream) == 0) && is_directory (node_of tree (found_file found))) ≡ b
          → (o : Option Content) → content_named tree (stream_name stream) (node_of tree (found_file found)) ≡ o
          → (t : Bool) → is_wide from len ≡ t
          → Follows (c.Read path stream from len) (read_of tree opens (stream_name stream) from len)
      by_content found e true b o p t w = rw (e, b) refl
      by_content found e false b None o t w = rw (e, b, o) refl
      by_content found e false b (Some (Packed size)) o t w = rw (e, b, o) refl
      by_content found e false b (Some (Plain bytes)) o true w = rw (e, b, o, w) refl
      by_content found e false b (Some (Plain bytes)) o false w = by_opens found e b bytes o w _ refl

      by : (r : Result Found No) → resolve tree path ≡ r
          → Follows (c.Read path stream from len) (read_of tree opens (stream_name stream) from len)
      by (Err refused) e = rw e refl
      by (Ok found) e = by_content found e _ refl _ refl _ refl

-- what is wanted is told, and so is what equals it
pub told : {A : Type 0} (want other : Result A No) (result : Result A No) → want ≡ other → Tells other result → Tells want result
told want other (Ok x) same tells = same ∙ tells
told want other (Err refused) same (inl tells) = inl (same ∙ tells)
told want other (Err refused) same (inr memory) = inr memory

pub told-same : {A : Type 0} (want result : Result A No) → result ≡ want → Tells want result
told-same want (Ok x) same = sym same
told-same want (Err refused) same = inl (sym same)
