-- The clauses on the table of case and on indexes after a call that names neither.
use Rattle.std.proofs.Common.{Bool, List, None, Option, Some, [], ap, arith, false, inl, inr, length, refl, subst, sym, true}
use Rattle.std.proofs.Common.{ℕ, ◌||◌, ◌∙◌, ◌∷◌, ◌≡◌, ◌≤◌, ◌⊎◌, if◌then◌else◌}
use Rattle.std.specs.List.{count_by}
use Rattle.std.specs.Prelude.{IfSome, IsTrue, codes}
use Rattle.list_laws.proofs.FindLaws.{count-no, count-yes}
use Rattle.ntfs_def.specs.Units.{wide}
use Rattle.ntfs_def.specs.declared.index.NodeForm.TheVariants.{View}
use Rattle.ntfs_def.specs.declared.kinds.TheConstants.{BITMAP, DATA, INDEX_ALLOCATION, INDEX_ROOT}
use Rattle.ntfs_def.specs.declared.records.TheConstants.{SECURE, UPCASE}
use Rattle.volume_def.specs.FileNames.{names_of}
use Rattle.volume_def.specs.Files.{Record, is_base, is_directory, record_on, records_of}
use Rattle.volume_def.specs.IndexesClause.{IsDirectoryIndex, KeyRule, MeetsIndexes, MeetsViewIndex, hash_rule, id_rule, is_in_extend}
use Rattle.volume_def.specs.IndexesClause.{word_rule}
use Rattle.volume_def.specs.Readable.{IsReadableVolume}
use Rattle.volume_def.specs.ReferencesClause.{MeetsReferences}
use Rattle.volume_def.specs.Table.{cluster_bytes}
use Rattle.volume_def.specs.View.{VolumeView}
use Rattle.edit_def.specs.Account.{Wants}
use Rattle.edit_def.specs.Edited.{Edited, is_room_key}
use Rattle.edit_def.specs.Items.{KeepsItems}
use Rattle.edit_def.specs.Kept.{Key, either, key_of}
use Rattle.edit_def.specs.Marks.{Marks}
use Rattle.edit_def.specs.Names.{HasRightBases, Numbers, numbers_at, numbers_by, numbers_in}
use Rattle.edit_def.proofs.IndexLaws.{case-kept, cluster-size, index-same, items-kept, root-there}
use Rattle.command_edits.specs.Between.{IsBetween}
use Rattle.command_edits.proofs.SoundBetween.{between-bases, between-by, between-case, between-indexes, between-readable}

-- DIRECTORIES by their numbers.
pub directory-was : (v : VolumeView) (n : ℕ) (numbers : Numbers) → MeetsIndexes v n → numbers_at (records_of v) n ≡ Some numbers
    → numbers.directory ≡ true → IsDirectoryIndex v n
directory-was v n numbers meets at dir = by (record_on v n) meets.directory at
  where
    last : (r : Record) (b : Bool) → is_base r ≡ b → (IsTrue (is_base r) → IsTrue (is_directory r) → IsDirectoryIndex v n)
        → (if b then Some (numbers_in r) else None) ≡ Some numbers → IsDirectoryIndex v n
    last r true base claim e =
        let same : numbers_in r ≡ numbers = cc in
        claim base (ap (λ (k : Numbers). k.directory) same ∙ dir)
    last r false base claim e = cc

    by : (o : Option Record) → IfSome o (λ r. IsTrue (is_base r) → IsTrue (is_directory r) → IsDirectoryIndex v n)
        → numbers_by o ≡ Some numbers → IsDirectoryIndex v n
    by None claim e = cc
    by (Some r) claim e = last r (is_base r) refl claim e

-- what the clause asks of a record
abbrev HasDirectory : VolumeView → ℕ → Option Record → Type 0
HasDirectory v n o = IfSome o (λ r. IsTrue (is_base r) → IsTrue (is_directory r) → IsDirectoryIndex v n)

directory-now : (v : VolumeView) (n : ℕ)
    → ((numbers : Numbers) → numbers_at (records_of v) n ≡ Some numbers → numbers.directory ≡ true → IsDirectoryIndex v n)
    → HasDirectory v n (record_on v n)
directory-now v n claim = by (record_on v n) refl
  where
    by : (o : Option Record) → record_on v n ≡ o → HasDirectory v n o
    by None at = tt
    by (Some r) at = λ base dir. claim (numbers_in r) (ap numbers_by at ∙ ap (λ b. if b then Some (numbers_in r) else None) base) dir

-- VIEW INDEXES, by their names and the types of their attributes
abbrev pub IsViewName : List ℕ → Type 0
IsViewName units = (units ≡ codes "$SII") ⊎ (units ≡ codes "$SDH") ⊎ (units ≡ codes "$R") ⊎ (units ≡ codes "$O")

abbrev pub IsIndexKind : ℕ → Type 0
IsIndexKind kind = (kind ≡ INDEX_ROOT) ⊎ (kind ≡ INDEX_ALLOCATION) ⊎ (kind ≡ BITMAP)

-- a call names no view index, of $Secure, or of a file that has a name behind it
pub record NamesNoView (changed : Key → Bool) (new : VolumeView) : Type 0 where
  pub secure : (units : List ℕ) (kind : ℕ) → IsViewName units → IsIndexKind kind → changed (key_of SECURE kind (wide units)) ≡ false
  pub others : (n : ℕ) (units : List ℕ) (kind : ℕ) → IsViewName units → IsIndexKind kind → 1 ≤ length (names_of (records_of new) n)
      → changed (key_of n kind (wide units)) ≡ false

-- no file comes to stand in $Extend
abbrev pub ComesNowhere : VolumeView → VolumeView → Type 0
ComesNowhere old new = (n : ℕ) (units : List ℕ) → 1 ≤ count_by (is_in_extend units) (names_of (records_of new) n)
    → 1 ≤ count_by (is_in_extend units) (names_of (records_of old) n)

-- each directory has a right index
abbrev pub HasDirectories : VolumeView → Type 0
HasDirectories view = (n : ℕ) (numbers : Numbers) → numbers_at (records_of view) n ≡ Some numbers → numbers.directory ≡ true
    → IsDirectoryIndex view n

count-most : {A : Type 0} (p : A → Bool) (xs : List A) → count_by p xs ≤ length xs
count-most p [] = omega arith
count-most {A = A} p (x ∷ xs) = by (p x) refl (count-most p xs)
  where
    by : (b : Bool) → p x ≡ b → count_by p xs ≤ length xs → count_by p (x ∷ xs) ≤ length (x ∷ xs)
    by true t r = let c = count-yes p x xs t in omega (arith, c, r)
    by false t r = let c = count-no p x xs t in omega (arith, c, r)

module _ (changed : Key → Bool) (wants : Wants) (old new : VolumeView) (before after : Marks)
    (edited : Edited changed wants old new before after) (between : IsBetween old) (free : changed (key_of UPCASE DATA []) ≡ false) where
  abbrev named : Key → Bool
  named = either is_room_key changed

  size : cluster_bytes new.layout ≡ cluster_bytes old.layout
  size = cluster-size old new edited.volume

  bases : HasRightBases (records_of old)
  bases = between-bases old between

  readable : IsReadableVolume old
  readable = between-readable old between

  pub items-same : (dir : ℕ) → changed (key_of dir INDEX_ROOT (wide (codes "$I30"))) ≡ false
      → changed (key_of dir INDEX_ALLOCATION (wide (codes "$I30"))) ≡ false → changed (key_of dir BITMAP (wide (codes "$I30"))) ≡ false
      → KeepsItems old new dir
  items-same dir root records bits =
      items-kept named old new edited.kept size bases readable edited.editable.readable free dir root records bits

  -- an index of another name, whose bitmap is no room
  view-index : (f : ℕ) (units : List ℕ) (rule : KeyRule) → is_room_key (key_of f BITMAP (wide units)) ≡ false
      → ((kind : ℕ) → IsIndexKind kind → changed (key_of f kind (wide units)) ≡ false)
      → MeetsViewIndex old f units rule → MeetsViewIndex new f units rule
  view-index f units rule room names meets some =
      let root = names INDEX_ROOT (inl refl) in
      let records = names INDEX_ALLOCATION (inr (inl refl)) in
      let bits : named (key_of f BITMAP (wide units)) ≡ false =
      ap (λ b. b || changed (key_of f BITMAP (wide units))) room ∙ names BITMAP (inr (inr refl)) in
      let was = meets
      (root-there named old new edited.kept size bases readable edited.editable.readable f (wide units) root records bits some) in
      record {
        items = was.items;
        has = index-same named old new edited.kept size bases readable edited.editable.readable f (wide units) root records bits View rule
            was.items was.has;
      }

  named-there : (n : ℕ) (units : List ℕ) → 1 ≤ count_by (is_in_extend units) (names_of (records_of new) n)
      → 1 ≤ length (names_of (records_of new) n)
  named-there n units some = let m = count-most (is_in_extend units) (names_of (records_of new) n) in omega (arith, m, some)

  -- All clauses between calls hold where references and directories are right.
  pub between-after : ((n : ℕ) → MeetsReferences (records_of new) n) → HasDirectories new → ComesNowhere old new → NamesNoView changed new
      → IsBetween new
  between-after references dirs extend views =
      between-by changed wants old new before after edited references
      (λ n is. case-kept named old new edited.kept size bases readable free (between-case old between n is))
      (λ n. let was = between-indexes old between n in record {
        directory = directory-now new n (dirs n);
        security_ids = λ e. subst (λ n. MeetsViewIndex new n (codes "$SII") id_rule) (sym e)
            (view-index SECURE (codes "$SII") id_rule refl (λ kind is. views.secure (codes "$SII") kind (inl refl) is)
            ((between-indexes old between SECURE).security_ids refl));
        security_hashes = λ e. subst (λ n. MeetsViewIndex new n (codes "$SDH") hash_rule) (sym e)
            (view-index SECURE (codes "$SDH") hash_rule refl (λ kind is. views.secure (codes "$SDH") kind (inr (inl refl)) is)
            ((between-indexes old between SECURE).security_hashes refl));
        reparse_points = λ stands. view-index n (codes "$R") word_rule refl
            (λ kind is. views.others n (codes "$R") kind (inr (inr (inl refl))) is (named-there n (codes "$Reparse") stands.named))
            (was.reparse_points (record { ordinary = stands.ordinary; named = extend n (codes "$Reparse") stands.named }));
        object_ids = λ stands. view-index n (codes "$O") word_rule refl
            (λ kind is. views.others n (codes "$O") kind (inr (inr (inr refl))) is (named-there n (codes "$ObjId") stands.named))
            (was.object_ids (record { ordinary = stands.ordinary; named = extend n (codes "$ObjId") stands.named }));
      })
