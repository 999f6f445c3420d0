-- Calls one after another, as names see them: what is kept, which names are lost, and that none stands in a directory.
use Rattle.std.proofs.Common.{IsTrue, List, Some, [], ap, arith, eq-eqb, eqb-true, false, inl, inr, length, refl, subst, suc, sym, true}
use Rattle.std.proofs.Common.{ℕ, ◌&&◌, ◌++◌, ◌+◌, ◌==◌, ◌∙◌, ◌∷◌, ◌≡◌, ◌≢◌}
use Rattle.std.specs.List.{Contains}
use Rattle.std.proofs.lemmas.Bool.{cases_eq}
use Rattle.std.proofs.lemmas.List.Elements.{All-contains, Contains-append_right}
use Rattle.list_laws.proofs.FindLaws.{count-cons}
use Rattle.list_laws.proofs.MemberLaws.{All-from_Contains}
use Rattle.list_laws.proofs.SameItemsLaws.{SameItems-passing, SameItems-same, SameItems-sym, SameItems-trans}
use Rattle.ntfs_def.specs.FileName.{FileName}
use Rattle.ntfs_def.specs.Record.{Reference}
use Rattle.volume_def.specs.FileNames.{names_of}
use Rattle.volume_def.specs.Files.{Records}
use Rattle.edit_def.specs.Names.{GetsName, HasNoNames, KeepsNames, KeepsOthers, LosesNames, Numbers, StandRightly, is_directory_by}
use Rattle.edit_def.specs.Names.{is_directory_in, numbers_at}

pub KeepsNames-same : (records : Records) (f : ℕ) → KeepsNames records records f
KeepsNames-same records f = record { numbers = refl; names = SameItems-same (names_of records f) (names_of records f) refl }

pub KeepsNames-then : (old mid new : Records) (f : ℕ) → KeepsNames old mid f → KeepsNames mid new f → KeepsNames old new f
KeepsNames-then old mid new f a b = record {
  numbers = b.numbers ∙ a.numbers;
  names = SameItems-trans (names_of old f) (names_of mid f) (names_of new f) a.names b.names;
}

pub KeepsOthers-then : (old mid new : Records) (f : ℕ) → KeepsOthers old mid f → KeepsOthers mid new f → KeepsOthers old new f
KeepsOthers-then old mid new f a b g ne = KeepsNames-then old mid new g (a g ne) (b g ne)

pub others-of : (old new : Records) (f : ℕ) → ((g : ℕ) → KeepsNames old new g) → KeepsOthers old new f
others-of old new f kept g ne = kept g

-- no name lost
pub loses-none : (records : Records) (f : ℕ) (now : Numbers) → numbers_at records f ≡ Some now → LosesNames records records f []
loses-none records f now at = record {
  others = λ g ne. KeepsNames-same records g;
  now = now;
  now_at = at;
  was_at = at ∙ ap (λ n. Some (record now { links = n })) (plus now.links);
  names = SameItems-same (names_of records f) (names_of records f) refl;
}
  where
    plus : (n : ℕ) → n ≡ n + 0
    plus n = omega arith

-- one, and then others
pub loses-more : (old mid new : Records) (f : ℕ) (name : FileName) (gone : List FileName) → GetsName mid old f name
    → LosesNames mid new f gone
    → LosesNames old new f (name ∷ gone)
loses-more old mid new f name gone first rest = record {
  others = λ g ne. KeepsNames-then old mid new g (back g ne) (rest.others g ne);
  now = rest.now;
  now_at = rest.now_at;
  was_at = first.now_at ∙ ap (λ (k : Numbers). Some (record k { links = k.links + 1 })) same
      ∙ ap (λ n. Some (record rest.now { links = n })) (sum rest.now.links (length gone));
  names = record {
    counts = λ p.
        let a = first.names.counts p in
        let b = rest.names.counts p in
        let c = count-cons p name (names_of mid f) in
        let d = count-cons p name (gone ++ names_of new f) in
        omega arith;
  };
}
  where
    back : (g : ℕ) → g ≢ f → KeepsNames old mid g
    back g ne = record {
      numbers = sym (first.others g ne).numbers;
      names = SameItems-sym (names_of mid g) (names_of old g) (first.others g ne).names;
    }

    same : first.was ≡ record rest.now { links = rest.now.links + length gone }
    same = let e : Some first.was ≡ Some (record rest.now { links = rest.now.links + length gone }) = sym first.was_at ∙ rest.was_at in cc

    sum : (a b : ℕ) → a + b + 1 ≡ a + suc b
    sum a b = omega arith

-- calls in between that leave names
pub loses-kept : (old mid new : Records) (f : ℕ) (gone : List FileName) → ((g : ℕ) → KeepsNames old mid g) → LosesNames mid new f gone
    → LosesNames old new f gone
loses-kept old mid new f gone kept rest = record {
  others = λ g ne. KeepsNames-then old mid new g (kept g) (rest.others g ne);
  now = rest.now;
  now_at = rest.now_at;
  was_at = sym (kept f).numbers ∙ rest.was_at;
  names = SameItems-trans (gone ++ names_of new f) (names_of mid f) (names_of old f) rest.names
      (SameItems-sym (names_of old f) (names_of mid f) (kept f).names);
}

-- WHAT NAMES LOST LEAVE: directories, and that no name stands in a directory.
pub directories-lost : (old new : Records) (f : ℕ) (gone : List FileName) → LosesNames old new f gone → (reference : Reference)
    → is_directory_in old reference ≡ true → is_directory_in new reference ≡ true
directories-lost old new f gone lost reference is = elim (cases_eq reference.number f) [
  | inl e ↦
      let here = subst (λ n. is_directory_by (numbers_at old n) reference.sequence ≡ true) e is in
      subst (λ n. is_directory_by (numbers_at new n) reference.sequence ≡ true) (sym e)
      (ap (λ o. is_directory_by o reference.sequence) lost.now_at ∙ sym (ap (λ o. is_directory_by o reference.sequence) lost.was_at) ∙ here)
  | inr ne ↦ ap (λ o. is_directory_by o reference.sequence) (lost.others reference.number ne).numbers ∙ is
]

pub no-names-lost : (old new : Records) (f dir : ℕ) (gone : List FileName) → LosesNames old new f gone → HasNoNames old dir
    → HasNoNames new dir
no-names-lost old new f dir gone lost empty g =
    All-from_Contains (λ (name : FileName). name.parent.number ≢ dir) (names_of new g) (λ name c e.
    let w = back name c (eq-eqb name.parent.number dir e) in
    All-contains (λ (name : FileName). name.parent.number ≢ dir) (names_of old g) w.0 (empty g) w.1 (eqb-true w.0.parent.number dir w.2))
  where
    back : (name : FileName) → Contains (names_of new g) name → (name.parent.number == dir) ≡ true
        → (other : FileName) × Contains (names_of old g) other × ((other.parent.number == dir) ≡ true)
    back name c t = elim (cases_eq g f) [
      | inl e ↦
          let there = subst (λ k. Contains (names_of new k) name) e c in
          let w = SameItems-passing (λ (n : FileName). n.parent.number == dir) (gone ++ names_of new f) (names_of old f) name lost.names
          (Contains-append_right gone (names_of new f) name there) t in
          (w.0, subst (λ k. Contains (names_of old k) w.0) (sym e) w.1, w.2)
      | inr ne ↦
          SameItems-passing (λ (n : FileName). n.parent.number == dir) (names_of new g) (names_of old g) name
          (SameItems-sym (names_of old g) (names_of new g) (lost.others g ne).names) c t
    ]

-- in a file that is no directory none does
pub file-no-names : (records : Records) (f : ℕ) (numbers : Numbers) → StandRightly records → numbers_at records f ≡ Some numbers
    → numbers.directory ≡ false → HasNoNames records f
file-no-names records f numbers stand at file g =
    All-from_Contains (λ (name : FileName). name.parent.number ≢ f) (names_of records g) (λ name c e.
    let is = All-contains (λ (other : FileName). IsTrue (is_directory_in records other.parent)) (names_of records g) name (stand g) c in
    let never : false ≡ true = sym (ap (λ n. is_directory_by (numbers_at records n) name.parent.sequence) e
    ∙ ap (λ o. is_directory_by o name.parent.sequence) at ∙ ap (λ b. b && (numbers.sequence == name.parent.sequence)) file) ∙ is in
    cc)
