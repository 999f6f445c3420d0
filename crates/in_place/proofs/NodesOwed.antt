-- NODES after a rewrite, of a command that makes no file and drops no name.
use Rattle.std.proofs.Common.{◌≡◌, ◌==◌, not, ℕ, Bool, true, false, List, [], Option, Some, refl, sym, ap, subst, inl, ◌∙◌, if◌then◌else◌}
use Rattle.std.proofs.lemmas.Bool.{and_from, eq-eqb, eqb-true}
use Rattle.std.proofs.lemmas.Slice.Eq.{bytes_eq-Decides}
use Rattle.std.specs.List.{Contains, list_any}
use Rattle.std.specs.Prelude.{is_some}
use Rattle.ntfs_def.specs.declared.kinds.TheConstants.{DATA, FILE_NAME}
use Rattle.volume_def.specs.Files.{records_of}
use Rattle.volume_def.specs.View.{VolumeView}
use Rattle.list_laws.proofs.FindLaws.{any-found}
use Rattle.session_def.specs.Bill.{dropped_links}
use Rattle.session_def.specs.Drops.{is_link}
use Rattle.session_def.specs.Subjects.{Located}
use Rattle.session_def.specs.Tree.{Tree, node_of}
use Rattle.session_def.specs.Command.{Command}
use Rattle.session_def.specs.Link.{Link}
use Rattle.session_def.specs.EditDefKept.{Key, is_name_told, key_of, told_names}
use Rattle.session_def.specs.Names.{Numbers, numbers_at}
use Rattle.session_def.specs.Kept.{link_told}
use Rattle.session_def.specs.Named.{main_file, spelt}
use Rattle.session_def.specs.Nodes.{ComesRightly, HasPoint, KeepsDosFlags, KeepsMain, KeepsNodes, flag_of}
use Rattle.session_def.specs.Nodes.{has_link_told}
use Rattle.in_place.specs.InPlace.{Rewrites}
use Rattle.in_place.specs.Unnamed.{IsQuiet, KeepsMarks}
use Rattle.in_place.proofs.PlacesSame.{told-passed}
use Rattle.in_place.proofs.RoomSame.{numbers-same}
use Rattle.in_place.proofs.StreamSame.{holes-same, stream-kept}

never : {b : Bool} → b ≡ true → b ≡ false → ⊥
never x y = cc

link-itself : (link : Link) → is_link link link ≡ true
link-itself link =
    and_from _ _ (and_from _ _ (and_from _ _ (eq-eqb link.parent link.parent refl) ((bytes_eq-Decides link.name link.name).1 refl))
    (eq-eqb link.space link.space refl)) (eq-eqb link.child link.child refl)

same-flag : (b : Bool) (x y : ℕ) → x ≡ y → x ≡ (if b then y else y)
same-flag true x y e = e
same-flag false x y e = e

module _ (changed : Key → Bool) (old new : VolumeView) (w : Rewrites changed old new) (before next : Tree) (command : Command)
    (at : Located) (made : ℕ)
    (quiet : IsQuiet before command at) where
  flags-kept : (f : ℕ) → KeepsMarks old new f → KeepsDosFlags old new before command at made f
  flags-kept f marks = record {
    point = subst (λ n. flag_of 0x400 new f ≡ (if main_file command at made == f then n else flag_of 0x400 old f))
        (sym (quiet.points (flag_of 0x400 old f)))
        (same-flag (main_file command at made == f) (flag_of 0x400 new f) (flag_of 0x400 old f) marks.point);
    sparse = inl marks.sparse;
    holed = λ unnamed hole none. absurd (never hole (holes-same changed old new w f DATA [] ∙ none));
  }

  main-kept : (f : ℕ) (was now : Numbers) → numbers_at (records_of old) f ≡ Some was → numbers_at (records_of new) f ≡ Some now
      → KeepsMain command was now
  main-kept f was now is becomes =
      let same = some-numbers now was (sym becomes ∙ numbers-same changed old new w f ∙ is) in
      record { directory = ap (λ (n : Numbers). n.directory) same; links = λ counts. ap (λ (n : Numbers). n.links) same }
    where
      some-numbers : (a b : Numbers) → ◌≡◌ {A = Option Numbers} (Some a) (Some b) → a ≡ b
      some-numbers a b e = cc

  names-come : (f : ℕ) (directory : Bool) → ((name : List ℕ) → changed (key_of f FILE_NAME name) ≡ false)
      → ComesRightly old new command at (dropped_links before command at) f directory
  names-come f directory free = record {
    each = λ name there comes.
        let same : told_names new f ≡ told_names old f = told-passed changed old new w f is_name_told (λ t is.
        ap (λ kind. changed (key_of f kind t.name)) (eqb-true t.kind FILE_NAME is) ∙ free t.name) in
        let was = subst (λ xs. Contains xs name) same there in
        let has : has_link_told (told_names old f) f name ≡ true =
        any-found (λ other. is_link (link_told f name) (link_told f other)) (told_names old f) name was (link-itself (link_told f name)) in
        let stays : not (list_any (is_link (link_told f name)) (dropped_links before command at)) ≡ true =
        ap (λ gone. not (list_any (is_link (link_told f name)) gone)) quiet.drops in
        absurd (never (and_from (has_link_told (told_names old f) f name) _ has stays) comes);
  }

  pub nodes-kept : ((name : List ℕ) → changed (key_of (main_file command at made) FILE_NAME name) ≡ false)
      → ((f : ℕ) → is_some (node_of before f) ≡ true → is_some (node_of next f) ≡ true → KeepsMarks old new f)
      → HasPoint new command (main_file command at made) → KeepsNodes old new before next command at made
  nodes-kept free marks point = record {
    dos_flags = λ f was now. flags-kept f (marks f was now);
    main = main-kept (main_file command at made);
    fresh = λ makes. absurd (never makes quiet.makes);
    named = names-come (main_file command at made) _ free;
    sized = λ edits there. stream-kept changed old new w at.file (spelt before at);
    point = point;
  }
