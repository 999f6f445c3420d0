-- The first record that is not filed as is noted is the first that breaks the clause.
use Rattle.std.proofs.Common.{◌≡◌, ◌↔◌, ◌<◌, ℕ, List, Option, None, slice_index, inl, inr, refl, sym, ap, subst, ◌∙◌, arith}
use Rattle.std.specs.Prelude.{IsTrue}
use Rattle.std.proofs.lemmas.Bool.{cases_lt}
use Rattle.std.proofs.lemmas.List.{get_or_past}
use Rattle.ntfs_def.specs.declared.records.TheConstants.{ROOT}
use Rattle.volume_def.specs.Files.{Records}
use Rattle.volume_def.specs.LinksClause.{ReachesRoot}
use Rattle.volume_def.specs.ReferencesClause.{MeetsReferences}
use Rattle.record_notes.specs.declared.heads.Heads.{Heads}
use Rattle.volume_clauses.specs.declared.marks.Mark.{Mark}
use Rattle.volume_clauses.specs.declared.marks.Mark.TheVariants.{Unknown, Walking, Found, Lost}
use Rattle.record_notes.specs.declared.names.NameFact.{NameFact}
use Rattle.volume_clauses.specs.declared.tallies.Tally.{Tally}
use Rattle.record_notes.specs.Heads.{EndsAtCount, HeadsNote, head_at}
use Rattle.list_laws.specs.Least.{IsLeastFailing}
use Rattle.volume_clauses.specs.Links.{IsFiled, MeetsFiling}
use Rattle.volume_clauses.specs.Marks.{IsKnown, is_found, mark_at}
use Rattle.volume_clauses.specs.Tallies.{IsTally, parent_within, places_in_file, tally_at}
use Rattle.volume_clauses.proofs.FilingLaws.{IsTallyOf, IsTallyOf-noted, filed-meets, parent-inside, unused-meets}
use Rattle.record_notes.proofs.HeadLaws.{HeadsNote-all}
use Rattle.list_laws.proofs.LeastLaws.{least-same}
use Rattle.volume_clauses.proofs.ReferenceLaws.{TellNames}
use Rattle.volume_clauses.proofs.WayLaws.{AreParents, Reaches-Leads}

found-is : (m : Mark) → IsTrue (is_found m) ↔ (m ≡ Found)
found-is Unknown = (λ h. absurd (cc), λ e. absurd (cc))
found-is Walking = (λ h. absurd (cc), λ e. absurd (cc))
found-is Found = (λ h. refl, λ e. refl)
found-is Lost = (λ h. absurd (cc), λ e. absurd (cc))

-- What was found out of so many files: their tallies, their parents and which of them reach the root.
pub record AreFoundOut (facts : List NameFact) (count : ℕ) (tallies : List Tally) (parents : List ℕ) (marks : List Mark) : Type 0 where
  pub tally : (f : ℕ) → f < count → IsTally (places_in_file f facts) (tally_at tallies f)
  pub parent : (f : ℕ) → f < count → slice_index parents f ≡ parent_within count f (tally_at tallies f).parent
  pub known : (f : ℕ) → f < count → IsKnown parents ROOT (mark_at marks f) f

pub least-filing : (records : Records) (heads : Heads) (facts : List NameFact) (tallies : List Tally) (parents : List ℕ)
    (marks : List Mark) (o : Option ℕ)
    → EndsAtCount records → HeadsNote records records.count heads → TellNames records facts → ((n : ℕ) → MeetsReferences records n)
    → AreFoundOut facts records.count tallies parents marks
    → IsLeastFailing (λ f. IsFiled f (head_at heads f) (tally_at tallies f) (is_found (mark_at marks f))) o
    → IsLeastFailing (MeetsFiling records) o
least-filing records heads facts tallies parents marks o ends note tell references out least =
    let count = records.count in
    let tally : (f : ℕ) → f < count → IsTallyOf records f (tally_at tallies f) =
    λ f l. IsTallyOf-noted records facts f (tally_at tallies f) tell (out.tally f l) in
    let are : AreParents records count parents = record {
      each = λ f l. let t = tally f l in out.parent f l ∙ ap (parent_within count f) t.parent;
      inside = λ f p e. parent-inside records f p ends references e;
    } in
    let both : (f : ℕ) → IsFiled f (head_at heads f) (tally_at tallies f) (is_found (mark_at marks f)) ↔ MeetsFiling records f =
    λ f. elim (cases_lt f count) [
      | inl l ↦
          let mark = mark_at marks f in
          let known = out.known f l in
          let found = found-is mark in
          let leads = Reaches-Leads records count parents ROOT f are l in
          let way : IsTrue (is_found mark) ↔ ReachesRoot records f =
          (λ h. leads.0 (known.found.0 (found.0 h)), λ r. found.1 (known.found.1 (leads.1 r))) in
          filed-meets records f (head_at heads f) (tally_at tallies f) (is_found mark) (HeadsNote-all records heads ends note f)
          (tally f l) way
      | inr ge ↦
          let none : head_at heads f ≡ None = get_or_past heads.heads.items f None (omega (arith, note.count)) in
          subst (λ h. IsFiled f h (tally_at tallies f) (is_found (mark_at marks f)) ↔ MeetsFiling records f) (sym none)
          (unused-meets records f (tally_at tallies f) (is_found (mark_at marks f)) (ends f ge))
    ] in
    least-same (λ f. IsFiled f (head_at heads f) (tally_at tallies f) (is_found (mark_at marks f))) (MeetsFiling records) o
    (λ f. (both f).0) (λ f. (both f).1) least
