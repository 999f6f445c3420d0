-- The clause on links holds of a new volume.
use Rattle.std.proofs.Common.{◌≡◌, ℕ, [], ◌∷◌, length, Some, refl, ap, sym, ◌∙◌, arith}
use Rattle.std.specs.Prelude.{IsTrue}
use Rattle.std.proofs.lemmas.List.Elements.{All-from_recursion}
use Rattle.std.proofs.lemmas.Bool.{false≢true}
use Rattle.ntfs_def.specs.declared.records.TheConstants.{ROOT}
use Rattle.ntfs_def.specs.FileName.{FileName, name_in}
use Rattle.ntfs_def.specs.Record.{Reference}
use Rattle.volume_def.specs.FileNames.{is_dos, names_of}
use Rattle.volume_def.specs.Files.{Record, is_base, is_directory}
use Rattle.volume_def.specs.LinksClause.{HasRightLinks, IsPairedAmong, MeetsLinks}
use Rattle.volume_format.specs.Plan.{Plan, name_value, planned_records, record_in_list, record_list}
use Rattle.volume_format.proofs.EachRecord.{at-listed}
use Rattle.volume_format.proofs.Listed.{IfSome-from}
use Rattle.volume_format.proofs.Names.{HasOneName, names-planned, names_of-planned, namespace-planned, parent-root}

module _ (p : Plan) where
  -- a file with one name of namespace 3, which stands in the root where it is a directory's
  linked : (f : ℕ) (r : Record) (name : FileName) → names_of (planned_records p) f ≡ name ∷ [] → name.namespace ≡ 3
      → r.header.links ≡ 1 → (IsTrue (is_directory r) → name.parent.number ≡ ROOT) → HasRightLinks (planned_records p) f r
  linked f r name all space links up = record {
    named = λ ordinary. rw all (omega arith);
    count = λ ordinary. links ∙ sym (ap length all);
    paired = rw all (All-from_recursion (IsPairedAmong (name ∷ [])) (name ∷ [])
        (record { long = λ t. absurd (dos t); alone = λ t. absurd (dos t) }, tt));
    once = λ ne t. rw (all, space) refl;
    rooted = λ ne t. (1, rw (all, space) (ap Some (up t)));
  }
    where
      dos : IsTrue (is_dos name) → ⊥
      dos t = false≢true (rw space at t)

  links-one : (f : ℕ) (r : Record) → record_in_list (record_list p) f ≡ Some r → HasOneName f r → HasRightLinks (planned_records p) f r
  links-one f r e name =
      linked f r (name_in (name_value name.parent name.directory name.letters)) (names_of-planned p f r e ∙ name.one)
      (namespace-planned name.parent name.directory name.letters) name.links
      (λ t.
      ap (λ parent. (name_in (name_value parent name.directory name.letters)).parent.number) (name.up t)
      ∙ ap (λ (r : Reference). r.number) (parent-root name.directory name.letters))

  pub MeetsLinks-planned : (f : ℕ) → MeetsLinks (planned_records p) f
  MeetsLinks-planned f = record {
    links = IfSome-from (record_in_list (record_list p) f) (λ r. IsTrue (is_base r) → HasRightLinks (planned_records p) f r)
        (λ r is base. links-one f r is (at-listed HasOneName p (names-planned p) f r is));
    root = λ e. (refl, refl);
  }
