-- INTO AND OUT OF the state within one call.
use Rattle.std.proofs.Common.{◌≡◌, ℕ, Bool, true, false, List, Option, Some, None, refl, sym, subst, inl, inr}
use Rattle.std.specs.Prelude.{IfSome, IsTrue}
use Rattle.std.proofs.lemmas.Bool.{cases_Bool, cases_eq, or_from}
use Rattle.ntfs_def.specs.declared.records.TheConstants.{MFT_MIRROR}
use Rattle.volume_def.specs.ExtentsClause.{MeetsExtents}
use Rattle.volume_def.specs.Files.{Record, is_base, parts, record_on, records_of}
use Rattle.volume_def.specs.ListsClause.{HasRightList, MeetsLists}
use Rattle.volume_def.specs.Readable.{IsFile}
use Rattle.volume_def.specs.Table.{cluster_bytes}
use Rattle.volume_def.specs.View.{VolumeView}
use Rattle.volume_edits.specs.Owners.{HasOwners}
use Rattle.edit_def.specs.Account.{Wants}
use Rattle.edit_def.specs.Edited.{Edited, is_bare}
use Rattle.edit_def.specs.Kept.{Key, either, key_of, same_key}
use Rattle.edit_def.specs.Marks.{Marks}
use Rattle.record_edits.specs.Between.{IsReady}
use Rattle.record_edits.specs.Pending.{IsPending, Stepped}
use Rattle.record_edits.specs.Whole.{IsWhole}
use Rattle.record_edits.proofs.WholeLaws.{meets-from, whole-from, whole-like}

-- nothing lags
abbrev pub no_key : Key → Bool
no_key key = false

pub pending-from : (f : ℕ) (lags : Key → Bool) (view : VolumeView) (marks : Marks) → IsReady view marks → IsPending f lags view marks
pending-from f lags view marks h = record {
  shape = h.editable.readable.shape;
  attributes = h.editable.readable.attributes;
  lists = λ n ne. h.editable.readable.lists n;
  extents = λ n ne. h.editable.readable.extents n;
  streams = λ is key own free. whole-from view key (h.editable.readable.extents key.file) (subst (IsFile view) (sym own) is);
  owners = h.editable.owners;
  version = h.editable.version;
  mirror_place = h.editable.mirror_place;
  mirror = h.editable.mirror;
  bitmaps = h.editable.bitmaps;
  right = h.editable.right;
  limits = h.limits;
  bases = h.bases;
  table = h.table;
}

-- once the list is right, and each attribute whole, all is
pub ready-from : (f : ℕ) (lags : Key → Bool) (view : VolumeView) (marks : Marks) → MeetsLists view f
    → MeetsExtents (records_of view) (cluster_bytes view.layout) f → IsPending f lags view marks → IsReady view marks
ready-from f lags view marks list whole h = record {
  editable = record {
    readable = record {
      shape = h.shape;
      attributes = h.attributes;
      lists = λ n. elim (cases_eq n f) [
        | inl same ↦ subst (MeetsLists view) (sym same) list
        | inr ne ↦ h.lists n ne
      ];
      extents = λ n. elim (cases_eq n f) [
        | inl same ↦ subst (MeetsExtents (records_of view) (cluster_bytes view.layout)) (sym same) whole
        | inr ne ↦ h.extents n ne
      ];
    };
    owners = h.owners;
    version = h.version;
    mirror_place = h.mirror_place;
    mirror = h.mirror;
    bitmaps = h.bitmaps;
    right = h.right;
  };
  limits = h.limits;
  bases = h.bases;
  table = h.table;
}

pub meets-list : (view : VolumeView) (f : ℕ) → HasRightList view f (parts (records_of view) f) → MeetsLists view f
meets-list view f h = by (record_on view f)
  where
    by : (o : Option Record) → IfSome o (λ r. IsTrue (is_base r) → HasRightList view f (parts (records_of view) f))
    by None = tt
    by (Some r) = λ base. h

-- each attribute is whole where those are that lag
pub meets-streams : (f : ℕ) (lags : Key → Bool) (view : VolumeView) (marks : Marks) → IsPending f lags view marks
    → ((kind : ℕ) (name : List ℕ) → lags (key_of f kind name) ≡ true → IsWhole view (key_of f kind name))
    → MeetsExtents (records_of view) (cluster_bytes view.layout) f
meets-streams f lags view marks h whole = meets-from view f (λ is kind name. elim (cases_Bool (lags (key_of f kind name))) [
  | inl lagging ↦ whole kind name lagging
  | inr free ↦ h.streams is (key_of f kind name) refl free
])

pub meets-none : (f : ℕ) (view : VolumeView) (marks : Marks) → IsPending f no_key view marks
    → MeetsExtents (records_of view) (cluster_bytes view.layout) f
meets-none f view marks h = meets-streams f no_key view marks h (λ kind name never. cc)

-- one that is whole again lags no more
pub pending-mended : (key : Key) (lags : Key → Bool) (view : VolumeView) (marks : Marks) → IsWhole view key
    → IsPending key.file (either (same_key key) lags) view marks → IsPending key.file lags view marks
pending-mended key lags view marks whole h = record {
  shape = h.shape;
  attributes = h.attributes;
  lists = h.lists;
  extents = h.extents;
  streams = λ is other own free. elim (cases_Bool (same_key key other)) [
    | inl same ↦ whole-like view key other same whole
    | inr differs ↦ h.streams is other own (or_from (same_key key other) (lags other) differs free)
  ];
  owners = h.owners;
  version = h.version;
  mirror_place = h.mirror_place;
  mirror = h.mirror;
  bitmaps = h.bitmaps;
  right = h.right;
  limits = h.limits;
  bases = h.bases;
  table = h.table;
}

-- and the steps were a call, where none of the file's records is left without an attribute
pub edited-from : (f : ℕ) (lags changed : Key → Bool) (wants : Wants) (old new : VolumeView) (was now : Marks)
    → Stepped f lags changed wants old new was now
    → MeetsLists new f → MeetsExtents (records_of new) (cluster_bytes new.layout) f
    → ((n : ℕ) → is_bare (record_on new n) ≡ true → is_bare (record_on old n) ≡ true)
    → Edited changed wants old new was now
edited-from f lags changed wants old new was now s list whole held = record {
  told = s.told;
  volume = s.volume;
  rest = s.rest;
  kept = s.kept;
  forms = s.forms;
  places = s.places;
  spent = s.spent;
  editable = (ready-from f lags new now list whole s.pending).editable;
  limits = s.pending.limits;
  bases = s.pending.bases;
  system = s.system;
  held = held;
}

-- no cluster has two owners meanwhile
abbrev pub owners-pending : (f : ℕ) (lags : Key → Bool) (view : VolumeView) (marks : Marks) → IsPending f lags view marks
    → HasOwners view
owners-pending f lags view marks h = record {
  owners = h.owners;
  mirror = h.mirror_place MFT_MIRROR refl;
  table = h.table.table;
}
