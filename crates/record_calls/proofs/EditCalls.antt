-- CALLS ON ONE RECORD, as edits of one attribute.
use Rattle.std.proofs.Common.{◌≡◌, ◌+◌, ℕ, List, [], ◌∷◌, refl, sym, ap, subst, ◌∙◌, arith}
use Rattle.std.specs.Prelude.{IsSome, unwrap_or}
use Rattle.ntfs_def.specs.Attribute.{Attribute, Body, attribute_at, value_of}
use Rattle.attr_view.specs.Values.{overwritten, with_length}
use Rattle.volume_def.specs.Files.{Part, content_of, content_runs, content_value, part_of, part_runs, records_of}
use Rattle.volume_def.specs.OwnersClause.{MeetsOwners}
use Rattle.volume_def.specs.View.{VolumeView}
use Rattle.volume_edits.specs.Rewritten.{EditsBlock}
use Rattle.edit_def.specs.Kept.{Key}
use Rattle.edit_def.specs.Marks.{Marks}
use Rattle.file_edits.specs.Owners.{times_in}
use Rattle.file_edits.specs.RecordEdit.{parts_made}
use Rattle.file_edits.proofs.BlockEdits.{edit-of}
use Rattle.file_edits.proofs.FillLaws.{follows-came, names-came}
use Rattle.file_record.specs.Attributes.{InsertsAttribute, RemovesAttribute, ReplacesAttribute, ResizesAttribute}
use Rattle.file_record.specs.Sizes.{WritesSizes}
use Rattle.file_record.specs.Written.{WritesBytes}
use Rattle.record_calls.specs.Edits.{FollowsEdit, IsEdit, IsRightEdit}
use Rattle.record_calls.proofs.Values.{AreValues, body-runs, body-value, no-times, no-value, one-times, one-value, value-mapped}

-- an edit of one block
abbrev pub edit-block : (key : Key) (old new : VolumeView) (before after : Marks) (n : ℕ) (stored : List ℕ) (was now : List Attribute)
    → EditsBlock old new n stored was now → IsRightEdit key old n stored was now → FollowsEdit old before after n was now
    → IsEdit key old new before after n stored was now
edit-block key old new before after n stored was now block right follows = record {
  part = record {
    n = n;
    stored = stored;
    was = was;
    now = now;
    block = block;
    file = right.file;
    is_file = right.is_file;
    may = right.may;
    was_of = right.was_of;
    now_of = right.now_of;
    right = right.right;
    limits = right.limits;
    names = follows.names;
    follows = follows.follows;
    rows = follows.rows;
  };
  n_is = refl;
  stored_is = refl;
  was_is = refl;
  now_is = refl;
}

-- VALUES have no clusters
pub follows-values : (old : VolumeView) (marks : Marks) (n : ℕ) (was now : List Attribute) → AreValues was → AreValues now
    → FollowsEdit old marks marks n was now
follows-values old marks n was now a b = record {
  names = record {
    apart = λ c. omega (arith, no-times n now b c);
    on_volume = λ c some none. absurd (omega (arith, no-times n now b c, some));
    free = λ c some none. absurd (omega (arith, no-times n now b c, some));
    held = λ c. omega (arith, no-times n was a c);
  };
  follows = record {
    count = refl;
    taken = λ c lt more. absurd (omega (arith, no-times n now b c, more));
    given = λ c lt fewer. absurd (omega (arith, no-times n was a c, fewer));
    kept = λ c same. refl;
  };
  rows = refl;
}

abbrev pub edit-values : (key : Key) (old new : VolumeView) (marks : Marks) (n : ℕ) (stored : List ℕ) (was now : List Attribute)
    → EditsBlock old new n stored was now → AreValues was → AreValues now → IsRightEdit key old n stored was now
    → IsEdit key old new marks marks n stored was now
edit-values key old new marks n stored was now block a b right =
    edit-block key old new marks marks n stored was now block right (follows-values old marks n was now a b)

-- RUNS THAT STAY
follows-same : (old new : VolumeView) (marks : Marks) (n : ℕ) (stored : List ℕ) (was now : List Attribute)
    → EditsBlock old new n stored was now → ((c : ℕ) → MeetsOwners (records_of old) old.layout.clusters c)
    → ((c : ℕ) → times_in (parts_made n now) c ≡ times_in (parts_made n was) c) → FollowsEdit old marks marks n was now
follows-same old new marks n stored was now block owners same =
    let times : (c : ℕ) → times_in (parts_made n now) c ≡ times_in (parts_made n was) c + 0 = λ c. omega (arith, same c) in
    record {
      names = names-came (records_of old) (records_of new) old.layout.clusters n (parts_made n was) (parts_made n now) (λ c. 0)
          (edit-of old new n stored was now block) (λ c. (owners c).once) times (λ c. omega arith) (λ c some. absurd (omega (arith, some)));
      follows = follows-came marks.clusters marks.clusters (parts_made n was) (parts_made n now) (λ c. 0) refl times
          (λ c lt some. absurd (omega (arith, some))) (λ c none. refl);
      rows = refl;
    }

-- THE SIZES of a stream
pub sizes-edit : (key : Key) (old new : VolumeView) (marks : Marks) (part : Part) (real initialized : ℕ)
    → (e : WritesSizes old new part real initialized) → ((c : ℕ) → MeetsOwners (records_of old) old.layout.clusters c)
    → IsRightEdit key old part.holder e.stored (e.was ∷ []) (e.now ∷ [])
    → IsEdit key old new marks marks part.holder e.stored (e.was ∷ []) (e.now ∷ [])
sizes-edit key old new marks part real initialized e owners right =
    let runs : part_runs (part_of part.holder e.now) ≡ part_runs (part_of part.holder e.was) =
    ap (λ (body : Body). unwrap_or (content_runs (content_of body)) []) e.changes.body
    ∙ ap (λ runs. unwrap_or runs []) (body-runs e.was.body real initialized) in
    edit-block key old new marks marks part.holder e.stored (e.was ∷ []) (e.now ∷ []) e.record_is right
    (follows-same old new marks part.holder e.stored (e.was ∷ []) (e.now ∷ []) e.record_is owners
    (one-times (part_of part.holder e.was) (part_of part.holder e.now) runs))

-- ATTRIBUTES
pub insert-edit : (key : Key) (old new : VolumeView) (before after : Marks) (n i : ℕ) (attr : List ℕ)
    → (e : InsertsAttribute old new n i attr) → IsRightEdit key old n e.stored [] (attribute_at attr 0 ∷ [])
    → FollowsEdit old before after n [] (attribute_at attr 0 ∷ [])
    → IsEdit key old new before after n e.stored [] (attribute_at attr 0 ∷ [])
insert-edit key old new before after n i attr e right follows =
    edit-block key old new before after n e.stored [] (attribute_at attr 0 ∷ []) e.edits right follows

pub remove-edit : (key : Key) (old new : VolumeView) (before after : Marks) (n i : ℕ) → (e : RemovesAttribute old new n i)
    → IsRightEdit key old n e.stored (e.was ∷ []) [] → FollowsEdit old before after n (e.was ∷ []) []
    → IsEdit key old new before after n e.stored (e.was ∷ []) []
remove-edit key old new before after n i e right follows =
    edit-block key old new before after n e.stored (e.was ∷ []) [] e.edits right follows

pub replace-edit : (key : Key) (old new : VolumeView) (before after : Marks) (n i : ℕ) (attr : List ℕ)
    → (e : ReplacesAttribute old new n i attr) → IsRightEdit key old n e.stored (e.was ∷ []) (attribute_at attr 0 ∷ [])
    → FollowsEdit old before after n (e.was ∷ []) (attribute_at attr 0 ∷ [])
    → IsEdit key old new before after n e.stored (e.was ∷ []) (attribute_at attr 0 ∷ [])
replace-edit key old new before after n i attr e right follows =
    edit-block key old new before after n e.stored (e.was ∷ []) (attribute_at attr 0 ∷ []) e.edits right follows

pub resize-edit : (key : Key) (old new : VolumeView) (before after : Marks) (n i len : ℕ) → (e : ResizesAttribute old new n i len)
    → IsRightEdit key old n e.stored (e.was ∷ []) (e.now ∷ []) → FollowsEdit old before after n (e.was ∷ []) (e.now ∷ [])
    → IsEdit key old new before after n e.stored (e.was ∷ []) (e.now ∷ [])
resize-edit key old new before after n i len e right follows =
    edit-block key old new before after n e.stored (e.was ∷ []) (e.now ∷ []) e.edits right follows

-- .. THAT ARE VALUES
pub insert-value : (key : Key) (old new : VolumeView) (marks : Marks) (n i : ℕ) (attr : List ℕ) → (e : InsertsAttribute old new n i attr)
    → IsSome (value_of (attribute_at attr 0).body) → IsRightEdit key old n e.stored [] (attribute_at attr 0 ∷ [])
    → IsEdit key old new marks marks n e.stored [] (attribute_at attr 0 ∷ [])
insert-value key old new marks n i attr e is right =
    edit-values key old new marks n e.stored [] (attribute_at attr 0 ∷ []) e.edits no-value (one-value (attribute_at attr 0) is) right

pub remove-value : (key : Key) (old new : VolumeView) (marks : Marks) (n i : ℕ) → (e : RemovesAttribute old new n i)
    → IsSome (value_of e.was.body) → IsRightEdit key old n e.stored (e.was ∷ []) []
    → IsEdit key old new marks marks n e.stored (e.was ∷ []) []
remove-value key old new marks n i e is right =
    edit-values key old new marks n e.stored (e.was ∷ []) [] e.edits (one-value e.was is) no-value right

pub replace-value : (key : Key) (old new : VolumeView) (marks : Marks) (n i : ℕ) (attr : List ℕ) → (e : ReplacesAttribute old new n i attr)
    → IsSome (value_of e.was.body) → IsSome (value_of (attribute_at attr 0).body)
    → IsRightEdit key old n e.stored (e.was ∷ []) (attribute_at attr 0 ∷ [])
    → IsEdit key old new marks marks n e.stored (e.was ∷ []) (attribute_at attr 0 ∷ [])
replace-value key old new marks n i attr e was now right =
    edit-values key old new marks n e.stored (e.was ∷ []) (attribute_at attr 0 ∷ []) e.edits (one-value e.was was)
    (one-value (attribute_at attr 0) now) right

pub resize-value : (key : Key) (old new : VolumeView) (marks : Marks) (n i len : ℕ) → (e : ResizesAttribute old new n i len)
    → IsSome (value_of e.was.body) → IsRightEdit key old n e.stored (e.was ∷ []) (e.now ∷ [])
    → IsEdit key old new marks marks n e.stored (e.was ∷ []) (e.now ∷ [])
resize-value key old new marks n i len e is right =
    edit-values key old new marks n e.stored (e.was ∷ []) (e.now ∷ []) e.edits (one-value e.was is)
    (one-value e.now (value-mapped e.was.body e.now.body (with_length len) e.value is)) right

pub write-value : (key : Key) (old new : VolumeView) (marks : Marks) (part : Part) (at : ℕ) (from : List ℕ)
    → (e : WritesBytes old new part at from) → IsSome (content_value part.content)
    → IsRightEdit key old part.holder e.stored (e.was ∷ []) (e.now ∷ [])
    → IsEdit key old new marks marks part.holder e.stored (e.was ∷ []) (e.now ∷ [])
write-value key old new marks part at from e is right =
    let was : IsSome (value_of e.was.body) =
    subst IsSome (sym (ap (λ (p : Part). content_value p.content) e.is) ∙ body-value e.was.body) is in
    edit-values key old new marks part.holder e.stored (e.was ∷ []) (e.now ∷ []) e.record_is (one-value e.was was)
    (one-value e.now (value-mapped e.was.body e.now.body (λ value. overwritten value at from) e.overwrites.value was)) right
