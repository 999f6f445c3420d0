-- AN ENTRY THAT ENTERED THE ROOT of an index without records: the record of the directory was written. And either way.
use Rattle.std.proofs.Common.{◌≡◌, ◌==◌, ◌&&◌, ℕ, true, List, inl, inr, refl, ap, sym, subst}
use Rattle.std.specs.Str.{bytes_eq}
use Rattle.std.proofs.lemmas.Bool.{and_left, cases_Bool, eqb-true}
use Rattle.ntfs_def.specs.Node.{Item}
use Rattle.ntfs_def.specs.declared.kinds.TheConstants.{BITMAP, INDEX_ALLOCATION, INDEX_ROOT}
use Rattle.volume_def.specs.Files.{Part, parts_at}
use Rattle.volume_def.specs.Values.{spot_at}
use Rattle.volume_def.specs.View.{VolumeView}
use Rattle.tree_model.specs.StreamRoom.{is_cluster}
use Rattle.edit_def.specs.Kept.{key_of}
use Rattle.edit_def.specs.Marks.{Marks}
use Rattle.record_edits.specs.Between.{IsReady}
use Rattle.root_puts.specs.PutsInRoot.{PutsInRoot, WritesRecord}
use Rattle.root_puts.proofs.RootLaws as root
use Rattle.made_edits.specs.Comes.{EntersIndex, EntersRoot}
use Rattle.made_edits.specs.Left.{KeepsOwnIndex, index_name}
use Rattle.made_edits.proofs.Entered.{Entered}
use Rattle.made_edits.proofs.IndexPut.{entered-record}
use Rattle.made_edits.proofs.OwnIndex.{no-cluster}

module _ (old new : VolumeView) (dir : ℕ) (item : Item) (marks : Marks) (ready : IsReady old marks)
    (enters : EntersRoot old new dir item) where
  abbrev all : PutsInRoot old new marks dir item
  all = record { grows = enters.grows; ready = ready; one = enters.one }

  writes : WritesRecord old new dir
  writes = root.writes-record old new marks dir item all

  -- the root has no cluster, and the other parts of the index stay
  spots : (kind vcn : ℕ) → is_cluster (spot_at (parts_at new dir kind index_name) vcn) ≡ true
      → spot_at (parts_at new dir kind index_name) vcn ≡ spot_at (parts_at old dir kind index_name) vcn
  spots kind vcn is = elim (cases_Bool (INDEX_ROOT == kind)) [
    | inl own ↦ absurd (no-cluster (parts_at new dir INDEX_ROOT index_name) (root.root-runs old new marks dir item all) vcn
        (subst (λ kind. is_cluster (spot_at (parts_at new dir kind index_name) vcn) ≡ true) (sym (eqb-true INDEX_ROOT kind own)) is))
    | inr free ↦ ap (λ (xs : List Part). spot_at xs vcn)
        (root.parts-same old new marks dir item all dir kind index_name
        (and_left (INDEX_ROOT == kind) ((dir == dir) && bytes_eq index_name index_name) free))
  ]

  own : KeepsOwnIndex old new dir
  own = record {
    head = root.root-kept old new marks dir item all;
    records = root.parts-same old new marks dir item all dir INDEX_ALLOCATION index_name refl;
    bits = root.parts-same old new marks dir item all dir BITMAP index_name refl;
    flags = root.values-same old new marks dir item all dir BITMAP index_name refl refl;
    depth = enters.grows.puts.depth;
    spots = λ kind vcn index is. spots kind vcn is;
  }

  pub entered-root : Entered old new marks dir item
  entered-root = record {
    ready = root.ready-now old new marks dir item all;
    told = writes.told;
    layout = writes.layout;
    rest = writes.rest;
    blocks = writes.blocks;
    copies = writes.copies;
    clusters = λ c outside free. writes.clusters c outside;
    records = writes.records;
    others = writes.others;
    same = λ f kind name free.
        root.parts-same old new marks dir item all f kind name (root.index-free old new marks dir item all (key_of f kind name) free);
    kinds = root.kinds-same old new marks dir item all;
    names_kept = root.names-kept old new marks dir item all;
    holder = λ was at. root.keeps-holder old new marks dir item all;
    forms = root.forms-kept old new marks dir item all;
    own = own;
    changes = root.entry old new marks dir item all;
  }

-- EITHER WAY
pub entered : (old new : VolumeView) (dir : ℕ) (item : Item) (marks : Marks) → IsReady old marks → EntersIndex old new dir item
    → Entered old new marks dir item
entered old new dir item marks ready (inl puts) = entered-record old new dir item marks ready puts
entered old new dir item marks ready (inr enters) = entered-root old new dir item marks ready enters
