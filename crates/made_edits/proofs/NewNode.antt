-- THE NEW FILE AS A NODE: a directory has an empty index.
use Rattle.std.proofs.Common.{◌≡◌, ◌≤◌, ℕ, Bool, true, false, List, [], codes, filter, map, None, Some, refl, sym, ap, subst, ◌∙◌}
use Rattle.std.proofs.Common.{arith}
use Rattle.list_laws.proofs.PieceLaws.{All-tested}
use Rattle.ntfs_def.specs.FileName.{is_name_key}
use Rattle.ntfs_def.specs.Node.{Item, are_short, child_at, is_entry, is_last_entry, item_at, node_header, scan_node, short_node}
use Rattle.ntfs_def.specs.Units.{wide}
use Rattle.ntfs_def.specs.declared.index.NodeForm.TheVariants.{Names}
use Rattle.ntfs_def.specs.declared.kinds.TheConstants.{BITMAP, INDEX_ALLOCATION, INDEX_ROOT}
use Rattle.ntfs_def.specs.declared.records.TheConstants.{FIRST_ORDINARY}
use Rattle.volume_def.specs.Files.{Part, content_value, is_of, parts, record_on, records_of}
use Rattle.volume_def.specs.Values.{IsPlainIfThere}
use Rattle.volume_def.specs.View.{VolumeView}
use Rattle.tree_model.specs.Effects.{new_node}
use Rattle.edit_def.specs.Account.{Wants}
use Rattle.edit_def.specs.Edited.{Edited}
use Rattle.edit_def.specs.Items.{HasItems}
use Rattle.edit_def.specs.Marks.{Marks}
use Rattle.edit_def.specs.Names.{ComesUnnamed}
use Rattle.root_puts.specs.Calls.{IsNewStandard, MakesNode}
use Rattle.root_puts.specs.Keys.{is_key_of}
use Rattle.root_puts.proofs.NodesMade.{make-directory, make-file}
use Rattle.made_edits.specs.Comes.{empty_root}
use Rattle.made_edits.proofs.BodyParts.{bodied_parts}

-- its root says no entry
empty-says : (size : ℕ) → short_node Names (empty_root size) ≡ Some (record { entries = []; last = None })
unfolding scan_node node_header is_entry is_last_entry item_at child_at are_short
empty-says size = refl

-- THE INDEX of a new directory has no item.
module _ (view : VolumeView) (n size : ℕ) (standard : List ℕ)
    (own : parts (records_of view) n ≡ bodied_parts true size n standard) where
  none-of : (kind : ℕ) → filter (is_of kind (wide (codes "$I30"))) (bodied_parts true size n standard) ≡ []
      → filter (is_of kind (wide (codes "$I30"))) (parts (records_of view) n) ≡ []
  none-of kind none = ap (filter (is_of kind (wide (codes "$I30")))) own ∙ none

  pub empty-items : HasItems view n []
  empty-items =
      let records = none-of INDEX_ALLOCATION refl in
      let bits = none-of BITMAP refl in
      record {
        index = record {
          root = empty_root size;
          is_root = ap (λ (xs : List Part). map (λ (part : Part). content_value part.content)
              (filter (is_of INDEX_ROOT (wide (codes "$I30"))) xs)) own;
          collation = refl;
          record_size = refl;
          plain = subst IsPlainIfThere (sym records) tt;
          plain_bits = subst IsPlainIfThere (sym bits) tt;
          written = rw records tt;
          root_node = record { entries = []; last = None };
          says = empty-says size;
          walks = record {
            depth = 0;
            small = omega arith;
            s = record { branches = []; last = tt };
            holds = record { node = refl; stored = tt; once = λ place. omega arith };
            is = refl;
          };
          each = λ vcn some. absurd (omega (arith, some));
          keys = All-tested (λ (item : Item). is_name_key item.key) [] refl;
          ascending = tt;
        };
        kind = refl;
      }

-- THE CALL by which the node comes
pub node-made : (directory : Bool) (wants : Wants) (old new : VolumeView) (before after : Marks) (n sequence moment security size : ℕ)
    (standard : List ℕ) → FIRST_ORDINARY ≤ n → record_on old n ≡ None → Edited (is_key_of n) wants old new before after
    → ComesUnnamed (records_of old) (records_of new) n (record { sequence = sequence; links = 0; directory = directory })
    → parts (records_of new) n ≡ bodied_parts directory size n standard → IsNewStandard directory moment security standard
    → MakesNode wants old new before after n directory (new_node directory moment security)
node-made false wants old new before after n sequence moment security size standard ordinary unused edited comes own is =
    make-file wants old new before after n sequence moment security 0 1 standard ordinary unused edited comes own is
node-made true wants old new before after n sequence moment security size standard ordinary unused edited comes own is =
    make-directory wants old new before after n sequence moment security 0 1 standard ordinary unused edited (empty_root size) comes own is
    (empty-items new n size standard own)
