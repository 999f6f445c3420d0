-- A FILE THAT COMES WITHOUT A NAME, or goes without one: what the records tell of names then.
use Rattle.std.proofs.Common.{◌≡◌, ◌≢◌, ℕ, cond, [], Some, None, sym, ap, ◌∙◌}
use Rattle.std.specs.Prelude.{All, filter_map, option_map}
use Rattle.std.proofs.lemmas.Bool.{ne_eqb}
use Rattle.std.proofs.lemmas.List.Elements.{All-contains}
use Rattle.ntfs_def.specs.FileName.{name_in}
use Rattle.ntfs_def.specs.declared.kinds.TheConstants.{FILE_NAME}
use Rattle.list_laws.proofs.SameItemsLaws.{SameItems-same}
use Rattle.volume_def.specs.FileNames.{is_file_name, names_among, names_of}
use Rattle.volume_def.specs.Files.{Part, content_value, records_of}
use Rattle.volume_def.specs.View.{VolumeView}
use Rattle.edit_def.specs.Names.{ComesUnnamed, numbers_by, numbers_in}
use Rattle.record_edits.proofs.PartEdits.{filter-nil}
use Rattle.file_edits.proofs.FileBeside.{HasMore}
use Rattle.file_edits.proofs.FileBeside as beside

module _ (f : ℕ) (lo hi : VolumeView) (h : HasMore f lo hi) (nameless : All (λ part. part.kind ≢ FILE_NAME) h.there.parts) where
  names-other : (g : ℕ) → g ≢ f → names_of (records_of hi) g ≡ names_of (records_of lo) g
  unfolding names_of
  names-other g ne = ap names_among (beside.parts-other f lo hi h g ne)

  names-none : names_of (records_of lo) f ≡ []
  unfolding names_of
  names-none = ap names_among h.alone

  names-own : names_of (records_of hi) f ≡ []
  unfolding names_of
  names-own =
      ap names_among (beside.parts-own f lo hi h)
      ∙ ap (filter_map (λ (part : Part). option_map name_in (content_value part.content)))
      (filter-nil is_file_name h.there.parts (λ part c.
      ne_eqb part.kind FILE_NAME (All-contains (λ part. part.kind ≢ FILE_NAME) h.there.parts part nameless c)))

  pub comes-unnamed : ComesUnnamed (records_of lo) (records_of hi) f (numbers_in h.there)
  comes-unnamed = record {
    others = λ g ne. record {
      numbers = ap numbers_by (h.others g ne);
      names = SameItems-same _ _ (sym (names-other g ne));
    };
    none = ap numbers_by h.none;
    now_at = ap numbers_by h.some ∙ ap (λ b. cond b (Some (numbers_in h.there)) None) h.plain.base;
    nowhere = names-none;
    unnamed = names-own;
  }
