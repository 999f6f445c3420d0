-- THE ITEM OF A NAME in the index of its directory.
use Rattle.std.proofs.Common.{◌≡◌, ℕ, List, Some, refl, sym, ap, ◌∙◌, map, filter, eq-eqb}
use Rattle.std.specs.Coded.{Coded, code_by, coded×, coded_list, coded_ℕ}
use Rattle.std.specs.List.{Contains}
use Rattle.std.specs.Prelude.{IsTrue}
use Rattle.list_laws.proofs.CodedLaws.{SameItems-Contains}
use Rattle.list_laws.proofs.MemberLaws.{Contains-filter, Contains-from_map}
use Rattle.list_laws.proofs.SameItemsLaws.{SameItems-sym}
use Rattle.ntfs_def.specs.FileName.{FileName, Link, key_units, link_of, name_in}
use Rattle.ntfs_def.specs.KeyOrder.{name_order}
use Rattle.ntfs_def.specs.Node.{Item}
use Rattle.ntfs_def.specs.Record.{Reference}
use Rattle.ntfs_def.proofs.KeyOrderLaws.{name_ties}
use Rattle.volume_def.specs.CaseClause.{volume_fold}
use Rattle.volume_def.specs.FileNames.{is_in_directory, links, names_of}
use Rattle.volume_def.specs.Files.{Record, is_base, record_on, records_of}
use Rattle.volume_def.specs.IndexesClause.{IsDirectoryIndex}
use Rattle.volume_def.specs.View.{VolumeView}
use Rattle.attribute_edits.proofs.NamedItems.{named-link}
use Rattle.index_tree.specs.Edit.{IsAt}
use Rattle.command_edits.specs.Calls.{link_with}
use Rattle.entry_edits.proofs.SwappedItems.{item-at}

-- a link is told from all others by its numbers
reference_code : Coded Reference
reference_code = code_by (ℕ × ℕ) (coded× coded_ℕ coded_ℕ) (λ r. (r.number, r.sequence)) (λ p. record { number = p.0; sequence = p.1 })
    (λ _. refl)

name_code : Coded FileName
name_code = code_by (Reference × (ℕ × List ℕ)) (coded× reference_code (coded× coded_ℕ (coded_list coded_ℕ)))
    (λ n. (n.parent, (n.namespace, n.units))) (λ p. record { parent = p.0; namespace = p.1.0; units = p.1.1 }) (λ _. refl)

link_code : Coded Link
link_code = code_by (Reference × FileName) (coded× reference_code name_code) (λ l. (l.file, l.name))
    (λ p. record { file = p.0; name = p.1 }) (λ _. refl)

-- The directory has an item of this key, which leads to file n under this name.
pub record HasItemOf (view : VolumeView) (n sequence : ℕ) (name : FileName) (key : List ℕ) (items : List Item) : Type 0 where
  pub item : Item
  pub link : link_of item ≡ link_with n sequence name
  pub at : IsAt (name_order (volume_fold view)) key items item

units-of : (item : Item) → (link_of item).name.units ≡ key_units item.key
unfolding name_in
units-of item = refl

pub item-found : (view : VolumeView) (n : ℕ) (r : Record) → record_on view n ≡ Some r → IsTrue (is_base r) → (name : FileName)
    → Contains (names_of (records_of view) n) name → (d : IsDirectoryIndex view name.parent.number) → (key : List ℕ)
    → key_units key ≡ name.units → HasItemOf view n r.header.sequence name key d.items
item-found view n r on base name among d key key_is =
    let link : Link = link_with n r.header.sequence name in
    let all = links (records_of view) in
    let inside = Contains-filter (is_in_directory name.parent.number) all link (named-link view n r on base name among)
    (eq-eqb name.parent.number name.parent.number refl) in
    let met = SameItems-Contains link_code (filter (is_in_directory name.parent.number) all) (map link_of d.items) link
    (SameItems-sym (map link_of d.items) (filter (is_in_directory name.parent.number) all) d.names) inside in
    let found = Contains-from_map link_of d.items link met in
    let same : key_units found.0.key ≡ key_units key =
    sym (units-of found.0) ∙ ap (λ (l : Link). l.name.units) found.2 ∙ sym key_is in
    record {
      item = found.0;
      link = found.2;
      at = item-at (name_order (volume_fold view)) key d.items found.0 found.1 ((name_ties (volume_fold view) found.0.key key).1 same);
    }
