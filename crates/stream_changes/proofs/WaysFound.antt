-- WHAT WAS FOUND OF A STREAM that goes, or has another length, by the way in which that is done: a value, or an extent.
use Rattle.std.proofs.Common.{◌≡◌, ◌==◌, ◌&&◌, not, ℕ, Bool, true, false, List, [], ◌∷◌, length, Some, None, refl, sym, ap, subst}
use Rattle.std.proofs.Common.{inl, inr, ◌∙◌}
use Rattle.std.specs.List.{list_any}
use Rattle.std.specs.Prelude.{IsSome, IsTrue, is_some, slice_get}
use Rattle.std.proofs.lemmas.Bool.{and_parts, eqb-true, not-true}
use Rattle.list_laws.proofs.FindLaws.{find-found, none-counted}
use Rattle.list_laws.proofs.OptionLaws.{some_same}
use Rattle.ntfs_def.specs.Attribute.{ExtentHeader}
use Rattle.ntfs_def.specs.Runs.{total_clusters}
use Rattle.ntfs_def.specs.declared.kinds.TheConstants.{DATA}
use Rattle.ntfs_def.specs.declared.run_text.Run.{Run}
use Rattle.volume_def.specs.CaseClause.{case_parts, volume_fold}
use Rattle.volume_def.specs.ExtentsClause.{AreAttribute, AreWhole}
use Rattle.volume_def.specs.Files.{Clusters, Content, Part, Record, Value, all_covered, content_extent, content_runs, content_value}
use Rattle.volume_def.specs.Files.{is_base, parts, parts_at, records_of}
use Rattle.volume_def.specs.ListsClause.{is_list}
use Rattle.volume_def.specs.StreamSize.{real_size}
use Rattle.volume_def.specs.Table.{cluster_bytes}
use Rattle.volume_def.specs.Values.{first_part, first_vcn_of, is_first, value_on}
use Rattle.volume_def.specs.View.{VolumeView}
use Rattle.volume_def.proofs.PartLaws.{record_at-block}
use Rattle.volume_def.proofs.SoundLaws.{readable-sound}
use Rattle.tree_model.specs.Facts.{is_whole_table}
use Rattle.tree_model.specs.Reading.{read, streams_of}
use Rattle.tree_model.specs.Staging.{cannot_edit}
use Rattle.tree_model.specs.StreamRoom.{parts_named, stream_parts}
use Rattle.tree_model.specs.Tree.{sought_stream}
use Rattle.tree_model.specs.Ways.{has_no_list, has_placed_bits, in_extent}
use Rattle.tree_model.specs.declared.tree.Stream.{Stream}
use Rattle.sparse_io.specs.declared.find.FoundStream.{FoundStream}
use Rattle.sparse_io.specs.Held.{IsHeldWith, IsStream}
use Rattle.sparse_io.proofs.OverwriteLaws.{found-first, found-parts, found-stored}
use Rattle.value_edits.proofs.Below.{file, may-edit, named-same, node-streams}
use Rattle.value_edits.proofs.Below as below
use Rattle.tree_edit.specs.Below.{number_of}
use Rattle.tree_edit.proofs.Below.{held-with}
use Rattle.tree_edit.specs.Alone.{can_give}
use Rattle.tree_edit.specs.Writable.{IsFoundToEdit, named_in}
use Rattle.tree_edit.specs.declared.writable.Writable.{Writable}
use Rattle.tree_edit.proofs.EditableLaws.{parts-are}
use Rattle.stream_changes.specs.Streams.{CanGive}
use Rattle.stream_changes.proofs.ExtentCovers.{covers-one, one-list, ordered-one}

-- an extent, of what is one
extent-of : (content : Content) → is_some (content_extent content) ≡ true → IsSome (content_runs content)
    → (extent : ExtentHeader) × (runs : List Run) × (content ≡ Clusters extent (Some runs))
extent-of (Value value) is runs = absurd (never is)
  where
    never : false ≡ true → ⊥
    never e = cc
extent-of (Clusters extent None) is runs = cc
extent-of (Clusters extent (Some runs)) is there = (extent, runs, refl)

whole-runs : (part : Part) → AreWhole (part ∷ []) → is_some (content_extent part.content) ≡ true → IsSome (content_runs part.content)
whole-runs part (inl value) is = absurd (both part.content value is)
  where
    both : (content : Content) → IsSome (content_value content) → is_some (content_extent content) ≡ true → ⊥
    both (Value value) some is = cc
    both (Clusters extent runs) some is = cc
whole-runs part (inr begins) is = begins.runs

-- one that can give its clusters back has these runs alone
pub give-same : (v : VolumeView) (found : FoundStream) (f : ℕ) (a b : CanGive v found f) → (a.extent ≡ b.extent) × (a.runs ≡ b.runs)
give-same v found f a b =
    let part : a.part ≡ b.part = some_same (sym a.at ∙ b.at) in
    let content : Clusters a.extent (Some a.runs) ≡ Clusters b.extent (Some b.runs) =
    sym a.is ∙ ap (λ (p : Part). p.content) part ∙ b.is in
    let extent : a.extent ≡ b.extent = cc in
    let runs : a.runs ≡ b.runs = cc in
    (extent, runs)

-- A STREAM IN CLUSTERS that was found can give them back.
module _ (v : VolumeView) (found : Writable) (name : List ℕ) (can : ℕ → Bool) (is : IsFoundToEdit v found name can)
    (give : can_give v name (number_of found.held) ≡ true) (placed : has_placed_bits v ≡ true) where
  abbrev f : ℕ
  f = number_of found.held

  abbrev s : IsStream v found.held.parts name found.stream
  s = is.stream.is

  abbrev table : List ℕ
  table = value_on v (case_parts v)

  h : IsHeldWith v table found.held.parts
  h = held-with v found.held is.held table refl

  abbrev there : List Part
  there = stream_parts v (read v) (named_in (read v) name f)

  -- the parts that are asked of are those of the stream
  pub there-are : there ≡ parts_at v f DATA s.part.name
  there-are = parts-are v found.held is.held name found.stream s ∙ ap (parts_named v f) (ap (λ (stream : Stream). stream.name) s.is)
      ∙ named-same v f s.part.name is.held.readable h.is_file is.there is.tellable

  first : first_part (parts_at v f DATA s.part.name) ≡ Some s.part
  first = ap first_part (sym (found-parts v table name found.held.parts found.stream h s))
      ∙ found-first v table name found.held.parts found.stream h s

  -- .. one part
  lies : (in_extent (first_part there) && ((length there == 1) && has_no_list v f)) ≡ true
  lies = (and_parts (not (cannot_edit (is_whole_table v) (read v) f)) _ give).1

  single : ((length there == 1) && has_no_list v f) ≡ true
  single = (and_parts (in_extent (first_part there)) _ lies).1

  pub alone : parts_at v f DATA s.part.name ≡ s.part ∷ []
  alone = one-list (parts_at v f DATA s.part.name) s.part
      (ap length (sym there-are) ∙ eqb-true (length there) 1 (and_parts (length there == 1) (has_no_list v f) single).0)
      (find-found is_first (parts_at v f DATA s.part.name) s.part first).0

  pub no-list : has_no_list v f ≡ true
  no-list = (and_parts (length there == 1) (has_no_list v f) single).1

  -- .. an extent
  in-clusters : is_some (content_extent s.part.content) ≡ true
  in-clusters = sym (ap in_extent (ap first_part there-are ∙ first)) ∙ (and_parts (in_extent (first_part there)) _ lies).0

  attribute : AreAttribute (cluster_bytes v.layout) f (s.part ∷ [])
  attribute = subst (AreAttribute (cluster_bytes v.layout) f) alone
      (below.attribute v f s.part.name (readable-sound v is.settable.can.can.sound)
      (file v f is.settable.can.node is.settable.can.can.there) is.there)

  ordered : attribute.ordered ≡ s.part ∷ []
  ordered = ordered-one (cluster_bytes v.layout) f s.part attribute

  pub its : (extent : ExtentHeader) × (runs : List Run) × (s.part.content ≡ Clusters extent (Some runs))
  its = extent-of s.part.content in-clusters (whole-runs s.part (subst AreWhole ordered attribute.whole) in-clusters)

  pub from-start : its.0.sizes.first ≡ 0
  from-start = sym (ap first_vcn_of its.2)
      ∙ eqb-true (first_vcn_of s.part.content) 0 (find-found is_first (parts_at v f DATA s.part.name) s.part first).1

  unfoldable pub extent-can : CanGive v found.stream f
  extent-can = record {
    named = record {
      can = is.settable.can;
      asked = name;
      name = s.part.name;
      held = is.stream.bytes;
      finds = record {
        stream = s.stream;
        sought = ap (λ ss. sought_stream (volume_fold v) ss name)
            (node-streams v f is.settable.can.node is.settable.can.can.there ∙ ap (streams_of v) (sym is.held.parts.parts)) ∙ s.sought;
        spelt = ap (λ (stream : Stream). stream.name) s.is;
        content = is.stream.holds;
        there = is.there;
        tellable = is.tellable;
      };
    };
    one = record {
      base = subst (λ (r : Record). IsTrue (is_base r)) (sym (record_at-block v f is.held.base is.held.on)) is.held.is_base;
      may = may-edit v f is.settable.can.node is.settable.can.can.there;
      no_list = none-counted is_list (parts (records_of v) f) (not-true (list_any is_list (parts (records_of v) f)) no-list);
    };
    part = s.part;
    at = ap (λ (ps : List Part). slice_get ps found.stream.part) (sym is.held.parts.parts) ∙ s.at;
    alone = alone;
    extent = its.0;
    runs = its.1;
    is = its.2;
    first = from-start;
    placed = placed;
  }

  -- its size is that which was found
  pub found-size : found.stream.size ≡ its.0.sizes.real
  found-size =
      let stored = found-stored v table name found.held.parts found.stream h s in
      let begun : stored.first ≡ s.part = let a = stored.at in let b = s.at in cc in
      stored.len ∙ ap (λ (part : Part). real_size part.content) begun ∙ ap real_size its.2

  -- its clusters are those of its runs
  pub covered : all_covered there ≡ total_clusters its.1
  unfolding extent-can
  covered = ap all_covered (there-are ∙ alone) ∙ covers-one v found.stream f extent-can
