-- A STREAM THAT IS A VALUE CAN BE PUNCHED: zeros are bytes that can be put over those of the value, and what is found for it is such a
-- value.
use Rattle.std.proofs.Common.{◌≡◌, ◌+◌, ◌-◌, ◌≤◌, ℕ, true, not, List, length, min, Option, Some}
use Rattle.std.proofs.Common.{refl, sym, ap, subst, ◌∙◌, arith}
use Rattle.std.proofs.lemmas.Bool.{and_parts}
use Rattle.std.proofs.lemmas.List.{length-replicate}
use Rattle.std.specs.Prelude.{IsSomeAnd, filter, is_some, option_and_then, replicate, slice_get}
use Rattle.list_laws.proofs.FindLaws.{find-found}
use Rattle.list_laws.proofs.MemberLaws.{Contains-from_filter}
use Rattle.list_laws.proofs.OptionLaws.{some-is}
use Rattle.ntfs_def.specs.declared.kinds.TheConstants.{DATA}
use Rattle.ntfs_def.specs.declared.records.TheConstants.{CLUSTER_BITMAP, UPCASE}
use Rattle.volume_def.specs.CaseClause.{case_parts, volume_fold}
use Rattle.volume_def.specs.Files.{Content, Clusters, Part, Value, content_value, is_of, parts, records_of}
use Rattle.volume_def.specs.StreamSize.{real_size}
use Rattle.volume_def.specs.Values.{is_first, value_on}
use Rattle.volume_def.specs.View.{VolumeView}
use Rattle.tree_model.specs.Reading.{streams_of}
use Rattle.tree_model.specs.Facts.{is_whole_table}
use Rattle.tree_model.specs.Reading.{read}
use Rattle.tree_model.specs.Staging.{cannot_edit}
use Rattle.tree_model.specs.StreamRoom.{parts_named, stream_value}
use Rattle.tree_model.specs.Tree.{sought_stream}
use Rattle.tree_model.specs.declared.tree.Stream.{Stream}
use Rattle.edit_def.specs.Kept.{key_of, same_key}
use Rattle.file_record.specs.Written.{HoldsBytes, WritesBytes}
use Rattle.sparse_io.specs.declared.find.FoundStream.{FoundStream}
use Rattle.sparse_io.proofs.OverwriteLaws.{found-first, found-parts, found-stored}
use Rattle.dir_index.proofs.StandardLaws.{at-among}
use Rattle.file_room.specs.Nodes.{number_of, parts_in}
use Rattle.file_room.proofs.NodeLaws.{held-with}
use Rattle.stream_overwrites.specs.Overwritten.{GoesOverValue, PunchesValue, node_over, zeros_in}
use Rattle.stream_overwrites.proofs.StreamParts.{named-same}
use Rattle.stream_overwrites.proofs.OverReading.{value-overwritten}
use Rattle.stream_overwrites.proofs.ShownFile.{node-streams, not-bitmap, not-case}
use Rattle.tree_edit.specs.Punchable.{CanPunch, IsPunchable}
use Rattle.file_changes.specs.Values.{CanPut, LeavesFile, PutsBytes}
use Rattle.tree_edit.specs.declared.writable.Writable.{Writable}
use Rattle.tree_edit.proofs.EditableLaws.{parts-are}
use Rattle.file_changes.proofs.StoredLaws.{other-file}

module _ (v : VolumeView) (found : FoundStream) (f from len : ℕ) (p : CanPunch v found f) where
  abbrev at : ℕ
  at = min from (length p.value)

  abbrev zeros : List ℕ
  zeros = zeros_in from len p.value

  zeros-held : HoldsBytes at (length zeros) p.part
  zeros-held = subst (λ (o : Option (List ℕ)). IsSomeAnd o (λ value. at + length zeros ≤ length value)) (sym p.value_is)
      (let l = length-replicate {A = ℕ} (min (from + len) (length p.value) - min from (length p.value)) 0 in omega (arith, l))

  over : (new : VolumeView) → WritesBytes v new p.part at zeros → GoesOverValue v new f p.name at zeros
  over new w = record {
    part = p.part;
    among = at-among (parts (records_of v) f) found.part p.part p.at;
    stream = p.stream;
    holds = zeros-held;
    writes = w;
  }

  leaves : (new : VolumeView) → WritesBytes v new p.part at zeros → LeavesFile v new f
  leaves new w =
      let done = value-overwritten v new f p.can.node p.asked p.name at zeros p.held p.can.can p.finds (over new w) in
      record {
        changed = same_key (key_of f DATA p.name);
        rewrites = done.rewrites;
        bits = other-file f p.name CLUSTER_BITMAP (not-bitmap v f p.can.node p.can.can.there);
        records = refl;
        case = other-file f p.name UPCASE (not-case v f p.can.node p.can.can.there);
        names = λ name. refl;
        node = node_over v p.asked at zeros p.held p.can.node;
        can = done.can;
      }

  pub punch-put : CanPut v f found.part at zeros
  punch-put = record { can = p.can; part = p.part; there = p.at; holds = zeros-held; leaves = leaves }

  -- what was put is what a punch leaves
  pub punched-by : (new : VolumeView) (times : List ℕ) (flags : ℕ)
      → ((c : CanPut v f found.part at zeros) → PutsBytes v new f c.part at zeros times flags)
      → PunchesValue v new f p.name from len times flags
  unfolding punch-put over
  punched-by new times flags put =
      let did = put punch-put in
      record { mid = did.mid; value = p.value; over = over did.mid did.writes; value_is = p.value_is; sets = did.sets }

  -- .. by the numbers that are reckoned with
  module _ (low high : ℕ) (bytes : List ℕ) (low_is : low ≡ min from found.size) (high_is : high ≡ min (from + len) found.size)
      (are : bytes ≡ replicate (high - low) 0) where
    same-at : low ≡ at
    same-at = low_is ∙ ap (min from) p.size

    same-zeros : bytes ≡ zeros
    same-zeros =
        are ∙ ap (λ n. replicate (high - n) 0) same-at
        ∙ ap (λ n. replicate (n - at) 0) (high_is ∙ ap (min (from + len)) p.size)

    pub put-of : CanPut v f found.part low bytes
    put-of = subst (λ k. CanPut v f found.part k bytes) (sym same-at) (subst (λ bs. CanPut v f found.part at bs) (sym same-zeros) punch-put)

    pub punched-of : (new : VolumeView) (times : List ℕ) (flags : ℕ)
        → ((c : CanPut v f found.part low bytes) → PutsBytes v new f c.part low bytes times flags)
        → PunchesValue v new f p.name from len times flags
    punched-of new times flags put =
        punched-by new times flags
        (subst (λ bs. (c : CanPut v f found.part at bs) → PutsBytes v new f c.part at bs times flags) same-zeros
        (subst (λ k. (c : CanPut v f found.part k bytes) → PutsBytes v new f c.part k bytes times flags) same-at put))

-- of a value its size is that of its bytes
pub size-value : (content : Content) (value : List ℕ) → content_value content ≡ Some value → real_size content ≡ length value
size-value (Value other) value e = let same : other ≡ value = cc in ap length same
size-value (Clusters extent runs) value e = cc

-- WHAT IS FOUND for a punch can be punched.
unfoldable pub punchable-can : (v : VolumeView) (found : Writable) (name : List ℕ) → IsPunchable v found name
    → CanPunch v found.stream (number_of found.held)
punchable-can v found name is =
    let f = number_of found.held in
    let table = value_on v (case_parts v) in
    let h = held-with v found.held is.held table refl in
    let s = is.stream.is in
    let node = is.settable.can.node in
    let same : parts_in found.held ≡ parts (records_of v) f = is.held.parts.parts in
    let first = found-first v table name found.held.parts found.stream h s in
    let passes = find-found is_first (filter (is_of DATA s.part.name) (parts_in found.held)) s.part first in
    let stored = found-stored v table name found.held.parts found.stream h s in
    let begun : stored.first ≡ s.part = let a = stored.at in let b = s.at in cc in
    let named = ap (λ (stream : Stream). stream.name) s.is in
    let extents = ap (parts_named v f) named ∙ named-same v f s.part.name is.held.readable h.is_file is.there is.tellable
    ∙ sym (found-parts v table name found.held.parts found.stream h s) in
    let cannot = cannot_edit (is_whole_table v) (read v) f in
    let value : is_some (content_value s.part.content) ≡ true =
    sym (ap (λ (ps : List Part). is_some (stream_value ps)) (parts-are v found.held is.held name found.stream s ∙ extents)
    ∙ ap (λ o. is_some (option_and_then (λ (part : Part). content_value part.content) o)) first) ∙ (and_parts (not cannot) _ is.over).1 in
    let its = some-is (content_value s.part.content) value in
    record {
      can = is.settable.can;
      asked = name;
      name = s.part.name;
      held = is.stream.bytes;
      finds = record {
        stream = s.stream;
        sought = ap (λ ss. sought_stream (volume_fold v) ss name) (node-streams v f node is.settable.can.can.there ∙ ap (streams_of v)
            (sym same))
            ∙ s.sought;
        spelt = ap (λ (stream : Stream). stream.name) s.is;
        content = is.stream.holds;
        there = is.there;
        tellable = is.tellable;
      };
      part = s.part;
      at = ap (λ (ps : List Part). slice_get ps found.stream.part) (sym same) ∙ s.at;
      stream = (Contains-from_filter (is_of DATA s.part.name) (parts_in found.held) s.part passes.0).1;
      value = its.0;
      value_is = its.1;
      size = stored.len ∙ ap (λ (part : Part). real_size part.content) begun ∙ size-value s.part.content its.0 its.1;
    }
