-- A SECURITY ID CAN BE SET: its bytes can be put into the place that $STANDARD_INFORMATION has for it.
use Rattle.std.proofs.Common.{◌+◌, ◌≤◌, ◌<◌, ◌^◌, ℕ, List, [], length, Option, refl, sym, subst, arith}
use Rattle.std.specs.Prelude.{IsSomeAnd}
use Rattle.byteorder.specs.Endian.{little_bytes}
use Rattle.ntfs_def.specs.declared.kinds.TheConstants.{STANDARD_INFORMATION}
use Rattle.volume_def.specs.Files.{parts, records_of}
use Rattle.volume_def.specs.View.{VolumeView}
use Rattle.edit_def.specs.Kept.{key_of, same_key}
use Rattle.file_record.specs.Written.{HoldsBytes, WritesBytes}
use Rattle.dir_index.proofs.StandardLaws.{at-among}
use Rattle.attribute_edits.specs.Attributes.{SecuresStandard, SetsSecurity}
use Rattle.attribute_edits.proofs.SecuredVolume.{secured}
use Rattle.tree_edit.specs.Securable.{CanSecure}
use Rattle.file_changes.specs.Values.{CanPut, LeavesFile, PutsBytes}

module _ (v : VolumeView) (f i id : ℕ) (small : id < 2 ^ 32) (p : CanSecure v f i) where
  abbrev bytes : List ℕ
  bytes = little_bytes 4 id

  id-held : HoldsBytes 0x34 (length bytes) p.part
  id-held = subst (λ (o : Option (List ℕ)). IsSomeAnd o (λ value. 0x34 + length bytes ≤ length value)) (sym p.value_is)
      (let l = p.long in omega (arith, l))

  secures : (new : VolumeView) → WritesBytes v new p.part 0x34 bytes → SecuresStandard v new f id
  secures new w = record {
    part = p.part;
    among = at-among (parts (records_of v) f) i p.part p.at;
    standard = p.standard;
    place = subst (λ (o : Option (List ℕ)). IsSomeAnd o (λ value. 72 ≤ length value)) (sym p.value_is) p.long;
    writes = w;
  }

  leaves : (new : VolumeView) → WritesBytes v new p.part 0x34 bytes → LeavesFile v new f
  leaves new w =
      let done = secured v new f id p.can.node small p.can.can (secures new w) in
      record {
        changed = same_key (key_of f STANDARD_INFORMATION []);
        rewrites = done.rewrites;
        bits = refl;
        records = refl;
        case = refl;
        names = λ name. refl;
        node = record p.can.node { security = id };
        can = done.can;
      }

  pub secure-put : CanPut v f i 0x34 bytes
  secure-put = record { can = p.can; part = p.part; there = p.at; holds = id-held; leaves = leaves }

  -- what was put is the id
  pub secured-by : (new : VolumeView) (times : List ℕ) (flags : ℕ)
      → ((c : CanPut v f i 0x34 bytes) → PutsBytes v new f c.part 0x34 bytes times flags) → SetsSecurity v new f id times flags
  unfolding secure-put
  secured-by new times flags put =
      let did = put secure-put in
      record { mid = did.mid; secures = secures did.mid did.writes; sets = did.sets }
