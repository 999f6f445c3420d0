-- A step has one reply, want of memory aside; and an image has one reading.
use Rattle.std.proofs.Common.{◌≡◌, ◌⊎◌, ℕ, List, sym, ap, inl, inr, ◌∙◌, Some}
use Rattle.vol_disk.specs.Contents.{sector_in}
use Rattle.ntfs_def.specs.Boot.{boot_sector}
use Rattle.volume_def.specs.Sound.{told_view}
use Rattle.volume_def.specs.View.{VolumeView}
use Rattle.volume_def.proofs.OneTable.{layout-exact}
use Rattle.tree_model.specs.Facts.{IsVolumeOf, ReadsAs}
use Rattle.tree_model.specs.Reading.{read}
use Rattle.tree_model.specs.Refusals.{Facts}
use Rattle.tree_model.specs.Step.{Step, due, reply_of}
use Rattle.tree_model.specs.Subjects.{Machine}
use Rattle.tree_model.specs.Tree.{Tree}
use Rattle.tree_model.specs.declared.command.Command.{Command}
use Rattle.tree_model.specs.declared.reply.No.TheVariants as no
use Rattle.tree_model.specs.declared.reply.Reply.{Reply}
use Rattle.tree_model.specs.declared.reply.Reply.TheVariants as reply

-- an image is one volume
pub one_volume : (image : List ℕ) (one other : VolumeView) → IsVolumeOf image one → IsVolumeOf image other → one ≡ other
one_volume image one other x y =
    x.is
    ∙ ap (told_view (sector_in (Some image)))
    (layout-exact (sector_in (Some image)) (boot_sector image) x.layout y.layout x.has.table_clause y.has.table_clause)
    ∙ sym y.is

pub one_reading : (image : List ℕ) (one other : Tree) → ReadsAs image one → ReadsAs image other → one ≡ other
one_reading image one other x y = x.reading ∙ ap read (one_volume image x.view y.view x.volume y.volume) ∙ sym y.reading

-- a step's reply is the one that is due, unless want of memory stands in its place
pub one_reply : (facts : Facts) (m : Machine) (session : ℕ) (command : Command) (given other : Reply) (next last : Machine)
    → Step facts m session command given next → Step facts m session command other last
    → (given ≡ reply.No no.Memory) ⊎ (other ≡ reply.No no.Memory) ⊎ (given ≡ other)
one_reply facts m session command given other next last x y = both x.replied y.replied
  where
    Replied : Reply → Type 0
    Replied r = (r ≡ reply_of (due facts m session command)) ⊎ (r ≡ reply.No no.Memory)

    both : Replied given → Replied other → (given ≡ reply.No no.Memory) ⊎ (other ≡ reply.No no.Memory) ⊎ (given ≡ other)
    both (inr a) b = inl a
    both (inl a) (inr b) = inr (inl b)
    both (inl a) (inl b) = inr (inr (a ∙ sym b))
