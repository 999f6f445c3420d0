use Rattle.std.proofs.Common.{◌^◌, ap, sym, ◌∙◌, eq-eqb}
use Rattle.std.proofs.lemmas.Bool.{eqb-true}
use Rattle.ntfs_boot.proofs.SizeLaws.{pow_two-exact, spelled_size-high}
use Rattle.ntfs_boot.proofs.spells.Goals as goal

pub returns-else-byte-lt128 : goal.returns-else-byte-lt128
returns-else-byte-lt128 c =
    let high = spelled_size-high c.args.cluster c.args.byte c.if-byte-lt128.false in
    (λ yes. high ∙ ap (λ n. 2 ^ n) (eqb-true _ _ yes), λ spelled. eq-eqb _ _ (pow_two-exact _ _ (sym high ∙ spelled)))
