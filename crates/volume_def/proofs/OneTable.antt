-- A volume has one table.
use Rattle.std.proofs.Common.{◌≡◌, ◌/◌, ℕ, List, sym, ap, subst, ◌∙◌}
use Rattle.ntfs_def.specs.declared.run_text.Run.{Run}
use Rattle.ntfs_def.specs.Attribute.{Attribute, ExtentHeader, NonResident}
use Rattle.ntfs_def.specs.Runs.{MeansRuns}
use Rattle.ntfs_def.proofs.RunLaws.{MeansFrom-exact}
use Rattle.volume_def.specs.Table.{TableLayout, MeetsTable}

layouts_same : (one other : TableLayout) → one.cluster_sectors ≡ other.cluster_sectors → one.clusters ≡ other.clusters
    → one.mirror ≡ other.mirror → one.runs ≡ other.runs → one.initialized ≡ other.initialized → one.count ≡ other.count → one ≡ other
layouts_same one other sectors clusters mirror runs initialized count =
    let made : ℕ → ℕ → ℕ → List Run → ℕ → ℕ → TableLayout =
    λ s c m r i n. record { cluster_sectors = s; clusters = c; mirror = m; runs = r; initialized = i; count = n } in
    ap (λ s. made s one.clusters one.mirror one.runs one.initialized one.count) sectors
    ∙ ap (λ c. made other.cluster_sectors c one.mirror one.runs one.initialized one.count) clusters
    ∙ ap (λ m. made other.cluster_sectors other.clusters m one.runs one.initialized one.count) mirror
    ∙ ap (λ r. made other.cluster_sectors other.clusters other.mirror r one.initialized one.count) runs
    ∙ ap (λ i. made other.cluster_sectors other.clusters other.mirror other.runs i one.count) initialized
    ∙ ap (λ n. made other.cluster_sectors other.clusters other.mirror other.runs other.initialized n) count

pub layout-exact : (disk : ℕ → List ℕ) (boot : List ℕ) (one other : TableLayout)
    → MeetsTable disk boot one → MeetsTable disk boot other → one ≡ other
layout-exact disk boot one other x y =
    let a = x.table in
    let b = y.table in
    let streams : a.stream ≡ b.stream = let mine = a.holds.only in let yours = b.holds.only in cc in
    let bodies : NonResident a.extent a.text ≡ NonResident b.extent b.text =
    sym a.body ∙ ap (λ (s : Attribute). s.body) streams ∙ b.body in
    let extents : a.extent ≡ b.extent = cc in
    let texts : a.text ≡ b.text = cc in
    let means : MeansRuns b.text one.runs = subst (λ (t : List ℕ). MeansRuns t one.runs) texts a.means in
    layouts_same one other
    (x.volume.cluster_sectors ∙ sym y.volume.cluster_sectors)
    (x.volume.clusters ∙ sym y.volume.clusters)
    (x.volume.mirror ∙ sym y.volume.mirror)
    (MeansFrom-exact b.text 0 0 one.runs other.runs means b.means)
    (a.initialized ∙ ap (λ (e : ExtentHeader). e.sizes.initialized) extents ∙ sym b.initialized)
    (a.count ∙ ap (λ (e : ExtentHeader). e.sizes.real / 1024) extents ∙ sym b.count)
