-- THE STORED BITS ARE RIGHT where one stream was edited: the flags of its clusters that it has no more are clear, those of the ones that it
-- got are set, and of no other did the owner change.
use Rattle.std.proofs.Common.{◌≡◌, ◌<◌, ◌≤◌, ◌+◌, ◌↔◌, ℕ, List, inl, inr, sym, ap, subst, ◌∙◌, arith}
use Rattle.std.specs.Prelude.{is_some}
use Rattle.std.proofs.lemmas.Bool.{cases_eq}
use Rattle.list_laws.specs.Bits.{bit_in}
use Rattle.volume_def.specs.BitmapClauses.{cluster_bits, record_bits}
use Rattle.volume_def.specs.Coverage.{times_covered}
use Rattle.volume_def.specs.Files.{record_on, records_of}
use Rattle.volume_def.specs.OwnersClause.{times_owned}
use Rattle.volume_def.specs.Sound.{IsSound}
use Rattle.volume_def.specs.Sound as clauses
use Rattle.volume_def.specs.Table.{TableLayout}
use Rattle.volume_def.specs.Values.{value_on}
use Rattle.volume_def.specs.View.{VolumeView}
use Rattle.edit_def.specs.Edited.{StoresBits}
use Rattle.edit_def.specs.Marks.{IsEditable, Marks}
use Rattle.record_edits.specs.Given.{GivesBack, TakesRuns}
use Rattle.ntfs_def.specs.declared.run_text.Run.{Run}

module _ (old freed flagged new : VolumeView) (marks : Marks) (now : IsEditable new marks) (layout : new.layout ≡ old.layout)
    (given taken : List Run) (gives : GivesBack old freed given) (takes : TakesRuns freed flagged taken)
    (differ : (c : ℕ) → 1 ≤ times_covered taken c → times_covered given c ≡ 0)
    (times : (c : ℕ) → times_owned (records_of new) c + times_covered given c ≡ times_owned (records_of old) c + times_covered taken c)
    (used : (n : ℕ) → is_some (record_on new n) ≡ is_some (record_on old n))
    (flags : value_on new (cluster_bits new) ≡ value_on flagged (cluster_bits flagged))
    (rows : value_on new (record_bits new) ≡ value_on old (record_bits old)) (sound : IsSound old) where
  clusters : new.layout.clusters ≡ old.layout.clusters
  clusters = ap (λ (l : TableLayout). l.clusters) layout

  flag-now : (c : ℕ) → bit_in (value_on new (cluster_bits new)) c ≡ bit_in (value_on flagged (cluster_bits flagged)) c
  flag-now c = ap (λ (value : List ℕ). bit_in value c) flags

  -- the flag of a cluster that was taken, of one that was given back, and of another
  taken-right : (c : ℕ) → 1 ≤ times_covered taken c
      → (bit_in (value_on new (cluster_bits new)) c ≡ 1) ↔ (1 ≤ times_owned (records_of new) c)
  taken-right c got =
      let set = flag-now c ∙ takes.taken c got in
      let none = differ c got in
      (λ is. omega (arith, times c, none, got), λ owned. set)

  given-right : (c : ℕ) → times_covered taken c ≡ 0 → 1 ≤ times_covered given c
      → (bit_in (value_on new (cluster_bits new)) c ≡ 1) ↔ (1 ≤ times_owned (records_of new) c)
  given-right c other gone =
      let clear = flag-now c ∙ takes.others c other ∙ gives.given c gone in
      let once = (sound clauses.Owners c).once in
      (λ set. absurd (omega (arith, clear, set)), λ owned. absurd (omega (arith, owned, times c, other, once, gone)))

  kept-right : (c : ℕ) → c < old.layout.clusters → times_covered taken c ≡ 0 → times_covered given c ≡ 0
      → (bit_in (value_on new (cluster_bits new)) c ≡ 1) ↔ (1 ≤ times_owned (records_of new) c)
  kept-right c inside other none =
      let same = flag-now c ∙ takes.others c other ∙ gives.others c none in
      let bit = (sound clauses.ClusterBits c).bit inside in (
        λ set. let owned = bit.0 (sym same ∙ set) in omega (arith, owned, times c, other, none),
        λ owned. same ∙ bit.1 (omega (arith, owned, times c, other, none)),
      )

  flag-right : (c : ℕ) → c < old.layout.clusters
      → (bit_in (value_on new (cluster_bits new)) c ≡ 1) ↔ (1 ≤ times_owned (records_of new) c)
  flag-right c inside = elim (cases_eq (times_covered taken c) 0) [
    | inr some ↦ taken-right c (omega (arith, some))
    | inl other ↦ elim (cases_eq (times_covered given c) 0) [
      | inl none ↦ kept-right c inside other none
      | inr some ↦ given-right c other (omega (arith, some))
    ]
  ]

  row-now : (n : ℕ) → bit_in (value_on new (record_bits new)) n ≡ bit_in (value_on old (record_bits old)) n
  row-now n = ap (λ (value : List ℕ). bit_in value n) rows

  pub bits-still : StoresBits new
  bits-still = record {
    clusters = λ n. record {
      plain = now.bitmaps.plain;
      placed = now.bitmaps.placed;
      long = λ h. omega (arith, now.bitmaps.long);
      written = λ h. omega (arith, now.bitmaps.written);
      bit = λ h. flag-right n (omega (arith, h, clusters));
    };
    records = λ n. record {
      bits = λ is. now.bitmaps.records;
      bit = λ low h.
          let b = (sound clauses.RecordBits n).bit low (subst (λ (l : TableLayout). n < l.count) layout h) in (
            λ set. used n ∙ b.0 (sym (row-now n) ∙ set),
            λ is. row-now n ∙ b.1 (sym (used n) ∙ is),
          );
    };
  }
