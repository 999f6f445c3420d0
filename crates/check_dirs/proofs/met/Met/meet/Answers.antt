use Rattle.std.proofs.Common.{◌≡◌, ℕ, ◌+◌, ◌∙◌, Bool, true, false, cond, length, not, refl, ap, subst}
use Rattle.check_dirs.specs.Gathered.{Meets, met_times}
use Rattle.check_dirs.proofs.MetLaws.{meets_new, met_again}
use Rattle.check_dirs.proofs.met.Met.meet.Goals as goal

not_false : (b c : Bool) → b ≡ not c → b ≡ true → c ≡ false
not_false b true e t = cc
not_false b false e t = refl

not_true : (b c : Bool) → b ≡ not c → b ≡ false → c ≡ true
not_true b true e f = refl
not_true b false e f = cc

abbrev one_where : Bool → ℕ
one_where b = cond b 1 0

pub returns-clause-first : goal.returns-clause-first
returns-clause-first c first =
    let added = c.in_ok-first.ensures in
    let old = c.self.inside.numbers.keys in
    let same : old ≡ c.args.self.now = (let v = c.self.view_is in cc) in
    subst (λ met. Meets met c.insert.new.self.keys c.args.vcn) same
    (meets_new old c.insert.new.self.keys c.args.vcn (not_false _ _ added.added first) added.keys
    (added.len ∙ ap (λ b. length old + one_where b) first) added.ordered)

pub returns-clause-again : goal.returns-clause-again
returns-clause-again c again =
    let old = c.self.inside.numbers.keys in
    let same : old ≡ c.args.self.now = (let v = c.self.view_is in cc) in
    subst (λ met. met_times met c.args.vcn ≡ 1) same (met_again old c.args.vcn (not_true _ _ c.in_ok-first.ensures.added again))
