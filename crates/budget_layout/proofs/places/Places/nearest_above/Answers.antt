use Rattle.std.proofs.Common.{◌≡◌, ℕ, ◌-◌, true, false, Option, None, is_some, sym, ap, ◌∙◌, arith, rules}
use Rattle.std.specs.Option.{option_or}
use Rattle.budget_layout.specs.Grouped.{fronts, last_place}
use Rattle.budget_layout.specs.Placed.{place_in}
use Rattle.budget_layout.proofs.Above.{above_step, first_some, none_from}
use Rattle.budget_layout.proofs.places.Places.nearest_above.Goals as goal

pub loop-at-preserved : goal.loop-at-preserved
loop-at-preserved c =
    let place = place_in c.args.self.now in
    let account = c.args.account.now in
    let at : ℕ = c.loop-at.at - 1 in
    let empty : is_some c.place_above-found.result ≡ false = search rules in
    let none : c.place_above-found.result ≡ None = none_from c.place_above-found.result empty in
    record {
      so_far = c.loop-at.invariant.so_far ∙ above_step place account c.loop-at.at at (omega arith)
          ∙ ap (λ (o : Option ℕ). option_or o (last_place place (fronts account at))) (sym c.place_above-found.ensures ∙ none);
      within = omega arith;
    }

pub returns-then-is_some : goal.returns-then-is_some
returns-then-is_some c =
    let place = place_in c.args.self.now in
    let account = c.args.account.now in
    let at : ℕ = c.loop-at.at - 1 in
    let rest : Option ℕ = last_place place (fronts account at) in
    let there : is_some c.place_above-found.result ≡ true = search rules in
    sym (c.loop-at.invariant.so_far ∙ above_step place account c.loop-at.at at (omega arith)
    ∙ ap (λ (o : Option ℕ). option_or o rest) (sym c.place_above-found.ensures) ∙ first_some c.place_above-found.result rest there)

pub returns : goal.returns
returns c =
    let first : c.loop-at.at ≡ 0 = omega arith in
    sym (c.loop-at.invariant.so_far ∙ ap (λ (n : ℕ). last_place (place_in c.args.self.now) (fronts c.args.account.now n)) first)
