use Rattle.std.proofs.Common.{◌≡◌, ◌≤◌, ℕ, ◌<◌, ◌-◌, length, List, get_or, ap, ◌∙◌, sym, subst, arith}
use Rattle.book.specs.declared.style.Style.{Style}
use Rattle.book.specs.Standing.{last_kept, styles_only}
use Rattle.book.specs.Style.{most_places}
use Rattle.book.proofs.Standing.{last-at, within-most}
use Rattle.book.proofs.marks.Marks.last.Goals as goal

pub returns-clause-value : goal.returns-clause-value
returns-clause-value c =
    last-at c.deref.result.now c.in_ok-last.last.now c.in_ok-last.ensures.item.3.0 c.in_ok-last.ensures.item.3.1
    ∙ ap last_kept (c.deref.ensures.value ∙ c.self.view_is)

pub returns-clause-places : goal.returns-clause-places
returns-clause-places c =
    let ms = c.deref.result.now in
    let d = c.in_ok-last.last.now in
    let lt : length ms - 1 < length ms = omega (arith, c.in_ok-last.ensures.item.3.0) in
    let bound : (get_or ms (length ms - 1) d).1.places ≤ most_places (styles_only ms) = within-most ms (length ms - 1) d lt in
    let same : d ≡ get_or ms (length ms - 1) d = c.in_ok-last.ensures.item.3.1 d in
    let most : c.self.inside.most ≡ most_places (styles_only ms) = c.self.invariant.0 ∙ ap (λ (xs : List (ℕ × Style)). most_places (styles_only xs)) (sym c.deref.ensures.value) in
    let there : d.1.places ≤ most_places (styles_only ms) = subst (λ (m : ℕ × Style). m.1.places ≤ most_places (styles_only ms)) (sym same) bound in
    omega (arith, there, most, c.self.invariant.1)
