use Rattle.std.proofs.Common.{◌≡◌, ℕ, suc, ◌+◌, ◌<◌, ◌≤◌, length, take, get_or, List, sym, ap, ◌∙◌, subst, arith}
use Rattle.std.proofs.lemmas.List.{take_all}
use Rattle.book.specs.declared.item.Placed.{Placed}
use Rattle.book.specs.declared.style.Styles.{Styles}
use Rattle.book.specs.Standing.{places_from}
use Rattle.book.specs.Styles.{AreOf, after_item}
use Rattle.book.proofs.Kept.{AreOf-place, style_in-places}
use Rattle.book.proofs.style.Styles.of.Goals as goal

pub loop-number-preserved : goal.loop-number-preserved
loop-number-preserved c =
    let items = c.args.items.now in
    let n = c.loop-number.number in
    let placed = c.index-items-number.result in
    let inside : n < length items = omega arith in
    let more : suc n ≡ n + 1 = omega arith in
    let step = AreOf-place n items placed c.loop-number.styles inside c.loop-number.invariant in
    let noted : c.note_item.new.styles ≡ after_item n c.loop-number.styles (get_or items n placed).item =
    c.in_ok-note_item.ensures.ok ∙ ap (λ (p : Placed). after_item n c.loop-number.styles p.item) c.index-items-number.is in
    subst (λ (s : Styles). AreOf (places_from 0 (take (n + 1) items)) s) (sym noted)
    (subst (λ (k : ℕ). AreOf (places_from 0 (take k items)) (after_item n c.loop-number.styles (get_or items n placed).item)) more step)

pub returns-clause-styles : goal.returns-clause-styles
returns-clause-styles c =
    let items = c.args.items.now in
    let past : length items ≤ c.loop-number.number = omega arith in
    style_in-places items c.loop-number.styles (subst (λ (xs : List Placed). AreOf (places_from 0 xs) c.loop-number.styles) (take_all c.loop-number.number items past) c.loop-number.invariant)
