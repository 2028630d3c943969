use Rattle.std.proofs.Common.{◌<◌, ◌≤◌, List, length, subst, arith, rules}
use Rattle.std.specs.List.{AllByRecursion}
use Rattle.std.proofs.lemmas.Bool.{false≢true}
use Rattle.std.proofs.lemmas.List.{take_all}
use Rattle.book.specs.declared.item.Placed.{Placed}
use Rattle.book.specs.Styles.{style_in, style_standing}
use Rattle.counted_styles.specs.Alike.{IsItemAlike}
use Rattle.counted_styles.proofs.Comparing.{all-further}
use Rattle.counted_styles.proofs.alike.are_items_alike.Goals as goal

pub loop-placed-preserved : goal.loop-placed-preserved
loop-placed-preserved c = λ standing are.
    let inside : c.loop-placed.placed-index < length c.args.items.now = search rules in
    all-further (λ (p : Placed). IsItemAlike (style_in c.args.styles.now) (style_standing standing) p.item) c.args.items.now c.loop-placed.placed-index c.placed-item.result inside c.placed-item.is
    (c.loop-placed.invariant standing are) (c.in_ok-same.ensures standing are c.if-not-same.false)

pub returns-then-not-same : goal.returns-then-not-same
returns-then-not-same c = λ standing are e. absurd (false≢true e)

pub returns : goal.returns
returns c = λ standing are e.
    let past : length c.args.items.now ≤ c.loop-placed.placed-index = omega arith in
    subst (λ (l : List Placed). AllByRecursion (λ p. IsItemAlike (style_in c.args.styles.now) (style_standing standing) p.item) l) (take_all c.loop-placed.placed-index c.args.items.now past) (c.loop-placed.invariant standing are)
