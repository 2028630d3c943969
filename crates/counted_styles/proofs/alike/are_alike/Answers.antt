use Rattle.std.proofs.Common.{◌≡◌, ◌<◌, ◌≤◌, ℕ, List, length, subst, arith, rules}
use Rattle.std.proofs.lemmas.Bool.{false≢true}
use Rattle.std.proofs.lemmas.List.{take_all}
use Rattle.book.specs.declared.style.Style.{Style}
use Rattle.book.specs.Styles.{style_in, style_standing}
use Rattle.counted_styles.specs.Alike.{AreAlike}
use Rattle.counted_styles.proofs.Comparing.{all-further}
use Rattle.counted_styles.proofs.alike.are_alike.Goals as goal

pub loop-one-preserved : goal.loop-one-preserved
loop-one-preserved c = λ standing are.
    let inside : c.loop-one.one-index < length c.args.said.now = search rules in
    all-further (λ (s : List ℕ × Style). style_in c.args.styles.now s.0 ≡ style_standing standing s.0) c.args.said.now c.loop-one.one-index c.one-item.result inside c.one-item.is
    (c.loop-one.invariant standing are) (c.is_alike-same.ensures standing are c.if-not-same.false)

pub returns-then-not-same : goal.returns-then-not-same
returns-then-not-same c = λ standing are e. absurd (false≢true e)

pub returns : goal.returns
returns c = λ standing are e.
    let past : length c.args.said.now ≤ c.loop-one.one-index = omega arith in
    subst (λ (l : List (List ℕ × Style)). AreAlike (style_in c.args.styles.now) (style_standing standing) l) (take_all c.loop-one.one-index c.args.said.now past) (c.loop-one.invariant standing are)
