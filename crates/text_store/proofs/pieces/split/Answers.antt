use Rattle.std.proofs.Common.{◌∙◌, List, Vec, length, sym, ap, subst, arith}
use Rattle.text_store.specs.Joined.{joined}
use Rattle.text_store.specs.Pieces.{IsInside}
use Rattle.text_store.proofs.Places.{Part, found_first, found_none, split_border, split_inside}
use Rattle.text_store.proofs.pieces.split.Goals as goal
use Rattle.text_store.proofs.pieces.split.Goals.{then-place-gt0+in_ok-front+in_ok-push, else-place-gt0}
use Rattle.std.specs.Global.{Global}

pub returns-in_default : goal.returns-in_default
returns-in_default c = found_none c.args.parts.now.items c.deref.result.now c.deref.ensures.value c.args.at c.in_default.ensures

pub split_off-requires : goal.split_off-requires
split_off-requires c =
    let is = found_first c.args.parts.now.items c.deref.result.now c.deref.ensures.value c.args.at c.in-Some.place c.in-Some.ensures in
    omega (arith, is.within, c.deref.ensures.len, ap (λ (l : List Part). length l) c.deref.ensures.value)

pub cut_first-requires : goal.cut_first-requires
cut_first-requires c =
    let is = found_first c.args.parts.now.items c.deref.result.now c.deref.ensures.value c.args.at c.in-Some.place c.in-Some.ensures in
    (omega (arith, c.if-place-gt0.true), subst (λ (l : List Part). IsInside c.in-Some.place.inside l) (sym c.in_ok-behind.ensures.tail) is.is_inside)

pub returns : goal.returns
returns c =
    let parts = c.args.parts.now.items in
    let place = c.in-Some.place in
    let is = found_first parts c.deref.result.now c.deref.ensures.value c.args.at place c.in-Some.ensures in
    let kept = c.split_off.new.self.items in
    let taken = c.in_ok-behind.behind.items in
    elim c.if-place-gt0.branch [
      | then-place-gt0+in_ok-front+in_ok-push w ↦
          let got = split_inside parts c.args.at place.part place.inside is kept taken c.in_ok-behind.ensures.items c.in_ok-behind.ensures.tail
          w.in_ok-front.front w.push.new.self.items w.cut_first.new.parts.items w.in_ok-front.ensures.front w.in_ok-push.ensures.items w.in_ok-front.ensures.behind in
          (got.0, ap (λ (v : Vec Part Global). joined v.items) w.parts-is ∙ got.1, ap (λ (v : Vec Part Global). joined v.items) w.behind-is ∙ got.2)
      | else-place-gt0 w ↦
          let got = split_border parts c.args.at place.part place.inside is kept taken c.in_ok-behind.ensures.items c.in_ok-behind.ensures.tail (omega (arith, w.if-place-gt0.false)) in
          (got.0, ap (λ (v : Vec Part Global). joined v.items) w.parts-is ∙ got.1, ap (λ (v : Vec Part Global). joined v.items) w.behind-is ∙ got.2)
    ]
