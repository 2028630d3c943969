use Rattle.query.specs.Asking.{holds}
use Rattle.query_terms.specs.Finders.{known_in}
use Rattle.query.specs.OwnLetters.{own_in}
use Rattle.query.proofs.Walks.{second_fails, third_fails, others_last}
use Rattle.query.proofs.matching.matches.Goals as goal

pub returns-then-not-one_holds-2-clause-found : goal.returns-then-not-one_holds-2-clause-found
returns-then-not-one_holds-2-clause-found c =
    second_fails (λ k. holds k (own_in c.args.types.now) c.args.asked) (known_in c.args.finder.now) (known_in c.one_holds.new.finder) (known_in c.one_holds.new.finder) (known_in c.one_holds.new.finder) c.args.terms.now c.one_holds.result c.one_holds-2.result c.one_holds.ensures.same c.one_holds.ensures.found c.if-not-one_holds.false c.one_holds-2.ensures.found c.if-not-one_holds-2.true

pub returns-then-not-one_holds-3-clause-found : goal.returns-then-not-one_holds-3-clause-found
returns-then-not-one_holds-3-clause-found c =
    third_fails (λ k. holds k (own_in c.args.types.now) c.args.asked) (known_in c.args.finder.now) (known_in c.one_holds.new.finder) (known_in c.one_holds-2.new.finder) (known_in c.one_holds-2.new.finder) c.args.terms.now c.one_holds.result c.one_holds-2.result c.one_holds-3.result c.one_holds.ensures.same c.one_holds-2.ensures.same c.one_holds.ensures.found c.if-not-one_holds.false c.one_holds-2.ensures.found c.if-not-one_holds-2.false c.one_holds-3.ensures.found c.if-not-one_holds-3.true

pub returns-clause-found : goal.returns-clause-found
returns-clause-found c =
    others_last (λ k. holds k (own_in c.args.types.now) c.args.asked) (known_in c.args.finder.now) (known_in c.one_holds.new.finder) (known_in c.one_holds-2.new.finder) (known_in c.one_holds-3.new.finder) c.args.terms.now c.one_holds.result c.one_holds-2.result c.one_holds-3.result c.others_hold.result c.one_holds.ensures.same c.one_holds-2.ensures.same c.one_holds-3.ensures.same c.one_holds.ensures.found c.if-not-one_holds.false c.one_holds-2.ensures.found c.if-not-one_holds-2.false c.one_holds-3.ensures.found c.if-not-one_holds-3.false c.others_hold.ensures.found
