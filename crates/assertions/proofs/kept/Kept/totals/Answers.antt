use Rattle.std.proofs.Common.{◌≡◌, ℕ, ◌<◌, List, [], length, get_or, Option, Some, None, IsSome, IfSome, IsSomeAnd, pos, sym, ap, ◌∙◌, subst}
use denote.Ref.{Bor}
use Rattle.std.proofs.lemmas.Bool.{false≢true}
use Rattle.book.specs.Entries.{held}
use Rattle.entry_balance.specs.Values.{Value}
use Rattle.entry_balance.specs.Tally.{sums_of}
use Rattle.assertions.specs.Kept.{Keeping}
use Rattle.assertions.proofs.Keeping.{place_within, sums-there}
use Rattle.assertions.proofs.kept.Kept.totals.Goals as goal

found_there : (o : Option (Bor (List Value))) (y : List Value) (xs : List (List Value)) (j : ℕ) → IsSome o → IfSome o (λ x. x.now ≡ get_or xs j x.now) → ((d : List Value) → get_or xs j d ≡ y) → IsSomeAnd o (λ x. x.now ≡ y)
found_there (Some x) y xs j some at is = at ∙ is x.now
found_there None y xs j some at is = absurd (false≢true some)

pub returns-in-Some : goal.returns-in-Some
returns-in-Some c = λ values kept keeps.
    let name = c.args.name.now in
    let j = c.in-Some.place in
    let at : held name c.args.self.now.1 ≡ Some j = ap (λ (k : Keeping). held name k.1) (sym c.self.view_is) ∙ sym c.place_of.ensures ∙ c.in-Some.is in
    let seen : c.deref.result.now ≡ c.args.self.now.2 = c.deref.ensures.value ∙ ap (λ (k : Keeping). k.2) c.self.view_is in
    let less : j < length c.deref.result.now = subst (λ (xs : List (List Value)). j < length xs) (sym seen) (place_within values c.args.self.now name [] (record { mantissa = pos 0; places = 0 }) kept j at) in
    found_there c.get.result (sums_of (values name)) c.deref.result.now j (c.get.ensures.lookup.2 less) c.get.ensures.lookup.1
    (λ d. ap (λ (xs : List (List Value)). get_or xs j d) seen ∙ sums-there values c.args.self.now name [] (record { mantissa = pos 0; places = 0 }) kept j at d)
