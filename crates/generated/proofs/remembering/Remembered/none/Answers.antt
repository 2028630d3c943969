use Rattle.std.proofs.Common.{◌≡◌, ℕ, Option, None, IfSome, sym, subst, rules}
use Rattle.std.specs.HashMap.{get_by_text}
use Rattle.generated.specs.Remembering.{IsPlaceOf}
use Rattle.generated.proofs.remembering.Remembered.none.Goals as goal

pub returns : goal.returns
returns c = λ asked. record {
  each = λ account.
      let none : get_by_text c.new-places.result account ≡ None = search rules in
      subst (λ (o : Option ℕ). IfSome o (IsPlaceOf asked c.new-verdicts.result.items account)) (sym none) tt;
}
