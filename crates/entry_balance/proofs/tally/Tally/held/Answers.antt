use Rattle.std.proofs.Common.{◌≡◌, [], List, length, sym, ap, ◌∙◌}
use Rattle.std.proofs.lemmas.Bool.{false≢true}
use Rattle.book.specs.Entries.{held}
use Rattle.entry_balance.specs.Values.{Value}
use Rattle.entry_balance.proofs.Named.{held-named}
use Rattle.entry_balance.proofs.Only.{all-named}
use Rattle.entry_balance.proofs.tally.Tally.held.Goals as goal

pub returns-else-is_empty : goal.returns-else-is_empty
returns-else-is_empty c =
    let es = c.self.inside.sums.entries in
    let some : es ≡ [] → ⊥ = λ e. false≢true (sym c.if-is_empty.false ∙ c.is_empty.ensures.1 (ap length e)) in
    c.copied.ensures ∙ c.get.ensures.value ∙ held-named es c.args.symbol.now ∙ ap (λ (vs : List Value). held c.args.symbol.now vs) (sym (all-named c.self.inside.only es some) ∙ c.self.view_is)
