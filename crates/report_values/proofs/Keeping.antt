-- What is kept under a day and a symbol, and one more.
use Rattle.std.proofs.Common.{◌≡◌, ℕ, Bool, true, false, cond, List, Option, Some, None, Result, Ok, IfSome, refl, sym, ap, subst, ◌∙◌}
use Rattle.std.specs.Prelude.{is_some}
use Rattle.std.specs.declared.cmp.Ordering.{Ordering}
use Rattle.std.specs.declared.cmp.Ordering.TheVariants.{Less, Equal, Greater}
use Rattle.std.specs.Ordering.{nat_cmp, is_eq, ordering_then}
use Rattle.std.specs.Cmp.Lexicographic.{slice_cmp}
use Rattle.std.specs.FinMap.{nat_cmp-IsAntisymmetric}
use Rattle.std.proofs.lemmas.Cmp.{tied_itself}
use Rattle.book.proofs.Order.{is_equal}
use Rattle.prices.proofs.Texts.{text_ties, true≢false}
use Rattle.prices.specs.Chains.{priced_on}
use Rattle.prices.specs.Fraction.{Fraction}
use Rattle.prices.specs.Tables.{AreRates, rate_in}
use Rattle.prices.specs.declared.quote.Quote.{Quote}
use Rattle.prices.specs.declared.rate.RateRange.{RateRange}
use Rattle.prices.specs.declared.table.Table.{Table}
use Rattle.report_values.specs.DayKeys.{day_cmp, day_total}
use Rattle.report_values.specs.Known.{kept_at, AreTables, AreExchanges, rate_by}
use Rattle.report_values.specs.Rates.{rate_on}
use Rattle.report_values.specs.Worth.{Priced, target_of, places_of, exchange_at, exchange_in, exchange_on}
use Rattle.report_values.specs.declared.exchange.Exchange.{Exchange}
use Rattle.report_values.specs.declared.exchange.Exchange.TheVariants.{Stays}
use Rattle.report_values.proofs.Rates.{rate_on-is}

-- ---- keys

less_equal : Less ≡ Equal → ⊥
less_equal h = cc

greater_equal : Greater ≡ Equal → ⊥
greater_equal h = cc

then_both : (o p : Ordering) → ordering_then o p ≡ Equal → (o ≡ Equal) × (p ≡ Equal)
then_both Less p e = absurd (less_equal e)
then_both Equal p e = (refl, e)
then_both Greater p e = absurd (greater_equal e)

pub day_ties : (a b : ℕ × List ℕ) → day_cmp a b ≡ Equal → a ≡ b
day_ties a b e =
    let both = then_both (nat_cmp a.0 b.0) (slice_cmp nat_cmp a.1 b.1) e in
    let first = nat_cmp-IsAntisymmetric a.0 b.0 both.0 in
    let second = text_ties a.1 b.1 both.1 in
    λ i. (first i, second i)

-- ---- one more entry

module _ {V : Type 0} (old new : ℕ → List ℕ → Option V) (day : ℕ) (symbol : List ℕ) (v : V) (is : (d : ℕ) (s : List ℕ) → new d s ≡ cond (is_eq (day_cmp (day, symbol) (d, s))) (Some v) (old d s)) where
  -- what holds of each entry holds with one more
  pub kept_more : (P : ℕ → List ℕ → V → Type 0) → P day symbol v → ((d : ℕ) (s : List ℕ) → IfSome (old d s) (P d s)) → (d : ℕ) (s : List ℕ) → IfSome (new d s) (P d s)
  kept_more P p h d s = subst (λ (o : Option V). IfSome o (P d s)) (sym (is d s)) (by (is_eq (day_cmp (day, symbol) (d, s))) refl)
    where
      by : (b : Bool) → is_eq (day_cmp (day, symbol) (d, s)) ≡ b → IfSome (cond b (Some v) (old d s)) (P d s)
      by true e = subst (λ (k : ℕ × List ℕ). P k.0 k.1 v) (day_ties (day, symbol) (d, s) (is_equal _ e)) p
      by false e = h d s

  pub kept_new : new day symbol ≡ Some v
  kept_new = is day symbol ∙ ap (λ (o : Ordering). cond (is_eq o) (Some v) (old day symbol)) (tied_itself day_total (day, symbol))

-- ---- rates and exchanges

pub table_rate : (quotes : List Quote) (day : ℕ) (target symbol : List ℕ) (o : Option Table) → IfSome o (AreRates (priced_on quotes day) target) → is_some o ≡ true → rate_by o symbol ≡ rate_on quotes day target symbol
table_rate quotes day target symbol None h there = absurd (true≢false (sym there))
table_rate quotes day target symbol (Some table) h there = rate_on-is quotes day target symbol (rate_in table symbol) (h symbol)

pub known_is : (o : Option Exchange) (e : Exchange) → IfSome o (λ x. x ≡ e) → is_some o ≡ true → o ≡ Some e
known_is None e h there = absurd (true≢false (sym there))
known_is (Some x) e h there = ap (λ (y : Exchange). Some y) h

module _ (market : Priced) (day : ℕ) (symbol : List ℕ) where
  pub exchange_is : (target : List ℕ) (places : ℕ) (rate : Result (Option Fraction) RateRange) → Some target ≡ target_of market day symbol → places ≡ places_of market target → rate ≡ rate_on market.quotes day target symbol → exchange_at target places rate ≡ exchange_on market day symbol
  exchange_is target places rate t p r =
      ap (λ (n : ℕ). exchange_at target n rate) p
      ∙ ap (exchange_at target (places_of market target)) r
      ∙ ap (exchange_in market day symbol) t

  pub stays_is : None ≡ target_of market day symbol → Stays ≡ exchange_on market day symbol
  stays_is t = ap (exchange_in market day symbol) t
