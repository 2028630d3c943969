-- Prices in their order tell the same as in the order of the text.
use Rattle.std.proofs.Common.{◌≡◌, ℕ, zero, suc, Bool, true, false, ◌&&◌, not, cond, List, filter, pos, Option, None, refl, sym, ap, ◌∙◌, arith}
use Rattle.std.specs.Prelude.{◌==◌}
use Rattle.std.specs.List.Sorted.{IsStable, ties}
use Rattle.std.specs.Option.{option_or}
use Rattle.std.specs.declared.cmp.Ordering.{Ordering}
use Rattle.std.specs.declared.cmp.Ordering.TheVariants.{Less, Equal, Greater}
use Rattle.std.specs.Ordering.{nat_cmp, is_lt, is_eq, ordering_then, ordering_reverse}
use Rattle.std.specs.Cmp.{tied_then}
use Rattle.std.specs.Cmp.Lexicographic.{slice_cmp}
use Rattle.std.specs.Str.{bytes_eq}
use Rattle.std.proofs.lemmas.Bool.Decides.{nat_tests}
use Rattle.std.proofs.lemmas.Cmp.{nat_list_eq_equiv}
use Rattle.std.proofs.lemmas.Map.Text.{is_eq-slice_cmp}
use Rattle.prices.specs.declared.quote.Quote.{Quote}
use Rattle.prices.specs.Index.{quote_cmp}
use Rattle.prices.specs.Quotes.{last, is_on, latest}
use Rattle.prices.specs.Chains.{priced_on}
use Rattle.prices.specs.Order.{quote_total}

neither_less : (o : Ordering) → (not (is_lt o) && not (is_lt (ordering_reverse o))) ≡ is_eq o
neither_less Less = refl
neither_less Equal = refl
neither_less Greater = refl

pub text_tie : (a b : List ℕ) → is_eq (slice_cmp nat_cmp a b) ≡ bytes_eq b a
text_tie a b = is_eq-slice_cmp a b ∙ nat_list_eq_equiv.symm a b

day_tie : (m n : ℕ) → is_eq (nat_cmp m n) ≡ (n == m)
day_tie m n = grind (arith, nat_tests)

grouped : (p q r : Bool) → (p && (q && r)) ≡ ((p && q) && r)
grouped true q r = refl
grouped false q r = refl

-- what ties with a price is of its pair and day
tie_is : (x q : Quote) → ties (λ a b. is_lt (quote_cmp a b)) x q ≡ is_on x.symbol x.target x.day.0 q
tie_is x q =
    ap (λ (o : Ordering). not (is_lt (quote_cmp x q)) && not (is_lt o)) (quote_total.antisymm q x)
    ∙ neither_less (quote_cmp x q)
    ∙ sym (tied_then (slice_cmp nat_cmp x.symbol q.symbol) (ordering_then (slice_cmp nat_cmp x.target q.target) (nat_cmp x.day.0 q.day.0)))
    ∙ ap (λ (b : Bool). is_eq (slice_cmp nat_cmp x.symbol q.symbol) && b) (sym (tied_then (slice_cmp nat_cmp x.target q.target) (nat_cmp x.day.0 q.day.0)))
    ∙ ap (λ (b : Bool). b && (is_eq (slice_cmp nat_cmp x.target q.target) && is_eq (nat_cmp x.day.0 q.day.0))) (text_tie x.symbol q.symbol)
    ∙ ap (λ (b : Bool). bytes_eq q.symbol x.symbol && (b && is_eq (nat_cmp x.day.0 q.day.0))) (text_tie x.target q.target)
    ∙ ap (λ (b : Bool). bytes_eq q.symbol x.symbol && (bytes_eq q.target x.target && b)) (day_tie x.day.0 q.day.0)
    ∙ grouped (bytes_eq q.symbol x.symbol) (bytes_eq q.target x.target) (q.day.0 == x.day.0)

same_on : (quotes sorted : List Quote) → IsStable quote_cmp quotes sorted → (a b : List ℕ) (day : ℕ) → filter (is_on a b day) sorted ≡ filter (is_on a b day) quotes
same_on quotes sorted stable a b day =
    let x : Quote = record { symbol = a; target = b; day = record { 0 = day }; value = record { mantissa = pos 0; places = 0 } } in
    let turn : (q : Quote) → ties (λ a b. is_lt (quote_cmp a b)) x q ≡ is_on a b day q = tie_is x in
    (λ i. filter (λ q. (sym (turn q)) i) sorted) ∙ stable x ∙ (λ i. filter (λ q. (turn q) i) quotes)

same_latest : (quotes sorted : List Quote) → IsStable quote_cmp quotes sorted → (a b : List ℕ) (day : ℕ) → latest sorted a b day ≡ latest quotes a b day
same_latest quotes sorted stable a b zero = ap last (same_on quotes sorted stable a b 0)
same_latest quotes sorted stable a b (suc day) =
    ap (λ (l : List Quote). option_or (last l) (latest sorted a b day)) (same_on quotes sorted stable a b (suc day))
    ∙ ap (λ (o : Option Quote). option_or (last (filter (is_on a b (suc day)) quotes)) o) (same_latest quotes sorted stable a b day)

-- pairs are priced alike
pub same_prices : (quotes sorted : List Quote) → IsStable quote_cmp quotes sorted → (day : ℕ) → priced_on sorted day ≡ priced_on quotes day
same_prices quotes sorted stable day = λ i a b. cond (bytes_eq a b) None ((same_latest quotes sorted stable a b day) i)
