-- Lists of which one item more is known.
use Rattle.std.proofs.Common.{◌≡◌, ℕ, ℤ, ◌+◌, ◌<◌, neg_ℤ, Bool, true, false, cond, List, [], ◌∷◌, ◌++◌, length, get_or, map, take, refl, sym, ap, ◌∙◌}
use Rattle.std.proofs.lemmas.List.{take_more}
use Rattle.hl_num.specs.Decimal.{Decimal, units_of}
use Rattle.report_cells.specs.Report.{seen}
use Rattle.book_care.specs.Kept.{signed_sum, sum_lines}
use Rattle.book_care.specs.Lines.{Moved, shortest, line_of}

pub taken_more : {X : Type 0} (xs : List X) (i : ℕ) (x : X) → i < length xs → x ≡ get_or xs i x → take (i + 1) xs ≡ take i xs ++ x ∷ []
taken_more xs i x lt is = take_more xs i x lt ∙ ap (λ y. take i xs ++ y ∷ []) (sym is)

map-push : {A B : Type 0} (f : A → B) (xs : List A) (x : A) → map f (xs ++ x ∷ []) ≡ map f xs ++ f x ∷ []
map-push f [] x = refl
map-push f (y ∷ xs) x = ap (λ l. f y ∷ l) (map-push f xs x)

pub mapped_more : {A B : Type 0} (f : A → B) (xs : List A) (i : ℕ) (x : A) → i < length xs → x ≡ get_or xs i x → map f (take (i + 1) xs) ≡ map f (take i xs) ++ f x ∷ []
mapped_more f xs i x lt is = ap (map f) (taken_more xs i x lt is) ∙ map-push f (take i xs) x

-- the line of a sum
line-signed : (turns : Bool) (account symbol : List ℕ) (sum : ℤ) → line_of account (signed_sum turns (symbol, sum)) ≡ record { account = account; symbol = symbol; value = shortest (cond turns (neg_ℤ sum) sum) }
line-signed true account symbol sum = refl
line-signed false account symbol sum = refl

-- the next line of an account's sums
pub sums_more : (turns : Bool) (account : List ℕ) (sums : List (List ℕ × Decimal)) (i : ℕ) (sum : List ℕ × Decimal) (value : Decimal) → i < length sums → sum ≡ get_or sums i sum → value ≡ shortest (cond turns (neg_ℤ (units_of sum.1)) (units_of sum.1)) → sum_lines turns account (seen (take i sums)) ++ record { account = account; symbol = sum.0; value = value } ∷ [] ≡ sum_lines turns account (seen (take (i + 1) sums))
sums_more turns account sums i sum value lt is same =
    ap (λ (d : Decimal). sum_lines turns account (seen (take i sums)) ++ record { account = account; symbol = sum.0; value = d } ∷ []) same
    ∙ ap (λ (m : Moved). sum_lines turns account (seen (take i sums)) ++ m ∷ []) (sym (line-signed turns account sum.0 (units_of sum.1)))
    ∙ sym (ap (λ (es : List (List ℕ × ℤ)). sum_lines turns account es) (mapped_more (λ (e : List ℕ × Decimal). (e.0, units_of e.1)) sums i sum lt is)
    ∙ map-push (λ (e : List ℕ × ℤ). line_of account (signed_sum turns e)) (seen (take i sums)) (sum.0, units_of sum.1))
