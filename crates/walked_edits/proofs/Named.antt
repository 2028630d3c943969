-- Symbols of forms that are among others.
use Rattle.std.proofs.Common.{◌≡◌, ℕ, zero, suc, Bool, true, false, ◌&&◌, ◌||◌, cond, List, [], ◌∷◌, ◌++◌, slice_get, Option, Some, None, refl, sym, ap, ◌∙◌, ◌⊎◌, inl, inr}
use Rattle.std.specs.List.{flat_map, list_any}
use Rattle.std.specs.Ordering.{eq_by_cmp, nat_cmp}
use Rattle.std.specs.Cmp.Lexicographic.{slice_cmp}
use Rattle.std.specs.Str.{bytes_eq}
use Rattle.book.proofs.Entries.{tie-bytes_eq}
use Rattle.book.specs.Sums.{is_nonzero}
use Rattle.hl_num.specs.Decimal.{units_of}
use Rattle.book.specs.declared.amount.Amount.{Amount}
use Rattle.book.specs.declared.transaction.Posting.{Posting}
use Rattle.placed_sums.specs.Accounts.{is_among, is_moved, symbol_moved}
use Rattle.walked_edits.specs.Symbols.{are_known, is_known}
use Rattle.book.specs.Postings.{postings_of}
use Rattle.book.specs.declared.transaction.Txn.{Txn}
use Rattle.entry_balance.proofs.Turnover.{alike, bytes_eq-itself}
use Rattle.std.proofs.lemmas.Grind.{flat_map-append}
use Rattle.std.proofs.lemmas.List.Folds.{list_any-append}
use Rattle.std.proofs.lemmas.Option.{none-some, same_Some}
use Rattle.watchers.proofs.Tests.{and-first, and-second, or-left, or-right}
use Rattle.std.proofs.lemmas.Bool.{false≢true, or_cases}

abbrev is_text : List ℕ → List ℕ → Bool
is_text q s = eq_by_cmp (slice_cmp nat_cmp) q s

-- both ways to look a symbol up are the same
pub among_is : (q : List ℕ) (symbols : List (List ℕ)) → is_among q symbols ≡ list_any (λ other. bytes_eq other q) symbols
among_is q [] = refl
among_is q (s ∷ ss) = λ i. tie-bytes_eq q s i || among_is q ss i

among_by : (q : List ℕ) (symbols : List (List ℕ)) → list_any (λ other. bytes_eq other q) symbols ≡ true → is_among q symbols ≡ true
among_by q symbols h = among_is q symbols ∙ h

same_text : (q s : List ℕ) → is_text q s ≡ true → s ≡ q
same_text q s h = by (alike s q)
  where
    by : (s ≡ q) ⊎ (bytes_eq s q ≡ false) → s ≡ q
    by (inl e) = e
    by (inr e) = absurd (false≢true (sym e ∙ sym (tie-bytes_eq q s) ∙ h))

pub known_named : (symbols : List (List ℕ)) (ps : List Posting) → are_known symbols ps ≡ true → (q : List ℕ) → is_moved q ps ≡ true → is_among q symbols ≡ true
known_named symbols [] known q h = absurd (false≢true h)
known_named symbols (p ∷ ps) known q h =
    by p.amount (and-first (is_known symbols p.amount) (are_known symbols ps) known) h (known_named symbols ps (and-second (is_known symbols p.amount) (are_known symbols ps) known) q)
  where
    by : (o : Option Amount) → is_known symbols o ≡ true → list_any (is_text q) (symbol_moved o ++ flat_map (λ (p : Posting). symbol_moved p.amount) ps) ≡ true → (is_moved q ps ≡ true → is_among q symbols ≡ true) → is_among q symbols ≡ true
    by None k e later = later e
    by (Some a) k e later =
        elim (is_nonzero (units_of a.value)) as (λ n. cond n (list_any (λ other. bytes_eq other a.symbol) symbols) true ≡ true → list_any (is_text q) (cond n (a.symbol ∷ []) [] ++ flat_map (λ (p : Posting). symbol_moved p.amount) ps) ≡ true → is_among q symbols ≡ true) [
          | true ↦ λ there some.
              elim (or_cases (is_text q a.symbol) (is_moved q ps) some) as (λ _. is_among q symbols ≡ true) [
                | inl here ↦ among_by q symbols (ap (λ (s : List ℕ). list_any (λ other. bytes_eq other s) symbols) (sym (same_text q a.symbol here)) ∙ there)
                | inr rest ↦ later rest
              ]
          | false ↦ λ there some. later some
        ] k e

-- ---- the other way

-- a symbol of an amount that isn't zero isn't among some
pub record Lacks (symbols : List (List ℕ)) (ps : List Posting) : Type 0 where
  pub symbol : List ℕ
  pub moved : is_moved symbol ps ≡ true
  pub off : is_among symbol symbols ≡ false

lacks_more : (symbols : List (List ℕ)) (p : Posting) (ps : List Posting) → Lacks symbols ps → Lacks symbols (p ∷ ps)
lacks_more symbols p ps h = record {
  symbol = h.symbol;
  moved = list_any-append (is_text h.symbol) (symbol_moved p.amount) (flat_map (λ (p : Posting). symbol_moved p.amount) ps) ∙ or-right (list_any (is_text h.symbol) (symbol_moved p.amount)) (is_moved h.symbol ps) h.moved;
  off = h.off;
}

lacks_here : (symbols : List (List ℕ)) (p : Posting) (ps : List Posting) → is_known symbols p.amount ≡ false → Lacks symbols (p ∷ ps)
lacks_here symbols p ps off = by p.amount refl off
  where
    by : (o : Option Amount) → p.amount ≡ o → is_known symbols o ≡ false → Lacks symbols (p ∷ ps)
    by None e k = absurd (false≢true (sym k))
    by (Some a) e k = at (is_nonzero (units_of a.value)) refl k
      where
        at : (n : Bool) → is_nonzero (units_of a.value) ≡ n → cond n (list_any (λ other. bytes_eq other a.symbol) symbols) true ≡ false → Lacks symbols (p ∷ ps)
        at false m l = absurd (false≢true (sym l))
        at true m l = record {
          symbol = a.symbol;
          moved = ap (λ (o : Option Amount). list_any (is_text a.symbol) (symbol_moved o ++ flat_map (λ (p : Posting). symbol_moved p.amount) ps)) e
              ∙ ap (λ (b : Bool). list_any (is_text a.symbol) (cond b (a.symbol ∷ []) [] ++ flat_map (λ (p : Posting). symbol_moved p.amount) ps)) m
              ∙ or-left (is_text a.symbol a.symbol) (is_moved a.symbol ps) (tie-bytes_eq a.symbol a.symbol ∙ bytes_eq-itself a.symbol);
          off = among_is a.symbol symbols ∙ l;
        }

-- where some posting isn't known its symbol is lacking
pub unknown_lacks : (symbols : List (List ℕ)) (ps : List Posting) → are_known symbols ps ≡ false → Lacks symbols ps
unknown_lacks symbols [] h = absurd (false≢true (sym h))
unknown_lacks symbols (p ∷ ps) h =
    elim (is_known symbols p.amount) as (λ b. is_known symbols p.amount ≡ b → (b && are_known symbols ps) ≡ false → Lacks symbols (p ∷ ps)) [
      | true ↦ λ e k. lacks_more symbols p ps (unknown_lacks symbols ps k)
      | false ↦ λ e k. lacks_here symbols p ps e
    ] refl h

-- a symbol that one of a book's transactions moves is one that the book moves
pub moved_in : (book : List Txn) (n : ℕ) (t : Txn) → slice_get book n ≡ Some t → (q : List ℕ) → is_moved q t.postings ≡ true → is_moved q (postings_of book) ≡ true
moved_in [] n t got q h = absurd (none-some t got)
moved_in (x ∷ xs) zero t got q h =
    ap (list_any (is_text q)) (flat_map-append (λ (p : Posting). symbol_moved p.amount) x.postings (postings_of xs))
    ∙ list_any-append (is_text q) (flat_map (λ (p : Posting). symbol_moved p.amount) x.postings) (flat_map (λ (p : Posting). symbol_moved p.amount) (postings_of xs))
    ∙ or-left (is_moved q x.postings) (is_moved q (postings_of xs)) (ap (λ (y : Txn). is_moved q y.postings) (same_Some x t got) ∙ h)
moved_in (x ∷ xs) (suc n) t got q h =
    ap (list_any (is_text q)) (flat_map-append (λ (p : Posting). symbol_moved p.amount) x.postings (postings_of xs))
    ∙ list_any-append (is_text q) (flat_map (λ (p : Posting). symbol_moved p.amount) x.postings) (flat_map (λ (p : Posting). symbol_moved p.amount) (postings_of xs))
    ∙ or-right (is_moved q x.postings) (is_moved q (postings_of xs)) (moved_in xs n t got q h)
