-- Sums to which no reached transaction counts: they are those of the others alone.
use Rattle.std.proofs.Common.{◌≡◌, ℕ, suc, ◌==◌, nat_lt, Bool, true, false, ◌&&◌, ◌||◌, cond, not, List, [], ◌∷◌, ◌++◌, map, filter, Option, Some, None, refl, sym, ap, subst, ◌∙◌, arith}
use Rattle.std.specs.List.{list_any, AllByRecursion}
use Rattle.std.proofs.lemmas.Bool.{false≢true}
use Rattle.std.proofs.lemmas.Bool.Decides.{nat_tests}
use Rattle.std.proofs.lemmas.List.Elements.{filter-append}
use Rattle.hl_num.specs.Decimal.{negated}
use Rattle.book.specs.declared.amount.Amount.{Amount}
use Rattle.book.specs.declared.amount.Assertion.{Assertion}
use Rattle.book.specs.declared.transaction.Posting.{Posting}
use Rattle.book.specs.declared.transaction.Txn.{Txn}
use Rattle.book.specs.Mixed.{plus}
use Rattle.book.specs.SumsBefore.{Place, is_before, is_of, placed_in, placed_from, postings_before, is_assigned}
use Rattle.entry_balance.specs.Tally.{total_of}
use Rattle.entry_balance.specs.Entry.{plain_amount}
use Rattle.balancing.specs.Assigned.{shortened}
use Rattle.balancing.specs.Solves.{Holds, HoldsIf, IsAssignedAt, IsAssertedAt, amount_at, just_after, values_before, values_of}
use Rattle.reached_entries.specs.Reached.{AreSame, IsLeft, asks_for, counts_for}

abbrev pub Entry : Type 0
Entry = Place × Posting

or-first : (a b : Bool) → (a || b) ≡ false → a ≡ false
or-first true b h = h
or-first false b h = refl

or-second : (a b : Bool) → (a || b) ≡ false → b ≡ false
or-second true b h = absurd (false≢true (sym h))
or-second false b h = h

or-none : (a b : Bool) → a ≡ false → b ≡ false → (a || b) ≡ false
or-none true b p q = p
or-none false b p q = q

not-true : (a : Bool) → (a ≡ true → ⊥) → a ≡ false
not-true true h = absurd (h refl)
not-true false h = refl

eq-of : (n k : ℕ) → (n == k) ≡ true → n ≡ k
eq-of n k h = grind (arith, nat_tests)

-- an entry of a transaction that isn't reached
abbrev pub is_other : (ℕ → Bool) → Entry → Bool
is_other reached f = not (reached f.0.txn)

-- an entry counts for an account at a place
abbrev pub counts_at : List ℕ → Bool → Place → Entry → Bool
counts_at account below place f = is_before f.0 place && is_of account below f.1.account

-- ---- where none of the reached entries counts

pub quiet : (reached : ℕ → Bool) (t : Entry → Bool) (es : List Entry) → list_any (λ f. reached f.0.txn && t f) es ≡ false → filter t es ≡ filter t (filter (is_other reached) es)
quiet reached t [] h = refl
quiet reached t (f ∷ es) h =
    elim (reached f.0.txn) as (λ b. ((b && t f) || list_any (λ g. reached g.0.txn && t g) es) ≡ false → cond (t f) (f ∷ filter t es) (filter t es) ≡ filter t (cond (not b) (f ∷ filter (is_other reached) es) (filter (is_other reached) es))) [
      | true ↦ λ k. ap (λ (b : Bool). cond b (f ∷ filter t es) (filter t es)) (or-first (t f) (list_any (λ g. reached g.0.txn && t g) es) k) ∙ quiet reached t es (or-second (t f) (list_any (λ g. reached g.0.txn && t g) es) k)
      | false ↦ λ k. ap (λ (l : List Entry). cond (t f) (f ∷ l) l) (quiet reached t es k)
    ] h

-- ---- the others of two lists that are the same but for the reached ones

pub none-other : (reached : ℕ → Bool) (t : Txn) (n k : ℕ) (ps : List Posting) → reached n ≡ true → filter (is_other reached) (placed_in t n k ps) ≡ []
none-other reached t n k [] h = refl
none-other reached t n k (p ∷ ps) h =
    dropped (reached n) h _ (filter (is_other reached) (placed_in t n (suc k) ps)) ∙ none-other reached t n (suc k) ps h
  where
    dropped : (b : Bool) → b ≡ true → (e : Entry) (es : List Entry) → cond (not b) (e ∷ es) es ≡ es
    dropped true q e es = refl
    dropped false q e es = absurd (false≢true q)

pub all-other : (reached : ℕ → Bool) (t : Txn) (n k : ℕ) (ps : List Posting) → reached n ≡ false → filter (is_other reached) (placed_in t n k ps) ≡ placed_in t n k ps
all-other reached t n k [] h = refl
all-other reached t n k (p ∷ ps) h = kept (reached n) h _ (filter (is_other reached) (placed_in t n (suc k) ps)) (placed_in t n (suc k) ps) (all-other reached t n (suc k) ps h)
  where
    kept : (b : Bool) → b ≡ false → (e : Entry) (es fs : List Entry) → es ≡ fs → cond (not b) (e ∷ es) es ≡ e ∷ fs
    kept true q e es fs r = absurd (false≢true (sym q))
    kept false q e es fs r = ap (λ (l : List Entry). e ∷ l) r

pub same-others : (reached : ℕ → Bool) (n : ℕ) (ts us : List Txn) → AreSame reached n ts us → filter (is_other reached) (placed_from n ts) ≡ filter (is_other reached) (placed_from n us)
same-others reached n [] [] h = refl
same-others reached n [] (u ∷ us) h =
    same-others reached (suc n) [] us h.1
    ∙ sym (filter-append (is_other reached) (placed_in u n 0 u.postings) (placed_from (suc n) us)
    ∙ ap (λ (l : List Entry). l ++ filter (is_other reached) (placed_from (suc n) us)) (none-other reached u n 0 u.postings h.0))
same-others reached n (t ∷ ts) [] h =
    filter-append (is_other reached) (placed_in t n 0 t.postings) (placed_from (suc n) ts)
    ∙ ap (λ (l : List Entry). l ++ filter (is_other reached) (placed_from (suc n) ts)) (none-other reached t n 0 t.postings h.0)
    ∙ same-others reached (suc n) ts [] h.1
same-others reached n (t ∷ ts) (u ∷ us) h =
    filter-append (is_other reached) (placed_in t n 0 t.postings) (placed_from (suc n) ts)
    ∙ (λ i. first (reached n) refl i ++ same-others reached (suc n) ts us h.1 i)
    ∙ sym (filter-append (is_other reached) (placed_in u n 0 u.postings) (placed_from (suc n) us))
  where
    first : (b : Bool) → reached n ≡ b → filter (is_other reached) (placed_in t n 0 t.postings) ≡ filter (is_other reached) (placed_in u n 0 u.postings)
    first true e = none-other reached t n 0 t.postings e ∙ sym (none-other reached u n 0 u.postings e)
    first false e = ap (λ (x : Txn). filter (is_other reached) (placed_in x n 0 x.postings)) (h.0 e)

-- ---- the sums that an entry asks for

-- Two books have the same postings before and just after an entry for what it asks.
pub record SameSums (before after : List Txn) (e : Entry) : Type 0 where
  pub until : (w : Assertion) → e.1.wanted ≡ Some w → postings_before before e.1.account w.below e.0 ≡ postings_before after e.1.account w.below e.0
  pub through : (w : Assertion) → e.1.wanted ≡ Some w → postings_before before e.1.account w.below (just_after e.0) ≡ postings_before after e.1.account w.below (just_after e.0)

-- no reached entry of a book counts for what an entry asks
abbrev pub IsQuiet : (ℕ → Bool) → List Txn → Entry → Type 0
IsQuiet reached book e = list_any (λ f. reached f.0.txn && asks_for e f) (placed_from 0 book) ≡ false

pub quiet-until : (reached : ℕ → Bool) (book : List Txn) (e : Entry) (w : Assertion) → e.1.wanted ≡ Some w → IsQuiet reached book e → list_any (λ f. reached f.0.txn && counts_at e.1.account w.below e.0 f) (placed_from 0 book) ≡ false
quiet-until reached book e w is h = ap (λ (o : Option Assertion). list_any (λ f. reached f.0.txn && (is_before f.0 e.0 && counts_for o e.1.account f.1.account)) (placed_from 0 book)) (sym is) ∙ h

-- an entry of another transaction comes before the place just after one exactly where it comes before that
before-after : (a b : Place) → (a.txn == b.txn) ≡ false → is_before a (just_after b) ≡ is_before a b
before-after a b h =
    ap (λ (c : Bool). nat_lt a.day b.day || ((a.day == b.day) && (nat_lt a.txn b.txn || (c && nat_lt a.posting (suc b.posting))))) h
    ∙ sym (ap (λ (c : Bool). nat_lt a.day b.day || ((a.day == b.day) && (nat_lt a.txn b.txn || (c && nat_lt a.posting b.posting)))) h)

any-same : (p q : Entry → Bool) → ((f : Entry) → p f ≡ q f) → (es : List Entry) → list_any p es ≡ list_any q es
any-same p q f [] = refl
any-same p q f (e ∷ es) = λ i. f e i || any-same p q f es i

pub quiet-through : (reached : ℕ → Bool) (book : List Txn) (e : Entry) (w : Assertion) → reached e.0.txn ≡ false → e.1.wanted ≡ Some w → IsQuiet reached book e → list_any (λ f. reached f.0.txn && counts_at e.1.account w.below (just_after e.0) f) (placed_from 0 book) ≡ false
quiet-through reached book e w off is h =
    any-same (λ f. reached f.0.txn && counts_at e.1.account w.below (just_after e.0) f) (λ f. reached f.0.txn && counts_at e.1.account w.below e.0 f) each (placed_from 0 book)
    ∙ quiet-until reached book e w is h
  where
    apart : (f : Entry) → reached f.0.txn ≡ true → (f.0.txn == e.0.txn) ≡ false
    apart f r = not-true (f.0.txn == e.0.txn) (λ q. let same : f.0.txn ≡ e.0.txn = eq-of f.0.txn e.0.txn q in false≢true (sym off ∙ ap reached (sym same) ∙ r))

    each : (f : Entry) → (reached f.0.txn && counts_at e.1.account w.below (just_after e.0) f) ≡ (reached f.0.txn && counts_at e.1.account w.below e.0 f)
    each f =
        elim (reached f.0.txn) as (λ b. reached f.0.txn ≡ b → (b && counts_at e.1.account w.below (just_after e.0) f) ≡ (b && counts_at e.1.account w.below e.0 f)) [
          | true ↦ λ r. ap (λ (c : Bool). c && is_of e.1.account w.below f.1.account) (before-after f.0 e.0 (apart f r))
          | false ↦ λ r. refl
        ] refl

-- what is before a place, where no reached entry counts, is what the others have there
pub same-before : (reached : ℕ → Bool) (one two : List Txn) (account : List ℕ) (below : Bool) (place : Place) → filter (is_other reached) (placed_from 0 one) ≡ filter (is_other reached) (placed_from 0 two) → list_any (λ f. reached f.0.txn && counts_at account below place f) (placed_from 0 one) ≡ false → list_any (λ f. reached f.0.txn && counts_at account below place f) (placed_from 0 two) ≡ false → postings_before one account below place ≡ postings_before two account below place
same-before reached one two account below place e h k =
    ap (map (λ (f : Entry). f.1))
    (quiet reached (counts_at account below place) (placed_from 0 one) h
    ∙ ap (filter (counts_at account below place)) e
    ∙ sym (quiet reached (counts_at account below place) (placed_from 0 two) k))

pub same-sums : (reached : ℕ → Bool) (one two : List Txn) (e : Entry) → filter (is_other reached) (placed_from 0 one) ≡ filter (is_other reached) (placed_from 0 two) → reached e.0.txn ≡ false → IsQuiet reached one e → IsQuiet reached two e → SameSums one two e
same-sums reached one two e same off h k = record {
  until = λ w is. same-before reached one two e.1.account w.below e.0 same (quiet-until reached one e w is h) (quiet-until reached two e w is k);
  through = λ w is. same-before reached one two e.1.account w.below (just_after e.0) same (quiet-through reached one e w off is h) (quiet-through reached two e w off is k);
}

-- ---- what is right by these sums

pub assigned-same : (one two : List Txn) (e : Entry) → SameSums one two e → IsAssignedAt one e → IsAssignedAt two e
assigned-same one two e same h = λ is. h is ∙ amounts e.1.wanted refl
  where
    amounts : (o : Option Assertion) → e.1.wanted ≡ o → amount_at one e.0 e.1 o ≡ amount_at two e.0 e.1 o
    amounts None q = refl
    amounts (Some w) q = ap (λ (ps : List Posting). Some (plain_amount (w.amount.symbol, plus w.amount.value (negated (shortened (total_of w.amount.symbol (values_of ps))))))) (same.until w q)

pub asserted-same : (one two : List Txn) (e : Entry) → SameSums one two e → IsAssertedAt one e → IsAssertedAt two e
asserted-same one two e same h = holds e.1.wanted refl h
  where
    holds : (o : Option Assertion) → e.1.wanted ≡ o → HoldsIf o (λ w. values_before one e.1.account w.below (just_after e.0)) → HoldsIf o (λ w. values_before two e.1.account w.below (just_after e.0))
    holds None q k = tt
    holds (Some w) q k = let P : List Posting → Type 0 = λ ps. Holds w (values_of ps) in subst P (same.through w q) k

pub all-assigned : (one two : List Txn) (es : List Entry) → AllByRecursion (SameSums one two) es → AllByRecursion (IsAssignedAt one) es → AllByRecursion (IsAssignedAt two) es
all-assigned one two [] same h = tt
all-assigned one two (e ∷ es) same h = (assigned-same one two e same.0 h.0, all-assigned one two es same.1 h.1)

pub all-asserted : (one two : List Txn) (es : List Entry) → AllByRecursion (SameSums one two) es → AllByRecursion (IsAssertedAt one) es → AllByRecursion (IsAssertedAt two) es
all-asserted one two [] same h = tt
all-asserted one two (e ∷ es) same h = (asserted-same one two e same.0 h.0, all-asserted one two es same.1 h.1)

pub all-first : (P : Entry → Type 0) (xs ys : List Entry) → AllByRecursion P (xs ++ ys) → AllByRecursion P xs
all-first P [] ys h = tt
all-first P (x ∷ xs) ys h = (h.0, all-first P xs ys h.1)

pub all-rest : (P : Entry → Type 0) (xs ys : List Entry) → AllByRecursion P (xs ++ ys) → AllByRecursion P ys
all-rest P [] ys h = h
all-rest P (x ∷ xs) ys h = all-rest P xs ys h.1

pub all-both : (P : Entry → Type 0) (xs ys : List Entry) → AllByRecursion P xs → AllByRecursion P ys → AllByRecursion P (xs ++ ys)
all-both P [] ys h k = k
all-both P (x ∷ xs) ys h k = (h.0, all-both P xs ys h.1 k)
