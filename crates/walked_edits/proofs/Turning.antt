-- What a book moves, where a transaction gets another form.
use Rattle.std.proofs.Common.{◌≡◌, ℕ, zero, suc, ◌≤◌, Bool, true, false, ◌&&◌, ◌||◌, cond, ◌⊎◌, inl, inr, List, [], ◌∷◌, ◌++◌, map, set, slice_get, Option, Some, None, is_none, is_some, refl, sym, ap, subst, ◌∙◌, arith, append_assoc, append-nil}
use Rattle.std.specs.List.{AllByRecursion}
use Rattle.std.proofs.lemmas.Bool.{false≢true}
use Rattle.std.proofs.lemmas.Grind.{flat_map-append}
use Rattle.std.proofs.lemmas.Option.{none-some, same_Some}
use Rattle.hl_num.specs.Decimal.{Decimal}
use Rattle.hl_time.specs.declared.day.Day.{Day}
use Rattle.book.specs.Bounds.{TurnoverFits}
use Rattle.book.specs.Postings.{postings_of}
use Rattle.book.specs.declared.amount.Amount.{Amount}
use Rattle.book.specs.declared.amount.Assertion.{Assertion}
use Rattle.book.specs.declared.fault.Cause.{Cause}
use Rattle.book.specs.declared.fault.Cause.TheVariants as cause
use Rattle.book.specs.declared.transaction.Posting.{Posting}
use Rattle.book.specs.declared.transaction.Txn.{Txn}
use Rattle.balancing.specs.Solves.{AreMade, AreMadeTxns, HasFew, HaveFew, IsMadeBy, Solves}
use Rattle.entry_balance.specs.Entry.{assignment_fault, cause_alone, costs_fit, fits_alone, from_amount, has_assignment, has_two_missing, is_assignment, moved, moved_by, settled, solved, unbalanced_by, unbalanced_sums}
use Rattle.entry_balance.specs.Tally.{numbers_of, turnover_fits}
use Rattle.entry_balance.specs.Values.{Value, cost_values, value_of}
use Rattle.entry_balance.proofs.Covers.{Covers, IsPart, at_most-append, covered-fits, covers_both, covers_none, covers_same, solved_costs_fit}
use Rattle.entry_balance.proofs.Named.{left_true}
use Rattle.entry_balance.proofs.Turnover.{at_most-left, at_most-right, magnitude-append, numbers-append}
use Rattle.kept_turnover.specs.Keeping.{are_told}
use Rattle.kept_turnover.specs.Moved.{AreFew}
use Rattle.kept_turnover.proofs.Ranged.{ranged}
use Rattle.reached_entries.specs.Reached.{IsSolved}
use Rattle.reached_walk.proofs.Lists.{all-join, all-left, all-right}
use Rattle.watchers.proofs.Tests.{and-both, and-first, and-second, and-false}
use Rattle.walked_edits.specs.Forms.{vacant}
use Rattle.walked_edits.specs.Keeping.{AreSums}
use Rattle.walked_edits.specs.declared.kept.Kept.{Kept}

-- ---- what postings move

part_then : (xs ys zs : List Decimal) → IsPart xs ys → IsPart ys zs → IsPart xs zs
part_then xs ys zs h k = record {
  less = λ q. let one = h.less q in let two = k.less q in omega (arith, one, two);
  few = λ q all. h.few q (k.few q all);
}

part_swapped : (xs ys zs : List Decimal) → IsPart (zs ++ ys) ((xs ++ ys) ++ zs)
part_swapped xs ys zs = record {
  less = λ q. omega (arith, magnitude-append q zs ys, magnitude-append q (xs ++ ys) zs, magnitude-append q xs ys);
  few = λ q all. at_most-append q zs ys (at_most-right q (xs ++ ys) zs all) (at_most-right q xs ys (at_most-left q (xs ++ ys) zs all));
}

covers_then : (xs ys zs : List Value) → Covers ys xs → Covers zs ys → Covers zs xs
covers_then xs ys zs h k = record { each = λ s. part_then (numbers_of s xs) (numbers_of s ys) (numbers_of s zs) (h.each s) (k.each s) }

covers_swapped : (xs ys zs : List Value) → Covers ((xs ++ ys) ++ zs) (zs ++ ys)
covers_swapped xs ys zs = record {
  each = λ s.
      subst (λ (ds : List Decimal). IsPart ds (numbers_of s ((xs ++ ys) ++ zs))) (sym (numbers-append s zs ys))
      (subst (λ (ds : List Decimal). IsPart (numbers_of s zs ++ numbers_of s ys) ds)
      (sym (numbers-append s (xs ++ ys) zs ∙ ap (λ (ds : List Decimal). ds ++ numbers_of s zs) (numbers-append s xs ys)))
      (part_swapped (numbers_of s xs) (numbers_of s ys) (numbers_of s zs)));
}

moved_both : (ps qs : List Posting) → moved (ps ++ qs) ≡ moved ps ++ moved qs
moved_both ps qs = flat_map-append moved_by ps qs

-- a book and one more form move all that the book moves which has it
set_moves : (book : List Txn) (n : ℕ) (new : Txn) → Covers (moved (postings_of book) ++ moved new.postings) (moved (postings_of (set book n new)))
set_moves [] n new = covers_none (moved new.postings)
set_moves (t ∷ ts) zero new =
    subst (λ (vs : List Value). Covers (moved (postings_of (t ∷ ts)) ++ moved new.postings) vs) (sym (moved_both new.postings (postings_of ts)))
    (subst (λ (vs : List Value). Covers (vs ++ moved new.postings) (moved new.postings ++ moved (postings_of ts))) (sym (moved_both t.postings (postings_of ts)))
    (covers_swapped (moved t.postings) (moved (postings_of ts)) (moved new.postings)))
set_moves (t ∷ ts) (suc n) new =
    subst (λ (vs : List Value). Covers (moved (postings_of (t ∷ ts)) ++ moved new.postings) vs) (sym (moved_both t.postings (postings_of (set ts n new))))
    (subst (λ (vs : List Value). Covers vs (moved t.postings ++ moved (postings_of (set ts n new))))
    (sym (ap (λ (vs : List Value). vs ++ moved new.postings) (moved_both t.postings (postings_of ts)) ∙ append_assoc (moved t.postings) (moved (postings_of ts)) (moved new.postings)))
    (covers_both (moved t.postings) (moved t.postings) (moved (postings_of (set ts n new))) (moved (postings_of ts) ++ moved new.postings) (covers_same (moved t.postings)) (set_moves ts n new)))

-- a form that moves nothing
pub vacated_fits : (book : List Txn) (n : ℕ) (new : Txn) → new.postings ≡ [] → turnover_fits (moved (postings_of book)) ≡ true → turnover_fits (moved (postings_of (set book n new))) ≡ true
vacated_fits book n new none h =
    covered-fits (moved (postings_of book)) (moved (postings_of (set book n new)))
    (subst (λ (vs : List Value). Covers vs (moved (postings_of (set book n new)))) (ap (λ (ps : List Posting). moved (postings_of book) ++ moved ps) none ∙ append-nil (moved (postings_of book))) (set_moves book n new))
    h

postings_last : (all : List Txn) (new : Txn) → postings_of (all ++ new ∷ []) ≡ postings_of all ++ new.postings
postings_last [] new = append-nil new.postings
postings_last (t ∷ all) new = ap (λ (ps : List Posting). t.postings ++ ps) (postings_last all new) ∙ sym (append_assoc t.postings (postings_of all) new.postings)

pub postings_vacant : (book : List Txn) (day : Day) → postings_of (book ++ vacant day ∷ []) ≡ postings_of book
postings_vacant book day = postings_last book (vacant day) ∙ append-nil (postings_of book)

-- ---- a part of a book

-- each transaction moves nothing, or is the one that another book has in its place
abbrev pub IsPartOf : List Txn → List Txn → Type 0
IsPartOf xs ys = (i : ℕ) (t : Txn) → slice_get xs i ≡ Some t → (t.postings ≡ []) ⊎ (slice_get ys i ≡ Some t)

none_covers : (x : Txn) (vs : List Value) → x.postings ≡ [] → Covers vs (moved x.postings)
none_covers x vs none = subst (λ (ps : List Posting). Covers vs (moved ps)) (sym none) (covers_none vs)

part_covers : (xs ys : List Txn) → IsPartOf xs ys → Covers (moved (postings_of ys)) (moved (postings_of xs))
part_covers [] ys h = covers_none (moved (postings_of ys))
part_covers (x ∷ xs) [] h =
    elim (h 0 x refl) as (λ _. Covers [] (moved (postings_of (x ∷ xs)))) [
      | inl none ↦ subst (λ (ps : List Posting). Covers [] (moved (ps ++ postings_of xs))) (sym none) (part_covers xs [] (λ i t got. h (suc i) t got))
      | inr same ↦ absurd (none-some x same)
    ]
part_covers (x ∷ xs) (y ∷ ys) h =
    let rest : Covers (moved (postings_of ys)) (moved (postings_of xs)) = part_covers xs ys (λ i t got. h (suc i) t got) in
    let first : Covers (moved y.postings) (moved x.postings) =
    elim (h 0 x refl) as (λ _. Covers (moved y.postings) (moved x.postings)) [
      | inl none ↦ none_covers x (moved y.postings) none
      | inr same ↦ subst (λ (t : Txn). Covers (moved y.postings) (moved t.postings)) (same_Some y x same) (covers_same (moved y.postings))
    ] in
    subst (λ (vs : List Value). Covers vs (moved (postings_of (x ∷ xs)))) (sym (moved_both y.postings (postings_of ys)))
    (subst (λ (vs : List Value). Covers (moved y.postings ++ moved (postings_of ys)) vs) (sym (moved_both x.postings (postings_of xs)))
    (covers_both (moved x.postings) (moved y.postings) (moved (postings_of xs)) (moved (postings_of ys)) first rest))

pub part_fits : (xs ys : List Txn) → IsPartOf xs ys → turnover_fits (moved (postings_of ys)) ≡ true → turnover_fits (moved (postings_of xs)) ≡ true
part_fits xs ys h fits = covered-fits (moved (postings_of ys)) (moved (postings_of xs)) (part_covers xs ys h) fits

-- ---- costs that can be told

pub told_set : (book : List Txn) (n : ℕ) (new : Txn) → are_told book ≡ true → costs_fit new.postings ≡ true → are_told (set book n new) ≡ true
told_set [] n new h k = h
told_set (t ∷ ts) zero new h k = and-both (costs_fit new.postings) (are_told ts) k (and-second (costs_fit t.postings) (are_told ts) h)
told_set (t ∷ ts) (suc n) new h k =
    and-both (costs_fit t.postings) (are_told (set ts n new)) (and-first (costs_fit t.postings) (are_told ts) h) (told_set ts n new (and-second (costs_fit t.postings) (are_told ts) h) k)

pub told_got : (book : List Txn) (n : ℕ) (t : Txn) → are_told book ≡ true → slice_get book n ≡ Some t → costs_fit t.postings ≡ true
told_got [] n t h got = absurd (none-some t got)
told_got (x ∷ xs) zero t h got = ap (λ (y : Txn). costs_fit y.postings) (sym (same_Some x t got)) ∙ and-first (costs_fit x.postings) (are_told xs) h
told_got (x ∷ xs) (suc n) t h got = told_got xs n t (and-second (costs_fit x.postings) (are_told xs) h) got

pub told_vacant : (book : List Txn) (day : Day) → are_told book ≡ true → are_told (book ++ vacant day ∷ []) ≡ true
told_vacant [] day h = refl
told_vacant (t ∷ ts) day h =
    and-both (costs_fit t.postings) (are_told (ts ++ vacant day ∷ [])) (and-first (costs_fit t.postings) (are_told ts) h) (told_vacant ts day (and-second (costs_fit t.postings) (are_told ts) h))

made_one : (a : Option Amount) (o : Option Assertion) (w q : Posting) → w.amount ≡ a → w.wanted ≡ o → IsMadeBy a o w q → is_assignment q ≡ false
made_one (Some a) o w q e f is = ap is_assignment is ∙ ap (λ (x : Option Amount). is_none x && is_some w.wanted) e
made_one None None w q e f is = ap is_assignment is ∙ ap (λ (x : Option Assertion). is_none w.amount && is_some x) f ∙ and-false (is_none w.amount)
made_one None (Some x) w q e f is = ap is_assignment is.1

-- what is made has no assignments left
made_none : (ws qs : List Posting) → AreMade ws qs → has_assignment qs ≡ false
made_none [] [] h = refl
made_none [] (q ∷ qs) h = absurd h
made_none (w ∷ ws) [] h = absurd h
made_none (w ∷ ws) (q ∷ qs) h = λ i. made_one w.amount w.wanted w q refl refl h.0 i || made_none ws qs h.1 i

third : (a b c : Bool) (f u : Option Cause) → a ≡ false → cond a f (cond b (Some cause.TwoMissing) (cond c u (Some cause.Range))) ≡ None → c ≡ true
third true b c f u e h = absurd (false≢true (sym e))
third false true c f u e h = absurd (let never : ⊥ = cc in never)
third false false true f u e h = refl
third false false false f u e h = absurd (let never : ⊥ = cc in never)

pub made_costs : (ws qs : List Posting) → AreMade ws qs → cause_alone qs ≡ None → costs_fit (solved qs) ≡ true
made_costs ws qs made alone =
    solved_costs_fit qs (left_true (costs_fit qs) (turnover_fits (moved (solved qs)))
    (third (has_assignment qs) (has_two_missing qs) (fits_alone qs) (assignment_fault qs) (unbalanced_by (unbalanced_sums qs)) (made_none ws qs made) alone))

pub solved_costs : (book : List Txn) (n : ℕ) (w t : Txn) → IsSolved book n w t → costs_fit t.postings ≡ true
solved_costs book n w t s = ap (λ (x : Txn). costs_fit x.postings) s.found ∙ made_costs w.postings s.made.postings s.kept.postings s.balanced

told_made : (ws ms : List Txn) → AreMadeTxns ws ms → AllByRecursion (λ t. cause_alone t.postings ≡ None) ms → are_told (map settled ms) ≡ true
told_made [] [] k b = refl
told_made [] (m ∷ ms) k b = absurd k
told_made (w ∷ ws) [] k b = absurd k
told_made (w ∷ ws) (m ∷ ms) k b = and-both (costs_fit (solved m.postings)) (are_told (map settled ms)) (made_costs w.postings m.postings k.0.postings b.0) (told_made ws ms k.1 b.1)

pub solves_told : (text book : List Txn) → Solves text book → are_told book ≡ true
solves_told text book s = ap are_told s.found ∙ told_made text s.made s.kept s.balanced

-- ---- decimals

few_one : (p : Posting) (o : Option Amount) → AreFew (from_amount (λ a. value_of a ∷ cost_values a p.cost) o) → HasFew o
few_one p None h = tt
few_one p (Some a) h = h.0

few_amounts : (ps : List Posting) → AreFew (moved ps) → AllByRecursion (λ p. HasFew p.amount) ps
few_amounts [] h = tt
few_amounts (p ∷ ps) h = (
  few_one p p.amount (all-left (λ (v : Value). v.1.places ≤ 36) (moved_by p) (moved ps) h),
  few_amounts ps (all-right (λ (v : Value). v.1.places ≤ 36) (moved_by p) (moved ps) h),
)

pub sums_few : (book : List Txn) (kept : Kept) → AreSums book kept → HaveFew book
sums_few book kept h = few_amounts (postings_of book) h.turnover.few

pub sums_turn : (book : List Txn) (kept : Kept) → AreSums book kept → TurnoverFits (postings_of book)
sums_turn book kept h = ranged (postings_of book) h.turnover.few h.fits

abbrev IsFew : Value → Type 0
IsFew v = v.1.places ≤ 36

-- nor with a form that moves nothing
pub few_set : (book : List Txn) (n : ℕ) (new : Txn) → new.postings ≡ [] → AreFew (moved (postings_of book)) → AreFew (moved (postings_of (set book n new)))
few_set [] n new none h = h
few_set (t ∷ ts) zero new none h =
    subst (λ (ps : List Posting). AreFew (moved (ps ++ postings_of ts))) (sym none)
    (all-right IsFew (moved t.postings) (moved (postings_of ts)) (subst AreFew (moved_both t.postings (postings_of ts)) h))
few_set (t ∷ ts) (suc n) new none h =
    let both : AreFew (moved t.postings ++ moved (postings_of ts)) = subst AreFew (moved_both t.postings (postings_of ts)) h in
    subst AreFew (sym (moved_both t.postings (postings_of (set ts n new))))
    (all-join IsFew (moved t.postings) (moved (postings_of (set ts n new))) (all-left IsFew (moved t.postings) (moved (postings_of ts)) both)
    (few_set ts n new none (all-right IsFew (moved t.postings) (moved (postings_of ts)) both)))

pub vacated_turn : (book : List Txn) (kept : Kept) (n : ℕ) (new : Txn) → new.postings ≡ [] → AreSums book kept → TurnoverFits (postings_of (set book n new))
vacated_turn book kept n new none h = ranged (postings_of (set book n new)) (few_set book n new none h.turnover.few) (vacated_fits book n new none h.fits)
