-- All costs of a book that a text is loaded to can be told.
use Rattle.std.proofs.Common.{◌≡◌, Bool, true, false, cond, ◌&&◌, ◌||◌, List, [], ◌∷◌, map, Option, Some, None, is_none, is_some, Ok, refl, sym, ap, ◌∙◌, ℕ}
use Rattle.std.specs.List.{AllByRecursion}
use Rattle.std.proofs.lemmas.Bool.{false≢true}
use Rattle.book.specs.Postings.{txns_of}
use Rattle.book.specs.declared.amount.Amount.{Amount}
use Rattle.book.specs.declared.amount.Assertion.{Assertion}
use Rattle.book.specs.declared.fault.Cause.{Cause}
use Rattle.book.specs.declared.fault.Cause.TheVariants as cause
use Rattle.book.specs.declared.item.Book.{Book}
use Rattle.book.specs.declared.item.Placed.{Placed}
use Rattle.book.specs.declared.transaction.Posting.{Posting}
use Rattle.book.specs.declared.transaction.Txn.{Txn}
use Rattle.entry_balance.specs.Entry.{assignment_fault, cause_alone, costs_fit, fits_alone, has_assignment, has_two_missing, is_assignment, moved, settled, solved, unbalanced_by, unbalanced_sums}
use Rattle.entry_balance.specs.Tally.{turnover_fits}
use Rattle.entry_balance.proofs.Covers.{solved_costs_fit}
use Rattle.entry_balance.proofs.Named.{left_true}
use Rattle.balancing.specs.Load.{load}
use Rattle.balancing.specs.Solves.{AreMade, AreMadeTxns, IsMadeBy, Solves}
use Rattle.balancing.proofs.Solving.{load_solves}
use Rattle.journal_reader.specs.Items.{items_in}
use Rattle.kept_turnover.specs.Keeping.{are_told}
use Rattle.additions.proofs.Lists.{and_none}
use Rattle.additions.proofs.Unmarked.{reads_unmarked}

made_one : (a : Option Amount) (o : Option Assertion) (w q : Posting) → w.amount ≡ a → w.wanted ≡ o → IsMadeBy a o w q → is_assignment q ≡ false
made_one (Some a) o w q e f is = ap is_assignment is ∙ ap (λ (x : Option Amount). is_none x && is_some w.wanted) e
made_one None None w q e f is = ap is_assignment is ∙ ap (λ (x : Option Assertion). is_none w.amount && is_some x) f ∙ and_none (is_none w.amount)
made_one None (Some x) w q e f is = ap is_assignment is.1

-- what is made has no assignments left
made_none : (ws qs : List Posting) → AreMade ws qs → has_assignment qs ≡ false
made_none [] [] h = refl
made_none [] (q ∷ qs) h = absurd h
made_none (w ∷ ws) [] h = absurd h
made_none (w ∷ ws) (q ∷ qs) h = λ i. made_one w.amount w.wanted w q refl refl h.0 i || made_none ws qs h.1 i

-- what is balanced stays in range alone
third : (a b c : Bool) (f u : Option Cause) → a ≡ false → cond a f (cond b (Some cause.TwoMissing) (cond c u (Some cause.Range))) ≡ None → c ≡ true
third true b c f u e h = absurd (false≢true (sym e))
third false true c f u e h = absurd (let never : ⊥ = cc in never)
third false false true f u e h = refl
third false false false f u e h = absurd (let never : ⊥ = cc in never)

made_costs : (ws qs : List Posting) → AreMade ws qs → cause_alone qs ≡ None → costs_fit (solved qs) ≡ true
made_costs ws qs made alone =
    solved_costs_fit qs
    (left_true (costs_fit qs) (turnover_fits (moved (solved qs)))
    (third (has_assignment qs) (has_two_missing qs) (fits_alone qs) (assignment_fault qs) (unbalanced_by (unbalanced_sums qs)) (made_none ws qs made) alone))

all_costs : (ws ms : List Txn) → AreMadeTxns ws ms → AllByRecursion (λ t. cause_alone t.postings ≡ None) ms → are_told (map settled ms) ≡ true
all_costs [] [] k b = refl
all_costs [] (m ∷ ms) k b = absurd k
all_costs (w ∷ ws) [] k b = absurd k
all_costs (w ∷ ws) (m ∷ ms) k b = let here = made_costs w.postings m.postings k.0.postings b.0 in λ i. here i && all_costs ws ms k.1 b.1 i

solved_told : (written book : List Txn) → Solves written book → are_told book ≡ true
solved_told written book s = ap are_told s.found ∙ all_costs written s.made s.kept s.balanced

-- the costs of a loaded book
pub book_told : (year : Option ℕ) (text : List ℕ) (items : List Placed) (book : Book) → items_in year text ≡ Ok items → load items ≡ Ok book → are_told book.txns ≡ true
book_told year text items book read loads = solved_told (txns_of items) book.txns (load_solves items book (reads_unmarked year text items read) loads)
