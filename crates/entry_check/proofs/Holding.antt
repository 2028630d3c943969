-- What accounts hold before a transaction and after some of its postings.
use Rattle.std.proofs.Common.{◌≡◌, ℕ, Bool, false, List, [], ◌∷◌, sym, ap, ◌∙◌}
use Rattle.std.specs.List.{fold}
use Rattle.std.proofs.lemmas.Bool.{false≢true}
use Rattle.hl_num.specs.Decimal.{Decimal, add_fits}
use Rattle.book.specs.declared.transaction.Posting.{Posting}
use Rattle.book.specs.Mixed.{plus}
use Rattle.entry_balance.specs.Tally.{no_sum, total_of, turnover_fits}
use Rattle.entry_balance.specs.Entry.{moved}
use Rattle.entry_balance.proofs.Adding.{false-from}
use Rattle.entry_balance.proofs.Covers.{covered-fits, covers_same, covers_both}
use Rattle.entry_balance.proofs.Turnover.{numbers-here, plus_none}
use Rattle.assertions.specs.Assertions.{held_in}
use Rattle.assertions.proofs.Balanced.{covers_held}
use Rattle.balancing.proofs.Adding.{total-append, sums_fit}
use Rattle.entry_check.specs.Checked.{Told, held_after}

one_value : (s : List ℕ) (d : Decimal) → total_of s ((s, d) ∷ []) ≡ d
one_value s d = ap (fold plus no_sum) (numbers-here s d []) ∙ plus_none d

module _ (told : Told) (below : Bool) (account symbol : List ℕ) (done : List Posting) where
  -- what was held before and by the postings
  pub held_total : (before so_far : Decimal) → before ≡ told below account symbol → so_far ≡ total_of symbol (held_in below account done) → plus before so_far ≡ total_of symbol (held_after told below account symbol done)
  held_total before so_far is_before is_so_far =
      (λ i. plus (is_before i) (is_so_far i))
      ∙ ap (λ (d : Decimal). plus d (total_of symbol (held_in below account done))) (sym (one_value symbol (told below account symbol)))
      ∙ sym (total-append symbol ((symbol, told below account symbol) ∷ []) (held_in below account done))

  pub held_range : (before so_far : Decimal) → before ≡ told below account symbol → so_far ≡ total_of symbol (held_in below account done) → add_fits before so_far ≡ false → turnover_fits (held_after told below account symbol done) ≡ false
  held_range before so_far is_before is_so_far differs = false-from _ (λ fits. false≢true (sym differs ∙ (λ i. add_fits (is_before i) (is_so_far i))
      ∙ ap (λ (d : Decimal). add_fits d (total_of symbol (held_in below account done))) (sym (one_value symbol (told below account symbol)))
      ∙ sums_fit symbol ((symbol, told below account symbol) ∷ []) (held_in below account done) fits))

  -- the sum is out of range, so it is beside all that is moved
  pub held_beyond : turnover_fits (held_after told below account symbol done) ≡ false → turnover_fits ((symbol, told below account symbol) ∷ moved done) ≡ false
  held_beyond range = false-from _ (λ fits. false≢true (sym range ∙ covered-fits ((symbol, told below account symbol) ∷ moved done) (held_after told below account symbol done)
      (covers_both ((symbol, told below account symbol) ∷ []) ((symbol, told below account symbol) ∷ []) (held_in below account done) (moved done) (covers_same ((symbol, told below account symbol) ∷ [])) (covers_held below account done)) fits))
