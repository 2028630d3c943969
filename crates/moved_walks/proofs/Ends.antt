-- The end of a book with other lines.
use Rattle.std.proofs.Common.{◌≡◌, ℕ, suc, max, Bool, List, [], ◌∷◌, refl, sym, ap, subst, ◌∙◌}
use Rattle.std.specs.List.{fold, list_any}
use Rattle.book.specs.Postings.{postings_of}
use Rattle.book.specs.SumsBefore.{is_assigned}
use Rattle.book.specs.declared.transaction.Posting.{Posting}
use Rattle.book.specs.declared.transaction.Txn.{Txn}
use Rattle.additions.specs.Asked.{asked_on, asked_through, has_assigned, last_asked}
use Rattle.additions.specs.Kept.{IsBookEnd}
use Rattle.additions.specs.declared.book_end.BookEnd.{BookEnd}
use Rattle.moved_lines.specs.Moving.{line_from, moved_from}
use Rattle.moved_lines.specs.Relined.{relined, relined_from, relined_posting}
use Rattle.moved_lines.specs.declared.shift.Shift.{Shift}
use Rattle.moved_lines.proofs.Lists.{any-same, fold-same}
use Rattle.moved_lines.proofs.Numbering.{moved-is}
use Rattle.book_laws.specs.Lines.{unlined}
use Rattle.book_laws.proofs.Lined.{seen-same, turnover-same}

module _ (f : ℕ → ℕ → ℕ) where
  last-from : (last n : ℕ) (ts : List Txn) → fold asked_through last (relined_from f n ts) ≡ fold asked_through last ts
  last-from last n [] = refl
  last-from last n (t ∷ ts) =
      ap (λ (l : ℕ). fold asked_through l (relined_from f (suc n) ts)) (fold-same (relined_posting (f n)) (λ (l : ℕ) (p : Posting). max l (asked_on t p)) (λ l p. refl) last t.postings)
      ∙ last-from (asked_through last t) (suc n) ts

  pub last-same : (ts : List Txn) → last_asked (relined f ts) ≡ last_asked ts
  last-same ts = last-from 0 0 ts

  pub assigned-same : (ts : List Txn) → has_assigned (relined f ts) ≡ has_assigned ts
  assigned-same ts = seen-same f (λ (ps : List Posting). list_any is_assigned ps) (λ ps. any-same unlined is_assigned (λ p. refl) ps) 0 ts

  pub end-same : (ts : List Txn) (b : BookEnd) → IsBookEnd ts b → IsBookEnd (relined f ts) b
  end-same ts b h = record {
    asked = h.asked ∙ sym (last-same ts);
    assigned = h.assigned ∙ sym (assigned-same ts);
    moves = turnover-same f ts b.turnover h.moves;
  }

pub end-moved : (n : ℕ) (by : Shift) (ts : List Txn) (b : BookEnd) → IsBookEnd ts b → IsBookEnd (moved_from n by ts) b
end-moved n by ts b h = subst (λ (bs : List Txn). IsBookEnd bs b) (sym (moved-is n by ts)) (end-same (line_from n by) ts b h)
