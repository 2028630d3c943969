-- What a plain report takes of a book with other lines.
use Rattle.std.proofs.Common.{◌≡◌, ℕ, suc, ◌<◌, List, [], ◌∷◌, ◌++◌, map, refl, sym, subst, ◌∙◌}
use Rattle.std.specs.List.{AllByRecursion}
use Rattle.hl_time.specs.Calendar.{day_end}
use Rattle.book.specs.declared.transaction.Posting.{Posting}
use Rattle.book.specs.declared.transaction.Txn.{Txn}
use Rattle.index_cells.specs.Books.{KeepsBook}
use Rattle.index_cells.specs.Keeps.{Keeps}
use Rattle.index_cells.specs.Names.{NamesOf}
use Rattle.index_cells.specs.Posted.{posted, posted_in}
use Rattle.index_cells.specs.declared.kept.Kept.{Kept}
use Rattle.report_cells.specs.Taken.{Taken}
use Rattle.report_takings.specs.Entries.{Entry, entries_in, entries_of}
use Rattle.moved_lines.specs.Relined.{relined, relined_from, relined_posting, relined_txn}
use Rattle.moved_lines.proofs.Lists.{map-both}

abbrev beside : Txn → Posting → Entry
beside t p = (p, t)

module _ (f : ℕ → ℕ → ℕ) where
  taken-each : (n : ℕ) (t : Txn) (ps : List Posting)
      → map posted (map (beside (relined_txn (f n) t)) (map (relined_posting (f n)) ps)) ≡ map posted (map (beside t) ps)
  taken-each n t [] = refl
  taken-each n t (p ∷ ps) = λ i. posted (beside t p) ∷ taken-each n t ps i

  pub taken-same : (n : ℕ) (ts : List Txn) → posted_in (relined_from f n ts) ≡ posted_in ts
  taken-same n [] = refl
  taken-same n (t ∷ ts) =
      map-both posted (entries_in (relined_txn (f n) t)) (entries_of (relined_from f (suc n) ts))
      ∙ (λ i. taken-each n t t.postings i ++ taken-same (suc n) ts i)
      ∙ sym (map-both posted (entries_in t) (entries_of ts))

  pub keeps-same : (ts : List Txn) (kept : Kept) → KeepsBook ts kept → KeepsBook (relined f ts) kept
  keeps-same ts kept h =
      let same : posted_in ts ≡ posted_in (relined f ts) = sym (taken-same 0 ts) in
      record {
        keeps = subst (λ (xs : List Taken). Keeps xs kept) same h.keeps;
        dated = subst (λ (xs : List Taken). AllByRecursion (λ (x : Taken). x.day < day_end) xs) same h.dated;
        names = subst (λ (xs : List Taken). NamesOf xs kept) same h.names;
      }
