-- Watches of transactions with other lines.
use Rattle.std.proofs.Common.{◌≡◌, ℕ, suc, List, [], ◌∷◌, ◌++◌, Option, Some, None, refl, sym, ap, subst, ◌∙◌}
use Rattle.std.specs.List.{flat_map}
use Rattle.book.specs.Standing.{Numbered}
use Rattle.book.specs.SumsBefore.{placed_in}
use Rattle.book.specs.declared.amount.Assertion.{Assertion}
use Rattle.book.specs.declared.transaction.Posting.{Posting}
use Rattle.book.specs.declared.transaction.Txn.{Txn}
use Rattle.moved_lines.specs.Relined.{relined, relined_at, relined_from, relined_posting, relined_txn}
use Rattle.moved_lines.proofs.Lists.{flat-same}
use Rattle.moved_lines.proofs.Placing.{placed_in-moved}
use Rattle.watchers.specs.Watches.{is_among, numbered_from, placed_at, watch_at, watch_if, watches_in, watches_of, AreOf}
use Rattle.watchers.specs.declared.watch.Place.{Place}
use Rattle.watchers.specs.declared.watch.Watch.{Watch}
use Rattle.book_laws.specs.Lines.{relined_under}

watch-same : (g : ℕ → ℕ) (place : Place) (p : Posting) (o : Option Assertion) → watch_if place (relined_posting g p) o ≡ watch_if place p o
watch-same g place p None = refl
watch-same g place p (Some w) = refl

module _ (f : ℕ → ℕ → ℕ) where
  watches-in : (n : ℕ) (t : Txn) → watches_in n (relined_txn (f n) t) ≡ watches_in n t
  watches-in n t =
      ap (flat_map watch_at) (placed_in-moved f t n 0 t.postings)
      ∙ flat-same (relined_at f) watch_at (λ e. watch-same (f e.0.txn) (placed_at e.0) e.1 e.1.wanted) (placed_in t n 0 t.postings)

  pub watches-same : (standing : Numbered Txn) → watches_of (relined_under f standing) ≡ watches_of standing
  watches-same [] = refl
  watches-same (e ∷ standing) = λ i. watches-in e.0 e.1 i ++ watches-same standing i

  pub are-of : (standing : Numbered Txn) (watches : List Watch) → AreOf standing watches → AreOf (relined_under f standing) watches
  are-of standing watches h = record { same = λ w. h.same w ∙ ap (is_among w) (sym (watches-same standing)) }

  pub numbered-same : (n : ℕ) (ts : List Txn) → numbered_from n (relined_from f n ts) ≡ relined_under f (numbered_from n ts)
  numbered-same n [] = refl
  numbered-same n (t ∷ ts) = λ i. (n, relined_txn (f n) t) ∷ numbered-same (suc n) ts i

  -- the watches of a text are those of the text with other lines
  pub text-of : (ts : List Txn) (watches : List Watch) → AreOf (numbered_from 0 ts) watches → AreOf (numbered_from 0 (relined f ts)) watches
  text-of ts watches h = subst (λ (standing : Numbered Txn). AreOf standing watches) (sym (numbered-same 0 ts)) (are-of (numbered_from 0 ts) watches h)
