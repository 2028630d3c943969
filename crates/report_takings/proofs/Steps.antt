-- Folds over a list that is walked item by item.
use Rattle.std.proofs.Common.{◌≡◌, ℕ, ◌+◌, ◌<◌, ◌≤◌, List, length, get_or, drop, sym, ap, ◌∙◌}
use Rattle.std.specs.List.{fold}
use Rattle.std.proofs.lemmas.List.{drop_all}
use Rattle.query_terms.proofs.Walks.{left_here}

module _ {A B : Type 0} (f : B → A → B) (xs : List A) (i : ℕ) (a whole : B) where
  -- an item is taken in
  pub fold_more : (x : A) → i < length xs → x ≡ get_or xs i x → whole ≡ fold f a (drop i xs) → whole ≡ fold f (f a x) (drop (i + 1) xs)
  fold_more x lt is e = e ∙ ap (fold f a) (left_here xs i x lt is)

  -- all are
  pub fold_all : length xs ≤ i → whole ≡ fold f a (drop i xs) → a ≡ whole
  fold_all le e = sym (e ∙ ap (fold f a) (drop_all i xs le))
