-- What the postings move that are kept transaction by transaction.
use Rattle.std.proofs.Common.{◌≡◌, ℕ, true, false, not, ◌&&◌, cond, List, [], ◌∷◌, ◌++◌, map, filter, refl, sym, ap, ◌∙◌}
use Rattle.std.specs.List.{flat_map}
use Rattle.std.specs.Str.{bytes_eq}
use Rattle.std.proofs.lemmas.List.Elements.{filter-append}
use Rattle.book.specs.Postings.{postings_of}
use Rattle.book.specs.declared.transaction.Posting.{Posting}
use Rattle.book.specs.declared.transaction.Txn.{Txn}
use Rattle.book_care.specs.Asked.{Asked, is_meant, named_postings}
use Rattle.book_care.specs.Kept.{taken, is_kept, kept_of, kept_in}
use Rattle.book_care.specs.Names.{has}
use Rattle.book_care.specs.declared.names.Names.{Names}

map-append : {A B : Type 0} (f : A → B) (xs ys : List A) → map f (xs ++ ys) ≡ map f xs ++ map f ys
map-append f [] ys = refl
map-append f (x ∷ xs) ys = ap (λ l. f x ∷ l) (map-append f xs ys)

module _ (names : Names) (into : List ℕ) where
  one_txn : (ps : List Posting) → flat_map (kept_of names into) ps ≡ map taken (filter (is_kept names into) ps)
  one_txn [] = refl
  one_txn (p ∷ ps) =
      elim (is_kept names into p) as (λ b. map taken (cond b (p ∷ []) []) ++ flat_map (kept_of names into) ps ≡ map taken (cond b (p ∷ filter (is_kept names into) ps) (filter (is_kept names into) ps))) [
        | true ↦ ap (λ l. taken p ∷ l) (one_txn ps)
        | false ↦ one_txn ps
      ]

  kept_are : (ts : List Txn) → flat_map (kept_in names into) ts ≡ map taken (filter (is_kept names into) (postings_of ts))
  kept_are [] = refl
  kept_are (t ∷ ts) =
      ap (λ l. l ++ flat_map (kept_in names into) ts) (one_txn t.postings)
      ∙ ap (λ l. map taken (filter (is_kept names into) t.postings) ++ l) (kept_are ts)
      ∙ sym (map-append taken (filter (is_kept names into) t.postings) (filter (is_kept names into) (postings_of ts)))
      ∙ ap (map taken) (sym (filter-append (is_kept names into) t.postings (postings_of ts)))

-- the names are those of the accounts that are meant
pub all_kept : (names : Names) (asked : Asked) → ((q : List ℕ) → has names q ≡ is_meant asked q) → flat_map (kept_in names asked.into) asked.txns ≡ map taken (named_postings asked)
all_kept names asked meant =
    kept_are names asked.into asked.txns
    ∙ (λ k. map taken (filter (λ (p : Posting). not (bytes_eq p.account asked.into) && meant p.account k) (postings_of asked.txns)))
