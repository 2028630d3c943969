-- Postings that are made of lines, one after another.
use Rattle.std.proofs.Common.{◌≡◌, ◌≢◌, ℕ, suc, ◌+◌, ◌<◌, ◌≤◌, List, [], ◌∷◌, ◌++◌, length, get_or, drop, map, codes, Some, refl, sym, ap, ◌∙◌, append_assoc, arith}
use Rattle.std.proofs.lemmas.List.{append-nil, drop_all}
use Rattle.book.specs.Style.{style_of}
use Rattle.book.specs.Styles.{style_in}
use Rattle.book.specs.declared.item.Placed.{Placed}
use Rattle.book.specs.declared.style.Styles.{Styles}
use Rattle.book.specs.declared.transaction.Posting.{Posting}
use Rattle.query_terms.proofs.Walks.{left_here}
use Rattle.book_care.specs.Entries.{posted, posted_from, entry_on, entries_with}
use Rattle.book_care.specs.Lines.{Moved, opposite}

module _ (styles : Styles) (lines : List Moved) (i number : ℕ) (whole out : List Posting) (so_far : whole ≡ out ++ posted_from (style_in styles) number (drop i lines)) where
  pub posted_more : (moved : Moved) (next : ℕ) (p : Posting) (now : List Posting) → i < length lines → moved ≡ get_or lines i moved → p ≡ posted (style_in styles) number moved → now ≡ out ++ p ∷ [] → next ≡ number + 1 → whole ≡ now ++ posted_from (style_in styles) next (drop (i + 1) lines)
  posted_more moved next p now lt is made pushed step =
      let after : suc number ≡ next = omega (arith, step) in
      so_far
      ∙ ap (λ l. out ++ posted_from (style_in styles) number l) (left_here lines i moved lt is)
      ∙ sym (append_assoc out (posted (style_in styles) number moved ∷ []) (posted_from (style_in styles) (suc number) (drop (i + 1) lines)))
      ∙ ap (λ q. (out ++ q ∷ []) ++ posted_from (style_in styles) (suc number) (drop (i + 1) lines)) (sym made)
      ∙ ap (λ l. l ++ posted_from (style_in styles) (suc number) (drop (i + 1) lines)) (sym pushed)
      ∙ ap (λ n. now ++ posted_from (style_in styles) n (drop (i + 1) lines)) after

  pub posted_all : length lines ≤ i → out ≡ whole
  posted_all le = sym (so_far ∙ ap (λ l. out ++ posted_from (style_in styles) number l) (drop_all i lines le) ∙ append-nil out)

-- two entries, where there are lines
pub two_entries : (styles : Styles) (items : List Placed) (on : ℕ) (lines : List Moved) → ((symbol : List ℕ) → style_in styles symbol ≡ style_of items symbol) → lines ≢ [] → Some (entry_on (style_in styles) on (codes "closing") lines, entry_on (style_in styles) (on + 1) (codes "opening") (map opposite lines)) ≡ entries_with (style_of items) on lines
two_entries styles items on [] same some = absurd (some refl)
two_entries styles items on (moved ∷ lines) same some =
    λ k. Some (entry_on (λ symbol. same symbol k) on (codes "closing") (moved ∷ lines), entry_on (λ symbol. same symbol k) (on + 1) (codes "opening") (map opposite (moved ∷ lines)))
