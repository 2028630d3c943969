-- What accounts hold after a closing entry and an opening one.
use Rattle.std.proofs.Common.{◌≡◌, ℕ, ℤ, pos, ◌+◌, ◌+ℤ◌, neg_ℤ, Bool, true, false, not, ◌&&◌, cond, List, [], ◌∷◌, ◌++◌, map, filter, codes, Option, refl, sym, ap, subst, ◌∙◌, arith}
use Rattle.std.specs.Str.{bytes_eq}
use Rattle.std.proofs.lemmas.Bool.{false≢true}
use Rattle.std.proofs.lemmas.Cmp.{nat_list_eq_equiv}
use Rattle.std.proofs.lemmas.Int.{ints}
use Rattle.std.proofs.lemmas.List.{append-nil}
use Rattle.std.proofs.lemmas.List.Concat.{flat_map-append}
use Rattle.std.proofs.lemmas.List.Elements.{filter-append}
use Rattle.book.specs.Postings.{postings_of}
use Rattle.book.specs.Style.{style_of}
use Rattle.book.specs.Sums.{share, sum_of, of_account}
use Rattle.book.specs.declared.transaction.Posting.{Posting}
use Rattle.book.specs.declared.transaction.Txn.{Txn}
use Rattle.book_care.specs.Asked.{Asked, is_meant, is_named, named_postings}
use Rattle.book_care.specs.Balances.{balance, AreEmpty, IsKept, IsEven, Close, Settles}
use Rattle.book_care.specs.Entries.{Writing, entry_on, entries_with, made, posted_from}
use Rattle.book_care.specs.Lines.{Moved, closing_lines, all_closed, taken_into, opposite}
use Rattle.book_care.proofs.Summing.{lines_at, posted_at, posted_in, lines_at-append, lines_at-opposite, lines_in-opposite, held_in, all_closed_at, taken_into_at, closing_even}
use Rattle.book_care.proofs.Totals.{same_text, zero_left, zero_right}

sum_of-append : (s : List ℕ) (xs ys : List Posting) → sum_of s (xs ++ ys) ≡ sum_of s xs +ℤ sum_of s ys
sum_of-append s [] ys = sym (zero_left (sum_of s ys))
sum_of-append s (p ∷ xs) ys =
    ap (λ z. share s p.amount +ℤ z) (sum_of-append s xs ys) ∙ grouped (share s p.amount) (sum_of s xs) (sum_of s ys)
  where
    grouped : (x y z : ℤ) → x +ℤ (y +ℤ z) ≡ (x +ℤ y) +ℤ z
    grouped x y z = omega (arith, ints)

held_in-append : (a s : List ℕ) (xs ys : List Posting) → held_in (xs ++ ys) s a ≡ held_in xs s a +ℤ held_in ys s a
held_in-append a s xs ys =
    ap (sum_of s) (filter-append (λ (p : Posting). bytes_eq p.account a) xs ys)
    ∙ sum_of-append s (of_account a xs) (of_account a ys)

balance-append : (a s : List ℕ) (txns more : List Txn) → balance a s (txns ++ more) ≡ balance a s txns +ℤ held_in (postings_of more) s a
balance-append a s txns more =
    ap (λ ps. held_in ps s a) (flat_map-append (λ (t : Txn). t.postings) txns more)
    ∙ held_in-append a s (postings_of txns) (postings_of more)

-- the postings of a named account are all kept
module _ (test : List ℕ → Bool) (a : List ℕ) (named : test a ≡ true) where
  other_name : (name : List ℕ) → test name ≡ false → bytes_eq name a ≡ false
  other_name name unnamed = by (bytes_eq name a) refl
    where
      by : (b : Bool) → bytes_eq name a ≡ b → b ≡ false
      by true e = absurd (false≢true (sym unnamed ∙ ap test (same_text name a e) ∙ named))
      by false e = refl

  all_of : (ps : List Posting) → of_account a (filter (λ (p : Posting). test p.account) ps) ≡ of_account a ps
  all_of [] = refl
  all_of (p ∷ ps) =
      let rest = filter (λ (q : Posting). test q.account) ps in
      elim (test p.account) as (λ t. test p.account ≡ t → of_account a (cond t (p ∷ rest) rest) ≡ cond (bytes_eq p.account a) (p ∷ of_account a ps) (of_account a ps)) [
        | true ↦ λ e. ap (λ l. cond (bytes_eq p.account a) (p ∷ l) l) (all_of ps)
        | false ↦ λ e. all_of ps ∙ sym (ap (λ b. cond b (p ∷ of_account a ps) (of_account a ps)) (other_name p.account e))
      ] refl

module _ (asked : Asked) where
  -- what the named accounts hold is taken away
  closing_at : (a s : List ℕ) → is_named asked a ≡ true → lines_at a s (closing_lines asked) ≡ neg_ℤ (balance a s asked.txns)
  closing_at a s named =
      lines_at-append a s (all_closed (named_postings asked)) (taken_into asked.into (named_postings asked))
      ∙ ap (λ z. z +ℤ lines_at a s (taken_into asked.into (named_postings asked))) (all_closed_at a s (named_postings asked) ∙ ap (λ ps. neg_ℤ (sum_of s ps)) (all_of (is_named asked) a named (postings_of asked.txns)))
      ∙ ap (λ z. neg_ℤ (balance a s asked.txns) +ℤ z) (taken_into_at a s asked.into (named_postings asked) (nat_list_eq_equiv.symm asked.into a ∙ not_into (bytes_eq a asked.into) (is_meant asked a) named))
      ∙ zero_right (neg_ℤ (balance a s asked.txns))
    where
      not_into : (b c : Bool) → (not b && c) ≡ true → b ≡ false
      not_into true c e = absurd (false≢true e)
      not_into false c e = refl

  gone : (z : ℤ) → z +ℤ neg_ℤ z ≡ pos 0
  gone z = omega (arith, ints)

  back_again : (z x : ℤ) → z +ℤ (x +ℤ neg_ℤ x) ≡ z
  back_again z x = omega (arith, ints)

  module _ (styles : Writing) (on : ℕ) (first second : List ℕ) where
    -- the closing entry of these lines, and the opening one
    abbrev closing : Txn
    closing = entry_on styles on first (closing_lines asked)

    abbrev opening : Txn
    opening = entry_on styles (on + 1) second (map opposite (closing_lines asked))

    emptied : AreEmpty asked (asked.txns ++ closing ∷ [])
    emptied = λ a s named.
        balance-append a s asked.txns (closing ∷ [])
        ∙ ap (λ z. balance a s asked.txns +ℤ z) (ap (λ ps. held_in ps s a) (append-nil (posted_from styles 2 (closing_lines asked))) ∙ posted_at styles a s 2 (closing_lines asked) ∙ closing_at a s named)
        ∙ gone (balance a s asked.txns)

    restored : IsKept asked.txns (closing ∷ opening ∷ [])
    restored = λ a s.
        balance-append a s asked.txns (closing ∷ opening ∷ [])
        ∙ ap (λ z. balance a s asked.txns +ℤ z)
        (held_in-append a s (posted_from styles 2 (closing_lines asked)) (posted_from styles 2 (map opposite (closing_lines asked)) ++ [])
        ∙ ap (λ ps. held_in (posted_from styles 2 (closing_lines asked)) s a +ℤ held_in ps s a) (append-nil (posted_from styles 2 (map opposite (closing_lines asked))))
        ∙ (λ k. posted_at styles a s 2 (closing_lines asked) k +ℤ (posted_at styles a s 2 (map opposite (closing_lines asked)) ∙ lines_at-opposite a s (closing_lines asked)) k))
        ∙ back_again (balance a s asked.txns) (lines_at a s (closing_lines asked))

    even_closing : IsEven closing
    even_closing = λ s. posted_in styles s 2 (closing_lines asked) ∙ closing_even s asked.into (named_postings asked)

    even_opening : IsEven opening
    even_opening = λ s.
        posted_in styles s 2 (map opposite (closing_lines asked))
        ∙ lines_in-opposite s (closing_lines asked)
        ∙ ap neg_ℤ (closing_even s asked.into (named_postings asked))

    closes : Close asked (closing, opening)
    closes = record { emptied = emptied; restored = restored; even_closing = even_closing; even_opening = even_opening }

  nothing_held : closing_lines asked ≡ [] → AreEmpty asked asked.txns
  nothing_held none = λ a s named.
      let away : neg_ℤ (balance a s asked.txns) ≡ pos 0 = sym (closing_at a s named) ∙ ap (lines_at a s) none in
      turned_zero (balance a s asked.txns) away
    where
      turned_zero : (z : ℤ) → neg_ℤ z ≡ pos 0 → z ≡ pos 0
      turned_zero z e = omega (arith, ints, e)

  settled : (styles : Writing) (lines : List Moved) → lines ≡ closing_lines asked → Settles asked (entries_with styles asked.on lines)
  settled styles [] is = nothing_held (sym is)
  settled styles (moved ∷ more) is =
      subst (λ (lines : List Moved). Close asked (entry_on styles asked.on (codes "closing") lines, entry_on styles (asked.on + 1) (codes "opening") (map opposite lines))) (sym is)
      (closes styles asked.on (codes "closing") (codes "opening"))

  -- the entries that are made settle the accounts
  pub settles : (entries : Option (Txn × Txn)) → entries ≡ made asked → Settles asked entries
  settles entries is = subst (Settles asked) (sym is) (settled (style_of asked.items) (closing_lines asked) refl)
