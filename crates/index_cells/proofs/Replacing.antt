-- The exchanges that edits of a book make.
use Rattle.std.proofs.Common.{◌≡◌, ℕ, ℤ, pos, zero, suc, ◌<◌, ◌+ℤ◌, List, [], ◌∷◌, ◌++◌, map, length, get_or, set, refl, sym, ap, subst, ◌∙◌, arith}
use Rattle.std.proofs.lemmas.Int.{ints}
use Rattle.std.proofs.lemmas.List.{append_assoc, map-append}
use Rattle.book.specs.declared.transaction.Txn.{Txn}
use Rattle.report_cells.specs.Bounds.{TurnoverFits}
use Rattle.report_cells.specs.Taken.{Taken}
use Rattle.report_takings.specs.Entries.{Entry, entries_in, entries_of}
use Rattle.index_cells.specs.Exchange.{weighed, CanChange, IsExchange}
use Rattle.index_cells.specs.Keeps.{Keeps}
use Rattle.index_cells.specs.Posted.{posted, posted_in}
use Rattle.index_cells.specs.declared.kept.Kept.{Kept}

weighed-append : (weight : Taken → ℤ) (a b : List Taken) → weighed weight (a ++ b) ≡ weighed weight a +ℤ weighed weight b
weighed-append weight [] b = omega (arith, ints)
weighed-append weight (t ∷ a) b = omega (arith, ints, weighed-append weight a b)

entries-append : (a b : List Txn) → entries_of (a ++ b) ≡ entries_of a ++ entries_of b
entries-append [] b = refl
entries-append (t ∷ a) b = ap (λ (es : List Entry). entries_in t ++ es) (entries-append a b) ∙ sym (append_assoc (entries_in t) (entries_of a) (entries_of b))

pub posted-append : (a b : List Txn) → posted_in (a ++ b) ≡ posted_in a ++ posted_in b
posted-append a b = ap (map posted) (entries-append a b) ∙ map-append posted (entries_of a) (entries_of b)

weighs : (weight : Taken → ℤ) (a b : List Txn) → weighed weight (posted_in (a ++ b)) ≡ weighed weight (posted_in a) +ℤ weighed weight (posted_in b)
weighs weight a b = ap (weighed weight) (posted-append a b) ∙ weighed-append weight (posted_in a) (posted_in b)

-- Some transactions in the middle of a book give way to others.
pub in_middle : (front gone back more : List Txn) → IsExchange (posted_in (front ++ (gone ++ back))) (posted_in gone) (posted_in more) (posted_in (front ++ (more ++ back)))
in_middle front gone back more = λ weight.
    swapped (weighed weight (posted_in front)) (weighed weight (posted_in gone)) (weighed weight (posted_in back)) (weighed weight (posted_in more)) _ _ _ _
    (weighs weight front (more ++ back)) (weighs weight more back) (weighs weight front (gone ++ back)) (weighs weight gone back)
  where
    swapped : (f g b m fmb mb fgb gb : ℤ) → fmb ≡ f +ℤ mb → mb ≡ m +ℤ b → fgb ≡ f +ℤ gb → gb ≡ g +ℤ b → fmb +ℤ g ≡ fgb +ℤ m
    swapped f g b m fmb mb fgb gb h1 h2 h3 h4 = omega (arith, ints, h1, h2, h3, h4)

-- Transactions are put behind a book.
pub put_behind : (txns more : List Txn) → IsExchange (posted_in txns) (posted_in []) (posted_in more) (posted_in (txns ++ more))
put_behind txns more = λ weight.
    nothing_gone (weighed weight (posted_in txns)) (weighed weight (posted_in more)) _ (weighs weight txns more)
  where
    nothing_gone : (t m tm : ℤ) → tm ≡ t +ℤ m → tm +ℤ pos 0 ≡ t +ℤ m
    nothing_gone t m tm h = omega (arith, ints, h)

-- what is kept of a book can so become what is kept of it with more behind it
pub can_put : (kept : Kept) (txns more all : List Txn) → all ≡ txns ++ more → Keeps (posted_in txns) kept → TurnoverFits (posted_in all) → CanChange kept txns [] more all
can_put kept txns more all is keeps fits = record {
  keeps = keeps;
  exchange = subst (λ (after : List Txn). IsExchange (posted_in txns) (posted_in []) (posted_in more) (posted_in after)) (sym is) (put_behind txns more);
  fits = fits;
}

-- Transactions behind a book are gone.
pub taken_behind : (txns gone : List Txn) → IsExchange (posted_in (txns ++ gone)) (posted_in gone) (posted_in []) (posted_in txns)
taken_behind txns gone = λ weight.
    put_back (weighed weight (posted_in txns)) (weighed weight (posted_in gone)) _ (weighs weight txns gone)
  where
    put_back : (t g tg : ℤ) → tg ≡ t +ℤ g → t +ℤ g ≡ tg +ℤ pos 0
    put_back t g tg h = omega (arith, ints, h)

pub can_take : (kept : Kept) (txns gone all : List Txn) → all ≡ txns ++ gone → Keeps (posted_in all) kept → TurnoverFits (posted_in txns) → CanChange kept all gone [] txns
can_take kept txns gone all is keeps fits = record {
  keeps = keeps;
  exchange = subst (λ (before : List Txn). IsExchange (posted_in before) (posted_in gone) (posted_in []) (posted_in txns)) (sym is) (taken_behind txns gone);
  fits = fits;
}

-- The n-th transaction of a book gives way to another.
pub put_at : (txns : List Txn) (n : ℕ) (old new : Txn) → n < length txns → old ≡ get_or txns n old → IsExchange (posted_in txns) (posted_in (old ∷ [])) (posted_in (new ∷ [])) (posted_in (set txns n new))
put_at [] n old new lt is = absurd (omega (arith, lt))
put_at (t ∷ txns) zero old new lt is = λ weight.
    swapped (weighed weight (posted_in (t ∷ []))) (weighed weight (posted_in (old ∷ []))) (weighed weight (posted_in (new ∷ []))) (weighed weight (posted_in txns)) _ _
    (weighs weight (t ∷ []) txns) (weighs weight (new ∷ []) txns) (ap (λ (x : Txn). weighed weight (posted_in (x ∷ []))) is)
  where
    swapped : (t o n r tr nr : ℤ) → tr ≡ t +ℤ r → nr ≡ n +ℤ r → o ≡ t → nr +ℤ o ≡ tr +ℤ n
    swapped t o n r tr nr h1 h2 same = omega (arith, ints, h1, h2, same)
put_at (t ∷ txns) (suc n) old new lt is = λ weight.
    further (weighed weight (posted_in (t ∷ []))) (weighed weight (posted_in (old ∷ []))) (weighed weight (posted_in (new ∷ []))) (weighed weight (posted_in txns)) (weighed weight (posted_in (set txns n new))) _ _
    (weighs weight (t ∷ []) txns) (weighs weight (t ∷ []) (set txns n new)) (put_at txns n old new (omega (arith, lt)) is weight)
  where
    further : (t o n r s tr ts : ℤ) → tr ≡ t +ℤ r → ts ≡ t +ℤ s → s +ℤ o ≡ r +ℤ n → ts +ℤ o ≡ tr +ℤ n
    further t o n r s tr ts h1 h2 rest = omega (arith, ints, h1, h2, rest)

pub can_set : (kept : Kept) (txns : List Txn) (n : ℕ) (old new : Txn) → n < length txns → old ≡ get_or txns n old → Keeps (posted_in txns) kept → TurnoverFits (posted_in (set txns n new)) → CanChange kept txns (old ∷ []) (new ∷ []) (set txns n new)
can_set kept txns n old new lt is keeps fits = record { keeps = keeps; exchange = put_at txns n old new lt is; fits = fits }
