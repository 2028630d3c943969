-- Names in their order, each once.
use Rattle.std.proofs.Common.{◌≡◌, ℕ, zero, suc, ◌+◌, ◌-◌, ◌<◌, Bool, true, false, ◌&&◌, List, [], ◌∷◌, length, get_or, drop, refl, sym, ap, ◌∙◌, arith, drop-cons}
use Rattle.std.specs.declared.cmp.Ordering.{Ordering}
use Rattle.std.specs.declared.cmp.Ordering.TheVariants.{Less, Equal, Greater}
use Rattle.std.specs.Ordering.{is_lt, match_ordering}
use Rattle.std.specs.BTreeSet.{insert_key}
use Rattle.std.proofs.lemmas.Bool.{false≢true}
use Rattle.book.specs.Order.{each_once}
use Rattle.journal_printer.specs.Order.{Name, name_cmp, is_rising, rises_from}

less : (o : Ordering) → is_lt o ≡ true → o ≡ Less
less Less h = refl
less Equal h = absurd (false≢true h)
less Greater h = absurd (false≢true h)

left_true : (a b : Bool) → (a && b) ≡ true → a ≡ true
left_true true b h = refl
left_true false b h = h

right_true : (a b : Bool) → (a && b) ≡ true → b ≡ true
right_true true b h = h
right_true false b h = absurd (false≢true h)

rising-from : (a : Name) (names : List Name) → rises_from a names ≡ true → each_once name_cmp (a ∷ names) ≡ a ∷ names
rising-from a [] h = refl
rising-from a (b ∷ names) h =
    ap (λ (xs : List Name). insert_key name_cmp xs a) (rising-from b names (right_true (is_lt (name_cmp a b)) (rises_from b names) h))
    ∙ ap (λ (o : Ordering). match_ordering o (a ∷ b ∷ names) (b ∷ names) (b ∷ insert_key name_cmp names a)) (less (name_cmp a b) (left_true (is_lt (name_cmp a b)) (rises_from b names) h))

-- names that rise are in their order already
pub rising-is : (names : List Name) → is_rising names ≡ true → names ≡ each_once name_cmp names
rising-is [] h = refl
rising-is (a ∷ names) h = sym (rising-from a names h)

-- one more name from the back
pub sorted-more : (names : List Name) (back : ℕ) (d : Name) → back < length names → each_once name_cmp (drop (length names - (back + 1)) names) ≡ insert_key name_cmp (each_once name_cmp (drop (length names - back) names)) (get_or names (length names - 1 - back) d)
sorted-more names back d h =
    let at : length names - (back + 1) ≡ length names - 1 - back = omega arith in
    let next : suc (length names - 1 - back) ≡ length names - back = omega arith in
    ap (λ i. each_once name_cmp (drop i names)) at ∙ ap (each_once name_cmp) (drop-cons names (length names - 1 - back) d (omega arith))
    ∙ ap (λ i. insert_key name_cmp (each_once name_cmp (drop i names)) (get_or names (length names - 1 - back) d)) next

-- an element that is there is the same by any default
pub any_default : (names : List Name) (i : ℕ) (d e : Name) → i < length names → get_or names i d ≡ get_or names i e
any_default [] i d e h = absurd (omega arith)
any_default (a ∷ names) zero d e h = refl
any_default (a ∷ names) (suc i) d e h = any_default names i d e (omega arith)
