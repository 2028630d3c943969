-- The order of watches: what ties is the same, and how accounts and places come apart in it.
use Rattle.std.proofs.Common.{◌≡◌, ℕ, Bool, true, false, ◌&&◌, ◌||◌, ◌==◌, cond, List, refl, sym, ap, subst, ◌∙◌}
use Rattle.std.specs.Prelude.{nat_lt}
use Rattle.std.specs.declared.cmp.Ordering.{Ordering}
use Rattle.std.specs.declared.cmp.Ordering.TheVariants.{Less, Equal, Greater}
use Rattle.std.specs.Ordering.{nat_cmp, bool_cmp, ordering_then, ordering_reverse, is_eq, is_lt}
use Rattle.std.specs.Cmp.Lexicographic.{slice_cmp}
use Rattle.std.specs.FinMap.{slice_cmp-IsAntisymmetric, nat_cmp-IsAntisymmetric}
use Rattle.std.proofs.lemmas.Bool.{false≢true}
use Rattle.std.proofs.lemmas.Cmp.{alike_right}
use Rattle.watchers.specs.declared.watch.Place.{Place}
use Rattle.watchers.specs.declared.watch.Watch.{Watch}
use Rattle.watchers.specs.Order.{kind_cmp, place_cmp, watch_cmp}
use Rattle.watchers.specs.Totals.{kind_total, place_total, watch_total}
use Rattle.watchers.specs.Reach.{is_before}

pub less≢equal : Less ≡ Equal → ⊥
less≢equal e = cc

pub greater≢equal : Greater ≡ Equal → ⊥
greater≢equal e = cc

pub greater≢less : Greater ≡ Less → ⊥
greater≢less e = cc

pub then_first : (r s : Ordering) → ordering_then r s ≡ Equal → r ≡ Equal
then_first Less s e = e
then_first Equal s e = refl
then_first Greater s e = e

pub then_second : (r s : Ordering) → ordering_then r s ≡ Equal → s ≡ Equal
then_second Less s e = absurd (less≢equal e)
then_second Equal s e = e
then_second Greater s e = absurd (greater≢equal e)

bool-same : (a b : Bool) → bool_cmp a b ≡ Equal → a ≡ b
bool-same true true e = refl
bool-same false false e = refl
bool-same true false e = absurd (greater≢equal e)
bool-same false true e = absurd (less≢equal e)

pub place_same : (a b : Place) → place_cmp a b ≡ Equal → a ≡ b
place_same a b e =
    let day = nat_cmp-IsAntisymmetric a.day.0 b.day.0 (then_first _ _ e) in
    let rest = then_second (nat_cmp a.day.0 b.day.0) _ e in
    let txn = nat_cmp-IsAntisymmetric a.txn b.txn (then_first _ _ rest) in
    let posting = nat_cmp-IsAntisymmetric a.posting b.posting (then_second (nat_cmp a.txn b.txn) _ rest) in
    λ i. record { day = record { 0 = day i }; txn = txn i; posting = posting i }

-- watches that tie are one watch
pub watch_same : (a b : Watch) → watch_cmp a b ≡ Equal → a ≡ b
watch_same a b e =
    let kind = then_first (kind_cmp a.account a.below b) _ e in
    let account = slice_cmp-IsAntisymmetric nat_cmp-IsAntisymmetric a.account b.account (then_first _ _ kind) in
    let below = bool-same a.below b.below (then_second (slice_cmp nat_cmp a.account b.account) _ kind) in
    let place = place_same a.place b.place (then_second (kind_cmp a.account a.below b) _ e) in
    λ i. record { account = account i; below = below i; place = place i }

-- ---- places

pub place_back : (a b : Place) → place_cmp a b ≡ Less → place_cmp b a ≡ Greater
place_back a b p = place_total.antisymm b a ∙ ap ordering_reverse p

-- what is less than a place is less than each that isn't less than that one
pub less-than-more : (w a b : Place) → is_lt (place_cmp w a) ≡ true → is_lt (place_cmp b a) ≡ false → is_lt (place_cmp w b) ≡ true
less-than-more w a b h k =
    elim (place_cmp b a) as (λ r. place_cmp b a ≡ r → is_lt r ≡ false → is_lt (place_cmp w b) ≡ true) [
      | Less ↦ λ e q. absurd (false≢true (sym q))
      | Equal ↦ λ e q. ap is_lt (alike_right place_total b a w e) ∙ h
      | Greater ↦ λ e q. ap is_lt (place_total.trans w a b (is-less (place_cmp w a) h) (place_total.antisymm a b ∙ ap ordering_reverse e))
    ] refl k
  where
    is-less : (r : Ordering) → is_lt r ≡ true → r ≡ Less
    is-less Less q = refl
    is-less Equal q = absurd (false≢true q)
    is-less Greater q = absurd (false≢true q)

pub less-through : (w a b : Place) → is_lt (place_cmp w a) ≡ true → is_lt (place_cmp a b) ≡ true → is_lt (place_cmp w b) ≡ true
less-through w a b h k = ap is_lt (place_total.trans w a b (is-less (place_cmp w a) h) (is-less (place_cmp a b) k))
  where
    is-less : (r : Ordering) → is_lt r ≡ true → r ≡ Less
    is-less Less q = refl
    is-less Equal q = absurd (false≢true q)
    is-less Greater q = absurd (false≢true q)

level : (x y : Bool) (r : Ordering) (s : Bool) → is_lt r ≡ s → is_lt (ordering_then (cond x Less (cond y Equal Greater)) r) ≡ (x || (y && s))
level true y r s h = refl
level false true r s h = h
level false false r s h = refl

last : (x y : Bool) → is_lt (cond x Less (cond y Equal Greater)) ≡ x
last true y = refl
last false true = refl
last false false = refl

-- the order of places is that of a book's
pub before-is : (a b : Place) → is_lt (place_cmp a b) ≡ is_before a b
before-is a b =
    level (nat_lt a.day.0 b.day.0) (a.day.0 == b.day.0) (ordering_then (nat_cmp a.txn b.txn) (nat_cmp a.posting b.posting)) (nat_lt a.txn b.txn || ((a.txn == b.txn) && nat_lt a.posting b.posting))
    (level (nat_lt a.txn b.txn) (a.txn == b.txn) (nat_cmp a.posting b.posting) (nat_lt a.posting b.posting) (last (nat_lt a.posting b.posting) (a.posting == b.posting)))

-- ---- accounts beside places

-- not before a watch: either of another account, or not at an earlier place
pub not-own : (r s : Ordering) → is_lt (ordering_then r s) ≡ false → (is_eq r && is_lt s) ≡ false
not-own Less s h = refl
not-own Equal s h = h
not-own Greater s h = refl

pub place-of-less : (r s : Ordering) → r ≡ Equal → ordering_then r s ≡ Less → s ≡ Less
place-of-less r s e h = sym (ap (λ (x : Ordering). ordering_then x s) e) ∙ h

pub kind-of-less : (r s : Ordering) → is_eq r ≡ false → ordering_then r s ≡ Less → r ≡ Less
kind-of-less Less s e h = refl
kind-of-less Equal s e h = absurd (false≢true (sym e))
kind-of-less Greater s e h = h

pub is-equal : (r : Ordering) → is_eq r ≡ true → r ≡ Equal
is-equal Less q = absurd (false≢true q)
is-equal Equal q = refl
is-equal Greater q = absurd (false≢true q)

abbrev pub kind : Watch → Watch → Ordering
kind a b = kind_cmp a.account a.below b

-- of the same account, and not before a watch of it
pub later-same : (k w y : Watch) → kind k w ≡ Equal → watch_cmp w y ≡ Less → (is_eq (kind k y) && is_lt (place_cmp y.place w.place)) ≡ false
later-same k w y e h =
    elim (is_eq (kind k y)) as (λ b. is_eq (kind k y) ≡ b → (b && is_lt (place_cmp y.place w.place)) ≡ false) [
      | true ↦ λ q.
          let same : kind w y ≡ Equal = sym (kind_total.congr k w y e) ∙ is-equal (kind k y) q in
          ap is_lt (place_back w.place y.place (place-of-less (kind w y) (place_cmp w.place y.place) same h))
      | false ↦ λ q. refl
    ] refl

-- behind a watch of a greater account
pub later-other : (k w y : Watch) → kind k w ≡ Less → watch_cmp w y ≡ Less → is_eq (kind k y) ≡ false
later-other k w y e h =
    elim (kind w y) as (λ r. kind w y ≡ r → ordering_then r (place_cmp w.place y.place) ≡ Less → is_eq (kind k y) ≡ false) [
      | Less ↦ λ q p. ap is_eq (kind_total.trans k w y e q)
      | Equal ↦ λ q p. ap is_eq (sym (alike_right kind_total w y k q) ∙ e)
      | Greater ↦ λ q p. absurd (greater≢less p)
    ] refl h
