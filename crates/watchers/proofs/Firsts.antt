-- The first place of a watch that passes a test.
use Rattle.std.proofs.Common.{◌≡◌, ℕ, ◌+◌, ◌<◌, Bool, true, false, ◌&&◌, ◌||◌, ◌==◌, cond, List, [], ◌∷◌, Option, Some, None, length, find, refl, sym, ap, subst, ◌∙◌}
use Rattle.std.specs.declared.cmp.Ordering.{Ordering}
use Rattle.std.specs.declared.cmp.Ordering.TheVariants.{Less, Equal, Greater}
use Rattle.std.specs.Ordering.{is_eq, is_lt}
use Rattle.std.specs.List.{list_any, AllByRecursion}
use Rattle.std.proofs.lemmas.Bool.{false≢true}
use Rattle.std.proofs.lemmas.Cmp.{tied_itself}
use Rattle.shared_set.specs.Sorted.{Rises}
use Rattle.watchers.specs.declared.watch.Place.{Place}
use Rattle.watchers.specs.declared.watch.Watch.{Watch}
use Rattle.watchers.specs.Order.{kind_cmp, place_cmp, watch_cmp}
use Rattle.watchers.specs.Totals.{place_total}
use Rattle.watchers.specs.Reach.{earlier, earlier_of, is_at, is_kind, place_if, IsFirst}
use Rattle.watchers.proofs.Orders.{kind, is-equal, kind-of-less, later-other, later-same, less-than-more, less-through, not-own, place-of-less}
use Rattle.watchers.proofs.Tests.{and-both, and-false, and-first, and-second, any-imp, none-either, none-imp, or-left, or-none, or-right}

-- before a place, among those that pass a test
abbrev passing_before : (Watch → Bool) → Place → Watch → Bool
passing_before p place w = p w && is_lt (place_cmp w.place place)

abbrev passing_at : (Watch → Bool) → Place → Watch → Bool
passing_at p place w = p w && is_at place w.place

-- ---- tests

pub first-same : (p q : Watch → Bool) (ws : List Watch) (r : Option Place) → ((w : Watch) → p w ≡ q w) → IsFirst p ws r → IsFirst q ws r
first-same p q ws None e h = none-imp q p (λ w k. e w ∙ k) ws h
first-same p q ws (Some place) e h = (
  any-imp (passing_at p place) (passing_at q place) (λ w k. and-both (q w) (is_at place w.place) (sym (e w) ∙ and-first (p w) _ k) (and-second (p w) _ k)) ws h.0,
  none-imp (passing_before q place) (passing_before p place) (λ w k. and-both (p w) (is_lt (place_cmp w.place place)) (e w ∙ and-first (q w) _ k) (and-second (q w) _ k)) ws h.1,
)

pub first-skip : (p : Watch → Bool) (w : Watch) (ws : List Watch) (r : Option Place) → p w ≡ false → IsFirst p ws r → IsFirst p (w ∷ ws) r
first-skip p w ws None off h = or-none (p w) (list_any p ws) off h
first-skip p w ws (Some place) off h = (
  or-right (passing_at p place w) (list_any (passing_at p place) ws) h.0,
  or-none (passing_before p place w) (list_any (passing_before p place) ws) (ap (λ (b : Bool). b && is_lt (place_cmp w.place place)) off) h.1,
)

-- ---- two tests

either_at : (p q : Watch → Bool) (place : Place) (w : Watch) → passing_at p place w ≡ true → passing_at (λ x. p x || q x) place w ≡ true
either_at p q place w k = and-both (p w || q w) (is_at place w.place) (or-left (p w) (q w) (and-first (p w) _ k)) (and-second (p w) _ k)

or_at : (p q : Watch → Bool) (place : Place) (w : Watch) → passing_at q place w ≡ true → passing_at (λ x. p x || q x) place w ≡ true
or_at p q place w k = and-both (p w || q w) (is_at place w.place) (or-right (p w) (q w) (and-first (q w) _ k)) (and-second (q w) _ k)

-- none of either before a place
none_before : (p q : Watch → Bool) (ws : List Watch) (place : Place) → list_any (passing_before p place) ws ≡ false → list_any (passing_before q place) ws ≡ false → list_any (passing_before (λ x. p x || q x) place) ws ≡ false
none_before p q ws place h k =
    none-imp (passing_before (λ x. p x || q x) place) (λ w. passing_before p place w || passing_before q place w) (λ w. split (p w) (q w) (is_lt (place_cmp w.place place))) ws
    (none-either (passing_before p place) (passing_before q place) ws h k)
  where
    split : (a b s : Bool) → ((a || b) && s) ≡ true → ((a && s) || (b && s)) ≡ true
    split true b s k = or-left s (b && s) k
    split false b s k = k

none_of : (p : Watch → Bool) (ws : List Watch) (place : Place) → list_any p ws ≡ false → list_any (passing_before p place) ws ≡ false
none_of p ws place h = none-imp (passing_before p place) p (λ w k. and-first (p w) _ k) ws h

pub first-either : (p q : Watch → Bool) (ws : List Watch) (a b : Option Place) → IsFirst p ws a → IsFirst q ws b → IsFirst (λ w. p w || q w) ws (earlier a b)
first-either p q ws None None h k = none-either p q ws h k
first-either p q ws None (Some b) h k = (
  any-imp (passing_at q b) (passing_at (λ w. p w || q w) b) (or_at p q b) ws k.0,
  none_before p q ws b (none_of p ws b h) k.1,
)
first-either p q ws (Some a) None h k = (
  any-imp (passing_at p a) (passing_at (λ w. p w || q w) a) (either_at p q a) ws h.0,
  none_before p q ws a h.1 (none_of q ws a k),
)
first-either p q ws (Some a) (Some b) h k =
    elim (is_lt (place_cmp b a)) as (λ t. is_lt (place_cmp b a) ≡ t → IsFirst (λ w. p w || q w) ws (Some (cond t b a))) [
      | true ↦ λ e. (
        any-imp (passing_at q b) (passing_at (λ w. p w || q w) b) (or_at p q b) ws k.0,
        none_before p q ws b
            (none-imp (passing_before p b) (passing_before p a) (λ w m. and-both (p w) (is_lt (place_cmp w.place a)) (and-first (p w) _ m) (less-through w.place b a (and-second (p w) _ m) e)) ws h.1)
            k.1,
      )
      | false ↦ λ e. (
        any-imp (passing_at p a) (passing_at (λ w. p w || q w) a) (either_at p q a) ws h.0,
        none_before p q ws a h.1
            (none-imp (passing_before q a) (passing_before q b) (λ w m. and-both (q w) (is_lt (place_cmp w.place b)) (and-first (q w) _ m) (less-than-more w.place a b (and-second (q w) _ m) e)) ws k.1),
      )
    ] refl

-- ---- in a sorted list

-- the place of a watch that was found, if it is of the account
abbrev pub taken : Watch → Option Watch → Option Place
taken k None = None
taken k (Some w) = place_if k.account k.below w

abbrev own : Watch → Watch → Bool
own k w = is_kind k.account k.below k.place w

none-later : (p : Watch → Bool) (w : Watch) (ws : List Watch) → ((y : Watch) → watch_cmp w y ≡ Less → p y ≡ false) → AllByRecursion (λ y. watch_cmp w y ≡ Less) ws → list_any p ws ≡ false
none-later p w [] f h = refl
none-later p w (y ∷ ws) f h = or-none (p y) (list_any p ws) (f y h.0) (none-later p w ws f h.1)

shuffle : (a b s : Bool) → (a && s) ≡ false → ((a && b) && s) ≡ false
shuffle true true s h = h
shuffle true false s h = refl
shuffle false b s h = refl

-- the first watch above what is looked for
at-first : (k w : Watch) (ws : List Watch) → AllByRecursion (λ y. watch_cmp w y ≡ Less) ws → watch_cmp k w ≡ Less → IsFirst (own k) (w ∷ ws) (place_if k.account k.below w)
at-first k w ws h e =
    elim (is_eq (kind k w)) as (λ b. is_eq (kind k w) ≡ b → IsFirst (own k) (w ∷ ws) (cond b (Some w.place) None)) [
      | true ↦ λ q. same (is-equal (kind k w) q) q
      | false ↦ λ q.
          or-none (own k w) (list_any (own k) ws)
          (ap (λ (b : Bool). b && is_lt (place_cmp k.place w.place)) q)
          (none-later (own k) w ws (λ y m. ap (λ (b : Bool). b && is_lt (place_cmp k.place y.place)) (later-other k w y (kind-of-less (kind k w) (place_cmp k.place w.place) q e) m)) h)
    ] refl
  where
    after : kind k w ≡ Equal → place_cmp k.place w.place ≡ Less
    after q = place-of-less (kind k w) (place_cmp k.place w.place) q e

    same : kind k w ≡ Equal → is_eq (kind k w) ≡ true → IsFirst (own k) (w ∷ ws) (Some w.place)
    same q b = (
      or-left (passing_at (own k) w.place w) (list_any (passing_at (own k) w.place) ws)
          (and-both (own k w) (is_at w.place w.place) (and-both (is_eq (kind k w)) (is_lt (place_cmp k.place w.place)) b (ap is_lt (after q))) (ap is_eq (tied_itself place_total w.place))),
      or-none (passing_before (own k) w.place w) (list_any (passing_before (own k) w.place) ws)
          (ap (λ (b : Bool). own k w && b) (ap is_lt (tied_itself place_total w.place)) ∙ and-false (own k w))
          (none-later (passing_before (own k) w.place) w ws (λ y m. shuffle (is_eq (kind k y)) (is_lt (place_cmp k.place y.place)) (is_lt (place_cmp y.place w.place)) (later-same k w y q m)) h),
    )

pub first-of-kind : (k : Watch) (ws : List Watch) → Rises watch_cmp ws → IsFirst (own k) ws (taken k (find (λ w. is_lt (watch_cmp k w)) ws))
first-of-kind k [] h = refl
first-of-kind k (w ∷ ws) h =
    let rest = first-of-kind k ws h.1 in
    elim (is_lt (watch_cmp k w)) as (λ b. is_lt (watch_cmp k w) ≡ b → IsFirst (own k) (w ∷ ws) (taken k (cond b (Some w) (find (λ y. is_lt (watch_cmp k y)) ws)))) [
      | true ↦ λ e. at-first k w ws h.0 (is-less (watch_cmp k w) e)
      | false ↦ λ e. first-skip (own k) w ws (taken k (find (λ y. is_lt (watch_cmp k y)) ws)) (not-own (kind k w) (place_cmp k.place w.place) e) rest
    ] refl
  where
    is-less : (r : Ordering) → is_lt r ≡ true → r ≡ Less
    is-less Less q = refl
    is-less Equal q = absurd (false≢true q)
    is-less Greater q = absurd (false≢true q)
