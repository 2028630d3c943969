-- What is known where the lock is closed.
use Rattle.std.proofs.Common.{◌≡◌, ℕ, true, List, length, refl, ap, sym, subst, ◌∙◌, Some, rules}
use Rattle.std.specs.Prelude.{IsSome}
use mathlib.Core.Option.{some, some-injective}
use lib.ListN.{get_elem?}
use Rattle.atomic_table.specs.Table.{Final, Seen}
use Rattle.atomic_table.specs.declared.shared.Seat.{Seat}
use Rattle.turn_lock.specs.History.{Leads, IsOf}
use Rattle.turn_lock.specs.Views.{is_live, is_over, known, standing, Carries, Standing, closed, over_live}
use Rattle.turn_lock.specs.Rule.{Rule}
use Rattle.turn_lock.specs.declared.known.Entered.{Entered}
use Rattle.turn_lock.specs.declared.known.Hold.TheVariants.{Free}
use Rattle.turn_lock.specs.declared.known.Known.{Known}
use Rattle.turn_lock.specs.declared.known.Opening.{Opening}
use Rattle.turn_lock.specs.declared.known.Place.{Place}
use Rattle.turn_lock.specs.declared.known.View.{View}
use Rattle.turn_lock.specs.declared.known.View.TheVariants.{Live}
use Rattle.turn_lock.proofs.Keeping.{Closes, ends_as}
use Rattle.turn_lock.proofs.Standings.{alive, known_is, seat_as}

module _ {T E S : Type 0} (state : T → S) (leads : S → E → S → Type 0) (key : Opening T) (seat : Seat (Place T E) (View T E)) (h : is_live seat.me.0 ≡ true) (p : Standing T E) (is : standing seat h ≡ p) (carries : Carries seat h)
    (free : p.hold ≡ Free) (zero_is : p.number ≡ 0) (all : p.made ≡ length p.joined) (last : Seat (Place T E) (View T E)) (id_is : last.id ≡ seat.id) (me_is : last.me.0 ≡ over_live closed seat.me.0)
    (ws : List ℕ) (xs : List (Place T E)) (f : Final (Seen (Rule state leads key) last.id last.me.0) ws xs) (place : Place T E) (at : get_elem? xs 0 ≡ some place) where
  v : Known T E
  v = known seat.me.0 h

  ended : (w : View T E) → w ≡ over_live closed seat.me.0 → w ≡ Live (closed v)
  unfolding v
  ended w e = e ∙ ap (over_live closed) (alive seat.me.0 h)

  law : Closes state leads key (closed v) xs
  unfolding v
  law = ends_as state leads key last.id last.me.0 (closed v) ws xs (ended last.me.0 me_is) (id_is ∙ seat_as seat h p is carries (ap is_over free) zero_is) refl
      (ap (λ (q : Standing T E). q.made) is ∙ (all ∙ sym (ap (λ (q : Standing T E). length q.joined) is))) f

  place_is : place.value ≡ Some law.value
  place_is = ap (λ (q : Place T E). q.value) (some-injective place record { value = Some law.value; last = law.last } (sym at ∙ law.home))

  pub has_value : IsSome place.value
  has_value = subst IsSome (sym place_is) (search rules)

  some_same : {a b : T} → Some a ≡ Some b → a ≡ b
  some_same e = cc

  module _ (kept : Seat (Place T E) (View T E)) (h' : is_live kept.me.0 ≡ true) (kept_is : kept.me.0 ≡ over_live closed seat.me.0) where
    same : known kept.me.0 h' ≡ closed v
    same = known_is kept.me.0 h' (closed v) (ended kept.me.0 kept_is)

    pub led : (o x : T) → key.first.value ≡ o → place.value ≡ Some x → Leads leads (state o) (known kept.me.0 h').seen (state x)
    led o x first value = subst (λ (z : T × (List (Entered E) × T)). Leads leads (state z.0) z.1.0 (state z.1.1)) (λ i. (first i, (sym (ap (λ (k : Known T E). k.seen) same) i, some_same (sym place_is ∙ value) i))) law.led

    pub whole : IsOf (known kept.me.0 h').seen (known kept.me.0 h').mine (known kept.me.0 h').joined
    whole = subst (λ (k : Known T E). IsOf k.seen k.mine k.joined) (sym same) law.whole
