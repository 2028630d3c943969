-- What contracts see of a pass, from what its seat has.
use Rattle.std.proofs.Common.{◌≡◌, ℕ, true, false, List, [], ◌∷◌, refl, ap, sym, ◌∙◌, None}
use Rattle.std.proofs.lemmas.Bool.{false≢true}
use mathlib.Core.Option.{some}
use Rattle.atomic_table.specs.Table.{Me}
use Rattle.atomic_table.specs.declared.shared.Seat.{Seat}
use Rattle.turn_lock.specs.Views.{is_live, is_over, known, standing, standing_of, carried, Carries, Standing}
use Rattle.turn_lock.specs.Rule.{IsIdle, Gives}
use Rattle.turn_lock.specs.declared.known.Hold.TheVariants.{Free, Holds}
use Rattle.turn_lock.specs.declared.known.Known.{Known}
use Rattle.turn_lock.specs.declared.known.Place.{Place}
use Rattle.turn_lock.specs.declared.known.View.{View}
use Rattle.turn_lock.specs.declared.known.View.TheVariants.{Spent, Live}
use Rattle.turn_lock.proofs.Rosters.{live_same}

module _ {T E : Type 0} where
  pub alive : (w : View T E) (h : is_live w ≡ true) → w ≡ Live (known w h)
  alive Spent h = absurd (false≢true h)
  alive (Live v) h = refl

  pub known_is : (x : View T E) (h : is_live x ≡ true) (w : Known T E) → x ≡ Live w → known x h ≡ w
  known_is Spent h w e = absurd (false≢true h)
  known_is (Live v) h w e = live_same v w (ap some e)

  pub live_as : (m : Me (Place T E) (View T E)) (w : Known T E) (out : List (ℕ × Place T E)) → m ≡ (Live w, out) → is_live m.0 ≡ true
  live_as m w out e = ap (λ (m : Me (Place T E) (View T E)). is_live m.0) e

  module _ (seat : Seat (Place T E) (View T E)) (h : is_live seat.me.0 ≡ true) where
    pub standing_is : (w : Known T E) (out : List (ℕ × Place T E)) → seat.me ≡ (Live w, out) → standing seat h ≡ standing_of seat.table_id w
    standing_is w out e = ap (λ (v : Known T E). standing_of seat.table_id v) (known_is seat.me.0 h w (ap (λ m. m.0) e))

    pub carries_as : (w : Known T E) (out : List (ℕ × Place T E)) → seat.me ≡ (Live w, out) → out ≡ carried w.hold → (is_over w.hold ≡ false → w.number ≡ 0 → seat.id ≡ 0) → Carries seat h
    carries_as w out e is first =
        let same : known seat.me.0 h ≡ w = known_is seat.me.0 h w (ap (λ m. m.0) e) in (
          ap (λ m. m.1) e ∙ (is ∙ ap (λ (v : Known T E). carried v.hold) (sym same)),
          λ o n. first (ap (λ (v : Known T E). is_over v.hold) (sym same) ∙ o) (ap (λ (v : Known T E). v.number) (sym same) ∙ n),
        )

    -- its seat, where it is the first pass
    pub seat_as : (p : Standing T E) → standing seat h ≡ p → Carries seat h → is_over p.hold ≡ false → p.number ≡ 0 → seat.id ≡ 0
    seat_as p is carries o n = carries.1 (ap (λ (q : Standing T E). is_over q.hold) is ∙ o) (ap (λ (q : Standing T E). q.number) is ∙ n)

    -- a pass that holds no value has no slot out
    pub idle_as : (p : Standing T E) → standing seat h ≡ p → Carries seat h → p.hold ≡ Free → IsIdle seat.me
    idle_as p is carries free =
        let v : Known T E = known seat.me.0 h in
        let f : v.hold ≡ Free = ap (λ (q : Standing T E). q.hold) is ∙ free in
        let out : seat.me.1 ≡ [] = carries.0 ∙ ap carried f in
        (v, (λ i. (alive seat.me.0 h i, out i)), f)

    -- one that holds a value has the slot out
    pub holds_as : {S : Type 0} (state : T → S) (leads : S → E → S → Type 0) (p : Standing T E) → standing seat h ≡ p → Carries seat h → (was x : T) (e : E) → p.hold ≡ Holds was → leads (state was) e (state x) → Gives state leads seat.me x e
    holds_as state leads p is carries was x e held step =
        let v : Known T E = known seat.me.0 h in
        let f : v.hold ≡ Holds was = ap (λ (q : Standing T E). q.hold) is ∙ held in
        let out : seat.me.1 ≡ (0, record { value = None; last = None }) ∷ [] = carries.0 ∙ ap carried f in
        (v, was, (λ i. (alive seat.me.0 h i, out i)), f, step)
