-- Where a walk begins.
use Rattle.std.proofs.Common.{◌≡◌, ℕ, zero, suc, ◌+◌, ◌<◌, ◌≤◌, ◌==◌, true, List, [], ◌∷◌, length, take, get_or, slice_get, Some, None, refl, sym, subst, ◌∙◌, arith}
use Rattle.std.specs.List.{AllByRecursion}
use Rattle.std.proofs.lemmas.Bool.{eq-eqb}
use Rattle.std.proofs.lemmas.List.{take_all, take_more}
use Rattle.book.specs.declared.transaction.Txn.{Txn}
use Rattle.reached_walk.specs.declared.place.Spot.{Spot}
use Rattle.reached_walk.specs.declared.walking.Reach.{Reach}
use Rattle.reached_walk.specs.Asks.{AreWatched}
use Rattle.reached_walk.specs.Closed.{Edit, IsEdit, IsEditedAt}
use Rattle.reached_walk.specs.Spots.{holds}
use Rattle.reached_walk.specs.Walks.{IsBegun, IsToldOf}
use Rattle.reached_walk.proofs.Handing.{begun-new, begun-walks}
use Rattle.reached_walk.proofs.Lists.{all-map, all-zip}
use Rattle.watchers.proofs.Tests.{or-left, or-right}
use Rattle.watchers.specs.declared.watch.Watch.{Watch}
use Rattle.walked_edits.specs.Scenes.{IsEdited, Scene, StandsIn, edit_in}
use Rattle.walked_edits.specs.Walking.{Begins, TellsOld, TellsOne}

-- each of some places is held
pub spots_own : (ps : List Spot) → AllByRecursion (λ (t : Spot). holds ps t.number ≡ true) ps
spots_own [] = tt
spots_own (t ∷ ps) = (
  or-left (t.number == t.number) (holds ps t.number) (eq-eqb t.number t.number refl),
  all-map (λ (x : Spot). holds ps x.number ≡ true) (λ (x : Spot). holds (t ∷ ps) x.number ≡ true) (λ x on. or-right (t.number == x.number) (holds ps x.number) on) ps (spots_own ps),
)

pub spot_own : (ps : List Spot) (i : ℕ) (d : Spot) → i < length ps → holds ps (get_or ps i d).number ≡ true
spot_own [] i d less = absurd (omega (arith, less))
spot_own (p ∷ ps) zero d less = or-left (p.number == p.number) (holds ps p.number) (eq-eqb p.number p.number refl)
spot_own (p ∷ ps) (suc i) d less = or-right (p.number == (get_or ps i d).number) (holds ps (get_or ps i d).number) (spot_own ps i d (omega (arith, less)))

pub own_in : (all ps : List Spot) (i : ℕ) (d : Spot) → ps ≡ all → i < length ps → holds all (get_or ps i d).number ≡ true
own_in all ps i d same less = subst (λ (ts : List Spot). holds ts (get_or ps i d).number ≡ true) same (spot_own ps i d less)

edit_is : (s : Scene) (before : List Txn) → IsEdited s before → IsEdit (edit_in s) s.spots
edit_is s before h = record {
  others = h.others;
  rise = h.rise;
  each = all-zip (StandsIn s) (λ (t : Spot). holds s.spots t.number ≡ true) (IsEditedAt (edit_in s)) (λ t stands own. record { own = own; day = stands.day; inside = stands.inside }) s.spots h.each (spots_own s.spots);
  all = λ n on. on;
}

-- ---- the walk is told old forms

pub tells_none : (s : Scene) (spots : List Spot) (walk : Reach) → spots ≡ s.spots → ((edit : Edit) → IsBegun edit spots [] walk) → TellsOld s [] walk
tells_none s spots walk same f before h = subst (λ (ts : List Spot). IsBegun (edit_in s) ts [] walk) same (f (edit_in s))

pub tells_new : (s : Scene) (spot : Spot) (walk : Reach) → slice_get s.former spot.number ≡ None → TellsOne s spot walk walk
tells_new s spot walk was told h before edited = begun-new (edit_in s) s.spots told spot walk was (h before edited)

pub tells_left : (s : Scene) (ws : List Watch) (spot : Spot) (old : Txn) (walk new : Reach) → ws ≡ s.watches → holds s.spots spot.number ≡ true → slice_get s.former spot.number ≡ Some old → IsToldOf ws spot old walk new → TellsOne s spot walk new
tells_left s ws spot old walk new same own was f told h before edited =
    f (edit_in s) s.spots told (subst (AreWatched s.written) (sym same) edited.watched) edited.others own was (h before edited)

pub tells_more : (s : Scene) (spots : List Spot) (i : ℕ) (d : Spot) (walk new : Reach) → i < length spots → TellsOne s (get_or spots i d) walk new → TellsOld s (take i spots) walk → TellsOld s (take (i + 1) spots) new
tells_more s spots i d walk new less f h =
    subst (λ (ts : List Spot). TellsOld s ts new) (sym (take_more spots i d less)) (f (take i spots) h)

pub tells_all : (s : Scene) (spots : List Spot) (i : ℕ) (walk : Reach) → spots ≡ s.spots → length spots ≤ i → TellsOld s (take i spots) walk → TellsOld s s.spots walk
tells_all s spots i walk same past h = subst (λ (ts : List Spot). TellsOld s ts walk) (take_all i spots past ∙ same) h

pub begins_all : (s : Scene) (walk : Reach) → TellsOld s s.spots walk → Begins s walk
begins_all s walk h before edited = begun-walks (edit_in s) s.spots walk (edit_is s before edited) (h before edited)
