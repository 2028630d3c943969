-- Why an account isn't noted, or a walk isn't begun.
use Rattle.std.proofs.Common.{◌≡◌, true, slice_get, Some, None, sym, ap, ◌∙◌}
use Rattle.std.proofs.lemmas.Bool.{false≢true}
use Rattle.std.proofs.lemmas.Option.{none-some, same_Some}
use Rattle.book.specs.declared.transaction.Txn.{Txn}
use Rattle.reached_walk.specs.Apart.{is_dated}
use Rattle.reached_walk.specs.Notes as notes
use Rattle.reached_walk.specs.declared.fault.ReachFault.{ReachFault}
use Rattle.reached_walk.specs.declared.fault.ReachFault.TheVariants as reach
use Rattle.reached_walk.specs.declared.place.Spot.{Spot}
use Rattle.reached_walk.specs.Spots.{holds}
use Rattle.walked_edits.specs.Causes.{CanNot, IsCause, IsDatedAt, from_reach}
use Rattle.walked_edits.specs.Scenes.{Scene}

pub dated_at : (s : Scene) (spot : Spot) (written : Txn) (fault : ReachFault) → slice_get s.written spot.number ≡ Some written → notes.IsCause fault (is_dated written ≡ true) → IsCause (from_reach fault) (IsDatedAt s spot)
dated_at s spot written reach.Dated is h = λ t got. ap is_dated (same_Some t written (sym got ∙ is)) ∙ h
dated_at s spot written reach.Memory is h = tt

pub nothing_there : (s : Scene) (spot : Spot) → slice_get s.written spot.number ≡ None → IsDatedAt s spot
nothing_there s spot none t got = absurd (none-some t (sym none ∙ got))

-- the old form of an edited transaction is dated
pub dated_before : (s : Scene) (spot : Spot) (old : Txn) (fault : ReachFault) → holds s.spots spot.number ≡ true → slice_get s.former spot.number ≡ Some old → notes.IsCause fault (is_dated old ≡ true) → IsCause (from_reach fault) (CanNot s)
dated_before s spot old reach.Dated own was h = λ set after can. absurd (false≢true (sym (can.plain spot.number old own was) ∙ h))
dated_before s spot old reach.Memory own was h = tt
