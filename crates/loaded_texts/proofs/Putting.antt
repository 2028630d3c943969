-- What an edit makes of what is loaded, as it is put in.
use Rattle.std.proofs.Common.{◌≡◌, ℕ, List, Option}
use Rattle.loaded_texts.specs.Changing.{Changes, ChangesTo}
use Rattle.loaded_texts.specs.Keeping.{IsLoaded}
use Rattle.loaded_texts.specs.Ways.{CanTake, IsMadeFrom}
use Rattle.loaded_texts.specs.declared.changing.Changed.{Changed}
use Rattle.loaded_texts.specs.declared.loaded.Loaded.{Loaded}
use Rattle.loaded_texts.specs.declared.made.Made.{Made}
use Rattle.loaded_texts.specs.declared.made.Made.TheVariants as ways
use Rattle.loaded_texts.proofs.Loads.{added_here, can_add}
use Rattle.loaded_texts.proofs.Places.{can_change}

-- what an entry makes is so of what is loaded
pub changed_here : (year : Option ℕ) (old bytes new : List ℕ) (l : Loaded) (c : Changed) → IsLoaded year old l → ChangesTo year old bytes new c → Changes year old bytes new l.items l.book.txns c
changed_here year old bytes new l c h made = made l.items l.book.txns h.read h.loads

-- what an edit makes of what is loaded can be taken in
pub can_take : (year : Option ℕ) (old bytes new : List ℕ) (l : Loaded) (made : Made) → IsLoaded year old l → IsMadeFrom year old bytes new made → CanTake bytes l made
can_take year old bytes new l (ways.Loaded m) h made = tt
can_take year old bytes new l (ways.Added a) h made = can_add year old bytes l a h (added_here year old bytes new l a h made)
can_take year old bytes new l (ways.Changed c) h made = can_change year old bytes new l c h (changed_here year old bytes new l c h made)
