-- What a walk of an edit begins with.
use Rattle.std.specs.Prelude.{◌≡◌, ◌++◌, List, length, map, min}
use Rattle.std.specs.List.Sorted.{IsPermutation}
use Rattle.book.specs.declared.transaction.Txn.{Txn}
use Rattle.reached_walk.specs.Spots.{Rise}
use Rattle.watchers.specs.Watches.{AreOf, numbered_from}
use Rattle.walked_edits.specs.Scenes.{Scene, scene}
use Rattle.kept_books.specs.Renewing.{first_of, forms_of, renewed, spots_from}
use Rattle.kept_books.specs.Rewriting.{Rewrite, rewritten}
use Rattle.kept_books.specs.Writing.{symbols_written}
use Rattle.kept_books.specs.declared.beginning.Begun.{Begun}
use Rattle.kept_books.specs.declared.written.Entries.{Entries}
use Rattle.kept_books.specs.declared.written.Renewal.{Renewal}

-- transactions that are lent
abbrev pub lent : Entries → List Txn
lent e = map (λ t. t.now) e.txns.items

-- those of a text with others in their place
abbrev pub renewed_in : Renewal → List Txn
renewed_in r = renewed (min r.first (length r.former.txns.items)) (lent r.former) (lent r.forms)

-- the parts of an edit of written transactions
pub record IsRenewal (written : List Txn) (r : Rewrite) (x : Renewal) : Type 0 where
  pub former : lent x.former ≡ written
  pub first : x.first ≡ first_of written r
  pub forms : lent x.forms ≡ forms_of r

-- what a walk is told of an edit
abbrev pub scene_of : Begun → Scene
scene_of b = scene b.spots.items (lent b.renewal.former) (renewed_in b.renewal) b.watchers b.symbols

-- the edited transactions stand in the order of their places, with the watches of the new text, and the symbols of both texts
pub record BegunBy (x : Renewal) (b : Begun) : Type 0 where
  pub renewal : b.renewal ≡ x
  pub rise : Rise b.spots.items
  pub spots : IsPermutation (spots_from x.first (lent x.forms)) b.spots.items
  pub watched : AreOf (numbered_from 0 (renewed x.first (lent x.former) (lent x.forms))) b.watchers
  pub symbols : b.symbols ≡ symbols_written (lent x.former ++ renewed x.first (lent x.former) (lent x.forms))

-- the same of an edit of written transactions
pub record IsBegun (written : List Txn) (r : Rewrite) (b : Begun) : Type 0 where
  pub renewal : IsRenewal written r b.renewal
  pub rise : Rise b.spots.items
  pub spots : IsPermutation (spots_from (first_of written r) (forms_of r)) b.spots.items
  pub watched : AreOf (numbered_from 0 (rewritten written r)) b.watchers
  pub symbols : b.symbols ≡ symbols_written (written ++ rewritten written r)
