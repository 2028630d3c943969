-- Transactions of a book that get other forms.
use Rattle.std.specs.Prelude.{◌≡◌, ◌<◌, nat_lt, List, [], ◌∷◌, ◌++◌, drop, length, map, set, Some, if◌then◌else◌}
use Rattle.std.specs.List.{slice_get}
use Rattle.hl_time.specs.declared.day.Day.{Day}
use Rattle.book.specs.declared.transaction.Mark.TheVariants.{Unmarked}
use Rattle.book.specs.declared.transaction.Txn.{Txn}
use Rattle.reached_walk.specs.declared.place.Spot.{Spot}
use Rattle.walked_edits.specs.declared.replaced.Replaced.{Replaced}

-- where forms stand
abbrev pub spots_of : List Replaced → List Spot
spots_of forms = map (λ r. r.spot) forms

-- A book in which a transaction has another form. Where the book ends just before it, it comes behind all.
abbrev pub with_form : List Txn → Replaced → List Txn
with_form book r = if nat_lt r.spot.number (length book) then set book r.spot.number r.txn else book ++ r.txn ∷ []

-- some, one after another
abbrev pub with_forms : List Txn → List Replaced → List Txn
with_forms book [] = book
with_forms book (r ∷ forms) = with_forms (with_form book r) forms

-- ---- while a walk goes on

-- a transaction that holds a place
abbrev pub vacant : Day → Txn
vacant day = record { line = 0; day = day; mark = Unmarked; code = []; description = []; comment = []; tags = []; postings = [] }

-- a book in which the places of all transactions are held that a text has behind it
abbrev pub with_room : List Txn → List Txn → List Txn
with_room text book = book ++ map (λ t. vacant t.day) (drop (length book) text)

-- the places of some transactions are held in their stead
abbrev pub with_vacants : List Spot → List Txn → List Txn
with_vacants [] book = book
with_vacants (spot ∷ spots) book = with_vacants spots (set book spot.number (vacant spot.day))

-- a form stands where the book has one
abbrev pub IsInside : List Txn → Replaced → Type 0
IsInside book r = r.spot.number < length book

-- forms in the places of those that the book has there, one after another
abbrev pub put_forms : List Txn → List Replaced → List Txn
put_forms book [] = book
put_forms book (r ∷ forms) = put_forms (set book r.spot.number r.txn) forms

-- from the last one on
abbrev pub put_back : List Txn → List Replaced → List Txn
put_back book [] = book
put_back book (r ∷ forms) = set (put_back book forms) r.spot.number r.txn

-- the last form and the one that a book had there have changed places
pub record IsSwapped (older : List Replaced) (last : Replaced) (book new : List Txn) (forms : List Replaced) : Type 0 where
  pub form : Txn
  pub was : slice_get book last.spot.number ≡ Some form
  pub book_is : new ≡ set book last.spot.number last.txn
  pub forms_are : forms ≡ older ++ record { spot = last.spot; txn = form } ∷ []
