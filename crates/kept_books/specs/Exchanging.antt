-- Transactions of a book that other forms take the place of.
use Rattle.std.specs.Prelude.{Bool, false, nat_lt, List, [], ◌∷◌, ◌++◌, length, Option, Some, None, if◌then◌else◌}
use Rattle.std.specs.List.{flat_map, slice_get}
use Rattle.std.specs.Option.{option_to_list}
use Rattle.book.specs.declared.transaction.Txn.{Txn}
use Rattle.walked_edits.specs.declared.replaced.Replaced.{Replaced}

-- those that a book has under the numbers of some forms
abbrev pub olds_in : List Txn → List Replaced → List Txn
olds_in book forms = flat_map (λ r. option_to_list (slice_get book r.spot.number)) forms

-- there is one, and it has postings
abbrev pub is_held : Option Txn → Bool
is_held None = false
is_held (Some txn) = nat_lt 0 (length txn.postings)

-- a form in the place of such a one, and any other one
abbrev pub held_form : List Txn → Replaced → List Txn
held_form book r = if is_held (slice_get book r.spot.number) then r.txn ∷ [] else []

abbrev pub free_form : List Txn → Replaced → List Txn
free_form book r = if is_held (slice_get book r.spot.number) then [] else r.txn ∷ []

-- first the forms of those that have postings, and then all others, so that each stands where the one does that is gone
abbrev pub news_in : List Txn → List Replaced → List Txn
news_in book forms = flat_map (held_form book) forms ++ flat_map (free_form book) forms
