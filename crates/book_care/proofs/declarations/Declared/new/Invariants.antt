use Rattle.std.proofs.Common.{◌≡◌, ℕ, ◌||◌, List, drop}
use Rattle.std.specs.List.{list_any}
use Rattle.std.specs.Str.{bytes_eq}
use Rattle.book_care.specs.Declarations.{declared_of}
use Rattle.book_care.specs.Names.{has}
use Rattle.book_care.proofs.declarations.Declared.new.Given as goal

abbrev pub invariant-loop-placed : goal.invariant-loop-placed
invariant-loop-placed l =
    (q : List ℕ) → list_any (bytes_eq q) (declared_of l.check l.items) ≡ (list_any (bytes_eq q) (declared_of l.check (drop l.placed-index l.placed-items)) || has l.names q)
