-- What cells hold, in the words of `report_cells`.
use Rattle.std.proofs.Common.{ℕ, ℤ, Option, Some, None, List}
use Rattle.hl_num.specs.Decimal.{Decimal}
use Rattle.book.specs.Entries.{held}
use Rattle.report_cells.specs.Kept.{Cell}
use Rattle.report_cells.proofs.Holding.{HoldsSum, Holds}
use Rattle.index_cells.specs.Held.{HoldsValue, HoldsSums}

there : (o : Option Decimal) (exact : ℤ) (most : ℕ) → HoldsValue o exact most → HoldsSum o exact most
there None exact most h = h
there (Some d) exact most h = record { units = h.units; places = h.places; few = h.few }

back : (o : Option Decimal) (exact : ℤ) (most : ℕ) → HoldsSum o exact most → HoldsValue o exact most
back None exact most h = h
back (Some d) exact most h = record { units = h.units; places = h.places; few = h.few }

pub holds_of : (sums : Cell) (exact : List ℕ → ℤ) (most : List ℕ → ℕ) → HoldsSums sums exact most → Holds sums exact most
holds_of sums exact most h = record { ordered = h.ordered; each = λ q. there (held q sums) (exact q) (most q) (h.each q) }

pub sums_of : (sums : Cell) (exact : List ℕ → ℤ) (most : List ℕ → ℕ) → Holds sums exact most → HoldsSums sums exact most
sums_of sums exact most h = record { ordered = h.ordered; each = λ q. back (held q sums) (exact q) (most q) (h.each q) }
