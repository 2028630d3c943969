use Rattle.std.proofs.Common.{◌≡◌, ◌+◌, ◌++◌, List, length, take}
use Rattle.book.specs.declared.item.Placed.{Placed}
use Rattle.book.specs.Standing.{places_from}
use Rattle.counted_styles.specs.Kept.{AreOf}
use Rattle.counted_styles.proofs.text.add_all.Given as goal

-- what was added so far
abbrev pub invariant-loop-placed : goal.invariant-loop-placed
invariant-loop-placed l = record {
  next : l.next ≡ l.count + l.placed-index;
  added : (items : List Placed) → l.count ≡ length items → AreOf (places_from 0 items) l.initial.counted → AreOf (places_from 0 (items ++ take l.placed-index l.more)) l.counted;
}
