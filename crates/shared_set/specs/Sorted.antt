-- Lists that rise.
use Rattle.std.specs.Prelude.{◌≡◌, Bool, List, [], ◌∷◌, not, Option, Some, None, if◌then◌else◌}
use Rattle.std.specs.List.{AllByRecursion, filter}
use Rattle.std.specs.Ordering.{eq_by_cmp}
use Rattle.std.specs.declared.cmp.Ordering.{Ordering}
use Rattle.std.specs.declared.cmp.Ordering.TheVariants.{Less}

-- each item is less than all that follow it
abbrev pub Rises : {T : Type 0} → (T → T → Ordering) → List T → Type 0
Rises cmp [] = Unit {0}
Rises cmp (x ∷ xs) = AllByRecursion (λ y. cmp x y ≡ Less) xs × Rises cmp xs

-- all items that aren't equal to one
abbrev pub without_key : {T : Type 0} → (T → T → Ordering) → T → List T → List T
without_key cmp key items = filter (λ item. not (eq_by_cmp cmp key item)) items

abbrev pub or_other : {T : Type 0} → Option T → Option T → Option T
or_other None other = other
or_other (Some x) other = Some x

-- the last item that passes a test
abbrev pub find_last : {T : Type 0} → (T → Bool) → List T → Option T
find_last test [] = None
find_last test (x ∷ xs) = or_other (find_last test xs) (if test x then Some x else None)
