-- Lists that are put in order.
use Rattle.std.specs.Prelude.{List, [], ◌∷◌}
use Rattle.std.specs.declared.cmp.Ordering.{Ordering}
use Rattle.std.specs.BTreeSet.{insert_key}

-- the items of a list in an order, each once
abbrev pub each_once : {K : Type 0} → (K → K → Ordering) → List K → List K
each_once cmp [] = []
each_once cmp (k ∷ ks) = insert_key cmp (each_once cmp ks) k
