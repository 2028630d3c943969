use Rattle.std.proofs.Common.{◌≡◌, ℕ, List, None, drop}
use Rattle.std.specs.HashMap.{get_by_text}
use Rattle.query.specs.Types.{noted, declared_of}
use Rattle.query.proofs.account_types.Types.new.Given as goal

abbrev pub invariant-loop-placed : goal.invariant-loop-placed
invariant-loop-placed l = (name : List ℕ) → noted (declared_of l.items) None name ≡ noted (declared_of (drop l.placed-index l.items)) (get_by_text l.letters name) name
