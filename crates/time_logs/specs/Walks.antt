-- Lines that are read one after another.
use Rattle.std.specs.Prelude.{ℕ, ◌+◌, List, [], ◌∷◌, Result, Ok}
use Rattle.time_logs.specs.Faults.{◌>>=◌}
use Rattle.time_logs.specs.declared.faults.LogFault.{LogFault}

-- what is known after some lines, of which the first has this number; the first fault decides
abbrev pub walk : {S : Type 0} → (S → ℕ → List ℕ → Result S LogFault) → S → ℕ → List (List ℕ) → Result S LogFault
walk step known line [] = Ok known
walk step known line (l ∷ ls) = step known line l >>= λ next. walk step next (line + 1) ls
