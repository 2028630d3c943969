-- How long the first parts of a name are.
use Rattle.std.specs.Prelude.{ℕ, zero, suc, ◌==◌, List, [], ◌∷◌, if◌then◌else◌}
use Rattle.hl_base.specs.Ascii.{colon}

-- the bytes before the colon behind so many parts, or all
abbrev pub front_length : ℕ → List ℕ → ℕ
front_length zero bs = 0
front_length (suc parts) [] = 0
front_length (suc zero) (b ∷ bs) = if b == colon then 0 else suc (front_length (suc zero) bs)
front_length (suc (suc parts)) (b ∷ bs) =
    suc (if b == colon then front_length (suc parts) bs else front_length (suc (suc parts)) bs)
