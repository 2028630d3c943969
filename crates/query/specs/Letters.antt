-- The letters of the types of accounts.
use Rattle.std.specs.Prelude.{ℕ}

-- A
abbrev pub asset : ℕ
asset = 65

-- L
abbrev pub liability : ℕ
liability = 76

-- E
abbrev pub equity : ℕ
equity = 69

-- R
abbrev pub revenue : ℕ
revenue = 82

-- X
abbrev pub expense : ℕ
expense = 88

-- C, an asset too
abbrev pub cash : ℕ
cash = 67

-- V, equity too
abbrev pub conversion : ℕ
conversion = 86
