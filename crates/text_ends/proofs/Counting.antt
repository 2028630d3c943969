-- The lines of a text one after another.
use Rattle.std.proofs.Common.{◌≡◌, ℕ, ◌+◌, ◌<◌, Bool, ◌||◌, List, length, drop, ap}
use Rattle.std.specs.List.{list_any}
use Rattle.hl_base.specs.Lines.{first_line, lines_of}
use Rattle.hl_base.proofs.LineLemmas.{lines_at}

-- a line of a text from a place on is its first line there, or one after it
pub any_line : (p : List ℕ → Bool) (text : List ℕ) (at : ℕ) → at < length text → list_any p (lines_of (drop at text)) ≡ (p (first_line (drop at text)) || list_any p (lines_of (drop (at + length (first_line (drop at text))) text)))
any_line p text at h = ap (list_any p) (lines_at text at h)
