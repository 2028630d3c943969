use Rattle.std.proofs.Common.{◌≡◌, ◌∷◌, [], ◌==◌, ◌&&◌, ℕ, List, Option, Some, None, Vec, Global, unsigned_abs, string_bytes, sym, ap, subst, ◌∙◌, arith, rules}
use Rattle.kept_turnover.proofs.postings.take_number.Goals as goal

pub returns : goal.returns
returns c = λ q n. c.forget.ensures q n ∙ c.lower_number.ensures q n
