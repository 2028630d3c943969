-- What follows the stars at the front of a line is UTF-8.
use Rattle.std.proofs.Common.{◌≡◌, ℕ, ◌<◌, true, List, ◌==◌, drop, arith}
use Rattle.std.specs.Str.{is_utf8}
use Rattle.std.proofs.lemmas.Bool.Decides.{nat_tests}
use Rattle.entry_reader.proofs.Texts.{after_passing}
use Rattle.time_logs.specs.DotLines.{after_stars}

star_below : (b : ℕ) → (b == 42) ≡ true → b < 128
star_below b e = grind (arith, nat_tests)

pub after_stars_utf8 : (text : List ℕ) → is_utf8 text ≡ true → is_utf8 (after_stars text) ≡ true
after_stars_utf8 text e = after_passing (λ b. b == 42) text star_below e
