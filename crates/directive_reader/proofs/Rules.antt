-- Where the period of a rule ends.
use Rattle.std.proofs.Common.{◌≡◌, ℕ, suc, ◌+◌, ◌<◌, ◌≤◌, Bool, true, false, cond, ◌&&◌, List, [], ◌∷◌, length, get_or, drop, refl, arith}
use Rattle.std.specs.Str.{is_utf8}
use Rattle.hl_base.specs.Items.{is_white}
use Rattle.entry_reader.specs.Lines.{first_is}
use Rattle.entry_reader.proofs.Texts.{cut_before, rest_utf8, white_below}
use Rattle.directive_reader.specs.Rules.{ends_period, period_len}

ends_ascii : (w n : Bool) (b : ℕ) → is_white b ≡ w → (w && n) ≡ true → b < 128
ends_ascii true n b e g = white_below b e
ends_ascii false n b e g = absurd cc

stop_by : (t : Bool) (b : ℕ) (bs : List ℕ) → (t ≡ true → b < 128) → period_len bs ≤ length bs → (period_len bs < length bs → get_or bs (period_len bs) 0 < 128)
    → (cond t 0 (period_len bs + 1) ≤ suc (length bs)) × (cond t 0 (period_len bs + 1) < suc (length bs) → get_or (b ∷ bs) (cond t 0 (period_len bs + 1)) 0 < 128)
stop_by true b bs low le more = (omega arith, λ lt. low refl)
stop_by false b bs low le more =
    let k : period_len bs + 1 ≡ suc (period_len bs) = omega arith in
    (omega arith, λ lt. rw k (more (omega arith)))

-- the byte before which a period ends is ASCII
stop : (text : List ℕ) → (period_len text ≤ length text) × (period_len text < length text → get_or text (period_len text) 0 < 128)
stop [] = (omega arith, λ lt. absurd (omega arith))
stop (b ∷ bs) = stop_by (ends_period b bs) b bs (ends_ascii (is_white b) (first_is is_white bs) b refl) (stop bs).0 (stop bs).1

pub after_period_utf8 : (text : List ℕ) → is_utf8 text ≡ true → is_utf8 (drop (period_len text) text) ≡ true
after_period_utf8 text e = rest_utf8 text (period_len text) (cut_before text (period_len text) (stop text).0 (stop text).1) e
