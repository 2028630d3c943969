-- Numbers read digit by digit, up to a greatest one.
use Rattle.std.proofs.Common.{◌≡◌, ℕ, zero, suc, Bool, false, ◌&&◌, refl, ◌+◌, ◌-◌, ◌*◌, ◌<◌, ◌≤◌, min, true, List, [], ◌∷◌, ◌++◌, length, get_or, take, sym, ap, ◌∙◌, arith}
use Rattle.std.specs.Str.Parse.{digits_value}
use Rattle.std.specs.Char.{digit_value}
use Rattle.std.specs.List.{list_all}
use Rattle.hl_num.specs.Reading.{is_digit, most}
use Rattle.std.proofs.lemmas.Bool.Decides.{nat_tests}
use Rattle.std.proofs.lemmas.List.{take_more}
use Rattle.std.proofs.lemmas.Int.Digits.{digits_value_push}
use Rattle.std.proofs.lemmas.Str.{digit_value_digit}

capped : (v d : ℕ) → min (min (min v most * 10) most + d) most ≡ min (v * 10 + d) most
capped v d = omega arith

pub push : (ds : List ℕ) (b : ℕ) → 48 ≤ b → b ≤ 57 → min (digits_value 10 (ds ++ b ∷ [])) most ≡ min (min (min (digits_value 10 ds) most * 10) most + (b - 48)) most
push ds b low high =
    let d : digit_value b ≡ b - 48 = omega (arith, digit_value_digit b (low, high)) in
    rw (digits_value_push 10 ds b, d) (sym (capped (digits_value 10 ds) (b - 48)))

both_true : (a b : Bool) → (a && b) ≡ true → (a ≡ true) × (b ≡ true)
both_true true b e = (refl, e)
both_true false b e = absurd cc

digit_here : (b : ℕ) → is_digit b ≡ true → (48 ≤ b) × (b ≤ 57)
digit_here b e = (grind (arith, nat_tests), grind (arith, nat_tests))

digit_at : (text : List ℕ) (i : ℕ) → list_all is_digit text ≡ true → i < length text → (48 ≤ get_or text i 0) × (get_or text i 0 ≤ 57)
digit_at [] i e lt = absurd (omega arith)
digit_at (b ∷ bs) zero e lt = digit_here b (both_true (is_digit b) (list_all is_digit bs) e).0
digit_at (b ∷ bs) (suc i) e lt = digit_at bs i (both_true (is_digit b) (list_all is_digit bs) e).1 (omega arith)

pub more : (text : List ℕ) (i value next : ℕ) → list_all is_digit text ≡ true → i < length text → value ≡ min (digits_value 10 (take i text)) most → next ≡ min (min (value * 10) most + (get_or text i 0 - 48)) most → next ≡ min (digits_value 10 (take (i + 1) text)) most
more text i value next digits lt so_far e =
    let d = digit_at text i digits lt in
    let step : min (min (min (digits_value 10 (take i text)) most * 10) most + (get_or text i 0 - 48)) most ≡ min (digits_value 10 (take i text ++ get_or text i 0 ∷ [])) most = sym (push (take i text) (get_or text i 0) d.0 d.1) in
    e ∙ (ap (λ (v : ℕ). min (min (v * 10) most + (get_or text i 0 - 48)) most) so_far ∙ (step ∙ ap (λ l. min (digits_value 10 l) most) (sym (take_more text i 0 lt))))
