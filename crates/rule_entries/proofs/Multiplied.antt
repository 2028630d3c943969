-- Numbers so many times.
use Rattle.std.proofs.Common.{◌≡◌, ◌≤◌, ◌<◌, ◌+◌, Bool, true, false, ◌&&◌, cond, nat_lt, nat_le, unsigned_abs, ◌*◌, ◌^◌, Some, None, sym, ap, ◌∙◌, arith}
use Rattle.std.proofs.lemmas.Bool.{false≢true, leb-true, lt-ltb, le-leb}
use Rattle.hl_num.specs.Decimal.{Decimal, mul_fits}
use Rattle.entry_balance.specs.Values.{product}
use Rattle.rule_entries.specs.Amounts.{shortened, times}

right_of : (a b : Bool) → (a && b) ≡ true → b ≡ true
right_of true b h = h
right_of false b h = absurd (false≢true h)

-- the places of a product in range
pub few_places : (a b : Decimal) → mul_fits a b ≡ true → a.places + b.places ≤ 36
few_places a b h =
    leb-true _ _ (right_of (nat_lt (unsigned_abs a.mantissa * unsigned_abs b.mantissa) (2 ^ 127)) _ h)

pub times_fit : (by number short value : Decimal) → short ≡ shortened number → mul_fits short by ≡ true → value ≡ product short by
    → Some value ≡ times by number
unfolding times
times_fit by number short value same fits is =
    ap Some is
    ∙ ap (λ (b : Bool). cond b (Some (product short by)) None) (sym fits)
    ∙ ap (λ (d : Decimal). cond (mul_fits d by) (Some (product d by)) None) same

pub times_past : (by number short : Decimal) → short ≡ shortened number → mul_fits short by ≡ false → None ≡ times by number
unfolding times
times_past by number short same fits =
    ap (λ (b : Bool). cond b (Some (product short by)) None) (sym fits)
    ∙ ap (λ (d : Decimal). cond (mul_fits d by) (Some (product d by)) None) same
