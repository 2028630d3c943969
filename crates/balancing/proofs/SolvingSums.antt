-- Sums don't depend on the order in which is added.
use Rattle.std.proofs.Common.{◌≡◌, ℕ, ℤ, pos, ◌+◌, ◌-◌, ◌^◌, ◌≤◌, ◌+ℤ◌, ◌*ℤ◌, max, Bool, cond, List, Some, None, sym, ap, ◌∙◌, arith}
use Rattle.std.specs.Str.{bytes_eq}
use Rattle.std.specs.Ordering.{nat_cmp, eq_by_cmp}
use Rattle.std.specs.Cmp.Lexicographic.{slice_cmp, nat_list_cmp_total}
use Rattle.std.specs.FinMap.Entries.{same_entries}
use Rattle.std.proofs.lemmas.Int.{ints}
use Rattle.std.proofs.lemmas.Nat.{pow-add}
use Rattle.hl_num.specs.Decimal.{Decimal, mantissa_at}
use Rattle.hl_num.proofs.DecimalLemmas.{mul-add, mul-mul}
use Rattle.book.specs.Mixed.{plus}
use Rattle.book.proofs.Entries.{text_ties}
use Rattle.entry_balance.specs.Values.{Value, absolute_value}
use Rattle.entry_balance.specs.Tally.{no_sum, total_of, sums_of, are_within, turnover_fits}
use Rattle.entry_balance.proofs.Turnover.{has_value, held-sums, sums-rising}
use Rattle.balancing.proofs.SolvingOrders.{Reorders, mapped, filtered, folded, any_same}

pub at-plus : (a b : Decimal) (q : ℕ) → a.places ≤ q → b.places ≤ q → mantissa_at (plus a b) q ≡ mantissa_at a q +ℤ mantissa_at b q
at-plus a b q of_a of_b =
    let p = max a.places b.places in
    let split_a : q - a.places ≡ (p - a.places) + (q - p) = omega arith in
    let split_b : q - b.places ≡ (p - b.places) + (q - p) = omega arith in
    let more_a : mantissa_at a p *ℤ pos (10 ^ (q - p)) ≡ mantissa_at a q =
    mul-mul a.mantissa (10 ^ (p - a.places)) (10 ^ (q - p)) ∙ ap (λ (n : ℕ). a.mantissa *ℤ pos n) (sym (pow-add 10 (p - a.places) (q - p)) ∙ ap (λ (k : ℕ). 10 ^ k) (sym split_a)) in
    let more_b : mantissa_at b p *ℤ pos (10 ^ (q - p)) ≡ mantissa_at b q =
    mul-mul b.mantissa (10 ^ (p - b.places)) (10 ^ (q - p)) ∙ ap (λ (n : ℕ). b.mantissa *ℤ pos n) (sym (pow-add 10 (p - b.places) (q - p)) ∙ ap (λ (k : ℕ). 10 ^ k) (sym split_b)) in
    mul-add (mantissa_at a p) (mantissa_at b p) (10 ^ (q - p)) ∙ ap (λ (x : ℤ). x +ℤ mantissa_at b p *ℤ pos (10 ^ (q - p))) more_a ∙ ap (λ (x : ℤ). mantissa_at a q +ℤ x) more_b

add_swap : (x y z : ℤ) → (x +ℤ y) +ℤ z ≡ (x +ℤ z) +ℤ y
add_swap x y z = omega (arith, ints)

-- two numbers are added in either order
pub plus_swap : (z a b : Decimal) → plus (plus z a) b ≡ plus (plus z b) a
plus_swap z a b =
    let q = max (max z.places a.places) b.places in
    let places : q ≡ max (max z.places b.places) a.places = omega arith in
    let left : mantissa_at (plus z a) q +ℤ mantissa_at b q ≡ (mantissa_at z q +ℤ mantissa_at a q) +ℤ mantissa_at b q = ap (λ (x : ℤ). x +ℤ mantissa_at b q) (at-plus z a q (omega arith) (omega arith)) in
    let right : mantissa_at (plus z b) q +ℤ mantissa_at a q ≡ (mantissa_at z q +ℤ mantissa_at b q) +ℤ mantissa_at a q = ap (λ (x : ℤ). x +ℤ mantissa_at a q) (at-plus z b q (omega arith) (omega arith)) in
    let mantissa : mantissa_at (plus z a) q +ℤ mantissa_at b q ≡ mantissa_at (plus z b) q +ℤ mantissa_at a q =
    left ∙ add_swap (mantissa_at z q) (mantissa_at a q) (mantissa_at b q) ∙ sym right in
    let there : plus (plus z a) b ≡ record { mantissa = mantissa_at (plus z b) q +ℤ mantissa_at a q; places = q } = λ i. record { mantissa = mantissa i; places = q } in
    there ∙ ap (λ (p : ℕ). let d : Decimal = record { mantissa = mantissa_at (plus z b) p +ℤ mantissa_at a p; places = p } in d) places

pub total_same : (symbol : List ℕ) {xs ys : List Value} → Reorders xs ys → total_of symbol xs ≡ total_of symbol ys
total_same symbol r = folded plus plus_swap (mapped (λ (v : Value). v.1) (filtered (λ (v : Value). bytes_eq v.0 symbol) r)) no_sum

pub sums_same : {xs ys : List Value} → Reorders xs ys → sums_of xs ≡ sums_of ys
sums_same {xs} {ys} r =
    same_entries (slice_cmp nat_cmp) nat_list_cmp_total text_ties (sums_of xs) (sums_of ys) (sums-rising xs) (sums-rising ys)
    (λ q. held-sums q xs ∙ ap (λ (b : Bool). cond b (Some (total_of q xs)) None) (any_same (eq_by_cmp (slice_cmp nat_cmp) q) (mapped (λ (v : Value). v.0) r))
    ∙ ap (λ (d : Decimal). cond (has_value q ys) (Some d) None) (total_same q r) ∙ sym (held-sums q ys))

pub fits_same : {xs ys : List Value} → Reorders xs ys → turnover_fits xs ≡ turnover_fits ys
fits_same r = ap are_within (sums_same (mapped absolute_value r))
