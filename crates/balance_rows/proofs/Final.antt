-- Kept sums that hold the sums of some entries are what the definition gives.
use Rattle.std.proofs.Common.{◌≡◌, ◌≢◌, ℕ, zero, suc, ℤ, pos, negsuc, ◌-◌, ◌^◌, ◌+ℤ◌, unsigned_abs, Bool, true, false, not, cond, List, [], ◌∷◌, map, Option, Some, None, refl, sym, ap, ◌∙◌, arith}
use Rattle.std.specs.Ordering.{nat_cmp, eq_by_cmp}
use Rattle.std.specs.Cmp.Lexicographic.{slice_cmp, nat_list_cmp_total}
use Rattle.std.specs.List.{list_any}
use Rattle.std.specs.FinMap.Entries.{same_entries}
use Rattle.std.proofs.lemmas.Bool.{ne_eqb, or_parts}
use Rattle.std.proofs.Math.IntN.{+ℤ_idl}
use Rattle.hl_num.specs.Decimal.{Decimal, units_of}
use Rattle.hl_num.proofs.DecimalLemmas.{zero-from_units}
use Rattle.hl_num.proofs.RoundingLemmas.{pow_ten_positive}
use Rattle.book.specs.Sums.{is_nonzero}
use Rattle.book.specs.Entries.{held}
use Rattle.book.proofs.Entries.{text_ties, tie-bytes_eq}
use Rattle.book.proofs.Order.{AllFound, mapped_option, passing, contains-each_once, sorted-each_once, sorted-filter, sorted-mapped, find-mapped, find-passing, all-found}
use Rattle.report_cells.specs.Report.{Sums, seen}
use Rattle.balance_rows.specs.Kept.{KeptSums}
use Rattle.balance_rows.specs.Sums.{share, sum_of, symbols_of, mixed_of}
use Rattle.balance_rows.proofs.Holding.{HoldsSum, Holds}

is_nonzero-true : (z : ℤ) → z ≢ pos 0 → is_nonzero z ≡ true
is_nonzero-true (pos zero) h = absurd (h refl)
is_nonzero-true (pos (suc n)) h = ap not (ne_eqb (suc n) 0 (omega arith))
is_nonzero-true (negsuc n) h = ap not (ne_eqb (unsigned_abs (negsuc n)) 0 (omega arith))

nonzero_units : (d : Decimal) → d.mantissa ≢ pos 0 → is_nonzero (units_of d) ≡ true
nonzero_units d h = is_nonzero-true (units_of d) (λ e. h (zero-from_units d.mantissa (10 ^ (36 - d.places)) (pow_ten_positive (36 - d.places)) e))

found_sum : (o : Option Decimal) (s : ℤ) (n : ℕ) → HoldsSum o s n → AllFound (λ (d : Decimal). d.mantissa ≢ pos 0) o → mapped_option units_of o ≡ passing is_nonzero s
found_sum None s n h some = sym (ap (passing is_nonzero) h)
found_sum (Some d) s n h some =
    sym (ap (λ (b : Bool). cond b (Some (units_of d)) None) (nonzero_units d some)) ∙ ap (passing is_nonzero) h.units

-- a symbol that isn't there sums to nothing
pub no_sum : (q : List ℕ) (es : Sums) → list_any (eq_by_cmp (slice_cmp nat_cmp) q) (map (λ (e : List ℕ × ℤ). e.0) es) ≡ false → sum_of q es ≡ pos 0
no_sum q [] h = refl
no_sum q (e ∷ es) h =
    let parts = or_parts (eq_by_cmp (slice_cmp nat_cmp) q e.0) (list_any (eq_by_cmp (slice_cmp nat_cmp) q) (map (λ (e : List ℕ × ℤ). e.0) es)) h in
    ap (λ (z : ℤ). z +ℤ sum_of q es) (ap (λ (b : Bool). cond b e.1 (pos 0)) (sym (tie-bytes_eq q e.0) ∙ parts.0)) ∙ +ℤ_idl (sum_of q es) ∙ no_sum q es parts.1

pub there_or_zero : (q : List ℕ) (es : Sums) (b : Bool) → list_any (eq_by_cmp (slice_cmp nat_cmp) q) (map (λ (e : List ℕ × ℤ). e.0) es) ≡ b → cond b (passing is_nonzero (sum_of q es)) None ≡ passing is_nonzero (sum_of q es)
there_or_zero q es true e = refl
there_or_zero q es false e = sym (ap (passing is_nonzero) (no_sum q es e))

-- kept sums say what the entries sum to
pub seen_is : (most : List ℕ → ℕ) (m : KeptSums) (es : Sums) → Holds most m es → seen m ≡ mixed_of es
seen_is most m es h =
    let keys = map (λ (e : List ℕ × ℤ). e.0) es in
    let value = λ (symbol : List ℕ). sum_of symbol es in
    same_entries (slice_cmp nat_cmp) nat_list_cmp_total text_ties (seen m) (mixed_of es)
    (sorted-mapped (slice_cmp nat_cmp) units_of m h.ordered.rising)
    (sorted-filter (slice_cmp nat_cmp) (λ (sum : List ℕ × ℤ). is_nonzero sum.1) (map (λ (symbol : List ℕ). (symbol, sum_of symbol es)) (symbols_of es)) (sorted-each_once text_ties value nat_list_cmp_total keys))
    (λ q.
    find-mapped (slice_cmp nat_cmp) units_of m q
    ∙ found_sum (held q m) (sum_of q es) _ (h.each q) (all-found (slice_cmp nat_cmp) (λ (d : Decimal). d.mantissa ≢ pos 0) m q h.ordered.nonzero)
    ∙ sym (find-passing text_ties value is_nonzero (symbols_of es) q
    ∙ ap (λ (b : Bool). cond b (passing is_nonzero (sum_of q es)) None) (contains-each_once text_ties keys q)
    ∙ there_or_zero q es _ refl))
