-- The last part of a name.
use Rattle.std.proofs.Common.{◌≡◌, ℕ, ◌+◌, ◌-◌, ◌<◌, ◌≤◌, ◌==◌, true, not, List, length, get_or, drop, refl, sym, ap, subst, arith}
use Rattle.std.specs.List.{suffix_len}
use Rattle.std.specs.Str.{IsCharBoundary, IsUtf8}
use Rattle.std.proofs.lemmas.Bool.{eqb-true}
use Rattle.std.proofs.lemmas.List.Sums.{suffix_len_is}
use Rattle.std.proofs.lemmas.Str.{IsCharBoundary-after_ascii}
use Rattle.hl_base.specs.Ascii.{colon}
use Rattle.balance_rows.specs.Trees.{last_part}

-- it begins behind a colon, or with the name, and holds none
pub part_is : (name : List ℕ) (n : ℕ) → n ≤ length name → ((k : ℕ) → n ≤ k → k < length name → not (get_or name k 0 == colon) ≡ true) → (0 < n → (get_or name (n - 1) 0 == colon) ≡ true) → drop n name ≡ last_part name
part_is name n within solid behind =
    let e = suffix_len_is (λ b. not (b == colon)) name n 0 within solid (λ h. ap not (behind h)) in
    let k : length name - suffix_len (λ b. not (b == colon)) name ≡ n = omega arith in
    rw k refl

-- a character begins behind a colon
pub part_boundary : (name : List ℕ) (n : ℕ) → IsUtf8 name → 0 < n → n ≤ length name → (get_or name (n - 1) 0 == colon) ≡ true → IsCharBoundary name n
part_boundary name n utf8 some within is =
    let k : n - 1 + 1 ≡ n = omega arith in
    let below : get_or name (n - 1) 0 < 128 = omega (arith, eqb-true (get_or name (n - 1) 0) 58 is) in
    subst (IsCharBoundary name) k (IsCharBoundary-after_ascii name (n - 1) utf8 (omega arith) below)
