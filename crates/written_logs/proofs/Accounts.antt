-- An account in parentheses reads again.
use Rattle.std.proofs.Common.{◌≡◌, ℕ, suc, ◌+◌, ◌-◌, Bool, true, false, cond, ◌==◌, ◌&&◌, ◌||◌, List, [], ◌∷◌, ◌++◌, length, get_or, take, drop, Option, Result, Ok, Err, refl, sym, ap, ◌∙◌, arith, append_assoc, length-append}
use Rattle.std.specs.Prelude.{nat_le}
use Rattle.std.proofs.Math.Seq.{take-append_seam, drop-append_seam, get_or-append_seam}
use Rattle.std.proofs.lemmas.Bool.Decides.{nat_tests}
use Rattle.book.specs.declared.fault.Fault.{Fault}
use Rattle.book.specs.declared.fault.Cause.TheVariants as cause
use Rattle.book.specs.declared.transaction.Side.{Side}
use Rattle.book.specs.declared.transaction.Side.TheVariants.{Real, Balanced, Free}
use Rattle.entry_reader.specs.Accounts.{ends_name, account_len, is_within, side_of, name_of, has_parts, name_in, account_at}
use Rattle.entry_reader.specs.Causes.{fault_at, ◌>>=◌}
use Rattle.entry_reader.specs.Contexts.{Context, context_from}

-- a context of no directives
abbrev pub bare : Option ℕ → Context
bare year = context_from year []

-- ---- where it ends

ends_same : (b : ℕ) (bs rest : List ℕ) → ends_name b (bs ++ 41 ∷ rest) ≡ ends_name b bs
ends_same b [] rest = refl
ends_same b (c ∷ cs) rest = refl

len_by : (t : Bool) (n m k l : ℕ) → cond t 0 (n + 1) ≡ suc l → (n ≡ l → m ≡ l + k) → cond t 0 (m + 1) ≡ suc l + k
len_by true n m k l e f = absurd (omega arith)
len_by false n m k l e f =
    let same : n ≡ l = omega arith in
    let more : m ≡ l + k = f same in
    omega (arith, more)

len_name : (a rest : List ℕ) → account_len a ≡ length a → account_len (a ++ 41 ∷ rest) ≡ length a + account_len (41 ∷ rest)
len_name [] rest whole = omega arith
len_name (b ∷ bs) rest whole =
    ap (λ (t : Bool). cond t 0 (account_len (bs ++ 41 ∷ rest) + 1)) (ends_same b bs rest)
    ∙ len_by (ends_name b bs) (account_len bs) (account_len (bs ++ 41 ∷ rest)) (account_len (41 ∷ rest)) (length bs) whole (len_name bs rest)

-- an account in parentheses
abbrev pub bracketed : List ℕ → List ℕ
bracketed a = 40 ∷ (a ++ 41 ∷ [])

-- and what stands on its line from it on
abbrev pub with_gap : List ℕ → List ℕ → List ℕ
with_gap a rest = 40 ∷ (a ++ 41 ∷ 32 ∷ 32 ∷ rest)

bracketed_length : (a : List ℕ) → length (bracketed a) ≡ suc (length a + 1)
bracketed_length a = ap suc (length-append a (41 ∷ []))

gap_is : (a rest : List ℕ) → with_gap a rest ≡ bracketed a ++ 32 ∷ 32 ∷ rest
gap_is a rest = ap (λ (xs : List ℕ). 40 ∷ xs) (sym (append_assoc a (41 ∷ []) (32 ∷ 32 ∷ rest)))

gap_length : (a rest : List ℕ) → account_len a ≡ length a → account_len (with_gap a rest) ≡ length (bracketed a)
gap_length a rest whole =
    let inner : account_len (a ++ 41 ∷ 32 ∷ 32 ∷ rest) ≡ length a + 1 = len_name a (32 ∷ 32 ∷ rest) whole in
    let all : account_len (with_gap a rest) ≡ account_len (a ++ 41 ∷ 32 ∷ 32 ∷ rest) + 1 = refl in
    omega (arith, inner, all, bracketed_length a)

pub gap_front : (a rest : List ℕ) → account_len a ≡ length a → take (account_len (with_gap a rest)) (with_gap a rest) ≡ bracketed a
gap_front a rest whole =
    ap (λ (k : ℕ). take k (with_gap a rest)) (gap_length a rest whole)
    ∙ ap (take (length (bracketed a))) (gap_is a rest)
    ∙ take-append_seam (bracketed a) (32 ∷ 32 ∷ rest)

pub gap_behind : (a rest : List ℕ) → account_len a ≡ length a → drop (account_len (with_gap a rest)) (with_gap a rest) ≡ 32 ∷ 32 ∷ rest
gap_behind a rest whole =
    ap (λ (k : ℕ). drop k (with_gap a rest)) (gap_length a rest whole)
    ∙ ap (drop (length (bracketed a))) (gap_is a rest)
    ∙ drop-append_seam (bracketed a) (32 ∷ 32 ∷ rest)

-- ---- what it says

within_by : (t : Bool) (x : ℕ) → t ≡ true → x ≡ 41 → (t && (40 == 40) && (x == 41)) ≡ true
within_by t x e f = rw (e, f) refl

two_bytes : (n k : ℕ) → n ≡ suc (k + 1) → nat_le 2 n ≡ true
two_bytes n k e = grind (arith, nat_tests)

within_is : (a : List ℕ) → is_within 40 41 (bracketed a) ≡ true
within_is a =
    let count = bracketed_length a in
    let place : length (bracketed a) - 1 ≡ length (40 ∷ a) = omega (arith, count) in
    let last : get_or (bracketed a) (length (bracketed a) - 1) 0 ≡ 41 =
    ap (λ (k : ℕ). get_or (bracketed a) k 0) place ∙ get_or-append_seam (40 ∷ a) 41 [] 0 in
    within_by (nat_le 2 (length (bracketed a))) (get_or (bracketed a) (length (bracketed a) - 1) 0) (two_bytes (length (bracketed a)) (length a) count) last

side_is : (a : List ℕ) → side_of (bracketed a) ≡ Free
side_is a = ap (λ (t : Bool). cond {A = Side} t Free (cond (is_within 91 93 (bracketed a)) Balanced Real)) (within_is a)

name_is : (a : List ℕ) → name_of (bracketed a) ≡ a
name_is a =
    let count : length (bracketed a) - 2 ≡ length a = omega (arith, bracketed_length a) in
    ap (λ (t : Bool). cond (t || is_within 91 93 (bracketed a)) (take (length (bracketed a) - 2) (a ++ 41 ∷ [])) (bracketed a)) (within_is a)
    ∙ ap (λ (k : ℕ). take k (a ++ 41 ∷ [])) count
    ∙ take-append_seam a (41 ∷ [])

named : (year : Option ℕ) (line : ℕ) (a : List ℕ) → has_parts a ≡ true → name_in (bare year) line a ≡ Ok a
named year line a parts = ap (λ (t : Bool). cond {A = Result (List ℕ) Fault} (t && t) (Ok a) (Err (fault_at line cause.Account))) parts

pub account_is : (year : Option ℕ) (line : ℕ) (a : List ℕ) → has_parts a ≡ true → account_at (bare year) line (bracketed a) ≡ Ok (Free, a)
account_is year line a parts =
    ap (λ (n : List ℕ). name_in (bare year) line n >>= λ name. Ok (side_of (bracketed a), name)) (name_is a)
    ∙ ap (λ (r : Result (List ℕ) Fault). r >>= λ name. Ok (side_of (bracketed a), name)) (named year line a parts)
    ∙ ap (λ (s : Side). Ok (s, a)) (side_is a)
