-- What the lines of an entry sum to.
use Rattle.std.proofs.Common.{◌≡◌, ℕ, zero, suc, ℤ, pos, negsuc, ◌+ℤ◌, neg_ℤ, unsigned_abs, Bool, true, false, not, cond, List, [], ◌∷◌, ◌++◌, map, filter, Option, Some, None, refl, sym, ap, ◌∙◌, arith}
use Rattle.std.specs.List.{flat_map}
use Rattle.std.specs.Str.{bytes_eq}
use Rattle.std.proofs.lemmas.Bool.{false≢true, ne_eqb, or_parts, or_left, or_right}
use Rattle.std.proofs.lemmas.Cmp.{nat_list_eq_equiv}
use Rattle.std.proofs.lemmas.Int.{ints}
use Rattle.hl_num.specs.Decimal.{units_of}
use Rattle.book.specs.Accounts.{account_cmp, accounts_of}
use Rattle.book.specs.Order.{each_once}
use Rattle.book.specs.Sums.{share, sum_of, of_account, symbol_in, symbols_of, mixed_of, is_nonzero}
use Rattle.book.specs.declared.amount.Amount.{Amount}
use Rattle.book.specs.declared.transaction.Posting.{Posting}
use Rattle.book_care.specs.Entries.{Writing, posted, posted_from}
use Rattle.book_care.specs.Lines.{Moved, shortest, line_of, turned, closed, all_closed, taken_into, opposite}
use Rattle.book_care.proofs.Shortened.{units_shortest, units_negated}
use Rattle.book_care.proofs.Totals.{picked, total_at, is_in, itself, zero_left, account_total_at, symbol_total_at}

-- ---- what lines bring to an account, and to all accounts

abbrev pub moved_in : List ℕ → Moved → ℤ
moved_in s m = picked (bytes_eq m.symbol s) (units_of m.value)

abbrev pub lines_in : List ℕ → List Moved → ℤ
lines_in s [] = pos 0
lines_in s (m ∷ ms) = moved_in s m +ℤ lines_in s ms

abbrev pub lines_at : List ℕ → List ℕ → List Moved → ℤ
lines_at a s [] = pos 0
lines_at a s (m ∷ ms) = picked (bytes_eq m.account a) (moved_in s m) +ℤ lines_at a s ms

pub posted_at : (styles : Writing) (a s : List ℕ) (n : ℕ) (ms : List Moved) → sum_of s (of_account a (posted_from styles n ms)) ≡ lines_at a s ms
posted_at styles a s n [] = refl
posted_at styles a s n (m ∷ ms) =
    elim (bytes_eq m.account a) as (λ b. sum_of s (cond b (posted styles n m ∷ of_account a (posted_from styles (suc n) ms)) (of_account a (posted_from styles (suc n) ms))) ≡ picked b (moved_in s m) +ℤ lines_at a s ms) [
      | true ↦ ap (λ z. moved_in s m +ℤ z) (posted_at styles a s (suc n) ms)
      | false ↦ posted_at styles a s (suc n) ms ∙ sym (zero_left (lines_at a s ms))
    ]

pub posted_in : (styles : Writing) (s : List ℕ) (n : ℕ) (ms : List Moved) → sum_of s (posted_from styles n ms) ≡ lines_in s ms
posted_in styles s n [] = refl
posted_in styles s n (m ∷ ms) = ap (λ z. moved_in s m +ℤ z) (posted_in styles s (suc n) ms)

swap_sums : (x y z : ℤ) → x +ℤ (y +ℤ z) ≡ (x +ℤ y) +ℤ z
swap_sums x y z = omega (arith, ints)

pub lines_at-append : (a s : List ℕ) (xs ys : List Moved) → lines_at a s (xs ++ ys) ≡ lines_at a s xs +ℤ lines_at a s ys
lines_at-append a s [] ys = sym (zero_left (lines_at a s ys))
lines_at-append a s (m ∷ xs) ys =
    ap (λ z. picked (bytes_eq m.account a) (moved_in s m) +ℤ z) (lines_at-append a s xs ys)
    ∙ swap_sums (picked (bytes_eq m.account a) (moved_in s m)) (lines_at a s xs) (lines_at a s ys)

pub lines_in-append : (s : List ℕ) (xs ys : List Moved) → lines_in s (xs ++ ys) ≡ lines_in s xs +ℤ lines_in s ys
lines_in-append s [] ys = sym (zero_left (lines_in s ys))
lines_in-append s (m ∷ xs) ys =
    ap (λ z. moved_in s m +ℤ z) (lines_in-append s xs ys) ∙ swap_sums (moved_in s m) (lines_in s xs) (lines_in s ys)

-- ---- the other sign

negs : (x y : ℤ) → neg_ℤ x +ℤ neg_ℤ y ≡ neg_ℤ (x +ℤ y)
negs x y = omega (arith, ints)

picked-neg : (b : Bool) (z : ℤ) → picked b (neg_ℤ z) ≡ neg_ℤ (picked b z)
picked-neg true z = refl
picked-neg false z = refl

moved-opposite : (s : List ℕ) (m : Moved) → moved_in s (opposite m) ≡ neg_ℤ (moved_in s m)
moved-opposite s m = ap (picked (bytes_eq m.symbol s)) (units_negated m.value) ∙ picked-neg (bytes_eq m.symbol s) (units_of m.value)

pub lines_at-opposite : (a s : List ℕ) (ms : List Moved) → lines_at a s (map opposite ms) ≡ neg_ℤ (lines_at a s ms)
lines_at-opposite a s [] = refl
lines_at-opposite a s (m ∷ ms) =
    ap (λ z. picked (bytes_eq m.account a) z +ℤ lines_at a s (map opposite ms)) (moved-opposite s m)
    ∙ ap (λ z. z +ℤ lines_at a s (map opposite ms)) (picked-neg (bytes_eq m.account a) (moved_in s m))
    ∙ ap (λ z. neg_ℤ (picked (bytes_eq m.account a) (moved_in s m)) +ℤ z) (lines_at-opposite a s ms)
    ∙ negs (picked (bytes_eq m.account a) (moved_in s m)) (lines_at a s ms)

pub lines_in-opposite : (s : List ℕ) (ms : List Moved) → lines_in s (map opposite ms) ≡ neg_ℤ (lines_in s ms)
lines_in-opposite s [] = refl
lines_in-opposite s (m ∷ ms) =
    ap (λ z. z +ℤ lines_in s (map opposite ms)) (moved-opposite s m)
    ∙ ap (λ z. neg_ℤ (moved_in s m) +ℤ z) (lines_in-opposite s ms)
    ∙ negs (moved_in s m) (lines_in s ms)

-- ---- the sums of several symbols

-- what stands at a symbol
abbrev pub sums_at : List ℕ → List (List ℕ × ℤ) → ℤ
sums_at s [] = pos 0
sums_at s (e ∷ es) = picked (bytes_eq e.0 s) e.1 +ℤ sums_at s es

nonzero_above : (n : ℕ) → is_nonzero (pos (suc n)) ≡ true
nonzero_above n = ap not (ne_eqb (suc n) 0 (omega arith))

nonzero_below : (n : ℕ) → is_nonzero (negsuc n) ≡ true
nonzero_below n = ap not (ne_eqb (unsigned_abs (negsuc n)) 0 (omega arith))

picked-zero : (b : Bool) (z : ℤ) → is_nonzero z ≡ false → picked b z ≡ pos 0
picked-zero true (pos zero) e = refl
picked-zero true (pos (suc n)) e = absurd (false≢true (sym e ∙ nonzero_above n))
picked-zero true (negsuc n) e = absurd (false≢true (sym e ∙ nonzero_below n))
picked-zero false z e = refl

-- sums that are zero add nothing
nonzero_at : (s : List ℕ) (value : List ℕ → ℤ) (ks : List (List ℕ)) → sums_at s (filter (λ (e : List ℕ × ℤ). is_nonzero e.1) (map (λ (k : List ℕ). (k, value k)) ks)) ≡ total_at value s ks
nonzero_at s value [] = refl
nonzero_at s value (k ∷ ks) =
    let rest = nonzero_at s value ks in
    let left = filter (λ (e : List ℕ × ℤ). is_nonzero e.1) (map (λ (j : List ℕ). (j, value j)) ks) in
    elim (is_nonzero (value k)) as (λ b. is_nonzero (value k) ≡ b → sums_at s (cond b ((k, value k) ∷ left) left) ≡ picked (bytes_eq k s) (value k) +ℤ total_at value s ks) [
      | true ↦ λ e. ap (λ z. picked (bytes_eq k s) (value k) +ℤ z) rest
      | false ↦ λ e. rest ∙ sym (zero_left (total_at value s ks)) ∙ ap (λ z. z +ℤ total_at value s ks) (sym (picked-zero (bytes_eq k s) (value k) e))
    ] refl

-- a symbol that isn't there sums to nothing
no_share : (s : List ℕ) (amount : Option Amount) (more : List (List ℕ)) → is_in s (symbol_in amount ++ more) ≡ false → (share s amount ≡ pos 0) × (is_in s more ≡ false)
no_share s None more h = (refl, h)
no_share s (Some a) more h =
    let parts = or_parts (bytes_eq a.symbol s) (is_in s more) h in
    (ap (λ (b : Bool). cond b (units_of a.value) (pos 0)) parts.0, parts.1)

no_sum : (s : List ℕ) (ps : List Posting) → is_in s (flat_map (λ (p : Posting). symbol_in p.amount) ps) ≡ false → sum_of s ps ≡ pos 0
no_sum s [] h = refl
no_sum s (p ∷ ps) h =
    let parts = no_share s p.amount (flat_map (λ (q : Posting). symbol_in q.amount) ps) h in
    ap (λ z. z +ℤ sum_of s ps) parts.0 ∙ zero_left (sum_of s ps) ∙ no_sum s ps parts.1

there_or_nothing : (s : List ℕ) (ps : List Posting) (b : Bool) → is_in s (flat_map (λ (p : Posting). symbol_in p.amount) ps) ≡ b → picked b (sum_of s ps) ≡ sum_of s ps
there_or_nothing s ps true e = refl
there_or_nothing s ps false e = sym (no_sum s ps e)

-- the sums of some postings say what these sum to
pub mixed_at : (s : List ℕ) (ps : List Posting) → sums_at s (mixed_of ps) ≡ sum_of s ps
mixed_at s ps =
    nonzero_at s (λ (k : List ℕ). sum_of k ps) (symbols_of ps)
    ∙ symbol_total_at (λ (k : List ℕ). sum_of k ps) s (flat_map (λ (p : Posting). symbol_in p.amount) ps)
    ∙ there_or_nothing s ps (is_in s (flat_map (λ (p : Posting). symbol_in p.amount) ps)) refl

-- ---- the lines of sums

merged : (t c : Bool) (u z more : ℤ) → u ≡ z → picked t (picked c u) +ℤ picked t more ≡ picked t (picked c z +ℤ more)
merged true c u z more same = ap (λ x. picked c x +ℤ more) same
merged false c u z more same = refl

merged-neg : (t c : Bool) (u z more : ℤ) → u ≡ neg_ℤ z → picked t (picked c u) +ℤ picked t (neg_ℤ more) ≡ picked t (neg_ℤ (picked c z +ℤ more))
merged-neg true c u z more same = ap (λ x. picked c x +ℤ neg_ℤ more) same ∙ ap (λ x. x +ℤ neg_ℤ more) (picked-neg c z) ∙ negs (picked c z) more
merged-neg false c u z more same = refl

picked-none : (b : Bool) → picked b (pos 0) ≡ pos 0
picked-none true = refl
picked-none false = refl

taken_at : (a s account : List ℕ) (es : List (List ℕ × ℤ)) → lines_at a s (map (line_of account) es) ≡ picked (bytes_eq account a) (sums_at s es)
taken_at a s account [] = sym (picked-none (bytes_eq account a))
taken_at a s account (e ∷ es) =
    ap (λ z. picked (bytes_eq account a) (picked (bytes_eq e.0 s) (units_of (shortest e.1))) +ℤ z) (taken_at a s account es)
    ∙ merged (bytes_eq account a) (bytes_eq e.0 s) (units_of (shortest e.1)) e.1 (sums_at s es) (units_shortest e.1)

closed_at : (a s account : List ℕ) (es : List (List ℕ × ℤ)) → lines_at a s (map (λ (e : List ℕ × ℤ). line_of account (turned e)) es) ≡ picked (bytes_eq account a) (neg_ℤ (sums_at s es))
closed_at a s account [] = sym (picked-none (bytes_eq account a))
closed_at a s account (e ∷ es) =
    ap (λ z. picked (bytes_eq account a) (picked (bytes_eq e.0 s) (units_of (shortest (neg_ℤ e.1)))) +ℤ z) (closed_at a s account es)
    ∙ merged-neg (bytes_eq account a) (bytes_eq e.0 s) (units_of (shortest (neg_ℤ e.1))) e.1 (sums_at s es) (units_shortest (neg_ℤ e.1))

taken_in : (s account : List ℕ) (es : List (List ℕ × ℤ)) → lines_in s (map (line_of account) es) ≡ sums_at s es
taken_in s account [] = refl
taken_in s account (e ∷ es) =
    ap (λ z. picked (bytes_eq e.0 s) (units_of (shortest e.1)) +ℤ z) (taken_in s account es)
    ∙ ap (λ z. picked (bytes_eq e.0 s) z +ℤ sums_at s es) (units_shortest e.1)

closed_in : (s account : List ℕ) (es : List (List ℕ × ℤ)) → lines_in s (map (λ (e : List ℕ × ℤ). line_of account (turned e)) es) ≡ neg_ℤ (sums_at s es)
closed_in s account [] = refl
closed_in s account (e ∷ es) =
    ap (λ z. picked (bytes_eq e.0 s) (units_of (shortest (neg_ℤ e.1))) +ℤ z) (closed_in s account es)
    ∙ merged-neg true (bytes_eq e.0 s) (units_of (shortest (neg_ℤ e.1))) e.1 (sums_at s es) (units_shortest (neg_ℤ e.1))

-- ---- the lines of all accounts

-- what an account sums to
abbrev pub held_in : List Posting → List ℕ → List ℕ → ℤ
held_in ps s a = sum_of s (of_account a ps)

each_closed : (a s : List ℕ) (ps : List Posting) (accounts : List (List ℕ)) → lines_at a s (flat_map (closed ps) accounts) ≡ neg_ℤ (total_at (held_in ps s) a accounts)
each_closed a s ps [] = refl
each_closed a s ps (b ∷ accounts) =
    lines_at-append a s (closed ps b) (flat_map (closed ps) accounts)
    ∙ ap (λ z. z +ℤ lines_at a s (flat_map (closed ps) accounts)) (closed_at a s b (mixed_of (of_account b ps)) ∙ ap (λ z. picked (bytes_eq b a) (neg_ℤ z)) (mixed_at s (of_account b ps)) ∙ picked-neg (bytes_eq b a) (held_in ps s b))
    ∙ ap (λ z. neg_ℤ (picked (bytes_eq b a) (held_in ps s b)) +ℤ z) (each_closed a s ps accounts)
    ∙ negs (picked (bytes_eq b a) (held_in ps s b)) (total_at (held_in ps s) a accounts)

-- an account without postings sums to nothing
no_account : (a s : List ℕ) (ps : List Posting) → is_in a (map (λ (p : Posting). p.account) ps) ≡ false → held_in ps s a ≡ pos 0
no_account a s [] h = refl
no_account a s (p ∷ ps) h =
    let parts = or_parts (bytes_eq p.account a) (is_in a (map (λ (q : Posting). q.account) ps)) h in
    ap (λ (b : Bool). sum_of s (cond b (p ∷ of_account a ps) (of_account a ps))) parts.0 ∙ no_account a s ps parts.1

held_or_nothing : (a s : List ℕ) (ps : List Posting) (b : Bool) → is_in a (map (λ (p : Posting). p.account) ps) ≡ b → picked b (held_in ps s a) ≡ held_in ps s a
held_or_nothing a s ps true e = refl
held_or_nothing a s ps false e = sym (no_account a s ps e)

-- the closing lines take away what each account holds
pub all_closed_at : (a s : List ℕ) (ps : List Posting) → lines_at a s (all_closed ps) ≡ neg_ℤ (held_in ps s a)
all_closed_at a s ps =
    each_closed a s ps (accounts_of ps)
    ∙ ap neg_ℤ (account_total_at (held_in ps s) a (map (λ (p : Posting). p.account) ps) ∙ held_or_nothing a s ps (is_in a (map (λ (p : Posting). p.account) ps)) refl)

-- another account takes nothing
pub taken_into_at : (a s into : List ℕ) (ps : List Posting) → bytes_eq into a ≡ false → lines_at a s (taken_into into ps) ≡ pos 0
taken_into_at a s into ps other =
    taken_at a s into (mixed_of ps) ∙ ap (λ b. picked b (sums_at s (mixed_of ps))) other

-- ---- all accounts together

-- what some accounts sum to
abbrev pub held_by : List Posting → List ℕ → List (List ℕ) → ℤ
held_by ps s [] = pos 0
held_by ps s (a ∷ accounts) = held_in ps s a +ℤ held_by ps s accounts

held_by-none : (s : List ℕ) (accounts : List (List ℕ)) → held_by [] s accounts ≡ pos 0
held_by-none s [] = refl
held_by-none s (a ∷ accounts) = zero_left (held_by [] s accounts) ∙ held_by-none s accounts

exchanged : (x y z w : ℤ) → (x +ℤ y) +ℤ (z +ℤ w) ≡ (x +ℤ z) +ℤ (y +ℤ w)
exchanged x y z w = omega (arith, ints)

one_held : (s a : List ℕ) (p : Posting) (ps : List Posting) → held_in (p ∷ ps) s a ≡ picked (bytes_eq a p.account) (share s p.amount) +ℤ held_in ps s a
one_held s a p ps =
    by_account (bytes_eq p.account a)
    ∙ ap (λ b. picked b (share s p.amount) +ℤ held_in ps s a) (nat_list_eq_equiv.symm p.account a)
  where
    by_account : (b : Bool) → sum_of s (cond b (p ∷ of_account a ps) (of_account a ps)) ≡ picked b (share s p.amount) +ℤ held_in ps s a
    by_account true = refl
    by_account false = sym (zero_left (held_in ps s a))

held_by-more : (s : List ℕ) (p : Posting) (ps : List Posting) (accounts : List (List ℕ)) → held_by (p ∷ ps) s accounts ≡ total_at (λ (a : List ℕ). share s p.amount) p.account accounts +ℤ held_by ps s accounts
held_by-more s p ps [] = refl
held_by-more s p ps (a ∷ accounts) =
    ap (λ z. z +ℤ held_by (p ∷ ps) s accounts) (one_held s a p ps)
    ∙ ap (λ z. (picked (bytes_eq a p.account) (share s p.amount) +ℤ held_in ps s a) +ℤ z) (held_by-more s p ps accounts)
    ∙ exchanged (picked (bytes_eq a p.account) (share s p.amount)) (held_in ps s a) (total_at (λ (b : List ℕ). share s p.amount) p.account accounts) (held_by ps s accounts)

-- each posting is of one of the accounts
module _ (names : List (List ℕ)) where
  abbrev AreIn : List Posting → Type 0
  AreIn ps = (a : List ℕ) → is_in a (map (λ (p : Posting). p.account) ps) ≡ true → is_in a names ≡ true

  held_by-all : (s : List ℕ) (ps : List Posting) → AreIn ps → held_by ps s (each_once account_cmp names) ≡ sum_of s ps
  held_by-all s [] h = held_by-none s (each_once account_cmp names)
  held_by-all s (p ∷ ps) h =
      let here : is_in p.account names ≡ true = h p.account (or_left (bytes_eq p.account p.account) (is_in p.account (map (λ (q : Posting). q.account) ps)) (itself p.account)) in
      let rest = held_by-all s ps (λ a e. h a (or_right (bytes_eq p.account a) (is_in a (map (λ (q : Posting). q.account) ps)) e)) in
      held_by-more s p ps (each_once account_cmp names)
      ∙ ap (λ z. z +ℤ held_by ps s (each_once account_cmp names)) (account_total_at (λ (a : List ℕ). share s p.amount) p.account names ∙ ap (λ b. picked b (share s p.amount)) here)
      ∙ ap (λ z. share s p.amount +ℤ z) rest

each_closed_in : (s : List ℕ) (ps : List Posting) (accounts : List (List ℕ)) → lines_in s (flat_map (closed ps) accounts) ≡ neg_ℤ (held_by ps s accounts)
each_closed_in s ps [] = refl
each_closed_in s ps (a ∷ accounts) =
    lines_in-append s (closed ps a) (flat_map (closed ps) accounts)
    ∙ ap (λ z. z +ℤ lines_in s (flat_map (closed ps) accounts)) (closed_in s a (mixed_of (of_account a ps)) ∙ ap neg_ℤ (mixed_at s (of_account a ps)))
    ∙ ap (λ z. neg_ℤ (held_in ps s a) +ℤ z) (each_closed_in s ps accounts)
    ∙ negs (held_in ps s a) (held_by ps s accounts)

opposites : (z : ℤ) → neg_ℤ z +ℤ z ≡ pos 0
opposites z = omega (arith, ints)

-- the lines of the closing entry sum to nothing
pub closing_even : (s into : List ℕ) (ps : List Posting) → lines_in s (all_closed ps ++ taken_into into ps) ≡ pos 0
closing_even s into ps =
    lines_in-append s (all_closed ps) (taken_into into ps)
    ∙ ap (λ z. z +ℤ lines_in s (taken_into into ps)) (each_closed_in s ps (accounts_of ps) ∙ ap neg_ℤ (held_by-all (map (λ (p : Posting). p.account) ps) s ps (λ a e. e)))
    ∙ ap (λ z. neg_ℤ (sum_of s ps) +ℤ z) (taken_in s into (mixed_of ps) ∙ mixed_at s ps)
    ∙ opposites (sum_of s ps)
