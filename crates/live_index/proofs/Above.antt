-- The accounts above an account, by the lengths of their names.
use Rattle.std.proofs.Common.{◌≡◌, ℕ, ℤ, zero, suc, ◌+◌, ◌<◌, nat_lt, nat_eq, ◌==◌, Bool, true, false, ◌&&◌, ◌||◌, List, [], ◌∷◌, ◌++◌, length, take, get_or, refl, sym, ap, subst, ◌∙◌, arith}
use Rattle.std.specs.List.{starts_with}
use Rattle.std.specs.Str.{bytes_eq}
use Rattle.std.proofs.lemmas.Bool.Decides.{nat_tests}
use Rattle.std.proofs.lemmas.Slice.Eq.{bytes_eq-Decides}
use Rattle.std.specs.Cmp.{Equal-is}
use Rattle.std.proofs.lemmas.Bool.{false≢true}
use Rattle.std.proofs.lemmas.Cmp.{tied_itself}
use Rattle.hl_base.specs.Ascii.{colon}
use Rattle.live_index.specs.declared.row.Row.{Row}
use Rattle.std.specs.Int.{int_wrap, w128}
use Rattle.std.proofs.lemmas.Int.{int_wrap-add_same}
use Rattle.live_index.specs.declared.runs.Run.{Run}
use Rattle.live_index.specs.Runs.{Alike, before, raise}
use Rattle.live_index.specs.Cells.{Key, key_cmp, is_key, counts_for, is_above, Cell, runs_in, told, AreCells, HasAdded}
use Rattle.live_index.proofs.CellLaws.{key_total, key_same}

-- ---- tests

same-bool : (a b : Bool) → (a ≡ true → b ≡ true) → (b ≡ true → a ≡ true) → a ≡ b
same-bool true b f g = sym (f refl)
same-bool false true f g = g refl
same-bool false false f g = refl

pub and-left : (a b : Bool) → (a && b) ≡ true → a ≡ true
and-left true b h = refl
and-left false b h = h

pub and-right : (a b : Bool) → (a && b) ≡ true → b ≡ true
and-right true b h = h
and-right false b h = absurd (false≢true h)

and-both : (a b : Bool) → a ≡ true → b ≡ true → (a && b) ≡ true
and-both a b h k = rw (h, k) refl

not-true : (a : Bool) → (a ≡ true → ⊥) → a ≡ false
not-true true h = absurd (h refl)
not-true false h = refl

pub eq-of : (n k : ℕ) → (n == k) ≡ true → n ≡ k
eq-of n k h = grind (arith, nat_tests)

pub eq-true : (n k : ℕ) → n ≡ k → (n == k) ≡ true
eq-true n k h = grind (arith, nat_tests)

-- ---- names

-- an account's name goes on from a name with a colon
abbrev goes_on : List ℕ → List ℕ → Bool
goes_on name account = starts_with nat_eq account (name ++ colon ∷ [])

record GoesOn (name account : List ℕ) : Type 0 where
  front : name ≡ take (length name) account
  colon_at : get_or account (length name) 0 ≡ 58
  longer : length name < length account

goes-on-at : (name account : List ℕ) → goes_on name account ≡ true → GoesOn name account
goes-on-at [] [] h = absurd (false≢true h)
goes-on-at [] (a ∷ account) h = record { front = refl; colon_at = sym (eq-of 58 a (and-left (58 == a) true h)); longer = omega arith }
goes-on-at (n ∷ name) [] h = absurd (false≢true h)
goes-on-at (n ∷ name) (a ∷ account) h =
    let rest = goes-on-at name account (and-right (n == a) _ h) in
    let first = eq-of n a (and-left (n == a) _ h) in
    record { front = λ i. first i ∷ rest.front i; colon_at = rest.colon_at; longer = omega (arith, rest.longer) }

at-goes-on : (account : List ℕ) (i : ℕ) → i < length account → get_or account i 0 ≡ 58 → goes_on (take i account) account ≡ true
at-goes-on [] i lt h = absurd (omega arith)
at-goes-on (a ∷ account) zero lt h = and-both (58 == a) true (eq-true 58 a (sym h)) refl
at-goes-on (a ∷ account) (suc i) lt h = and-both (a == a) _ (eq-true a a refl) (at-goes-on account i (omega arith) h)

length-front : (account : List ℕ) (i : ℕ) → i < length account → length (take i account) ≡ i
length-front [] i lt = absurd (omega arith)
length-front (a ∷ account) zero lt = refl
length-front (a ∷ account) (suc i) lt = ap suc (length-front account i (omega arith))

-- ---- keys

is-key-of : (key k : Key) → is_key k key ≡ true → key ≡ k
is-key-of key k h = key_same key k ((Equal-is (key_cmp key k)).0 h)

is-key-self : (key k : Key) → key ≡ k → is_key k key ≡ true
is-key-self key k e = (Equal-is (key_cmp key k)).1 (ap (λ (q : Key). key_cmp key q) (sym e) ∙ tied_itself key_total key)

key-path : (key : Key) (account symbol : List ℕ) (below : Bool) → key.account ≡ account → key.symbol ≡ symbol → key.below ≡ below → key ≡ record { account = account; symbol = symbol; below = below }
key-path key account symbol below a s b = λ i. record { account = a i; symbol = s i; below = b i }

-- the key of a name that ends before a colon
pub front-key : (account symbol : List ℕ) (i : ℕ) (key : Key) → i < length account → get_or account i 0 ≡ 58 → is_key (record { account = take i account; symbol = symbol; below = true }) key ≡ (is_above account symbol key && (length key.account == i))
front-key account symbol i key lt h =
    same-bool _ _ (λ e. there (is-key-of key _ e)) (λ e. back e)
  where
    k : Key
    k = record { account = take i account; symbol = symbol; below = true }

    there : key ≡ record { account = take i account; symbol = symbol; below = true } → (is_above account symbol key && (length key.account == i)) ≡ true
    there e =
        let P : Key → Type 0 = λ q. (is_above account symbol q && (length q.account == i)) ≡ true in
        subst P (sym e) (and-both _ _ (and-both _ _ ((bytes_eq-Decides symbol symbol).1 refl) (at-goes-on account i lt h)) (eq-true _ i (length-front account i lt)))

    back : (is_above account symbol key && (length key.account == i)) ≡ true → is_key (record { account = take i account; symbol = symbol; below = true }) key ≡ true
    back e =
        let above = and-left (is_above account symbol key) _ e in
        let rest = and-right (bytes_eq symbol key.symbol) _ above in
        let on = goes-on-at key.account account (and-right key.below _ rest) in
        let long : length key.account ≡ i = eq-of (length key.account) i (and-right (is_above account symbol key) _ e) in
        is-key-self key _ (key-path key (take i account) symbol true (on.front ∙ ap (λ (n : ℕ). take n account) long) (sym ((bytes_eq-Decides symbol key.symbol).0 (and-left (bytes_eq symbol key.symbol) _ above))) (and-left key.below _ rest))

-- no name ends where there is no colon
pub no-front-key : (account symbol : List ℕ) (i : ℕ) (key : Key) → (get_or account i 0 ≡ 58 → ⊥) → (is_above account symbol key && (length key.account == i)) ≡ false
no-front-key account symbol i key h = not-true _ (λ e.
    let above = and-left (is_above account symbol key) _ e in
    let rest = and-right (bytes_eq symbol key.symbol) _ above in
    let on = goes-on-at key.account account (and-right key.below _ rest) in
    let long : length key.account ≡ i = eq-of (length key.account) i (and-right (is_above account symbol key) _ e) in
    h (ap (λ (n : ℕ). get_or account n 0) (sym long) ∙ on.colon_at))

-- all names above are shorter
pub all-shorter : (account symbol : List ℕ) (key : Key) → (is_above account symbol key && nat_lt (length key.account) (length account)) ≡ is_above account symbol key
all-shorter account symbol key =
    same-bool _ _ (λ e. and-left _ _ e) (λ above.
    let rest = and-right (bytes_eq symbol key.symbol) _ above in
    let on = goes-on-at key.account account (and-right key.below _ rest) in
    and-both _ _ above (lt-true on.longer))
  where
    lt-true : length key.account < length account → nat_lt (length key.account) (length account) ≡ true
    lt-true h = grind (arith, nat_tests)

-- ---- the row's own keys and those above

own : (row : Row) (below : Bool) → Key
own row below = record { account = row.account; symbol = row.symbol; below = below }

own-keys : (row : Row) (key : Key) → (is_key (record { account = row.account; symbol = row.symbol; below = false }) key || is_key (record { account = row.account; symbol = row.symbol; below = true }) key) ≡ (bytes_eq row.symbol key.symbol && bytes_eq row.account key.account)
own-keys row key = same-bool _ _ (λ e. there e) (λ e. back key.below refl e)
  where
    either-of : (a b : Bool) {P : Type 0} → (a ≡ true → P) → (b ≡ true → P) → (a || b) ≡ true → P
    either-of true b f g h = f refl
    either-of false b f g h = g h

    of_key : (below : Bool) → is_key (record { account = row.account; symbol = row.symbol; below = below }) key ≡ true → (bytes_eq row.symbol key.symbol && bytes_eq row.account key.account) ≡ true
    of_key below e =
        let one = is-key-of key _ e in
        and-both _ _ ((bytes_eq-Decides row.symbol key.symbol).1 (sym (ap (λ (q : Key). q.symbol) one))) ((bytes_eq-Decides row.account key.account).1 (sym (ap (λ (q : Key). q.account) one)))

    there : (is_key (record { account = row.account; symbol = row.symbol; below = false }) key || is_key (record { account = row.account; symbol = row.symbol; below = true }) key) ≡ true → (bytes_eq row.symbol key.symbol && bytes_eq row.account key.account) ≡ true
    there e = either-of _ _ (of_key false) (of_key true) e

    or-left : (a b : Bool) → a ≡ true → (a || b) ≡ true
    or-left a b h = rw h refl

    or-right : (a b : Bool) → b ≡ true → (a || b) ≡ true
    or-right true b h = refl
    or-right false b h = h

    at_key : (below : Bool) → key.below ≡ below → (bytes_eq row.symbol key.symbol && bytes_eq row.account key.account) ≡ true → is_key (record { account = row.account; symbol = row.symbol; below = below }) key ≡ true
    at_key below b e =
        is-key-self key (record { account = row.account; symbol = row.symbol; below = below }) (key-path key row.account row.symbol below (sym ((bytes_eq-Decides row.account key.account).0 (and-right (bytes_eq row.symbol key.symbol) (bytes_eq row.account key.account) e))) (sym ((bytes_eq-Decides row.symbol key.symbol).0 (and-left (bytes_eq row.symbol key.symbol) (bytes_eq row.account key.account) e))) b)

    back : (below : Bool) → key.below ≡ below → (bytes_eq row.symbol key.symbol && bytes_eq row.account key.account) ≡ true → (is_key (record { account = row.account; symbol = row.symbol; below = false }) key || is_key (record { account = row.account; symbol = row.symbol; below = true }) key) ≡ true
    back true b e = or-right _ _ (at_key true b e)
    back false b e = or-left _ _ (at_key false b e)

own-apart : (row : Row) (key : Key) → (is_key (record { account = row.account; symbol = row.symbol; below = false }) key && is_key (record { account = row.account; symbol = row.symbol; below = true }) key) ≡ false
own-apart row key = not-true _ (λ e.
    false≢true (sym (ap (λ (q : Key). q.below) (is-key-of key _ (and-left _ _ e))) ∙ ap (λ (q : Key). q.below) (is-key-of key _ (and-right _ _ e))))

above-apart : (row : Row) (key : Key) → ((bytes_eq row.symbol key.symbol && bytes_eq row.account key.account) && is_above row.account row.symbol key) ≡ false
above-apart row key = not-true _ (λ e.
    let one : row.account ≡ key.account = (bytes_eq-Decides row.account key.account).0 (and-right (bytes_eq row.symbol key.symbol) _ (and-left _ _ e)) in
    let above = and-right (bytes_eq row.symbol key.symbol && bytes_eq row.account key.account) _ e in
    let on = goes-on-at key.account row.account (and-right key.below _ (and-right (bytes_eq row.symbol key.symbol) _ above)) in
    no_less (length row.account) (subst (λ (n : ℕ). n < length row.account) (sym (ap length one)) on.longer))
  where
    no_less : (n : ℕ) → n < n → ⊥
    no_less n h = absurd (omega arith)

counts-parts : (row : Row) (key : Key) → counts_for key row ≡ ((bytes_eq row.symbol key.symbol && bytes_eq row.account key.account) || is_above row.account row.symbol key)
counts-parts row key = spread (bytes_eq row.symbol key.symbol) (bytes_eq row.account key.account) (key.below && goes_on key.account row.account)
  where
    spread : (s a g : Bool) → (s && (a || g)) ≡ ((s && a) || (s && g))
    spread true a g = refl
    spread false a g = refl

-- ---- sums that were added to keys in turn

raise-both : (t s u : Bool) (amount sum : ℤ) → (t && s) ≡ false → u ≡ (t || s) → raise s amount (raise t amount sum) ≡ raise u amount sum
raise-both true true u amount sum h e = absurd (false≢true (sym h))
raise-both true false u amount sum h e = ap (λ (b : Bool). raise b amount sum) (sym e)
raise-both false s u amount sum h e = ap (λ (b : Bool). raise b amount sum) (sym e)

raise-alike : (b : Bool) (amount x y : ℤ) → Alike x y → Alike (raise b amount x) (raise b amount y)
raise-alike true amount x y h = int_wrap-add_same w128 x y amount h
raise-alike false amount x y h = h

pub added-both : (t s u : Key → Bool) (sums : List (List Run)) (old mid new : List Cell) → ((key : Key) → (t key && s key) ≡ false) → ((key : Key) → u key ≡ (t key || s key)) → HasAdded t sums old mid → HasAdded s sums mid new → HasAdded u sums old new
added-both t s u sums old mid new apart is first second = record {
  cells = second.cells;
  gained = λ key places end.
      second.gained key places end
      ∙ raise-alike (s key) (before (runs_in sums places) end) (told key mid places end) (raise (t key) (before (runs_in sums places) end) (told key old places end)) (first.gained key places end)
      ∙ ap (int_wrap w128) (raise-both (t key) (s key) (u key) (before (runs_in sums places) end) (told key old places end) (apart key) (is key));
}

pub added-along : (t u : Key → Bool) (sums : List (List Run)) (old new : List Cell) → ((key : Key) → u key ≡ t key) → HasAdded t sums old new → HasAdded u sums old new
added-along t u sums old new is h = record {
  cells = h.cells;
  gained = λ key places end. h.gained key places end ∙ ap (λ (b : Bool). int_wrap w128 (raise b (before (runs_in sums places) end) (told key old places end))) (sym (is key));
}

pub added-none : (t : Key → Bool) (sums : List (List Run)) (cells : List Cell) → ((key : Key) → t key ≡ false) → AreCells cells → HasAdded t sums cells cells
added-none t sums cells none cells_are = record {
  cells = cells_are;
  gained = λ key places end. sym (ap (λ (b : Bool). int_wrap w128 (raise b (before (runs_in sums places) end) (told key cells places end))) (none key));
}

-- sums were added to the keys of a row and to those above
pub added-all : (row : Row) (sums : List (List Run)) (old one two new : List Cell) → HasAdded (is_key (record { account = row.account; symbol = row.symbol; below = false })) sums old one → HasAdded (is_key (record { account = row.account; symbol = row.symbol; below = true })) sums one two → HasAdded (is_above row.account row.symbol) sums two new → HasAdded (λ key. counts_for key row) sums old new
added-all row sums old one two new first second above =
    added-both (λ key. bytes_eq row.symbol key.symbol && bytes_eq row.account key.account) (is_above row.account row.symbol) (λ key. counts_for key row) sums old two new (above-apart row) (counts-parts row)
    (added-both (is_key (record { account = row.account; symbol = row.symbol; below = false })) (is_key (record { account = row.account; symbol = row.symbol; below = true })) (λ key. bytes_eq row.symbol key.symbol && bytes_eq row.account key.account) sums old one two (own-apart row) (λ key. sym (own-keys row key)) first second)
    above

-- one name more of those above
pub added-more : (account symbol : List ℕ) (sums : List (List Run)) (i : ℕ) (old mid new : List Cell) → i < length account → get_or account i 0 ≡ 58 → HasAdded (λ key. is_above account symbol key && nat_lt (length key.account) i) sums old mid → HasAdded (is_key (record { account = take i account; symbol = symbol; below = true })) sums mid new → HasAdded (λ key. is_above account symbol key && nat_lt (length key.account) (i + 1)) sums old new
added-more account symbol sums i old mid new lt h first second =
    added-both (λ key. is_above account symbol key && nat_lt (length key.account) i) (λ key. is_above account symbol key && (length key.account == i)) (λ key. is_above account symbol key && nat_lt (length key.account) (i + 1)) sums old mid new
    (λ key. apart (is_above account symbol key) (length key.account)) (λ key. joined (is_above account symbol key) (length key.account)) first
    (added-along (is_key (record { account = take i account; symbol = symbol; below = true })) (λ key. is_above account symbol key && (length key.account == i)) sums mid new (λ key. sym (front-key account symbol i key lt h)) second)
  where
    apart : (a : Bool) (n : ℕ) → ((a && nat_lt n i) && (a && (n == i))) ≡ false
    apart true n = grind (arith, nat_tests)
    apart false n = refl

    joined : (a : Bool) (n : ℕ) → (a && nat_lt n (i + 1)) ≡ ((a && nat_lt n i) || (a && (n == i)))
    joined true n = grind (arith, nat_tests)
    joined false n = refl

-- a byte that is no colon
pub added-same : (account symbol : List ℕ) (sums : List (List Run)) (i : ℕ) (old new : List Cell) → (get_or account i 0 ≡ 58 → ⊥) → HasAdded (λ key. is_above account symbol key && nat_lt (length key.account) i) sums old new → HasAdded (λ key. is_above account symbol key && nat_lt (length key.account) (i + 1)) sums old new
added-same account symbol sums i old new h first =
    added-along (λ key. is_above account symbol key && nat_lt (length key.account) i) (λ key. is_above account symbol key && nat_lt (length key.account) (i + 1)) sums old new (λ key. same (is_above account symbol key) (length key.account) (no-front-key account symbol i key h)) first
  where
    same : (a : Bool) (n : ℕ) → (a && (n == i)) ≡ false → (a && nat_lt n (i + 1)) ≡ (a && nat_lt n i)
    same true n e = grind (arith, nat_tests)
    same false n e = refl

-- no name is shorter than none
pub added-start : (account symbol : List ℕ) (sums : List (List Run)) (cells : List Cell) → AreCells cells → HasAdded (λ key. is_above account symbol key && nat_lt (length key.account) 0) sums cells cells
added-start account symbol sums cells cells_are =
    added-none (λ key. is_above account symbol key && nat_lt (length key.account) 0) sums cells (λ key. none (is_above account symbol key) (length key.account)) cells_are
  where
    none : (a : Bool) (n : ℕ) → (a && nat_lt n 0) ≡ false
    none true n = grind (arith, nat_tests)
    none false n = refl

-- all names
pub added-end : (account symbol : List ℕ) (sums : List (List Run)) (i : ℕ) (old new : List Cell) → i ≡ length account → HasAdded (λ key. is_above account symbol key && nat_lt (length key.account) i) sums old new → HasAdded (is_above account symbol) sums old new
added-end account symbol sums i old new e first =
    added-along (λ key. is_above account symbol key && nat_lt (length key.account) i) (is_above account symbol) sums old new (λ key. sym (all-shorter account symbol key) ∙ ap (λ (n : ℕ). is_above account symbol key && nat_lt (length key.account) n) (sym e)) first
