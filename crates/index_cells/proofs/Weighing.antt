-- What the weights of takings tell: net counts, tests and turnovers.
use Rattle.std.proofs.Common.{◌≡◌, ℕ, ℤ, pos, ◌+◌, ◌≤◌, ◌+ℤ◌, unsigned_abs, Bool, true, false, cond, ◌||◌, List, [], ◌∷◌, ◌++◌, map, refl, sym, ap, ◌∙◌, arith}
use Rattle.std.specs.List.{list_any}
use Rattle.std.proofs.lemmas.Bool.{or_parts}
use Rattle.std.proofs.lemmas.Int.{ints}
use Rattle.std.proofs.lemmas.List.{map-append}
use Rattle.live_index.specs.declared.row.Row.{Row}
use Rattle.live_index.specs.Net.{net, SameNet, negated_row}
use Rattle.report_cells.specs.Bounds.{turnover_in}
use Rattle.report_cells.specs.Taken.{Taken, share_in}
use Rattle.index_cells.specs.Exchange.{weighed, IsExchange}
use Rattle.index_cells.specs.Rowed.{rowed, rowed_all, rowed_off}
use Rattle.index_cells.proofs.Nets.{net_append, net_off}

-- ---- net counts of the rows of takings

pub net_rowed : (q : Row) (ts : List Taken) → net q (rowed_all ts) ≡ weighed (λ t. net q (rowed t.account t.day t.amount)) ts
net_rowed q [] = refl
net_rowed q (t ∷ ts) =
    net_append q (rowed t.account t.day t.amount) (rowed_all ts)
    ∙ ap (λ (z : ℤ). net q (rowed t.account t.day t.amount) +ℤ z) (net_rowed q ts)

-- the rows that take off those of takings
off_is : (ts : List Taken) → rowed_off ts ≡ map negated_row (rowed_all ts)
off_is [] = refl
off_is (t ∷ ts) =
    ap (λ (rows : List Row). map negated_row (rowed t.account t.day t.amount) ++ rows) (off_is ts)
    ∙ sym (map-append negated_row (rowed t.account t.day t.amount) (rowed_all ts))

pub rowed_off_net : (q : Row) (ts : List Taken) → net q (rowed_off ts) +ℤ net q (rowed_all ts) ≡ pos 0
rowed_off_net q ts = ap (λ (rows : List Row). net q rows +ℤ net q (rowed_all ts)) (off_is ts) ∙ net_off q (rowed_all ts)

-- ---- rows of takings in the place of others

put_after : (a g b m kept off put : ℤ) → a +ℤ g ≡ b +ℤ m → kept ≡ b → off +ℤ g ≡ pos 0 → put ≡ kept +ℤ (off +ℤ m) → a ≡ put
put_after a g b m kept off put whole is gone all = omega (arith, ints, whole, is, gone, all)

module _ (rows off : List Taken → List Row) (weigh : Row → Taken → ℤ) (is : (q : Row) (ts : List Taken) → net q (rows ts) ≡ weighed (weigh q) ts) (gone_is : (q : Row) (ts : List Taken) → net q (off ts) +ℤ net q (rows ts) ≡ pos 0) where
  pub exchanged : (before gone more after : List Taken) (kept : List Row) → IsExchange before gone more after → SameNet (rows before) kept → SameNet (rows after) (kept ++ (off gone ++ rows more))
  exchanged before gone more after kept whole same = λ q.
      put_after (net q (rows after)) (net q (rows gone)) (net q (rows before)) (net q (rows more)) (net q kept) (net q (off gone)) (net q (kept ++ (off gone ++ rows more)))
      ((λ i. is q after i +ℤ is q gone i) ∙ whole (weigh q) ∙ sym (λ i. is q before i +ℤ is q more i))
      (sym (same q)) (gone_is q gone)
      (net_append q kept (off gone ++ rows more) ∙ ap (λ (z : ℤ). net q kept +ℤ z) (net_append q (off gone) (rows more)))

-- ---- natural numbers

-- the sum of what each taking counts
abbrev pub counted : (Taken → ℕ) → List Taken → ℕ
counted count [] = 0
counted count (t ∷ ts) = count t + counted count ts

added : (m n : ℕ) → pos m +ℤ pos n ≡ pos (m + n)
added m n = omega (arith, ints)

counts_weigh : (count : Taken → ℕ) (ts : List Taken) → weighed (λ t. pos (count t)) ts ≡ pos (counted count ts)
counts_weigh count [] = refl
counts_weigh count (t ∷ ts) = ap (λ (z : ℤ). pos (count t) +ℤ z) (counts_weigh count ts) ∙ added (count t) (counted count ts)

both_sums : (a g b m : ℕ) (za zg zb zm : ℤ) → za ≡ pos a → zg ≡ pos g → zb ≡ pos b → zm ≡ pos m → za +ℤ zg ≡ zb +ℤ zm → a + g ≡ b + m
both_sums a g b m za zg zb zm ea eg eb em whole = omega (arith, ints, ea, eg, eb, em, whole)

counts_exchange : (count : Taken → ℕ) (before gone more after : List Taken) → IsExchange before gone more after → counted count after + counted count gone ≡ counted count before + counted count more
counts_exchange count before gone more after whole =
    both_sums (counted count after) (counted count gone) (counted count before) (counted count more) _ _ _ _
    (counts_weigh count after) (counts_weigh count gone) (counts_weigh count before) (counts_weigh count more) (whole (λ t. pos (count t)))

-- a turnover
turnover_counted : (symbol : List ℕ) (ts : List Taken) → counted (λ t. unsigned_abs (share_in symbol t.amount)) ts ≡ turnover_in symbol ts
turnover_counted symbol [] = refl
turnover_counted symbol (t ∷ ts) = ap (λ (n : ℕ). unsigned_abs (share_in symbol t.amount) + n) (turnover_counted symbol ts)

pub none_turned : (symbol : List ℕ) (before gone more after : List Taken) → IsExchange before gone more after → turnover_in symbol before ≡ 0 → turnover_in symbol more ≡ 0 → turnover_in symbol after ≡ 0
none_turned symbol before gone more after whole old new =
    omega (arith, counts_exchange (λ t. unsigned_abs (share_in symbol t.amount)) before gone more after whole, turnover_counted symbol before, turnover_counted symbol more, turnover_counted symbol after, old, new)

-- those that pass a test
abbrev pub passing : (Taken → Bool) → List Taken → ℕ
passing p ts = counted (λ t. cond (p t) 1 0) ts

none_pass : (p : Taken → Bool) (ts : List Taken) → list_any p ts ≡ false → passing p ts ≡ 0
none_pass p [] h = refl
none_pass p (t ∷ ts) h =
    let both = or_parts (p t) (list_any p ts) h in
    (λ i. cond (both.0 i) 1 0 + none_pass p ts both.1 i)

pass_none : (p : Taken → Bool) (ts : List Taken) → passing p ts ≡ 0 → list_any p ts ≡ false
pass_none p [] h = refl
pass_none p (t ∷ ts) h =
    let rest : passing p ts ≡ 0 → list_any p ts ≡ false = pass_none p ts in
    elim (p t) as (λ b. cond b 1 0 + passing p ts ≡ 0 → (b || list_any p ts) ≡ false) [
      | true ↦ λ one_more. absurd (omega (arith, one_more))
      | false ↦ λ none. rest (omega (arith, none))
    ] h

pub none_among : (p : Taken → Bool) (before gone more after : List Taken) → IsExchange before gone more after → list_any p before ≡ false → list_any p more ≡ false → list_any p after ≡ false
none_among p before gone more after whole old new =
    pass_none p after (omega (arith, counts_exchange (λ t. cond (p t) 1 0) before gone more after whole, none_pass p before old, none_pass p more new))

either_passes : (a b c : Bool) → (b ≡ false → c ≡ false → a ≡ false) → (a ≡ false → (b ≡ false) × (c ≡ false)) → a ≡ (b || c)
either_passes true true c none both = refl
either_passes true false true none both = refl
either_passes true false false none both = none refl refl
either_passes false true c none both = sym (both refl).0
either_passes false false true none both = sym (both refl).1
either_passes false false false none both = refl

-- where of those that pass as many are put in as are gone, or more, and none is gone that wasn't there
pub any_among : (p : Taken → Bool) (before gone more after : List Taken) → IsExchange before gone more after → passing p gone ≤ passing p more → (list_any p before ≡ false → list_any p gone ≡ false)
    → list_any p after ≡ (list_any p before || list_any p more)
any_among p before gone more after whole fewer known =
    either_passes (list_any p after) (list_any p before) (list_any p more) (none_among p before gone more after whole)
    (λ none.
    let all : passing p after + passing p gone ≡ passing p before + passing p more = counts_exchange (λ t. cond (p t) 1 0) before gone more after whole in
    let old : list_any p before ≡ false = pass_none p before (omega (arith, all, fewer, none_pass p after none)) in
    (old, pass_none p more (omega (arith, all, none_pass p after none, none_pass p gone (known old)))))
