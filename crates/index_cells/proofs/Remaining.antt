-- Takings in whose place others stand, of the same names.
use Rattle.std.proofs.Common.{◌≡◌, ℕ, ◌+◌, ◌<◌, ◌≤◌, Bool, true, false, cond, ◌&&◌, ◌||◌, List, [], ◌∷◌, length, zero, suc, take, take_all, get_or, Option, Some, None, refl, sym, ap, ◌∙◌, add-one, arith}
use Rattle.std.specs.List.{list_any}
use Rattle.std.specs.Str.{bytes_eq}
use Rattle.std.proofs.lemmas.Bool.{and_parts, false≢true}
use Rattle.std.proofs.lemmas.Slice.Eq.{bytes_eq-Decides}
use Rattle.book.specs.declared.transaction.Txn.{Txn}
use Rattle.report_cells.specs.Taken.{Shared, Taken}
use Rattle.index_cells.specs.Named.{by_symbol}
use Rattle.index_cells.specs.Posted.{posted_in}
use Rattle.index_cells.specs.Staying.{are_replaced, has_symbol, is_replaced, no_name_goes}
use Rattle.index_cells.specs.Tells.{is_of}
use Rattle.index_cells.specs.declared.kept.Kept.{Kept}
use Rattle.index_cells.proofs.Weighing.{passing}

-- an amount is in a symbol
abbrev pub bears : List ℕ → Taken → Bool
bears symbol t = list_any (is_of symbol) (by_symbol t.day t.amount)

-- ---- what is gone passes no test that what stands in its place doesn't pass

pub of_account : (q : List ℕ) (t new : Taken) → is_replaced t new ≡ true → is_of q t ≡ true → is_of q new ≡ true
of_account q t new h passes =
    let same = (bytes_eq-Decides t.account new.account).0 (and_parts (bytes_eq t.account new.account) (has_symbol t.amount new.amount) h).0 in
    ap (λ (a : List ℕ). bytes_eq a q) (sym same) ∙ passes

share_borne : (q : List ℕ) (day later : ℕ) (a b : Option Shared) → has_symbol a b ≡ true → list_any (is_of q) (by_symbol day a) ≡ true → list_any (is_of q) (by_symbol later b) ≡ true
share_borne q day later None b h passes = absurd (false≢true passes)
share_borne q day later (Some share) None h passes = absurd (false≢true h)
share_borne q day later (Some share) (Some new) h passes =
    let same = (bytes_eq-Decides share.0 new.0).0 h in
    ap (λ (a : List ℕ). bytes_eq a q || false) (sym same) ∙ passes

pub of_symbol : (q : List ℕ) (t new : Taken) → is_replaced t new ≡ true → bears q t ≡ true → bears q new ≡ true
of_symbol q t new h passes =
    share_borne q t.day new.day t.amount new.amount (and_parts (bytes_eq t.account new.account) (has_symbol t.amount new.amount) h).1 passes

one_fewer : (a b : Bool) (n m : ℕ) → (a ≡ true → b ≡ true) → n ≤ m → cond a 1 0 + n ≤ cond b 1 0 + m
one_fewer true true n m so le = omega (arith, le)
one_fewer true false n m so le = absurd (false≢true (so refl))
one_fewer false true n m so le = omega (arith, le)
one_fewer false false n m so le = omega (arith, le)

pub fewer : (p : Taken → Bool) → ((t new : Taken) → is_replaced t new ≡ true → p t ≡ true → p new ≡ true) → (gone more : List Taken) → are_replaced gone more ≡ true → passing p gone ≤ passing p more
fewer p so [] more h = omega arith
fewer p so (t ∷ gone) [] h = absurd (false≢true h)
fewer p so (t ∷ gone) (new ∷ more) h =
    let parts = and_parts (is_replaced t new) (are_replaced gone more) h in
    one_fewer (p t) (p new) (passing p gone) (passing p more) (so t new parts.0) (fewer p so gone more parts.1)

-- what is named among those that are gone is named already
pub known_before : (named kept goes stood : Bool) → named ≡ goes → kept ≡ stood → (named ≡ true → kept ≡ true) → stood ≡ false → goes ≡ false
known_before true kept goes stood gone_is stood_is known none = absurd (false≢true (sym none ∙ sym stood_is ∙ known refl))
known_before false kept goes stood gone_is stood_is known none = sym gone_is

-- ---- with nothing gone

pub none_go : (kept : Kept) (gone : List Txn) (more : List Taken) → gone ≡ [] → no_name_goes kept (posted_in gone) more ≡ true
none_go kept gone more none = ap (λ (txns : List Txn). no_name_goes kept (posted_in txns) more) none

-- ---- one more of them

replaced_next : (gone more : List Taken) (i : ℕ) (t new : Taken) → i < length gone → i < length more → t ≡ get_or gone i t → new ≡ get_or more i new → are_replaced (take i gone) more ≡ true → is_replaced t new ≡ true → are_replaced (take (suc i) gone) more ≡ true
replaced_next [] more i t new lt within read also h here = absurd (omega (arith, lt))
replaced_next (g ∷ gone) [] i t new lt within read also h here = absurd (omega (arith, within))
replaced_next (g ∷ gone) (m ∷ more) zero t new lt within read also h here =
    ap (λ (b : Bool). b && true) ((λ k. is_replaced (sym read k) (sym also k)) ∙ here)
replaced_next (g ∷ gone) (m ∷ more) (suc i) t new lt within read also h here =
    let parts = and_parts (is_replaced g m) (are_replaced (take i gone) more) h in
    (λ k. parts.0 k && replaced_next gone more i t new (omega (arith, lt)) (omega (arith, within)) read also parts.1 here k)

pub replaced_more : (gone more : List Taken) (i : ℕ) (t new : Taken) → i < length gone → i < length more → t ≡ get_or gone i t → new ≡ get_or more i new → are_replaced (take i gone) more ≡ true → is_replaced t new ≡ true → are_replaced (take (i + 1) gone) more ≡ true
replaced_more gone more i t new lt within read also h here =
    ap (λ (n : ℕ). are_replaced (take n gone) more) (add-one i) ∙ replaced_next gone more i t new lt within read also h here

either_fails : (a b : Bool) → b ≡ false → (a && b) ≡ false
either_fails true b h = h
either_fails false b h = refl

pub not_replaced : (gone more : List Taken) (i : ℕ) (t new : Taken) → i < length gone → i < length more → t ≡ get_or gone i t → new ≡ get_or more i new → is_replaced t new ≡ false → are_replaced gone more ≡ false
not_replaced [] more i t new lt within read also fails = absurd (omega (arith, lt))
not_replaced (g ∷ gone) [] i t new lt within read also fails = refl
not_replaced (g ∷ gone) (m ∷ more) zero t new lt within read also fails =
    ap (λ (b : Bool). b && are_replaced gone more) ((λ k. is_replaced (sym read k) (sym also k)) ∙ fails)
not_replaced (g ∷ gone) (m ∷ more) (suc i) t new lt within read also fails =
    either_fails (is_replaced g m) (are_replaced gone more) (not_replaced gone more i t new (omega (arith, lt)) (omega (arith, within)) read also fails)

pub too_few : (gone more : List Taken) → length more < length gone → are_replaced gone more ≡ false
too_few [] more lt = absurd (omega (arith, lt))
too_few (t ∷ gone) [] lt = refl
too_few (t ∷ gone) (new ∷ more) lt = either_fails (is_replaced t new) (are_replaced gone more) (too_few gone more (omega (arith, lt)))

pub all_replaced : (gone more : List Taken) (i : ℕ) → length gone ≤ i → are_replaced (take i gone) more ≡ true → are_replaced gone more ≡ true
all_replaced gone more i over h = ap (λ (ts : List Taken). are_replaced ts more) (sym (take_all i gone over)) ∙ h
