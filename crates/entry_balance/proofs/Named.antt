-- Entries that are named by texts.
use Rattle.std.proofs.Common.{◌≡◌, ℕ, Bool, true, false, cond, ◌&&◌, List, [], ◌∷◌, Option, Some, refl, ap, ◌∙◌}
use denote.Ref.{Bor}
use Rattle.std.specs.declared.cmp.Ordering.{Ordering}
use Rattle.std.specs.declared.cmp.Ordering.TheVariants.{Less, Equal, Greater}
use Rattle.std.specs.Ordering.{nat_cmp, is_eq, match_ordering}
use Rattle.std.specs.Cmp.Lexicographic.{slice_cmp}
use Rattle.std.specs.Map.{lookup}
use Rattle.std.specs.BTreeMap.{insert_entry, is_at}
use Rattle.std.specs.FinMap.Entries.{by_order, put}
use Rattle.hl_num.specs.Decimal.{Decimal}
use Rattle.book.specs.Entries.{held}
use Rattle.entry_balance.specs.Values.{Value}
use Rattle.entry_balance.specs.Tally.{named, is_within, are_within}

abbrev pub Entry : Type 0
Entry = Bor (List ℕ) × Decimal

abbrev pub text_order : Bor (List ℕ) → Bor (List ℕ) → Ordering
text_order x y = slice_cmp nat_cmp x.now y.now

pub named-insert : (es : List Entry) (k : Bor (List ℕ)) (v : Decimal) → named (insert_entry text_order es k v) ≡ put (slice_cmp nat_cmp) k.now v (named es)
named-insert [] k v = refl
named-insert (e ∷ es) k v =
    elim (text_order k e.0) as (λ o. named (match_ordering o ((k, v) ∷ e ∷ es) ((e.0, v) ∷ es) (e ∷ insert_entry text_order es k v)) ≡ by_order o ((k.now, v) ∷ named (e ∷ es)) ((e.0.now, v) ∷ named es) ((e.0.now, e.1) ∷ put (slice_cmp nat_cmp) k.now v (named es))) [
      | Less ↦ refl
      | Equal ↦ refl
      | Greater ↦ ap (λ t. (e.0.now, e.1) ∷ t) (named-insert es k v)
    ]

pub held-named : (es : List Entry) (q : List ℕ) → lookup (is_at (λ (k : Bor (List ℕ)). slice_cmp nat_cmp q k.now)) es ≡ held q (named es)
held-named [] q = refl
held-named (e ∷ es) q = ap (λ (o : Option Decimal). cond (is_eq (slice_cmp nat_cmp q e.0.now)) (Some e.1) o) (held-named es q)

pub both_true : (a b : Bool) → a ≡ true → b ≡ true → (a && b) ≡ true
both_true a b p q = ap (λ x. x && b) p ∙ q

pub left_true : (a b : Bool) → (a && b) ≡ true → a ≡ true
left_true true b h = refl
left_true false b h = h

pub right_true : (a b : Bool) → (a && b) ≡ true → b ≡ true
right_true true b h = h
right_true false b h = absurd (let no : ⊥ = cc in no)

pub within-put : (k : List ℕ) (v : Decimal) (es : List Value) → is_within v ≡ true → are_within es ≡ true → are_within (put (slice_cmp nat_cmp) k v es) ≡ true
within-put k v [] here h = both_true _ _ here refl
within-put k v (e ∷ es) here h =
    let first = left_true (is_within e.1) (are_within es) h in
    let rest = right_true (is_within e.1) (are_within es) h in
    elim (slice_cmp nat_cmp k e.0) as (λ r. are_within (by_order r ((k, v) ∷ e ∷ es) ((e.0, v) ∷ es) (e ∷ put (slice_cmp nat_cmp) k v es)) ≡ true) [
      | Less ↦ both_true _ _ here h
      | Equal ↦ both_true _ _ here rest
      | Greater ↦ both_true _ _ first (within-put k v es here rest)
    ]
