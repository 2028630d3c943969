-- The least symbol of the amounts whose cost is out of range, gathered from the last posting on.
use Rattle.std.proofs.Common.{◌≡◌, ℕ, ◌+◌, ◌<◌, ◌≤◌, arith, drop, Bool, true, false, not, cond, List, [], ◌∷◌, ◌++◌, length, get_or, filter, Option, Some, None, refl, sym, ap, subst, ◌∙◌}
use Rattle.std.specs.Prelude.{slice_get}
use Rattle.std.specs.BTreeSet.{insert_key}
use Rattle.std.specs.Cmp.Lexicographic.{slice_cmp}
use Rattle.std.specs.List.{flat_map, All}
use Rattle.std.specs.Ordering.{nat_cmp, match_ordering}
use Rattle.std.proofs.lemmas.List.Elements.{All-nil, All-cons, All-get_or}
use Rattle.std.specs.declared.cmp.Ordering.TheVariants.{Less, Equal, Greater}
use Rattle.book.specs.Order.{each_once}
use Rattle.book.specs.Sums.{symbol_in}
use Rattle.book.specs.declared.amount.Amount.{Amount}
use Rattle.entry_balance.specs.Entry.{amount_cost_fits}
use Rattle.report_options.specs.declared.options.Options.{Options}
use Rattle.report_takings.specs.Takings.{out_among}
use Rattle.report_takings.specs.Costs.{is_at_cost, is_unpriced, symbols_out, first_out, lesser, lesser_in, with_entry}
use Rattle.query_terms.proofs.Walks.{left_here}
use Rattle.report_takings.specs.Entries.{Entry}

abbrev first : List (List ℕ) → Option (List ℕ)
first symbols = slice_get symbols 0

inserted : (k : List ℕ) (xs : List (List ℕ)) → first (insert_key (slice_cmp nat_cmp) xs k) ≡ lesser k (first xs)
inserted k [] = refl
inserted k (x ∷ xs) =
    elim (slice_cmp nat_cmp k x) as (λ r. first (match_ordering r (k ∷ x ∷ xs) (x ∷ xs) (x ∷ insert_key (slice_cmp nat_cmp) xs k)) ≡ match_ordering r (Some k) (Some x) (Some x)) [
      | Less ↦ refl
      | Equal ↦ refl
      | Greater ↦ refl
    ]

of_amount : (amount : Option Amount) (symbols : List (List ℕ)) → first (each_once (slice_cmp nat_cmp) (symbol_in amount ++ symbols)) ≡ lesser_in amount (first (each_once (slice_cmp nat_cmp) symbols))
of_amount None symbols = refl
of_amount (Some amount) symbols = inserted amount.symbol (each_once (slice_cmp nat_cmp) symbols)

-- a posting more
pub out_more : (e : Entry) (es : List Entry) → first_out (e ∷ es) ≡ with_entry e (first_out es)
out_more e es =
    elim (is_unpriced e) as (λ b. first (each_once (slice_cmp nat_cmp) (flat_map (λ (x : Entry). symbol_in x.0.amount) (cond b (e ∷ filter is_unpriced es) (filter is_unpriced es)))) ≡ cond b (lesser_in e.0.amount (first_out es)) (first_out es)) [
      | true ↦ of_amount e.0.amount (symbols_out es)
      | false ↦ refl
    ]

-- it tells what a posting costs, or none of the amounts is out of range
told_by : (amount : Option Amount) (t : Bool) (least : Option (List ℕ)) → (amount ≡ None → t ≡ true) → cond (not t) (lesser_in amount least) least ≡ None → (t ≡ true) × (least ≡ None)
told_by amount true least h e = (refl, e)
told_by None false least h e = (h refl, e)
told_by (Some a) false least h e = absurd (is_some least e) where
  is_some : (o : Option (List ℕ)) → lesser a.symbol o ≡ None → ⊥
  is_some None h = cc
  is_some (Some x) h =
      elim (slice_cmp nat_cmp a.symbol x) as (λ r. match_ordering r (Some a.symbol) (Some x) (Some x) ≡ None → ⊥) [
        | Less ↦ λ n. cc
        | Equal ↦ λ n. cc
        | Greater ↦ λ n. cc
      ] h

no_amount : (e : Entry) → e.0.amount ≡ None → amount_cost_fits e.0.amount e.0.cost ≡ true
no_amount e is = ap (λ amount. amount_cost_fits amount e.0.cost) is

abbrev pub IsTold : Entry → Type 0
IsTold e = amount_cost_fits e.0.amount e.0.cost ≡ true

-- where none is out of range each is told
pub all_told : (es : List Entry) → first_out es ≡ None → All IsTold es
all_told [] e = All-nil IsTold
all_told (x ∷ xs) e =
    let here = told_by x.0.amount (amount_cost_fits x.0.amount x.0.cost) (first_out xs) (no_amount x) (sym (out_more x xs) ∙ e) in
    All-cons IsTold x xs here.0 (all_told xs here.1)

-- what a posting costs is told, where that is asked for
pub told_at : (options : Options) (es : List Entry) (i : ℕ) (e : Entry) → i < length es → e ≡ get_or es i e → out_among options es ≡ None → is_at_cost options ≡ true → IsTold e
told_at options es i e lt is none costs =
    let out : first_out es ≡ None = sym (ap (λ t. cond t (first_out es) None) costs) ∙ none in
    subst IsTold (sym is) (All-get_or IsTold es i e lt (all_told es out))

-- the posting at a place, before those behind it
pub out_before : (es : List Entry) (at i : ℕ) (e : Entry) (old new : Option (List ℕ)) → i + 1 ≡ at → at ≤ length es → e ≡ get_or es i e → old ≡ first_out (drop at es) → new ≡ with_entry e old → new ≡ first_out (drop i es)
out_before es at i e old new next within is so_far given =
    let lt : i < length es = omega arith in
    given
    ∙ ap (with_entry e) (so_far ∙ ap (λ n. first_out (drop n es)) (sym next))
    ∙ sym (ap first_out (left_here es i e lt is) ∙ out_more e (drop (i + 1) es))
