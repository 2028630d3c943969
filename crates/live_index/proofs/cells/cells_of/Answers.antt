use Rattle.std.proofs.Common.{◌≡◌, ℕ, true, false, List, [], map, ap, subst, ◌∙◌}
use Rattle.std.specs.Arc.{arc_value}
use Rattle.live_index.specs.declared.row.Row.{Row}
use Rattle.live_index.specs.declared.runs.Run.{Run}
use Rattle.live_index.specs.Cells.{Cell, is_key, is_above, HasAdded}
use Rattle.live_index.proofs.Above.{added-all}
use Rattle.live_index.proofs.Answered.{if-ok}
use Rattle.live_index.proofs.cells.cells_of.Goals as goal

pub returns-clause-added : goal.returns-clause-added
returns-clause-added c =
    let row = c.args.row.now in
    let sums : List (List Run) = arc_value c.args.sums.now in
    let account : c.as_bytes-account.result.now ≡ c.args.row.now.account = c.as_bytes-account.ensures ∙ ap (λ (r : Row). r.account) c.row.view_is in
    let symbol : c.row.inside.0.1.0 ≡ c.args.row.now.symbol = ap (λ (r : Row). r.symbol) c.row.view_is in
    let one : List Cell = map arc_value c.in_ok-own.own.items in
    let two : List Cell = map arc_value c.in_ok-both.both.items in
    let none : map arc_value c.deref.result.now ≡ [] = ap (map arc_value) (c.deref.ensures.value ∙ c.new-none.ensures.items) in
    let same : map arc_value c.deref-2.result.now ≡ map arc_value c.in_ok-own.own.items = ap (map arc_value) c.deref-2.ensures.value in
    let P : List ℕ → List ℕ → List Cell → Type 0 = λ a s t. HasAdded (is_key (record { account = a; symbol = s; below = false })) sums t one in
    let Q : List ℕ → List ℕ → List Cell → Type 0 = λ a s t. HasAdded (is_key (record { account = a; symbol = s; below = true })) sums t two in
    let first : P c.args.row.now.account c.args.row.now.symbol [] = subst (λ (a : List ℕ). P a c.args.row.now.symbol []) account (subst (λ (s : List ℕ). P c.as_bytes-account.result.now s []) symbol (subst (P c.as_bytes-account.result.now c.row.inside.0.1.0) none c.in_ok-own.ensures)) in
    let second : Q c.args.row.now.account c.args.row.now.symbol one = subst (λ (a : List ℕ). Q a c.args.row.now.symbol one) account (subst (λ (s : List ℕ). Q c.as_bytes-account.result.now s one) symbol (subst (Q c.as_bytes-account.result.now c.row.inside.0.1.0) same c.in_ok-both.ensures)) in
    if-ok c.with_above.result _ _ (λ new above. added-all row sums [] one two (map arc_value new.items) first second
    (subst (λ (a : List ℕ). HasAdded (is_above a c.args.row.now.symbol) sums two (map arc_value new.items)) account
    (subst (λ (s : List ℕ). HasAdded (is_above c.as_bytes-account.result.now s) sums two (map arc_value new.items)) symbol above))) c.with_above.ensures
