-- One step of a report after another.
use Rattle.std.proofs.Common.{◌≡◌, ℕ, ◌+◌, ◌*◌, ◌^◌, ◌<◌, ◌≤◌, nat_lt, Bool, true, false, cond, List, length, map, Option, Some, None, Result, Ok, Err, IfOk, refl, sym, ap, subst, ◌∙◌, arith}
use Rattle.std.specs.Prelude.{IfErr, IfSome, OnOk}
use Rattle.std.proofs.lemmas.Bool.Decides.{nat_tests}
use Rattle.hl_base.specs.Gives.{Gives}
use Rattle.hl_time.specs.declared.spans.Span.{Span}
use Rattle.balance_layouts.specs.Balance as balances
use Rattle.report_cells.specs.Bounds.{first_out}
use Rattle.report_cells.specs.Faults as cells
use Rattle.report_cells.specs.Taken.{Taken}
use Rattle.report_cells.specs.declared.cells.Cells.{Cells}
use Rattle.report_cells.specs.declared.fault.ReportFault.{ReportFault}
use Rattle.report_cells.specs.declared.fault.ReportFault.TheVariants.{Range, TooWide, Memory}
use Rattle.report_options.specs.declared.options.Options.{Options}
use Rattle.report_options.specs.declared.options.Start.{Start}
use Rattle.report_sums.specs.Celled.{Celled, cause, celled_of, unless}
use Rattle.report_sums.specs.Summed.{Summed}
use Rattle.report_takings.specs.Columns.{IsTooWide, column_limit}
use Rattle.report_takings.specs.Entries.{Entry}
use Rattle.report_takings.specs.Takings.{IsOutAmong, out_among}
use Rattle.report_commands.specs.Answered.{◌>>=◌, few}

-- a step that was made, and what comes after it
pub then_gives : {X Y Z : Type 0} (view : X → Z) (r : Result X ReportFault) (first : Result Y ReportFault) (y : Y) (next : Y → Result Z ReportFault)
    → first ≡ Ok y → Gives view cause r (next y) → Gives view cause r (first >>= next)
then_gives {X} {Y} {Z} view r first y next is made = subst (λ (q : Result Y ReportFault). Gives view cause r (q >>= next)) (sym is) made

-- a step that wasn't made
pub stop_gives : {Y Z : Type 0} (fault : ReportFault) (first : Result Y ReportFault) (next : Y → Result Z ReportFault)
    → IfSome (cause fault) (λ f. first ≡ Err f) → IfSome (cause fault) (λ f. (first >>= next) ≡ Err f)
stop_gives {Y} {Z} (Range symbol) first next is = ap (λ (q : Result Y ReportFault). q >>= next) is
stop_gives {Y} {Z} (TooWide columns limit) first next is = ap (λ (q : Result Y ReportFault). q >>= next) is
stop_gives {Y} {Z} Memory first next is = tt

-- a text that is made unless a symbol is out of range
pub unless_gives : {X Y : Type 0} (view : X → Y) (r : Result X ReportFault) (out : Option (List ℕ)) (y : Y)
    → IfOk r (λ x. view x ≡ y) → OnOk r (out ≡ None) → IfErr r (balances.IsFault out) → Gives view cause r (unless out y)
unless_gives view (Ok x) out y is within fault = ap (λ (o : Option (List ℕ)). unless o y) within ∙ ap Ok (sym is)
unless_gives view (Err (Range symbol)) out y is within fault = ap (λ (o : Option (List ℕ)). unless o y) fault
unless_gives view (Err (TooWide columns limit)) out y is within fault = absurd fault
unless_gives view (Err Memory) out y is within fault = tt

pub within_is : {Y : Type 0} (out : Option (List ℕ)) (y : Y) → out ≡ None → unless out y ≡ Ok y
within_is out y within = ap (λ (o : Option (List ℕ)). unless o y) within

-- the same for sums, and for costs
pub sums_give : {X Y : Type 0} (view : X → Y) (r : Result X ReportFault) (takings : List Taken) (y : Y)
    → IfOk r (λ x. view x ≡ y) → OnOk r (first_out takings ≡ None) → IfErr r (cells.IsFault takings) → Gives view cause r (unless (first_out takings) y)
sums_give view (Ok x) takings y is within fault = ap (λ (o : Option (List ℕ)). unless o y) within ∙ ap Ok (sym is)
sums_give view (Err (Range symbol)) takings y is within fault = ap (λ (o : Option (List ℕ)). unless o y) fault
sums_give view (Err (TooWide columns limit)) takings y is within fault = absurd fault
sums_give view (Err Memory) takings y is within fault = tt

-- a cost that is out of range
pub cost_stops : {Y : Type 0} (options : Options) (entries : List Entry) (fault : ReportFault) (y : Y)
    → IsOutAmong options entries fault → IfSome (cause fault) (λ f. unless (out_among options entries) y ≡ Err f)
cost_stops options entries (Range symbol) y out = ap (λ (o : Option (List ℕ)). unless o y) out
cost_stops options entries (TooWide columns limit) y out = absurd out
cost_stops options entries Memory y out = tt

-- columns, unless they are too many
some_few : (columns : List Span) → length columns ≤ column_limit → few columns ≡ Ok columns
some_few columns most =
    let fits : nat_lt column_limit (length columns) ≡ false = grind (arith, nat_tests) in
    ap (λ (b : Bool). cond b (Err (TooWide (length columns) column_limit)) (Ok columns)) fits

too_many : (columns : List Span) (count limit : ℕ) → IsTooWide columns (TooWide count limit) → few columns ≡ Err (TooWide count limit)
too_many columns count limit wide =
    let many : column_limit < length columns = omega (arith, wide.counted, wide.many, wide.most) in
    let past : nat_lt column_limit (length columns) ≡ true = grind (arith, nat_tests) in
    ap (λ (b : Bool). cond b (Err (TooWide (length columns) column_limit)) (Ok columns)) past
    ∙ (λ i. Err (TooWide (sym wide.counted i) (sym wide.most i)))

pub columns_give : (r : Result (List Span) ReportFault) (all : List Span)
    → IfOk r (λ columns. columns ≡ all) → IfOk r (λ columns. length columns ≤ column_limit) → IfErr r (IsTooWide all)
    → Gives (λ columns. columns) cause r (few all)
columns_give (Ok columns) all is most wide =
    subst (λ (q : List Span). few q ≡ Ok columns) is (some_few columns most)
columns_give (Err (Range symbol)) all is most wide = absurd wide
columns_give (Err (TooWide count limit)) all is most wide = too_many all count limit wide
columns_give (Err Memory) all is most wide = tt

-- so few that they can be counted
pub columns_counted : (r : Result (List Span) ReportFault) → IfOk r (λ columns. length columns ≤ column_limit) → IfOk r (λ columns. length columns < 2 ^ 32)
columns_counted (Ok columns) most = omega arith
columns_counted (Err fault) most = tt

-- ---- sums by columns

abbrev pub Told : Type 0
Told = List Span × Celled

abbrev pub both : Cells → Told
both cells = (cells.columns, celled_of cells)

pub sums_told : (r : Result Cells ReportFault) (columns : List Span) (made : Result Celled ReportFault)
    → IfOk r (λ c. c.columns ≡ columns) → Gives celled_of cause r made → Gives both cause r (made >>= λ cells. Ok (columns, cells))
sums_told (Ok c) columns made is told =
    ap (λ (q : Result Celled ReportFault). q >>= λ (cells : Celled). Ok (columns, cells)) told ∙ (λ i. Ok (sym is i, celled_of c))
sums_told (Err fault) columns made is told = stop_gives fault made (λ cells. Ok (columns, cells)) told

pub some_columns : (r : Result Cells ReportFault) (columns : List Span) → IfOk r (λ c. c.columns ≡ columns) → 0 < length columns
    → IfOk r (λ c. 0 < length c.columns)
some_columns (Ok c) columns is some = subst (λ (cs : List Span). 0 < length cs) (sym is) some
some_columns (Err fault) columns is some = tt

pub sums_fit : (start : Start) (r : Result Cells ReportFault) (columns : List Span) → IfOk r (λ c. c.columns ≡ columns)
    → IfOk r (λ c. Summed start (length columns) (celled_of c)) → IfOk r (λ c. Summed start (length c.columns) (celled_of c))
sums_fit start (Ok c) columns is fits = subst (λ (cs : List Span). Summed start (length cs) (celled_of c)) (sym is) fits
sums_fit start (Err fault) columns is fits = tt
