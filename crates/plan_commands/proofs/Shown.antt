-- The span of a report is that of its only column where it has no interval.
use Rattle.std.proofs.Common.{◌≡◌, List, [], ◌∷◌, Option, None, Result, IfOk, refl, ap, subst, ◌∙◌}
use Rattle.hl_base.specs.declared.fault.Memory.{Memory}
use Rattle.hl_time.specs.declared.spans.Interval.{Interval}
use Rattle.hl_time.specs.declared.spans.Span.{Span}
use Rattle.report_options.specs.declared.options.Options.{Options}
use Rattle.report_takings.specs.Asking.{Question}
use Rattle.report_takings.specs.Columns.{columns_of, cut_into}
use Rattle.report_takings.specs.Spans.{span_of}
use Rattle.report_takings.specs.Takings.{shown_in}
use Rattle.plan_commands.specs.Bounds.{with_bounds}

alone_shown : (span : Span) → shown_in (span ∷ []) ≡ span
alone_shown span = refl

pub only_is : (asked : Question) (columns : List Span) → asked.options.bounds.interval ≡ None → columns ≡ columns_of asked → shown_in columns ≡ span_of asked
only_is asked columns none is =
    ap (λ (parts : List Span). shown_in parts) (is ∙ ap (λ (interval : Option Interval). cut_into interval (span_of asked)) none)
    ∙ alone_shown (span_of asked)

-- an interval says nothing of the span
pub span_kept : (asked : Question) (made : Options)
    → made ≡ with_bounds asked.options (record { from = asked.options.bounds.from; end = asked.options.bounds.end; interval = None })
    → span_of (record asked { options = made }) ≡ span_of asked
span_kept asked made is = ap (λ (options : Options). span_of (record asked { options = options })) is

pub spans_so : (r : Result Span Memory) (a b : Span) → a ≡ b → IfOk r (λ span. span ≡ a) → IfOk r (λ span. span ≡ b)
spans_so r a b is told = subst (λ (s : Span). IfOk r (λ span. span ≡ s)) is told
