-- The context after one more item is that of all items.
use Rattle.std.proofs.Common.{◌≡◌, ℕ, List, [], ◌∷◌, ◌++◌, Option, Result, Ok, Err, refl, sym, ap, ◌∙◌}
use Rattle.std.specs.Prelude.{IfOk, IsTrue}
use Rattle.std.specs.List.{fold}
use Rattle.std.proofs.lemmas.Bool.{false≢true}
use Rattle.std.proofs.lemmas.Grind.{flat_map-append, fold-append}
use Rattle.std.proofs.lemmas.List.{append-nil}
use Rattle.hl_base.specs.declared.items.Kind.{Kind}
use Rattle.book.specs.declared.directive.Directive.{Directive}
use Rattle.book.specs.declared.directive.Directive.TheVariants as directive
use Rattle.book.specs.declared.fault.Fault.{Fault}
use Rattle.book.specs.declared.item.Item.{Item}
use Rattle.book.specs.declared.item.Item.TheVariants as item
use Rattle.entry_reader.specs.After.{context_after}
use Rattle.entry_reader.specs.Contexts.{Context, directive_in, directives_in, year_after, mark_after, usual_after, applied_after, aliases_after, marks_after, context_from, context_of}

-- some more directives
from_append : (year : Option ℕ) (ds : List Directive) (i : Item) → context_after (context_from year ds) i ≡ context_from year (ds ++ directive_in i)
from_append year ds i =
    let years = sym (fold-append year_after year ds (directive_in i)) in
    let decimal = sym (fold-append mark_after _ ds (directive_in i)) in
    let usuals = sym (fold-append usual_after _ ds (directive_in i)) in
    let names = sym (fold-append applied_after [] ds (directive_in i)) in
    let others = sym (fold-append aliases_after [] ds (directive_in i)) in
    let marked = sym (fold-append marks_after [] ds (directive_in i)) in
    λ t. record { year = years t; mark = decimal t; usual = usuals t; applied = names t; aliases = others t; marks = marked t }

-- one more item
pub after_items : (year : Option ℕ) (before : List Item) (i : Item) (old new : Context) → old ≡ context_of year before → new ≡ context_after old i → new ≡ context_of year (before ++ i ∷ [])
after_items year before i old new is made =
    let more : directives_in (before ++ i ∷ []) ≡ directives_in before ++ directive_in i = flat_map-append directive_in before (i ∷ []) ∙ ap (λ (ds : List Directive). directives_in before ++ ds) (append-nil (directive_in i)) in
    made ∙ ap (λ (c : Context). context_after c i) is ∙ from_append year (directives_in before) i ∙ sym (ap (context_from year) more)
