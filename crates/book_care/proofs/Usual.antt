-- Whether a text ends with a default commodity.
use Rattle.std.proofs.Common.{◌≡◌, ℕ, Bool, true, false, ◌||◌, List, [], ◌∷◌, map, Option, None, is_some, refl, sym, ap, ◌∙◌}
use Rattle.std.specs.List.{fold, flat_map, list_any}
use Rattle.std.proofs.lemmas.List.Folds.{list_any-append}
use Rattle.book.specs.declared.directive.Directive.{Directive}
use Rattle.book.specs.declared.directive.Directive.TheVariants as directive
use Rattle.book.specs.declared.item.Item.{Item}
use Rattle.book.specs.declared.item.Item.TheVariants as item
use Rattle.book.specs.declared.item.Placed.{Placed}
use Rattle.entry_reader.specs.Contexts.{usual_after, directive_in}
use Rattle.book_care.specs.Reads.{context_at_end, says_default, is_default}

or_none : (b : Bool) → b ≡ (b || false)
or_none true = refl
or_none false = refl

or_all : (b : Bool) → true ≡ (b || true)
or_all true = refl
or_all false = refl

one_directive : (usual : Option (List ℕ × Option ℕ)) (d : Directive) → is_some (usual_after usual d) ≡ (is_some usual || says_default d)
one_directive usual (directive.Default a) = or_all (is_some usual)
one_directive usual (directive.Commodity symbol a) = or_none (is_some usual)
one_directive usual (directive.Account name letter) = or_none (is_some usual)
one_directive usual (directive.Year y) = or_none (is_some usual)
one_directive usual (directive.Apply name) = or_none (is_some usual)
one_directive usual directive.EndApply = or_none (is_some usual)
one_directive usual (directive.Alias old new) = or_none (is_some usual)
one_directive usual directive.EndAliases = or_none (is_some usual)
one_directive usual (directive.Payee name) = or_none (is_some usual)
one_directive usual (directive.TagName name) = or_none (is_some usual)
one_directive usual (directive.DecimalMark m) = or_none (is_some usual)

or_again : (a b c : Bool) → ((a || b) || c) ≡ (a || (b || c))
or_again true b c = refl
or_again false b c = refl

all_directives : (ds : List Directive) (usual : Option (List ℕ × Option ℕ)) → is_some (fold usual_after usual ds) ≡ (is_some usual || list_any says_default ds)
all_directives [] usual = or_none (is_some usual)
all_directives (d ∷ ds) usual =
    all_directives ds (usual_after usual d)
    ∙ ap (λ b. b || list_any says_default ds) (one_directive usual d)
    ∙ or_again (is_some usual) (says_default d) (list_any says_default ds)

one_item : (it : Item) → list_any says_default (directive_in it) ≡ is_default it
one_item (item.Directive d) = sym (or_none (says_default d))
one_item item.Gap = refl
one_item item.Block = refl
one_item (item.Txn t) = refl
one_item (item.Auto r) = refl
one_item (item.Periodic r) = refl
one_item (item.Price p) = refl

all_items : (items : List Placed) → list_any says_default (flat_map directive_in (map (λ (placed : Placed). placed.item) items)) ≡ list_any (λ (placed : Placed). is_default placed.item) items
all_items [] = refl
all_items (placed ∷ items) =
    list_any-append says_default (directive_in placed.item) (flat_map directive_in (map (λ (p : Placed). p.item) items))
    ∙ (λ k. one_item placed.item k || all_items items k)

-- one of its items says so
pub some_usual : (items : List Placed) → is_some (context_at_end items).usual ≡ list_any (λ (placed : Placed). is_default placed.item) items
some_usual items =
    all_directives (flat_map directive_in (map (λ (placed : Placed). placed.item) items)) None
    ∙ all_items items
