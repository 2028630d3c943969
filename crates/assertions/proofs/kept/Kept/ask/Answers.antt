use Rattle.std.proofs.Common.{◌≡◌, ℕ, length, None, Some, Option, false, true, is_some, refl, sym, ap, ◌∙◌, subst, rules}
use Rattle.std.proofs.lemmas.Bool.{false≢true}
use Rattle.std.specs.Ordering.{nat_cmp}
use Rattle.std.specs.Cmp.Lexicographic.{slice_cmp}
use Rattle.std.specs.FinMap.Entries.{put}
use Rattle.book.specs.Entries.{held}
use Rattle.entry_balance.proofs.Adding.{on_ok}
use Rattle.assertions.specs.Kept.{Keeping, IsKept, no_values, keeps}
use Rattle.assertions.specs.Texts.{names_in, places_in}
use Rattle.assertions.proofs.Keeping.{asked_more, keeps_new, keeps_stays, names-length}
use Rattle.assertions.proofs.kept.Kept.ask.Goals as goal

none-is : {X : Type 0} (o : Option X) → is_some o ≡ false → o ≡ None
none-is None h = refl
none-is (Some x) h = absurd (false≢true (sym h))

pub returns-clause-fresh : goal.returns-clause-fresh
returns-clause-fresh c = on_ok c.put_place.result (λ placed kept.
    let name = c.args.name.now in
    let told : is_some c.place_of.result ≡ false = search rules in
    let new : held name (places_in c.self.inside.places.entries) ≡ None = sym c.place_of.ensures ∙ none-is _ told in
    let counted : c.len-place.result ≡ length c.self.inside.names.items = search rules in
    let count : c.len-place.result ≡ length (names_in c.self.inside.names.items) = counted ∙ sym (names-length c.self.inside.names.items) in
    asked_more _ _ name new c.in_ok-push_name.ensures (placed ∙ ap (λ (n : ℕ). put (slice_cmp nat_cmp) name n (places_in c.self.inside.places.entries)) count) c.in_ok-push_totals.ensures (subst (IsKept no_values) (sym c.self.view_is) kept))
    c.put_place.ensures

pub returns-clause-keeps : goal.returns-clause-keeps
returns-clause-keeps c = on_ok c.put_place.result (λ placed.
    let name = c.args.name.now in
    let told : is_some c.place_of.result ≡ false = search rules in
    let new : held name (places_in c.self.inside.places.entries) ≡ None = sym c.place_of.ensures ∙ none-is _ told in
    let counted : c.len-place.result ≡ length c.self.inside.names.items = search rules in
    let count : c.len-place.result ≡ length (names_in c.self.inside.names.items) = counted ∙ sym (names-length c.self.inside.names.items) in
    keeps_new (names_in c.self.inside.names.items, places_in c.self.inside.places.entries, c.self.inside.totals.items) _ name new c.in_ok-push_name.ensures (placed ∙ ap (λ (n : ℕ). put (slice_cmp nat_cmp) name n (places_in c.self.inside.places.entries)) count) c.in_ok-push_totals.ensures)
    c.put_place.ensures

pub returns-clause-stays : goal.returns-clause-stays
returns-clause-stays c = on_ok c.put_place.result (λ placed a has.
    let name = c.args.name.now in
    let told : is_some c.place_of.result ≡ false = search rules in
    let new : held name (places_in c.self.inside.places.entries) ≡ None = sym c.place_of.ensures ∙ none-is _ told in
    let counted : c.len-place.result ≡ length c.self.inside.names.items = search rules in
    let count : c.len-place.result ≡ length (names_in c.self.inside.names.items) = counted ∙ sym (names-length c.self.inside.names.items) in
    keeps_stays (names_in c.self.inside.names.items, places_in c.self.inside.places.entries, c.self.inside.totals.items) _ name new c.in_ok-push_name.ensures (placed ∙ ap (λ (n : ℕ). put (slice_cmp nat_cmp) name n (places_in c.self.inside.places.entries)) count) c.in_ok-push_totals.ensures a
    (subst (λ (k : Keeping). keeps a k ≡ true) (sym c.self.view_is) has))
    c.put_place.ensures
