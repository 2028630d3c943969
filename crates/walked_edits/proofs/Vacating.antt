-- A form is taken out of a book, and its place is held.
use Rattle.std.proofs.Common.{◌≡◌, ◌<◌, true, false, List, [], ◌∷◌, ◌++◌, length, get_or, set, slice_get, Some, sym, ap, subst, ◌∙◌, arith, length-append}
use Rattle.std.specs.List.{AllByRecursion}
use Rattle.std.proofs.lemmas.Option.{same_Some}
use Rattle.book.specs.declared.transaction.Txn.{Txn}
use Rattle.entry_balance.specs.Entry.{costs_fit}
use Rattle.placed_sums.specs.Replaced.{Replaces}
use Rattle.reached_walk.specs.declared.place.Spot.{Spot}
use Rattle.reached_walk.proofs.Lists.{all-push}
use Rattle.reached_walk.proofs.Noting.{got-at}
use Rattle.walked_edits.specs.Forms.{IsInside, IsSwapped, vacant}
use Rattle.walked_edits.specs.Keeping.{AreSums, IsTaken}
use Rattle.walked_edits.specs.Solving.{is_at}
use Rattle.walked_edits.specs.Stepping.{IsElsewhere, Vacates}
use Rattle.walked_edits.specs.declared.kept.Kept.{Kept}
use Rattle.walked_edits.specs.declared.replaced.Replaced.{Replaced}
use Rattle.walked_edits.specs.declared.walking.Walking.{Walking}
use Rattle.walked_edits.proofs.Keeping.{can_vacate}
use Rattle.walked_edits.proofs.Turning.{told_got}

abbrev pub at_spot : Spot → Txn → Replaced
at_spot spot form = record { spot = spot; txn = form }

pub vacates_rows : (book : List Txn) (kept : Kept) (spot : Spot) (old blank : Txn) → AreSums book kept → spot.number < length book → old ≡ get_or book spot.number old → blank ≡ vacant spot.day → Replaces kept.index old blank
vacates_rows book kept spot old blank sums inside read is = can_vacate book kept spot.number old blank sums (ap (λ (t : Txn). t.postings) is) (got-at book spot.number old inside read)

pub old_fits : (book : List Txn) (kept : Kept) (spot : Spot) (old : Txn) → AreSums book kept → spot.number < length book → old ≡ get_or book spot.number old → costs_fit old.postings ≡ true
old_fits book kept spot old sums inside read = told_got book spot.number old sums.told (got-at book spot.number old inside read)

pub blank_fits : (spot : Spot) (blank : Txn) → blank ≡ vacant spot.day → costs_fit blank.postings ≡ true
blank_fits spot blank is = ap (λ (t : Txn). costs_fit t.postings) is

pub some_more : (xs ys : List Replaced) (r : Replaced) → ys ≡ xs ++ r ∷ [] → 0 < length ys
some_more xs ys r e = let a = ap (λ (zs : List Replaced). length zs) e in let b = length-append xs (r ∷ []) in omega (arith, a, b)

pub inside_more : (book : List Txn) (taken more : List Replaced) (r : Replaced) → more ≡ taken ++ r ∷ [] → AllByRecursion (IsInside book) taken → r.spot.number < length book → AllByRecursion (IsInside book) more
inside_more book taken more r e h inside = subst (λ (xs : List Replaced). AllByRecursion (IsInside book) xs) (sym e) (all-push (IsInside book) taken r h inside)

pub vacates : (book new : List Txn) (spot : Spot) (before after : Walking) (pushed : List Replaced) (own old blank : Txn) → spot.number < length book → own ≡ get_or book spot.number own → old ≡ get_or book spot.number old → is_at spot own ≡ true → blank ≡ vacant spot.day
    → IsTaken old blank before.kept after.kept → pushed ≡ before.taken.items ++ at_spot spot blank ∷ []
    → ((older : List Replaced) (last : Replaced) → pushed ≡ older ++ last ∷ [] → IsSwapped older last book new after.taken.items) → Vacates spot book new before after
vacates book new spot before after pushed own old blank inside read again here is taken push swap =
    let was : slice_get book spot.number ≡ Some old = got-at book spot.number old inside again in
    let same : own ≡ old = same_Some own old (sym (got-at book spot.number own inside read) ∙ was) in
    let swapped = swap before.taken.items (at_spot spot blank) push in
    let form : swapped.form ≡ old = same_Some swapped.form old (sym swapped.was ∙ was) in
    record {
      old = old;
      was = was;
      own = subst (λ (t : Txn). is_at spot t ≡ true) same here;
      book_is = swapped.book_is ∙ ap (set book spot.number) is;
      taken = swapped.forms_are ∙ ap (λ (t : Txn). before.taken.items ++ at_spot spot t ∷ []) form;
      kept = subst (λ (t : Txn). IsTaken old t before.kept after.kept) is taken;
    }

pub elsewhere : (book : List Txn) (spot : Spot) (own : Txn) → spot.number < length book → own ≡ get_or book spot.number own → is_at spot own ≡ false → IsElsewhere book spot
elsewhere book spot own inside read off old was = ap (is_at spot) (same_Some old own (sym was ∙ got-at book spot.number own inside read)) ∙ off
