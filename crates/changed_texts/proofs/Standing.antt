-- What stands in the place of an entry says the same to all behind it, and its transactions are those of the text.
use Rattle.std.proofs.Common.{◌≡◌, ℕ, suc, ◌+◌, Bool, true, cond, List, [], ◌∷◌, ◌++◌, take, drop, map, set, Option, Some, refl, sym, ap, subst, ◌∙◌}
use Rattle.std.specs.List.{prefix_len, slice_get, AllByRecursion}
use Rattle.std.proofs.lemmas.Grind.{flat_map-append}
use Rattle.hl_base.specs.Items.{is_indented}
use Rattle.hl_base.specs.declared.items.Piece.{Piece}
use Rattle.book.specs.Postings.{txn_in, txns_of}
use Rattle.book.specs.declared.directive.Directive.{Directive}
use Rattle.book.specs.declared.item.Item.TheVariants as item
use Rattle.book.specs.declared.item.Placed.{Placed}
use Rattle.book.specs.declared.transaction.Txn.{Txn}
use Rattle.entry_reader.specs.Contexts.{context_of, directive_in, directives_in}
use Rattle.moved_lines.specs.Moving.{moved_from, moved_placed}
use Rattle.moved_lines.specs.declared.shift.Offset.{Offset}
use Rattle.text_ends.specs.Ends.{ends_line, items_at}
use Rattle.text_ends.proofs.Stepping.{placed_as}
use Rattle.changed_texts.specs.Meeting.{AreEntries, is_ended, is_entry_or_gap}
use Rattle.changed_texts.specs.OneEntry.{IsMet, items_met}
use Rattle.changed_texts.specs.Replacing.{IsEntry, changed_at, number_at}
use Rattle.changed_texts.specs.declared.met.Met.{Met}
use Rattle.changed_texts.proofs.Anew.{Told}
use Rattle.changed_texts.proofs.Cuts.{entry_begins}
use Rattle.changed_texts.proofs.Found.{Found, alone}
use Rattle.changed_texts.proofs.Near.{txn-says-none}
use Rattle.changed_texts.proofs.Reading.{context_alike}
use Rattle.changed_texts.proofs.Relining.{directive-stays}
use Rattle.changed_texts.proofs.Silent.{all_said, met_said}
use Rattle.changed_texts.proofs.Txns.{get_number, split_get, txns_both, txns_changed}

-- ---- directives

told_by : (items : List Placed) → directives_in (items_at items) ≡ all_said directive_in items
told_by [] = refl
told_by (q ∷ qs) = ap (λ (ds : List Directive). directive_in q.item ++ ds) (told_by qs)

moved_told : (by : Offset) (items : List Placed) → all_said directive_in (map (moved_placed by) items) ≡ all_said directive_in items
moved_told by [] = refl
moved_told by (q ∷ qs) = λ i. directive-stays by.lines q.item i ++ moved_told by qs i

-- items of which one says no directive
without : (n : ℕ) (items : List Placed) (old : Placed) → slice_get items n ≡ Some old → directive_in old.item ≡ [] → all_said directive_in items ≡ all_said directive_in (take n items) ++ all_said directive_in (drop (suc n) items)
without n items old here none =
    ap (all_said directive_in) (split_get n items old here)
    ∙ flat_map-append (λ (q : Placed). directive_in q.item) (take n items) (old ∷ drop (suc n) items)
    ∙ ap (λ (ds : List Directive). all_said directive_in (take n items) ++ (ds ++ all_said directive_in (drop (suc n) items))) none

-- another one that says none either, in its place
pub changed_context : (year : Option ℕ) (by : Offset) (n : ℕ) (items : List Placed) (old new : Placed) → slice_get items n ≡ Some old → directive_in old.item ≡ [] → directive_in new.item ≡ []
    → context_of year (items_at (changed_at (moved_placed by) n new items)) ≡ context_of year (items_at items)
changed_context year by n items old new here was is =
    let rest = drop (suc n) items in
    context_alike year (items_at items) (items_at (changed_at (moved_placed by) n new items))
    (
    told_by (changed_at (moved_placed by) n new items)
    ∙ flat_map-append (λ (q : Placed). directive_in q.item) (take n items) (new ∷ map (moved_placed by) rest)
    ∙ (λ i. all_said directive_in (take n items) ++ (is i ++ moved_told by rest i))
    ∙ sym (without n items old here was)
    ∙ sym (told_by items)
    )

pub met_context : (year : Option ℕ) (n : ℕ) (items : List Placed) (met : Met) (old : Placed) → IsMet n items met → slice_get items n ≡ Some old → directive_in old.item ≡ []
    → context_of year (items_at (items_met n items met)) ≡ context_of year (items_at items)
met_context year n items met old h here was =
    let rest = drop (suc n) items in
    context_alike year (items_at items) (items_at (items_met n items met))
    (
    told_by (items_met n items met)
    ∙ met_said directive_in refl n items met h
    ∙ (λ i. all_said directive_in (take n items) ++ (txn-says-none met.placed.item h.txn i ++ moved_told met.by rest i))
    ∙ sym (without n items old here was)
    ∙ sym (told_by items)
    )

-- what stands under the number of an entry
pub here_is : (year : Option ℕ) (text : List ℕ) (items : List Placed) (n : ℕ) (p : Piece) (c : Found text n p) (t : Told year text items n p c) → slice_get items n ≡ Some (placed_as p t.old)
here_is year text items n p c t = (λ i. slice_get (t.items_are i) (sym t.count i)) ∙ get_number t.before (placed_as p t.old) t.later

-- ---- transactions

pub met_txns_are : (items : List Placed) (n : ℕ) (met : Met) (old : Placed) (t u : Txn) → IsMet n items met → slice_get items n ≡ Some old → old.item ≡ item.Txn t → met.placed.item ≡ item.Txn u
    → txns_of (items_met n items met) ≡ moved_from (suc (number_at items n)) met.by.lines (set (txns_of items) (number_at items n) u)
met_txns_are items n met old t u h here was becomes =
    met_said txn_in refl n items met h
    ∙ sym (txns_both (take n items) (met.placed ∷ map (moved_placed met.by) (drop (suc n) items)))
    ∙ txns_changed met.by items n old met.placed t u here was becomes

-- ---- an entry alone

ended : (bytes : List ℕ) → ends_line bytes ≡ true → is_ended bytes ≡ true
ended [] h = refl
ended (b ∷ bs) h = h

-- bytes that are one entry are entries and gaps
pub lone_entries : (bytes : List ℕ) → IsEntry bytes → AreEntries bytes
lone_entries bytes entry =
    let a = alone bytes entry in
    let begins = entry_begins a.first a.is_entry in
    record {
      ends = ended bytes entry.ends;
      first = ap (prefix_len is_indented) a.lines ∙ ap (λ (t : Bool). cond t (1 + prefix_len is_indented a.own) 0) begins.indented;
      kinds = subst (AllByRecursion (λ (q : Piece). is_entry_or_gap q.kind ≡ true)) (sym entry.one) (refl, tt);
    }
