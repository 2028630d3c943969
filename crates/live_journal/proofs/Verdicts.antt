-- How the verdicts on an edit come together.
use Rattle.std.proofs.Common.{◌≡◌, ℕ, List, [], ◌∷◌, Option, Some, None, IfSome, Bool, Result, Ok, Err, IsOk, arith, refl, ap, sym, ◌∙◌}
use Rattle.book.specs.declared.item.Book.{Book}
use Rattle.book.specs.declared.fault.Fault.{Fault}
use Rattle.live_journal.specs.declared.fault.EditFault.{EditFault}
use Rattle.live_journal.specs.declared.fault.OpenFault.{OpenFault}
use Rattle.live_journal.specs.declared.fault.OpenFault.TheVariants as unopened
use Rattle.live_journal.specs.Faults.{as_refusal}
use Rattle.std.specs.Str.{bytes_eq}
use Rattle.hl_base.specs.declared.change.Splice.{Splice}
use Rattle.hl_base.specs.declared.items.Piece.{Piece}
use Rattle.hl_base.specs.Items.{items_of}
use Rattle.live_journal.specs.declared.edit.Edit.{Edit}
use Rattle.live_journal.specs.Edits.{applied, splice_of}
use Rattle.live_journal.specs.Journals.{Journal, Planned}
use Rattle.live_journal.specs.Loading.{book_of, fault_of, first_of, limit_fault, past_limit, text_fault, Tells}
use Rattle.live_journal.specs.Refusals.{TellsRefusal, refusal_in, bad_base, base_of, cause_in, no_book, no_such_item, not_transactions, or_refused, planned, prepared, refusal_of, stale, too_large}

-- where neither of two is there, the rest decides
pub neither : (a b : Option EditFault) (rest : List (Option EditFault)) → first_of (a ∷ b ∷ []) ≡ None → first_of (a ∷ b ∷ rest) ≡ first_of rest
neither None None rest h = refl
neither None (Some y) rest h = cc
neither (Some x) b rest h = cc

-- where one of two is there, the rest doesn't count
pub either : (a b : Option EditFault) (rest : List (Option EditFault)) (f : EditFault) → first_of (a ∷ b ∷ []) ≡ Some f → first_of (a ∷ b ∷ rest) ≡ Some f
either None None rest f h = cc
either None (Some y) rest f h = h
either (Some x) b rest f h = h

pub absent : (a : Option EditFault) (rest : List (Option EditFault)) → a ≡ None → first_of (a ∷ rest) ≡ first_of rest
absent None rest h = refl
absent (Some x) rest h = cc

pub present : (a : Option EditFault) (rest : List (Option EditFault)) (f : EditFault) → a ≡ Some f → first_of (a ∷ rest) ≡ Some f
present None rest f h = cc
present (Some x) rest f h = h

-- the refusals of a new text are those of any text
as_mapped : (past : Option (ℕ × ℕ)) (book : Result Book Fault) → first_of (too_large past ∷ no_book book ∷ []) ≡ refusal_in (first_of (limit_fault past ∷ text_fault book ∷ []))
as_mapped (Some p) book = refl
as_mapped None (Ok b) = refl
as_mapped None (Err f) = refl

-- an error of loading the new text tells why the edit is refused
pub as_told : (e : OpenFault) (fault : Option OpenFault) → Tells e fault → TellsRefusal (as_refusal e) fault
as_told (unopened.Load f) fault h = ap refusal_in h
as_told (unopened.TooLarge l s) fault h = ap refusal_in h
as_told unopened.Memory fault h = tt

onto : (o : Option EditFault) (a b : Option EditFault) → a ≡ b → IfSome o (λ told. b ≡ Some told) → IfSome o (λ told. a ≡ Some told)
onto None a b e h = tt
onto (Some f) a b e h = e ∙ h

-- an edit that is refused isn't planned
refused_so : (j : Journal) (edit : Edit) (o : Option EditFault) → IfSome o (λ f. refusal_of j edit ≡ Some f) → IfSome o (λ f. prepared j edit ≡ Err f)
refused_so j edit None h = tt
refused_so j edit (Some f) h = ap (or_refused (planned j edit)) h

of_two : (a b : Option EditFault) (rest : List (Option EditFault)) (o : Option EditFault) → IfSome o (λ f. first_of (a ∷ b ∷ []) ≡ Some f) → IfSome o (λ f. first_of (a ∷ b ∷ rest) ≡ Some f)
of_two a b rest None h = tt
of_two a b rest (Some f) h = either a b rest f h

of_one : (a : Option EditFault) (rest : List (Option EditFault)) (o : Option EditFault) → IfSome o (λ f. a ≡ Some f) → IfSome o (λ f. first_of (a ∷ rest) ≡ Some f)
of_one a rest None h = tt
of_one a rest (Some f) h = present a rest f h

-- the verdicts on the base, the item and the entry, and on the new text
abbrev on_base : Journal → Edit → Option EditFault
on_base j edit = first_of (bad_base j.revision (base_of edit) ∷ stale j.revision (base_of edit) ∷ [])

abbrev on_text : Journal → List ℕ → Option EditFault
on_text j text = first_of (too_large (past_limit text) ∷ no_book (book_of j.year text) ∷ [])

after_base : (j : Journal) (edit : Edit) → on_base j edit ≡ None → refusal_of j edit ≡ first_of (no_such_item (items_of j.text) edit ∷ not_transactions (items_of j.text) edit ∷ too_large (past_limit (applied j.text edit)) ∷ no_book (book_of j.year (applied j.text edit)) ∷ [])
unfolding refusal_of
after_base j edit h = neither _ _ _ h

after_item : (j : Journal) (edit : Edit) → on_base j edit ≡ None → no_such_item (items_of j.text) edit ≡ None → refusal_of j edit ≡ first_of (not_transactions (items_of j.text) edit ∷ too_large (past_limit (applied j.text edit)) ∷ no_book (book_of j.year (applied j.text edit)) ∷ [])
after_item j edit b i = after_base j edit b ∙ absent _ _ i

after_entry : (j : Journal) (edit : Edit) → on_base j edit ≡ None → no_such_item (items_of j.text) edit ≡ None → not_transactions (items_of j.text) edit ≡ None → refusal_of j edit ≡ on_text j (applied j.text edit)
after_entry j edit b i e = after_item j edit b i ∙ absent _ _ e

pub by_base : (j : Journal) (edit : Edit) (e : EditFault) → IfSome (cause_in e) (λ f. on_base j edit ≡ Some f) → IfSome (cause_in e) (λ f. prepared j edit ≡ Err f)
unfolding refusal_of
by_base j edit e h = refused_so j edit (cause_in e) (of_two _ _ _ (cause_in e) h)

pub by_item : (j : Journal) (edit : Edit) (e : EditFault) → on_base j edit ≡ None → IfSome (cause_in e) (λ f. no_such_item (items_of j.text) edit ≡ Some f) → IfSome (cause_in e) (λ f. prepared j edit ≡ Err f)
by_item j edit e b h =
    refused_so j edit (cause_in e) (onto (cause_in e) _ _ (after_base j edit b) (of_one _ _ (cause_in e) h))

pub by_entry : (j : Journal) (edit : Edit) (e : EditFault) → on_base j edit ≡ None → no_such_item (items_of j.text) edit ≡ None → IfSome (cause_in e) (λ f. not_transactions (items_of j.text) edit ≡ Some f) → IfSome (cause_in e) (λ f. prepared j edit ≡ Err f)
by_entry j edit e b i h =
    refused_so j edit (cause_in e) (onto (cause_in e) _ _ (after_item j edit b i) (of_one _ _ (cause_in e) h))

pub by_text : (j : Journal) (edit : Edit) (e : EditFault) → on_base j edit ≡ None → no_such_item (items_of j.text) edit ≡ None → not_transactions (items_of j.text) edit ≡ None → TellsRefusal e (fault_of j.year (applied j.text edit)) → IfSome (cause_in e) (λ f. prepared j edit ≡ Err f)
by_text j edit e b i n h =
    refused_so j edit (cause_in e) (onto (cause_in e) _ _ (after_entry j edit b i n ∙ as_mapped (past_limit (applied j.text edit)) (book_of j.year (applied j.text edit))) h)

-- an edit that isn't refused is planned
pub accepted : (j : Journal) (edit : Edit) → on_base j edit ≡ None → no_such_item (items_of j.text) edit ≡ None → not_transactions (items_of j.text) edit ≡ None → fault_of j.year (applied j.text edit) ≡ None → prepared j edit ≡ Ok (planned j edit)
accepted j edit b i n h =
    ap (or_refused (planned j edit)) (after_entry j edit b i n ∙ as_mapped (past_limit (applied j.text edit)) (book_of j.year (applied j.text edit)) ∙ ap refusal_in h)

abbrev plan_from : Journal → List ℕ → Splice → Bool → Planned
plan_from j text splice same = record { from = j; text = text; splice = splice; same = same }

-- what is made of an edit is what it is planned as
pub planned_as : (j : Journal) (edit : Edit) (from : Journal) (text : List ℕ) (splice : Splice) (same : Bool) → from ≡ j → text ≡ applied j.text edit → splice ≡ splice_of j.text edit → same ≡ bytes_eq text j.text → planned j edit ≡ plan_from from text splice same
planned_as j edit from text splice same f t s e =
    sym (
    ap (λ (x : Journal). plan_from x text splice same) f
    ∙ ap (λ (x : List ℕ). plan_from j x splice same) t
    ∙ ap (λ (x : Splice). plan_from j (applied j.text edit) x same) s
    ∙ ap (plan_from j (applied j.text edit) (splice_of j.text edit)) (e ∙ ap (λ (x : List ℕ). bytes_eq x j.text) t))
