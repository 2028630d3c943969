-- The parts of a transaction's group.
use Rattle.std.proofs.Common.{◌≡◌, ℕ, Bool, true, false, cond, filter, List, [], ◌∷◌, ◌++◌, Option, Some, None, refl, sym, ap, ◌∙◌, subst}
use Rattle.std.specs.List.{flat_map, list_any}
use Rattle.std.proofs.lemmas.List.{append_assoc, append-nil}
use Rattle.book.specs.declared.fault.Fault.{Fault}
use Rattle.book.specs.declared.transaction.Posting.{Posting}
use Rattle.book.specs.declared.transaction.Txn.{Txn}
use Rattle.book.specs.SumsBefore.{is_assigned}
use Rattle.entry_balance.specs.Values.{Value}
use Rattle.entry_balance.specs.Entry.{moved_by, moved}
use Rattle.balancing.specs.declared.groups.Part.{Part}
use Rattle.balancing.specs.declared.groups.Part.TheVariants as part
use Rattle.balancing.specs.Parts.{is_chosen, part_on, postings_on}
use Rattle.assertions.specs.Assertions.{first_failure, or_else_fault, failure_of}
use Rattle.balancing.specs.Claims.{AreClaimed}
use Rattle.assertions.specs.Kept.{Keeping, IsBalance}
use Rattle.balancing.specs.Walk.{moved_when}

pub moved_chosen : (part : Part) (day : ℕ) (t : Txn) (ps : List Posting) → flat_map (moved_when part day t) ps ≡ moved (filter (is_chosen part day t) ps)
moved_chosen part day t [] = refl
moved_chosen part day t (p ∷ ps) =
    elim (is_chosen part day t p) as (λ b. cond b (moved_by p) [] ++ flat_map (moved_when part day t) ps ≡ moved (cond b (p ∷ filter (is_chosen part day t) ps) (filter (is_chosen part day t) ps))) [
      | true ↦ ap (λ (vs : List Value). moved_by p ++ vs) (moved_chosen part day t ps)
      | false ↦ moved_chosen part day t ps
    ]

module _ (day : ℕ) (t : Txn) where
  pub whole_on : list_any is_assigned t.postings ≡ false → part_on part.All day t ≡ postings_on day t
  whole_on h = sym (ap (λ (b : Bool). cond b (part_on part.ButFound day t ++ part_on part.Found day t) (part_on part.All day t)) h)

  pub parts_on : list_any is_assigned t.postings ≡ true → part_on part.ButFound day t ++ part_on part.Found day t ≡ postings_on day t
  parts_on h = sym (ap (λ (b : Bool). cond b (part_on part.ButFound day t ++ part_on part.Found day t) (part_on part.All day t)) h)

pub failure-append : (seen xs ys : List Posting) → first_failure seen (xs ++ ys) ≡ or_else_fault (first_failure seen xs) (first_failure (seen ++ xs) ys)
failure-append seen [] ys = ap (λ (s : List Posting). first_failure s ys) (sym (append-nil seen))
failure-append seen (x ∷ xs) ys =
    ap (or_else_fault (failure_of (seen ++ x ∷ []) x x.wanted)) (failure-append (seen ++ x ∷ []) xs ys ∙ ap (λ (s : List Posting). or_else_fault (first_failure (seen ++ x ∷ []) xs) (first_failure s ys)) (append_assoc seen (x ∷ []) xs))
    ∙ or_else_both (failure_of (seen ++ x ∷ []) x x.wanted) (first_failure (seen ++ x ∷ []) xs) (first_failure (seen ++ (x ∷ xs)) ys)
  where
    or_else_both : (a b c : Option Fault) → or_else_fault a (or_else_fault b c) ≡ or_else_fault (or_else_fault a b) c
    or_else_both None b c = refl
    or_else_both (Some f) b c = refl

-- two parts that were judged one after the other
pub claimed_both : (seen xs ys : List Posting) (own below own' below' : Keeping) (fault : Option Fault) → AreClaimed seen xs own below None → AreClaimed (seen ++ xs) ys own' below' fault → AreClaimed seen (xs ++ ys) own' below' fault
claimed_both seen xs ys own below own' below' fault first second = record {
  is = second.is ∙ ap (λ (f : Option Fault). or_else_fault f (first_failure (seen ++ xs) ys)) first.is ∙ sym (failure-append seen xs ys);
  kept = λ none. subst (λ (s : List Posting). IsBalance s own' below') (append_assoc seen xs ys) (second.kept none);
}

-- a fault of the first part
pub claimed_first : (seen xs ys : List Posting) (own below : Keeping) (fault : Fault) → AreClaimed seen xs own below (Some fault) → AreClaimed seen (xs ++ ys) own below (Some fault)
claimed_first seen xs ys own below fault first = record {
  is = ap (λ (f : Option Fault). or_else_fault f (first_failure (seen ++ xs) ys)) first.is ∙ sym (failure-append seen xs ys);
  kept = λ none. absurd (let never : ⊥ = cc in never);
}
