-- Assertions of one transaction that are judged one after another.
use Rattle.std.proofs.Common.{◌≡◌, ℕ, zero, suc, ◌+◌, ◌<◌, ◌≤◌, Bool, true, false, cond, not, List, [], ◌∷◌, ◌++◌, length, get_or, take, drop, filter, Option, Some, None, refl, sym, ap, ◌∙◌, subst, arith, add-one, drop-cons}
use Rattle.std.specs.List.{list_any}
use Rattle.std.proofs.lemmas.Grind.{flat_map-append}
use Rattle.std.proofs.lemmas.List.{append-nil, append_assoc, take_more}
use Rattle.book.specs.declared.fault.Fault.{Fault}
use Rattle.book.specs.declared.transaction.Posting.{Posting}
use Rattle.book.specs.SumsBefore.{is_assigned}
use Rattle.entry_balance.specs.Values.{Value}
use Rattle.entry_balance.specs.Entry.{moved, moved_by}
use Rattle.entry_balance.proofs.Adding.{take_past}
use Rattle.entry_balance.proofs.Covers.{Covers, covers_none, covers_same, covers_both}
use Rattle.assertions.specs.Assertions.{or_else_fault}
use Rattle.assertions.specs.Kept.{Keeping, IsBalance}
use Rattle.balancing.specs.Parts.{is_found, is_in}
use Rattle.balancing.specs.declared.groups.Part.TheVariants as part
use Rattle.balancing.proofs.Balanced.{filter-append, take_drop}
use Rattle.balancing.proofs.Ranged.{covers_swap, covers_through}
use Rattle.entry_check.specs.Checked.{Told, Others, failure_after, first_failing, in_order}
use Rattle.entry_check.specs.Failing.{IsJudged, AreJudged, IsPast}
use Rattle.entry_check.specs.Ranging.{are_in_range}
use Rattle.entry_check.proofs.Within.{asked_some, asked_both, out_more, out_first}

pub past_none : (told : Told) (others : Others) (done : List Posting) (f : Posting → Bool) (ps : List Posting) (own below : Keeping) → IsBalance done own below → IsPast told others done f ps 0 own below
past_none told others done f ps own below h = record {
  rest = ap (λ (s : List Posting). first_failing told others s (filter f ps)) (sym (append-nil done));
  kept = subst (λ (s : List Posting). IsBalance s own below) (sym (append-nil done)) h;
}

module _ (told : Told) (others : Others) (done : List Posting) (f : Posting → Bool) (ps : List Posting) (i : ℕ) (p : Posting) (less : i < length ps) (is : p ≡ get_or ps i p) where
  abbrev so_far : List Posting
  so_far = done ++ filter f (take i ps)

  abbrev later : List Posting
  later = filter f (drop (i + 1) ps)

  more_by : (b : Bool) → f p ≡ b → filter f (take (i + 1) ps) ≡ filter f (take i ps) ++ cond b (p ∷ []) []
  more_by b e = ap (filter f) (take_more ps i p less ∙ ap (λ (y : Posting). take i ps ++ y ∷ []) (sym is)) ∙ filter-append f (take i ps) (p ∷ []) ∙ ap (λ (t : Bool). filter f (take i ps) ++ cond t (p ∷ []) []) e

  left_by : (b : Bool) → f p ≡ b → filter f (drop i ps) ≡ cond b (p ∷ later) later
  left_by b e =
      let cut : drop i ps ≡ get_or ps i p ∷ drop (i + 1) ps = rw (add-one, drop-cons ps i p) refl in
      ap (filter f) (cut ∙ ap (λ (y : Posting). y ∷ drop (i + 1) ps) (sym is)) ∙ ap (λ (t : Bool). cond t (p ∷ later) later) e

  so_far_next : f p ≡ true → so_far ++ p ∷ [] ≡ done ++ filter f (take (i + 1) ps)
  so_far_next e = append_assoc done (filter f (take i ps)) (p ∷ []) ∙ ap (λ (qs : List Posting). done ++ qs) (sym (more_by true e))

  pub past_skip : (own below : Keeping) → f p ≡ false → IsPast told others done f ps i own below → IsPast told others done f ps (i + 1) own below
  past_skip own below e h =
      let same : so_far ≡ done ++ filter f (take (i + 1) ps) = ap (λ (qs : List Posting). done ++ qs) (sym (append-nil (filter f (take i ps))) ∙ sym (more_by false e)) in
      record {
        rest = h.rest ∙ (λ j. first_failing told others (same j) (left_by false e j));
        kept = subst (λ (s : List Posting). IsBalance s own below) same h.kept;
      }

  pub past_more : (own below own' below' : Keeping) (fault : Option Fault) → f p ≡ true → IsPast told others done f ps i own below → IsJudged told others so_far p own' below' fault → fault ≡ None → IsPast told others done f ps (i + 1) own' below'
  past_more own below own' below' fault e h judged none = record {
    rest = h.rest ∙ ap (first_failing told others so_far) (left_by true e) ∙ ap (λ (o : Option Fault). or_else_fault o (first_failing told others (so_far ++ p ∷ []) later)) (sym judged.is ∙ none) ∙ ap (λ (s : List Posting). first_failing told others s later) (so_far_next e);
    kept = subst (λ (s : List Posting). IsBalance s own' below') (so_far_next e) judged.kept;
  }

  pub past_stop : (own below own' below' : Keeping) (fault : Fault) → f p ≡ true → IsPast told others done f ps i own below → IsJudged told others so_far p own' below' (Some fault) → AreJudged told others done (filter f ps) own' below' (Some fault)
  past_stop own below own' below' fault e h judged = record {
    is = sym (h.rest ∙ ap (first_failing told others so_far) (left_by true e) ∙ ap (λ (o : Option Fault). or_else_fault o (first_failing told others (so_far ++ p ∷ []) later)) (sym judged.is));
    kept = λ none. absurd (let never : ⊥ = cc in never);
  }

  pub past_beyond : f p ≡ true → are_in_range told (so_far ++ p ∷ []) ≡ false → are_in_range told (done ++ filter f ps) ≡ false
  past_beyond e beyond =
      let whole : (so_far ++ p ∷ []) ++ later ≡ done ++ filter f ps =
      append_assoc so_far (p ∷ []) later ∙ append_assoc done (filter f (take i ps)) (p ∷ later) ∙ ap (λ (qs : List Posting). done ++ qs) (ap (λ (qs : List Posting). filter f (take i ps) ++ qs) (sym (left_by true e)) ∙ sym (filter-append f (take i ps) (drop i ps)) ∙ ap (filter f) (take_drop ps i)) in
      subst (λ (qs : List Posting). are_in_range told qs ≡ false) whole (out_first told (so_far ++ p ∷ []) later beyond)

pub past_end : (told : Told) (others : Others) (done : List Posting) (f : Posting → Bool) (ps : List Posting) (i : ℕ) (own below : Keeping) → length ps ≤ i → IsPast told others done f ps i own below → AreJudged told others done (filter f ps) own below None
past_end told others done f ps i own below more h = record {
  is = sym (h.rest ∙ ap (λ (qs : List Posting). first_failing told others (done ++ filter f (take i ps)) (filter f qs)) (past ps i more));
  kept = λ none. subst (λ (qs : List Posting). IsBalance (done ++ filter f qs) own below) (take_past ps i more) h.kept;
}
  where
    past : (qs : List Posting) (k : ℕ) → length qs ≤ k → drop k qs ≡ []
    past [] zero m = refl
    past [] (suc k) m = refl
    past (q ∷ qs) zero m = absurd (omega arith)
    past (q ∷ qs) (suc k) m = past qs k (omega arith)

-- ---- the order of the postings

pub filter_all : (ps : List Posting) → filter (is_in part.All) ps ≡ ps
filter_all [] = refl
filter_all (p ∷ ps) = ap (λ (qs : List Posting). p ∷ qs) (filter_all ps)

pub in_order_whole : (ps : List Posting) → list_any is_assigned ps ≡ false → filter (is_in part.All) ps ≡ in_order ps
in_order_whole ps h = filter_all ps ∙ sym (ap (λ (b : Bool). cond b (filter (is_in part.ButFound) ps ++ filter (is_in part.Found) ps) ps) h)

pub in_order_parts : (ps : List Posting) → list_any is_assigned ps ≡ true → filter (is_in part.ButFound) ps ++ filter (is_in part.Found) ps ≡ in_order ps
in_order_parts ps h = sym (ap (λ (b : Bool). cond b (filter (is_in part.ButFound) ps ++ filter (is_in part.Found) ps) ps) h)

split_covers : (ps : List Posting) → Covers (moved ps) (moved (filter (is_in part.ButFound) ps) ++ moved (filter (is_in part.Found) ps))
split_covers [] = covers_none []
split_covers (p ∷ ps) =
    let one = filter (is_in part.ButFound) ps in
    let two = filter (is_in part.Found) ps in
    let rest = covers_both (moved_by p) (moved_by p) (moved one ++ moved two) (moved ps) (covers_same (moved_by p)) (split_covers ps) in
    elim (is_found p) as (λ f. Covers (moved_by p ++ moved ps) (moved (cond (not f) (p ∷ one) one) ++ moved (cond f (p ∷ two) two))) [
      | true ↦ covers_through (moved_by p ++ moved ps) (moved_by p ++ (moved one ++ moved two)) (moved one ++ (moved_by p ++ moved two)) rest (covers_swap (moved_by p) (moved one) (moved two))
      | false ↦ subst (λ (vs : List Value). Covers (moved_by p ++ moved ps) vs) (sym (append_assoc (moved_by p) (moved one) (moved two))) rest
    ]

-- in whatever order, they are out of range
pub order_beyond : (told : Told) (ps : List Posting) → are_in_range told (in_order ps) ≡ false → are_in_range told ps ≡ false
order_beyond told ps = by (list_any is_assigned ps)
  where
    by : (b : Bool) → are_in_range told (cond b (filter (is_in part.ButFound) ps ++ filter (is_in part.Found) ps) ps) ≡ false → are_in_range told ps ≡ false
    by true h = out_more told (filter (is_in part.ButFound) ps ++ filter (is_in part.Found) ps) ps (record {
      moves = subst (λ (vs : List Value). Covers (moved ps) vs) (sym (flat_map-append moved_by (filter (is_in part.ButFound) ps) (filter (is_in part.Found) ps))) (split_covers ps);
      asks = λ xs k. asked_both told xs (filter (is_in part.ButFound) ps) (filter (is_in part.Found) ps) (asked_some told xs (is_in part.ButFound) ps k) (asked_some told xs (is_in part.Found) ps k);
    }) h
    by false h = h

-- ---- two parts, one after the other

pub failing-append : (told : Told) (others : Others) (done xs ys : List Posting) → first_failing told others done (xs ++ ys) ≡ or_else_fault (first_failing told others done xs) (first_failing told others (done ++ xs) ys)
failing-append told others done [] ys = ap (λ (s : List Posting). first_failing told others s ys) (sym (append-nil done))
failing-append told others done (x ∷ xs) ys =
    let f = failure_after told others (done ++ x ∷ []) x x.wanted in
    ap (or_else_fault f) (failing-append told others (done ++ x ∷ []) xs ys ∙ ap (λ (s : List Posting). or_else_fault (first_failing told others (done ++ x ∷ []) xs) (first_failing told others s ys)) (append_assoc done (x ∷ []) xs))
    ∙ or_else_both f (first_failing told others (done ++ x ∷ []) xs) (first_failing told others (done ++ (x ∷ xs)) ys)
  where
    or_else_both : (a b c : Option Fault) → or_else_fault a (or_else_fault b c) ≡ or_else_fault (or_else_fault a b) c
    or_else_both None b c = refl
    or_else_both (Some f) b c = refl

pub both_failing : (told : Told) (others : Others) (xs ys : List Posting) (own below own' below' : Keeping) (fault : Option Fault) → AreJudged told others [] xs own below None → AreJudged told others xs ys own' below' fault → fault ≡ first_failing told others [] (xs ++ ys)
both_failing told others xs ys own below own' below' fault first second =
    second.is ∙ ap (λ (f : Option Fault). or_else_fault f (first_failing told others xs ys)) first.is ∙ sym (failing-append told others [] xs ys)

pub one_failing : (told : Told) (others : Others) (xs ys : List Posting) (own below : Keeping) (fault : Fault) → AreJudged told others [] xs own below (Some fault) → Some fault ≡ first_failing told others [] (xs ++ ys)
one_failing told others xs ys own below fault first =
    ap (λ (f : Option Fault). or_else_fault f (first_failing told others xs ys)) first.is ∙ sym (failing-append told others [] xs ys)

pub whole_failing : (told : Told) (others : Others) (ps : List Posting) (own below : Keeping) (fault : Option Fault) → list_any is_assigned ps ≡ false → AreJudged told others [] (filter (is_in part.All) ps) own below fault → fault ≡ first_failing told others [] (in_order ps)
whole_failing told others ps own below fault none judged = judged.is ∙ ap (first_failing told others []) (in_order_whole ps none)
