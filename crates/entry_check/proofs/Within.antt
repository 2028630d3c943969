-- Postings that move no more than others, and ask for nothing else.
use Rattle.std.proofs.Common.{◌≡◌, ℕ, Bool, true, false, cond, ◌&&◌, List, [], ◌∷◌, ◌++◌, filter, Option, Some, None, refl, sym, ap, ◌∙◌, subst}
use Rattle.std.proofs.lemmas.Bool.{false≢true}
use Rattle.std.proofs.lemmas.Grind.{flat_map-append}
use Rattle.std.proofs.lemmas.List.Folds.{list_all-append}
use Rattle.book.specs.declared.amount.Assertion.{Assertion}
use Rattle.book.specs.declared.transaction.Posting.{Posting}
use Rattle.entry_balance.specs.Values.{Value}
use Rattle.entry_balance.specs.Tally.{turnover_fits}
use Rattle.entry_balance.specs.Entry.{moved, moved_by}
use Rattle.entry_balance.proofs.Adding.{false-from}
use Rattle.entry_balance.proofs.Covers.{Covers, covered-fits, covers_same, covers_left, covers_both}
use Rattle.entry_balance.proofs.Named.{both_true, left_true, right_true}
use Rattle.entry_check.specs.Checked.{Told, wanted_fits, asked_fit}
use Rattle.entry_check.specs.Ranging.{are_in_range}

-- ---- sums that are asked for

-- beside postings that move less they stay in range
wanted_less : (told : Told) (account : List ℕ) (w : Option Assertion) (ps qs : List Posting) → Covers (moved qs) (moved ps) → wanted_fits told account w qs ≡ true → wanted_fits told account w ps ≡ true
wanted_less told account None ps qs covers h = refl
wanted_less told account (Some w) ps qs covers h =
    let before : Value = (w.amount.symbol, told w.below account w.amount.symbol) in
    covered-fits (before ∷ moved qs) (before ∷ moved ps) (covers_both (before ∷ []) (before ∷ []) (moved ps) (moved qs) (covers_same (before ∷ [])) covers) h

asked_less : (told : Told) (ps qs asking : List Posting) → Covers (moved qs) (moved ps) → asked_fit told qs asking ≡ true → asked_fit told ps asking ≡ true
asked_less told ps qs [] covers h = refl
asked_less told ps qs (p ∷ rest) covers h =
    both_true (wanted_fits told p.account p.wanted ps) (asked_fit told ps rest)
    (wanted_less told p.account p.wanted ps qs covers (left_true (wanted_fits told p.account p.wanted qs) (asked_fit told qs rest) h))
    (asked_less told ps qs rest covers (right_true (wanted_fits told p.account p.wanted qs) (asked_fit told qs rest) h))

-- some of the postings that ask
pub asked_some : (told : Told) (xs : List Posting) (f : Posting → Bool) (ps : List Posting) → asked_fit told xs ps ≡ true → asked_fit told xs (filter f ps) ≡ true
asked_some told xs f [] h = refl
asked_some told xs f (p ∷ ps) h =
    let one = left_true (wanted_fits told p.account p.wanted xs) (asked_fit told xs ps) h in
    let rest = asked_some told xs f ps (right_true (wanted_fits told p.account p.wanted xs) (asked_fit told xs ps) h) in
    elim (f p) as (λ b. asked_fit told xs (cond b (p ∷ filter f ps) (filter f ps)) ≡ true) [
      | true ↦ both_true (wanted_fits told p.account p.wanted xs) (asked_fit told xs (filter f ps)) one rest
      | false ↦ rest
    ]

pub asked_both : (told : Told) (xs ps qs : List Posting) → asked_fit told xs ps ≡ true → asked_fit told xs qs ≡ true → asked_fit told xs (ps ++ qs) ≡ true
asked_both told xs ps qs h k = list_all-append (λ (p : Posting). wanted_fits told p.account p.wanted xs) ps qs ∙ both_true (asked_fit told xs ps) (asked_fit told xs qs) h k

-- ---- postings

-- some postings move no more than others, and ask for nothing else
pub record IsWithin (told : Told) (ps qs : List Posting) : Type 0 where
  pub moves : Covers (moved qs) (moved ps)
  pub asks : (xs : List Posting) → asked_fit told xs qs ≡ true → asked_fit told xs ps ≡ true

pub out_more : (told : Told) (ps qs : List Posting) → IsWithin told ps qs → are_in_range told ps ≡ false → are_in_range told qs ≡ false
out_more told ps qs within out = false-from _ (λ fits. false≢true (sym out ∙ both_true (turnover_fits (moved ps)) (asked_fit told ps ps)
    (covered-fits (moved qs) (moved ps) within.moves (left_true (turnover_fits (moved qs)) (asked_fit told qs qs) fits))
    (within.asks ps (asked_less told ps qs qs within.moves (right_true (turnover_fits (moved qs)) (asked_fit told qs qs) fits)))))

pub out_first : (told : Told) (xs ys : List Posting) → are_in_range told xs ≡ false → are_in_range told (xs ++ ys) ≡ false
out_first told xs ys = out_more told xs (xs ++ ys) (record {
  moves = subst (λ (vs : List Value). Covers vs (moved xs)) (sym (flat_map-append moved_by xs ys)) (covers_left (moved xs) (moved ys));
  asks = λ zs h. left_true (asked_fit told zs xs) (asked_fit told zs ys) (sym (list_all-append (λ (p : Posting). wanted_fits told p.account p.wanted zs) xs ys) ∙ h);
})

-- by what they move alone
pub out_alone : (told : Told) (ps : List Posting) → turnover_fits (moved ps) ≡ false → are_in_range told ps ≡ false
out_alone told ps h = ap (λ (b : Bool). b && asked_fit told ps ps) h

-- by what the last one asks for
pub out_last : (told : Told) (done : List Posting) (p : Posting) → wanted_fits told p.account p.wanted (done ++ p ∷ []) ≡ false → are_in_range told (done ++ p ∷ []) ≡ false
out_last told done p out =
    let all = done ++ p ∷ [] in
    false-from _ (λ fits. false≢true (sym out ∙ left_true (wanted_fits told p.account p.wanted all) true
    (right_true (asked_fit told all done) (asked_fit told all (p ∷ []))
    (sym (list_all-append (λ (q : Posting). wanted_fits told q.account q.wanted all) done (p ∷ [])) ∙ right_true (turnover_fits (moved all)) (asked_fit told all all) fits))))
