-- Transactions without assertions ask for no account.
use Rattle.std.proofs.Common.{◌≡◌, ℕ, Bool, true, false, ◌&&◌, ◌||◌, List, [], ◌∷◌, ◌++◌, Option, Some, None, is_some, refl, sym, ap, ◌∙◌}
use Rattle.std.specs.List.{list_all}
use Rattle.std.proofs.lemmas.Bool.{false≢true, or_parts}
use Rattle.book.specs.declared.amount.Assertion.{Assertion}
use Rattle.book.specs.declared.transaction.Posting.{Posting}
use Rattle.book.specs.declared.transaction.Txn.{Txn}
use Rattle.assertions.specs.Kept.{Keeping, is_asked_by, is_asked, are_asked}
use Rattle.balancing.specs.Wanting.{wants, has_wanted, any_wanted}

both : (a b : Bool) → a ≡ true → b ≡ true → (a && b) ≡ true
both a b h k = ap (λ (c : Bool). c && b) h ∙ k

module _ (own below : Keeping) where
  unasked_by : (account : List ℕ) (wanted : Option Assertion) → is_some wanted ≡ false → is_asked_by own below account wanted ≡ true
  unasked_by account None none = refl
  unasked_by account (Some assertion) none = absurd (false≢true (sym none))

  unasked_each : (ps : List Posting) → has_wanted ps ≡ false → list_all (is_asked own below) ps ≡ true
  unasked_each [] none = refl
  unasked_each (p ∷ ps) none =
      let parts = or_parts (wants p) (has_wanted ps) none in
      both (is_asked own below p) (list_all (is_asked own below) ps) (unasked_by p.account p.wanted parts.0) (unasked_each ps parts.1)

  pub unasked : (txns : List Txn) → any_wanted txns ≡ false → are_asked own below txns ≡ true
  unasked [] none = refl
  unasked (t ∷ txns) none =
      let parts = or_parts (has_wanted t.postings) (any_wanted txns) none in
      both (list_all (is_asked own below) t.postings) (are_asked own below txns) (unasked_each t.postings parts.0) (unasked txns parts.1)

or_none : (b : Bool) → (b || false) ≡ b
or_none true = refl
or_none false = refl

-- with one more transaction
any_more : (txns : List Txn) (t : Txn) → any_wanted (txns ++ t ∷ []) ≡ (any_wanted txns || has_wanted t.postings)
any_more [] t = or_none (has_wanted t.postings)
any_more (u ∷ txns) t =
    elim (has_wanted u.postings) as (λ b. (b || any_wanted (txns ++ t ∷ [])) ≡ ((b || any_wanted txns) || has_wanted t.postings)) [ true ↦ refl | false ↦ any_more txns t ]

pub wanted_more : (txns more : List Txn) (t : Txn) (old new : Bool) → more ≡ txns ++ t ∷ [] → new ≡ (old || has_wanted t.postings) → old ≡ any_wanted txns → new ≡ any_wanted more
wanted_more txns more t old new pushed is known =
    is ∙ ap (λ (b : Bool). b || has_wanted t.postings) known ∙ sym (any_more txns t) ∙ ap any_wanted (sym pushed)
