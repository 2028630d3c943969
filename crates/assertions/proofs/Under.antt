-- An account and those that it lies under.
use Rattle.std.proofs.Common.{◌≡◌, ℕ, zero, suc, ◌+◌, ◌<◌, ◌≤◌, ◌==◌, Bool, true, false, cond, ◌&&◌, ltb, List, [], ◌∷◌, ◌++◌, length, get_or, take, ◌⊎◌, inl, inr, refl, sym, ap, ◌∙◌, arith}
use Rattle.std.specs.Str.{bytes_eq}
use Rattle.std.proofs.lemmas.Bool.{false≢true, cases_lt}
use Rattle.std.proofs.lemmas.Bool.Decides.{Decides-ltb, Decides-eqb}
use Rattle.std.proofs.lemmas.List.{append-nil}
use Rattle.std.proofs.lemmas.Slice.Eq.{bytes_eq-Decides}
use Rattle.entry_balance.specs.Values.{Value}
use Rattle.entry_balance.proofs.Adding.{false-from}
use Rattle.assertions.specs.Assertions.{lies_under}
use Rattle.assertions.specs.Kept.{and_at, and_under, and_above}

same-eqb : (b : ℕ) → (b == b) ≡ true
same-eqb b = (Decides-eqb b b).1 refl

lt-yes : (a b : ℕ) → a < b → ltb a b ≡ true
lt-yes a b h = (Decides-ltb a b).1 h

lt-no : (a b : ℕ) → b ≤ a → ltb a b ≡ false
lt-no a b h = false-from (ltb a b) (λ e. let less = (Decides-ltb a b).0 e in omega (arith, h, less))

-- the first letters are one where a longer name lies under another
first-same : (b r : ℕ) (account root : List ℕ) → lies_under (b ∷ account) (r ∷ root) ≡ true → (b ≡ r) × (lies_under account root ≡ true)
first-same b r account root h = by (b == r) refl h
  where
    by : (t : Bool) → (b == r) ≡ t → cond t (lies_under account root) false ≡ true → (b ≡ r) × (lies_under account root ≡ true)
    by true e k = ((Decides-eqb b r).0 e, k)
    by false e k = absurd (false≢true k)

pub under-shorter : (account root : List ℕ) → lies_under account root ≡ true → length root ≤ length account
under-shorter [] [] h = omega arith
under-shorter [] (r ∷ root) h = absurd (false≢true h)
under-shorter (b ∷ account) [] h = omega arith
under-shorter (b ∷ account) (r ∷ root) h = let rest = under-shorter account root (first-same b r account root h).1 in omega (arith, rest)

pub under-itself : (account : List ℕ) → lies_under account account ≡ true
under-itself [] = refl
under-itself (b ∷ account) = ap (λ (t : Bool). cond t (lies_under account account) false) (same-eqb b) ∙ under-itself account

pub under-whole : (account root : List ℕ) → lies_under account root ≡ true → length root ≡ length account → root ≡ account
under-whole [] [] h e = refl
under-whole [] (r ∷ root) h e = absurd (false≢true h)
under-whole (b ∷ account) [] h e = absurd (omega (arith, e))
under-whole (b ∷ account) (r ∷ root) h e =
    let first = first-same b r account root h in
    let rest = under-whole account root first.1 (omega (arith, e)) in
    λ i. sym first.0 i ∷ rest i

pub under-part : (account root : List ℕ) (n : ℕ) → lies_under account root ≡ true → length root ≡ n → n < length account → (root ≡ take n account) × (get_or account n 0 ≡ 58)
under-part [] root n h e less = absurd (omega arith)
under-part (b ∷ account) [] zero h e less = (refl, (Decides-eqb b 58).0 h)
under-part (b ∷ account) [] (suc n) h e less = absurd (omega (arith, e))
under-part (b ∷ account) (r ∷ root) zero h e less = absurd (omega (arith, e))
under-part (b ∷ account) (r ∷ root) (suc n) h e less =
    let first = first-same b r account root h in
    let rest = under-part account root n first.1 (omega (arith, e)) (omega arith) in
    ((λ i. sym first.0 i ∷ rest.0 i), rest.1)

pub part-under : (account : List ℕ) (n : ℕ) → n < length account → get_or account n 0 ≡ 58 → lies_under account (take n account) ≡ true
part-under [] n less e = absurd (omega arith)
part-under (b ∷ account) zero less e = (Decides-eqb b 58).1 e
part-under (b ∷ account) (suc n) less e = ap (λ (t : Bool). cond t (lies_under account (take n account)) false) (same-eqb b) ∙ part-under account n (omega arith) e

pub part-length : (account : List ℕ) (n : ℕ) → n < length account → length (take n account) ≡ n
part-length [] n less = absurd (omega arith)
part-length (b ∷ account) zero less = refl
part-length (b ∷ account) (suc n) less = ap suc (part-length account n (omega arith))

differ-length : (a b : List ℕ) → (length a ≡ length b → ⊥) → bytes_eq a b ≡ false
differ-length a b h = false-from (bytes_eq a b) (λ e. h (ap length ((bytes_eq-Decides a b).0 e)))

module _ (values : List ℕ → List Value) (name : List ℕ) (v : Value) (root : List ℕ) where
  abbrev one : Bool → List Value
  one b = cond b (v ∷ []) []

  above-is : (n : ℕ) (b c : Bool) → lies_under name root ≡ b → ltb (length root) n ≡ c → and_above n values name v root ≡ values root ++ one (b && c)
  above-is n b c e f = λ i. values root ++ one (e i && f i)

  at-is : (before : List ℕ → List Value) (other : List ℕ) (b : Bool) → bytes_eq root other ≡ b → and_at before other v root ≡ before root ++ one b
  at-is before other b e = ap (λ (t : Bool). before root ++ one t) e

  none-more : (vs : List Value) → vs ++ [] ≡ vs
  none-more vs = append-nil vs

  module _ (n : ℕ) (less : n < length name) where
    -- a place of a colon
    pub above-colon : get_or name n 0 ≡ 58 → and_at (and_above n values name v) (take n name) v root ≡ and_above (n + 1) values name v root
    above-colon colon = by (lies_under name root) refl
      where
        by : (b : Bool) → lies_under name root ≡ b → and_at (and_above n values name v) (take n name) v root ≡ and_above (n + 1) values name v root
        by false e =
            let other : bytes_eq root (take n name) ≡ false = false-from _ (λ same. false≢true (sym e ∙ ap (lies_under name) ((bytes_eq-Decides root (take n name)).0 same) ∙ part-under name n less colon)) in
            at-is (and_above n values name v) (take n name) false other ∙ none-more (and_above n values name v root)
            ∙ above-is n false (ltb (length root) n) e refl ∙ sym (above-is (n + 1) false (ltb (length root) (n + 1)) e refl)
        by true e = at (cases_lt (length root) n) (cases_lt n (length root))
          where
            at : (length root < n) ⊎ (n ≤ length root) → (n < length root) ⊎ (length root ≤ n) → and_at (and_above n values name v) (take n name) v root ≡ and_above (n + 1) values name v root
            at (inl shorter) _ =
                let cut = part-length name n less in
                let other : bytes_eq root (take n name) ≡ false = differ-length root (take n name) (λ same. omega (arith, same, cut)) in
                at-is (and_above n values name v) (take n name) false other ∙ none-more (and_above n values name v root)
                ∙ above-is n true true e (lt-yes (length root) n shorter) ∙ sym (above-is (n + 1) true true e (lt-yes (length root) (n + 1) (omega arith)))
            at (inr _) (inl longer) =
                let cut = part-length name n less in
                let other : bytes_eq root (take n name) ≡ false = differ-length root (take n name) (λ same. omega (arith, same, cut)) in
                at-is (and_above n values name v) (take n name) false other ∙ none-more (and_above n values name v root)
                ∙ above-is n true false e (lt-no (length root) n (omega arith)) ∙ sym (above-is (n + 1) true false e (lt-no (length root) (n + 1) (omega arith)))
            at (inr more) (inr most) =
                let len : length root ≡ n = omega arith in
                let same : bytes_eq root (take n name) ≡ true = (bytes_eq-Decides root (take n name)).1 (under-part name root n e len less).0 in
                at-is (and_above n values name v) (take n name) true same
                ∙ ap (λ (vs : List Value). vs ++ v ∷ []) (above-is n true false e (lt-no (length root) n more) ∙ none-more (values root))
                ∙ sym (above-is (n + 1) true true e (lt-yes (length root) (n + 1) (omega arith)))

    -- a place of another letter
    pub above-other : (get_or name n 0 ≡ 58 → ⊥) → and_above n values name v root ≡ and_above (n + 1) values name v root
    above-other other = by (lies_under name root) refl
      where
        by : (b : Bool) → lies_under name root ≡ b → and_above n values name v root ≡ and_above (n + 1) values name v root
        by false e = above-is n false (ltb (length root) n) e refl ∙ sym (above-is (n + 1) false (ltb (length root) (n + 1)) e refl)
        by true e = at (cases_lt (length root) n) (cases_lt n (length root))
          where
            at : (length root < n) ⊎ (n ≤ length root) → (n < length root) ⊎ (length root ≤ n) → and_above n values name v root ≡ and_above (n + 1) values name v root
            at (inl shorter) _ = above-is n true true e (lt-yes (length root) n shorter) ∙ sym (above-is (n + 1) true true e (lt-yes (length root) (n + 1) (omega arith)))
            at (inr _) (inl longer) = above-is n true false e (lt-no (length root) n (omega arith)) ∙ sym (above-is (n + 1) true false e (lt-no (length root) (n + 1) (omega arith)))
            at (inr more) (inr most) = absurd (other (under-part name root n e (omega arith) less).1)

  -- a longer name isn't above
  pub above-past : (n : ℕ) → n ≤ length root → and_above n values name v root ≡ values root
  above-past n more = by (lies_under name root) refl
    where
      by : (b : Bool) → lies_under name root ≡ b → and_above n values name v root ≡ values root
      by true e = above-is n true false e (lt-no (length root) n more) ∙ none-more (values root)
      by false e = above-is n false (ltb (length root) n) e refl ∙ none-more (values root)

  -- nothing is above the first letter
  pub above-none : values root ≡ and_above 0 values name v root
  above-none = sym (by (lies_under name root) refl)
    where
      by : (b : Bool) → lies_under name root ≡ b → and_above 0 values name v root ≡ values root
      by true e = above-is 0 true false e (lt-no (length root) 0 (omega arith)) ∙ none-more (values root)
      by false e = above-is 0 false (ltb (length root) 0) e refl ∙ none-more (values root)

  -- the account itself is the last one
  pub above-all : and_at (and_above (length name) values name v) name v root ≡ and_under values name v root
  above-all = by (lies_under name root) refl
    where
      under-is : (b : Bool) → lies_under name root ≡ b → and_under values name v root ≡ values root ++ one b
      under-is b e = ap (λ (t : Bool). values root ++ one t) e

      by : (b : Bool) → lies_under name root ≡ b → and_at (and_above (length name) values name v) name v root ≡ and_under values name v root
      by false e =
          let other : bytes_eq root name ≡ false = false-from _ (λ same. false≢true (sym e ∙ ap (lies_under name) ((bytes_eq-Decides root name).0 same) ∙ under-itself name)) in
          at-is (and_above (length name) values name v) name false other ∙ none-more (and_above (length name) values name v root)
          ∙ above-is (length name) false (ltb (length root) (length name)) e refl ∙ sym (under-is false e)
      by true e = at (cases_lt (length root) (length name))
        where
          at : (length root < length name) ⊎ (length name ≤ length root) → and_at (and_above (length name) values name v) name v root ≡ and_under values name v root
          at (inl shorter) =
              let other : bytes_eq root name ≡ false = differ-length root name (λ same. omega (arith, same)) in
              at-is (and_above (length name) values name v) name false other ∙ none-more (and_above (length name) values name v root)
              ∙ above-is (length name) true true e (lt-yes (length root) (length name) shorter) ∙ sym (under-is true e)
          at (inr more) =
              let shorter = under-shorter name root e in
              let same = under-whole name root e (omega (arith, shorter)) in
              at-is (and_above (length name) values name v) name true ((bytes_eq-Decides root name).1 same)
              ∙ ap (λ (vs : List Value). vs ++ v ∷ []) (above-is (length name) true false e (lt-no (length root) (length name) more) ∙ none-more (values root))
              ∙ sym (under-is true e)
