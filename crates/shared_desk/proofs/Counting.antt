-- What a machine counts along a legal history.
use Rattle.std.proofs.Common.{◌≡◌, ℕ, ◌+◌, not, Bool, true, false, cond, if◌then◌else◌, List, [], ◌∷◌, length, refl, sym, ap, ap₂, ◌∙◌, arith}
use Rattle.std.specs.Prelude.{filter}
use Rattle.hl_base.specs.declared.disk.Disk.{Ghosts}
use Rattle.turn_lock.specs.declared.known.Entered.{Entered}
use Rattle.desk.specs.declared.desk.Desk.{Desk}
use Rattle.desk.specs.Desks.{counts_of}
use Rattle.desk.specs.Entries.{Entry}
use Rattle.desk.specs.Steps.{counted, is_granted, one_more}
use Rattle.shared_desk.specs.Histories.{IsLegal, count_told, is_refusal, tally}

-- one more than what is told of a number
more : (n : ℕ) → one_more (count_told n) ≡ count_told (n + 1)
more n = omega arith

-- the counts after one more reply
one_counted : (a b : ℕ) (granted : Bool)
    → ◌≡◌ {A = ℕ × ℕ} (one_more (count_told a), if granted then count_told b else one_more (count_told b))
    (count_told (a + 1), count_told (if granted then b else b + 1))
one_counted a b true = ap (λ (n : ℕ). (n, count_told b)) (more a)
one_counted a b false = ap₂ (λ (n m : ℕ). (n, m)) (more a) (more b)

-- the refusals among one entry and others
refusals_are : (a : ℕ) (granted : Bool) (x : Entered Entry) (xs : List (Entered Entry)) (b : ℕ)
    → (if granted then b else b + 1) + length (filter is_refusal xs)
    ≡ b + length (cond (not granted) (x ∷ filter is_refusal xs) (filter is_refusal xs))
refusals_are a true x xs b = refl
refusals_are a false x xs b = omega arith

-- the counts of two numbers and of two others that are the same
told_same : (a b c d : ℕ) → a ≡ c → b ≡ d → ◌≡◌ {A = ℕ × ℕ} (count_told a, count_told b) (count_told c, count_told d)
told_same a b c d first second = ap₂ (λ (n m : ℕ). (count_told n, count_told m)) first second

zero_told : ◌≡◌ {A = ℕ × ℕ} (0, 0) (count_told 0, count_told 0)
zero_told =
    let zero : 0 ≡ count_told 0 = omega arith in
    ap₂ (λ (n m : ℕ). (n, m)) zero zero

module _ {D : Type 0} {g : Ghosts D} where
  counts_on : (opening last : Desk D g) (history : List (Entered Entry)) (a b : ℕ) → IsLegal opening history last
      → counts_of opening ≡ (count_told a, count_told b)
      → counts_of last ≡ (count_told (a + length history), count_told (b + length (filter is_refusal history)))
  counts_on opening last [] a b is counts =
      sym (ap counts_of is) ∙ counts ∙ told_same a b (a + 0) (b + 0) (omega arith) (omega arith)
  counts_on opening last (x ∷ xs) a b is counts =
      let mid : Desk D g = is.0 in
      let granted = is_granted x.entry.reply in
      let next : ℕ = if granted then b else b + 1 in
      let now : counts_of mid ≡ (count_told (a + 1), count_told next) =
      is.1.counts ∙ ap (λ (c : ℕ × ℕ). counted c x.entry.reply) counts ∙ one_counted a b granted in
      let rest = counts_on mid last xs (a + 1) next is.2 now in
      rest
      ∙ told_same (a + 1 + length xs) (next + length (filter is_refusal xs)) (a + length (x ∷ xs)) (b + length (filter is_refusal (x ∷ xs)))
      (omega arith) (refusals_are a granted x xs b)

  pub tallied : (opening last : Desk D g) (history : List (Entered Entry)) → IsLegal opening history last
      → counts_of opening ≡ (0, 0) → counts_of last ≡ tally history
  tallied opening last history is counts =
      counts_on opening last history 0 0 is (counts ∙ zero_told)
      ∙ told_same (0 + length history) (0 + length (filter is_refusal history)) (length history) (length (filter is_refusal history)) (omega arith) (omega arith)
