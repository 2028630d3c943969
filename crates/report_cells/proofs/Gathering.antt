-- The rows hold the sums of the takings that were read, and the next can be added.
use Rattle.std.proofs.Common.{◌≡◌, ℕ, pos, ◌+◌, ◌-◌, ◌*◌, ◌^◌, ◌<◌, ◌≤◌, ◌+ℤ◌, unsigned_abs, Bool, true, false, ◌&&◌, ◌||◌, cond, List, [], ◌∷◌, ◌++◌, filter, replicate, Option, Some, None, IfSome, unwrap_or, inl, inr, refl, sym, ap, subst, ◌∙◌, arith}
use Rattle.std.specs.Ordering.{is_eq, eq_by_cmp}
use Rattle.std.specs.List.{list_any}
use Rattle.std.specs.Str.{bytes_eq}
use Rattle.std.specs.FinMap.Entries.{find, find-put, is_sorted-put}
use Rattle.std.proofs.lemmas.Bool.{false≢true, or_parts}
use Rattle.std.proofs.lemmas.Cmp.{tied_itself}
use Rattle.std.proofs.Math.IntN.{+ℤ_idr}
use Rattle.book.specs.Accounts.{account_cmp}
use Rattle.book.proofs.Accounts.{account_total, account_ties}
use Rattle.book.proofs.Order.{is_equal}
use Rattle.report_cells.specs.Taken.{Taken, sum_in, share_in}
use Rattle.report_cells.specs.Bounds.{turnover_in, places_at, places_in, TurnoverFits}
use Rattle.report_cells.specs.Kept.{Cell, KeptRows, AreOrdered, HasFewPlaces, PlacedFits, with_placed, row_at, row_with}
use Rattle.report_cells.proofs.Choosing.{chosen, chosen-push, chosen-le, turnover-append, places-append}
use Rattle.report_cells.proofs.Holding.{alike, bytes_eq-itself}
use Rattle.report_cells.proofs.Standing.{is_at, HoldsRow, row_none, row_told, row_more, placed_fits}

-- accounts tie where their bytes are equal
pub tie-account : (q k : List ℕ) → eq_by_cmp account_cmp q k ≡ bytes_eq k q
tie-account q k = by (eq_by_cmp account_cmp q k) refl
  where
    by : (b : Bool) → eq_by_cmp account_cmp q k ≡ b → b ≡ bytes_eq k q
    by true e = sym (subst (λ (x : List ℕ). bytes_eq x q ≡ true) (account_ties q k (is_equal _ e)) (bytes_eq-itself q))
    by false e = elim (alike k q) [
      | inl same ↦ absurd (false≢true (sym e ∙ subst (λ (x : List ℕ). eq_by_cmp account_cmp x k ≡ true) same (ap is_eq (tied_itself account_total k))))
      | inr differ ↦ sym differ
    ]

-- an account has a taking
abbrev pub has_account : List ℕ → List Taken → Bool
has_account q ts = list_any (λ t. bytes_eq t.account q) ts

has-push : (q : List ℕ) (ts : List Taken) (t : Taken) → has_account q (ts ++ t ∷ []) ≡ (has_account q ts || bytes_eq t.account q)
has-push q [] t = elim (bytes_eq t.account q) as (λ b. (b || false) ≡ b) [ true ↦ refl | false ↦ refl ]
has-push q (x ∷ ts) t = elim (bytes_eq x.account q) as (λ b. (b || has_account q (ts ++ t ∷ [])) ≡ ((b || has_account q ts) || bytes_eq t.account q)) [ true ↦ refl | false ↦ has-push q ts t ]

or_true : (a b : Bool) → b ≡ true → (a || b) ≡ true
or_true true b e = refl
or_true false b e = e

or_false : (a b : Bool) → b ≡ false → (a || b) ≡ a
or_false true b e = refl
or_false false b e = e

module _ (place : Taken → Option ℕ) where
  -- a taking of an account goes to a column
  abbrev pub in_cell : List ℕ → ℕ → Taken → Bool
  in_cell account k t = bytes_eq t.account account && is_at k (place t)

  none_chosen : (account : List ℕ) (k : ℕ) (q : List ℕ) (ts : List Taken) → has_account account ts ≡ false → chosen (in_cell account k) q ts ≡ pos 0
  none_chosen account k q [] h = refl
  none_chosen account k q (x ∷ ts) h =
      let parts = or_parts (bytes_eq x.account account) (has_account account ts) h in
      ap (λ (b : Bool). sum_in q (cond (b && is_at k (place x)) (x ∷ filter (in_cell account k) ts) (filter (in_cell account k) ts))) parts.0 ∙ none_chosen account k q ts parts.1

  module _ (width : ℕ) (most : List ℕ → ℕ) where
    -- the row of an account holds its sums, and there is none where it has no takings
    abbrev pub HoldsFound : Option (List Cell) → List ℕ → List Taken → Type 0
    HoldsFound None account ts = has_account account ts ≡ false
    HoldsFound (Some row) account ts = HoldsRow row width (λ k q. chosen (in_cell account k) q ts) most × (has_account account ts ≡ true)

    pub record IsGathered (rows : KeptRows) (done : List Taken) : Type 0 where
      pub ordered : AreOrdered rows
      pub each : (account : List ℕ) → HoldsFound (find account_cmp account rows) account done

    pub gathered_none : IsGathered [] []
    gathered_none = record { ordered = tt; each = λ account. refl }

    found_holds : (o : Option (List Cell)) (account : List ℕ) (ts : List Taken) → HoldsFound o account ts → HoldsRow (unwrap_or o (replicate width [])) width (λ k q. chosen (in_cell account k) q ts) most
    found_holds None account ts h = row_told (replicate width []) width (λ k q. pos 0) (λ k q. chosen (in_cell account k) q ts) most (row_none width most) (λ k lt q. none_chosen account k q ts h)
    found_holds (Some row) account ts h = h.0

    module _ (rows : KeptRows) (done : List Taken) (t : Taken) (h : IsGathered rows done) where
      here : HoldsRow (row_at width t.account rows) width (λ k q. chosen (in_cell t.account k) q done) most
      here = found_holds (find account_cmp t.account rows) t.account done (h.each t.account)

      row_found : (account : List ℕ) (b : Bool) → bytes_eq t.account account ≡ b → find account_cmp account (row_with width (place t) t rows) ≡ cond b (Some (with_placed (place t) t.amount (row_at width t.account rows))) (find account_cmp account rows)
      row_found account b e =
          find-put account_cmp account_total account t.account (with_placed (place t) t.amount (row_at width t.account rows)) rows
          ∙ ap (λ (b : Bool). cond b (Some (with_placed (place t) t.amount (row_at width t.account rows))) (find account_cmp account rows)) (tie-account account t.account ∙ e)

      pushed : (account : List ℕ) (b : Bool) → bytes_eq t.account account ≡ b → (k : ℕ) (q : List ℕ) → chosen (in_cell account k) q (done ++ t ∷ []) ≡ chosen (in_cell account k) q done +ℤ cond (b && is_at k (place t)) (share_in q t.amount) (pos 0)
      pushed account b e k q = chosen-push q (in_cell account k) done t ∙ ap (λ (b : Bool). chosen (in_cell account k) q done +ℤ cond (b && is_at k (place t)) (share_in q t.amount) (pos 0)) e

      stays : (o : Option (List Cell)) (account : List ℕ) → bytes_eq t.account account ≡ false → HoldsFound o account done → HoldsFound o account (done ++ t ∷ [])
      stays None account differ found = has-push account done t ∙ or_false (has_account account done) _ differ ∙ found
      stays (Some row) account differ found = (
        row_told row width (λ k q. chosen (in_cell account k) q done) (λ k q. chosen (in_cell account k) q (done ++ t ∷ [])) most found.0 (λ k lt q. pushed account false differ k q ∙ +ℤ_idr (chosen (in_cell account k) q done)),
        has-push account done t ∙ or_false (has_account account done) _ differ ∙ found.1,
      )

      module _ (few : HasFewPlaces t.amount) (within : (q : List ℕ) → places_at q t.amount ≤ most q) where
        grown : HoldsFound (find account_cmp t.account (row_with width (place t) t rows)) t.account (done ++ t ∷ [])
        grown =
            let itself = bytes_eq-itself t.account in
            let row = with_placed (place t) t.amount (row_at width t.account rows) in
            let more = row_more (row_at width t.account rows) width (λ k q. chosen (in_cell t.account k) q done) most here t.amount few within (place t) in
            let holds = row_told row width (λ k q. chosen (in_cell t.account k) q done +ℤ cond (is_at k (place t)) (share_in q t.amount) (pos 0)) (λ k q. chosen (in_cell t.account k) q (done ++ t ∷ [])) most more (λ k lt q. pushed t.account true itself k q) in
            subst (λ (o : Option (List Cell)). HoldsFound o t.account (done ++ t ∷ [])) (sym (row_found t.account true itself))
            (holds, has-push t.account done t ∙ or_true (has_account t.account done) _ itself)

        each_more : (account : List ℕ) → HoldsFound (find account_cmp account (row_with width (place t) t rows)) account (done ++ t ∷ [])
        each_more account = elim (alike t.account account) [
          | inl same ↦ subst (λ (x : List ℕ). HoldsFound (find account_cmp x (row_with width (place t) t rows)) x (done ++ t ∷ [])) same grown
          | inr differ ↦ subst (λ (o : Option (List Cell)). HoldsFound o account (done ++ t ∷ [])) (sym (row_found account false differ)) (stays (find account_cmp account rows) account differ (h.each account))
        ]

        -- one more taking
        pub gathered_more : IsGathered (row_with width (place t) t rows) (done ++ t ∷ [])
        gathered_more = record {
          ordered = is_sorted-put account_cmp account_total t.account (with_placed (place t) t.amount (row_at width t.account rows)) rows h.ordered;
          each = each_more;
        }

        -- the taking at hand can be added to its row
        module _ (in_row : IfSome (place t) (λ j. j < width)) (small : (q : List ℕ) → turnover_in q done + unsigned_abs (share_in q t.amount) < 2 ^ 127 * 10 ^ (36 - most q)) where
          pub row_fits : PlacedFits (place t) t.amount (row_at width t.account rows)
          row_fits = placed_fits (row_at width t.account rows) width (λ k q. chosen (in_cell t.account k) q done) most here t.amount few within (place t) in_row
              (λ k q. omega (arith, small q, chosen-le q (in_cell t.account k) done))

-- what is left of all takings stays below the bound
pub next_small : (done rest : List Taken) (t : Taken) → TurnoverFits (done ++ t ∷ rest) → (q : List ℕ) → turnover_in q done + unsigned_abs (share_in q t.amount) < 2 ^ 127 * 10 ^ (36 - places_in q (done ++ t ∷ rest))
next_small done rest t fits q = omega (arith, fits q, turnover-append q done (t ∷ rest))

pub next_within : (done rest : List Taken) (t : Taken) (q : List ℕ) → places_at q t.amount ≤ places_in q (done ++ t ∷ rest)
next_within done rest t q = omega (arith, places-append q done (t ∷ rest))
