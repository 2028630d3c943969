-- Totals, as one thread gets them.
use Rattle.std.specs.Prelude.{◌≡◌, ◌+◌, ◌%◌, ◌^◌, ℕ, List, [], ◌∷◌, map}
use Rattle.turn_lock.specs.History.{made_by}
use Rattle.turn_lock.specs.declared.known.Entered.{Entered}
use Rattle.turn_client.specs.declared.count.Added.{Added}

-- the entry's amount leads from one total to the next, which it names
abbrev pub AddsUp : ℕ → Added → ℕ → Type 0
AddsUp before e after = (after ≡ (before + e.amount.value) % 2 ^ 64) × (e.total.value ≡ after)

abbrev pub amount_of : Added → ℕ
amount_of e = e.amount.value

-- the amounts under one number, in their order
abbrev pub by : ℕ → List (Entered Added) → List ℕ
by n history = map amount_of (made_by n history)

-- the totals of one thread that adds these amounts
abbrev pub running : ℕ → List ℕ → List ℕ
running s [] = []
running s (x ∷ xs) = (s + x) % 2 ^ 64 ∷ running ((s + x) % 2 ^ 64) xs

-- and the one that it ends with
abbrev pub total_after : ℕ → List ℕ → ℕ
total_after s [] = s
total_after s (x ∷ xs) = total_after ((s + x) % 2 ^ 64) xs

abbrev pub amounts : List (Entered Added) → List ℕ
amounts history = map (λ x. x.entry.amount.value) history

abbrev pub totals : List (Entered Added) → List ℕ
totals history = map (λ x. x.entry.total.value) history

-- the totals of the history are those of one thread that adds its amounts in its order
abbrev pub IsOneThread : ℕ → List (Entered Added) → ℕ → Type 0
IsOneThread s history t = (totals history ≡ running s (amounts history)) × (t ≡ total_after s (amounts history))
