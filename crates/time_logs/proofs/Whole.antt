-- The seconds of a session's days sum to its whole.
use Rattle.std.proofs.Common.{◌≡◌, ℕ, zero, suc, ◌+◌, ◌-◌, ◌*◌, ◌/◌, ◌≤◌, ◌<◌, Bool, true, false, cond, ltb, min, max, List, [], ◌∷◌, Result, Ok, Err, refl, sym, ap, subst, ◌∙◌, arith}
use Rattle.std.specs.List.{sum_by, range_with_len, AllByRecursion}
use Rattle.std.proofs.lemmas.List.Sums.{sum_by-cons}
use Rattle.std.proofs.lemmas.Bool.Decides.{nat_tests}
use Rattle.time_logs.specs.Days.{seconds_on, last_day_of, day_count, days_of, IsWhole}
use Rattle.time_logs.specs.Faults.{◌>>=◌}
use Rattle.time_logs.specs.Sessions.{Stroke, starts, stops, bad, ended, pairs, sessions_in, strokes_from}
use Rattle.time_logs.specs.declared.faults.LogFault.{LogFault}
use Rattle.time_logs.specs.declared.faults.LogFault.TheVariants as faults
use Rattle.time_logs.specs.declared.sessions.Begun.{Begun}
use Rattle.time_logs.specs.declared.sessions.Session.{Session}

-- how far a session has come at the end of a day
abbrev reached : Session → ℕ → ℕ
reached s day = max s.from (min s.until (day * 86400))

within_day : (from until start again end : ℕ) → from ≤ until → again ≡ start → start ≤ end → (min until end - max from again) + max from (min until start) ≡ max from (min until end)
within_day from until start again end forward is rises = omega arith

step : (s : Session) (day : ℕ) → s.from ≤ s.until → seconds_on s (day + 1) + reached s day ≡ reached s (day + 1)
step s day forward = within_day s.from s.until (day * 86400) ((day + 1 - 1) * 86400) ((day + 1) * 86400) forward (omega arith) (omega arith)

chain : (sum here rest r0 r1 r2 : ℕ) → sum ≡ here + rest → here + r0 ≡ r1 → rest + r1 ≡ r2 → sum + r0 ≡ r2
chain sum here rest r0 r1 r2 a b c = omega arith

none : (r0 r1 : ℕ) → r0 ≡ r1 → 0 + r0 ≡ r1
none r0 r1 e = omega arith

sums : (s : Session) (day count : ℕ) → s.from ≤ s.until → sum_by (seconds_on s) (range_with_len (day + 1) count) + reached s day ≡ reached s (day + count)
sums s day zero forward =
    let same : day ≡ day + zero = omega arith in
    none (reached s day) (reached s (day + zero)) (ap (reached s) same)
sums s day (suc count) forward =
    let rest = range_with_len (day + 1 + 1) count in
    let same : day + 1 + count ≡ day + suc count = omega arith in
    chain (sum_by (seconds_on s) (range_with_len (day + 1) (suc count))) (seconds_on s (day + 1)) (sum_by (seconds_on s) rest)
    (reached s day) (reached s (day + 1)) (reached s (day + suc count))
    (sum_by-cons (seconds_on s) (day + 1) rest)
    (step s day forward)
    (sums s (day + 1) count forward ∙ ap (reached s) same)

begins : (from until : ℕ) → from ≤ until → max from (min until (from / 86400 * 86400)) ≡ from
begins from until forward = omega arith

last_after : (from until last : ℕ) → last ≡ max from (until - 1) → (from ≤ last) × (until ≤ last + 1)
last_after from until last is = (omega arith, omega arith)

days_end : (from last : ℕ) → from ≤ last → from / 86400 + ((last / 86400 + 1) - (from / 86400 + 1) + 1) ≡ last / 86400 + 1
days_end from last le = omega arith

at_end : (from until end : ℕ) → from ≤ until → until ≤ end → max from (min until end) ≡ until
at_end from until end forward le = omega arith

past : (last : ℕ) → last + 1 ≤ (last / 86400 + 1) * 86400
past last = omega arith

le_trans_by : (a b c : ℕ) → a ≤ b → b ≤ c → a ≤ c
le_trans_by a b c ab bc = omega arith

closes : (sum r0 r1 from until : ℕ) → sum + r0 ≡ r1 → r0 ≡ from → r1 ≡ until → sum ≡ until - from
closes sum r0 r1 from until a b c = omega arith

pub seconds_whole : (s : Session) → s.from ≤ s.until → sum_by (seconds_on s) (days_of s) ≡ s.until - s.from
seconds_whole s forward =
    let last : ℕ = max s.from (s.until - 1) in
    let first : ℕ = s.from / 86400 in
    let after = last_after s.from s.until last refl in
    let stop : s.until ≤ (last / 86400 + 1) * 86400 = le_trans_by s.until (last + 1) ((last / 86400 + 1) * 86400) after.1 (past last) in
    let ends : reached s (first + day_count s) ≡ s.until =
    ap (reached s) (days_end s.from last after.0) ∙ at_end s.from s.until ((last / 86400 + 1) * 86400) forward stop in
    closes (sum_by (seconds_on s) (days_of s)) (reached s first) (reached s (first + day_count s)) s.from s.until
    (sums s first (day_count s) forward) (begins s.from s.until forward) ends

-- the sessions that are in an answer
abbrev sessions_or_none : Result (List Session) LogFault → List Session
sessions_or_none (Ok ss) = ss
sessions_or_none (Err fault) = []

abbrev AreWhole : List Session → Type 0
AreWhole ss = AllByRecursion IsWhole ss

-- one more session before those that are whole
one_more : (t : Bool) (begun : Begun) (line moment : ℕ) (rest : Result (List Session) LogFault) (ss : List Session) → ltb moment begun.from ≡ t
    → ((found : List Session) → rest ≡ Ok found → AreWhole found)
    → cond t (Err (faults.Backwards line)) (rest >>= λ found. Ok (ended begun moment ∷ found)) ≡ Ok ss → AreWhole ss
one_more true begun line moment rest ss back whole e = absurd cc
one_more false begun line moment (Err fault) ss back whole e = absurd cc
one_more false begun line moment (Ok found) ss back whole e =
    let forward : begun.from ≤ moment = grind (arith, nat_tests) in
    let one : IsWhole (ended begun moment) = record { forward = forward; seconds = seconds_whole (ended begun moment) forward } in
    subst AreWhole (ap sessions_or_none e) (one, whole found refl)

pairs_whole : (strokes : List Stroke) (ss : List Session) → pairs strokes ≡ Ok ss → AreWhole ss
pairs_whole [] ss e = subst AreWhole (ap sessions_or_none e) tt
pairs_whole (bad line ∷ rest) ss e = absurd cc
pairs_whole (stops line moment ∷ rest) ss e = absurd cc
pairs_whole (starts begun ∷ []) ss e = absurd cc
pairs_whole (starts begun ∷ bad line ∷ rest) ss e = absurd cc
pairs_whole (starts begun ∷ starts other ∷ rest) ss e = absurd cc
pairs_whole (starts begun ∷ stops line moment ∷ rest) ss e =
    one_more (ltb moment begun.from) begun line moment (pairs rest) ss refl (pairs_whole rest) e

-- The seconds of each session's days sum to its whole.
pub sessions_whole : (lines : List (List ℕ)) (ss : List Session) → sessions_in lines ≡ Ok ss → AllByRecursion IsWhole ss
sessions_whole lines ss e = pairs_whole (strokes_from 1 lines) ss e
