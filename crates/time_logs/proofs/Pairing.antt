-- The pairs of clock-ins and clock-outs, from line to line.
use Rattle.std.proofs.Common.{◌≡◌, ℕ, ◌+◌, Bool, true, false, cond, ltb, List, [], ◌∷◌, ◌++◌, Option, Some, None, Result, Ok, Err, refl, sym, ap, ◌∙◌}
use Rattle.std.proofs.lemmas.List.{append-nil, append_assoc}
use Rattle.time_logs.specs.ClockSteps.{Progress, said_or_bad, after_line, after_content, none_yet, finished}
use Rattle.time_logs.specs.Faults.{◌>>=◌}
use Rattle.time_logs.specs.Sessions.{Stroke, starts, stops, bad, line_says, strokes_on, strokes_from, ended, pairs, sessions_in}
use Rattle.time_logs.specs.Walks.{walk}
use Rattle.time_logs.specs.declared.clock_line.ClockLine.{ClockLine}
use Rattle.time_logs.specs.declared.clock_line.ClockLine.TheVariants as lines
use Rattle.time_logs.specs.declared.faults.LogFault.{LogFault}
use Rattle.time_logs.specs.declared.faults.LogFault.TheVariants as faults
use Rattle.time_logs.specs.declared.sessions.Begun.{Begun}
use Rattle.time_logs.specs.declared.sessions.Session.{Session}

-- the clock-in that is open stands before what is left
abbrev opened : Option Begun → List Stroke → List Stroke
opened None strokes = strokes
opened (Some begun) strokes = starts begun ∷ strokes

-- some sessions before others
abbrev behind : List Session → Result (List Session) LogFault → Result (List Session) LogFault
behind done rest = rest >>= λ found. Ok (done ++ found)

abbrev known : List Session → Option Begun → Progress
known done open_one = record { done = done; open_one = open_one }

-- what the lines from one on answer behind what is known
abbrev Answers : List (List ℕ) → List Session → Option Begun → ℕ → Type 0
Answers ls done open_one line = (walk after_content (known done open_one) line ls >>= finished) ≡ behind done (pairs (opened open_one (strokes_from line ls)))

behind_more : (done : List Session) (s : Session) (rest : Result (List Session) LogFault) → behind (done ++ s ∷ []) rest ≡ behind done (rest >>= λ found. Ok (s ∷ found))
behind_more done s (Ok found) = ap (λ (ss : List Session). Ok ss) (append_assoc done (s ∷ []) found)
behind_more done s (Err fault) = refl

ends : (t : Bool) (ls : List (List ℕ)) (done : List Session) (begun : Begun) (line moment : ℕ) → Answers ls (done ++ ended begun moment ∷ []) None (line + 1)
    → ((cond t (Err (faults.Backwards line)) (Ok (known (done ++ ended begun moment ∷ []) None)) >>= λ next. walk after_content next (line + 1) ls) >>= finished)
    ≡ behind done (cond t (Err (faults.Backwards line)) (pairs (strokes_from (line + 1) ls) >>= λ found. Ok (ended begun moment ∷ found)))
ends true ls done begun line moment further = refl
ends false ls done begun line moment further = further ∙ behind_more done (ended begun moment) (pairs (strokes_from (line + 1) ls))

one_line : (says : Option ClockLine) (ls : List (List ℕ)) (done : List Session) (open_one : Option Begun) (line : ℕ)
    → ((done : List Session) (open_one : Option Begun) → Answers ls done open_one (line + 1))
    → (((said_or_bad line says >>= λ said. after_line (known done open_one) line said) >>= λ next. walk after_content next (line + 1) ls) >>= finished)
    ≡ behind done (pairs (opened open_one (strokes_on line says ++ strokes_from (line + 1) ls)))
one_line None ls done None line further = refl
one_line None ls done (Some begun) line further = refl
one_line (Some lines.Gap) ls done None line further = further done None
one_line (Some lines.Gap) ls done (Some begun) line further = further done (Some begun)
one_line (Some (lines.In moment account description)) ls done None line further =
    further done (Some (record { line = line; from = moment; account = account; description = description }))
one_line (Some (lines.In moment account description)) ls done (Some begun) line further = refl
one_line (Some (lines.Out moment)) ls done None line further = refl
one_line (Some (lines.Out moment)) ls done (Some begun) line further =
    ends (ltb moment begun.from) ls done begun line moment (further (done ++ ended begun moment ∷ []) None)

answers : (ls : List (List ℕ)) (done : List Session) (open_one : Option Begun) (line : ℕ) → Answers ls done open_one line
answers [] done None line = ap (λ (ss : List Session). Ok ss) (sym (append-nil done))
answers [] done (Some begun) line = refl
answers (l ∷ ls) done open_one line = one_line (line_says l) ls done open_one line (λ done. λ open_one. answers ls done open_one (line + 1))

behind_none : (rest : Result (List Session) LogFault) → behind [] rest ≡ rest
behind_none (Ok found) = refl
behind_none (Err fault) = refl

-- line by line it is the definition
pub sessions_are : (ls : List (List ℕ)) → (walk after_content none_yet 1 ls >>= finished) ≡ sessions_in ls
sessions_are ls = answers ls [] None 1 ∙ behind_none (sessions_in ls)
