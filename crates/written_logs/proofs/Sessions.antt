-- The transactions of a timeclock text are plain.
use Rattle.std.proofs.Common.{◌≡◌, ℕ, ◌-◌, ◌^◌, ◌≤◌, min, false, List, [], ◌∷◌, length, Result, Ok, Err, refl, arith}
use Rattle.std.specs.Prelude.{nat_lt}
use Rattle.std.specs.List.{flat_map, sum_by, AllByRecursion}
use Rattle.std.proofs.lemmas.Bool.Decides.{nat_tests}
use Rattle.entry_reader.specs.Lines.{contents_of}
use Rattle.time_logs.specs.Days.{day_count, entries_of, days_in}
use Rattle.time_logs.specs.Faults.{◌>>=◌}
use Rattle.time_logs.specs.Sessions.{Stroke, starts, stops, bad, strokes_from, ended, pairs, sessions_in}
use Rattle.time_logs.specs.Timeclock.{sessions_entries, timeclock}
use Rattle.time_logs.specs.declared.faults.LogFault.{LogFault}
use Rattle.time_logs.specs.declared.faults.LogFault.TheVariants as faults
use Rattle.time_logs.specs.declared.sessions.Session.{Session}
use Rattle.written_logs.specs.Plain.{ArePlain}
use Rattle.written_logs.proofs.Clock.{IsStroke, strokes_good, IsSession, session_entries, all_entries, sessions_good, spent_of, sessions_spent}
use Rattle.written_logs.proofs.Contents.{contents_good}
use Rattle.written_logs.proofs.Parts.{Gives, ok_gives, err_gives, choice_gives, unless_gives, most_bytes}

bind_gives : {A B : Type 0} (Q : A → Type 0) (P : B → Type 0) (r : Result A LogFault) (f : A → Result B LogFault) → Gives Q r → ((a : A) → Q a → Gives P (f a)) → Gives P (r >>= f)
bind_gives Q P (Ok a) f h k = k a (h a refl)
bind_gives Q P (Err fault) f h k = err_gives P fault

abbrev AreSessions : List Session → Type 0
AreSessions ss = AllByRecursion IsSession ss

pairs_good : (strokes : List Stroke) → AllByRecursion IsStroke strokes → Gives AreSessions (pairs strokes)
pairs_good [] are = ok_gives AreSessions [] tt
pairs_good (bad line ∷ rest) are = err_gives AreSessions (faults.BadLine line)
pairs_good (stops line moment ∷ rest) are = err_gives AreSessions (faults.Order line)
pairs_good (starts begun ∷ []) are = err_gives AreSessions (faults.Open begun.line)
pairs_good (starts begun ∷ bad line ∷ rest) are = err_gives AreSessions (faults.BadLine line)
pairs_good (starts begun ∷ starts other ∷ rest) are = err_gives AreSessions (faults.Order other.line)
pairs_good (starts begun ∷ stops line moment ∷ rest) are =
    unless_gives AreSessions (nat_lt moment begun.from) (faults.Backwards line) (pairs rest >>= λ sessions. Ok (ended begun moment ∷ sessions))
    (bind_gives AreSessions AreSessions (pairs rest) (λ sessions. Ok (ended begun moment ∷ sessions)) (pairs_good rest (are.1).1)
    (λ (found : List Session). λ (good : AreSessions found). ok_gives AreSessions (ended begun moment ∷ found) (record { start = are.0; until = (are.1).0 }, good)))

within_limit : (sum n spent : ℕ) → nat_lt 100000 n ≡ false → n ≡ min sum (2 ^ 64 - 1) → spent ≡ sum → spent ≤ 2 ^ 24
within_limit sum n spent t e f =
    let few : n ≤ 100000 = grind (arith, nat_tests) in
    omega arith

entries_give : (ss : List Session) → AreSessions ss → Gives ArePlain (sessions_entries ss)
entries_give ss good =
    choice_gives ArePlain (nat_lt 100000 (days_in ss)) (Err (faults.TooMany (days_in ss) 100000)) (Ok (flat_map entries_of ss))
    (λ _. err_gives ArePlain (faults.TooMany (days_in ss) 100000))
    (λ (few : nat_lt 100000 (days_in ss) ≡ false). ok_gives ArePlain (flat_map entries_of ss) (record {
      entries = flat_map session_entries ss;
      is = all_entries ss;
      plain = sessions_good ss good;
      few = within_limit (sum_by day_count ss) (days_in ss) (length (spent_of (flat_map session_entries ss))) few refl (sessions_spent ss);
    }))

-- The transactions of a timeclock text are plain.
pub timeclock_plain : (text : List ℕ) → length text ≤ most_bytes → Gives ArePlain (timeclock (contents_of text))
timeclock_plain text short =
    bind_gives AreSessions ArePlain (sessions_in (contents_of text)) sessions_entries
    (pairs_good (strokes_from 1 (contents_of text)) (strokes_good 1 (contents_of text) (contents_good text short))) entries_give
