-- Each record of a text takes some of it.
use Rattle.std.proofs.Common.{◌≡◌, ℕ, zero, suc, ◌+◌, ◌==◌, ◌<◌, ◌≤◌, Bool, true, false, ◌&&◌, cond, List, [], ◌∷◌, ◌++◌, length, Option, Some, None, refl, sym, ap, ◌∙◌, arith}
use Rattle.std.proofs.lemmas.Bool.{false≢true}
use Rattle.csv.specs.Machine.{Read, step, in_field, start_field, start_record, after_end, ends_with, ends_at_end, is_end, is_byte, fields_after, field_after, next_record}
use Rattle.csv.specs.Reading.{Reached, records, records_from, records_next}
use Rattle.csv.specs.declared.parser.Action.{Action}
use Rattle.csv.specs.declared.parser.Action.TheVariants as act
use Rattle.csv.specs.declared.parser.Config.{Config}
use Rattle.csv.specs.declared.parser.State.{State}
use Rattle.csv.specs.declared.parser.State.TheVariants as st
use Rattle.csv.specs.declared.parser.Terminator.{Terminator}
use Rattle.csv.specs.declared.parser.Terminator.TheVariants as term

-- where it ends a record, the next one begins
abbrev Ended : State × Action → Type 0
Ended r = is_end r.1 ≡ true → ends_at_end r.0 ≡ false

either : (t : Bool) (a b : State × Action) → Ended a → Ended b → Ended (cond t a b)
either true a b p q = p
either false a b p q = q

end_cases : (t : Bool) → ends_at_end (cond t st.AfterCr st.StartRecord) ≡ false
end_cases true = refl
end_cases false = refl

after : (t : Terminator) (c : ℕ) → ends_at_end (after_end t c) ≡ false
after term.CRLF c = end_cases (c == 13)
after (term.Any b) c = refl

in_field_ended : (cfg : Config) (c : ℕ) → Ended (in_field cfg c)
in_field_ended cfg c =
    either (c == cfg.delimiter) (st.StartField, act.EndField) (cond (ends_with cfg.terminator c) (after_end cfg.terminator c, act.EndRecord) (st.InField, act.Copy))
    (λ h. absurd (false≢true h))
    (either (ends_with cfg.terminator c) (after_end cfg.terminator c, act.EndRecord) (st.InField, act.Copy) (λ _. after cfg.terminator c) (λ h. absurd (false≢true h)))

start_field_ended : (cfg : Config) (c : ℕ) → Ended (start_field cfg c)
start_field_ended cfg c =
    either (cfg.quoting && (c == cfg.quote)) (st.InQuoted, act.Skip) (in_field cfg c) (λ h. absurd (false≢true h)) (in_field_ended cfg c)

start_record_ended : (cfg : Config) (c : ℕ) → Ended (start_record cfg c)
start_record_ended cfg c =
    either (ends_with cfg.terminator c) (st.StartRecord, act.Skip) (cond (is_byte cfg.comment c) (st.InComment, act.Skip) (start_field cfg c))
    (λ h. absurd (false≢true h))
    (either (is_byte cfg.comment c) (st.InComment, act.Skip) (start_field cfg c) (λ h. absurd (false≢true h)) (start_field_ended cfg c))

step_ended : (cfg : Config) (s : State) (c : ℕ) → Ended (step cfg s c)
step_ended cfg st.StartRecord c = start_record_ended cfg c
step_ended cfg st.StartField c = start_field_ended cfg c
step_ended cfg st.InField c = in_field_ended cfg c
step_ended cfg st.InQuoted c =
    either (cfg.quoting && (c == cfg.quote)) (st.AfterQuote, act.Skip) (cond (cfg.quoting && is_byte cfg.escape c) (st.InEscape, act.Skip) (st.InQuoted, act.Copy))
    (λ h. absurd (false≢true h))
    (either (cfg.quoting && is_byte cfg.escape c) (st.InEscape, act.Skip) (st.InQuoted, act.Copy) (λ h. absurd (false≢true h)) (λ h. absurd (false≢true h)))
step_ended cfg st.InEscape c = λ h. absurd (false≢true h)
step_ended cfg st.AfterQuote c =
    either (cfg.quoting && cfg.double_quote && (c == cfg.quote)) (st.InQuoted, act.Copy) (in_field cfg c) (λ h. absurd (false≢true h)) (in_field_ended cfg c)
step_ended cfg st.InComment c =
    either (c == 10) (st.StartRecord, act.Skip) (st.InComment, act.Skip) (λ h. absurd (false≢true h)) (λ h. absurd (false≢true h))
step_ended cfg st.AfterCr c =
    either (c == 10) (st.StartRecord, act.Skip) (start_record cfg c) (λ h. absurd (false≢true h)) (start_record_ended cfg c)

-- a record took some of a text, and the next one begins behind it
pub record Takes (s : State) (xs : List ℕ) (p : Read) : Type 0 where
  pub within : length p.2 ≤ length xs
  pub less : ends_at_end s ≡ false → length p.2 < length xs
  pub begins : ends_at_end p.1 ≡ false

at_end : (s : State) (now p : Read) (t : Bool) → ends_at_end s ≡ t → now.1 ≡ st.StartRecord → now.2 ≡ [] → cond t (Some now) None ≡ Some p → Takes s [] p
at_end s now p true e state none h =
    let q : now ≡ p = cc h in
    record {
      within = rw (sym q, none) (omega arith);
      less = λ k. absurd (false≢true (sym k ∙ e));
      begins = rw (sym q, state) refl;
    }
at_end s now p false e state none h = absurd (cc h)

at_byte : (cfg : Config) (s : State) (c : ℕ) (rest : List ℕ) (now : Read) (other : Option Read) (p : Read) (t : Bool) → is_end (step cfg s c).1 ≡ t
    → now.1 ≡ (step cfg s c).0 → now.2 ≡ rest → cond t (Some now) other ≡ Some p
    → (other ≡ Some p → (length p.2 ≤ length rest) × (ends_at_end p.1 ≡ false)) → Takes s (c ∷ rest) p
at_byte cfg s c rest now other p true e state left h more =
    let q : now ≡ p = cc h in
    record {
      within = rw (sym q, left) (omega arith);
      less = λ _. rw (sym q, left) (omega arith);
      begins = rw (sym q, state) (step_ended cfg s c e);
    }
at_byte cfg s c rest now other p false e state left h more =
    let k = more h in
    record { within = omega (arith, k.0); less = λ _. omega (arith, k.0); begins = k.1 }

pub takes : (cfg : Config) (s : State) (fields : List (List ℕ)) (field xs : List ℕ) (p : Read) → next_record cfg s fields field xs ≡ Some p → Takes s xs p
unfolding next_record
takes cfg s fields field [] p h = at_end s (fields ++ (field ∷ []), st.StartRecord, []) p (ends_at_end s) refl refl refl h
takes cfg s fields field (c ∷ rest) p h =
    at_byte cfg s c rest (fields_after (step cfg s c).1 fields field, (step cfg s c).0, rest)
    (next_record cfg (step cfg s c).0 (fields_after (step cfg s c).1 fields field) (field_after (step cfg s c).1 c field) rest) p (is_end (step cfg s c).1) refl refl refl h
    (λ k. let t = takes cfg (step cfg s c).0 (fields_after (step cfg s c).1 fields field) (field_after (step cfg s c).1 c field) rest p k in (t.within, t.begins))

-- the records that were reached, where no more follow, are all that the definition gives
reached_all : (cfg : Config) (n : ℕ) (s s2 : State) (xs ys : List ℕ) (rows : List (List (List ℕ))) → ends_at_end s ≡ false → length xs < n
    → Reached cfg s xs rows s2 ys → next_record cfg s2 [] [] ys ≡ None → rows ≡ records_from cfg n s xs
unfolding Reached records_from
reached_all cfg zero s s2 xs ys rows begins room h none = absurd (omega arith)
reached_all cfg (suc n) s s2 xs ys [] begins room h none =
    let (states, texts) = h in
    rw (states, texts, none) refl
reached_all cfg (suc n) s s2 xs ys (r ∷ rows) begins room h none =
    let (p, found, is, rest) = h in
    let t = takes cfg s [] [] xs p found in
    let left : length p.2 < n = omega (arith, t.less begins, room) in
    rw found (ap (λ x. x ∷ rows) is ∙ ap (λ x. p.0 ∷ x) (reached_all cfg n p.1 s2 p.2 ys rows t.begins left rest none))

pub all_records : (cfg : Config) (s2 : State) (xs ys : List ℕ) (rows : List (List (List ℕ))) → Reached cfg st.StartRecord xs rows s2 ys
    → next_record cfg s2 [] [] ys ≡ None → rows ≡ records cfg xs
all_records cfg s2 xs ys rows h none = reached_all cfg (length xs + 1) st.StartRecord s2 xs ys rows refl (omega arith) h none

few_by : (cfg : Config) (n : ℕ) (s : State) (xs : List ℕ) (o : Option Read) → next_record cfg s [] [] xs ≡ o → ends_at_end s ≡ false
    → ((p : Read) → ends_at_end p.1 ≡ false → length (records_from cfg n p.1 p.2) ≤ length p.2) → length (records_next (records_from cfg n) o) ≤ length xs
few_by cfg n s xs None e begins more = omega arith
few_by cfg n s xs (Some p) e begins more =
    let t = takes cfg s [] [] xs p e in
    omega (arith, more p t.begins, t.less begins)

few_from : (cfg : Config) (n : ℕ) (s : State) (xs : List ℕ) → ends_at_end s ≡ false → length (records_from cfg n s xs) ≤ length xs
unfolding records_from
few_from cfg zero s xs begins = omega arith
few_from cfg (suc n) s xs begins = few_by cfg n s xs (next_record cfg s [] [] xs) refl begins (λ p h. few_from cfg n p.1 p.2 h)

-- no more records than bytes
pub few_records : (cfg : Config) (xs : List ℕ) → length (records cfg xs) ≤ length xs
few_records cfg xs = few_from cfg (length xs + 1) st.StartRecord xs refl
