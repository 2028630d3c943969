-- The records of a text are those that its bytes open, and the line on which one begins.
use Rattle.std.proofs.Common.{◌≡◌, ℕ, zero, suc, ◌+◌, ◌-◌, ◌==◌, ◌<◌, ◌≤◌, nat_lt, Bool, true, false, not, ◌&&◌, cond, List, [], ◌∷◌, ◌++◌, length, drop, Option, Some, None, refl, sym, ap, ◌∙◌, arith}
use Rattle.std.specs.List.{concat}
use Rattle.std.proofs.lemmas.Bool.{false≢true}
use Rattle.std.proofs.lemmas.Bool.Decides.{nat_tests}
use Rattle.std.proofs.lemmas.List.{nil_from_length}
use Rattle.csv.specs.Machine.{Read, after_end, ends_at_end, ends_with, field_after, fields_after, in_field, is_end, next_record, start_field, start_record, step}
use Rattle.csv.specs.Reading.{records_from, records_next}
use Rattle.csv.specs.declared.parser.Action.{Action}
use Rattle.csv.specs.declared.parser.Action.TheVariants as act
use Rattle.csv.specs.declared.parser.Config.{Config}
use Rattle.csv.specs.declared.parser.State.{State}
use Rattle.csv.specs.declared.parser.State.TheVariants as st
use Rattle.csv.specs.declared.parser.Terminator.TheVariants as term
use Rattle.hl_base.specs.Lines.{first_line, lines_of}
use Rattle.hl_base.proofs.LineLemmas.{lines_split}
use Rattle.csv_entries.specs.Records.{config_of}
use Rattle.csv_entries.proofs.CutOff.{lines_join}
use Rattle.bank_explanations.specs.Begun.{after, begun, is_between, one_if, opens}
use Rattle.bank_explanations.specs.Places.{count_of, lines_from}

-- ---- a step of the reader

-- no state of a comment, which no file has
abbrev is_plain : State → Bool
is_plain st.StartRecord = true
is_plain st.StartField = true
is_plain st.InField = true
is_plain st.InQuoted = true
is_plain st.AfterQuote = true
is_plain st.InEscape = true
is_plain st.InComment = false
is_plain st.AfterCr = true

-- it ends a record only inside one, and else stays inside where it is
record Fits (s : State) (r : State × Action) : Type 0 where
  inside : is_end r.1 ≡ true → ends_at_end s ≡ true
  ended : is_end r.1 ≡ true → ends_at_end r.0 ≡ false
  stays : is_end r.1 ≡ false → ends_at_end s ≡ true → ends_at_end r.0 ≡ true
  plain : is_plain r.0 ≡ true

either : (s : State) (t : Bool) (a b : State × Action) → (t ≡ true → Fits s a) → (t ≡ false → Fits s b) → Fits s (cond t a b)
either s true a b p q = p refl
either s false a b p q = q refl

-- it goes on inside a record
going : (s t : State) (a : Action) → is_end a ≡ false → ends_at_end t ≡ true → is_plain t ≡ true → Fits s (t, a)
going s t a other inner plain =
    record { inside = λ h. absurd (false≢true (sym other ∙ h)); ended = λ h. absurd (false≢true (sym other ∙ h)); stays = λ _ _. inner; plain = plain }

-- it stays between records
waiting : (s t : State) (a : Action) → is_end a ≡ false → ends_at_end s ≡ false → is_plain t ≡ true → Fits s (t, a)
waiting s t a other closed plain =
    record { inside = λ h. absurd (false≢true (sym other ∙ h)); ended = λ h. absurd (false≢true (sym other ∙ h)); stays = λ _ h. absurd (false≢true (sym closed ∙ h)); plain = plain }

after_plain : (t : Bool) → is_plain (cond t st.AfterCr st.StartRecord) ≡ true
after_plain true = refl
after_plain false = refl

after_closed : (t : Bool) → ends_at_end (cond t st.AfterCr st.StartRecord) ≡ false
after_closed true = refl
after_closed false = refl

ending : (s : State) (c : ℕ) → ends_at_end s ≡ true → Fits s (after_end term.CRLF c, act.EndRecord)
ending s c inner =
    record { inside = λ _. inner; ended = λ _. after_closed (c == 13); stays = λ h _. absurd (false≢true (sym h)); plain = after_plain (c == 13) }

in_field_fits : (s : State) (separator c : ℕ) → (ends_with term.CRLF c ≡ true → ends_at_end s ≡ true) → Fits s (in_field (config_of separator) c)
in_field_fits s separator c inner =
    either s (c == separator) (st.StartField, act.EndField) (cond (ends_with term.CRLF c) (after_end term.CRLF c, act.EndRecord) (st.InField, act.Copy))
    (λ _. going s st.StartField act.EndField refl refl refl)
    (λ _. either s (ends_with term.CRLF c) (after_end term.CRLF c, act.EndRecord) (st.InField, act.Copy) (λ e. ending s c (inner e)) (λ _. going s st.InField act.Copy refl refl refl))

start_field_fits : (s : State) (separator c : ℕ) → (ends_with term.CRLF c ≡ true → ends_at_end s ≡ true) → Fits s (start_field (config_of separator) c)
start_field_fits s separator c inner =
    either s (c == 34) (st.InQuoted, act.Skip) (in_field (config_of separator) c) (λ _. going s st.InQuoted act.Skip refl refl refl) (λ _. in_field_fits s separator c inner)

start_record_fits : (s : State) (separator c : ℕ) → ends_at_end s ≡ false → Fits s (start_record (config_of separator) c)
start_record_fits s separator c closed =
    either s (ends_with term.CRLF c) (st.StartRecord, act.Skip) (start_field (config_of separator) c)
    (λ _. waiting s st.StartRecord act.Skip refl closed refl)
    (λ e. start_field_fits s separator c (λ h. absurd (false≢true (sym e ∙ h))))

step_fits : (separator : ℕ) (s : State) (c : ℕ) → is_plain s ≡ true → Fits s (step (config_of separator) s c)
step_fits separator st.StartRecord c plain = start_record_fits st.StartRecord separator c refl
step_fits separator st.StartField c plain = start_field_fits st.StartField separator c (λ _. refl)
step_fits separator st.InField c plain = in_field_fits st.InField separator c (λ _. refl)
step_fits separator st.InQuoted c plain =
    either st.InQuoted (c == 34) (st.AfterQuote, act.Skip) (st.InQuoted, act.Copy) (λ _. going st.InQuoted st.AfterQuote act.Skip refl refl refl) (λ _. going st.InQuoted st.InQuoted act.Copy refl refl refl)
step_fits separator st.InEscape c plain = going st.InEscape st.InQuoted act.Copy refl refl refl
step_fits separator st.AfterQuote c plain =
    either st.AfterQuote (c == 34) (st.InQuoted, act.Copy) (in_field (config_of separator) c) (λ _. going st.AfterQuote st.InQuoted act.Copy refl refl refl)
    (λ _. in_field_fits st.AfterQuote separator c (λ _. refl))
step_fits separator st.InComment c plain = absurd (false≢true plain)
step_fits separator st.AfterCr c plain =
    either st.AfterCr (c == 10) (st.StartRecord, act.Skip) (start_record (config_of separator) c) (λ _. waiting st.AfterCr st.StartRecord act.Skip refl refl refl)
    (λ _. start_record_fits st.AfterCr separator c refl)

-- ---- the records of a text

-- how many records are open in a state
abbrev open_in : State → ℕ
open_in s = one_if (not (is_between s))

none_at_end : (cfg : Config) (n : ℕ) → records_from cfg n st.StartRecord [] ≡ []
unfolding records_from next_record
none_at_end cfg zero = refl
none_at_end cfg (suc n) = refl

at_end : (cfg : Config) (n : ℕ) (s : State) (fields : List (List ℕ)) (t : Bool) → ends_at_end s ≡ t
    → length (records_next (records_from cfg n) (cond t (Some (fields, st.StartRecord, [])) None)) ≡ open_in s
at_end cfg n s fields true e = rw (e, none_at_end cfg n) refl
at_end cfg n s fields false e = rw e refl

-- ending a record
end_count : (s t : State) (more : ℕ) → ends_at_end s ≡ true → ends_at_end t ≡ false → 1 + (open_in t + more) ≡ open_in s + (one_if (opens s t) + more)
end_count s t more inner closed = rw (inner, closed) (omega arith)

-- any other step
step_by : (a b : Bool) → (a ≡ true → b ≡ true) → one_if (not (not b)) ≡ one_if (not (not a)) + one_if (not a && not (not b))
step_by true true h = refl
step_by true false h = absurd (false≢true (h refl))
step_by false true h = refl
step_by false false h = refl

step_count : (s t : State) (more : ℕ) → (ends_at_end s ≡ true → ends_at_end t ≡ true) → open_in t + more ≡ open_in s + (one_if (opens s t) + more)
step_count s t more h = omega (arith, step_by (ends_at_end s) (ends_at_end t) h)

plus_one : (n : ℕ) → suc n ≡ 1 + n
plus_one n = omega arith

none_before : (n : ℕ) → 0 + n ≡ n
none_before n = omega arith

minus_none : (n : ℕ) → n - 0 ≡ n
minus_none n = omega arith

plus_none : (n : ℕ) → n ≡ n + 0
plus_none n = omega arith

abbrev Counted : ℕ → List ℕ → Type 0
Counted separator xs =
    (n : ℕ) (s : State) (fields : List (List ℕ)) (field : List ℕ) → length xs ≤ n → is_plain s ≡ true
    → length (records_next (records_from (config_of separator) n) (next_record (config_of separator) s fields field xs)) ≡ open_in s + begun (config_of separator) s xs

more_records : (separator n : ℕ) (s : State) (xs : List ℕ) → Counted separator xs → length xs + 1 ≤ n → is_plain s ≡ true
    → length (records_from (config_of separator) n s xs) ≡ open_in s + begun (config_of separator) s xs
unfolding records_from
more_records separator zero s xs all room plain = absurd (omega arith)
more_records separator (suc n) s xs all room plain = all n s [] [] (omega (arith, room)) plain

at_byte : (separator n : ℕ) (s : State) (c : ℕ) (rest : List ℕ) (fields : List (List ℕ)) (other : Option Read) (t : Bool) → Fits s (step (config_of separator) s c) → is_end (step (config_of separator) s c).1 ≡ t
    → length (c ∷ rest) ≤ n → Counted separator rest
    → length (records_next (records_from (config_of separator) n) other) ≡ open_in (step (config_of separator) s c).0 + begun (config_of separator) (step (config_of separator) s c).0 rest
    → length (records_next (records_from (config_of separator) n) (cond t (Some (fields, (step (config_of separator) s c).0, rest)) other)) ≡ open_in s + begun (config_of separator) s (c ∷ rest)
at_byte separator n s c rest fields other true fits e room all later =
    let r = step (config_of separator) s c in
    ap suc (more_records separator n r.0 rest all (omega (arith, room)) fits.plain)
    ∙ (plus_one (open_in r.0 + begun (config_of separator) r.0 rest) ∙ end_count s r.0 (begun (config_of separator) r.0 rest) (fits.inside e) (fits.ended e))
at_byte separator n s c rest fields other false fits e room all later =
    let r = step (config_of separator) s c in
    later ∙ step_count s r.0 (begun (config_of separator) r.0 rest) (fits.stays e)

counted_from : (separator : ℕ) (xs : List ℕ) → Counted separator xs
unfolding next_record
counted_from separator [] n s fields field room plain =
    at_end (config_of separator) n s (fields ++ (field ∷ [])) (ends_at_end s) refl ∙ plus_none (open_in s)
counted_from separator (c ∷ rest) n s fields field room plain =
    let r = step (config_of separator) s c in
    let fits = step_fits separator s c plain in
    at_byte separator n s c rest (fields_after r.1 fields field) (next_record (config_of separator) r.0 (fields_after r.1 fields field) (field_after r.1 c field) rest) (is_end r.1) fits refl room
    (counted_from separator rest)
    (counted_from separator rest n r.0 (fields_after r.1 fields field) (field_after r.1 c field) (omega (arith, room)) fits.plain)

counted : (separator : ℕ) (text : List ℕ) → count_of separator text ≡ begun (config_of separator) st.StartRecord text
counted separator text =
    more_records separator (length text + 1) st.StartRecord text (counted_from separator text) (omega arith) refl ∙ none_before (begun (config_of separator) st.StartRecord text)

-- ---- the line of a record

begun_append : (cfg : Config) (s : State) (xs ys : List ℕ) → begun cfg s (xs ++ ys) ≡ begun cfg s xs + begun cfg (after cfg s xs) ys
begun_append cfg s [] ys = omega arith
begun_append cfg s (x ∷ xs) ys = omega (arith, begun_append cfg (step cfg s x).0 xs ys)

after_append : (cfg : Config) (s : State) (xs ys : List ℕ) → after cfg s (xs ++ ys) ≡ after cfg (after cfg s xs) ys
after_append cfg s [] ys = refl
after_append cfg s (x ∷ xs) ys = after_append cfg (step cfg s x).0 xs ys

-- the lines from the one on in which so many records were opened
abbrev pub walked : Config → State → ℕ → List (List ℕ) → List (List ℕ)
walked cfg s left [] = []
walked cfg s left (l ∷ ls) = cond (left - begun cfg s l == 0) (l ∷ ls) (walked cfg (after cfg s l) (left - begun cfg s l) ls)

less_test : (m n : ℕ) → nat_lt m n ≡ not (n - m == 0)
less_test m n = grind (arith, nat_tests)

split_less : (a b n : ℕ) → n - (a + b) ≡ n - a - b
split_less a b n = omega arith

lines_by : (separator n : ℕ) (earlier l : List ℕ) (ls : List (List ℕ)) (t : Bool) → (n - begun (config_of separator) st.StartRecord (earlier ++ l) == 0) ≡ t
    → lines_from separator n (earlier ++ l) ls
    ≡ walked (config_of separator) (after (config_of separator) st.StartRecord (earlier ++ l)) (n - begun (config_of separator) st.StartRecord (earlier ++ l)) ls
    → cond (not t) (lines_from separator n (earlier ++ l) ls) (l ∷ ls)
    ≡ cond t (l ∷ ls) (walked (config_of separator) (after (config_of separator) st.StartRecord (earlier ++ l)) (n - begun (config_of separator) st.StartRecord (earlier ++ l)) ls)
lines_by separator n earlier l ls true e more = refl
lines_by separator n earlier l ls false e more = more

walked_from : (separator n : ℕ) (earlier : List ℕ) (ls : List (List ℕ))
    → lines_from separator n earlier ls ≡ walked (config_of separator) (after (config_of separator) st.StartRecord earlier) (n - begun (config_of separator) st.StartRecord earlier) ls
walked_from separator n earlier [] = refl
walked_from separator n earlier (l ∷ ls) =
    let cfg = config_of separator in
    let s = after cfg st.StartRecord earlier in
    let a = begun cfg st.StartRecord earlier in
    let sum : begun cfg st.StartRecord (earlier ++ l) ≡ a + begun cfg s l = begun_append cfg st.StartRecord earlier l in
    let test : nat_lt (count_of separator (earlier ++ l)) n ≡ not (n - begun cfg st.StartRecord (earlier ++ l) == 0)
    = ap (λ (m : ℕ). nat_lt m n) (counted separator (earlier ++ l)) ∙ less_test (begun cfg st.StartRecord (earlier ++ l)) n in
    ap (λ (b : Bool). cond b (lines_from separator n (earlier ++ l) ls) (l ∷ ls)) test
    ∙ (lines_by separator n earlier l ls (n - begun cfg st.StartRecord (earlier ++ l) == 0) refl (walked_from separator n (earlier ++ l) ls)
    ∙ (ap (λ (m : ℕ). cond (n - m == 0) (l ∷ ls) (walked cfg (after cfg st.StartRecord (earlier ++ l)) (n - m) ls)) sum
    ∙ (ap (λ (m : ℕ). cond (m == 0) (l ∷ ls) (walked cfg (after cfg st.StartRecord (earlier ++ l)) m ls)) (split_less a (begun cfg s l) n)
    ∙ ap (λ (x : State). cond (n - a - begun cfg s l == 0) (l ∷ ls) (walked cfg x (n - a - begun cfg s l) ls)) (after_append cfg st.StartRecord earlier l))))

-- ---- the walk

pub line_starts : (separator n : ℕ) (lines : List (List ℕ)) → lines_from separator n [] lines ≡ walked (config_of separator) st.StartRecord n lines
line_starts separator n lines = walked_from separator n [] lines ∙ ap (λ (m : ℕ). walked (config_of separator) st.StartRecord m lines) (minus_none n)

one_line : (cfg : Config) (s : State) (left : ℕ) (rest line : List ℕ) (next : ℕ) → 0 < length rest → line ≡ first_line (drop 0 rest) → next ≡ 0 + length (first_line (drop 0 rest))
    → walked cfg s left (lines_of rest) ≡ cond (left - begun cfg s line == 0) (lines_of rest) (walked cfg (after cfg s line) (left - begun cfg s line) (lines_of (drop next rest)))
one_line cfg s left rest line next some is at =
    let k : next ≡ length (first_line rest) = omega (arith, at) in
    let cut = lines_split rest some in
    rw (k, is) (ap (walked cfg s left) cut ∙ ap (λ (x : List (List ℕ)). cond (left - begun cfg s (first_line rest) == 0) x
    (walked cfg (after cfg s (first_line rest)) (left - begun cfg s (first_line rest)) (lines_of (drop (length (first_line rest)) rest)))) (sym cut))

by_test : (t : Bool) (a b whole : List (List ℕ)) → whole ≡ cond t a b → t ≡ false → whole ≡ b
by_test true a b whole w e = absurd (false≢true (sym e))
by_test false a b whole w e = w

here_by : (t : Bool) (a b whole : List (List ℕ)) → whole ≡ cond t a b → t ≡ true → whole ≡ a
here_by true a b whole w e = w
here_by false a b whole w e = absurd (false≢true e)

-- the record doesn't begin in this line
pub line_passed : (cfg : Config) (whole : List (List ℕ)) (s behind : State) (left more next : ℕ) (rest line : List ℕ) → whole ≡ walked cfg s left (lines_of rest) → 0 < length rest
    → line ≡ first_line (drop 0 rest) → next ≡ 0 + length (first_line (drop 0 rest)) → behind ≡ after cfg s line → more ≡ left - begun cfg s line → (more == 0) ≡ false
    → whole ≡ walked cfg behind more (lines_of (drop next rest))
line_passed cfg whole s behind left more next rest line w some is at state less other =
    rw (state, less) (by_test (left - begun cfg s line == 0) (lines_of rest) (walked cfg (after cfg s line) (left - begun cfg s line) (lines_of (drop next rest))) whole
    (w ∙ one_line cfg s left rest line next some is at) (ap (λ (m : ℕ). m == 0) (sym less) ∙ other))

-- it does
pub line_found : (cfg : Config) (whole : List (List ℕ)) (s : State) (left more next : ℕ) (rest line : List ℕ) → whole ≡ walked cfg s left (lines_of rest) → 0 < length rest
    → line ≡ first_line (drop 0 rest) → next ≡ 0 + length (first_line (drop 0 rest)) → more ≡ left - begun cfg s line → (more == 0) ≡ true
    → rest ≡ concat whole
line_found cfg whole s left more next rest line w some is at less here =
    sym (ap concat (here_by (left - begun cfg s line == 0) (lines_of rest) (walked cfg (after cfg s line) (left - begun cfg s line) (lines_of (drop next rest))) whole
    (w ∙ one_line cfg s left rest line next some is at) (ap (λ (m : ℕ). m == 0) (sym less) ∙ here)) ∙ lines_join rest)

-- no line is left
none_in : (cfg : Config) (s : State) (left : ℕ) (rest : List ℕ) → rest ≡ [] → concat (walked cfg s left (lines_of rest)) ≡ rest
none_in cfg s left rest e = rw e refl

pub no_line : (cfg : Config) (whole : List (List ℕ)) (s : State) (left : ℕ) (rest : List ℕ) → whole ≡ walked cfg s left (lines_of rest) → length rest ≤ 0 → rest ≡ concat whole
no_line cfg whole s left rest w empty = sym (ap concat w ∙ none_in cfg s left rest (nil_from_length rest (omega arith)))
