-- The first line of an entry of hours reads again.
use Rattle.std.proofs.Common.{◌≡◌, ℕ, Bool, true, false, cond, ◌==◌, ◌&&◌, ◌||◌, List, [], ◌∷◌, ◌++◌, drop, Option, Result, Ok, refl, sym, ap, ◌∙◌}
use Rattle.std.proofs.lemmas.Bool.{false≢true}
use Rattle.hl_base.specs.Items.{is_white}
use Rattle.hl_time.specs.Calendar.{IsDay}
use Rattle.book.specs.declared.fault.Fault.{Fault}
use Rattle.book.specs.declared.transaction.Mark.{Mark}
use Rattle.book.specs.declared.transaction.Mark.TheVariants.{Cleared}
use Rattle.entry_reader.specs.Causes.{◌>>=◌}
use Rattle.entry_reader.specs.Contexts.{Context}
use Rattle.entry_reader.specs.Heads.{Head, day_at, mark_at, is_mark, has_code, after_code, description_of, own_comment, head_with, head_from, head_of}
use Rattle.entry_reader.specs.Lines.{begins, before_byte, after_byte, trimmed, has_byte}
use Rattle.journal_printer.specs.Texts.{calendar_text, description_text}
use Rattle.time_logs.specs.Said.{reads_otherwise}
use Rattle.written_logs.specs.Plain.{IsDescription}
use Rattle.written_logs.proofs.Accounts.{bare}
use Rattle.written_logs.proofs.Bytes.{before_none, after_none, trimmed_solid}
use Rattle.written_logs.proofs.Days.{day_at_front}

-- the day, the mark and the description
abbrev pub head_bytes : ℕ → List ℕ → List ℕ
head_bytes day description = calendar_text day ++ 32 ∷ 42 ∷ description_text description

three_false : (a b c : Bool) → (a || b || c) ≡ false → (a ≡ false) × (b ≡ false) × (c ≡ false)
three_false true true true e = absurd (false≢true (sym e))
three_false true true false e = absurd (false≢true (sym e))
three_false true false true e = absurd (false≢true (sym e))
three_false true false false e = absurd (false≢true (sym e))
three_false false true true e = absurd (false≢true (sym e))
three_false false true false e = absurd (false≢true (sym e))
three_false false false true e = absurd (false≢true (sym e))
three_false false false false e = (refl, refl, refl)

or_false : (a b : Bool) → a ≡ false → b ≡ false → (a || b) ≡ false
or_false a b e f = rw (e, f) refl

no_mark : (b : ℕ) (bs : List ℕ) → reads_otherwise (b ∷ bs) ≡ false → is_mark b ≡ false
no_mark b bs h =
    let each = three_false (b == 40) (b == 33) (b == 42) h in
    or_false (b == 33) (b == 42) each.1 each.2

mark_is : (line : ℕ) (d : List ℕ) → IsDescription d → mark_at line (42 ∷ description_text d) ≡ Ok (Cleared, d)
unfolding mark_at
mark_is line [] is = refl
mark_is line (b ∷ bs) is =
    let solid : is_white b ≡ false = is.first in
    let plain : is_mark b ≡ false = no_mark b bs is.plain in
    rw (solid, plain) refl

no_code : (d : List ℕ) → reads_otherwise d ≡ false → has_code d ≡ false
no_code d h = ap (λ (t : Bool). t && has_byte 41 (drop 1 d)) (three_false (begins d 40) (begins d 33) (begins d 42) h).0

head_is : (day : ℕ) (d : List ℕ) → IsDescription d → head_from day Cleared d ≡ head_with day Cleared [] d []
head_is day d is =
    let plain = no_code d is.plain in
    let text : after_code d ≡ d = ap (λ (t : Bool). cond t (after_byte 41 (drop 1 d)) d) plain in
    ap (λ (t : Bool). head_with day Cleared (cond t (before_byte 41 (drop 1 d)) []) (description_of (after_code d)) (own_comment (after_code d))) plain
    ∙ ap (λ (c : List ℕ). head_with day Cleared [] (description_of c) (own_comment c)) text
    ∙ ap (λ (c : List ℕ). head_with day Cleared [] (trimmed c) (own_comment d)) (before_none 59 d is.remark)
    ∙ ap (λ (c : List ℕ). head_with day Cleared [] c (own_comment d)) (trimmed_solid d is.first is.last)
    ∙ ap (λ (c : List ℕ). head_with day Cleared [] d (trimmed c)) (after_none 59 d is.remark)

head_parts : (context : Context) (line : ℕ) (content : List ℕ)
    → head_of context line content ≡ (day_at context.year line content >>= λ day. mark_at line day.1 >>= λ mark. Ok (head_from day.0 mark.0 mark.1))
unfolding head_of
head_parts context line content = refl

pub head_read : (year : Option ℕ) (line day : ℕ) (d : List ℕ) → IsDay day → IsDescription d
    → head_of (bare year) line (head_bytes day d) ≡ Ok (head_with day Cleared [] d [])
head_read year line day d within is =
    head_parts (bare year) line (head_bytes day d)
    ∙ ap (λ (r : Result (ℕ × List ℕ) Fault). r >>= λ at. mark_at line at.1 >>= λ mark. Ok (head_from at.0 mark.0 mark.1)) (day_at_front year line day (42 ∷ description_text d) within)
    ∙ ap (λ (r : Result (Mark × List ℕ) Fault). r >>= λ mark. Ok (head_from day mark.0 mark.1)) (mark_is line d is)
    ∙ ap (λ (h : Head). Ok h) (head_is day d is)
