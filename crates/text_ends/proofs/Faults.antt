-- The fault of what a last piece takes.
use Rattle.std.proofs.Common.{◌≡◌, ℕ, ◌+◌, ◌≤◌, Bool, true, false, cond, List, length, take, Option, Some, None, Result, Ok, Err, refl, sym, ap, subst, ◌∙◌, arith}
use Rattle.std.specs.Prelude.{IfSome}
use Rattle.std.specs.Str.{is_utf8}
use Rattle.book.specs.declared.fault.Cause.TheVariants as cause
use Rattle.book.specs.declared.fault.Fault.{Fault}
use Rattle.entry_reader.specs.Causes.{cause_in, fault_at, ◌>>=◌}
use Rattle.journal_reader.specs.Items.{broken_line}
use Rattle.hl_base.specs.Gives.{Gives}
use Rattle.hl_base.specs.Items.{items_of}
use Rattle.book.specs.declared.item.Placed.{Placed}
use Rattle.entry_reader.specs.declared.fault.ReadFault.{ReadFault}
use Rattle.entry_reader.specs.declared.fault.ReadFault.TheVariants as faults
use Rattle.text_ends.specs.Growth.{growth_fault, line_behind, lines_taken, outgrown, rest_of, taken, unless_fault}
use Rattle.text_ends.specs.Told.{fault_of_growth, grown_by, grown_told, put_rest, told_behind, told_on, told_rest, utf8_fault}
use Rattle.text_ends.specs.declared.kept.KeptEnd.{KeptEnd}
use Rattle.text_ends.specs.declared.reading.Grown.{Grown}
use Rattle.text_ends.specs.declared.taking.Reach.{Reach}

-- the line behind a text is at most one after its last
pub behind_few : (e : KeptEnd) → line_behind e ≤ e.lines + 1
behind_few e = by e.ended
  where
    by : (t : Bool) → e.lines + cond t 1 0 ≤ e.lines + 1
    by true = omega arith
    by false = omega arith

pub no_fault : (line : ℕ) (bytes : List ℕ) → is_utf8 bytes ≡ true → None ≡ utf8_fault line bytes
no_fault line bytes h = sym (ap (λ (t : Bool). cond {A = Option Fault} t None (Some (fault_at (broken_line line bytes) cause.Encoding))) h)

pub some_fault : (line at : ℕ) (bytes : List ℕ) → at ≡ broken_line line bytes → is_utf8 bytes ≡ false → Some (fault_at at cause.Encoding) ≡ utf8_fault line bytes
some_fault line at bytes same h =
    ap (λ (n : ℕ). Some (fault_at n cause.Encoding)) same
    ∙ sym (ap (λ (t : Bool). cond {A = Option Fault} t None (Some (fault_at (broken_line line bytes) cause.Encoding))) h)

by_none : (t : Bool) (other : Option Fault) (fault : Fault) → cond {A = Option Fault} t None (Some fault) ≡ None → cond t other (Some fault) ≡ other
by_none true other fault h = refl
by_none false other fault h = absurd (let never : ⊥ = cc in never)

by_some : (t : Bool) (other : Option Fault) (found fault : Fault) → cond {A = Option Fault} t None (Some found) ≡ Some fault → cond t other (Some found) ≡ Some fault
by_some true other found fault h = absurd (let never : ⊥ = cc in never)
by_some false other found fault h = h

-- what is in UTF-8 may make the piece too long
pub growth_none : (e : KeptEnd) (more : List ℕ) → utf8_fault (line_behind e) more ≡ None → fault_of_growth e more ≡ outgrown (length more) e.last
growth_none e more h = by_none (is_utf8 more) (outgrown (length more) e.last) (fault_at (broken_line (line_behind e) more) cause.Encoding) h

pub growth_some : (e : KeptEnd) (more : List ℕ) (fault : Fault) → utf8_fault (line_behind e) more ≡ Some fault → fault_of_growth e more ≡ Some fault
growth_some e more fault h = by_some (is_utf8 more) (outgrown (length more) e.last) (fault_at (broken_line (line_behind e) more) cause.Encoding) fault h

-- ---- what bytes come to

pub growth_is : (e : KeptEnd) (bytes : List ℕ) → length (take (taken e bytes) bytes) ≡ taken e bytes → growth_fault e bytes ≡ fault_of_growth e (take (taken e bytes) bytes)
growth_is e bytes h =
    let more = take (taken e bytes) bytes in
    ap (λ (n : ℕ). cond (is_utf8 more) (outgrown n e.last) (Some (fault_at (broken_line (line_behind e) more) cause.Encoding))) (sym h)

same_told : (e : KeptEnd) (bytes : List ℕ) (t : Reach) (o : Option (List Placed)) → t.bytes ≡ taken e bytes → t.lines ≡ lines_taken e bytes → grown_by t o ≡ grown_told e bytes o
same_told e bytes t None b l = refl
same_told e bytes t (Some items) b l = λ i. Some (record { taken = b i; lines = l i; items = items })

put_is : (e : KeptEnd) (bytes rest : List ℕ) (t : Reach) → t.bytes ≡ taken e bytes → t.lines ≡ lines_taken e bytes → rest ≡ rest_of e bytes
    → put_rest e t rest ≡ (told_rest e bytes >>= λ items. Ok (grown_told e bytes items))
put_is e bytes rest t b l r =
    λ i. told_on e.context (e.bytes + b i) (e.lines + l i) (r i) (items_of (r i)) >>= λ items. Ok (same_told e bytes t items b l i)

-- the fault of what the last piece takes is that of all
pub fault_behind : (e : KeptEnd) (bytes more : List ℕ) (fault : Fault) → more ≡ take (taken e bytes) bytes → length more ≡ taken e bytes → fault_of_growth e more ≡ Some fault → told_behind e bytes ≡ Err fault
fault_behind e bytes more fault is size h =
    let here : growth_fault e bytes ≡ Some fault = growth_is e bytes (ap length (sym is) ∙ size) ∙ ap (fault_of_growth e) (sym is) ∙ h in
    ap (λ (o : Option Fault). unless_fault o (told_rest e bytes >>= λ items. Ok (grown_told e bytes items))) here

-- where there is none, the rest decides
pub rest_behind : (e : KeptEnd) (bytes more rest : List ℕ) (t : Reach) (r : Result (Option Grown) ReadFault) → more ≡ take (taken e bytes) bytes → length more ≡ taken e bytes → fault_of_growth e more ≡ None
    → t.bytes ≡ taken e bytes → t.lines ≡ lines_taken e bytes → rest ≡ rest_of e bytes → Gives (λ (g : Option Grown). g) cause_in r (put_rest e t rest) → Gives (λ (g : Option Grown). g) cause_in r (told_behind e bytes)
rest_behind e bytes more rest t r is size h b l rest_is gives =
    let none : growth_fault e bytes ≡ None = growth_is e bytes (ap length (sym is) ∙ size) ∙ ap (fault_of_growth e) (sym is) ∙ h in
    let same : put_rest e t rest ≡ told_behind e bytes =
    put_is e bytes rest t b l rest_is ∙ sym (ap (λ (o : Option Fault). unless_fault o (told_rest e bytes >>= λ items. Ok (grown_told e bytes items))) none) in
    subst (λ (x : Result (Option Grown) Fault). Gives (λ (g : Option Grown). g) cause_in r x) same gives

-- an error of the reading is that of all; what was read is told
pub read_err : (f : ReadFault) (e : KeptEnd) (t : Reach) (rest : List ℕ) (told : Result (Option (List Placed)) Fault) → told ≡ told_on e.context (e.bytes + t.bytes) (e.lines + t.lines) rest (items_of rest)
    → IfSome (cause_in f) (λ fault. told ≡ Err fault) → IfSome (cause_in f) (λ fault. put_rest e t rest ≡ Err fault)
read_err faults.Memory e t rest told is h = tt
read_err (faults.Read fault) e t rest told is h = ap (λ (x : Result (Option (List Placed)) Fault). x >>= λ items. Ok (grown_by t items)) (sym is ∙ h)

pub read_ok : (e : KeptEnd) (t : Reach) (rest : List ℕ) (items : Option (List Placed)) (grown : Option Grown) → told_on e.context (e.bytes + t.bytes) (e.lines + t.lines) rest (items_of rest) ≡ Ok items → grown ≡ grown_by t items
    → put_rest e t rest ≡ Ok grown
read_ok e t rest items grown h is =
    ap (λ (x : Result (Option (List Placed)) Fault). x >>= λ others. Ok (grown_by t others)) h ∙ ap (λ (g : Option Grown). Ok g) (sym is)
