-- The name of an account in the line of a posting.
use Rattle.std.proofs.Common.{ℕ, suc, ◌≡◌, ◌+◌, ◌-◌, Bool, true, false, cond, ◌==◌, ◌&&◌, ◌||◌, not, List, [], ◌∷◌, ◌++◌, length, take, drop, Result, Ok, Err, refl, sym, ap, ◌∙◌, arith}
use Rattle.std.specs.Str.{bytes_eq}
use Rattle.std.proofs.Math.Seq.{take-append_seam}
use Rattle.std.proofs.lemmas.Bool.{eqb-true, false≢true}
use Rattle.std.proofs.lemmas.Slice.Eq.{bytes_eq-Decides}
use Rattle.hl_base.specs.Items.{is_white}
use Rattle.book.specs.declared.fault.Fault.{Fault}
use Rattle.book.specs.declared.fault.Cause.TheVariants as cause
use Rattle.book.specs.declared.transaction.Mark.{Mark}
use Rattle.book.specs.declared.transaction.Mark.TheVariants.{Unmarked, Pending, Cleared}
use Rattle.book.specs.declared.transaction.Side.{Side}
use Rattle.book.specs.declared.transaction.Side.TheVariants.{Real, Balanced, Free}
use Rattle.book_care.specs.Reads.{named_at, is_unmarked, is_real, is_plain, is_account, in_posting, begins_plain, stands_whole, reads_back}
use Rattle.entry_reader.proofs.Both.{both_true}
use Rattle.entry_reader.specs.Accounts.{ends_name, account_len, side_of, name_of, has_parts, account_at, account_of, account_alone, account_front, is_account_text}
use Rattle.entry_reader.specs.Causes.{fault_at, ◌>>=◌}
use Rattle.entry_reader.specs.Comments.{is_comment}
use Rattle.entry_reader.specs.Contexts.{Context, account_named}
use Rattle.entry_reader.specs.Heads.{is_mark, has_second_mark, mark_at}
use Rattle.entry_reader.specs.Lines.{first_is, begins, has_byte, after_white, before_byte}
use Rattle.written_logs.proofs.Bytes.{after_spaces, after_white_solid, not_false}

-- ---- the whole name

-- What is known of the text of an account.
pub record IsWhole (name : List ℕ) : Type 0 where
  pub len : account_len name ≡ length name
  pub first : first_is is_white name ≡ false
  pub line : has_byte 10 name ≡ false
  pub last : first_is is_white (drop (length name - 1) name) ≡ false

pub whole_of : (name : List ℕ) → is_account_text name ≡ true → IsWhole name
whole_of name h =
    let a = account_len name == length name in
    let b = not (first_is is_white name) in
    let c = not (has_byte 10 name) in
    let d = not (first_is is_white (drop (length name - 1) name)) in
    let one = both_true (a && b && c) d h in
    let two = both_true (a && b) c one.0 in
    let three = both_true a b two.0 in
    record {
      len = eqb-true (account_len name) (length name) three.0;
      first = not_false (first_is is_white name) three.1;
      line = not_false (has_byte 10 name) two.1;
      last = not_false (first_is is_white (drop (length name - 1) name)) one.1;
    }

ends_same : (b c : ℕ) (cs rest : List ℕ) → ends_name b (c ∷ (cs ++ rest)) ≡ ends_name b (c ∷ cs)
ends_same b c cs rest = refl

len_step : (t : Bool) (n l : ℕ) → cond t 0 (n + 1) ≡ suc l → (t ≡ false) × (n ≡ l)
len_step true n l e = absurd (omega arith)
len_step false n l e = (refl, omega arith)

tab_alone : (t w : Bool) → (t || (w && false)) ≡ false → t ≡ false
tab_alone true w h = h
tab_alone false w h = refl

at_end : (t w x : Bool) → t ≡ false → w ≡ false → (t || (w && x)) ≡ false
at_end t w x e f = rw (e, f) refl

-- with two spaces behind it, the name is what the account is
pub name_len : (name rest : List ℕ) → account_len name ≡ length name → first_is is_white (drop (length name - 1) name) ≡ false → account_len (name ++ 32 ∷ 32 ∷ rest) ≡ length name
name_len [] rest len last = refl
name_len (b ∷ []) rest len last =
    let step = len_step (ends_name b []) 0 0 len in
    let apart : ends_name b (32 ∷ 32 ∷ rest) ≡ false = at_end (b == 9) (is_white b) true (tab_alone (b == 9) (is_white b) step.0) last in
    ap (λ (t : Bool). cond t 0 (account_len (32 ∷ 32 ∷ rest) + 1)) apart
name_len (b ∷ c ∷ cs) rest len last =
    let step = len_step (ends_name b (c ∷ cs)) (account_len (c ∷ cs)) (length (c ∷ cs)) len in
    let place : length (b ∷ c ∷ cs) - 1 ≡ suc (length (c ∷ cs) - 1) = omega arith in
    let later : first_is is_white (drop (length (c ∷ cs) - 1) (c ∷ cs)) ≡ false = sym (ap (λ (k : ℕ). first_is is_white (drop k (b ∷ c ∷ cs))) place) ∙ last in
    let more = name_len (c ∷ cs) rest step.1 later in
    ap (λ (t : Bool). cond t 0 (account_len (c ∷ (cs ++ 32 ∷ 32 ∷ rest)) + 1)) step.0 ∙ counted (account_len (c ∷ (cs ++ 32 ∷ 32 ∷ rest))) (length (c ∷ cs)) more
  where
    counted : (x y : ℕ) → x ≡ y → x + 1 ≡ suc y
    counted x y e = omega arith

-- ---- what reads back

-- What a name is that reads back as a real posting's, without a mark.
pub record IsRead (context : Context) (name : List ℕ) : Type 0 where
  pub mark : first_is is_mark name ≡ false
  pub remark : begins name 59 ≡ false
  pub account : (line : ℕ) → account_at context line name ≡ Ok (Real, name)

same_bytes : (xs ys : List ℕ) → bytes_eq xs ys ≡ true → xs ≡ ys
same_bytes xs ys h = (bytes_eq-Decides xs ys).0 h

abbrev Named : Type 0
Named = Result (Mark × (Side × List ℕ)) Fault

marked : (name : List ℕ) (mark : Mark) (r : Result (Side × List ℕ) Fault) → is_unmarked mark ≡ false → is_plain name (r >>= λ account. Ok (mark, account)) ≡ true → ⊥
marked name mark (Ok account) none h = false≢true (sym (ap (λ (t : Bool). t && is_real account.0 && bytes_eq account.1 name) none) ∙ h)
marked name mark (Err fault) none h = false≢true h

abbrev Accounted : Type 0
Accounted = Result (Side × List ℕ) Fault

abbrev accounted : Side → List ℕ → Accounted
accounted side n = Ok (side, n)

plain_name : (name n : List ℕ) (side : Side) → (is_real side && bytes_eq n name) ≡ true → accounted side n ≡ accounted Real name
plain_name name n Real h = ap (λ (x : List ℕ). accounted Real x) (same_bytes n name h)
plain_name name n Balanced h = absurd (false≢true h)
plain_name name n Free h = absurd (false≢true h)

unmarked : (name : List ℕ) (r : Result (Side × List ℕ) Fault) → is_plain name (r >>= λ account. Ok (Unmarked, account)) ≡ true → r ≡ Ok (Real, name)
unmarked name (Ok account) h = plain_name name account.1 account.0 h
unmarked name (Err fault) h = absurd (false≢true h)

-- what is read of a text whose first byte is a mark or not
abbrev built : Context → List ℕ → List ℕ → Fault → Bool → Bool → Bool → Named
built context text rest fault second one two =
    (let r : Result (Mark × List ℕ) Fault = cond second (Err fault) (Ok (cond one Pending (cond two Cleared Unmarked), cond (one || two) rest text)) in r)
    >>= λ mark. account_at context 1 (take (account_len mark.1) mark.1) >>= λ account. Ok (mark.0, account)

by_marks : (context : Context) (name text rest : List ℕ) (fault : Fault) (second one two : Bool) → is_plain name (built context text rest fault second one two) ≡ true
    → ((one || two) ≡ false) × (account_at context 1 (take (account_len text) text) ≡ Ok (Real, name))
by_marks context name text rest fault true one two h = absurd (false≢true h)
by_marks context name text rest fault false true two h = absurd (marked name Pending (account_at context 1 (take (account_len rest) rest)) refl h)
by_marks context name text rest fault false false true h = absurd (marked name Cleared (account_at context 1 (take (account_len rest) rest)) refl h)
by_marks context name text rest fault false false false h = (refl, unmarked name (account_at context 1 (take (account_len text) text)) h)

-- what is named behind white space
abbrev named_behind : Context → List ℕ → Named
named_behind context text = mark_at 1 text >>= λ mark. account_at context 1 (take (account_len mark.1) mark.1) >>= λ account. Ok (mark.0, account)

named_is : (context : Context) (content : List ℕ) → named_at context content ≡ named_behind context (after_white content)
unfolding named_at
named_is context content = refl

built_is : (context : Context) (b : ℕ) (bs : List ℕ) → named_behind context (b ∷ bs) ≡ built context (b ∷ bs) (after_white bs) (fault_at 1 cause.StatusMark) (has_second_mark (b ∷ bs)) (b == 33) (b == 42)
unfolding mark_at
built_is context b bs = refl

empty_named : (context : Context) → is_plain [] (named_at context (in_posting [])) ≡ false
unfolding named_at mark_at
empty_named context = refl

moved : (t : Bool) (s : Side) (n : List ℕ) (f g : Fault) (x : Side × List ℕ)
    → ((let r : Result (List ℕ) Fault = cond t (Ok n) (Err f) in r) >>= λ m. Ok (s, m)) ≡ Ok x → ((let r : Result (List ℕ) Fault = cond t (Ok n) (Err g) in r) >>= λ m. Ok (s, m)) ≡ Ok x
moved true s n f g x h = h
moved false s n f g x h = absurd (let never : ⊥ = cc in never)

-- in another line, and in a context that changes names as this one does
account_moved : (c d : Context) (line : ℕ) (name : List ℕ) (x : Side × List ℕ) → ((n : List ℕ) → account_named c n ≡ account_named d n) → account_at c 1 name ≡ Ok x → account_at d line name ≡ Ok x
account_moved c d line name x same h =
    let n = name_of name in
    moved (has_parts n && has_parts (account_named d n)) (side_of name) (account_named d n) (fault_at 1 cause.Account) (fault_at line cause.Account) x
    (ap (λ (m : List ℕ). (let r : Result (List ℕ) Fault = cond (has_parts n && has_parts m) (Ok m) (Err (fault_at 1 cause.Account)) in r) >>= λ k. Ok (side_of name, k)) (sym (same n)) ∙ h)

by_tests : (white whole : Bool) (named : Result (Side × List ℕ) Fault) (f g : Fault)
    → is_account (cond white (Err f) (named >>= λ account. cond whole (Ok account) (Err g))) ≡ true → whole ≡ true
by_tests true whole named f g h = absurd (false≢true h)
by_tests false true named f g h = refl
by_tests false false (Ok account) f g h = absurd (false≢true h)
by_tests false false (Err fault) f g h = absurd (false≢true h)

whole_text : (name : List ℕ) → stands_whole name ≡ true → is_account_text name ≡ true
unfolding account_alone
whole_text name h =
    by_tests (first_is is_white name) (is_account_text name) (account_of 1 (account_front (before_byte 10 name)))
    (fault_at 1 cause.Form) (fault_at 1 cause.Form) h

-- a name that reads back is an account's whole text
pub text_of : (c : Context) (name : List ℕ) → reads_back c name ≡ true → is_account_text name ≡ true
text_of c name h = whole_text name (both_true (stands_whole name) (begins_plain c name (in_posting name)) h).0

plain_of : (c : Context) (name : List ℕ) → reads_back c name ≡ true → begins_plain c name (in_posting name) ≡ true
plain_of c name h = (both_true (stands_whole name) (begins_plain c name (in_posting name)) h).1

-- A whole name that reads back is read as itself, in a context that changes names alike.
pub read_of : (c d : Context) (name : List ℕ) → ((n : List ℕ) → account_named c n ≡ account_named d n) → IsWhole name → reads_back c name ≡ true → IsRead d name
read_of c d [] same is h = absurd (false≢true (sym (empty_named c) ∙ (both_true (not (is_comment (in_posting []))) (is_plain [] (named_at c (in_posting []))) (plain_of c [] h)).1))
read_of c d (b ∷ bs) same is h =
    let name : List ℕ = b ∷ bs in
    let text : List ℕ = b ∷ (bs ++ 32 ∷ 32 ∷ []) in
    let content = in_posting name in
    let parts = both_true (not (is_comment content)) (is_plain name (named_at c content)) (plain_of c name h) in
    let behind : after_white content ≡ text = after_spaces 4 text ∙ after_white_solid text is.first in
    let plain : is_plain name (built c text (after_white (bs ++ 32 ∷ 32 ∷ [])) (fault_at 1 cause.StatusMark) (has_second_mark text) (b == 33) (b == 42)) ≡ true =
    sym (ap (is_plain name) (named_is c content ∙ ap (named_behind c) behind ∙ built_is c b (bs ++ 32 ∷ 32 ∷ []))) ∙ parts.1 in
    let read = by_marks c name text (after_white (bs ++ 32 ∷ 32 ∷ [])) (fault_at 1 cause.StatusMark) (has_second_mark text) (b == 33) (b == 42) plain in
    let front : take (account_len text) text ≡ name = ap (λ (k : ℕ). take k text) (name_len name [] is.len is.last) ∙ take-append_seam name (32 ∷ 32 ∷ []) in
    let there : account_at c 1 name ≡ Ok (Real, name) = ap (account_at c 1) (sym front) ∙ read.1 in
    record {
      mark = read.0;
      remark = ap (λ (t : List ℕ). begins t 59) (sym behind) ∙ not_false (is_comment content) parts.0;
      account = λ line. account_moved c d line name (Real, name) same there;
    }

-- a name that reads back is not empty
pub some_name : (c : Context) (name : List ℕ) → reads_back c name ≡ true → (length name ≡ 0) → ⊥
some_name c [] h = λ e. false≢true (sym (empty_named c) ∙ (both_true (not (is_comment (in_posting []))) (is_plain [] (named_at c (in_posting []))) (plain_of c [] h)).1)
some_name c (b ∷ bs) h = λ e. omega (arith, e)
