-- The account of a posting, with its brackets, in the posting's line.
use Rattle.std.proofs.Common.{ℕ, zero, suc, ◌≡◌, ◌+◌, ◌-◌, ◌<◌, Bool, true, false, cond, ◌==◌, ◌&&◌, ◌||◌, List, [], ◌∷◌, ◌++◌, length, take, drop, Option, Some, None, Result, Ok, Err, refl, sym, ap, subst, ◌∙◌, arith, append-nil}
use Rattle.std.specs.Prelude.{nat_le, slice_index}
use Rattle.std.specs.List.{suffix_len}
use Rattle.std.proofs.Math.Seq.{drop-append_seam, take-append_seam}
use Rattle.std.proofs.lemmas.Bool.{eqb-true, false≢true}
use Rattle.hl_base.specs.Items.{is_white}
use Rattle.book.specs.declared.fault.Cause.TheVariants as cause
use Rattle.book.specs.declared.fault.Fault.{Fault}
use Rattle.book.specs.declared.transaction.Side.{Side}
use Rattle.book.specs.declared.transaction.Side.TheVariants.{Real, Balanced, Free}
use Rattle.entry_reader.proofs.Both.{both_true}
use Rattle.entry_reader.specs.Accounts.{account_at, account_len, ends_name, has_parts, is_within, name_of, side_of}
use Rattle.entry_reader.specs.Causes.{fault_at, ◌>>=◌}
use Rattle.entry_reader.specs.Contexts.{Context, account_named}
use Rattle.entry_reader.specs.Lines.{first_is}
use Rattle.journal_printer.specs.Texts.{in_brackets}
use Rattle.written_logs.proofs.Bytes.{solid_append}
use Rattle.printed_entries.proofs.Parts.{IsPart, solid_one, solid_rest}
use Rattle.closed_journals.proofs.Texts.{Gives, IsText, bind_gives, ok_gives, when_gives}

-- What is known of a posting's account that was read: the text with its brackets is a part of a line and is the account of
-- its line whole, and its side and name are these.
pub record IsReadAccount (side : Side) (name : List ℕ) : Type 0 where
  pub text : List ℕ
  pub is : in_brackets side name ≡ text
  pub part : IsPart text
  pub first : first_is is_white text ≡ false
  pub len : account_len text ≡ length text
  pub side_is : side_of text ≡ side
  pub name_is : name_of text ≡ name
  pub parts : has_parts name ≡ true

-- ---- with more behind it

len_step : (t : Bool) (n l : ℕ) → cond t 0 (n + 1) ≡ suc l → (t ≡ false) × (n ≡ l)
len_step true n l e = absurd (omega arith)
len_step false n l e = (refl, omega arith)

tab_alone : (t w : Bool) → (t || (w && false)) ≡ false → t ≡ false
tab_alone true w h = h
tab_alone false w h = refl

at_end : (t w x : Bool) → t ≡ false → w ≡ false → (t || (w && x)) ≡ false
at_end t w x e f = rw (e, f) refl

counted : (x y : ℕ) → x ≡ y → x + 1 ≡ suc y
counted x y e = omega arith

-- two spaces end it
name_len : (name rest : List ℕ) → account_len name ≡ length name → suffix_len is_white name ≡ 0 → account_len (name ++ 32 ∷ 32 ∷ rest) ≡ length name
name_len [] rest len last = refl
name_len (b ∷ []) rest len last =
    let step = len_step (ends_name b []) 0 0 len in
    let apart : ends_name b (32 ∷ 32 ∷ rest) ≡ false = at_end (b == 9) (is_white b) true (tab_alone (b == 9) (is_white b) step.0) (solid_one b last) in
    ap (λ (t : Bool). cond t 0 (account_len (32 ∷ 32 ∷ rest) + 1)) apart
name_len (b ∷ c ∷ cs) rest len last =
    let step = len_step (ends_name b (c ∷ cs)) (account_len (c ∷ cs)) (length (c ∷ cs)) len in
    let more = name_len (c ∷ cs) rest step.1 (solid_rest b (c ∷ cs) last) in
    ap (λ (t : Bool). cond t 0 (account_len (c ∷ (cs ++ 32 ∷ 32 ∷ rest)) + 1)) step.0 ∙ counted (account_len (c ∷ (cs ++ 32 ∷ 32 ∷ rest))) (length (c ∷ cs)) more

-- nothing, or two spaces and more
abbrev pub gapped : Option (List ℕ) → List ℕ
gapped None = []
gapped (Some rest) = 32 ∷ 32 ∷ rest

gapped_len : (name : List ℕ) (gap : Option (List ℕ)) → account_len name ≡ length name → suffix_len is_white name ≡ 0 → account_len (name ++ gapped gap) ≡ length name
gapped_len name None len last = ap account_len (append-nil name) ∙ len
gapped_len name (Some rest) len last = name_len name rest len last

pub name_front : (name : List ℕ) (gap : Option (List ℕ)) → account_len name ≡ length name → suffix_len is_white name ≡ 0 → take (account_len (name ++ gapped gap)) (name ++ gapped gap) ≡ name
name_front name gap len last = ap (λ (k : ℕ). take k (name ++ gapped gap)) (gapped_len name gap len last) ∙ take-append_seam name (gapped gap)

pub name_back : (name : List ℕ) (gap : Option (List ℕ)) → account_len name ≡ length name → suffix_len is_white name ≡ 0 → drop (account_len (name ++ gapped gap)) (name ++ gapped gap) ≡ gapped gap
name_back name gap len last = ap (λ (k : ℕ). drop k (name ++ gapped gap)) (gapped_len name gap len last) ∙ drop-append_seam name (gapped gap)

-- ---- what is read

abbrev Accounted : Type 0
Accounted = Result (Side × List ℕ) Fault

abbrev sided : Side → List ℕ → Accounted
sided side name = Ok (side, name)

account_by : (line : ℕ) (side : Side) (a b : Bool) (n m : List ℕ) → a ≡ true → b ≡ true → n ≡ m
    → ((let r : Result (List ℕ) Fault = cond (a && b) (Ok n) (Err (fault_at line cause.Account)) in r) >>= sided side) ≡ sided side m
account_by line side true true n m h k e = ap (λ (x : List ℕ). let r : Accounted = Ok (side, x) in r) e
account_by line side true false n m h k e = absurd (false≢true k)
account_by line side false b n m h k e = absurd (false≢true h)

-- such an account reads as it is, in a context that doesn't change its name
pub account_reads : (context : Context) (line : ℕ) (side : Side) (name : List ℕ) → account_named context name ≡ name → (is : IsReadAccount side name) → account_at context line is.text ≡ Ok (side, name)
account_reads context line side name same is =
    ap (λ (n : List ℕ). (let r : Result (List ℕ) Fault = cond (has_parts n && has_parts (account_named context n)) (Ok (account_named context n)) (Err (fault_at line cause.Account)) in r) >>= λ m. (let s : Accounted = Ok (side_of is.text, m) in s)) is.name_is
    ∙ account_by line (side_of is.text) (has_parts name) (has_parts (account_named context name)) (account_named context name) name is.parts (ap has_parts same ∙ is.parts) same
    ∙ ap (λ (s : Side). let r : Accounted = Ok (s, name) in r) is.side_is

-- ---- a text that was cut at its end

ends_less : (b : ℕ) (k : ℕ) (bs : List ℕ) → ends_name b bs ≡ false → ends_name b (take k bs) ≡ false
ends_less b zero bs h = by (b == 9) (is_white b) (first_is is_white bs) h
  where
    by : (t w x : Bool) → (t || (w && x)) ≡ false → (t || (w && false)) ≡ false
    by true w x h = h
    by false true x h = refl
    by false false x h = refl
ends_less b (suc k) [] h = h
ends_less b (suc k) (c ∷ cs) h = h

front_step : (b : ℕ) (bs : List ℕ) → ends_name b bs ≡ false → take (account_len (b ∷ bs)) (b ∷ bs) ≡ b ∷ take (account_len bs) bs
front_step b bs h =
    ap (λ (t : Bool). take (cond t 0 (account_len bs + 1)) (b ∷ bs)) h ∙ ap (λ (k : ℕ). take k (b ∷ bs)) (next (account_len bs))
  where
    next : (k : ℕ) → k + 1 ≡ suc k
    next k = omega arith

front_none : (b : ℕ) (bs : List ℕ) → ends_name b bs ≡ true → take (account_len (b ∷ bs)) (b ∷ bs) ≡ []
front_none b bs h = ap (λ (t : Bool). take (cond t 0 (account_len bs + 1)) (b ∷ bs)) h

-- the account that a text begins with is one whole
pub front_len : (r : List ℕ) → account_len (take (account_len r) r) ≡ length (take (account_len r) r)
front_len [] = refl
front_len (b ∷ bs) = by (ends_name b bs) refl (front_len bs)
  where
    by : (t : Bool) → ends_name b bs ≡ t → account_len (take (account_len bs) bs) ≡ length (take (account_len bs) bs) → account_len (take (account_len (b ∷ bs)) (b ∷ bs)) ≡ length (take (account_len (b ∷ bs)) (b ∷ bs))
    by true e more = ap (λ (xs : List ℕ). account_len xs) (front_none b bs e) ∙ sym (ap (λ (xs : List ℕ). length xs) (front_none b bs e))
    by false e more =
        let front = front_step b bs e in
        let less = ends_less b (account_len bs) bs e in
        ap account_len front
        ∙ ap (λ (t : Bool). cond t 0 (account_len (take (account_len bs) bs) + 1)) less
        ∙ counted (account_len (take (account_len bs) bs)) (length (take (account_len bs) bs)) more
        ∙ sym (ap (λ (xs : List ℕ). length xs) front)

-- what ends a name is white
ends_white : (c : ℕ) (cs : List ℕ) → ends_name c cs ≡ true → is_white c ≡ true
ends_white c cs h = by (c == 9) refl h
  where
    by : (t : Bool) → (c == 9) ≡ t → (t || (is_white c && first_is is_white cs)) ≡ true → is_white c ≡ true
    by true e h = ap is_white (eqb-true c 9 e)
    by false e h = (both_true (is_white c) (first_is is_white cs) h).0

not_before : (t w x : Bool) → x ≡ true → (t || (w && x)) ≡ false → w ≡ false
not_before t false x h e = refl
not_before true true x h e = absurd (false≢true (sym e))
not_before false true x h e = absurd (false≢true (sym e ∙ h))

solid_single : (b : ℕ) → is_white b ≡ false → suffix_len is_white (b ∷ []) ≡ 0
solid_single b h = ap (λ (t : Bool). cond t (1 + 0) 0) h

solid_more : (b : ℕ) (bs : List ℕ) → ends_name b bs ≡ false → suffix_len is_white (b ∷ bs) ≡ 0 → suffix_len is_white (take (account_len bs) bs) ≡ 0
    → suffix_len is_white (b ∷ take (account_len bs) bs) ≡ 0
solid_more b [] none h more = h
solid_more b (c ∷ cs) none h more = by (ends_name c cs) refl
  where
    by : (t : Bool) → ends_name c cs ≡ t → suffix_len is_white (b ∷ take (account_len (c ∷ cs)) (c ∷ cs)) ≡ 0
    by true e =
        ap (λ (xs : List ℕ). suffix_len is_white (b ∷ xs)) (front_none c cs e)
        ∙ solid_single b (not_before (b == 9) (is_white b) (is_white c) (ends_white c cs e) none)
    by false e =
        let front = front_step c cs e in
        ap (λ (xs : List ℕ). suffix_len is_white (b ∷ xs)) front
        ∙ solid_append (b ∷ []) (c ∷ take (account_len cs) cs) (omega arith) (sym (ap (suffix_len is_white) front) ∙ more)

-- and no white space stands at its end
pub front_last : (r : List ℕ) → suffix_len is_white r ≡ 0 → suffix_len is_white (take (account_len r) r) ≡ 0
front_last [] h = h
front_last (b ∷ bs) h = by (ends_name b bs) refl (front_last bs (solid_rest b bs h))
  where
    by : (t : Bool) → ends_name b bs ≡ t → suffix_len is_white (take (account_len bs) bs) ≡ 0 → suffix_len is_white (take (account_len (b ∷ bs)) (b ∷ bs)) ≡ 0
    by true e more = ap (suffix_len is_white) (front_none b bs e)
    by false e more = ap (suffix_len is_white) (front_step b bs e) ∙ solid_more b bs e h more

-- ---- brackets

last_split : (x : ℕ) (xs : List ℕ) (l : ℕ) → slice_index (x ∷ xs) (length xs) ≡ l → take (length xs) (x ∷ xs) ++ l ∷ [] ≡ x ∷ xs
last_split x [] l h = ap (λ (y : ℕ). y ∷ []) (sym h)
last_split x (y ∷ ys) l h = ap (λ (zs : List ℕ). x ∷ zs) (last_split y ys l h)

three_true : (a b c : Bool) → (a && b && c) ≡ true → (b ≡ true) × (c ≡ true)
three_true true true c h = (refl, h)
three_true true false c h = absurd (false≢true h)
three_true false b c h = absurd (false≢true h)

-- a text within two bytes is what they stand round
within_is : (f l : ℕ) (text : List ℕ) → is_within f l text ≡ true → f ∷ (take (length text - 2) (drop 1 text) ++ l ∷ []) ≡ text
within_is f l [] h = absurd (false≢true h)
within_is f l (a ∷ []) h = absurd (false≢true h)
within_is f l (a ∷ x ∷ xs) h =
    let text : List ℕ = a ∷ x ∷ xs in
    let both = three_true (nat_le 2 (length text)) (slice_index text 0 == f) (slice_index text (length text - 1) == l) h in
    let first : a ≡ f = eqb-true a f both.0 in
    let place : length text - 1 ≡ suc (length xs) = omega arith in
    let count : length text - 2 ≡ length xs = omega arith in
    let last : slice_index (x ∷ xs) (length xs) ≡ l = sym (ap (λ (k : ℕ). slice_index text k) place) ∙ eqb-true (slice_index text (length text - 1)) l both.1 in
    ap (λ (k : ℕ). f ∷ (take k (x ∷ xs) ++ l ∷ [])) count
    ∙ ap (λ (ys : List ℕ). f ∷ ys) (last_split x xs l last)
    ∙ ap (λ (b : ℕ). b ∷ x ∷ xs) (sym first)

-- an account's side and name are those of its text
brackets_are : (text : List ℕ) → in_brackets (side_of text) (name_of text) ≡ text
brackets_are text = by (is_within 40 41 text) (is_within 91 93 text) refl refl
  where
    by : (s t : Bool) → is_within 40 41 text ≡ s → is_within 91 93 text ≡ t
        → in_brackets (cond s Free (cond t Balanced Real)) (cond (s || t) (take (length text - 2) (drop 1 text)) text) ≡ text
    by true t e f = within_is 40 41 text e
    by false true e f = within_is 91 93 text f
    by false false e f = refl

some_text : (text : List ℕ) → has_parts (name_of text) ≡ true → 0 < length text
some_text [] h = absurd (false≢true h)
some_text (b ∷ bs) h = omega arith

abbrev IsNameOf : List ℕ → List ℕ → Type 0
IsNameOf text m = (m ≡ name_of text) × (has_parts (name_of text) ≡ true)

abbrev IsAccountOf : List ℕ → Side × List ℕ → Type 0
IsAccountOf text a = IsReadAccount a.0 a.1 × (in_brackets a.0 a.1 ≡ text)

told : (text : List ℕ) → IsText text → first_is is_white text ≡ false → suffix_len is_white text ≡ 0 → account_len text ≡ length text → has_parts (name_of text) ≡ true
    → IsReadAccount (side_of text) (name_of text)
told text is first last len parts = record {
  text = text;
  is = brackets_are text;
  part = record { line = record { utf8 = is.utf8; line = is.line; last = last }; some = some_text text parts };
  first = first;
  len = len;
  side_is = refl;
  name_is = refl;
  parts = parts;
}

-- An account that reads, of a text on one line without white space at its ends that is an account whole.
pub account_gives : (context : Context) (line : ℕ) (text : List ℕ) → ((n : List ℕ) → account_named context n ≡ n) → IsText text → first_is is_white text ≡ false → suffix_len is_white text ≡ 0
    → account_len text ≡ length text → Gives (λ (a : Side × List ℕ). IsReadAccount a.0 a.1 × (in_brackets a.0 a.1 ≡ text)) (account_at context line text)
account_gives context line text same is first last len =
    bind_gives (IsNameOf text) (IsAccountOf text)
    (let r : Result (List ℕ) Fault = cond (has_parts (name_of text) && has_parts (account_named context (name_of text))) (Ok (account_named context (name_of text))) (Err (fault_at line cause.Account)) in r)
    (λ (m : List ℕ). Ok (side_of text, m))
    (when_gives (IsNameOf text) (has_parts (name_of text) && has_parts (account_named context (name_of text))) (Ok (account_named context (name_of text))) (fault_at line cause.Account)
    (λ t. ok_gives (IsNameOf text) (account_named context (name_of text)) (same (name_of text), (both_true (has_parts (name_of text)) (has_parts (account_named context (name_of text))) t).0)))
    (λ m q. ok_gives (IsAccountOf text) (side_of text, m) (subst (λ (n : List ℕ). IsAccountOf text (side_of text, n)) (sym q.0) (told text is first last len q.1, brackets_are text)))
