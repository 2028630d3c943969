-- Parts of what the lines of a log say, in UTF-8 and on one line.
use Rattle.std.proofs.Common.{◌≡◌, ℕ, zero, suc, ◌+◌, ◌-◌, ◌^◌, ◌<◌, ◌≤◌, Bool, true, false, cond, ◌==◌, ◌&&◌, ◌||◌, not, List, [], ◌∷◌, length, take, drop, Option, Some, None, Result, Ok, Err, refl, ap, subst, ◌∙◌, arith}
use Rattle.std.specs.List.{prefix_len, suffix_len, take_while, list_all}
use Rattle.std.specs.Str.{is_utf8}
use Rattle.std.proofs.lemmas.Bool.{eqb-true}
use Rattle.std.proofs.lemmas.List.{length-take, length-drop}
use Rattle.hl_base.specs.Items.{is_white}
use Rattle.entry_reader.specs.Accounts.{ends_name, account_len, is_account_text}
use Rattle.entry_reader.specs.Lines.{first_is, before_byte, after_byte, after_white, before_white, has_byte}
use Rattle.entry_reader.proofs.Both.{both_true}
use Rattle.entry_reader.proofs.Names.{name_utf8, after_name_utf8}
use Rattle.entry_reader.proofs.Texts as cuts
use Rattle.time_logs.specs.Said.{said, account_front, after_account}
use Rattle.written_logs.specs.Plain.{lacks}
use Rattle.written_logs.proofs.Bytes.{is_inside, before_white_utf8}
use Rattle.written_logs.proofs.Lines.{all_cons}

-- ---- what an option and a result may hold

abbrev pub Holds : {A : Type 0} → (A → Type 0) → Option A → Type 0
Holds {A} P o = (x : A) → o ≡ Some x → P x

pub some_holds : {A : Type 0} (P : A → Type 0) (a : A) → P a → Holds P (Some a)
some_holds P a h x e = subst P (let same : a ≡ x = cc in same) h

pub none_holds : {A : Type 0} (P : A → Type 0) → Holds P None
none_holds P x e = absurd (let never : ⊥ = cc in never)

pub either_holds : {A : Type 0} (P : A → Type 0) (t : Bool) (r s : Option A) → (t ≡ true → Holds P r) → (t ≡ false → Holds P s) → Holds P (cond t r s)
either_holds P true r s h k = h refl
either_holds P false r s h k = k refl

abbrev pub Gives : {A E : Type 0} → (A → Type 0) → Result A E → Type 0
Gives {A} P r = (x : A) → r ≡ Ok x → P x

pub ok_gives : {A E : Type 0} (P : A → Type 0) (a : A) → P a → Gives {E = E} P (Ok a)
ok_gives P a h x e = subst P (let same : a ≡ x = cc in same) h

pub err_gives : {A E : Type 0} (P : A → Type 0) (fault : E) → Gives P (Err fault)
err_gives P fault x e = absurd (let never : ⊥ = cc in never)

pub choice_gives : {A E : Type 0} (P : A → Type 0) (t : Bool) (r s : Result A E) → (t ≡ true → Gives P r) → (t ≡ false → Gives P s) → Gives P (cond t r s)
choice_gives P true r s h k = h refl
choice_gives P false r s h k = k refl

pub unless_gives : {A E : Type 0} (P : A → Type 0) (t : Bool) (fault : E) (s : Result A E) → Gives P s → Gives P (cond t (Err fault) s)
unless_gives P t fault s k = choice_gives P t (Err fault) s (λ _. err_gives P fault) (λ _. k)

-- ---- parts of texts

pub all_take : (p : ℕ → Bool) (n : ℕ) (xs : List ℕ) → list_all p xs ≡ true → list_all p (take n xs) ≡ true
all_take p zero xs h = refl
all_take p (suc n) [] h = refl
all_take p (suc n) (x ∷ xs) h =
    let all = both_true (p x) (list_all p xs) h in
    all_cons p x (take n xs) all.0 (all_take p n xs all.1)

pub all_drop : (p : ℕ → Bool) (n : ℕ) (xs : List ℕ) → list_all p xs ≡ true → list_all p (drop n xs) ≡ true
all_drop p zero xs h = h
all_drop p (suc n) [] h = refl
all_drop p (suc n) (x ∷ xs) h = all_drop p n xs (both_true (p x) (list_all p xs) h).1

passes_by : (p : ℕ → Bool) (x : ℕ) (xs : List ℕ) (t : Bool) → p x ≡ t → list_all p (take_while p xs) ≡ true → list_all p (take (cond (p x) (1 + prefix_len p xs) 0) (x ∷ xs)) ≡ true
passes_by p x xs true e more =
    let next : 1 + prefix_len p xs ≡ suc (prefix_len p xs) = omega arith in
    ap (λ (u : Bool). list_all p (take (cond u (1 + prefix_len p xs) 0) (x ∷ xs))) e
    ∙ ap (λ (k : ℕ). list_all p (take k (x ∷ xs))) next
    ∙ all_cons p x (take_while p xs) e more
passes_by p x xs false e more = ap (λ (u : Bool). list_all p (take (cond u (1 + prefix_len p xs) 0) (x ∷ xs))) e

-- the front of those that pass passes
pub front_passes : (p : ℕ → Bool) (xs : List ℕ) → list_all p (take_while p xs) ≡ true
front_passes p [] = refl
front_passes p (x ∷ xs) = passes_by p x xs (p x) refl (front_passes p xs)

-- the most bytes that a log has
abbrev pub most_bytes : ℕ
most_bytes = 2 ^ 24

-- A part of what a line says: in UTF-8, on one line, without a `;`, and not too long.
pub record IsPart (t : List ℕ) : Type 0 where
  pub utf8 : is_utf8 t ≡ true
  pub line : lacks 10 t ≡ true
  pub remark : lacks 59 t ≡ true
  pub short : length t ≤ most_bytes

least_of : (n m k : ℕ) → n ≤ k → m ≤ n → m ≤ k
least_of n m k h e = omega arith

pub take_short : (n : ℕ) (xs : List ℕ) (k : ℕ) → length xs ≤ k → length (take n xs) ≤ k
take_short n xs k h = omega (arith, length-take n xs)

drop_short : (n : ℕ) (xs : List ℕ) (k : ℕ) → length xs ≤ k → length (drop n xs) ≤ k
drop_short n xs k h = omega (arith, length-drop n xs)

pub front_part : (n : ℕ) (t : List ℕ) → IsPart t → is_utf8 (take n t) ≡ true → IsPart (take n t)
front_part n t is utf8 = record {
  utf8 = utf8;
  line = all_take is_inside n t is.line;
  remark = all_take (λ b. not (b == 59)) n t is.remark;
  short = take_short n t most_bytes is.short;
}

pub rest_part : (n : ℕ) (t : List ℕ) → IsPart t → is_utf8 (drop n t) ≡ true → IsPart (drop n t)
rest_part n t is utf8 = record {
  utf8 = utf8;
  line = all_drop is_inside n t is.line;
  remark = all_drop (λ b. not (b == 59)) n t is.remark;
  short = drop_short n t most_bytes is.short;
}

pub before_part : (byte : ℕ) (t : List ℕ) → byte < 128 → IsPart t → IsPart (before_byte byte t)
before_part byte t low is = front_part (prefix_len (λ b. not (b == byte)) t) t is (cuts.before_byte t byte low is.utf8)

pub after_part : (byte : ℕ) (t : List ℕ) → byte < 128 → IsPart t → IsPart (after_byte byte t)
after_part byte t low is = rest_part (prefix_len (λ b. not (b == byte)) t + 1) t is (cuts.after_byte t byte low is.utf8)

pub unspaced_part : (t : List ℕ) → IsPart t → IsPart (after_white t)
unspaced_part t is = rest_part (prefix_len is_white t) t is (cuts.after_white_utf8 t is.utf8)

pub solid_part : (t : List ℕ) → IsPart t → IsPart (before_white t)
solid_part t is = front_part (length t - suffix_len is_white t) t is (before_white_utf8 t is.utf8)

pub name_part : (t : List ℕ) → IsPart t → IsPart (account_front t)
name_part t is = front_part (account_len t) t is (name_utf8 t is.utf8)

pub after_name_part : (t : List ℕ) → IsPart t → IsPart (after_account t)
after_name_part t is = rest_part (account_len t) t is (after_name_utf8 t is.utf8)

-- a content of a log: on one line, and not too long
pub record IsContent (c : List ℕ) : Type 0 where
  pub line : lacks 10 c ≡ true
  pub short : length c ≤ most_bytes

-- what a line in UTF-8 says
pub said_part : (c : List ℕ) → IsContent c → is_utf8 c ≡ true → IsPart (said c)
said_part c is utf8 =
    let n = prefix_len (λ b. not (b == 59)) c in
    let front = take n c in
    let m = length front - suffix_len is_white front in
    record {
      utf8 = before_white_utf8 front (cuts.before_byte c 59 (omega arith) utf8);
      line = all_take is_inside m front (all_take is_inside n c is.line);
      remark = all_take (λ b. not (b == 59)) m front (front_passes (λ b. not (b == 59)) c);
      short = take_short m front most_bytes (take_short n c most_bytes is.short);
    }

-- ---- accounts

ends_front : (b n : ℕ) (bs : List ℕ) → ends_name b bs ≡ false → ends_name b (take n bs) ≡ false
ends_front b zero bs h = by (b == 9) (is_white b) (first_is is_white bs) h
  where
    by : (t w f : Bool) → (t || (w && f)) ≡ false → (t || (w && false)) ≡ false
    by true w f h = h
    by false true f h = refl
    by false false f h = refl
ends_front b (suc n) [] h = h
ends_front b (suc n) (c ∷ cs) h = h

len_step : (t : Bool) (n l : ℕ) → cond t 0 (n + 1) ≡ suc l → (t ≡ false) × (n ≡ l)
len_step true n l e = absurd (omega arith)
len_step false n l e = (refl, omega arith)

-- the front of an account that goes on to its end goes on to its own
pub len_front : (n : ℕ) (xs : List ℕ) → account_len xs ≡ length xs → account_len (take n xs) ≡ length (take n xs)
len_front zero xs h = refl
len_front (suc n) [] h = h
len_front (suc n) (b ∷ bs) h =
    let step = len_step (ends_name b bs) (account_len bs) (length bs) h in
    let more = len_front n bs step.1 in
    ap (λ (t : Bool). cond t 0 (account_len (take n bs) + 1)) (ends_front b n bs step.0) ∙ counted (account_len (take n bs)) (length (take n bs)) more
  where
    counted : (x y : ℕ) → x ≡ y → x + 1 ≡ suc y
    counted x y e = omega arith

first_three : (a b c d : Bool) → (a && b && c && d) ≡ true → a ≡ true
first_three a b c d e = (both_true a b (both_true (a && b) c (both_true (a && b && c) d e).0).0).0

pub whole_account : (text : List ℕ) → is_account_text text ≡ true → account_len text ≡ length text
whole_account text h =
    eqb-true (account_len text) (length text)
    (first_three (account_len text == length text) (not (first_is is_white text)) (not (has_byte 10 text)) (not (first_is is_white (drop (length text - 1) text))) h)
