-- Parts of a text in UTF-8 on one line.
use Rattle.std.proofs.Common.{ℕ, zero, suc, ◌≡◌, ◌+◌, ◌-◌, ◌<◌, ◌≤◌, Bool, true, false, cond, ◌==◌, not, List, [], ◌∷◌, length, take, drop, Result, Ok, Err, refl, sym, ap, subst, ◌∙◌, arith, lit<, length-drop}
use Rattle.std.specs.List.{list_all, prefix_len, suffix_len, take_while, AllByRecursion}
use Rattle.std.specs.Str.{is_utf8}
use Rattle.std.proofs.lemmas.Bool.{eqb-true, false≢true}
use Rattle.hl_base.specs.Items.{is_white}
use Rattle.book.specs.declared.fault.Fault.{Fault}
use Rattle.entry_reader.proofs.Both.{both_true}
use Rattle.entry_reader.proofs.Lines.{contents_cut}
use Rattle.entry_reader.proofs.Names.{name_utf8, after_name_utf8}
use Rattle.entry_reader.proofs.Texts as cuts
use Rattle.entry_reader.specs.Accounts.{account_len}
use Rattle.entry_reader.specs.Causes.{◌>>=◌}
use Rattle.entry_reader.specs.Lines.{after_byte, after_white, before_byte, before_white, begins, contents_of, first_is, trimmed}
use Rattle.written_logs.proofs.Bytes.{before_white_utf8, is_inside}

-- ---- what an answer may hold

abbrev pub Gives : {A : Type 0} → (A → Type 0) → Result A Fault → Type 0
Gives {A} P r = (x : A) → r ≡ Ok x → P x

pub ok_gives : {A : Type 0} (P : A → Type 0) (a : A) → P a → Gives P (Ok a)
ok_gives P a h x e = subst P (let same : a ≡ x = cc in same) h

pub err_gives : {A : Type 0} (P : A → Type 0) (fault : Fault) → Gives P (Err fault)
err_gives P fault x e = absurd (let never : ⊥ = cc in never)

pub choice_gives : {A : Type 0} (P : A → Type 0) (t : Bool) (r s : Result A Fault) → (t ≡ true → Gives P r) → (t ≡ false → Gives P s) → Gives P (cond t r s)
choice_gives P true r s h k = h refl
choice_gives P false r s h k = k refl

pub unless_gives : {A : Type 0} (P : A → Type 0) (t : Bool) (fault : Fault) (s : Result A Fault) → (t ≡ false → Gives P s) → Gives P (cond t (Err fault) s)
unless_gives P t fault s k = choice_gives P t (Err fault) s (λ _. err_gives P fault) k

pub when_gives : {A : Type 0} (P : A → Type 0) (t : Bool) (r : Result A Fault) (fault : Fault) → (t ≡ true → Gives P r) → Gives P (cond t r (Err fault))
when_gives P t r fault k = choice_gives P t r (Err fault) k (λ _. err_gives P fault)

pub bind_gives : {A B : Type 0} (Q : A → Type 0) (P : B → Type 0) (r : Result A Fault) (f : A → Result B Fault) → Gives Q r → ((a : A) → Q a → Gives P (f a)) → Gives P (r >>= f)
bind_gives Q P (Ok a) f h k = k a (h a refl)
bind_gives Q P (Err fault) f h k = err_gives P fault

-- nothing is known of what is read
pub any_gives : {A : Type 0} (r : Result A Fault) → Gives (λ _. Unit {0}) r
any_gives r x e = tt

-- ---- parts

-- A text in UTF-8, on one line.
pub record IsText (t : List ℕ) : Type 0 where
  pub utf8 : is_utf8 t ≡ true
  pub line : list_all is_inside t ≡ true

pub all_take : (p : ℕ → Bool) (n : ℕ) (xs : List ℕ) → list_all p xs ≡ true → list_all p (take n xs) ≡ true
all_take p zero xs h = refl
all_take p (suc n) [] h = refl
all_take p (suc n) (x ∷ xs) h =
    let all = both_true (p x) (list_all p xs) h in
    let here = all.0 in
    let more = all_take p n xs all.1 in
    rw (here, more) refl

pub all_drop : (p : ℕ → Bool) (n : ℕ) (xs : List ℕ) → list_all p xs ≡ true → list_all p (drop n xs) ≡ true
all_drop p zero xs h = h
all_drop p (suc n) [] h = refl
all_drop p (suc n) (x ∷ xs) h = all_drop p n xs (both_true (p x) (list_all p xs) h).1

passes_by : (p : ℕ → Bool) (x : ℕ) (xs : List ℕ) (t : Bool) → p x ≡ t → list_all p (take_while p xs) ≡ true → list_all p (take (cond (p x) (1 + prefix_len p xs) 0) (x ∷ xs)) ≡ true
passes_by p x xs true e more =
    let next : 1 + prefix_len p xs ≡ suc (prefix_len p xs) = omega arith in
    ap (λ (u : Bool). list_all p (take (cond u (1 + prefix_len p xs) 0) (x ∷ xs))) e
    ∙ ap (λ (k : ℕ). list_all p (take k (x ∷ xs))) next
    ∙ rw (e, more) refl
passes_by p x xs false e more = ap (λ (u : Bool). list_all p (take (cond u (1 + prefix_len p xs) 0) (x ∷ xs))) e

-- the front of those that pass passes
pub front_passes : (p : ℕ → Bool) (xs : List ℕ) → list_all p (take_while p xs) ≡ true
front_passes p [] = refl
front_passes p (x ∷ xs) = passes_by p x xs (p x) refl (front_passes p xs)

pub front_text : (n : ℕ) (t : List ℕ) → IsText t → is_utf8 (take n t) ≡ true → IsText (take n t)
front_text n t is utf8 = record { utf8 = utf8; line = all_take is_inside n t is.line }

pub rest_text : (n : ℕ) (t : List ℕ) → IsText t → is_utf8 (drop n t) ≡ true → IsText (drop n t)
rest_text n t is utf8 = record { utf8 = utf8; line = all_drop is_inside n t is.line }

pub empty_text : IsText []
empty_text = record { utf8 = cuts.empty_utf8; line = refl }

-- behind an ASCII byte that it begins with
pub past_text : (p : ℕ → Bool) (t : List ℕ) → ((b : ℕ) → p b ≡ true → b < 128) → first_is p t ≡ true → IsText t → IsText (drop 1 t)
past_text p [] low h is = absurd (false≢true h)
past_text p (b ∷ bs) low h is = rest_text 1 (b ∷ bs) is (cuts.past_utf8 (b ∷ bs) 0 (λ _. low b h) is.utf8)

pub past_byte : (byte : ℕ) (t : List ℕ) → byte < 128 → begins t byte ≡ true → IsText t → IsText (drop 1 t)
past_byte byte t low h is = past_text (λ b. b == byte) t (λ b e. low_of b e) h is
  where
    low_of : (b : ℕ) → (b == byte) ≡ true → b < 128
    low_of b e = omega (arith, eqb-true b byte e)

pub before_text : (byte : ℕ) (t : List ℕ) → byte < 128 → IsText t → IsText (before_byte byte t)
before_text byte t low is = front_text (prefix_len (λ b. not (b == byte)) t) t is (cuts.before_byte t byte low is.utf8)

pub after_text : (byte : ℕ) (t : List ℕ) → byte < 128 → IsText t → IsText (after_byte byte t)
after_text byte t low is = rest_text (prefix_len (λ b. not (b == byte)) t + 1) t is (cuts.after_byte t byte low is.utf8)

pub unspaced_text : (t : List ℕ) → IsText t → IsText (after_white t)
unspaced_text t is = rest_text (prefix_len is_white t) t is (cuts.after_white_utf8 t is.utf8)

pub solid_text : (t : List ℕ) → IsText t → IsText (before_white t)
solid_text t is = front_text (length t - suffix_len is_white t) t is (before_white_utf8 t is.utf8)

pub trimmed_text : (t : List ℕ) → IsText t → IsText (trimmed t)
trimmed_text t is = solid_text (after_white t) (unspaced_text t is)

pub name_text : (t : List ℕ) → IsText t → IsText (take (account_len t) t)
name_text t is = front_text (account_len t) t is (name_utf8 t is.utf8)

pub after_name_text : (t : List ℕ) → IsText t → IsText (drop (account_len t) t)
after_name_text t is = rest_text (account_len t) t is (after_name_utf8 t is.utf8)

-- ---- the lines of a piece

abbrev pub AreTexts : List (List ℕ) → Type 0
AreTexts ts = AllByRecursion IsText ts

contents_within : (n : ℕ) (text : List ℕ) → length text ≤ n → is_utf8 text ≡ true → AreTexts (contents_of text)
contents_within n [] most utf8 = tt
contents_within zero (b ∷ bs) most utf8 = absurd (omega arith)
contents_within (suc n) (b ∷ bs) most utf8 =
    let text : List ℕ = b ∷ bs in
    let k = prefix_len is_inside text in
    let front : IsText (before_byte 10 text) = record { utf8 = cuts.before_byte text 10 (lit< tt) utf8; line = front_passes is_inside text } in
    let short : length (after_byte 10 text) ≤ n = omega (arith, length-drop (k + 1) text) in
    subst AreTexts (sym (contents_cut text (omega arith)))
    (solid_text (before_byte 10 text) front, contents_within n (after_byte 10 text) short (cuts.after_byte text 10 (lit< tt) utf8))

-- what the lines of a text in UTF-8 say
pub contents_texts : (text : List ℕ) → is_utf8 text ≡ true → AreTexts (contents_of text)
contents_texts text utf8 = contents_within (length text) text (omega arith) utf8
