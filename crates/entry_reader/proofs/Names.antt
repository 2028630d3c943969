-- Where the account ends that a text begins with.
use Rattle.std.proofs.Common.{◌≡◌, ℕ, suc, ◌+◌, ◌-◌, ◌<◌, ◌≤◌, Bool, true, false, cond, ◌==◌, ◌&&◌, ◌||◌, List, [], ◌∷◌, length, leb, get_or, take, drop, refl, ap, ◌∙◌, arith}
use Rattle.std.specs.Str.{is_utf8}
use Rattle.std.proofs.lemmas.Bool.Decides.{nat_tests}
use Rattle.std.proofs.lemmas.List.{at_drop_more, at_drop_all, length-drop, get_or-drop}
use Rattle.hl_base.specs.Items.{is_white}
use Rattle.entry_reader.specs.Accounts.{ends_name, account_len, is_within}
use Rattle.entry_reader.specs.Lines.{first_is}
use Rattle.entry_reader.proofs.Both.{both_true}
use Rattle.std.proofs.lemmas.Bool.{eqb-true}
use Rattle.entry_reader.proofs.Texts.{cut_before, front_utf8, rest_utf8, past_utf8}

len_by : (t : Bool) (n m : ℕ) → n ≤ m → cond t 0 (n + 1) ≤ suc m
len_by true n m h = omega arith
len_by false n m h = omega arith

pub account_bound : (text : List ℕ) → account_len text ≤ length text
account_bound [] = omega arith
account_bound (b ∷ bs) = len_by (ends_name b bs) (account_len bs) (length bs) (account_bound bs)

ends_ascii : (b : ℕ) (bs : List ℕ) → ends_name b bs ≡ true → b < 128
ends_ascii b bs e = ends_by (b == 9) (is_white b) (first_is is_white bs) b refl refl e
  where
    ends_by : (t w n : Bool) (b : ℕ) → (b == 9) ≡ t → is_white b ≡ w → (t || (w && n)) ≡ true → b < 128
    ends_by true w n b e f g = grind (arith, nat_tests)
    ends_by false true n b e f g = grind (arith, nat_tests)
    ends_by false false n b e f g = absurd cc

stop_by : (t : Bool) (b : ℕ) (bs : List ℕ) → (t ≡ true → b < 128) → (account_len bs < length bs → get_or bs (account_len bs) 0 < 128)
    → cond t 0 (account_len bs + 1) < suc (length bs) → get_or (b ∷ bs) (cond t 0 (account_len bs + 1)) 0 < 128
stop_by true b bs low more lt = low refl
stop_by false b bs low more lt =
    let k : account_len bs + 1 ≡ suc (account_len bs) = omega arith in
    rw k (more (omega arith))

-- the byte before which an account ends is ASCII
account_stop : (text : List ℕ) → account_len text < length text → get_or text (account_len text) 0 < 128
account_stop [] lt = absurd (omega arith)
account_stop (b ∷ bs) lt = stop_by (ends_name b bs) b bs (ends_ascii b bs) (account_stop bs) lt

pub name_utf8 : (text : List ℕ) → is_utf8 text ≡ true → is_utf8 (take (account_len text) text) ≡ true
name_utf8 text e = front_utf8 text (account_len text) (cut_before text (account_len text) (account_bound text) (account_stop text)) e

pub after_name_utf8 : (text : List ℕ) → is_utf8 text ≡ true → is_utf8 (drop (account_len text) text) ≡ true
after_name_utf8 text e = rest_utf8 text (account_len text) (cut_before text (account_len text) (account_bound text) (account_stop text)) e

-- one byte on, in a walk over the text
pub name_ends : (text : List ℕ) (i : ℕ) → i < length text → ends_name (get_or text i 0) (drop (i + 1) text) ≡ true → i + account_len (drop i text) ≡ account_len text → i ≡ account_len text
name_ends text i lt t so_far =
    let e : account_len (drop i text) ≡ 0 = at_drop_more account_len text i 0 lt ∙ rw t refl in
    omega (arith, e, so_far)

pub name_goes_on : (text : List ℕ) (i : ℕ) → i < length text → ends_name (get_or text i 0) (drop (i + 1) text) ≡ false → i + account_len (drop i text) ≡ account_len text
    → i + 1 + account_len (drop (i + 1) text) ≡ account_len text
name_goes_on text i lt t so_far =
    let e : account_len (drop i text) ≡ account_len (drop (i + 1) text) + 1 = at_drop_more account_len text i 0 lt ∙ rw t refl in
    omega (arith, e, so_far)

pub name_is_all : (text : List ℕ) (i : ℕ) → length text ≤ i → i + account_len (drop i text) ≡ account_len text → i ≡ account_len text
name_is_all text i le so_far =
    let e : account_len (drop i text) ≡ 0 = at_drop_all account_len text i le in
    omega (arith, e, so_far)

-- what stands between two ASCII bytes
pub within_utf8 : (text : List ℕ) → 2 ≤ length text → get_or text 0 0 < 128 → get_or text (length text - 1) 0 < 128 → is_utf8 text ≡ true → is_utf8 (take (length text - 2) (drop 1 text)) ≡ true
within_utf8 text two first last e =
    let inside : is_utf8 (drop (0 + 1) text) ≡ true = past_utf8 text 0 (λ _. first) e in
    let len = length-drop 1 text in
    let at : 1 + (length text - 2) ≡ length text - 1 = omega arith in
    let read : get_or (drop 1 text) (length text - 2) 0 ≡ get_or text (length text - 1) 0 = get_or-drop 1 text (length text - 2) 0 ∙ ap (λ (k : ℕ). get_or text k 0) at in
    front_utf8 (drop 1 text) (length text - 2) (cut_before (drop 1 text) (length text - 2) (omega (arith, len)) (λ _. rw read last)) inside

within_parts : (a b c : Bool) → (a && b && c) ≡ true → (a ≡ true) × (b ≡ true) × (c ≡ true)
within_parts a b c e =
    let g = both_true (a && b) c e in
    let h = both_true a b g.0 in
    (h.0, h.1, g.1)

pub within_long : (text : List ℕ) (first last : ℕ) → is_within first last text ≡ true → 2 ≤ length text
within_long text first last e =
    let g = within_parts (leb 2 (length text)) (get_or text 0 0 == first) (get_or text (length text - 1) 0 == last) e in
    grind (arith, nat_tests, g.0)

pub inside_utf8 : (text : List ℕ) (first last : ℕ) → is_within first last text ≡ true → first < 128 → last < 128 → is_utf8 text ≡ true → is_utf8 (take (length text - 2) (drop 1 text)) ≡ true
inside_utf8 text first last e low high u =
    let g = within_parts (leb 2 (length text)) (get_or text 0 0 == first) (get_or text (length text - 1) 0 == last) e in
    within_utf8 text (within_long text first last e) (omega (arith, eqb-true _ _ g.1)) (omega (arith, eqb-true _ _ g.2)) u

-- no account ends before a byte above the blank
pub goes_on : (b : ℕ) (bs : List ℕ) → 32 < b → false ≡ ends_name b bs
goes_on b bs high = by (b == 9) (is_white b) (first_is is_white bs) b refl refl high
  where
    by : (t w n : Bool) (b : ℕ) → (b == 9) ≡ t → is_white b ≡ w → 32 < b → false ≡ (t || (w && n))
    by true w n b e f high = absurd (grind (arith, nat_tests))
    by false true n b e f high = absurd (grind (arith, nat_tests))
    by false false n b e f high = refl
