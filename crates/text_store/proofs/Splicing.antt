-- How a splice and an import's state are read.
use Rattle.std.proofs.Common.{◌≡◌, ◌∙◌, ℕ, ◌+◌, ◌≤◌, ◌<◌, ◌^◌, ◌&&◌, ◌++◌, nat_le, nat_lt, Bool, true, false, MatchBool, Result, Ok, Err, IfOk, if◌then◌else◌, List, length, take, drop, Option, Some, None, refl, sym, ap, subst, arith, length-drop}
use Rattle.std.specs.Int.{w32, from_le_bytes}
use Rattle.std.specs.Str.{is_utf8, IsUtf8}
use Rattle.std.proofs.lemmas.Str.{IsUtf8-from_is_utf8}
use Rattle.std.proofs.lemmas.Bool.Decides.{nat_tests}
use Rattle.std.proofs.lemmas.List.{drop-drop}
use Rattle.hl_base.specs.declared.fault.Memory.{Memory}
use Rattle.hl_base.specs.declared.change.Latest.{Latest}
use Rattle.text_store.specs.Image.{number_4, number_8, spliced, mark_at, with_mark, imported, with_text, Content}

le_true : (a b : ℕ) → a ≤ b → nat_le a b ≡ true
le_true a b le = grind (arith, nat_tests)

splices : (text payload : List ℕ) (at removed : ℕ) → number_8 payload ≡ at → number_8 (drop 8 payload) ≡ removed → 16 ≤ length payload → at + removed ≤ length text
    → (new : List ℕ) → new ≡ take at text ++ drop 16 payload ++ drop (at + removed) text → spliced text payload ≡ Some new
splices text payload at removed is_at is_removed long inside new is =
    (λ i. found (le_true 16 (length payload) long i) (is_at i) (is_removed i)) ∙ ap (λ (b : Bool). if b then Some (take at text ++ drop 16 payload ++ drop (at + removed) text) else None) (le_true (at + removed) (length text) inside)
    ∙ ap (λ (l : List ℕ). Some l) (sym is)
  where
    found : Bool → ℕ → ℕ → Option (List ℕ)
    found long at removed = if long && nat_le (at + removed) (length text) then Some (take at text ++ drop 16 payload ++ drop (at + removed) text) else None

no_splice : (text payload : List ℕ) (at removed : ℕ) → number_8 payload ≡ at → number_8 (drop 8 payload) ≡ removed → length text < at + removed → spliced text payload ≡ None
no_splice text payload at removed is_at is_removed outside =
    (λ i. found (is_at i) (is_removed i)) ∙ ap (λ (b : Bool). if nat_le 16 (length payload) && b then Some (take at text ++ drop 16 payload ++ drop (at + removed) text) else None) (not_le (at + removed) (length text) outside)
    ∙ neither (nat_le 16 (length payload)) (take at text ++ drop 16 payload ++ drop (at + removed) text)
  where
    found : ℕ → ℕ → Option (List ℕ)
    found at removed = if nat_le 16 (length payload) && nat_le (at + removed) (length text) then Some (take at text ++ drop 16 payload ++ drop (at + removed) text) else None

    not_le : (a b : ℕ) → b < a → nat_le a b ≡ false
    not_le a b less = grind (arith, nat_tests)

    neither : (b : Bool) (l : List ℕ) → (if b && false then Some l else None) ≡ None
    neither true l = refl
    neither false l = refl

-- a splice of a text that can be replaced in part
pub splice_ends : (text payload inserted : List ℕ) (at removed : ℕ) → number_8 payload ≡ at → number_8 (drop 8 payload) ≡ removed → 16 ≤ length payload → inserted ≡ drop 16 payload
    → (new : List ℕ) (r : Result Bool Memory)
    → IfOk r (λ good. MatchBool good ((at + removed ≤ length text) × (new ≡ take at text ++ inserted ++ drop (at + removed) text)) (length text < at + removed))
    → IfOk r (λ good. MatchBool good (spliced text payload ≡ Some new) (spliced text payload ≡ None))
splice_ends text payload inserted at removed is_at is_removed long same new (Err e) is = tt
splice_ends text payload inserted at removed is_at is_removed long same new (Ok true) is =
    splices text payload at removed is_at is_removed long is.0 new (is.1 ∙ ap (λ (l : List ℕ). take at text ++ l ++ drop (at + removed) text) same)
splice_ends text payload inserted at removed is_at is_removed long same new (Ok false) is = no_splice text payload at removed is_at is_removed is

-- the state whose bytes stand at a place
module _ (file : List ℕ) (at size : ℕ) (inside : at + 12 + size ≤ length file) (is_size : size ≡ from_le_bytes w32 (take 4 (drop at file))) where
  abbrev bytes : List ℕ
  bytes = drop at file

  whole : nat_le (12 + number_4 bytes) (length bytes) ≡ true
  whole = le_true (12 + number_4 bytes) (length bytes) (omega (arith, inside, is_size, length-drop at file))

  pub not_text : is_utf8 (take size (drop (at + 4) file)) ≡ false → mark_at (drop at file) ≡ None
  not_text bad =
      (λ i. found (whole i) (text i))
    where
      found : Bool → Bool → Option (Latest × List ℕ)
      found whole text =
          if whole && text
          then Some (record { name = take (number_4 bytes) (drop 4 bytes); day = number_4 (drop (4 + number_4 bytes) bytes); count = number_4 (drop (8 + number_4 bytes) bytes) }, drop (12 + number_4 bytes) bytes)
          else None

      text : is_utf8 (take (number_4 bytes) (drop 4 bytes)) ≡ false
      text = (λ i. is_utf8 (take (sym is_size i) (drop-drop 4 at file i))) ∙ bad

  pub state_is : (name : List ℕ) (day count : ℕ) → name ≡ take size (drop (at + 4) file) → is_utf8 name ≡ true → day ≡ from_le_bytes w32 (take 4 (drop (at + 4 + size) file))
      → count ≡ from_le_bytes w32 (take 4 (drop (at + 4 + size + 4) file)) → mark_at (drop at file) ≡ Some (record { name = name; day = day; count = count }, drop (at + 4 + size + 8) file)
  state_is name day count is_name good is_day is_count =
      let past : (n : ℕ) → drop (n + number_4 bytes) bytes ≡ drop (at + n + size) file = λ n.
      drop-drop (n + number_4 bytes) at file ∙ ap (λ (m : ℕ). drop m file) (let e : at + (n + number_4 bytes) ≡ at + n + size = omega (arith, is_size) in e) in
      let named : take (number_4 bytes) (drop 4 bytes) ≡ name = (λ i. take (sym is_size i) (drop-drop 4 at file i)) ∙ sym is_name in
      let text : is_utf8 (take (number_4 bytes) (drop 4 bytes)) ≡ true = ap is_utf8 named ∙ good in
      let days : number_4 (drop (4 + number_4 bytes) bytes) ≡ day = ap number_4 (past 4) ∙ sym is_day in
      let counts : number_4 (drop (8 + number_4 bytes) bytes) ≡ count =
      ap number_4 (past 8 ∙ ap (λ (m : ℕ). drop m file) (let e : at + 8 + size ≡ at + 4 + size + 4 = omega arith in e)) ∙ sym is_count in
      let end : drop (12 + number_4 bytes) bytes ≡ drop (at + 4 + size + 8) file = past 12 ∙ ap (λ (m : ℕ). drop m file) (let e : at + 12 + size ≡ at + 4 + size + 8 = omega arith in e) in
      λ i. found (whole i) (text i) (named i) (days i) (counts i) (end i)
    where
      found : Bool → Bool → List ℕ → ℕ → ℕ → List ℕ → Option (Latest × List ℕ)
      found whole text name day count end = if whole && text then Some (record { name = name; day = day; count = count }, end) else None

pub not_utf8 : (bytes : List ℕ) → (IsUtf8 bytes → ⊥) → is_utf8 bytes ≡ false
not_utf8 bytes bad = by_test (is_utf8 bytes) refl
  where
    by_test : (b : Bool) → is_utf8 bytes ≡ b → b ≡ false
    by_test true is = absurd (bad (IsUtf8-from_is_utf8 bytes is))
    by_test false is = refl

-- an import's state and its splice
pub imports : (content : Content) (payload : List ℕ) (state : Latest) (rest part : List ℕ) (latest : List Latest) (text : List ℕ) (r : Result Bool Memory) → mark_at payload ≡ Some (state, rest)
    → part ≡ rest → latest ≡ with_mark state content.latest → length latest < 2 ^ 32
    → IfOk r (λ good. MatchBool good (spliced content.text part ≡ Some text) (spliced content.text part ≡ None))
    → IfOk r (λ good. MatchBool good (imported content (mark_at payload) ≡ Some (record { text = text; latest = latest })) (imported content (mark_at payload) ≡ None))
imports content payload state rest part latest text (Err e) reads same with_it few spliced_as = tt
imports content payload state rest part latest text (Ok good) reads same with_it few spliced_as = by_good good spliced_as
  where
    few_states : nat_lt (length (with_mark state content.latest)) (2 ^ 32) ≡ true
    few_states = below (length (with_mark state content.latest)) (subst (λ (l : List Latest). length l < 2 ^ 32) with_it few)
      where
        below : (n : ℕ) → n < 2 ^ 32 → nat_lt n (2 ^ 32) ≡ true
        below n less = grind (arith, nat_tests)

    taken : imported content (mark_at payload) ≡ with_text latest (spliced content.text part)
    taken =
        ap (imported content) reads ∙ ap (λ (b : Bool). if b then with_text (with_mark state content.latest) (spliced content.text rest) else None) few_states
        ∙ (λ i. with_text (sym with_it i) (spliced content.text (sym same i)))

    by_good : (good : Bool) → MatchBool good (spliced content.text part ≡ Some text) (spliced content.text part ≡ None)
        → MatchBool good (imported content (mark_at payload) ≡ Some (record { text = text; latest = latest })) (imported content (mark_at payload) ≡ None)
    by_good true is = taken ∙ ap (with_text latest) is
    by_good false is = taken ∙ ap (with_text latest) is
