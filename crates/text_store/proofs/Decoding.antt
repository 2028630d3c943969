-- What is written of a change or an image reads as it.
use Rattle.std.proofs.Common.{◌≡◌, ℕ, ◌+◌, ◌^◌, ◌<◌, ◌≤◌, Bool, true, List, ◌++◌, length, take, drop, if◌then◌else◌, ◌&&◌, nat_le, nat_lt, Option, Some, None, refl, sym, ◌∙◌, ap, arith, append_assoc, length-append}
use Rattle.std.specs.Int.{w32, w64, to_le_bytes, from_le_bytes}
use Rattle.std.specs.Str.{is_utf8}
use Rattle.std.proofs.lemmas.Bool.Decides.{nat_tests}
use Rattle.std.proofs.lemmas.List.{take_at, drop_at, drop-drop}
use Rattle.std.proofs.lemmas.Nat.{from_le_bytes-to_le_bytes_4, from_le_bytes-to_le_bytes_8}
use Rattle.hl_base.specs.declared.change.Latest.{Latest}
use Rattle.hl_base.specs.declared.change.Splice.{Splice as Part}
use Rattle.text_store.specs.declared.change.Change.{Change}
use Rattle.text_store.specs.declared.change.Change.TheVariants.{Splice, Whole, Import}
use Rattle.text_store.specs.Changes.{splice_payload, mark_payload, kind_of, payload_of, HasShortName, IsPart, IsState, IsChange}
use Rattle.text_store.specs.Edits.{replaced, edited_content}
use Rattle.text_store.specs.Image.{Content, number_4, number_8, mark_at, spliced, imported, changed, with_mark, with_text}

le_true : (a b : ℕ) → a ≤ b → nat_le a b ≡ true
le_true a b le = grind (arith, nat_tests)

pub spliced_payload : (text : List ℕ) (part : Part) → IsPart part → spliced text (splice_payload part) ≡ replaced text part
spliced_payload text part is =
    let at : number_8 (splice_payload part) ≡ part.at = from_le_bytes-to_le_bytes_8 part.at is.0 in
    let removed : number_8 (drop 8 (splice_payload part)) ≡ part.removed = from_le_bytes-to_le_bytes_8 part.removed is.1 in
    let long : nat_le 16 (length (splice_payload part)) ≡ true = le_true 16 (length (splice_payload part)) (omega (arith, length-append (to_le_bytes w64 part.at ++ to_le_bytes w64 part.removed) part.inserted, sixteen)) in
    λ i. put (long i) (at i) (removed i)
  where
    put : Bool → ℕ → ℕ → Option (List ℕ)
    put b at removed = if b && nat_le (at + removed) (length text) then Some (take at text ++ part.inserted ++ drop (at + removed) text) else None

    sixteen : length (to_le_bytes w64 part.at ++ to_le_bytes w64 part.removed) ≡ 16
    sixteen = refl

-- the parts of a state's bytes
module _ (name days counts rest : List ℕ) (day_size : length days ≡ 4) (count_size : length counts ≡ 4) where
  grouped : ((name ++ days) ++ counts) ++ rest ≡ name ++ (days ++ (counts ++ rest))
  grouped = append_assoc (name ++ days) counts rest ∙ append_assoc name days (counts ++ rest)

  name_part : take (length name) (((name ++ days) ++ counts) ++ rest) ≡ name
  name_part = ap (λ (l : List ℕ). take (length name) l) grouped ∙ take_at name (days ++ (counts ++ rest)) (length name) refl

  past_name : (n : ℕ) → drop (length name + n) (((name ++ days) ++ counts) ++ rest) ≡ drop n (days ++ (counts ++ rest))
  past_name n =
      sym (drop-drop n (length name) (((name ++ days) ++ counts) ++ rest))
      ∙ ap (λ (l : List ℕ). drop n l) (ap (λ (l : List ℕ). drop (length name) l) grouped ∙ drop_at name (days ++ (counts ++ rest)) (length name) refl)

  day_part : take 4 (drop (length name) (((name ++ days) ++ counts) ++ rest)) ≡ days
  day_part =
      ap (λ (l : List ℕ). take 4 l) (ap (λ (l : List ℕ). drop (length name) l) grouped ∙ drop_at name (days ++ (counts ++ rest)) (length name) refl)
      ∙ take_at days (counts ++ rest) 4 day_size

  count_part : take 4 (drop (length name + 4) (((name ++ days) ++ counts) ++ rest)) ≡ counts
  count_part = ap (λ (l : List ℕ). take 4 l) (past_name 4 ∙ drop_at days (counts ++ rest) 4 day_size) ∙ take_at counts rest 4 count_size

  rest_part : drop (length name + 8) (((name ++ days) ++ counts) ++ rest) ≡ rest
  rest_part =
      past_name 8 ∙ sym (drop-drop 4 4 (days ++ (counts ++ rest)))
      ∙ ap (λ (l : List ℕ). drop 4 l) (drop_at days (counts ++ rest) 4 day_size) ∙ drop_at counts rest 4 count_size

  long : length (((name ++ days) ++ counts) ++ rest) ≡ length name + 8 + length rest
  long = omega (arith, length-append ((name ++ days) ++ counts) rest, length-append (name ++ days) counts, length-append name days, day_size, count_size)

pub mark_reads : (state : Latest) (rest : List ℕ) → length state.name < 2 ^ 32 → IsState state → mark_at (mark_payload state ++ rest) ≡ Some (state, rest)
mark_reads state rest short is =
    let days = to_le_bytes w32 state.day in
    let counts = to_le_bytes w32 state.count in
    let behind = ((state.name ++ days) ++ counts) ++ rest in
    let bytes = mark_payload state ++ rest in
    let size : number_4 bytes ≡ length state.name = from_le_bytes-to_le_bytes_4 (length state.name) short in
    let four : length bytes ≡ 4 + length behind = omega arith in
    let name : take (number_4 bytes) (drop 4 bytes) ≡ state.name = ap (λ (n : ℕ). take n behind) size ∙ name_part state.name days counts rest refl refl in
    let past : (k n : ℕ) → drop (4 + n + number_4 bytes) bytes ≡ drop (length state.name + n) behind = λ k n.
    ap (λ (m : ℕ). drop m bytes) (let e : 4 + n + number_4 bytes ≡ 4 + (length state.name + n) = omega (arith, size) in e) ∙ sym (drop-drop (length state.name + n) 4 bytes) in
    let whole : nat_le (12 + number_4 bytes) (length bytes) ≡ true = le_true (12 + number_4 bytes) (length bytes) (omega (arith, size, four, long state.name days counts rest refl refl)) in
    let text : is_utf8 (take (number_4 bytes) (drop 4 bytes)) ≡ true = ap is_utf8 name ∙ is.0 in
    let day : number_4 (drop (4 + number_4 bytes) bytes) ≡ state.day =
    ap number_4 (past 0 0 ∙ ap (λ (m : ℕ). drop m behind) (let e : length state.name + 0 ≡ length state.name = omega arith in e))
    ∙ ap (λ (l : List ℕ). from_le_bytes w32 l) (day_part state.name days counts rest refl refl) ∙ from_le_bytes-to_le_bytes_4 state.day is.1 in
    let count : number_4 (drop (8 + number_4 bytes) bytes) ≡ state.count =
    ap number_4 (past 0 4) ∙ ap (λ (l : List ℕ). from_le_bytes w32 l) (count_part state.name days counts rest refl refl) ∙ from_le_bytes-to_le_bytes_4 state.count is.2 in
    let end : drop (12 + number_4 bytes) bytes ≡ rest = past 0 8 ∙ rest_part state.name days counts rest refl refl in
    λ i. found (whole i) (text i) (name i) (day i) (count i) (end i)
  where
    found : Bool → Bool → List ℕ → ℕ → ℕ → List ℕ → Option (Latest × List ℕ)
    found whole text name day count end = if whole && text then Some (record { name = name; day = day; count = count }, end) else None

pub changed_as : (content : Content) (change : Change) (at : ℕ) → HasShortName change → IsChange change
    → changed content (record { at = at; kind = kind_of change; payload = payload_of change }) ≡ edited_content content change
changed_as content (Splice part) at short is = ap (with_text content.latest) (spliced_payload content.text part is)
changed_as content (Whole text) at short is = refl
changed_as content (Import state part) at short is =
    ap (imported content) (mark_reads state (splice_payload part) short is.0)
    ∙ ap (λ (o : Option (List ℕ)). let latest = with_mark state content.latest in if nat_lt (length latest) (2 ^ 32) then with_text latest o else None)
    (spliced_payload content.text part is.1)
