-- What is read of the payloads of records.
use Rattle.std.proofs.Common.{◌≡◌, ◌∙◌, ℕ, ◌+◌, ◌^◌, ◌<◌, ◌≤◌, Bool, true, false, ◌&&◌, nat_le, nat_lt, ◌==◌, if◌then◌else◌, List, ◌++◌, length, take, drop, Option, Some, None, refl, sym, ap, arith, length-append, length-take, length-drop}
use Rattle.std.specs.Int.{w32, w64, to_le_bytes}
use Rattle.std.specs.Str.{is_utf8}
use Rattle.std.proofs.lemmas.Bool.Decides.{nat_tests}
use Rattle.hl_base.specs.declared.change.Latest.{Latest}
use Rattle.hl_base.specs.declared.change.Splice.{Splice as Part}
use Rattle.text_store.specs.declared.change.Change.TheVariants.{Splice, Import}
use Rattle.text_store.specs.Changes.{splice_payload, mark_payload}
use Rattle.text_store.specs.Image.{Content, number_4, number_8, mark_at, spliced, imported, with_mark, with_text}
use Rattle.text_store.specs.Parsed.{IsPartIn, IsChangeIn}
use Rattle.text_store.proofs.Growing.{none_some}

le_true : (a b : ℕ) → a ≤ b → nat_le a b ≡ true
le_true a b le = grind (arith, nat_tests)

le_false : (a b : ℕ) → b < a → nat_le a b ≡ false
le_false a b less = grind (arith, nat_tests)

-- a splice's payload
pub short_part : (payload : List ℕ) → length payload < 16 → IsPartIn payload None
short_part payload short text =
    ap (λ (b : Bool). if b && nat_le (number_8 payload + number_8 (drop 8 payload)) (length text)
    then Some (take (number_8 payload) text ++ drop 16 payload ++ drop (number_8 payload + number_8 (drop 8 payload)) text)
    else None)
    (le_false 16 (length payload) short)

pub part_in : (payload : List ℕ) (part : Part) → 16 ≤ length payload → part.at ≡ number_8 payload → part.removed ≡ number_8 (drop 8 payload) → part.inserted ≡ drop 16 payload
    → IsPartIn payload (Some part)
part_in payload part long at removed inserted = (
  (λ text i. put text (le_true 16 (length payload) long i) (sym at i) (sym removed i) (sym inserted i)),
  omega (arith, ap length inserted, length-drop 16 payload, long),
)
  where
    put : List ℕ → Bool → ℕ → ℕ → List ℕ → Option (List ℕ)
    put text b at removed inserted = if b && nat_le (at + removed) (length text) then Some (take at text ++ inserted ++ drop (at + removed) text) else None

pub splice_size : (part : Part) → length (splice_payload part) ≡ 16 + length part.inserted
splice_size part = length-append (to_le_bytes w64 part.at ++ to_le_bytes w64 part.removed) part.inserted

pub part_change : (payload : List ℕ) (part : Part) → IsPartIn payload (Some part) → IsChangeIn 83 payload (Some (Splice part))
part_change payload part is = (
  (λ content at. ap (with_text content.latest) (is.0 content.text)),
  tt,
  omega (arith, splice_size part, is.1),
)

pub no_part : (payload : List ℕ) → IsPartIn payload None → IsChangeIn 83 payload None
no_part payload is content at = ap (with_text content.latest) (is content.text)

-- an import's payload
pub mark_size : (bytes : List ℕ) (state : Latest) (rest : List ℕ) → mark_at bytes ≡ Some (state, rest) → length bytes ≡ 12 + length state.name + length rest
mark_size bytes state rest is = by_test (nat_le (12 + number_4 bytes) (length bytes)) (is_utf8 (take (number_4 bytes) (drop 4 bytes))) refl is
  where
    name_in : Option (Latest × List ℕ) → ℕ
    name_in None = 0
    name_in (Some (s, r)) = length s.name

    rest_in : Option (Latest × List ℕ) → ℕ
    rest_in None = 0
    rest_in (Some (s, r)) = length r

    found : Bool → Bool → Option (Latest × List ℕ)
    found x y =
        if x && y
        then Some (
          record { name = take (number_4 bytes) (drop 4 bytes); day = number_4 (drop (4 + number_4 bytes) bytes); count = number_4 (drop (8 + number_4 bytes) bytes) },
          drop (12 + number_4 bytes) bytes,
        )
        else None

    by_test : (x y : Bool) → nat_le (12 + number_4 bytes) (length bytes) ≡ x → found x y ≡ Some (state, rest) → length bytes ≡ 12 + length state.name + length rest
    by_test true true long same =
        let within : 12 + number_4 bytes ≤ length bytes = below (12 + number_4 bytes) (length bytes) long in
        omega (arith, within, ap name_in same, ap rest_in same, length-take (number_4 bytes) (drop 4 bytes), length-drop 4 bytes, length-drop (12 + number_4 bytes) bytes)
      where
        below : (a b : ℕ) → nat_le a b ≡ true → a ≤ b
        below a b is = grind (arith, nat_tests)
    by_test true false long same = none_some (state, rest) same
    by_test false y long same = none_some (state, rest) same

import_size : (state : Latest) (part : Part) → length (mark_payload state ++ splice_payload part) ≡ 28 + length state.name + length part.inserted
import_size state part =
    let name_size : length (to_le_bytes w32 (length state.name)) ≡ 4 = refl in
    let day_size : length (to_le_bytes w32 state.day) ≡ 4 = refl in
    let count_size : length (to_le_bytes w32 state.count) ≡ 4 = refl in
    omega (
      arith,
      name_size,
      day_size,
      count_size,
      length-append (mark_payload state) (splice_payload part),
      splice_size part,
      length-append ((to_le_bytes w32 (length state.name) ++ state.name) ++ to_le_bytes w32 state.day) (to_le_bytes w32 state.count),
      length-append (to_le_bytes w32 (length state.name) ++ state.name) (to_le_bytes w32 state.day),
      length-append (to_le_bytes w32 (length state.name)) state.name,
    )

module _ (payload : List ℕ) (state : Latest) (rest : List ℕ) (is : mark_at payload ≡ Some (state, rest)) where
  pub import_change : (part : Part) (slice : List ℕ) → slice ≡ rest → length state.name < 2 ^ 32 → IsPartIn slice (Some part) → IsChangeIn 73 payload (Some (Import state part))
  import_change part slice same short reads = (
    (λ content at.
        ap (imported content) is
        ∙ ap (λ (o : Option (List ℕ)). if nat_lt (length (with_mark state content.latest)) (2 ^ 32) then with_text (with_mark state content.latest) o else None)
        (ap (spliced content.text) (sym same) ∙ reads.0 content.text)),
    short,
    omega (arith, import_size state part, mark_size payload state rest is, reads.1, ap length same),
  )

  pub import_without : (slice : List ℕ) → slice ≡ rest → IsPartIn slice None → IsChangeIn 73 payload None
  import_without slice same none content at =
      ap (imported content) is
      ∙ ap (λ (o : Option (List ℕ)). if nat_lt (length (with_mark state content.latest)) (2 ^ 32) then with_text (with_mark state content.latest) o else None)
      (ap (spliced content.text) (sym same) ∙ none content.text)
      ∙ neither (nat_lt (length (with_mark state content.latest)) (2 ^ 32)) None
    where
      neither : (b : Bool) (o : Option Content) → (if b then o else o) ≡ o
      neither true o = refl
      neither false o = refl

pub no_import : (payload : List ℕ) → mark_at payload ≡ None → IsChangeIn 73 payload None
no_import payload none content at = ap (imported content) none

-- a kind that no change has
pub no_kind : (kind : ℕ) (payload : List ℕ) → (kind ≡ 84 → ⊥) → (kind ≡ 83 → ⊥) → (kind ≡ 73 → ⊥) → IsChangeIn kind payload None
no_kind kind payload not_whole not_splice not_import content at =
    (λ i. if other kind 84 not_whole i then Some (record { text = payload; latest = content.latest })
    else (if other kind 83 not_splice i then with_text content.latest (spliced content.text payload)
    else (if other kind 73 not_import i then imported content (mark_at payload)
    else None)))
  where
    same : (a b : ℕ) → (a == b) ≡ true → a ≡ b
    same a b is = grind (arith, nat_tests)

    by_test : (a b : ℕ) → (a ≡ b → ⊥) → (t : Bool) → (a == b) ≡ t → t ≡ false
    by_test a b differs true is = absurd (differs (same a b is))
    by_test a b differs false is = refl

    other : (a b : ℕ) → (a ≡ b → ⊥) → (a == b) ≡ false
    other a b differs = by_test a b differs (a == b) refl
