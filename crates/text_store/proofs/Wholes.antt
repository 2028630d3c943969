-- A half that holds an image and no further record.
use Rattle.std.proofs.Common.{◌≡◌, ◌⊎◌, inl, inr, ℕ, zero, suc, ◌+◌, ◌^◌, ◌<◌, ◌≤◌, ◌%◌, ◌==◌, ◌&&◌, nat_le, Bool, true, false, not, List, [], ◌∷◌, ◌++◌, length, take, drop, if◌then◌else◌, Option, Some, None, Ok, refl, sym, ◌∙◌, ap, arith, append_assoc, length-append, length-drop}
use Rattle.std.specs.Int.{w32, w64, to_le_bytes}
use Rattle.std.specs.List.{flat_map, sum_by}
use Rattle.std.specs.Str.{bytes_eq}
use Rattle.std.proofs.lemmas.Bool.Decides.{nat_tests}
use Rattle.std.proofs.lemmas.List.Concat.{length-flat_map}
use Rattle.std.proofs.lemmas.Nat.{from_le_bytes-to_le_bytes_4, from_le_bytes-to_le_bytes_8}
use Rattle.hl_base.specs.declared.change.Latest.{Latest}
use Rattle.text_store.specs.declared.image.Image.{Image}
use Rattle.text_store.specs.Changes.{mark_payload, AreStates}
use Rattle.text_store.specs.Edits.{whole_size, content_in}
use Rattle.text_store.specs.Entries.{Entry, body, open_entries, IsFront}
use Rattle.text_store.specs.Files.{header, whole_payload, next_generation, HaveShortNames, IsWritable}
use Rattle.text_store.specs.Halves.{IsHalf}
use Rattle.text_store.specs.Image.{Half, Content, letters, number_4, number_8, mark_at, with_first, more_marks, marks_at, content_of, checkpointed, live, live_of, started, first_of, half_image, image_at}
use Rattle.text_store.specs.Rest.{IsAt}
use Rattle.text_store.specs.Stores.{IsChosen}
use Rattle.text_store.proofs.Decoding.{mark_reads}
use Rattle.text_store.proofs.HalfImages.{size_reads, half_grows}
use Rattle.text_store.proofs.OpenEntries.{front_begins, before_or_after, shut_behind}
use Rattle.text_store.proofs.Reading.{short_none}

-- how long it is
mark_length : (state : Latest) → length (mark_payload state) ≡ 12 + length state.name
mark_length state = omega (arith, length-append ((to_le_bytes w32 (length state.name) ++ state.name) ++ to_le_bytes w32 state.day) (to_le_bytes w32 state.count), length-append (to_le_bytes w32 (length state.name) ++ state.name) (to_le_bytes w32 state.day), length-append (to_le_bytes w32 (length state.name)) state.name, four (length state.name), four state.day, four state.count)
  where
    four : (n : ℕ) → length (to_le_bytes w32 n) ≡ 4
    four n = refl

pub length_whole : (shown : Image) → 43 + length (whole_payload shown) ≡ whole_size shown
length_whole shown =
    let marks : length (flat_map mark_payload shown.latest) ≡ sum_by (λ state. 12 + length state.name) shown.latest =
    length-flat_map mark_payload shown.latest ∙ (λ i. sum_by (λ state. mark_length state i) shown.latest) in
    omega (arith, length-append (to_le_bytes w32 (length shown.latest) ++ flat_map mark_payload shown.latest) shown.text, length-append (to_le_bytes w32 (length shown.latest)) (flat_map mark_payload shown.latest), marks, four)
  where
    four : length (to_le_bytes w32 (length shown.latest)) ≡ 4
    four = refl

-- its payload reads
marks_read : (latest : List Latest) (text : List ℕ) → HaveShortNames latest → AreStates latest → marks_at (length latest) (flat_map mark_payload latest ++ text) ≡ Some (latest, text)
marks_read [] text short are = refl
marks_read (state ∷ latest) text short are =
    ap (λ (l : List ℕ). more_marks (mark_at l) (λ rest. marks_at (length latest) rest)) (append_assoc (mark_payload state) (flat_map mark_payload latest) text)
    ∙ ap (λ (o : Option (Latest × List ℕ)). more_marks o (λ rest. marks_at (length latest) rest)) (mark_reads state (flat_map mark_payload latest ++ text) short.0 are.0)
    ∙ ap (with_first state) (marks_read latest text short.1 are.1)

pub whole_reads : (shown : Image) → IsWritable shown → AreStates shown.latest → checkpointed (whole_payload shown) ≡ Some (content_in shown)
whole_reads shown writable are =
    let payload = whole_payload shown in
    let four : nat_le 4 (length payload) ≡ true = le_true 4 (length payload) (omega (arith, length_whole shown)) in
    let count : number_4 payload ≡ length shown.latest = from_le_bytes-to_le_bytes_4 (length shown.latest) writable.few in
    let marks : marks_at (number_4 payload) (drop 4 payload) ≡ Some (shown.latest, shown.text) =
    ap (λ (n : ℕ). marks_at n (flat_map mark_payload shown.latest ++ shown.text)) count ∙ marks_read shown.latest shown.text writable.short are in
    ap (λ (b : Bool). if b then content_of (marks_at (number_4 payload) (drop 4 payload)) else None) four
    ∙ ap content_of marks ∙ ap (λ (b : Bool). if b then Some (content_in shown) else None) writable.own
  where
    le_true : (a b : ℕ) → a ≤ b → nat_le a b ≡ true
    le_true a b le = grind (arith, nat_tests)

-- no record, no half
pub live_nothing : (head : List ℕ) → live_of head [] ≡ None
live_nothing head = by_head (bytes_eq (take 8 head) (letters ++ 2 ∷ []) && nat_le (number_8 (drop 16 head)) 2 && nat_le (number_8 (drop 24 head)) (2 ^ 62))
  where
    by_head : (b : Bool) → (if b then first_of (number_8 (drop 8 head)) (number_8 (drop 16 head)) (number_8 (drop 24 head)) [] else None) ≡ None
    by_head true = refl
    by_head false = refl

pub live_short : (file : List ℕ) → length file ≤ 33 → live file ≡ None
unfolding open_entries
live_short file short = ap (λ (l : List Entry). live_of (take 32 file) l) (short_none (length file) 32 (drop 32 file) (omega (arith, length-drop 32 file))) ∙ live_nothing (take 32 file)

module _ (limit generation : ℕ) (shown : Image) (small : limit < 2 ^ 64) (one_of_three : generation < 3) (within : shown.revision ≤ 2 ^ 62) (writable : IsWritable shown) (are : AreStates shown.latest)
    (fits : length (whole_payload shown) < 2 ^ 64) where
  abbrev head : List ℕ
  head = header limit generation shown.revision

  abbrev entry : List ℕ
  entry = body 67 (whole_payload shown) ++ 0 ∷ []

  abbrev pub whole : Half
  whole = record { limit = limit; generation = generation; base = shown.revision; start = content_in shown; entries = [] }

  abbrev only : Entry
  only = record { at = 32; kind = 67; payload = whole_payload shown }

  pub live_whole : live_of head (only ∷ []) ≡ Some whole
  live_whole =
      let limit_is : number_8 (drop 8 head) ≡ limit = from_le_bytes-to_le_bytes_8 limit small in
      let generation_is : number_8 (drop 16 head) ≡ generation = from_le_bytes-to_le_bytes_8 generation (omega (arith, one_of_three)) in
      let base_is : number_8 (drop 24 head) ≡ shown.revision = from_le_bytes-to_le_bytes_8 shown.revision (omega (arith, within)) in
      (λ i. found (limit_is i) (generation_is i) (base_is i) (whole_reads shown writable are i)) ∙ ap (λ (b : Bool). if b then Some whole else None) tested
    where
      found : ℕ → ℕ → ℕ → Option Content → Option Half
      found limit generation base start = if true && nat_le generation 2 && nat_le base (2 ^ 62) then started limit generation base start [] else None

      tested : (true && nat_le generation 2 && nat_le shown.revision (2 ^ 62)) ≡ true
      tested = grind (arith, nat_tests)

  is_front : IsFront 32 head []
  is_front = front_begins head

  pub is_half : IsHalf head []
  is_half = record { version = refl; records = is_front }

  -- as far as it is written, a file of it is no half, or this one
  pub at_whole : (c : List ℕ) → IsAt head entry c → (live c ≡ None) ⊎ (live c ≡ Some whole)
  at_whole c at = outcome (before_or_after 32 head [] is_front 67 (to_le_bytes w64 (length (whole_payload shown)) ++ whole_payload shown) (size_reads 67 (whole_payload shown) fits) c at)
    where
      form : IsAt head entry c → take 32 c ≡ head
      form (inl shut) = ap (λ (l : List ℕ). take 32 l) shut.1
      form (inr any) = ap (λ (l : List ℕ). take 32 l) any.2

      outcome : (open_entries 32 c ≡ []) ⊎ (open_entries 32 c ≡ only ∷ []) → (live c ≡ None) ⊎ (live c ≡ Some whole)
      outcome (inl none) = inl (ap (λ (l : List Entry). live_of (take 32 c) l) none ∙ live_nothing (take 32 c))
      outcome (inr one) = inr ((λ i. live_of (form at i) (one i)) ∙ live_whole)

  pub grown : IsHalf (head ++ 1 ∷ body 67 (whole_payload shown)) (only ∷ [])
  grown = half_grows 67 (whole_payload shown) fits head [] is_half

  -- when it is written, it is this one
  pub live_written : live (head ++ 1 ∷ entry) ≡ Some whole
  live_written =
      let regroup : head ++ 1 ∷ entry ≡ (head ++ 1 ∷ body 67 (whole_payload shown)) ++ 0 ∷ [] = sym (append_assoc head (1 ∷ body 67 (whole_payload shown)) (0 ∷ [])) in
      let opened : open_entries 32 (head ++ 1 ∷ entry) ≡ only ∷ [] =
      ap (λ (f : List ℕ). open_entries 32 f) regroup
      ∙ shut_behind 32 (head ++ 1 ∷ body 67 (whole_payload shown)) (only ∷ []) grown.records 0 [] (omega arith) in
      ap (λ (l : List Entry). live_of head l) opened ∙ live_whole

  pub whole_image : half_image whole ≡ Ok shown
  whole_image = let e : shown.revision + 0 ≡ shown.revision = omega arith in ap (λ (n : ℕ). image_at n (Ok (content_in shown))) e

-- the next generation leads the one before it
pub leads_next : (in_second : Bool) (generation : ℕ) (half : Half) → half.generation ≡ generation → generation < 3 → IsChosen (not in_second) (next_generation generation) (Some half)
leads_next false generation half is less = grind (arith, nat_tests)
leads_next true generation half is less = ap (λ (n : ℕ). n == (next_generation generation + 1) % 3) is ∙ circle generation less
  where
    circle : (n : ℕ) → n < 3 → (n == ((n + 1) % 3 + 1) % 3) ≡ false
    circle zero less = refl
    circle (suc zero) less = refl
    circle (suc (suc zero)) less = refl
    circle (suc (suc (suc n))) less = absurd (omega arith)
