-- The images of what a crash leaves while a record is put into a half.
use Rattle.std.proofs.Common.{◌≡◌, ◌⊎◌, inl, inr, ⊎_elim, ℕ, ◌+◌, ◌<◌, ◌≤◌, ◌^◌, List, [], ◌∷◌, ◌++◌, length, take, drop, Option, None, Some, Err, refl, sym, ◌∙◌, ap, subst, arith, append_assoc, take-append-drop, length-append}
use Rattle.std.proofs.lemmas.List.{take-append-le, take_at, drop_at}
use Rattle.std.proofs.lemmas.Nat.{from_le_bytes-to_le_bytes_8}
use Rattle.std.specs.Int.{w64, to_le_bytes, from_le_bytes}
use Rattle.text_store.specs.Rest.{IsAt}
use Rattle.text_store.specs.Entries.{Entry, body, open_entries, IsFront, IsRecord}
use Rattle.text_store.specs.Image.{Half, NotAStore, letters, live, live_of, chosen, image, image_of, other_image}
use Rattle.text_store.specs.Halves.{IsHalf, SameImage, HasEitherImage}
use Rattle.text_store.proofs.OpenEntries.{shut_behind, front_grows, before_or_after}

pub no_old_image : (file : List ℕ) → take 8 file ≡ letters ++ 2 ∷ [] → other_image file ≡ Err (NotAStore 0)
no_old_image file version =
    ap other_image (sym (take-append-drop 8 file) ∙ ap (λ (l : List ℕ). l ++ drop 8 file) version)

-- files of version 2 with one header and the same open records have one image
same_image : (other a b : List ℕ) → take 8 a ≡ letters ++ 2 ∷ [] → take 8 b ≡ letters ++ 2 ∷ [] → take 32 a ≡ take 32 b → open_entries 32 a ≡ open_entries 32 b → SameImage other a b
same_image other a b version_a version_b head entries =
    let lives : live a ≡ live b = λ i. live_of (head i) (entries i) in
    (ap (λ (h : Option Half). image_of (chosen h (live other)) a) lives ∙ same_rest (chosen (live b) (live other)), ap (λ (h : Option Half). image_of (chosen (live other) h) other) lives)
  where
    same_rest : (h : Option Half) → image_of h a ≡ image_of h b
    same_rest None = no_old_image a version_a ∙ sym (no_old_image b version_b)
    same_rest (Some half) = refl

module _ (front : List ℕ) (entries : List Entry) (half : IsHalf front entries) where
  front_head : (n : ℕ) (rest : List ℕ) → n ≤ 32 → take n (front ++ rest) ≡ take n front
  front_head n rest le = take-append-le n front rest (omega (arith, half.records.behind))

  -- whatever a crash leaves of the file while an entry is put there has the image before it or the one with it
  pub either_image : (entry other c : List ℕ) → IsRecord entry → IsAt front entry c → HasEitherImage other (front ++ 0 ∷ []) (front ++ 1 ∷ entry) c
  either_image entry other c is at = ⊎_elim before after outcomes
    where
      at_split : IsAt front (is.kind ∷ is.rest ++ 0 ∷ []) c
      at_split = subst (λ (l : List ℕ). IsAt front l c) is.split at

      outcomes : (open_entries 32 c ≡ entries) ⊎ (open_entries 32 c ≡ entries ++ record { at = length front; kind = is.kind; payload = drop 8 is.rest } ∷ [])
      outcomes = before_or_after 32 front entries half.records is.kind is.rest is.size c at_split

      form : (c : List ℕ) → IsAt front entry c → (rest : List ℕ) × (c ≡ front ++ rest)
      form c (inl shut) = (0 ∷ shut.0, shut.1)
      form c (inr any) = (any.0 ∷ take any.1 entry, any.2)

      head : (n : ℕ) → n ≤ 32 → take n c ≡ take n front
      head n le = let rest = form c at in ap (λ (l : List ℕ). take n l) rest.1 ∙ front_head n rest.0 le

      shut_entries : open_entries 32 (front ++ 0 ∷ []) ≡ entries
      shut_entries = shut_behind 32 front entries half.records 0 [] (omega arith)

      open_entries_are : open_entries 32 (front ++ 1 ∷ entry) ≡ entries ++ record { at = length front; kind = is.kind; payload = drop 8 is.rest } ∷ []
      open_entries_are =
          ap (λ (l : List ℕ). open_entries 32 (front ++ 1 ∷ l)) is.split
          ∙ ap (λ (l : List ℕ). open_entries 32 l) (sym (append_assoc front (1 ∷ is.kind ∷ is.rest) (0 ∷ [])))
          ∙ shut_behind 32 (front ++ 1 ∷ is.kind ∷ is.rest) (entries ++ record { at = length front; kind = is.kind; payload = drop 8 is.rest } ∷ [])
          (front_grows 32 front entries half.records is.kind is.rest is.size) 0 [] (omega arith)

      before : open_entries 32 c ≡ entries → HasEitherImage other (front ++ 0 ∷ []) (front ++ 1 ∷ entry) c
      before same = inl (same_image other c (front ++ 0 ∷ []) (head 8 (omega arith) ∙ half.version) (front_head 8 (0 ∷ []) (omega arith) ∙ half.version)
          (head 32 (omega arith) ∙ sym (front_head 32 (0 ∷ []) (omega arith))) (same ∙ sym shut_entries))

      after : open_entries 32 c ≡ entries ++ record { at = length front; kind = is.kind; payload = drop 8 is.rest } ∷ [] → HasEitherImage other (front ++ 0 ∷ []) (front ++ 1 ∷ entry) c
      after same = inr (same_image other c (front ++ 1 ∷ entry) (head 8 (omega arith) ∙ half.version) (front_head 8 (1 ∷ entry) (omega arith) ∙ half.version)
          (head 32 (omega arith) ∙ sym (front_head 32 (1 ∷ entry) (omega arith))) (same ∙ sym open_entries_are))

-- a file that is as before
pub same_file : (other before after c : List ℕ) → c ≡ before → HasEitherImage other before after c
same_file other before after c is = inl (ap (λ (f : List ℕ). image f other) is, ap (λ (f : List ℕ). image other f) is)

module _ (kind : ℕ) (payload : List ℕ) where
  length_count : length (to_le_bytes w64 (length payload)) ≡ 8
  length_count = refl

  length_rest : length (to_le_bytes w64 (length payload) ++ payload) ≡ 8 + length payload
  length_rest = length-append (to_le_bytes w64 (length payload)) payload ∙ ap (λ (n : ℕ). n + length payload) length_count

  pub length_record : length (body kind payload ++ 0 ∷ []) ≡ 10 + length payload
  length_record = omega (arith, length-append (to_le_bytes w64 (length payload) ++ payload) (0 ∷ []), length_rest)

  pub length_grown : (front : List ℕ) → length (front ++ 1 ∷ body kind payload) ≡ length front + 10 + length payload
  length_grown front = omega (arith, length-append front (1 ∷ body kind payload), length_rest)

  module _ (fits : length payload < 2 ^ 64) where
    pub size_reads : length (to_le_bytes w64 (length payload) ++ payload) ≡ 8 + from_le_bytes w64 (take 8 (to_le_bytes w64 (length payload) ++ payload))
    size_reads =
        length_rest ∙ ap (λ (n : ℕ). 8 + n) (sym (from_le_bytes-to_le_bytes_8 (length payload) fits))
        ∙ ap (λ (l : List ℕ). 8 + from_le_bytes w64 l) (sym (take_at (to_le_bytes w64 (length payload)) payload 8 length_count))

    pub is_record : IsRecord (body kind payload ++ 0 ∷ [])
    is_record = record { kind = kind; rest = to_le_bytes w64 (length payload) ++ payload; split = refl; size = size_reads }

    pub half_grows : (front : List ℕ) (entries : List Entry) → IsHalf front entries
        → IsHalf (front ++ 1 ∷ body kind payload) (entries ++ record { at = length front; kind = kind; payload = payload } ∷ [])
    half_grows front entries half = record {
      version = front_head front entries half 8 (1 ∷ body kind payload) (omega arith) ∙ half.version;
      records = subst (λ (l : List ℕ). IsFront 32 (front ++ 1 ∷ body kind payload) (entries ++ record { at = length front; kind = kind; payload = l } ∷ []))
          (drop_at (to_le_bytes w64 (length payload)) payload 8 length_count)
          (front_grows 32 front entries half.records kind (to_le_bytes w64 (length payload) ++ payload) size_reads);
    }
