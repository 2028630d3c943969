-- What a crash leaves of a half in use feeds the frames from before, or these and one more.
use Rattle.std.proofs.Common.{◌≡◌, ◌∙◌, ◌⊎◌, inl, inr, ℕ, ◌+◌, ◌^◌, ◌<◌, ◌≤◌, List, [], ◌∷◌, ◌++◌, length, take, drop, refl, sym, ap, arith, append_assoc}
use Rattle.std.specs.Int.{w64, to_le_bytes}
use Rattle.std.proofs.lemmas.List.{append-nil, drop_at, take-append-le}
use Rattle.text_store.specs.Entries.{Entry, body, open_entries}
use Rattle.text_store.specs.Frames.{base_of, frame, frames_from, frames_of}
use Rattle.text_store.specs.Halves.{IsHalf}
use Rattle.text_store.specs.Image.{number_8}
use Rattle.text_store.specs.Rest.{IsAt}
use Rattle.text_store.proofs.Choosing.{head_number}
use Rattle.text_store.proofs.HalfImages.{size_reads}
use Rattle.text_store.proofs.OpenEntries.{before_or_after, shut_behind}
use Rattle.replica_laws.specs.Lives.{revision_behind}

-- the frame of a record behind others
pub frames_pushed : (revision : ℕ) (entries : List Entry) (entry : Entry)
    → frames_from revision (entries ++ entry ∷ []) ≡ frames_from revision entries ++ frame (revision + length entries) entry.kind entry.payload
frames_pushed revision [] entry =
    append-nil (frame revision entry.kind entry.payload)
    ∙ ap (λ (n : ℕ). frame n entry.kind entry.payload) (let e : revision ≡ revision + 0 = omega arith in e)
frames_pushed revision (first ∷ entries) entry =
    let last = frame (revision + 1 + length entries) entry.kind entry.payload in
    ap (λ (l : List ℕ). frame revision first.kind first.payload ++ l) (frames_pushed (revision + 1) entries entry)
    ∙ sym (append_assoc (frame revision first.kind first.payload) (frames_from (revision + 1) entries) last)
    ∙ ap (λ (n : ℕ). (frame revision first.kind first.payload ++ frames_from (revision + 1) entries) ++ frame n entry.kind entry.payload)
    (let e : revision + 1 + length entries ≡ revision + length (first ∷ entries) = omega arith in e)

-- the base is read in the header
pub base_kept : (front behind : List ℕ) → 32 ≤ length front → base_of (front ++ behind) ≡ base_of front
unfolding base_of
base_kept front behind long =
    sym (head_number (front ++ behind) 24 8 (omega arith) refl)
    ∙ ap (λ (l : List ℕ). number_8 (drop 24 l)) (take-append-le 32 front behind long)
    ∙ head_number front 24 8 (omega arith) refl

pub frames_are : (file : List ℕ) (revision : ℕ) (entries : List Entry) → base_of file ≡ revision → open_entries 32 file ≡ entries → frames_of file ≡ frames_from revision entries
unfolding frames_of
frames_are file revision entries base are = λ i. frames_from (base i) (are i)

module _ (front : List ℕ) (entries : List Entry) (kind : ℕ) (payload : List ℕ) (half : IsHalf front entries) (fits : length payload < 2 ^ 64) where
  abbrev rest : List ℕ
  rest = to_le_bytes w64 (length payload) ++ payload

  -- each file that a crash leaves keeps the front
  form : (left : List ℕ) → IsAt front (body kind payload ++ 0 ∷ []) left → (behind : List ℕ) × (left ≡ front ++ behind)
  form left (inl shut) = (0 ∷ shut.0, shut.1)
  form left (inr any) = (any.0 ∷ take any.1 (body kind payload ++ 0 ∷ []), any.2)

  before : frames_of (front ++ 0 ∷ []) ≡ frames_from (base_of front) entries
  before = frames_are (front ++ 0 ∷ []) (base_of front) entries (base_kept front (0 ∷ []) half.records.behind) (shut_behind 32 front entries half.records 0 [] (omega arith))

  pub either_frames : (left : List ℕ) → IsAt front (body kind payload ++ 0 ∷ []) left
      → (frames_of left ≡ frames_of (front ++ 0 ∷ [])) ⊎ (frames_of left ≡ frames_of (front ++ 0 ∷ []) ++ frame (revision_behind front entries) kind payload)
  either_frames left at = by_entries (before_or_after 32 front entries half.records kind rest (size_reads kind payload fits) left at)
    where
      base : base_of left ≡ base_of front
      base = let f = form left at in ap base_of f.1 ∙ base_kept front f.0 half.records.behind

      payload_is : drop 8 rest ≡ payload
      payload_is = drop_at (to_le_bytes w64 (length payload)) payload 8 refl

      with_one : frames_from (base_of front) (entries ++ record { at = length front; kind = kind; payload = drop 8 rest } ∷ [])
          ≡ frames_of (front ++ 0 ∷ []) ++ frame (revision_behind front entries) kind payload
      with_one =
          frames_pushed (base_of front) entries (record { at = length front; kind = kind; payload = drop 8 rest })
          ∙ (λ i. sym before i ++ frame (base_of front + length entries) kind (payload_is i))

      by_entries : (open_entries 32 left ≡ entries) ⊎ (open_entries 32 left ≡ entries ++ record { at = length front; kind = kind; payload = drop 8 rest } ∷ [])
          → (frames_of left ≡ frames_of (front ++ 0 ∷ [])) ⊎ (frames_of left ≡ frames_of (front ++ 0 ∷ []) ++ frame (revision_behind front entries) kind payload)
      by_entries (inl same) = inl (frames_are left (base_of front) entries base same ∙ sym before)
      by_entries (inr more) =
          inr (frames_are left (base_of front) (entries ++ record { at = length front; kind = kind; payload = drop 8 rest } ∷ []) base more ∙ with_one)
