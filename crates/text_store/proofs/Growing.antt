-- The image of a half with a record more.
use Rattle.std.proofs.Common.{◌≡◌, ℕ, ◌+◌, ◌^◌, ◌<◌, Bool, true, false, List, [], ◌∷◌, ◌++◌, length, take, drop, if◌then◌else◌, ◌==◌, Option, Some, None, Result, Ok, Err, sym, ◌∙◌, ap, arith, append_assoc, length-append}
use Rattle.text_store.specs.declared.change.Change.{Change}
use Rattle.text_store.specs.declared.image.Image.{Image}
use Rattle.text_store.specs.Changes.{kind_of, payload_of, HasShortName, IsChange}
use Rattle.text_store.specs.Edits.{edited, edited_content, content_in, at_revision}
use Rattle.text_store.specs.Entries.{Entry, body, open_entries}
use Rattle.text_store.specs.Halves.{IsHalf}
use Rattle.text_store.specs.Image.{Half, Content, NoImage, live_of, started, first_of, checkpointed, number_8, changed, going_on, folded, image_at, half_image}
use Rattle.text_store.specs.Stores.{Leads}
use Rattle.text_store.proofs.Decoding.{changed_as}
use Rattle.std.proofs.lemmas.List.{take-append-le}
use Rattle.text_store.proofs.HalfImages.{half_grows}
use Rattle.text_store.proofs.OpenEntries.{shut_behind}

pub none_some : {A X : Type 0} (a : A) → None ≡ Some a → X
none_some {A} {X} a e = absurd (impossible e)
  where
    impossible : None ≡ Some a → ⊥
    impossible e = cc

err_ok : {A E X : Type 0} (err : E) (a : A) → Err err ≡ Ok a → X
err_ok {A} {E} {X} err a e = absurd (impossible e)
  where
    impossible : Err err ≡ Ok a → ⊥
    impossible e = cc

abbrev with_entry : Half → Entry → Half
with_entry half entry = record half { entries = half.entries ++ entry ∷ [] }

-- a live half is live with a record more
module _ (entry : Entry) where
  start_grows : (limit generation base : ℕ) (start : Option Content) (entries : List Entry) (half : Half) → started limit generation base start entries ≡ Some half
      → started limit generation base start (entries ++ entry ∷ []) ≡ Some (with_entry half entry)
  start_grows limit generation base None entries half is = none_some half is
  start_grows limit generation base (Some start) entries half is = ap (λ (o : Option Half). grown o) is
    where
      grown : Option Half → Option Half
      grown None = None
      grown (Some h) = Some (with_entry h entry)

  first_grows : (limit generation base : ℕ) (entries : List Entry) (half : Half) → first_of limit generation base entries ≡ Some half
      → first_of limit generation base (entries ++ entry ∷ []) ≡ Some (with_entry half entry)
  first_grows limit generation base [] half is = none_some half is
  first_grows limit generation base (first ∷ entries) half is = by_kind (first.kind == 67) is
    where
      by_kind : (b : Bool) → (if b then started limit generation base (checkpointed first.payload) entries else None) ≡ Some half
          → (if b then started limit generation base (checkpointed first.payload) (entries ++ entry ∷ []) else None) ≡ Some (with_entry half entry)
      by_kind true is = start_grows limit generation base (checkpointed first.payload) entries half is
      by_kind false is = none_some half is

  pub live_grows : (head : List ℕ) (entries : List Entry) (half : Half) → live_of head entries ≡ Some half → live_of head (entries ++ entry ∷ []) ≡ Some (with_entry half entry)
  live_grows head entries half is = by_head _ is
    where
      by_head : (b : Bool) → (if b then first_of (number_8 (drop 8 head)) (number_8 (drop 16 head)) (number_8 (drop 24 head)) entries else None) ≡ Some half
          → (if b then first_of (number_8 (drop 8 head)) (number_8 (drop 16 head)) (number_8 (drop 24 head)) (entries ++ entry ∷ []) else None) ≡ Some (with_entry half entry)
      by_head true is = first_grows (number_8 (drop 8 head)) (number_8 (drop 16 head)) (number_8 (drop 24 head)) entries half is
      by_head false is = none_some half is

-- the fold over a record more
pub folded_push : (entries : List Entry) (entry : Entry) (start content : Content) → folded entries start ≡ Ok content
    → folded (entries ++ entry ∷ []) start ≡ going_on (changed content entry) entry.at (λ next. Ok next)
folded_push [] entry start content is = ap (λ (r : Result Content ℕ). last r) is
  where
    last : Result Content ℕ → Result Content ℕ
    last (Ok c) = going_on (changed c entry) entry.at (λ next. Ok next)
    last (Err at) = Err at
folded_push (first ∷ entries) entry start content is = step (changed start first) (λ next. folded_push entries entry next content) is
  where
    step : (o : Option Content) → ((next : Content) → folded entries next ≡ Ok content → folded (entries ++ entry ∷ []) next ≡ going_on (changed content entry) entry.at (λ next. Ok next))
        → going_on o first.at (λ next. folded entries next) ≡ Ok content
        → going_on o first.at (λ next. folded (entries ++ entry ∷ []) next) ≡ going_on (changed content entry) entry.at (λ next. Ok next)
    step None rest is = err_ok first.at content is
    step (Some next) rest is = rest next is

-- an image comes of a content
pub content_of_image : (revision : ℕ) (r : Result Content ℕ) (shown : Image) → image_at revision r ≡ Ok shown → (r ≡ Ok (content_in shown)) × (shown.revision ≡ revision)
content_of_image revision (Ok content) shown is = (ap (λ (x : Result Image NoImage). back x) is, sym (ap (λ (x : Result Image NoImage). number x) is))
  where
    back : Result Image NoImage → Result Content ℕ
    back (Ok i) = Ok (content_in i)
    back (Err e) = Err 0

    number : Result Image NoImage → ℕ
    number (Ok i) = i.revision
    number (Err e) = revision
content_of_image revision (Err at) shown is = err_ok _ shown is

pub content_edited : (revision : ℕ) (o : Option Content) (next : Image) → at_revision revision o ≡ Some next → (o ≡ Some (content_in next)) × (next.revision ≡ revision)
content_edited revision None next is = none_some next is
content_edited revision (Some content) next is = (ap (λ (x : Option Image). back x) is, sym (ap (λ (x : Option Image). number x) is))
  where
    back : Option Image → Option Content
    back (Some i) = Some (content_in i)
    back None = None

    number : Option Image → ℕ
    number (Some i) = i.revision
    number None = revision

-- a half with a change's record more has the changed image
pub image_grows : (half : Half) (change : Change) (at : ℕ) (shown next : Image) → HasShortName change → IsChange change → half_image half ≡ Ok shown → edited shown change ≡ Some next
    → half_image (with_entry half (record { at = at; kind = kind_of change; payload = payload_of change })) ≡ Ok next
image_grows half change at shown next short is gives is_next =
    let entry : Entry = record { at = at; kind = kind_of change; payload = payload_of change } in
    let before = content_of_image (half.base + length half.entries) (folded half.entries half.start) shown gives in
    let after = content_edited (shown.revision + 1) (edited_content (content_in shown) change) next is_next in
    let fold : folded (half.entries ++ entry ∷ []) half.start ≡ Ok (content_in next) =
    folded_push half.entries entry half.start (content_in shown) before.0
    ∙ ap (λ (o : Option Content). going_on o at (λ c. Ok c)) (changed_as (content_in shown) change at short is ∙ after.0) in
    let number : half.base + length (half.entries ++ entry ∷ []) ≡ next.revision = omega (arith, length-append half.entries (entry ∷ []), before.1, after.1) in
    λ i. image_at (number i) (fold i)

-- a half that leads leads with a change's record more
pub leads_grow : (in_second : Bool) (generation : ℕ) (front beside : List ℕ) (entries : List Entry) (change : Change) (shown next : Image) → IsHalf front entries
    → HasShortName change → IsChange change → length (payload_of change) < 2 ^ 64 → edited shown change ≡ Some next → Leads in_second generation (front ++ 0 ∷ []) beside shown
    → Leads in_second generation (front ++ 1 ∷ (body (kind_of change) (payload_of change) ++ 0 ∷ [])) beside next
leads_grow in_second generation front beside entries change shown next half short is fits is_next leads =
    let kind = kind_of change in
    let payload = payload_of change in
    let entry : Entry = record { at = length front; kind = kind; payload = payload } in
    let grown = half_grows kind payload fits front entries half in
    let file = front ++ 1 ∷ (body kind payload ++ 0 ∷ []) in
    let regroup : file ≡ (front ++ 1 ∷ body kind payload) ++ 0 ∷ [] = sym (append_assoc front (1 ∷ body kind payload) (0 ∷ [])) in
    let before : live_of (take 32 front) entries ≡ Some leads.half =
    (λ i. live_of (sym (take-append-le 32 front (0 ∷ []) half.records.behind) i) (sym (shut_behind 32 front entries half.records 0 [] (omega arith)) i)) ∙ leads.is_live in
    let head : take 32 file ≡ take 32 front = take-append-le 32 front (1 ∷ (body kind payload ++ 0 ∷ [])) half.records.behind in
    let opened : open_entries 32 file ≡ entries ++ entry ∷ [] =
    ap (λ (f : List ℕ). open_entries 32 f) regroup ∙ shut_behind 32 (front ++ 1 ∷ body kind payload) (entries ++ entry ∷ []) grown.records 0 [] (omega arith) in
    record {
      half = with_entry leads.half entry;
      is_live = (λ i. live_of (head i) (opened i)) ∙ live_grows entry (take 32 front) entries leads.half before;
      is_next = leads.is_next;
      is_chosen = leads.is_chosen;
      gives = image_grows leads.half change (length front) shown next short is leads.gives is_next;
    }
