-- The frames of a half's records, and a store whose half in use was read.
use Rattle.std.proofs.Common.{◌≡◌, ◌∙◌, ℕ, ◌+◌, ◌-◌, ◌^◌, ◌≤◌, ◌<◌, Bool, true, false, ◌&&◌, nat_le, if◌then◌else◌, IsTrue, List, [], ◌∷◌, ◌++◌, length, take, drop, Some, None, refl, sym, ap, subst, arith, append_assoc, length-take, length-drop}
use Rattle.std.specs.Str.{bytes_eq}
use Rattle.std.proofs.lemmas.Bool.Decides.{nat_tests}
use Rattle.std.proofs.lemmas.List.{append-nil}
use Rattle.hl_base.specs.declared.disk.Disk.{Ghosts}
use Rattle.text_store.specs.declared.image.Image.{Image}
use Rattle.text_store.specs.declared.store.Store.{Store}
use Rattle.text_store.specs.Entries.{Entry, open_entries}
use Rattle.std.specs.Int.{w64, to_le_bytes, from_le_bytes}
use Rattle.text_store.specs.Frames.{frame, frames_from, base_of, frames_of}
use Rattle.text_store.specs.Image.{Half, letters, number_8, live, first_of}
use Rattle.text_store.specs.Reads.{from_place}
use Rattle.text_store.specs.Rest.{RestsAs, IsReadOn}
use Rattle.text_store.specs.Stores.{placed, disks, Leaves, Shows, Tell, Throughout, Holds}
use Rattle.text_store.proofs.Both.{Beside, once, moves_live}
use Rattle.text_store.proofs.Choosing.{head_number}
use Rattle.text_store.proofs.Growing.{none_some}
use Rattle.text_store.proofs.Holding.{holds, leads_on}
use Rattle.text_store.proofs.Reading.{begins, short_none}

-- ---- frames one after another

frame_is : (old revision len payload : List ℕ) (kind : ℕ) → (((old ++ revision) ++ kind ∷ []) ++ len) ++ payload ≡ old ++ (revision ++ (kind ∷ len ++ payload))
frame_is old revision len payload kind =
    append_assoc ((old ++ revision) ++ kind ∷ []) len payload ∙ append_assoc (old ++ revision) (kind ∷ []) (len ++ payload)
    ∙ append_assoc old revision (kind ∷ (len ++ payload))

-- a frame behind others
pub frame_pushed : (old file : List ℕ) (revision kind at len : ℕ) → at + len ≤ length file → (new : List ℕ)
    → new ≡ (((old ++ to_le_bytes w64 revision) ++ kind ∷ []) ++ to_le_bytes w64 len) ++ take (at + len - at) (drop at file)
    → new ≡ old ++ frame revision kind (take len (drop at file))
frame_pushed old file revision kind at len inside new made =
    let payload = take len (drop at file) in
    let size : length payload ≡ len = omega (arith, inside, length-take len (drop at file), length-drop at file) in
    let width : at + len - at ≡ len = omega arith in
    made ∙ ap (λ (n : ℕ). (((old ++ to_le_bytes w64 revision) ++ kind ∷ []) ++ to_le_bytes w64 len) ++ take n (drop at file)) width
    ∙ frame_is old (to_le_bytes w64 revision) (to_le_bytes w64 len) payload kind
    ∙ ap (λ (n : ℕ). old ++ (to_le_bytes w64 revision ++ (kind ∷ to_le_bytes w64 n ++ payload))) (sym size)

pub base_is : (file : List ℕ) (revision : ℕ) → revision ≡ from_le_bytes w64 (take 8 (drop 24 file)) → revision ≡ base_of file
unfolding base_of
base_is file revision is = is

pub frames_begin : (file : List ℕ) (revision : ℕ) → revision ≡ base_of file → [] ++ frames_from revision (from_place file 32) ≡ frames_of file
unfolding frames_of
frames_begin file revision is = λ i. frames_from (is i) (sym (begins 32 file) i)

pub frames_more : (done more all : List ℕ) (revision next : ℕ) (entry : Entry) (entries left : List Entry) → entries ≡ entry ∷ left → next ≡ revision + 1
    → more ≡ done ++ frame revision entry.kind entry.payload → done ++ frames_from revision entries ≡ all → more ++ frames_from next left ≡ all
frames_more done more all revision next entry entries left are follows is before =
    ap (λ (l : List ℕ). l ++ frames_from next left) is ∙ append_assoc done (frame revision entry.kind entry.payload) (frames_from next left)
    ∙ ap (λ (n : ℕ). done ++ (frame revision entry.kind entry.payload ++ frames_from n left)) follows
    ∙ ap (λ (es : List Entry). done ++ frames_from revision es) (sym are) ∙ before

pub frames_end : (done all : List ℕ) (revision : ℕ) (entries : List Entry) → entries ≡ [] → done ++ frames_from revision entries ≡ all → done ≡ all
frames_end done all revision entries none before = sym (append-nil done) ∙ ap (λ (es : List Entry). done ++ frames_from revision es) (sym none) ∙ before

-- ---- the half in use

-- a half's base is at most 2^62
base_small : (file : List ℕ) (half : Half) → live file ≡ Some half → base_of file ≤ 2 ^ 62
unfolding base_of
base_small file half is =
    let head = take 32 file in
    let same : number_8 (drop 24 head) ≡ number_8 (drop 24 file) = head_number file 24 8 (omega arith) refl in
    let small = by_test (bytes_eq (take 8 head) (letters ++ 2 ∷ [])) (nat_le (number_8 (drop 16 head)) 2) (nat_le (number_8 (drop 24 head)) (2 ^ 62)) refl is in
    omega (arith, same, small)
  where
    by_test : (x y z : Bool) → nat_le (number_8 (drop 24 (take 32 file))) (2 ^ 62) ≡ z
        → (if x && y && z then first_of (number_8 (drop 8 (take 32 file))) (number_8 (drop 16 (take 32 file))) (number_8 (drop 24 (take 32 file))) (open_entries 32 file) else None) ≡ Some half
        → number_8 (drop 24 (take 32 file)) ≤ 2 ^ 62
    by_test true true true same some = within (number_8 (drop 24 (take 32 file))) same
      where
        within : (n : ℕ) → nat_le n (2 ^ 62) ≡ true → n ≤ 2 ^ 62
        within n is = grind (arith, nat_tests)
    by_test true true false same some = none_some half some
    by_test true false z same some = none_some half some
    by_test false y z same some = none_some half some

-- a file without a whole header has no frames
pub no_frames : (file : List ℕ) → length file < 32 → frames_of file ≡ []
unfolding frames_of open_entries
no_frames file short = ap (λ (es : List Entry). frames_from (base_of file) es) (short_none (length file) 32 (drop 32 file) (omega (arith, length-drop 32 file)))

-- two files in their places that a crash may leave
pub left_beside : {D : Type 0} (g : Ghosts D) (b : Bool) (live spare : D) (P : List ℕ → List ℕ → Type 0) → Leaves g (placed b live spare) P
    → (file beside : List ℕ) → g.may_leave live file → g.may_leave spare beside → Beside b P file beside
left_beside g true live spare P leaves file beside of_live of_spare = leaves beside file of_spare of_live
left_beside g false live spare P leaves file beside of_live of_spare = leaves file beside of_live of_spare

module _ {D : Type 0} {g : Ghosts D} (old new : Store D g) (reads : IsReadOn g old.live.device new.live.device) (spare : new.spare ≡ old.spare) (place : new.in_second ≡ old.in_second)
    (generation : new.generation ≡ old.generation) (gate : new.live.gate ≡ old.live.gate) where
  pub held_still : (shown : Image) → Holds old shown → Holds new shown
  held_still shown held =
      holds new held.front held.entries held.beside shown
      (record {
        is_half = held.settled.is_half;
        place = held.settled.place ∙ sym gate;
        rests = record {
          told = reads.seen ∙ held.settled.rests.told;
          durable = λ tell c left. held.settled.rests.durable (subst (λ (b : Bool). IsTrue b) reads.tells tell) c (reads.no_more c left);
        };
      })
      (subst (λ (d : D). RestsAs g.seen g.tells_crashes g.may_leave d held.beside) (sym spare) held.rests)
      (leads_on old.in_second new.in_second old.generation new.generation (held.front ++ 0 ∷ []) held.beside shown place generation held.leads)

module _ {D : Type 0} {g : Ghosts D} (store : Store D g) (shown : Image) (held : Holds store shown) where
  -- what was read of the half in use
  pub fed : (bytes frames : List ℕ) → ((file : List ℕ) → g.seen store.live.device ≡ Some file → bytes ≡ file) → (base_of bytes ≤ 2 ^ 62 → frames ≡ frames_of bytes)
      → frames ≡ frames_of (held.front ++ 0 ∷ [])
  fed bytes frames read made =
      let same : bytes ≡ held.front ++ 0 ∷ [] = read (held.front ++ 0 ∷ []) held.settled.rests.told in
      made (subst (λ (l : List ℕ). base_of l ≤ 2 ^ 62) (sym same) (base_small (held.front ++ 0 ∷ []) held.leads.half held.leads.is_live)) ∙ ap frames_of same

  pub feeding : (counts_now : (disk : D) (t : ℕ) (c : List ℕ) → t ≤ g.moment disk → g.may_leave disk c → g.left_since disk t c) (next : D) → IsReadOn g store.live.device next
      → Tell g (disks store) → Throughout g (placed store.in_second store.live.device store.spare) (placed store.in_second next store.spare) (Shows shown)
  feeding counts_now next reads tell =
      once g counts_now (placed store.in_second store.live.device store.spare) (placed store.in_second next store.spare) (Shows shown)
      (moves_live g store.in_second store.live.device next store.spare (g.may_leave store.live.device) (g.may_leave store.spare) (Shows shown) reads.any_moment (λ c left. left)
      (left_beside g store.in_second store.live.device store.spare (Shows shown) (held.shows tell)))
