-- A change made in an image.
use Rattle.std.proofs.Common.{◌≡◌, ◌∙◌, ℕ, ◌+◌, ◌<◌, ◌≤◌, ◌^◌, Bool, true, false, nat_le, ◌==◌, if◌then◌else◌, List, [], ◌∷◌, ◌++◌, length, get_or, take, drop, Option, None, Some, refl, sym, ap, arith, append_assoc}
use Rattle.std.proofs.lemmas.Bool.Decides.{nat_tests}
use Rattle.std.proofs.lemmas.List.{drop_more, drop_all, take_more}
use Rattle.hl_base.specs.declared.change.Latest.{Latest}
use Rattle.hl_base.specs.declared.change.Splice.{Splice as Part}
use Rattle.text_store.specs.declared.change.Change.{Change}
use Rattle.text_store.specs.declared.image.Image.{Image}
use Rattle.text_store.specs.Edits.{replaced, edited, content_in, at_revision}
use Rattle.text_store.specs.Image.{Content, same_name, with_mark, changed}
use Rattle.text_store.specs.Parsed.{IsChangeIn}
use Rattle.follower.specs.declared.frame.Frame.{Frame}
use Rattle.follower.specs.Changing.{with_part}
use Rattle.follower.specs.Images.{within, snapshot, image_after}

-- a part that lies in a text, and one that doesn't
pub replaced_in : (text : List ℕ) (part : Part) → part.at + part.removed ≤ length text → replaced text part ≡ Some (with_part text part)
replaced_in text part inside =
    ap (λ (b : Bool). if b then Some (take part.at text ++ part.inserted ++ drop (part.at + part.removed) text) else None) (le_true (part.at + part.removed) (length text) inside)
  where
    le_true : (a b : ℕ) → a ≤ b → nat_le a b ≡ true
    le_true a b le = grind (arith, nat_tests)

pub not_in : (text : List ℕ) (part : Part) → length text < part.at + part.removed → replaced text part ≡ None
not_in text part outside =
    ap (λ (b : Bool). if b then Some (take part.at text ++ part.inserted ++ drop (part.at + part.removed) text) else None) (le_false (part.at + part.removed) (length text) outside)
  where
    le_false : (a b : ℕ) → b < a → nat_le a b ≡ false
    le_false a b less = grind (arith, nat_tests)

-- one more of a list
pub pushed_more : (states old before made : List Latest) (i : ℕ) (x : Latest) → i < length states → x ≡ get_or states i x → before ≡ old ++ take i states → made ≡ before ++ x ∷ []
    → made ≡ old ++ take (i + 1) states
pushed_more states old before made i x less is so_far is_made =
    is_made ∙ ap (λ (l : List Latest). l ++ x ∷ []) so_far ∙ append_assoc old (take i states) (x ∷ [])
    ∙ ap (λ (l : List Latest). old ++ l) (ap (λ (y : Latest). take i states ++ y ∷ []) is ∙ sym (take_more states i x less))

-- import states up to one of a name, and past one of another
pub mark_here : (state : Latest) (states : List Latest) (i : ℕ) (x : Latest) → i < length states → x ≡ get_or states i x → same_name x state ≡ true → (before made : List Latest)
    → before ++ with_mark state (drop i states) ≡ with_mark state states → made ≡ before ++ state ∷ drop (i + 1) states → made ≡ with_mark state states
mark_here state states i x less is same before made so_far is_made =
    is_made
    ∙ ap (λ (l : List Latest). before ++ l)
    (sym (ap (with_mark state) (drop_more states i x less ∙ ap (λ (y : Latest). y ∷ drop (i + 1) states) (sym is))
    ∙ ap (λ (b : Bool). if b then state ∷ drop (i + 1) states else x ∷ with_mark state (drop (i + 1) states)) same))
    ∙ so_far

pub mark_past : (state : Latest) (states : List Latest) (i : ℕ) (x : Latest) → i < length states → x ≡ get_or states i x → same_name x state ≡ false → (before made : List Latest)
    → before ++ with_mark state (drop i states) ≡ with_mark state states → made ≡ before ++ x ∷ [] → made ++ with_mark state (drop (i + 1) states) ≡ with_mark state states
mark_past state states i x less is other before made so_far is_made =
    ap (λ (l : List Latest). l ++ with_mark state (drop (i + 1) states)) is_made ∙ append_assoc before (x ∷ []) (with_mark state (drop (i + 1) states))
    ∙ ap (λ (l : List Latest). before ++ l)
    (sym (ap (with_mark state) (drop_more states i x less ∙ ap (λ (y : Latest). y ∷ drop (i + 1) states) (sym is))
    ∙ ap (λ (b : Bool). if b then state ∷ drop (i + 1) states else x ∷ with_mark state (drop (i + 1) states)) other))
    ∙ so_far

pub mark_last : (state : Latest) (states : List Latest) (i : ℕ) → i ≡ length states → (before made : List Latest) → before ++ with_mark state (drop i states) ≡ with_mark state states
    → made ≡ before ++ state ∷ [] → made ≡ with_mark state states
mark_last state states i end before made so_far is_made =
    is_made ∙ ap (λ (l : List Latest). before ++ with_mark state l) (sym (nothing states i end)) ∙ so_far
  where
    nothing : (l : List Latest) (i : ℕ) → i ≡ length l → drop i l ≡ []
    nothing l i is = drop_all i l (omega (arith, is))

-- ---- the image after a frame

below : (revision : ℕ) → revision ≤ 2 ^ 62 → nat_le revision (2 ^ 62) ≡ true
below revision le = grind (arith, nat_tests)

above : (revision : ℕ) → 2 ^ 62 < revision → nat_le revision (2 ^ 62) ≡ false
above revision less = grind (arith, nat_tests)

pub within_is : (revision : ℕ) (content : Option Content) → revision ≤ 2 ^ 62 → within revision content ≡ at_revision revision content
within_is revision content le = ap (λ (b : Bool). if b then at_revision revision content else None) (below revision le)

pub not_within : (revision : ℕ) (content : Option Content) → 2 ^ 62 < revision → within revision content ≡ None
not_within revision content less = ap (λ (b : Bool). if b then at_revision revision content else None) (above revision less)

pub other_kind : (kind : ℕ) → (kind ≡ 67 → ⊥) → (kind == 67) ≡ false
other_kind kind differs = by_test (kind == 67) refl
  where
    same : (n : ℕ) → (n == 67) ≡ true → n ≡ 67
    same n is = grind (arith, nat_tests)

    by_test : (t : Bool) → (kind == 67) ≡ t → t ≡ false
    by_test true is = absurd (differs (same kind is))
    by_test false is = refl

abbrev content_after : Image → Frame → Option Content
content_after image frame = changed (content_in image) (record { at = 0; kind = frame.kind; payload = frame.payload })

module _ (image : Image) (frame : Frame) (other : frame.kind ≡ 67 → ⊥) where
  pub after_change : image_after image frame ≡ within frame.revision (changed (content_in image) (record { at = 0; kind = frame.kind; payload = frame.payload }))
  after_change =
      ap (λ (b : Bool). if b then snapshot frame else within frame.revision (changed (content_in image) (record { at = 0; kind = frame.kind; payload = frame.payload }))) (other_kind frame.kind other)

  pub late_change : 2 ^ 62 < frame.revision → image_after image frame ≡ None
  late_change less = after_change ∙ not_within frame.revision (content_after image frame) less

  module _ (small : frame.revision ≤ 2 ^ 62) (next : frame.revision ≡ image.revision + 1) where
    pub unread_change : IsChangeIn frame.kind frame.payload None → image_after image frame ≡ None
    unread_change none = after_change ∙ within_is frame.revision (content_after image frame) small ∙ ap (at_revision frame.revision) (none (content_in image) 0)

    pub change_is : (change : Change) → IsChangeIn frame.kind frame.payload (Some change) → image_after image frame ≡ edited image change
    change_is change reads =
        after_change ∙ within_is frame.revision (content_after image frame) small ∙ (λ i. at_revision (next i) (reads.0 (content_in image) 0 i))

pub after_snapshot : (image : Image) (frame : Frame) → frame.kind ≡ 67 → image_after image frame ≡ snapshot frame
after_snapshot image frame is =
    ap (λ (n : ℕ). if n == 67 then snapshot frame else within frame.revision (changed (content_in image) (record { at = 0; kind = frame.kind; payload = frame.payload }))) is
