-- Frames as they are read, and images that can be written again.
use Rattle.std.proofs.Common.{◌≡◌, ◌∙◌, ℕ, ◌+◌, ◌^◌, ◌<◌, ◌≤◌, Bool, true, false, nat_lt, if◌then◌else◌, List, [], length, Option, None, Some, IfSome, Result, Ok, Err, OnOk, OnErr, refl, sym, ap, subst, arith}
use Rattle.std.proofs.lemmas.Bool.Decides.{nat_tests}
use Rattle.hl_base.specs.declared.change.Latest.{Latest}
use Rattle.hl_base.specs.declared.change.Splice.{Splice as Part}
use Rattle.text_store.specs.declared.change.Change.{Change}
use Rattle.text_store.specs.declared.change.Change.TheVariants.{Splice, Whole, Import}
use Rattle.text_store.specs.declared.image.Image.{Image}
use Rattle.text_store.specs.Changes.{HasShortName}
use Rattle.text_store.specs.Edits.{replaced, edited, edited_content, content_in, at_revision, whole_size}
use Rattle.text_store.specs.Files.{AreWritable, IsWritable}
use Rattle.text_store.specs.Image.{Content, with_mark, with_text, checkpointed}
use Rattle.text_store.specs.Parsed.{IsChangeIn, IsImageIn}
use Rattle.text_store.proofs.Growing.{none_some, content_edited}
use Rattle.text_store.proofs.Sizes.{payload_size}
use Rattle.text_store.proofs.Walking.{mark_writable}
use Rattle.follower.specs.declared.frame.Frame.{Frame}
use Rattle.follower.specs.declared.puts.Next.{Next}
use Rattle.follower.specs.Changing.{states_or, text_after, with_next, with_parts}
use Rattle.follower.specs.Images.{snapshot, image_after}
use Rattle.follower.proofs.Texts.{within_is, change_is, unread_change}

-- ---- snapshots

pub snapshot_read : (frame : Frame) (found : Option Image) → frame.revision ≤ 2 ^ 62 → IsImageIn frame.payload frame.revision found → found ≡ snapshot frame
snapshot_read frame None small is = sym (within_is frame.revision (checkpointed frame.payload) small ∙ ap (at_revision frame.revision) is)
snapshot_read frame (Some image) small is =
    sym (within_is frame.revision (checkpointed frame.payload) small ∙ ap (at_revision frame.revision) is.0
    ∙ (λ i. Some (record { text = image.text; latest = image.latest; revision = sym is.1 i })))

pub snapshot_good : (frame : Frame) (found : Option Image) → frame.revision ≤ 2 ^ 62 → IsImageIn frame.payload frame.revision found
    → IfSome found (λ image. IsWritable image × (image.revision ≤ 2 ^ 62) × (image.revision ≡ frame.revision))
snapshot_good frame None small is = tt
snapshot_good frame (Some image) small is = (is.2, omega (arith, is.1, small), is.1)

-- a snapshot's image has the length of its payload
pub snapshot_size : (frame : Frame) (shown : Image) → snapshot frame ≡ Some shown → frame.revision ≤ 2 ^ 62 → whole_size shown ≡ 43 + length frame.payload
snapshot_size frame shown is small = by_content (checkpointed frame.payload) refl (sym (within_is frame.revision (checkpointed frame.payload) small) ∙ is)
  where
    size_in : Option Image → ℕ
    size_in None = 0
    size_in (Some image) = whole_size image

    by_content : (o : Option Content) → checkpointed frame.payload ≡ o → at_revision frame.revision o ≡ Some shown → whole_size shown ≡ 43 + length frame.payload
    by_content None reads made = none_some shown made
    by_content (Some content) reads made = omega (arith, payload_size frame.payload content reads, ap size_in made)

-- ---- changes

module _ (image : Image) (frame : Frame) (other : frame.kind ≡ 67 → ⊥) (small : frame.revision ≤ 2 ^ 62) (next : frame.revision ≡ image.revision + 1) (payload : List ℕ) (same : payload ≡ frame.payload) where
  pub unread : IsChangeIn frame.kind payload None → image_after image frame ≡ None
  unread none = unread_change image frame other small next (subst (λ (l : List ℕ). IsChangeIn frame.kind l None) same none)

  pub is_edit : (change : Change) → IsChangeIn frame.kind payload (Some change) → image_after image frame ≡ edited image change
  is_edit change reads = change_is image frame other small next change (subst (λ (l : List ℕ). IsChangeIn frame.kind l (Some change)) same reads)

module _ (image : Image) (state : Latest) (part : Part) where
  counted : (b : Bool) → nat_lt (length (with_mark state image.latest)) (2 ^ 32) ≡ b
      → edited image (Import state part) ≡ at_revision (image.revision + 1) (if b then with_text (with_mark state image.latest) (replaced image.text part) else None)
  counted b is = ap (λ (b : Bool). at_revision (image.revision + 1) (if b then with_text (with_mark state image.latest) (replaced image.text part) else None)) is

  pub import_full : 2 ^ 32 ≤ length (with_mark state image.latest) → edited image (Import state part) ≡ None
  import_full many = counted false (not_below (length (with_mark state image.latest)) many)
    where
      not_below : (n : ℕ) → 2 ^ 32 ≤ n → nat_lt n (2 ^ 32) ≡ false
      not_below n many = grind (arith, nat_tests)

  pub import_made : length (with_mark state image.latest) < 2 ^ 32
      → edited image (Import state part) ≡ at_revision (image.revision + 1) (with_text (with_mark state image.latest) (replaced image.text part))
  import_made few = counted true (below (length (with_mark state image.latest)) few)
    where
      below : (n : ℕ) → n < 2 ^ 32 → nat_lt n (2 ^ 32) ≡ true
      below n few = grind (arith, nat_tests)

-- ---- what can be written

states_of : (latest : List Latest) (o : Option (List ℕ)) (after : Content) → with_text latest o ≡ Some after → after.latest ≡ latest
states_of latest None after is = none_some after is
states_of latest (Some text) after is = sym (ap back is)
  where
    back : Option Content → List Latest
    back None = latest
    back (Some content) = content.latest

content_writable : (content : Content) (change : Change) (after : Content) → edited_content content change ≡ Some after → HasShortName change → AreWritable content.latest → AreWritable after.latest
content_writable content (Splice part) after is short writable =
    subst (λ (l : List Latest). AreWritable l) (sym (states_of content.latest (replaced content.text part) after is)) writable
content_writable content (Whole text) after is short writable = subst (λ (l : List Latest). AreWritable l) (sym (states_of content.latest (Some text) after is)) writable
content_writable content (Import state part) after is short writable = by_count (nat_lt (length (with_mark state content.latest)) (2 ^ 32)) refl is
  where
    below : (n : ℕ) → nat_lt n (2 ^ 32) ≡ true → n < 2 ^ 32
    below n few = grind (arith, nat_tests)

    by_count : (b : Bool) → nat_lt (length (with_mark state content.latest)) (2 ^ 32) ≡ b
        → (if b then with_text (with_mark state content.latest) (replaced content.text part) else None) ≡ Some after → AreWritable after.latest
    by_count true few is =
        let same = states_of (with_mark state content.latest) (replaced content.text part) after is in
        mark_writable state content.latest after.latest same short (omega (arith, ap (λ (l : List Latest). length l) same, below (length (with_mark state content.latest)) few)) writable
    by_count false few is = none_some after is

pub writable_edited : (image : Image) (change : Change) (next : Image) → edited image change ≡ Some next → HasShortName change → IsWritable image → IsWritable next
writable_edited image change next is short writable =
    let after = content_writable (content_in image) change (content_in next) (content_edited (image.revision + 1) (edited_content (content_in image) change) next is).0 short
    (writable.few, writable.short, writable.own) in
    record { few = after.0; short = after.1; own = after.2 }

-- an image that a change was made in, or that stays
pub kept_writable : {T E : Type 0} (r : Result T E) (old next new : Image) → OnOk r (new ≡ next) → OnErr r (new ≡ old) → IsWritable next → IsWritable old → IsWritable new
kept_writable (Ok v) old next new made same good was = subst (λ (i : Image). IsWritable i) (sym made) good
kept_writable (Err e) old next new made same good was = subst (λ (i : Image). IsWritable i) (sym same) was

-- an image whose text was taken out, and given back with a change made in it
pub put_image : (old left new : Image) (change : Change) (next : Next) (taken text : List ℕ) → left ≡ record old { text = [] } → taken ≡ old.text → text ≡ text_after change taken
    → new ≡ with_parts left text next → new ≡ with_next old change next
put_image old left new change next taken text is_left is_taken is_text is_new =
    let made : text ≡ text_after change old.text = is_text ∙ ap (λ (l : List ℕ). text_after change l) is_taken in
    is_new ∙ (λ i. record { text = made i; latest = states_or next.latest (is_left i).latest; revision = (is_left i).revision + 1 })

-- or given back as it was
pub put_back : (old left : Image) (taken text given : List ℕ) → left ≡ record old { text = [] } → taken ≡ old.text → text ≡ taken → given ≡ text → record left { text = given } ≡ old
put_back old left taken text given is_left is_taken is_text is_given =
    let same : given ≡ old.text = is_given ∙ is_text ∙ is_taken in
    (λ i. record { text = same i; latest = (is_left i).latest; revision = (is_left i).revision })
