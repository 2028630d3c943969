-- An image that can be written stays so over a change.
use Rattle.std.proofs.Common.{◌≡◌, ℕ, ◌+◌, ◌<◌, ◌^◌, Bool, true, false, not, ◌||◌, nat_lt, List, [], ◌∷◌, length, if◌then◌else◌, Option, Some, None, refl, sym, ◌∙◌, ap, subst, arith}
use Rattle.std.specs.Str.{bytes_eq}
use Rattle.std.specs.List.{list_any}
use Rattle.std.proofs.lemmas.Bool.Decides.{nat_tests}
use Rattle.std.proofs.lemmas.Bool.{and_parts, and_from}
use Rattle.std.proofs.lemmas.Slice.Eq.{bytes_eq-Decides}
use Rattle.hl_base.specs.declared.change.Latest.{Latest}
use Rattle.text_store.specs.declared.change.Change.{Change}
use Rattle.text_store.specs.declared.change.Change.TheVariants.{Splice, Whole, Import}
use Rattle.text_store.specs.declared.image.Image.{Image}
use Rattle.text_store.specs.Changes.{HasShortName}
use Rattle.text_store.specs.Edits.{edited, edited_content, content_in, replaced}
use Rattle.text_store.specs.Files.{HaveShortNames, AreWritable, IsWritable}
use Rattle.text_store.specs.Image.{Content, same_name, with_mark, with_text, have_own_names}
use Rattle.text_store.proofs.Growing.{none_some, content_edited}

same_for : (m k state : Latest) → m.name ≡ k.name → same_name m state ≡ same_name k state
same_for m k state is = ap (λ (name : List ℕ). bytes_eq name state.name) is

any_for : (m k : Latest) (states : List Latest) → m.name ≡ k.name → list_any (same_name m) states ≡ list_any (same_name k) states
any_for m k [] is = refl
any_for m k (s ∷ states) is = λ i. same_for m k s is i || any_for m k states is i

names_same : (a b : Latest) → same_name a b ≡ true → a.name ≡ b.name
names_same a b is = (bytes_eq-Decides a.name b.name).0 is

-- a name that a state doesn't have stands among the others as before
any_with : (m state : Latest) (states : List Latest) → same_name m state ≡ false → list_any (same_name m) (with_mark state states) ≡ list_any (same_name m) states
any_with m state [] other = ap (λ (b : Bool). b || false) other
any_with m state (k ∷ states) other = by_name (same_name k state) refl (any_with m state states other)
  where
    by_name : (b : Bool) → same_name k state ≡ b → list_any (same_name m) (with_mark state states) ≡ list_any (same_name m) states
        → list_any (same_name m) (if b then state ∷ states else k ∷ with_mark state states) ≡ (same_name m k || list_any (same_name m) states)
    by_name true is rest = ap (λ (name : List ℕ). bytes_eq m.name name || list_any (same_name m) states) (sym (names_same k state is))
    by_name false is rest = ap (λ (b : Bool). same_name m k || b) rest

pub own_with : (state : Latest) (states : List Latest) → have_own_names states ≡ true → have_own_names (with_mark state states) ≡ true
own_with state [] own = refl
own_with state (k ∷ states) own =
    let parts = and_parts (not (list_any (same_name k) states)) (have_own_names states) own in
    by_name (same_name k state) refl parts.0 parts.1 (own_with state states parts.1)
  where
    by_name : (b : Bool) → same_name k state ≡ b → not (list_any (same_name k) states) ≡ true → have_own_names states ≡ true → have_own_names (with_mark state states) ≡ true
        → have_own_names (if b then state ∷ states else k ∷ with_mark state states) ≡ true
    by_name true is none own rest =
        and_from (not (list_any (same_name state) states)) (have_own_names states) (ap not (any_for state k states (sym (names_same k state is))) ∙ none) own
    by_name false is none own rest =
        and_from (not (list_any (same_name k) (with_mark state states))) (have_own_names (with_mark state states)) (ap not (any_with k state states is) ∙ none) rest

pub short_with : (state : Latest) (states : List Latest) → length state.name < 2 ^ 32 → HaveShortNames states → HaveShortNames (with_mark state states)
short_with state [] short are = (short, tt)
short_with state (k ∷ states) short are = by_name (same_name k state) (short_with state states short are.1)
  where
    by_name : (b : Bool) → HaveShortNames (with_mark state states) → HaveShortNames (if b then state ∷ states else k ∷ with_mark state states)
    by_name true rest = (short, are.1)
    by_name false rest = (are.0, rest)

with_text_latest : (latest : List Latest) (o : Option (List ℕ)) (content : Content) → with_text latest o ≡ Some content → latest ≡ content.latest
with_text_latest latest None content is = none_some content is
with_text_latest latest (Some text) content is = ap (λ (x : Option Content). back x) is
  where
    back : Option Content → List Latest
    back (Some c) = c.latest
    back None = latest

states_kept : (content next : Content) (change : Change) → HasShortName change → AreWritable content.latest → edited_content content change ≡ Some next → AreWritable next.latest
states_kept content next (Splice part) short are is =
    subst (λ (l : List Latest). AreWritable l) (with_text_latest content.latest (replaced content.text part) next is) are
states_kept content next (Whole text) short are is =
    subst (λ (l : List Latest). AreWritable l) (with_text_latest content.latest (Some text) next is) are
states_kept content next (Import state part) short are is = by_count (nat_lt (length (with_mark state content.latest)) (2 ^ 32)) refl is
  where
    by_count : (b : Bool) → nat_lt (length (with_mark state content.latest)) (2 ^ 32) ≡ b
        → (if b then with_text (with_mark state content.latest) (replaced content.text part) else None) ≡ Some next → AreWritable next.latest
    by_count false few is = none_some next is
    by_count true few is =
        subst (λ (l : List Latest). AreWritable l) (with_text_latest (with_mark state content.latest) (replaced content.text part) next is)
        (below (length (with_mark state content.latest)) few, short_with state content.latest short are.1, own_with state content.latest are.2)
      where
        below : (n : ℕ) → nat_lt n (2 ^ 32) ≡ true → n < 2 ^ 32
        below n is = grind (arith, nat_tests)

-- fewer than 2^32 states whose names differ and are short, also after a change
pub edited_writable : (shown next : Image) (change : Change) → HasShortName change → IsWritable shown → edited shown change ≡ Some next → IsWritable next
edited_writable shown next change short writable is =
    let kept = states_kept (content_in shown) (content_in next) change short (writable.few, writable.short, writable.own)
    (content_edited (shown.revision + 1) (edited_content (content_in shown) change) next is).0 in
    record { few = kept.0; short = kept.1; own = kept.2 }
