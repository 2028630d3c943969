-- The state of an import among those of others.
use Rattle.std.proofs.Common.{◌≡◌, ℕ, suc, ◌+◌, ◌<◌, Bool, true, false, cond, List, [], ◌∷◌, length, get_or, drop, Option, Some, if◌then◌else◌, refl, sym, ap, ◌∙◌, arith}
use Rattle.std.proofs.lemmas.List.{drop_more}
use Rattle.std.specs.Str.{bytes_eq}
use Rattle.std.proofs.lemmas.Slice.Eq.{bytes_eq-Decides}
use Rattle.hl_base.specs.declared.change.Latest.{Latest}
use Rattle.text_store.specs.Image.{same_name, with_mark}
use Rattle.desk.specs.Imports.{state_named}

itself : (name : List ℕ) → bytes_eq name name ≡ true
itself name = (bytes_eq-Decides name name).1 refl

here : (name : List ℕ) (state : Latest) (states : List Latest) → bytes_eq state.name name ≡ true → state_named name (state ∷ states) ≡ Some state
here name state states is = ap (λ (b : Bool). cond b (Some state) (state_named name states)) is

past : (name : List ℕ) (state : Latest) (states : List Latest) → bytes_eq state.name name ≡ false → state_named name (state ∷ states) ≡ state_named name states
past name state states is = ap (λ (b : Bool). cond b (Some state) (state_named name states)) is

-- a state that is put among others is found under its name
pub named_with : (mark : Latest) (states : List Latest) → state_named mark.name (with_mark mark states) ≡ Some mark
named_with mark [] = here mark.name mark [] (itself mark.name)
named_with mark (k ∷ states) = by_name (same_name k mark) refl (named_with mark states)
  where
    by_name : (b : Bool) → same_name k mark ≡ b → state_named mark.name (with_mark mark states) ≡ Some mark → state_named mark.name (if b then mark ∷ states else k ∷ with_mark mark states) ≡ Some mark
    by_name true is rest = here mark.name mark states (itself mark.name)
    by_name false is rest = past mark.name k (with_mark mark states) is ∙ rest

-- and under another name stands what stood there
pub named_other : (name : List ℕ) (mark : Latest) (states : List Latest) → bytes_eq mark.name name ≡ false → state_named name (with_mark mark states) ≡ state_named name states
named_other name mark [] other = past name mark [] other
named_other name mark (k ∷ states) other = by_name (same_name k mark) refl (named_other name mark states other)
  where
    by_name : (b : Bool) → same_name k mark ≡ b → state_named name (with_mark mark states) ≡ state_named name states → state_named name (if b then mark ∷ states else k ∷ with_mark mark states) ≡ state_named name (k ∷ states)
    by_name true is rest =
        let names : k.name ≡ mark.name = (bytes_eq-Decides k.name mark.name).0 is in
        past name mark states other ∙ sym (past name k states (ap (λ (n : List ℕ). bytes_eq n name) names ∙ other))
    by_name false is rest = ap (λ (o : Option Latest). cond (bytes_eq k.name name) (Some k) o) rest

-- a state of that name stands there
pub mark_here : (mark : Latest) (states : List Latest) (i : ℕ) (x : Latest) → i < length states → x ≡ get_or states i x → same_name x mark ≡ true
    → with_mark mark (drop i states) ≡ mark ∷ drop (suc i) states
mark_here mark states i x less is same =
    ap (with_mark mark) (drop_more states i x less ∙ ap (λ (y : Latest). y ∷ drop (i + 1) states) (sym is))
    ∙ ap (λ (b : Bool). if b then mark ∷ drop (i + 1) states else x ∷ with_mark mark (drop (i + 1) states)) same
    ∙ ap (λ (n : ℕ). mark ∷ drop n states) (let e : i + 1 ≡ suc i = omega arith in e)
