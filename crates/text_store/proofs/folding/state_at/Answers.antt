use Rattle.std.proofs.Common.{◌≡◌, ◌∙◌, ◌+◌, ◌-◌, true, take, drop, sym, ap, subst, arith, length, length-take, List, ℕ}
use Rattle.std.specs.Str.{is_utf8, IsUtf8}
use Rattle.std.proofs.lemmas.Str.{is_utf8-from_IsUtf8}
use Rattle.text_store.proofs.Splicing.{state_is, not_text, not_utf8}
use Rattle.text_store.proofs.folding.state_at.Goals as goal

pub returns-in_default : goal.returns-in_default
returns-in_default c =
    let file = c.args.bytes.now in
    let at = c.args.at in
    let size = c.short_number_at-size.result in
    let width : at + 4 + size - (at + 4) ≡ size = omega arith in
    not_text file at size (omega (arith, c.if-bytes-at-lt12.false, c.if-size-bytes.false)) c.short_number_at-size.ensures
    (not_utf8 (take size (drop (at + 4) file)) (subst (λ (n : ℕ). IsUtf8 (take n (drop (at + 4) file)) → ⊥) width c.in_default.ensures.cases.0))

pub returns : goal.returns
returns c =
    let file = c.args.bytes.now in
    let at = c.args.at in
    let size = c.short_number_at-size.result in
    let width : at + 4 + size - (at + 4) ≡ size = omega arith in
    let is_name : c.in_ok-copied.field-0 ≡ take size (drop (at + 4) file) =
    c.in_ok-copied.ensures ∙ c.in-Ok.ensures.cases.0 ∙ ap (λ (n : ℕ). take n (drop (at + 4) file)) width in
    let good : is_utf8 c.in_ok-copied.field-0 ≡ true =
    is_utf8-from_IsUtf8 c.in_ok-copied.field-0 (subst (λ (l : List ℕ). IsUtf8 l) (sym (c.in_ok-copied.ensures ∙ c.in-Ok.ensures.cases.0)) c.in-Ok.ensures.cases.1) in (
      state_is file at size (omega (arith, c.if-bytes-at-lt12.false, c.if-size-bytes.false)) c.short_number_at-size.ensures c.in_ok-copied.field-0 c.short_number_at.result c.short_number_at-2.result
          is_name good c.short_number_at.ensures c.short_number_at-2.ensures,
      omega (arith, c.if-bytes-at-lt12.false, c.if-size-bytes.false),
      omega (arith, ap length is_name, length-take size (drop (at + 4) file), c.short_number_at-size.type_inv),
    )
